use Rattle.std.proofs.Common.{◌≡◌, length, rules}
use Rattle.hl_words.specs.States.{with_view}
use Rattle.hl_words.specs.Views.{told}
use Rattle.hl_keeper.specs.Pages.{first_cell, loaded_all}
use Rattle.hl_images.proofs.CopyLaws.{copied_told}
use Rattle.hl_images.proofs.pair.copy_for_flusher.Goals as goal

pub returns-in-Ok-clause-copied : goal.returns-in-Ok-clause-copied
returns-in-Ok-clause-copied g c =
    let sizes = c.args.domain.now.sizes in
    let old = c.args.copier.now in
    let image = c.copy_page.new.out in
    let places : length image ≡ sizes.page_size = search rules in
    let loads : c.past.new.rider ≡ with_view (loaded_all (first_cell sizes c.args.job.page) image (told c.args.past old.view)) old = search rules in
    copied_told sizes c.args.job.page image c.args.past old c.past.new.rider places loads
