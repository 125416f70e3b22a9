use Rattle.std.proofs.Common.{◌≡◌, length, rules}
use Rattle.hl_words.specs.States.{with_view}
use Rattle.hl_keeper.specs.Pages.{first_cell, loaded_all}
use Rattle.hl_images.proofs.CopyLaws.{copied}
use Rattle.hl_images.proofs.copying.copy_next.Goals as goal

pub returns-in-Ok-copy_page-clause-copied : goal.returns-in-Ok-copy_page-clause-copied
returns-in-Ok-copy_page-clause-copied g c =
    let mid = c.flush_take.new.rider in
    let image = c.copy_page.new.out in
    let places : length image ≡ c.args.domain.now.sizes.page_size = search rules in
    let loads : c.copy_page.new.rider ≡ with_view (loaded_all (first_cell c.args.domain.now.sizes c.in-Ok.load.page) image mid.view) mid = search rules in
    copied c.args.rider.now mid c.in-Ok.load image c.copy_page.new.rider c.in-Ok.ensures.met places loads
