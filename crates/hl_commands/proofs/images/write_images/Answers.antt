use Rattle.std.proofs.Common.{rules, ap}
use Rattle.hl_commands.proofs.ImageLaws.{lent_appended}
use Rattle.hl_commands.proofs.images.write_images.Goals as goal

pub returns-clause-images : goal.returns-clause-images
returns-clause-images g c A stands =
    let wrote = rw c.new-pages.ensures at (c.flush_pages-ended.ensures.images A stands) in
    lent_appended c.flush_pages-ended.result _ _ _ _ _ _ (rw (← c.into_inner-back.ensures) at wrote) (λ same. ap g.W.Write.contents (search rules))
