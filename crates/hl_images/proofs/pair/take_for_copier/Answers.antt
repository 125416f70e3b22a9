use Rattle.std.proofs.Common.{sym, subst}
use Rattle.hl_words.specs.States.{RiderState}
use Rattle.hl_images.specs.Pairs.{HasTaken}
use Rattle.hl_images.proofs.CopyLaws.{taken}
use Rattle.hl_images.proofs.pair.take_for_copier.Goals as goal

pub returns-in-Ok-clause-taken : goal.returns-in-Ok-clause-taken
returns-in-Ok-clause-taken g c =
    let sizes = c.args.domain.now.sizes in
    let mid = c.flush_take.new.rider in
    let h = taken c.args.flusher.now mid c.in-Ok.load c.in-Ok.ensures.met in
    (h.0, subst (λ (q : RiderState). HasTaken sizes c.in-Ok.load.page h.0 q) (sym c.past-past.ensures.same) h.1)
