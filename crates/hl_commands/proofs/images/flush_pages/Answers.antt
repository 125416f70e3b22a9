use Rattle.std.proofs.Common.{◌≡◌, arith, refl, sym, ap, ◌∙◌, subst}
use Rattle.std.specs.Io.KnownBytes.{Appends}
use Rattle.std.proofs.lemmas.Grind.{common_steps}
use Rattle.hl_model.specs.Sizes.{Sizes}
use Rattle.hl_flush.specs.Unflushed.{image_lines}
use Rattle.hl_commands.proofs.ImageLaws.{flushing_start, flushing_next, flushing_none, flushing_spent}
use Rattle.hl_commands.proofs.images.flush_pages.Goals as goal

pub loop-turn-init : goal.loop-turn-init
loop-turn-init g c = (grind (arith, common_steps), λ A stands. flushing_start c.args.engine A (g.W.Write.contents c.args.pages.now.writer) stands)

pub returns-in-Err-NoneSealed-clause-images : goal.returns-in-Err-NoneSealed-clause-images
returns-in-Err-NoneSealed-clause-images g c A stands =
    let so_far = c.loop-turn.invariant.1 A stands in
    let e = rw c.in-Err-NoneSealed.field-0-is at c.in-Err-NoneSealed.ensures in
    subst (λ w. Appends (g.W.Write.contents c.args.pages.now.writer) (g.W.Write.contents w.writer) (image_lines c.args.engine.core.sizes A)) (sym (e.unchanged refl).1)
    (flushing_none _ _ _ _ _ _ so_far (e.flushes so_far.steps so_far.standing))

pub loop-turn-preserved : goal.loop-turn-preserved
loop-turn-preserved g c = (
  grind (arith, common_steps),
  λ A stands.
      let so_far = c.loop-turn.invariant.1 A stands in
      flushing_next _ _ _ _ _ _ so_far _ c.flush_one.new.engine c.loop-turn.pages c.flush_one.new.writer _ c.in-Ok.field-0 (c.in-Ok.ensures.flushes so_far.steps so_far.standing) c.in-Ok.ensures.sizes (λ bytes wrote. wrote),
)

pub returns-clause-images : goal.returns-clause-images
returns-clause-images g c A stands =
    let so_far = c.loop-turn.invariant.1 A stands in
    let frames : c.frames-turn-end.result ≡ c.args.engine.core.sizes.frames = c.frames-turn-end.ensures.value ∙ ap (λ (s : Sizes). s.frames) c.params-params.ensures.value in
    flushing_spent _ _ _ _ _ _ so_far (omega (arith, frames, c.loop-turn-test.false))
