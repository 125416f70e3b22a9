use Rattle.std.proofs.Common.{sym, ap, ◌∙◌, ◌++◌, ◌∷◌, [], vec_capacity, arith}
use Rattle.hl_model.proofs.Placed.{take_more, never_none}
use Rattle.hl_laws.proofs.base.refill_waiting.Goals.{in-Some, in_default}
use Rattle.hl_laws.proofs.base.refill_waiting.Goals as goal

pub loop-n-preserved : goal.loop-n-preserved
loop-n-preserved g c =
    let told = (g.Q.Quantities.tells c.args.quantities.now).waiting in
    let n = c.loop-n.n in
    elim c.match-waiting_at.branch [
      | in-Some w ↦
          let here = sym c.waiting_at.ensures ∙ w.in-Some.is in (
            ap (λ row. row.items) w.row-is ∙ w.push_reserved.ensures.items ∙ ap (λ xs. xs ++ w.in-Some.waiting ∷ []) c.loop-n.invariant.0 ∙ take_more told n w.in-Some.waiting here,
            ap vec_capacity w.row-is ∙ w.push_reserved.ensures.capacity ∙ c.loop-n.invariant.1,
          )
      | in_default w ↦
          absurd (never_none told n (omega (arith, c.loop-n-test.true, c.waiting_count-n-end.ensures)) (sym c.waiting_at.ensures ∙ w.in_default.is))
    ]
