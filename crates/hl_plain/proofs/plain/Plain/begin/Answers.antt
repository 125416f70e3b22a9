use Rattle.std.proofs.Common.{List, length, arith, sym, ap, subst}
use Rattle.hl_model.specs.declared.step.Step.{Step}
use Rattle.hl_plain.specs.Histories.{IsHistory}
use Rattle.hl_plain.specs.Kept.{IsAt, IsNear}
use Rattle.hl_plain.proofs.plain.Plain.begin.Goals as goal

pub invariant_of-result : goal.invariant_of-result
invariant_of-result c =
    let none = sym c.in_ok-steps.ensures.empty in
    record {
      history = subst (λ (L : List Step). IsHistory (record { base = c.args.base; steps = L; has_words = c.args.has_words })) none c.requires.history;
      at = subst (λ (L : List Step). IsAt c.args.base L c.in_ok-near.near) none c.in_ok-near.ensures.at;
      near = subst (λ (L : List Step). IsNear L c.in_ok-near.near) none c.in_ok-near.ensures.near;
      few = omega (arith, ap length none);
      steps_room = omega (arith, c.in_ok-steps.ensures.room, c.requires.room);
    }
