use Rattle.hl_model.specs.declared.step.Step.TheVariants.{Shift}
use Rattle.hl_domain.proofs.DomainLaws.{may_note, met_held, noted_behind, one_step, rider_left}
use Rattle.hl_domain.proofs.domain.Domain.shift.Goals as goal

pub note-requires : goal.note-requires
note-requires g c = may_note (one_step (λ _. Shift c.args.x) c.deref_mut-2.invariant c.journal-before.ensures c.shift-answer.ensures.keeps.0 c.shift-answer.ensures.made)

pub invariant_of-deref_mut : goal.invariant_of-deref_mut
invariant_of-deref_mut g c = noted_behind (one_step (λ _. Shift c.args.x) c.deref_mut-2.invariant c.journal-before.ensures c.shift-answer.ensures.keeps.0 c.shift-answer.ensures.made) c.note.ensures.keeper c.note.ensures.list

pub returns-clause-met : goal.returns-clause-met
returns-clause-met g c =
    let e = c.shift-answer.ensures in
    rider_left (Shift c.args.x) c.args.rider.now c.shift-answer.result (one_step (λ _. Shift c.args.x) (met_held c.lock-guard.ensures c.deref_mut.ensures.value c.deref_mut-2.view_is) c.journal-before.ensures e.keeps.0 e.made) e.rider c.note.ensures.rider c.note.ensures.rises (e.made, e.keeps)
