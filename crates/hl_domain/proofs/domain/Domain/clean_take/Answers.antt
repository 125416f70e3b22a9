use Rattle.hl_model.specs.declared.step.Step.TheVariants.{CleanTake}
use Rattle.hl_domain.proofs.DomainLaws.{may_note, met_held, noted_behind, one_step, rider_left}
use Rattle.hl_domain.proofs.domain.Domain.clean_take.Goals as goal

pub note-requires : goal.note-requires
note-requires g c = may_note (one_step (λ _. CleanTake) c.deref_mut-2.invariant c.journal-before.ensures c.clean_take-answer.ensures.keeps.0 c.clean_take-answer.ensures.made)

pub invariant_of-deref_mut : goal.invariant_of-deref_mut
invariant_of-deref_mut g c = noted_behind (one_step (λ _. CleanTake) c.deref_mut-2.invariant c.journal-before.ensures c.clean_take-answer.ensures.keeps.0 c.clean_take-answer.ensures.made) c.note.ensures.keeper c.note.ensures.list

pub returns : goal.returns
returns g c =
    let e = c.clean_take-answer.ensures in
    record { met = rider_left CleanTake c.args.rider.now c.clean_take-answer.result (one_step (λ _. CleanTake) (met_held c.lock-guard.ensures c.deref_mut.ensures.value c.deref_mut-2.view_is) c.journal-before.ensures e.keeps.0 e.made) e.rider c.note.ensures.rider c.note.ensures.rises (e.made, e.keeps) }
