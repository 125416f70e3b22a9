use Rattle.std.proofs.Common.{[], ◌∷◌}
use Rattle.hl_model.specs.declared.step.Step.TheVariants.{Take}
use Rattle.hl_domain.proofs.DomainLaws.{may_note, met_held, noted_behind, one_step, rider_left, told}
use Rattle.hl_domain.proofs.domain.Domain.take.Goals as goal

pub note-requires : goal.note-requires
note-requires g c = may_note (told c.take-answer.result (Take ∷ []) (one_step (λ _. Take) c.deref_mut-2.invariant c.journal-before.ensures c.take-answer.ensures.stays c.take-answer.ensures.made))

pub invariant_of-deref_mut : goal.invariant_of-deref_mut
invariant_of-deref_mut g c = noted_behind (told c.take-answer.result (Take ∷ []) (one_step (λ _. Take) c.deref_mut-2.invariant c.journal-before.ensures c.take-answer.ensures.stays c.take-answer.ensures.made)) c.note.ensures.keeper c.note.ensures.list

pub returns : goal.returns
returns g c =
    let e = c.take-answer.ensures in
    record { met = rider_left Take c.args.rider.now c.take-answer.result (told c.take-answer.result (Take ∷ []) (one_step (λ _. Take) (met_held c.lock-guard.ensures c.deref_mut.ensures.value c.deref_mut-2.view_is) c.journal-before.ensures e.stays e.made)) e.rider c.note.ensures.rider c.note.ensures.rises (e.made, e.stays, e.out, e.refused) }
