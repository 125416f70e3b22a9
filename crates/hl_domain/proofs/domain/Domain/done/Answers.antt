use Rattle.hl_model.specs.declared.step.Step.TheVariants.{Done}
use Rattle.hl_keeper.specs.Calls.{without_back}
use Rattle.hl_domain.proofs.DomainLaws.{may_note, met_held, noted_behind, one_step, rider_left, shares_alone}
use Rattle.hl_domain.proofs.domain.Domain.done.Goals as goal

pub note-requires : goal.note-requires
note-requires g c = may_note (one_step (λ _. Done c.args.ran.ticket) c.deref_mut-2.invariant c.journal-before.ensures c.done-answer.ensures.keeps.0 c.done-answer.ensures.made)

pub invariant_of-deref_mut : goal.invariant_of-deref_mut
invariant_of-deref_mut g c = noted_behind (one_step (λ _. Done c.args.ran.ticket) c.deref_mut-2.invariant c.journal-before.ensures c.done-answer.ensures.keeps.0 c.done-answer.ensures.made) c.note.ensures.keeper c.note.ensures.list

pub returns-clause-met : goal.returns-clause-met
returns-clause-met g c =
    let e = c.done-answer.ensures in
    rider_left (Done c.args.ran.ticket) c.args.rider.now (without_back c.done-answer.result) (one_step (λ _. Done c.args.ran.ticket) (met_held c.lock-guard.ensures c.deref_mut.ensures.value c.deref_mut-2.view_is) c.journal-before.ensures e.keeps.0 e.made) (shares_alone c.done-answer.result 1 _ _ e.rider) c.note.ensures.rider c.note.ensures.rises (e.made, e.keeps)
