use Rattle.hl_core.specs.Steps.{asking}
use Rattle.hl_keeper.specs.Keepers.{job_tag}
use Rattle.hl_keeper.specs.Calls.{without_back}
use Rattle.hl_domain.proofs.DomainLaws.{handed_back, may_note, met_held, noted_behind, one_step, rider_left, shares_alone}
use Rattle.hl_domain.proofs.domain.Domain.bump.Goals as goal

pub note-requires : goal.note-requires
note-requires g c = may_note (one_step (λ _. asking job_tag c.args.ask) c.deref_mut-2.invariant c.journal-before.ensures c.bump-answer.ensures.stays c.bump-answer.ensures.made)

pub invariant_of-deref_mut : goal.invariant_of-deref_mut
invariant_of-deref_mut g c = noted_behind (one_step (λ _. asking job_tag c.args.ask) c.deref_mut-2.invariant c.journal-before.ensures c.bump-answer.ensures.stays c.bump-answer.ensures.made) c.note.ensures.keeper c.note.ensures.list

pub returns-clause-met : goal.returns-clause-met
returns-clause-met g c =
    let e = c.bump-answer.ensures in
    rider_left (asking job_tag c.args.ask) c.args.rider.now (without_back c.bump-answer.result) (one_step (λ _. asking job_tag c.args.ask) (met_held c.lock-guard.ensures c.deref_mut.ensures.value c.deref_mut-2.view_is) c.journal-before.ensures e.stays e.made) (shares_alone c.bump-answer.result 1 _ _ e.rider) c.note.ensures.rider c.note.ensures.rises (e.made, e.stays, e.jobs, (handed_back c.bump-answer.result c.args.ask _ e.refused).1)

pub returns-clause-refused : goal.returns-clause-refused
returns-clause-refused g c = (handed_back c.bump-answer.result c.args.ask _ c.bump-answer.ensures.refused).0
