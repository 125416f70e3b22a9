use Rattle.std.proofs.Common.{ap, ◌∙◌}
use Rattle.std.specs.Prelude.{Ok, Err}
use Rattle.hl_model.specs.declared.step.Step.TheVariants.{Release}
use Rattle.hl_words.specs.States.{RiderState}
use Rattle.hl_keeper.specs.Passes.{PassRecord}
use Rattle.hl_domain.specs.Domains.{pass_call}
use Rattle.hl_domain.proofs.DomainLaws.{accepted_as, call_left, may_note, met_held, noted_behind, refused_as, released_grew, stayed, touched_step}
use Rattle.hl_domain.proofs.domain.Domain.release.Goals as goal

pub note-requires : goal.note-requires
note-requires g c = may_note (touched_step c.args.pass.touches (Release c.args.pass.slot) c.deref_mut-2.invariant c.journal-before.ensures c.in-Ok.ensures.keeps.0 c.in-Ok.ensures.made)

pub invariant_of-guard : goal.invariant_of-guard
invariant_of-guard g c = noted_behind (touched_step c.args.pass.touches (Release c.args.pass.slot) c.deref_mut-2.invariant c.journal-before.ensures c.in-Ok.ensures.keeps.0 c.in-Ok.ensures.made) c.note.ensures.keeper c.note.ensures.list

pub returns-in-Ok-clause-met : goal.returns-in-Ok-clause-met
returns-in-Ok-clause-met g c =
    let e = c.in-Ok.ensures in
    let m = touched_step c.args.pass.touches (Release c.args.pass.slot) (met_held c.lock-guard.ensures c.deref_mut.ensures.value c.deref_mut-2.view_is) c.journal-before.ensures e.keeps.0 e.made in
    call_left (pass_call c.args.pass (Release c.args.pass.slot) c.note.new.rider) (Ok c.note.new.rider) m (released_grew (Release c.args.pass.slot) c.args.pass (e.made _ m.met.at.stands)) c.note.ensures.rider c.note.ensures.rises ((λ A st. accepted_as c.note.new.rider (e.made A st)), e.keeps)

pub note-requires-in-Err : goal.note-requires-in-Err
note-requires-in-Err g c = may_note (touched_step c.args.pass.touches (Release c.args.pass.slot) c.deref_mut-2.invariant c.journal-before.ensures c.in-Err.ensures.keeps.0 c.in-Err.ensures.made)

pub invariant_of-t-13 : goal.invariant_of-t-13
invariant_of-t-13 g c = noted_behind (touched_step c.args.pass.touches (Release c.args.pass.slot) c.deref_mut-2.invariant c.journal-before.ensures c.in-Err.ensures.keeps.0 c.in-Err.ensures.made) c.note-in-Err.ensures.keeper c.note-in-Err.ensures.list

pub returns-clause-met : goal.returns-clause-met
returns-clause-met g c =
    let e = c.in-Err.ensures in
    let m = touched_step c.args.pass.touches (Release c.args.pass.slot) (met_held c.lock-guard.ensures c.deref_mut.ensures.value c.deref_mut-2.view_is) c.journal-before.ensures e.keeps.0 e.made in
    call_left {X = RiderState} (pass_call c.args.pass (Release c.args.pass.slot) c.note-in-Err.new.rider) (Err c.in-Err.fault) m (c.rider_mut.ensures.value ∙ stayed c.args.pass.rider c.in-Err.pass.rider (ap (λ (p : PassRecord). p.rider) e.refused)) c.note-in-Err.ensures.rider c.note-in-Err.ensures.rises ((λ A st. refused_as _ (e.made A st)), e.keeps)
