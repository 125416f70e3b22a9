use Rattle.std.proofs.Common.{◌∙◌}
use Rattle.hl_model.specs.declared.step.Step.TheVariants.{Refresh}
use Rattle.hl_domain.specs.Domains.{pass_call}
use Rattle.hl_domain.proofs.DomainLaws.{call_left, may_note, met_held, noted_behind, rested_grew, rested_held, touched_step}
use Rattle.hl_domain.proofs.domain.Domain.refresh.Goals as goal

pub note-requires : goal.note-requires
note-requires g c = may_note (touched_step c.args.pass.now.touches (Refresh c.args.pass.now.slot) c.deref_mut-2.invariant c.journal-before.ensures c.refresh-answer.ensures.keeps.0 c.refresh-answer.ensures.made)

pub invariant_of-deref_mut : goal.invariant_of-deref_mut
invariant_of-deref_mut g c = noted_behind (touched_step c.args.pass.now.touches (Refresh c.args.pass.now.slot) c.deref_mut-2.invariant c.journal-before.ensures c.refresh-answer.ensures.keeps.0 c.refresh-answer.ensures.made) c.note.ensures.keeper c.note.ensures.list

pub returns : goal.returns
returns g c =
    let e = c.refresh-answer.ensures in
    let p = c.args.pass.now in
    let mid = c.refresh-answer.new.pass in
    let m = touched_step c.args.pass.now.touches (Refresh c.args.pass.now.slot) (met_held c.lock-guard.ensures c.deref_mut.ensures.value c.deref_mut-2.view_is) c.journal-before.ensures e.keeps.0 e.made in
    let grew = c.rider_mut.ensures.value ∙ rested_grew c.refresh-answer.result (λ _. mid.epoch) (λ v. v) (Refresh p.slot) p mid e.pass in
    record {
      met = call_left (pass_call p (Refresh p.slot) c.note.new.rider) c.refresh-answer.result m grew c.note.ensures.rider c.note.ensures.rises ((e.made, e.epoch), e.keeps);
      pass = rested_held c.refresh-answer.result (λ _. mid.epoch) (λ v. v) p mid c.note.new.rider e.pass;
      fresh = e.fresh;
    }
