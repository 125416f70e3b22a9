use Rattle.std.proofs.Common.{◌≡◌, ◌+◌, ◌-◌, ◌/◌, ◌∙◌, subst}
use Rattle.std.specs.Prelude.{IfOk}
use Rattle.hl_model.specs.declared.step.Step.TheVariants.{Allocate}
use Rattle.hl_model.specs.Sizes.{Sizes}
use Rattle.hl_keeper.specs.Passes.{seen, with_tail}
use Rattle.hl_domain.specs.Domains.{pass_call}
use Rattle.hl_domain.proofs.DomainLaws.{call_left, may_note, met_held, noted_behind, rested_grew, rested_held, touched_step}
use Rattle.hl_domain.proofs.domain.Domain.allocate.Goals as goal

pub note-requires : goal.note-requires
note-requires g c = may_note (touched_step c.args.pass.now.touches (Allocate c.args.pass.now.slot c.args.n) c.deref_mut-2.invariant c.journal-before.ensures c.allocate-answer.ensures.keeps.0 c.allocate-answer.ensures.made)

pub invariant_of-deref_mut : goal.invariant_of-deref_mut
invariant_of-deref_mut g c = noted_behind (touched_step c.args.pass.now.touches (Allocate c.args.pass.now.slot c.args.n) c.deref_mut-2.invariant c.journal-before.ensures c.allocate-answer.ensures.keeps.0 c.allocate-answer.ensures.made) c.note.ensures.keeper c.note.ensures.list

pub returns-clause-met : goal.returns-clause-met
returns-clause-met g c =
    let e = c.allocate-answer.ensures in
    let p = c.args.pass.now in
    let s = Allocate p.slot c.args.n in
    call_left (pass_call p s c.note.new.rider) c.allocate-answer.result (touched_step c.args.pass.now.touches (Allocate c.args.pass.now.slot c.args.n) (met_held c.lock-guard.ensures c.deref_mut.ensures.value c.deref_mut-2.view_is) c.journal-before.ensures e.keeps.0 e.made)
    (c.rider_mut.ensures.value ∙ rested_grew c.allocate-answer.result (λ _. p.epoch) (λ a. with_tail (a + c.args.n) (seen p)) s p c.allocate-answer.new.pass e.pass) c.note.ensures.rider c.note.ensures.rises (e.made, e.keeps)

pub returns-clause-pass : goal.returns-clause-pass
returns-clause-pass g c = rested_held c.allocate-answer.result (λ _. c.args.pass.now.epoch) (λ a. with_tail (a + c.args.n) (seen c.args.pass.now)) c.args.pass.now c.allocate-answer.new.pass c.note.new.rider c.allocate-answer.ensures.pass

pub returns-clause-one_page : goal.returns-clause-one_page
returns-clause-one_page g c =
    let held = met_held c.lock-guard.ensures c.deref_mut.ensures.value c.deref_mut-2.view_is in
    subst (λ (z : Sizes). IfOk c.allocate-answer.result (λ a. a / z.page_size ≡ (a + c.args.n - 1) / z.page_size)) held.at.sizes_are c.allocate-answer.ensures.one_page
