use Rattle.std.proofs.Common.{[], ◌∷◌, ◌∙◌, subst}
use Rattle.std.specs.Prelude.{Ok, Err}
use Rattle.hl_model.specs.Sizes.{Sizes}
use Rattle.hl_model.specs.declared.step.Step.TheVariants.{Acquire}
use Rattle.hl_core.specs.Holding.{least_free}
use Rattle.hl_keeper.specs.Passes.{PassRecord, with_rider}
use Rattle.hl_domain.specs.Domains.{setup_of, enter_call}
use Rattle.hl_domain.proofs.DomainLaws.{Moved, acquired_grew, call_left, may_note, met_held, noted_behind, one_step, refused_as, reseated, stayed}
use Rattle.hl_domain.proofs.domain.Domain.enter.Goals as goal

pub note-requires : goal.note-requires
note-requires g c = may_note (one_step (λ A. Acquire (least_free c.deref_mut-2.inside.keeper.core.sizes A)) c.deref_mut-2.invariant c.journal-before.ensures c.in-Ok.ensures.keeps.0 c.in-Ok.ensures.made)

pub invariant_of-guard : goal.invariant_of-guard
invariant_of-guard g c = noted_behind (one_step (λ A. Acquire (least_free c.deref_mut-2.inside.keeper.core.sizes A)) c.deref_mut-2.invariant c.journal-before.ensures c.in-Ok.ensures.keeps.0 c.in-Ok.ensures.made) c.note.ensures.keeper c.note.ensures.list

pub returns-in-Ok : goal.returns-in-Ok
returns-in-Ok g c =
    let e = c.in-Ok.ensures in
    let at = (met_held c.lock-guard.ensures c.deref_mut.ensures.value c.deref_mut-2.view_is).at in
    let m = subst (λ (z : Sizes). Moved (setup_of c.args.self.now) c.deref_mut-2.inside.recorder (Acquire (least_free z c.deref_mut-2.inside.recorder) ∷ []) c.journal-before.result.now c.deref_mut-2.inside.keeper c.enter.new.self) at.sizes_are (one_step (λ A. Acquire (least_free c.deref_mut-2.inside.keeper.core.sizes A)) (met_held c.lock-guard.ensures c.deref_mut.ensures.value c.deref_mut-2.view_is) c.journal-before.ensures e.keeps.0 e.made) in
    record { met = call_left (enter_call c.args.self.now.sizes c.args.rider c.note.new.rider) (Ok (with_rider c.note.new.rider c.in-Ok.pass)) m (c.rider_mut.ensures.value ∙ acquired_grew (e.made _ at.stands)) c.note.ensures.rider c.note.ensures.rises ((λ A st. reseated c.note.new.rider (e.made A st)), e.keeps) }

pub note-requires-in-Err : goal.note-requires-in-Err
note-requires-in-Err g c = may_note (one_step (λ A. Acquire (least_free c.deref_mut-2.inside.keeper.core.sizes A)) c.deref_mut-2.invariant c.journal-before.ensures c.in-Err.ensures.keeps.0 c.in-Err.ensures.made)

pub invariant_of-t-13 : goal.invariant_of-t-13
invariant_of-t-13 g c = noted_behind (one_step (λ A. Acquire (least_free c.deref_mut-2.inside.keeper.core.sizes A)) c.deref_mut-2.invariant c.journal-before.ensures c.in-Err.ensures.keeps.0 c.in-Err.ensures.made) c.note-in-Err.ensures.keeper c.note-in-Err.ensures.list

pub returns : goal.returns
returns g c =
    let e = c.in-Err.ensures in
    let m = one_step (λ A. Acquire (least_free c.deref_mut-2.inside.keeper.core.sizes A)) (met_held c.lock-guard.ensures c.deref_mut.ensures.value c.deref_mut-2.view_is) c.journal-before.ensures e.keeps.0 e.made in
    record { met = call_left {X = PassRecord} (enter_call c.args.self.now.sizes c.args.rider c.note-in-Err.new.rider) (Err c.in-Err.fault) m (stayed c.args.rider c.in-Err.rider e.refused) c.note-in-Err.ensures.rider c.note-in-Err.ensures.rises ((λ A st. refused_as _ (e.made A st)), e.keeps) }
