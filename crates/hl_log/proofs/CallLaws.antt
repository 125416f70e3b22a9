-- What a call of a pass comes to, whether the pass is known or not.
use Rattle.std.proofs.Common.{◌≡◌, ℕ, List, Bool, true, cond, [], ◌∷◌, ◌++◌, refl, sym, ap, ap₂, ◌∙◌, subst, arith}
use Rattle.std.specs.Prelude.{Option, Some, Result, Ok, Err}
use Rattle.std.proofs.lemmas.Bool.{eq-eqb}
use Rattle.hl_model.specs.declared.action.Tag.{Tag}
use Rattle.hl_model.specs.declared.fault.Fault.{Fault}
use Rattle.hl_model.specs.declared.fault.Fault.TheVariants.{Stranger}
use Rattle.hl_model.specs.declared.step.Reply.{Reply}
use Rattle.hl_model.specs.declared.slot.Slot.{Slot}
use Rattle.hl_model.specs.declared.step.Reply.TheVariants.{Entered}
use Rattle.hl_model.specs.declared.step.Step.{Step}
use Rattle.hl_model.specs.declared.step.Step.TheVariants.{Refresh}
use Rattle.hl_model.specs.Epochs.{epoch_of}
use Rattle.hl_model.specs.declared.view.View.{View}
use Rattle.hl_model.specs.Sizes.{Sizes}
use Rattle.hl_model.specs.Views.{slot_view, view_of}
use Rattle.hl_model.specs.Replies.{reply_of, fault_of, answer_of, extended, unless_fault}
use Rattle.hl_laws.proofs.AcceptedLaws.{extended-none}
use Rattle.hl_laws.proofs.NoFaultLaws.{unless_ok}
use Rattle.hl_laws.proofs.ViewLaws.{slot_view-enters, view_of-slot_view}
use Rattle.hl_core.specs.Standing.{State, Stands}
use Rattle.hl_core.specs.Steps.{Made, Stepped, entered_reply}
use Rattle.hl_pass.specs.Calls.{is_call, looked, stranger_fault}
use Rattle.hl_pass.specs.Passes.{rested_in}
use Rattle.hl_log.specs.States.{LogState, PassState}
use Rattle.hl_log.specs.Calls.{stamp_at, is_known, call_reply, call_list, call_pass, Called, Calls}
use Rattle.hl_log.specs.Logs.{StandsAt, IsBeside}
use Rattle.hl_log.specs.Passes.{with_own, epoch_told, IsRisen}
use Rattle.hl_pass.specs.Stores.{stores_of}
use Rattle.hl_pass.proofs.KnownLaws.{test_passed, test_refused}
use Rattle.hl_pass.proofs.LookLaws.{catches_up}
use Rattle.hl_log.proofs.KnownLaws.{known_after}
use Rattle.hl_log.proofs.StandLaws.{stores-quiet, stores-looked, call_quiet, stands_with}

-- what is told of a call, and who the pass is then
calls_of : (old new : LogState) (p q : PassState) (step : Step) (result : Result Reply Fault)
    → ((A : List Step) → StandsAt old A → Called old A p step new q result) → IsBeside old new → (IsRisen p → IsRisen q) → Calls old p step new q result
calls_of old new p q step result called beside risen = record {
  called = called;
  beside = beside;
  known = λ A stands known. known_after old new A p q step result (called A stands) beside known;
  entered = λ A stands known risen. catches_up old.core.sizes old.stamps.row.items A p.own stands.standing.accepted known risen;
  risen = risen;
}

-- a log refused a stranger
pub stranger_calls : (old new : LogState) (p : PassState) (step : Step) (f : Fault) (result : Result Reply Fault)
    → ((A : List Step) → StandsAt old A → Err f ≡ unless_fault (stranger_fault old.core.sizes old.stamps.row.items A p.own) (tt {0}))
    → new.core ≡ old.core → IsBeside old new → result ≡ Err f → Calls old p step new p result
stranger_calls old new p step f result told same beside is = calls_of old new p p step result called beside (λ risen. risen)
  where
    called : (A : List Step) → StandsAt old A → Called old A p step new p result
    called A stands = let test = test_refused (is_known old A p) (stamp_at old A p.own.slot) f (told A stands) in record {
      reply = is ∙ ap (λ (g : Fault). Err g) test.1 ∙ sym (ap (λ (b : Bool). cond b (reply_of old.core.sizes (looked old.core.sizes A p.own) step) (Err (Stranger (stamp_at old A p.own.slot)))) test.0);
      sizes = ap (λ (core : State Tag). core.sizes) same;
      standing = subst (λ (b : Bool). StandsAt new (cond b (extended old.core.sizes (looked old.core.sizes A p.own) step) A)) (sym test.0)
          (stands_with old new A A stands (subst (λ (core : State Tag). Stands (λ t. t.0) core A) (sym same) stands.standing) beside.master refl);
      pass = sym (ap (λ (b : Bool). cond b (with_own (rested_in (slot_view old.core.sizes p.own.slot (call_list old A p step)) (epoch_told (call_reply old A p step) p.own.epoch) p.own) p) p) test.0);
    }

-- what a log made of a pass that is known: it caught up, made the step, and the pass rested in this view
pub record IsMade (old : LogState) (mid : State Tag) (p : PassState) (step : Step) (new : LogState) (q : PassState) (view : Option View) (epoch : ℕ) (result : Result Reply Fault) : Type 0 where
  pub caught_up : (A : List Step) → StandsAt old A → Stands (λ t. t.0) mid (looked old.core.sizes A p.own)
  pub sizes : mid.sizes ≡ old.core.sizes
  pub made : Made (λ t. t.0) mid step new.core result
  pub epoch_is : epoch ≡ epoch_told result p.own.epoch
  pub pass : q ≡ with_own (rested_in view epoch p.own) p
  pub beside : IsBeside old new
  pub quiet : is_call step ≡ true

-- the view is that of its slot then
abbrev IsSeen : LogState → PassState → Step → Option View → Type 0
IsSeen old p step view = (A : List Step) → StandsAt old A → view ≡ slot_view old.core.sizes p.own.slot (extended old.core.sizes (looked old.core.sizes A p.own) step)

made_calls : (old new : LogState) (mid : State Tag) (p q : PassState) (step : Step) (u : Unit {0}) (view : Option View) (epoch : ℕ) (result : Result Reply Fault)
    → ((A : List Step) → StandsAt old A → Ok u ≡ unless_fault (stranger_fault old.core.sizes old.stamps.row.items A p.own) (tt {0}))
    → IsMade old mid p step new q view epoch result → IsSeen old p step view → Calls old p step new q result
made_calls old new mid p q step u view epoch result told is seen = calls_of old new p q step result called is.beside (λ _. subst (λ (o : PassState). IsRisen o) (sym is.pass) (omega arith, omega arith))
  where
    called : (A : List Step) → StandsAt old A → Called old A p step new q result
    called A stands = record { reply = reply; sizes = stepped.sizes ∙ is.sizes; standing = standing; pass = pass }
      where
        L : List Step
        L = looked old.core.sizes A p.own

        known : is_known old A p ≡ true
        known = test_passed (is_known old A p) (stamp_at old A p.own.slot) u (told A stands)

        stepped : Stepped (λ t. t.0) mid L step new.core result
        stepped = is.made L (is.caught_up A stands)

        reply : result ≡ call_reply old A p step
        reply = stepped.reply ∙ ap (λ (z : Sizes). reply_of z L step) is.sizes ∙ sym (ap (λ (b : Bool). cond b (reply_of old.core.sizes L step) (Err (Stranger (stamp_at old A p.own.slot)))) known)

        list : extended old.core.sizes L step ≡ call_list old A p step
        list = sym (ap (λ (b : Bool). cond b (extended old.core.sizes L step) A) known)

        core : Stands (λ t. t.0) new.core (extended old.core.sizes L step)
        core = subst (λ (z : Sizes). Stands (λ t. t.0) new.core (extended z L step)) is.sizes stepped.standing

        stored : stores_of (extended old.core.sizes L step) ≡ stores_of A
        stored = stores-quiet old.core.sizes L step (call_quiet step is.quiet) ∙ stores-looked old.core.sizes A p.own

        standing : StandsAt new (call_list old A p step)
        standing = subst (λ (B : List Step). StandsAt new B) list (stands_with old new A (extended old.core.sizes L step) stands core is.beside.master stored)

        pass : q ≡ call_pass old A p step
        pass = is.pass
            ∙ ap₂ (λ (v : Option View) (e : ℕ). with_own (rested_in v e p.own) p) (seen A stands ∙ ap (slot_view old.core.sizes p.own.slot) list) (is.epoch_is ∙ ap (λ (r : Result Reply Fault). epoch_told r p.own.epoch) reply)
            ∙ sym (ap (λ (b : Bool). cond b (with_own (rested_in (slot_view old.core.sizes p.own.slot (call_list old A p step)) (epoch_told (call_reply old A p step) p.own.epoch) p.own) p) p) known)

-- a call whose view the core told then
pub known_calls : (old new : LogState) (mid : State Tag) (p q : PassState) (step : Step) (u : Unit {0}) (view : Option View) (epoch : ℕ) (result : Result Reply Fault)
    → ((A : List Step) → StandsAt old A → Ok u ≡ unless_fault (stranger_fault old.core.sizes old.stamps.row.items A p.own) (tt {0}))
    → IsMade old mid p step new q view epoch result → ((A : List Step) → Stands (λ t. t.0) new.core A → view ≡ slot_view new.core.sizes p.own.slot A) → Calls old p step new q result
known_calls old new mid p q step u view epoch result told is view_is = made_calls old new mid p q step u view epoch result told is seen
  where
    seen : IsSeen old p step view
    seen A stands =
        let L : List Step = looked old.core.sizes A p.own in
        let stepped : Stepped (λ t. t.0) mid L step new.core result = is.made L (is.caught_up A stands) in
        view_is (extended mid.sizes L step) stepped.standing ∙ ap₂ (λ (y z : Sizes). slot_view y p.own.slot (extended z L step)) (stepped.sizes ∙ is.sizes) is.sizes

-- the view of a slot that entered is the slot's
entered_view : (sizes : Sizes) (t : ℕ) (L : List Step) (slot : Slot) → Ok (Entered slot.epoch slot.view) ≡ reply_of sizes L (Refresh t) → Some slot.view ≡ slot_view sizes t (extended sizes L (Refresh t))
entered_view sizes t L slot is =
    let s : Step = Refresh t in
    let both = unless_ok (fault_of sizes L s) (Entered slot.epoch slot.view) (answer_of sizes L (L ++ s ∷ []) s) is in
    let there = slot_view-enters sizes t L s (eq-eqb t t refl) in
    let view : slot.view ≡ view_of sizes t (L ++ s ∷ []) = told slot.epoch slot.view (epoch_of t (L ++ s ∷ [])) (view_of sizes t (L ++ s ∷ [])) both.1 in
    ap (λ (v : View). Some v) (view ∙ view_of-slot_view sizes t (L ++ s ∷ []) _ there) ∙ sym there ∙ ap (slot_view sizes t) (sym (extended-none sizes L s both.0))
  where
    told : (e : ℕ) (v : View) (d : ℕ) (w : View) → Entered e v ≡ Entered d w → v ≡ w
    told e v d w h = cc

-- a refresh, whose view its answer told
pub refresh_calls : (old new : LogState) (mid : State Tag) (p q : PassState) (u : Unit {0}) (slot : Slot)
    → ((A : List Step) → StandsAt old A → Ok u ≡ unless_fault (stranger_fault old.core.sizes old.stamps.row.items A p.own) (tt {0}))
    → IsMade old mid p (Refresh p.own.slot) new q (Some slot.view) slot.epoch (Ok (entered_reply slot)) → Calls old p (Refresh p.own.slot) new q (Ok (entered_reply slot))
refresh_calls old new mid p q u slot told is = made_calls old new mid p q (Refresh p.own.slot) u (Some slot.view) slot.epoch (Ok (entered_reply slot)) told is seen
  where
    seen : IsSeen old p (Refresh p.own.slot) (Some slot.view)
    seen A stands =
        let L : List Step = looked old.core.sizes A p.own in
        entered_view old.core.sizes p.own.slot L slot ((is.made L (is.caught_up A stands)).reply ∙ ap (λ (z : Sizes). reply_of z L (Refresh p.own.slot)) is.sizes)
