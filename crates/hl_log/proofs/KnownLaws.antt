-- A pass that was known is known after its call, where its slot is protected then.
use Rattle.std.proofs.Common.{◌≡◌, ℕ, ◌<◌, List, Bool, true, cond, leb, length, set, get_or, is_some, ap, ◌∙◌, sym, subst, arith}
use Rattle.std.specs.Prelude.{Result, Option, Some, None, Ok}
use Rattle.std.proofs.lemmas.Bool.{leb-false}
use Rattle.std.proofs.lemmas.List.{get_or-set_same}
use Rattle.hl_model.specs.declared.fault.Fault.TheVariants.{NoSlot, Occupied}
use Rattle.hl_model.specs.declared.step.Step.TheVariants.{Acquire}
use Rattle.hl_model.specs.declared.view.View.{View}
use Rattle.hl_model.specs.Epochs.{is_protected}
use Rattle.hl_model.specs.Replies.{acquire_fault, reply_of}
use Rattle.hl_laws.proofs.NoFaultLaws.{unless_ok, later_fault}
use Rattle.hl_core.specs.Standing.{State}
use Rattle.hl_model.specs.declared.action.Tag.{Tag}
use Rattle.hl_model.specs.declared.fault.Fault.{Fault}
use Rattle.hl_model.specs.declared.step.Reply.{Reply}
use Rattle.hl_model.specs.declared.step.Step.{Step}
use Rattle.hl_model.specs.Sizes.{Sizes}
use Rattle.hl_model.specs.Views.{slot_view}
use Rattle.hl_pass.specs.declared.pass_view.PassView.{PassView}
use Rattle.hl_pass.specs.declared.stamps.Stamps.{Stamps}
use Rattle.hl_pass.specs.Calls.{KnownAt as KnownBy, is_known as is_known_by}
use Rattle.hl_pass.specs.Passes.{rested_in}
use Rattle.hl_pass.proofs.KnownLaws.{stays_known, is_it}
use Rattle.hl_log.specs.States.{LogState, PassState}
use Rattle.hl_log.specs.Calls.{is_known, call_list, call_reply, Called, KnownAt}
use Rattle.hl_log.specs.Logs.{IsBeside}
use Rattle.hl_log.specs.Passes.{with_own, epoch_told}

pub known_after : (old new : LogState) (A : List Step) (p q : PassState) (step : Step) (result : Result Reply Fault)
    → Called old A p step new q result → IsBeside old new → is_known old A p ≡ true → KnownAt new (call_list old A p step) q
known_after old new A p q step result called beside known =
    let B : List Step = call_list old A p step in
    let own : PassView = rested_in (slot_view old.core.sizes p.own.slot B) (epoch_told (call_reply old A p step) p.own.epoch) p.own in
    let is : q ≡ with_own own p = called.pass ∙ ap (λ (b : Bool). cond b (with_own own p) p) known in
    subst (λ (o : PassState). KnownAt new B o) (sym is)
    (subst (λ (z : Sizes). KnownBy z new.stamps.row.items B own) (sym called.sizes)
    (subst (λ (s : Stamps). KnownBy old.core.sizes s.row.items B own) (sym beside.stamps)
    (stays_known old.core.sizes old.stamps.row.items A B (epoch_told (call_reply old A p step) p.own.epoch) p.own known)))

-- a pass whose slot was just given its stamp, and that has the slot's view, is known
pub acquired_known : (old : LogState) (A : List Step) (core : State Tag) (B : List Step) (own : PassView) (row : List ℕ) (view : Option View) (epoch : ℕ) (reply : Reply) (rested : PassView)
    → Ok reply ≡ reply_of old.core.sizes A (Acquire own.slot) → length old.stamps.row.items ≡ old.core.sizes.slots → row ≡ set old.stamps.row.items own.slot own.stamp → view ≡ slot_view core.sizes own.slot B → rested ≡ rested_in view epoch own
    → is_some (slot_view core.sizes rested.slot B) ≡ true → is_known_by core.sizes row B rested ≡ true
acquired_known old A core B own row view epoch reply rested told room given seen is some =
    let sizes = old.core.sizes in
    let t = own.slot in
    let none : acquire_fault sizes A t ≡ None = (unless_ok (acquire_fault sizes A t) reply _ told).0 in
    let less : t < sizes.slots = leb-false sizes.slots t (later_fault (leb sizes.slots t) NoSlot (cond (is_protected t A) (Some Occupied) None) none).0 in
    let slot : rested.slot ≡ t = ap (λ (p : PassView). p.slot) is in
    let here : is_some (slot_view core.sizes t B) ≡ true = subst (λ (u : ℕ). is_some (slot_view core.sizes u B) ≡ true) slot some in
    let same : get_or row t 0 ≡ own.stamp = ap (λ (r : List ℕ). get_or r t 0) given ∙ get_or-set_same old.stamps.row.items t own.stamp 0 (omega (arith, less, room)) in
    subst (λ (p : PassView). is_known_by core.sizes row B p ≡ true) (sym is)
    (subst (λ (v : Option View). is_known_by core.sizes row B (rested_in v epoch own) ≡ true) (sym seen) (is_it (slot_view core.sizes t B) own.view (get_or row t 0) own.stamp same here))
