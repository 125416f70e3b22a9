-- What a pass saw is never refused, if it is known and saw nothing below what its slot did.
use Rattle.std.proofs.Common.{◌≡◌, ℕ, ◌<◌, ◌≤◌, List, true, cond, eqb, is_some, ap, ap₂, ◌∙◌, arith}
use Rattle.std.specs.Prelude.{◌||◌, Some, None}
use Rattle.std.proofs.lemmas.Bool.{lt-leb, le-ltb}
use Rattle.hl_model.specs.declared.fault.Fault.TheVariants.{NoSlot, NotProtected, Stale}
use Rattle.hl_model.specs.declared.step.Step.{Step}
use Rattle.hl_model.specs.declared.step.Step.TheVariants.{Look}
use Rattle.hl_model.specs.declared.view.View.{View}
use Rattle.hl_model.specs.Epochs.{is_protected, epoch_of}
use Rattle.hl_model.specs.Sizes.{Sizes}
use Rattle.hl_model.specs.Views.{slot_view, view_of, seen_read_only, seen_head}
use Rattle.hl_model.specs.Replies.{protected_fault, or_fault, fault_of, IsAccepted}
use Rattle.hl_laws.proofs.DrainLaws.{protected-slot}
use Rattle.hl_laws.proofs.LawProofs.{slot_epoch-protected}
use Rattle.hl_laws.proofs.ViewLaws.{is_protected-slot_view, view_of-slot_view}
use Rattle.hl_pass.specs.Laws.{CatchesUp}
use Rattle.hl_pass.specs.Stamps.{stamp_at}
use Rattle.hl_pass.specs.Views.{has_view}
use Rattle.hl_pass.proofs.KnownLaws.{and_parts, view_is}

-- a slot with a view is protected, and the view is what it saw
pub viewed : (sizes : Sizes) (t : ℕ) (A : List Step) (v : View) → slot_view sizes t A ≡ Some v → (is_protected t A ≡ true) × (view_of sizes t A ≡ v)
viewed sizes t A v is = (is_protected-slot_view sizes t A ∙ ap is_some is, view_of-slot_view sizes t A v is)

-- and it is one of the slots
pub viewed_slot : (sizes : Sizes) (t : ℕ) (A : List Step) (v : View) → IsAccepted sizes A → slot_view sizes t A ≡ Some v → t < sizes.slots
viewed_slot sizes t A v accepted is = protected-slot sizes t A accepted (epoch_of t A) (slot_epoch-protected t A (viewed sizes t A v is).0)

-- so steps that want it protected meet no fault for that
pub viewed_fault : (sizes : Sizes) (t : ℕ) (A : List Step) (v : View) → IsAccepted sizes A → slot_view sizes t A ≡ Some v → protected_fault sizes A t ≡ None
viewed_fault sizes t A v accepted is =
    ap₂ (λ b c. cond b (Some NoSlot) (cond c None (Some NotProtected))) (lt-leb sizes.slots t (viewed_slot sizes t A v accepted is)) (viewed sizes t A v is).0

-- a look of a slot at no offset below its view is accepted
pub look_free : (sizes : Sizes) (t : ℕ) (A : List Step) (v : View) (read_only head : ℕ) → IsAccepted sizes A → slot_view sizes t A ≡ Some v → v.read_only ≤ read_only → v.head ≤ head
    → fault_of sizes A (Look t read_only head) ≡ None
look_free sizes t A v read_only head accepted is low high =
    let seen : view_of sizes t A ≡ v = (viewed sizes t A v is).1 in
    ap₂ or_fault (viewed_fault sizes t A v accepted is)
    (ap₂ (λ a b. cond (a || b) (Some Stale) None) (le-ltb read_only (seen_read_only t A) (omega (arith, low, ap (λ (w : View). w.read_only) seen))) (le-ltb head (seen_head t A) (omega (arith, high, ap (λ (w : View). w.head) seen))))

-- so is that of a pass
pub catches_up : CatchesUp
catches_up sizes row A p accepted known risen =
    let is : slot_view sizes p.slot A ≡ Some p.held = view_is (slot_view sizes p.slot A) p.held (and_parts (has_view (slot_view sizes p.slot A) p.held) (eqb (stamp_at sizes row A p.slot) p.stamp) known).0 in
    look_free sizes p.slot A p.held p.view.read_only p.view.head accepted is risen.0 risen.1
