-- Once a page is sealed, no touch and no write lies in it.
use Rattle.std.proofs.Common.{◌≡◌, ℕ, ◌≤◌, List, [], ◌∷◌, ◌++◌, refl, ap, sym, subst, arith, append_assoc, append-nil}
use Rattle.hl_model.specs.declared.step.Step.{Step}
use Rattle.hl_model.specs.declared.step.Step.TheVariants.{Look, Write}
use Rattle.hl_model.specs.declared.view.View.{View}
use Rattle.hl_model.specs.Views.{seen_read_only}
use Rattle.hl_model.specs.Replies.{IsAccepted}
use Rattle.hl_laws.proofs.HeadlineLaws.{headline}
use Rattle.hl_laws.proofs.LawProofs.{beginnings_are_accepted}
use Rattle.hl_laws.proofs.OrderLaws.{offsets_never_fall}
use Rattle.hl_keeper.specs.Touches.{AreTouches}
use Rattle.hl_pass.proofs.LookLaws.{viewed}
use Rattle.hl_images.specs.Sealed.{PendingStaysAbove, LaterStaysAbove}

-- a write among touches isn't below the view that stands before them
above_view : (t : ℕ) (v : View) (front : List Step) (u a x : ℕ) (back : List Step) → AreTouches t v (front ++ Write u a x ∷ back) → v.read_only ≤ a
unfolding AreTouches
above_view t v [] u a x back h = h.0.1
above_view t v (Look w read_only head ∷ front) u a x back h =
    let rest : read_only ≤ a = above_view t (record { read_only = read_only; head = head; tail = v.tail }) front u a x back h.1 in
    omega (arith, h.0.1, rest)
above_view t v (Write w b y ∷ front) u a x back h = above_view t v front u a x back h.1
above_view t v (_ ∷ front) u a x back h = absurd h.0

pub pending_stays_above : PendingStaysAbove
pending_stays_above sizes A t held front back u a x some accepted at touches =
    let v = viewed sizes t A held at in
    let bound = ((headline sizes A some accepted).views_bounded A [] t (sym (append-nil A)) v.0).0 in
    let same : seen_read_only t A ≡ held.read_only = ap (λ (w : View). w.read_only) v.1 in
    omega (arith, bound, same, above_view t held front u a x back touches)

pub later_stays_above : LaterStaysAbove
later_stays_above sizes A front back t a x some accepted =
    let whole : A ++ (front ++ Write t a x ∷ back) ≡ (A ++ front) ++ Write t a x ∷ back = sym (append_assoc A front (Write t a x ∷ back)) in
    let there : IsAccepted sizes ((A ++ front) ++ Write t a x ∷ back) = subst (IsAccepted sizes) whole accepted in
    let above = (headline sizes ((A ++ front) ++ Write t a x ∷ back) some there).written_above_safe_read_only (A ++ front) t a x back refl in
    let rises = (offsets_never_fall sizes A front some (beginnings_are_accepted sizes (A ++ front) (Write t a x ∷ back) there)).safe_read_only_least in
    omega (arith, above, rises)
