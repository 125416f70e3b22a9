-- What touches make of a list: each is accepted, and they move nothing but their own slot's view.
use Rattle.std.proofs.Common.{◌≡◌, ℕ, ◌-◌, ◌*◌, ◌/◌, ◌<◌, ◌≤◌, Bool, true, false, cond, leb, ltb, max, List, [], ◌∷◌, ◌++◌, take, drop, refl, sym, ap, ap₂, ◌∙◌, subst, arith, append_assoc, append-nil, eq-eqb}
use Rattle.std.specs.Prelude.{Option, Some, None, ◌||◌, unwrap_or}
use Rattle.std.proofs.lemmas.Bool.{lt-leb, le-ltb, cond-true}
use Rattle.std.proofs.lemmas.List.{take-append-drop}
use Rattle.hl_model.specs.declared.fault.Fault.{Fault}
use Rattle.hl_model.specs.declared.fault.Fault.TheVariants.{NoSlot, NotProtected, Busy, Below, Beyond}
use Rattle.hl_model.specs.declared.step.Step.{Step}
use Rattle.hl_model.specs.declared.step.Step.TheVariants.{Refresh, Release, Allocate, Look, Write}
use Rattle.hl_model.specs.declared.view.View.{View}
use Rattle.hl_model.specs.Sizes.{Sizes}
use Rattle.hl_model.specs.Actions.{is_done}
use Rattle.hl_model.specs.Epochs.{is_bump, mark, enters, leaves, is_protected}
use Rattle.hl_model.specs.Lists.{until_last}
use Rattle.hl_model.specs.Offsets.{raised_to, shifted_to, read_only, head, place_of, tail_past, tail}
use Rattle.hl_model.specs.Pages.{is_freed, frees}
use Rattle.hl_model.specs.Views.{allocates, seen_read_only, seen_head, seen_tail, slot_view}
use Rattle.hl_model.specs.Replies.{protected_fault, size_fault, allocate_fault, or_fault, write_fault, beyond_fault, fault_of, IsAccepted}
use Rattle.hl_laws.proofs.BoundLaws.{tail-append}
use Rattle.hl_laws.proofs.OffsetLaws.{read_only-stay, head-stay, tail-push}
use Rattle.hl_laws.proofs.ViewLaws.{is_protected-push, seen_read_only-push, seen_head-push, seen_tail-stay, slot_view-moves, slot_view-stay}
use Rattle.hl_laws.proofs.WorkLaws.{is_freed-stay}
use Rattle.hl_pass.proofs.LookLaws.{viewed, viewed_fault, look_free}
use Rattle.hl_keeper.specs.Stamps.{is_acquire, acquires_in, slot_stamps}
use Rattle.hl_keeper.specs.Stores.{stores_of}
use Rattle.hl_keeper.proofs.StampLaws.{acquires_in-stay, slot_stamps-stay}
use Rattle.hl_pass.proofs.StoreLaws.{stores-stay}
use Rattle.hl_keeper.specs.Touches.{view_past, view_after, IsTouch, AreTouches, is_call}

-- a step that moves no slot, no offset and no page that is freed, ends no action and stamps no slot
pub record IsStill (s : Step) : Type 0 where
  pub enters_none : (t : ℕ) → enters t s ≡ false
  pub leaves_none : (t : ℕ) → leaves t s ≡ false
  pub raises_none : raised_to s ≡ 0
  pub shifts_none : shifted_to s ≡ 0
  pub tail_stays : (page_size tail : ℕ) → tail_past page_size tail s ≡ tail
  pub frees_none : (p : ℕ) → frees p s ≡ false
  pub bumps_none : is_bump s ≡ false
  pub dones_none : is_done s ≡ false
  pub stamps_none : is_acquire s ≡ false

-- a touch is such a step
pub touch_still : (t : ℕ) (v : View) (s : Step) → IsTouch t v s → IsStill s
touch_still t v (Look u r h) is = record { enters_none = λ t. refl; leaves_none = λ t. refl; raises_none = refl; shifts_none = refl; tail_stays = λ p q. refl; frees_none = λ p. refl; bumps_none = refl; dones_none = refl; stamps_none = refl }
touch_still t v (Write u a x) is = record { enters_none = λ t. refl; leaves_none = λ t. refl; raises_none = refl; shifts_none = refl; tail_stays = λ p q. refl; frees_none = λ p. refl; bumps_none = refl; dones_none = refl; stamps_none = refl }
touch_still t v _ is = absurd is

-- a look of a slot that isn't below its view is accepted, and its view is then what the look brings
pub look_step : (sizes : Sizes) (t : ℕ) (A : List Step) (v : View) (r h : ℕ) → IsAccepted sizes A → slot_view sizes t A ≡ Some v → v.read_only ≤ r → v.head ≤ h → (fault_of sizes A (Look t r h) ≡ None) × (slot_view sizes t (A ++ Look t r h ∷ []) ≡ Some (view_past v (Look t r h)))
look_step sizes t A v r h a at x y =
    let seen = viewed sizes t A v at in (
      look_free sizes t A v r h a at x y,
      slot_view-moves sizes t A (Look t r h) r h v.tail refl refl
          (seen_read_only-push t A (Look t r h) refl ∙ ap (λ b. unwrap_or (cond b (Some r) None) (seen_read_only t A)) (eq-eqb t t refl))
          (seen_head-push t A (Look t r h) refl ∙ ap (λ b. unwrap_or (cond b (Some h) None) (seen_head t A)) (eq-eqb t t refl))
          (seen_tail-stay sizes t A (Look t r h) refl refl ∙ ap (λ (w : View). w.tail) seen.1)
          ∙ cond-true (is_protected t A) (Some (view_past v (Look t r h))) None seen.0,
    )

-- a write of a slot from its view's read-only offset up to its tail is accepted, and leaves the view
write_step : (sizes : Sizes) (t : ℕ) (A : List Step) (v : View) (a x : ℕ) → IsAccepted sizes A → slot_view sizes t A ≡ Some v → v.read_only ≤ a → a < v.tail → (fault_of sizes A (Write t a x) ≡ None) × (slot_view sizes t (A ++ Write t a x ∷ []) ≡ Some (view_past v (Write t a x)))
write_step sizes t A v a x good at low high =
    let seen = viewed sizes t A v at in
    let left : seen_read_only t A ≤ a = omega (arith, low, ap (λ (w : View). w.read_only) seen.1) in
    let right : a < seen_tail sizes t A = omega (arith, high, ap (λ (w : View). w.tail) seen.1) in
    let beyond : beyond_fault sizes A t a ≡ None = ap (λ b. cond b (Some (Beyond (seen_tail sizes t A))) None) (lt-leb (seen_tail sizes t A) a right) in
    let last : write_fault sizes A t a ≡ None = ap₂ (λ b o. cond b (Some (Below (seen_read_only t A))) o) (le-ltb a (seen_read_only t A) left) beyond in
    (ap₂ or_fault (viewed_fault sizes t A v good at) last, slot_view-stay sizes t A (Write t a x) refl refl refl refl refl ∙ at)

-- a touch is accepted, and the view is then that after it
pub touch_step : (sizes : Sizes) (t : ℕ) (A : List Step) (v : View) (s : Step) → IsTouch t v s → IsAccepted sizes A → slot_view sizes t A ≡ Some v → (fault_of sizes A s ≡ None) × (slot_view sizes t (A ++ s ∷ []) ≡ Some (view_past v s))
touch_step sizes t A v (Look u r h) is a at = subst (λ (z : ℕ). (fault_of sizes A (Look z r h) ≡ None) × (slot_view sizes t (A ++ Look z r h ∷ []) ≡ Some (view_past v (Look z r h)))) (sym is.0) (look_step sizes t A v r h a at is.1 is.2)
touch_step sizes t A v (Write u b x) is a at = subst (λ (z : ℕ). (fault_of sizes A (Write z b x) ≡ None) × (slot_view sizes t (A ++ Write z b x ∷ []) ≡ Some (view_past v (Write z b x)))) (sym is.0) (write_step sizes t A v b x a at is.1 is.2)
touch_step sizes t A v _ is a at = absurd is

-- what a still step leaves: who is protected
still_protected : (sizes : Sizes) (A : List Step) (s : Step) (t : ℕ) → IsStill s → is_protected t (A ++ s ∷ []) ≡ is_protected t A
still_protected sizes A s t h = is_protected-push t A s ∙ ap₂ (λ b c. cond b true (cond c false (is_protected t A))) (h.enters_none t) (h.leaves_none t)

-- the tail
still_tail : (sizes : Sizes) (A : List Step) (s : Step) → IsStill s → tail sizes (A ++ s ∷ []) ≡ tail sizes A
still_tail sizes A s h = tail-push sizes A s ∙ h.tail_stays sizes.page_size (tail sizes A)

-- the fault of a slot
still_slot : (sizes : Sizes) (A : List Step) (s : Step) (t : ℕ) → IsStill s → protected_fault sizes (A ++ s ∷ []) t ≡ protected_fault sizes A t
still_slot sizes A s t h = ap (λ b. cond (leb sizes.slots t) (Some NoSlot) (cond b None (Some NotProtected))) (still_protected sizes A s t h)

-- the page of a record where the tail is T
abbrev page_at : Sizes → ℕ → ℕ → ℕ
page_at sizes n T = place_of sizes.page_size T n / sizes.page_size

-- the fault of an allocation, told the tail and whether the page is freed whose frame it wants
abbrev allocation : Sizes → ℕ → ℕ → Bool → Option Fault
allocation sizes n T freed =
    or_fault (size_fault sizes.page_size T n) (cond (ltb (page_at sizes n T * sizes.page_size) T || cond (ltb (page_at sizes n T) sizes.frames) true freed) None (Some (Busy (page_at sizes n T))))

still_allocation : (sizes : Sizes) (A : List Step) (s : Step) (n : ℕ) → IsStill s → allocate_fault sizes (A ++ s ∷ []) n ≡ allocate_fault sizes A n
still_allocation sizes A s n h =
    let old : ℕ = page_at sizes n (tail sizes A) - sizes.frames in
    ap (λ T. allocation sizes n T (is_freed sizes (page_at sizes n T - sizes.frames) (A ++ s ∷ []))) (still_tail sizes A s h)
    ∙ ap (λ b. allocation sizes n (tail sizes A) b) (is_freed-stay sizes A s old (h.frees_none old))

-- a call of a pass meets the same fault behind a still step
still_call : (sizes : Sizes) (A : List Step) (s c : Step) → IsStill s → is_call c ≡ true → fault_of sizes (A ++ s ∷ []) c ≡ fault_of sizes A c
still_call sizes A s (Refresh t) h is = still_slot sizes A s t h
still_call sizes A s (Release t) h is = still_slot sizes A s t h
still_call sizes A s (Allocate t n) h is = ap₂ or_fault (still_slot sizes A s t h) (still_allocation sizes A s n h)
still_call sizes A s _ h is = cc

-- what each still step leaves, touches leave
touches_leave : {X : Type 0} (of : List Step → X) → ((A : List Step) (s : Step) → IsStill s → of (A ++ s ∷ []) ≡ of A) → (t : ℕ) (A : List Step) (v : View) (xs : List Step) → AreTouches t v xs → of (A ++ xs) ≡ of A
unfolding AreTouches
touches_leave of stays t A v [] are = ap of (append-nil A)
touches_leave of stays t A v (s ∷ xs) are =
    ap of (sym (append_assoc A (s ∷ []) xs)) ∙ touches_leave of stays t (A ++ s ∷ []) (view_past v s) xs are.1 ∙ stays A s (touch_still t v s are.0)

-- the fault of a call
pub touches_leave_faults : (sizes : Sizes) (t : ℕ) (A : List Step) (v : View) (xs : List Step) (c : Step) → AreTouches t v xs → is_call c ≡ true → fault_of sizes (A ++ xs) c ≡ fault_of sizes A c
touches_leave_faults sizes t A v xs c are is = touches_leave (λ B. fault_of sizes B c) (λ B s h. still_call sizes B s c h is) t A v xs are

-- the offsets
pub touches_leave_offsets : (sizes : Sizes) (t : ℕ) (A : List Step) (v : View) (xs : List Step) → AreTouches t v xs → (read_only (A ++ xs) ≡ read_only A) × (head (A ++ xs) ≡ head A) × (tail sizes (A ++ xs) ≡ tail sizes A)
touches_leave_offsets sizes t A v xs are = (
  touches_leave read_only (λ B s h. read_only-stay B s h.raises_none) t A v xs are,
  touches_leave head (λ B s h. head-stay B s h.shifts_none) t A v xs are,
  touches_leave (tail sizes) (still_tail sizes) t A v xs are,
)

-- the stores of the master's words
pub touches_leave_stores : (t : ℕ) (A : List Step) (v : View) (xs : List Step) → AreTouches t v xs → stores_of (A ++ xs) ≡ stores_of A
touches_leave_stores = touches_leave stores_of (λ B s h. stores-stay B s h.raises_none h.shifts_none h.bumps_none h.dones_none)

-- and the slots' stamps
pub touches_leave_stamps : (n stamp t : ℕ) (A : List Step) (v : View) (xs : List Step) → AreTouches t v xs → (acquires_in (A ++ xs) ≡ acquires_in A) × (slot_stamps n stamp (A ++ xs) ≡ slot_stamps n stamp A)
touches_leave_stamps n stamp t A v xs are = (
  touches_leave acquires_in (λ B s h. acquires_in-stay B s h.stamps_none) t A v xs are,
  touches_leave (slot_stamps n stamp) (λ B s h. slot_stamps-stay n stamp B s h.stamps_none) t A v xs are,
)

-- no touches leave a view as it was
pub no_touch : (t : ℕ) (v : View) (xs : List Step) → xs ≡ [] → (v ≡ view_after v xs) × AreTouches t v xs
unfolding view_after AreTouches
no_touch t v xs e = subst (λ (z : List Step). (v ≡ view_after v z) × AreTouches t v z) (sym e) (refl, tt)

-- touches, and one more
pub touches_more : (t : ℕ) (v : View) (xs : List Step) (s : Step) → AreTouches t v xs → IsTouch t (view_after v xs) s → AreTouches t v (xs ++ s ∷ []) × (view_after v (xs ++ s ∷ []) ≡ view_past (view_after v xs) s)
unfolding AreTouches view_after
touches_more t v [] s are one = ((one, tt), refl)
touches_more t v (x ∷ xs) s are one = let rest = touches_more t (view_past v x) xs s are.1 one in ((are.0, rest.0), rest.1)

-- no touch leaves a view with another tail, and looks never bring less
pub touches_rise : (t : ℕ) (v : View) (xs : List Step) → AreTouches t v xs → (v.read_only ≤ (view_after v xs).read_only) × (v.head ≤ (view_after v xs).head) × ((view_after v xs).tail ≡ v.tail)
unfolding AreTouches view_after
touches_rise t v [] are = (omega arith, omega arith, refl)
touches_rise t v (Look u r h ∷ xs) are =
    let rest = touches_rise t (view_past v (Look u r h)) xs are.1 in
    (omega (arith, rest.0, are.0.1), omega (arith, rest.1, are.0.2), rest.2)
touches_rise t v (Write u a x ∷ xs) are = touches_rise t v xs are.1
touches_rise t v (_ ∷ xs) are = absurd are.0

-- a slot never saw a tail above the present one
pub seen_tail-le : (sizes : Sizes) (t : ℕ) (A : List Step) → 0 < sizes.page_size → IsAccepted sizes A → seen_tail sizes t A ≤ tail sizes A
unfolding seen_tail
seen_tail-le sizes t A some a =
    let n : ℕ = max (mark t A) (until_last (allocates t) A) in
    let whole : take n A ++ drop n A ≡ A = take-append-drop n A in
    let le : tail sizes (take n A) ≤ tail sizes (take n A ++ drop n A) = tail-append sizes (take n A) (drop n A) some (subst (λ (z : List Step). IsAccepted sizes z) (sym whole) a) in
    omega (arith, le, ap (tail sizes) whole)
