-- The fault that each step meets at the base of an accepted list.
use Rattle.std.proofs.Common.{◌≡◌, ℕ, ◌-◌, ◌/◌, ◌<◌, Bool, true, false, cond, not, ◌||◌, leb, ltb, is_some, List, [], ◌∷◌, length, map, refl, sym, ap, ap₂, ◌∙◌}
use Rattle.std.specs.Prelude.{◌==◌, Option, Some, None, option_map}
use Rattle.std.specs.List.{range_with_len}
use Rattle.std.proofs.lemmas.Bool.{leb-false}
use Rattle.hl_model.specs.declared.fault.Fault.{Fault}
use Rattle.hl_model.specs.declared.fault.Fault.TheVariants.{NoSlot, Occupied, NotProtected, DrainFull, EpochsSpent, Empty, NotReady, NotTaken, Busy, NoneSealed, NotInFlight, NoneClosed, NotCleaning, WindowFull}
use Rattle.hl_model.specs.declared.slot.Slot.{Slot}
use Rattle.hl_model.specs.declared.step.Step.{Step}
use Rattle.hl_model.specs.declared.step.Step.TheVariants.{Acquire, Refresh, Release, Bump, Settle, Close, Bare, Take, Done, Raise, Shift, Allocate, Look, Write, Read, FlushTake, FlushDone, CleanTake, CleanDone}
use Rattle.hl_model.specs.declared.view.View.{View}
use Rattle.hl_model.specs.Sizes.{Sizes}
use Rattle.hl_model.specs.Epochs.{epoch_window, current_epoch, is_protected, epoch_of, slot_epoch, slot_epochs, safe_among, safe_epoch}
use Rattle.hl_model.specs.Actions.{pending, front}
use Rattle.hl_model.specs.Offsets.{is_entered, tail, place_of}
use Rattle.hl_model.specs.Settled.{safe_read_only, closed, pages_below}
use Rattle.hl_model.specs.Views.{view_of}
use Rattle.hl_model.specs.Pages.{is_flushed, is_in_flight, is_freed, is_cleaning, next_page, next_to_flush, next_to_clean}
use Rattle.hl_model.specs.Replies.{epoch_last, acquire_fault, protected_fault, bare_fault, bump_fault, take_fault, or_fault, size_fault, page_fault, allocate_fault, unless_page, fault_of, IsAccepted}
use Rattle.hl_model.specs.Bases.{base_of, slot_of, slot_in, safe_in, flushed_in, in_flight_in, freed_in, cleaning_in, to_flush_in, to_clean_in}
use Rattle.hl_model.specs.AfterReplies.{acquire_fault_at, seen_fault, view_fault_at, bare_fault_at, bump_fault_at, take_fault_at, page_fault_at, allocate_fault_at, look_fault_of, write_fault_of, read_fault_of, fault_at}
use Rattle.hl_laws.proofs.AppendLaws.{find-same}
use Rattle.hl_laws.proofs.CutRows.{flushed_in-is, freed_in-is, in_flight_in-is, cleaning_in-is}
use Rattle.hl_laws.proofs.CutViews.{slot_in-is}
use Rattle.hl_laws.proofs.DrainLaws.{is_full-both}
use Rattle.hl_laws.proofs.LawProofs.{taken_are_those_listed}
use Rattle.hl_laws.proofs.RowLaws.{rows_same}

-- a slot that there is: the fault is told by what it has
among_slots : (n t : ℕ) (f g : Option Fault) → (t < n → f ≡ g) → cond (leb n t) (Some NoSlot) f ≡ cond (leb n t) (Some NoSlot) g
among_slots n t f g h = by_test (leb n t) refl
  where
    by_test : (b : Bool) → leb n t ≡ b → cond b (Some NoSlot) f ≡ cond b (Some NoSlot) g
    by_test true e = refl
    by_test false e = h (leb-false n t e)

some_core : (b : Bool) (slot : Slot) → is_some (cond b (Some slot) None) ≡ b
some_core true slot = refl
some_core false slot = refl

-- a slot has something where it is protected
slot_of-some : (sizes : Sizes) (t : ℕ) (A : List Step) → is_some (slot_of sizes t A) ≡ is_protected t A
unfolding slot_of
slot_of-some sizes t A = some_core (is_protected t A) (record { epoch = epoch_of t A; view = view_of sizes t A })

acquire-is : (sizes : Sizes) (A : List Step) (t : ℕ) → acquire_fault_at (base_of sizes A) t ≡ acquire_fault sizes A t
unfolding base_of
acquire-is sizes A t =
    among_slots sizes.slots t (cond (is_some (slot_in (base_of sizes A) t)) (Some Occupied) None) (cond (is_protected t A) (Some Occupied) None)
    (λ lt. ap (λ b. cond b (Some Occupied) None) (ap is_some (slot_in-is sizes A t lt) ∙ slot_of-some sizes t A))

seen_core : (fault : View → Option Fault) (b : Bool) (slot : Slot) → seen_fault fault (cond b (Some slot) None) ≡ cond b (fault slot.view) (Some NotProtected)
seen_core fault true slot = refl
seen_core fault false slot = refl

or_core : (b c : Bool) (f : Option Fault) → cond b (Some NoSlot) (cond c f (Some NotProtected)) ≡ or_fault (cond b (Some NoSlot) (cond c None (Some NotProtected))) f
or_core true c f = refl
or_core false true f = refl
or_core false false f = refl

-- a step that wants slot t protected, and then one fault that its view gives
view-is : (sizes : Sizes) (A : List Step) (t : ℕ) (fault : View → Option Fault) → view_fault_at (base_of sizes A) t fault ≡ or_fault (protected_fault sizes A t) (fault (view_of sizes t A))
unfolding base_of slot_of
view-is sizes A t fault =
    among_slots sizes.slots t (seen_fault fault (slot_in (base_of sizes A) t)) (cond (is_protected t A) (fault (view_of sizes t A)) (Some NotProtected))
    (λ lt. ap (seen_fault fault) (slot_in-is sizes A t lt) ∙ seen_core fault (is_protected t A) (record { epoch = epoch_of t A; view = view_of sizes t A }))
    ∙ or_core (leb sizes.slots t) (is_protected t A) (fault (view_of sizes t A))

-- no fault besides
or_fault-nothing : (f : Option Fault) → or_fault f None ≡ f
or_fault-nothing None = refl
or_fault-nothing (Some f) = refl

map_twice : {X Y Z : Type 0} (f : Y → Z) (g : X → Y) (xs : List X) → map f (map g xs) ≡ map (λ x. f (g x)) xs
map_twice f g [] = refl
map_twice f g (x ∷ xs) = ap (λ l. f (g x) ∷ l) (map_twice f g xs)

epoch_core : (b : Bool) (slot : Slot) → option_map (λ s. s.epoch) (cond b (Some slot) None) ≡ cond b (Some slot.epoch) None
epoch_core true slot = refl
epoch_core false slot = refl

-- the epoch of what a slot has
pub slot_of-epoch : (sizes : Sizes) (t : ℕ) (A : List Step) → option_map (λ slot. slot.epoch) (slot_of sizes t A) ≡ slot_epoch t A
unfolding slot_of slot_epoch
slot_of-epoch sizes t A = epoch_core (is_protected t A) (record { epoch = epoch_of t A; view = view_of sizes t A })

-- the safe epoch
pub safe_in-is : (sizes : Sizes) (A : List Step) → safe_in (base_of sizes A) ≡ safe_epoch sizes.slots A
unfolding base_of safe_epoch slot_epochs
safe_in-is sizes A =
    ap (safe_among (current_epoch A))
    (map_twice (option_map (λ slot. slot.epoch)) (λ t. slot_of sizes t A) (range_with_len 0 sizes.slots)
    ∙ rows_same (λ t. option_map (λ slot. slot.epoch) (slot_of sizes t A)) (λ t. slot_epoch t A) sizes.slots
    (λ t. slot_of-epoch sizes t A))

bare-is : (sizes : Sizes) (A : List Step) → bare_fault_at (base_of sizes A) ≡ bare_fault sizes A
unfolding base_of
bare-is sizes A =
    ap (λ safe. cond (current_epoch A == epoch_last) (Some EpochsSpent) (cond (current_epoch A - 1 - safe == epoch_window) (Some WindowFull) None)) (safe_in-is sizes A)

bump-is : (sizes : Sizes) (A : List Step) → IsAccepted sizes A → bump_fault_at (base_of sizes A) ≡ bump_fault sizes A
unfolding base_of
bump-is sizes A a = ap₂ (λ b f. cond b (Some DrainFull) f) (sym (is_full-both sizes sizes.drain A a)) (bare-is sizes A)

take-is : (sizes : Sizes) (A : List Step) → take_fault_at (base_of sizes A) ≡ take_fault sizes A
unfolding base_of
take-is sizes A =
    ap (λ safe. cond (length (pending A) == 0) (Some Empty) (cond (ltb safe (front A)) (Some (NotReady (front A) safe)) None)) (safe_in-is sizes A)

done-is : (sizes : Sizes) (A : List Step) (c : ℕ) → IsAccepted sizes A → fault_at (base_of sizes A) (Done c) ≡ fault_of sizes A (Done c)
unfolding base_of
done-is sizes A c a = ap (λ b. cond b None (Some NotTaken)) (sym (taken_are_those_listed sizes A c a))

may_core : (a b c : Bool) → (a || b || c) ≡ (a || cond b true c)
may_core true b c = refl
may_core false true c = refl
may_core false false c = refl

page-is : (sizes : Sizes) (A : List Step) (q : ℕ) → IsAccepted sizes A → page_fault_at (base_of sizes A) q ≡ page_fault sizes A q
unfolding base_of
page-is sizes A q a =
    ap (λ b. cond b None (Some (Busy q)))
    (ap (λ c. is_entered sizes q A || ltb q sizes.frames || c) (freed_in-is sizes A (q - sizes.frames) a)
    ∙ may_core (is_entered sizes q A) (ltb q sizes.frames) (is_freed sizes (q - sizes.frames) A))

allocate-is : (sizes : Sizes) (A : List Step) (n : ℕ) → IsAccepted sizes A → allocate_fault_at (base_of sizes A) n ≡ allocate_fault sizes A n
unfolding base_of
allocate-is sizes A n a = ap (or_fault (size_fault sizes.page_size (tail sizes A) n)) (page-is sizes A (place_of sizes.page_size (tail sizes A) n / sizes.page_size) a)

-- the page to flush
pub to_flush_in-is : (sizes : Sizes) (A : List Step) → IsAccepted sizes A → to_flush_in (base_of sizes A) ≡ next_to_flush sizes A
unfolding base_of next_page
to_flush_in-is sizes A a =
    find-same (λ p. not (flushed_in (base_of sizes A) p || in_flight_in (base_of sizes A) p)) (λ p. not (is_flushed sizes p A || is_in_flight sizes p A)) (range_with_len 0 (pages_below sizes (safe_read_only A)))
    (λ p. ap₂ (λ b c. not (b || c)) (flushed_in-is sizes A p a) (in_flight_in-is sizes A p a))

-- the page to clean
pub to_clean_in-is : (sizes : Sizes) (A : List Step) → IsAccepted sizes A → to_clean_in (base_of sizes A) ≡ next_to_clean sizes A
unfolding base_of next_page
to_clean_in-is sizes A a =
    find-same (λ p. not (freed_in (base_of sizes A) p || cleaning_in (base_of sizes A) p)) (λ p. not (is_freed sizes p A || is_cleaning sizes p A)) (range_with_len 0 (pages_below sizes (closed A)))
    (λ p. ap₂ (λ b c. not (b || c)) (freed_in-is sizes A p a) (cleaning_in-is sizes A p a))

-- the fault of each step
pub fault_at-is : (sizes : Sizes) (A : List Step) (s : Step) → IsAccepted sizes A → fault_at (base_of sizes A) s ≡ fault_of sizes A s
unfolding base_of
fault_at-is sizes A (Acquire t) a = acquire-is sizes A t
fault_at-is sizes A (Refresh t) a = view-is sizes A t (λ view. None) ∙ or_fault-nothing (protected_fault sizes A t)
fault_at-is sizes A (Release t) a = view-is sizes A t (λ view. None) ∙ or_fault-nothing (protected_fault sizes A t)
fault_at-is sizes A (Bump tag) a = bump-is sizes A a
fault_at-is sizes A Settle a = bump-is sizes A a
fault_at-is sizes A Close a = bump-is sizes A a
fault_at-is sizes A Bare a = bare-is sizes A
fault_at-is sizes A Take a = take-is sizes A
fault_at-is sizes A (Done c) a = done-is sizes A c a
fault_at-is sizes A (Raise x) a = refl
fault_at-is sizes A (Shift x) a = refl
fault_at-is sizes A (Allocate t n) a =
    view-is sizes A t (λ view. allocate_fault_at (base_of sizes A) n) ∙ ap (or_fault (protected_fault sizes A t)) (allocate-is sizes A n a)
fault_at-is sizes A (Look t r h) a = view-is sizes A t (look_fault_of r h)
fault_at-is sizes A (Write t x v) a = view-is sizes A t (write_fault_of x)
fault_at-is sizes A (Read t x) a = view-is sizes A t (read_fault_of x)
fault_at-is sizes A FlushTake a = ap (unless_page NoneSealed) (to_flush_in-is sizes A a)
fault_at-is sizes A (FlushDone page ok) a = ap (λ b. cond b None (Some NotInFlight)) (in_flight_in-is sizes A page a)
fault_at-is sizes A CleanTake a = ap (unless_page NoneClosed) (to_clean_in-is sizes A a)
fault_at-is sizes A (CleanDone page) a = ap (λ b. cond b None (Some NotCleaning)) (cleaning_in-is sizes A page a)
