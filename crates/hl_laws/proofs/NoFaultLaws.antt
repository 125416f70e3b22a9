-- What it says of a step that it meets no fault.
use Rattle.std.proofs.Common.{◌≡◌, ℕ, ◌+◌, ◌<◌, ◌≤◌, ◌^◌, ◌%◌, ◌/◌, Bool, true, false, cond, leb, ltb, List, ◌||◌, refl, arith}
use Rattle.std.specs.Prelude.{◌==◌, Option, Some, None, Ok, Err}
use Rattle.std.proofs.lemmas.Bool.{eqb-true, eqb-false, ltb-false, leb-false, or_parts, lt-leb, eq-eqb, le-ltb}
use Rattle.hl_model.specs.declared.fault.Fault.{Fault}
use Rattle.hl_model.specs.declared.fault.Fault.TheVariants.{NoSlot, NotProtected, Stale, NotAbove, AboveTail, NotPage, AboveFlushed, Size, SpaceSpent, Below, Evicted, Beyond}
use Rattle.hl_model.specs.declared.step.Step.{Step}
use Rattle.hl_model.specs.declared.step.Step.TheVariants.{Raise, Shift, Allocate, Look, Write, Read}
use Rattle.hl_model.specs.Sizes.{Sizes}
use Rattle.hl_model.specs.Epochs.{is_protected}
use Rattle.hl_model.specs.Offsets.{read_only, head, tail, place_of}
use Rattle.hl_model.specs.Views.{seen_read_only, seen_head, seen_tail}
use Rattle.hl_model.specs.Pages.{flushed}
use Rattle.hl_model.specs.Replies.{protected_fault, or_fault, size_fault, page_fault, allocate_fault, look_fault, beyond_fault, write_fault, read_fault, fault_of, unless_fault, shift_fault}

-- no fault of two: neither is there
pub or_fault-none : (first second : Option Fault) → or_fault first second ≡ None → (first ≡ None) × (second ≡ None)
or_fault-none None second h = (refl, h)
or_fault-none (Some f) second h = cc

-- an answer that is a fault
pub unless_err : {X : Type 0} (o : Option Fault) (f : Fault) (x : X) → Err f ≡ unless_fault o x → o ≡ Some f
unless_err None f x h = cc
unless_err (Some g) f x h = cc

-- an answer that is none
pub unless_ok : {X : Type 0} (o : Option Fault) (v x : X) → Ok v ≡ unless_fault o x → (o ≡ None) × (v ≡ x)
unless_ok None v x h = (refl, cc)
unless_ok (Some g) v x h = cc

-- no fault of a test, and none of what comes behind it
pub later_fault : (b : Bool) (f : Fault) (rest : Option Fault) → cond b (Some f) rest ≡ None → (b ≡ false) × (rest ≡ None)
later_fault true f rest h = cc
later_fault false f rest h = (refl, h)

-- no fault where a test has to hold
pub met_fault : (b : Bool) (f : Fault) (rest : Option Fault) → cond b rest (Some f) ≡ None → (b ≡ true) × (rest ≡ None)
met_fault true f rest h = (refl, h)
met_fault false f rest h = cc

-- a step that wants slot t protected: there is the slot, and it is
pub protected-none : (sizes : Sizes) (A : List Step) (t : ℕ) → protected_fault sizes A t ≡ None → (t < sizes.slots) × (is_protected t A ≡ true)
protected-none sizes A t h =
    let outer : (leb sizes.slots t ≡ false) × (cond (is_protected t A) None (Some NotProtected) ≡ None) = later_fault (leb sizes.slots t) NoSlot (cond (is_protected t A) None (Some NotProtected)) h in
    (leb-false sizes.slots t outer.0, (met_fault (is_protected t A) NotProtected None outer.1).0)

-- a raise: above the read-only offset, and at most the tail
pub raise-none : (sizes : Sizes) (A : List Step) (x : ℕ) → fault_of sizes A (Raise x) ≡ None → (read_only A < x) × (x ≤ tail sizes A)
raise-none sizes A x h =
    let outer : (leb x (read_only A) ≡ false) × (cond (ltb (tail sizes A) x) (Some AboveTail) None ≡ None) = later_fault (leb x (read_only A)) NotAbove (cond (ltb (tail sizes A) x) (Some AboveTail) None) h in
    (leb-false x (read_only A) outer.0, ltb-false (tail sizes A) x (later_fault (ltb (tail sizes A) x) AboveTail None outer.1).0)

-- a shift: above the head, a whole number of pages, and at most the flushed offset
pub shift-none : (sizes : Sizes) (A : List Step) (x : ℕ) → fault_of sizes A (Shift x) ≡ None → (head A < x) × (x % sizes.page_size ≡ 0) × (x ≤ flushed sizes A)
shift-none sizes A x h =
    let outer : (leb x (head A) ≡ false) × (cond (x % sizes.page_size == 0) (cond (ltb (flushed sizes A) x) (Some AboveFlushed) None) (Some NotPage) ≡ None)
    = later_fault (leb x (head A)) NotAbove (cond (x % sizes.page_size == 0) (cond (ltb (flushed sizes A) x) (Some AboveFlushed) None) (Some NotPage)) h in
    let inner : ((x % sizes.page_size == 0) ≡ true) × (cond (ltb (flushed sizes A) x) (Some AboveFlushed) None ≡ None)
    = met_fault (x % sizes.page_size == 0) NotPage (cond (ltb (flushed sizes A) x) (Some AboveFlushed) None) outer.1 in
    (leb-false x (head A) outer.0, eqb-true (x % sizes.page_size) 0 inner.0, ltb-false (flushed sizes A) x (later_fault (ltb (flushed sizes A) x) AboveFlushed None inner.1).0)

-- and a shift is lawful above the head and up to the flushed offset, where a page begins
pub shift_lawful : (page_size head flushed x : ℕ) → head < x → x % page_size ≡ 0 → x ≤ flushed → shift_fault page_size head flushed x ≡ None
shift_lawful page_size head flushed x above whole most =
    rw (lt-leb x head above, eq-eqb (x % page_size) 0 whole, le-ltb flushed x most) refl

-- a record: of some words, at most those of a page, and its end is an address
pub size-none : (page_size tail n : ℕ) → size_fault page_size tail n ≡ None → (0 < n) × (n ≤ page_size) × (place_of page_size tail n + n ≤ 2 ^ 48)
size-none page_size tail n h =
    let outer : (((n == 0) || ltb page_size n) ≡ false) × (cond (ltb (2 ^ 48) (place_of page_size tail n + n)) (Some SpaceSpent) None ≡ None)
    = later_fault ((n == 0) || ltb page_size n) Size (cond (ltb (2 ^ 48) (place_of page_size tail n + n)) (Some SpaceSpent) None) h in
    let parts : ((n == 0) ≡ false) × (ltb page_size n ≡ false) = or_parts (n == 0) (ltb page_size n) outer.0 in
    (omega (arith, eqb-false n 0 parts.0), ltb-false page_size n parts.1, ltb-false (2 ^ 48) (place_of page_size tail n + n) (later_fault (ltb (2 ^ 48) (place_of page_size tail n + n)) SpaceSpent None outer.1).0)

-- an allocation: the slot is protected, the record is of a size, and its page may be entered
pub allocate-none : (sizes : Sizes) (A : List Step) (t n : ℕ) → fault_of sizes A (Allocate t n) ≡ None → (protected_fault sizes A t ≡ None) × (size_fault sizes.page_size (tail sizes A) n ≡ None) × (page_fault sizes A (place_of sizes.page_size (tail sizes A) n / sizes.page_size) ≡ None)
allocate-none sizes A t n h =
    let outer : (protected_fault sizes A t ≡ None) × (allocate_fault sizes A n ≡ None) = or_fault-none (protected_fault sizes A t) (allocate_fault sizes A n) h in
    let inner : (size_fault sizes.page_size (tail sizes A) n ≡ None) × (page_fault sizes A (place_of sizes.page_size (tail sizes A) n / sizes.page_size) ≡ None)
    = or_fault-none (size_fault sizes.page_size (tail sizes A) n) (page_fault sizes A (place_of sizes.page_size (tail sizes A) n / sizes.page_size)) outer.1 in
    (outer.0, inner.0, inner.1)

-- a look: the slot is protected, and neither offset is below what it saw
pub look-none : (sizes : Sizes) (A : List Step) (t r h : ℕ) → fault_of sizes A (Look t r h) ≡ None → (protected_fault sizes A t ≡ None) × (seen_read_only t A ≤ r) × (seen_head t A ≤ h)
look-none sizes A t r h accepted =
    let outer : (protected_fault sizes A t ≡ None) × (look_fault A t r h ≡ None) = or_fault-none (protected_fault sizes A t) (look_fault A t r h) accepted in
    let tests : (ltb r (seen_read_only t A) ≡ false) × (ltb h (seen_head t A) ≡ false)
    = or_parts (ltb r (seen_read_only t A)) (ltb h (seen_head t A)) (later_fault (ltb r (seen_read_only t A) || ltb h (seen_head t A)) Stale None outer.1).0 in
    (outer.0, ltb-false r (seen_read_only t A) tests.0, ltb-false h (seen_head t A) tests.1)

-- an address below the tail that slot t saw
beyond-none : (sizes : Sizes) (A : List Step) (t a : ℕ) → beyond_fault sizes A t a ≡ None → a < seen_tail sizes t A
beyond-none sizes A t a h = leb-false (seen_tail sizes t A) a (later_fault (leb (seen_tail sizes t A) a) (Beyond (seen_tail sizes t A)) None h).0

-- a write: the slot is protected, and the address is from the read-only offset that it saw up to the tail that it saw
pub write-none : (sizes : Sizes) (A : List Step) (t a v : ℕ) → fault_of sizes A (Write t a v) ≡ None → (protected_fault sizes A t ≡ None) × (seen_read_only t A ≤ a) × (a < seen_tail sizes t A)
write-none sizes A t a v h =
    let outer : (protected_fault sizes A t ≡ None) × (write_fault sizes A t a ≡ None) = or_fault-none (protected_fault sizes A t) (write_fault sizes A t a) h in
    let inner : (ltb a (seen_read_only t A) ≡ false) × (beyond_fault sizes A t a ≡ None) = later_fault (ltb a (seen_read_only t A)) (Below (seen_read_only t A)) (beyond_fault sizes A t a) outer.1 in
    (outer.0, ltb-false a (seen_read_only t A) inner.0, beyond-none sizes A t a inner.1)

-- a read: the slot is protected, and the address is from the head that it saw up to the tail that it saw
pub read-none : (sizes : Sizes) (A : List Step) (t a : ℕ) → fault_of sizes A (Read t a) ≡ None → (protected_fault sizes A t ≡ None) × (seen_head t A ≤ a) × (a < seen_tail sizes t A)
read-none sizes A t a h =
    let outer : (protected_fault sizes A t ≡ None) × (read_fault sizes A t a ≡ None) = or_fault-none (protected_fault sizes A t) (read_fault sizes A t a) h in
    let inner : (ltb a (seen_head t A) ≡ false) × (beyond_fault sizes A t a ≡ None) = later_fault (ltb a (seen_head t A)) (Evicted (seen_head t A)) (beyond_fault sizes A t a) outer.1 in
    (outer.0, ltb-false a (seen_head t A) inner.0, beyond-none sizes A t a inner.1)
