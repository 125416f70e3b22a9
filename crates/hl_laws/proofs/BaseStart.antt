-- The base of no steps.
use Rattle.std.proofs.Common.{◌≡◌, ℕ, zero, suc, ◌+◌, ◌*◌, ◌<◌, ◌≤◌, ltb, is_some, List, [], ◌∷◌, map, replicate, refl, sym, ap, ap₂, ◌∙◌, mul-zero, arith}
use Rattle.std.specs.Prelude.{Option, None, option_map}
use Rattle.std.specs.List.{range_with_len}
use Rattle.std.proofs.lemmas.Bool.{le-ltb}
use Rattle.hl_model.specs.declared.action.Waiting.{Waiting}
use Rattle.hl_model.specs.declared.frame.Held.{Held}
use Rattle.hl_model.specs.declared.slot.Slot.{Slot}
use Rattle.hl_model.specs.declared.view.Six.{Six}
use Rattle.hl_model.specs.Sizes.{Sizes, AreInRange}
use Rattle.hl_model.specs.Settled.{safe_read_only, closed, settles, closes}
use Rattle.hl_model.specs.Lists.{greatest}
use Rattle.hl_model.specs.Pages.{flushed_run, flushed}
use Rattle.hl_model.specs.Snapshots.{six}
use Rattle.hl_model.specs.Bases.{slot_of, marked, held_of, base_of}
use Rattle.hl_laws.proofs.ActionLaws.{pending-nil, taken-nil}
use Rattle.hl_laws.proofs.EpochLaws.{current_epoch-nil, slot_epoch-nil, is_protected-slot_epoch}
use Rattle.hl_laws.proofs.FrameLaws.{last_entered-none}
use Rattle.hl_laws.proofs.OffsetLaws.{read_only-nil, head-nil, tail-nil}
use Rattle.hl_laws.proofs.SettledLaws.{done_greatest-nil}

-- a row of numbers that all give the same
pub row_same : {X : Type 0} (f : ℕ → X) (x : X) (a n : ℕ) → ((t : ℕ) → a ≤ t → t < a + n → f t ≡ x) → replicate n x ≡ map f (range_with_len a n)
row_same f x a zero h = refl
row_same f x a (suc n) h = ap₂ (λ y l. y ∷ l) (sym (h a (omega arith) (omega arith))) (row_same f x (a + 1) n (λ t l u. h t (omega (arith, l)) (omega (arith, u))))

slot_of-nil : (sizes : Sizes) (t : ℕ) → slot_of sizes t [] ≡ None
unfolding slot_of
slot_of-nil sizes t = rw (is_protected-slot_epoch t [] ∙ ap (λ (o : Option ℕ). is_some o) (slot_epoch-nil t)) refl

pub held_of-nil : (sizes : Sizes) (f : ℕ) → 0 < sizes.page_size → f < sizes.frames → held_of sizes [] f ≡ None
held_of-nil sizes f page_size lt =
    ap (option_map (marked sizes [])) (last_entered-none sizes f [] page_size lt (ap (ltb (f * sizes.page_size)) (tail-nil sizes) ∙ le-ltb (f * sizes.page_size) 0 (omega arith)))

flushed-nil : (sizes : Sizes) → flushed sizes [] ≡ 0
unfolding flushed_run greatest
flushed-nil sizes = mul-zero sizes.page_size

six-nil : (sizes : Sizes) → record { closed = 0; head = 0; flushed = 0; safe_read_only = 0; read_only = 0; tail = 0 } ≡ six sizes []
six-nil sizes =
    let closed_is : closed [] ≡ 0 = done_greatest-nil closes in
    let safe_is : safe_read_only [] ≡ 0 = done_greatest-nil settles in
    rw (closed_is, head-nil, flushed-nil sizes, safe_is, read_only-nil, tail-nil sizes) refl

-- the quantities of no steps
pub base_of-nil : (sizes : Sizes) → AreInRange sizes → record { sizes = sizes; epoch = 1; slots = replicate sizes.slots None; waiting = []; taken = []; six = record { closed = 0; head = 0; flushed = 0; safe_read_only = 0; read_only = 0; tail = 0 }; frames = replicate sizes.frames None } ≡ base_of sizes []
unfolding base_of
base_of-nil sizes r =
    let page_size : 0 < sizes.page_size = omega (arith, r.page_size_least) in
    let slots = row_same (λ t. slot_of sizes t []) None 0 sizes.slots (λ t l u. slot_of-nil sizes t) in
    let frames = row_same (held_of sizes []) None 0 sizes.frames (λ f l u. held_of-nil sizes f page_size (omega (arith, u))) in
    rw (current_epoch-nil, pending-nil, taken-nil, ← slots, ← frames) (ap (λ (z : Six). record { sizes = sizes; epoch = 1; slots = replicate sizes.slots None; waiting = []; taken = []; six = z; frames = replicate sizes.frames None }) (six-nil sizes))

make : ℕ → ℕ → ℕ → ℕ → ℕ → ℕ → Six
make a b c d e f = record { closed = a; head = b; flushed = c; safe_read_only = d; read_only = e; tail = f }

pub all_zeros : (z : Six) → z.closed ≡ 0 → z.head ≡ 0 → z.flushed ≡ 0 → z.safe_read_only ≡ 0 → z.read_only ≡ 0 → z.tail ≡ 0 → z ≡ record { closed = 0; head = 0; flushed = 0; safe_read_only = 0; read_only = 0; tail = 0 }
unfolding make
all_zeros z a b c d e f =
    let same : make z.closed z.head z.flushed z.safe_read_only z.read_only z.tail ≡ make 0 0 0 0 0 0 = rw (a, b, c, d, e, f) refl in
    same

-- rows that were made for no steps are such quantities
pub opening-base : (sizes : Sizes) (slots : List (Option Slot)) (waiting taken : List Waiting) (zeros : Six) (frames : List (Option Held)) → AreInRange sizes → slots ≡ replicate sizes.slots None → waiting ≡ [] → taken ≡ [] → zeros ≡ record { closed = 0; head = 0; flushed = 0; safe_read_only = 0; read_only = 0; tail = 0 } → frames ≡ replicate sizes.frames None → record { sizes = sizes; epoch = 1; slots = slots; waiting = waiting; taken = taken; six = zeros; frames = frames } ≡ base_of sizes []
opening-base sizes slots waiting taken zeros frames r s w t z f = rw (s, w, t, z, f) (base_of-nil sizes r)
