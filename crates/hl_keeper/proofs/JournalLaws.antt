-- When a journal has room.
use Rattle.std.proofs.Common.{◌≡◌, ℕ, ◌+◌, ◌≤◌, Bool, cond, ltb, List, ◌++◌, length, refl, sym, ap, ◌∙◌, arith, append_assoc, length-append}
use Rattle.std.specs.Prelude.{◌||◌, Some, None}
use Rattle.std.proofs.lemmas.Bool.{ltb-false, le-ltb, or_parts}
use Rattle.hl_model.specs.declared.fault.Fault.TheVariants.{JournalFull}
use Rattle.hl_model.specs.declared.step.Step.{Step}
use Rattle.hl_model.specs.Replies.{unless_fault}
use Rattle.hl_laws.proofs.NoFaultLaws.{later_fault}
use Rattle.hl_keeper.specs.Keepers.{steps_most}
use Rattle.hl_keeper.specs.Journals.{JournalState, full_fault, with_steps}

-- a journal with these steps in place of its own
abbrev with_all : JournalState → List Step → JournalState
with_all j xs = record { base = j.base; cut = j.cut; steps = xs; limit = j.limit }

-- what it is that n more steps have room
pub full-none : (j : JournalState) (n : ℕ) → full_fault j n ≡ None → (length j.steps + n ≤ j.limit) × (j.cut + length j.steps + n ≤ steps_most)
unfolding full_fault
full-none j n h =
    let tests = later_fault (ltb j.limit (length j.steps + n) || ltb steps_most (j.cut + length j.steps + n)) JournalFull None h in
    let both = or_parts (ltb j.limit (length j.steps + n)) (ltb steps_most (j.cut + length j.steps + n)) tests.0 in
    (ltb-false j.limit (length j.steps + n) both.0, ltb-false steps_most (j.cut + length j.steps + n) both.1)

none-full : (j : JournalState) (n : ℕ) → length j.steps + n ≤ j.limit → j.cut + length j.steps + n ≤ steps_most → full_fault j n ≡ None
unfolding full_fault
none-full j n fits counted = rw (le-ltb j.limit (length j.steps + n) fits, le-ltb steps_most (j.cut + length j.steps + n) counted) refl

-- where more have room
pub room_fewer : (j : JournalState) (m n : ℕ) → full_fault j m ≡ None → n ≤ m → full_fault j n ≡ None
room_fewer j m n h le = let most = full-none j m h in none-full j n (omega (arith, most.0, le)) (omega (arith, most.1, le))

-- behind some of those that have room
pub room_behind : (j : JournalState) (xs : List Step) (m n : ℕ) → full_fault j m ≡ None → length xs + n ≤ m → full_fault (with_steps xs j) n ≡ None
room_behind j xs m n h le =
    let most = full-none j m h in
    let len : length (j.steps ++ xs) ≡ length j.steps + length xs = length-append j.steps xs in
    none-full (with_steps xs j) n (omega (arith, most.0, le, len)) (omega (arith, most.1, le, len))

-- steps behind steps
pub steps_assoc : (j : JournalState) (xs ys : List Step) → with_steps ys (with_steps xs j) ≡ with_steps (xs ++ ys) j
steps_assoc j xs ys = ap (with_all j) (append_assoc j.steps xs ys)

-- whether there is room, told by the test of it
pub room_told : (j : JournalState) (n : ℕ) (b c : Bool) → b ≡ (ltb j.limit (length j.steps + n) || ltb steps_most (j.cut + length j.steps + n)) → b ≡ c → unless_fault (cond c (Some JournalFull) None) (tt {0}) ≡ unless_fault (full_fault j n) (tt {0})
unfolding full_fault
room_told j n b c e t = ap (λ d. unless_fault (cond d (Some JournalFull) None) (tt {0})) (sym t ∙ e)
