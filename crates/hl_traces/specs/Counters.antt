-- A counter in a log: what is left at an address at which all threads only add.
use Rattle.std.specs.Prelude.{ℕ, ◌≡◌, ◌≢◌, ◌<◌, ◌+◌, ◌%◌, ◌^◌, ◌⊎◌, List, [], ◌∷◌, length, Some, slice_get}
use Rattle.std.specs.List.{AllByRecursion, sum}
use Rattle.hl_traces.specs.declared.act.Act.{Act}
use Rattle.hl_traces.specs.declared.act.Act.TheVariants.{Stored, Changed}
use Rattle.hl_traces.specs.OneTrace.{acts_by, left_at, ActBy, AreOne}

-- modulo 2^64 these acts added this to the word at an address, and stored nothing there but by adding
abbrev pub AddsAt : ℕ → ℕ → List Act → Type 0
AddsAt a total [] = total ≡ 0
AddsAt a total (Stored b v ∷ before) = (b ≢ a) × AddsAt a total before
AddsAt a total (Changed b found v ∷ before) = ((b ≢ a) × AddsAt a total before)
    ⊎ ((b ≡ a) × ((more : ℕ) × (rest : ℕ) × (total ≡ (rest + more) % 2 ^ 64)
    × (v ≡ (found + more) % 2 ^ 64) × AddsAt a rest before))
AddsAt a total (_ ∷ before) = AddsAt a total before

-- In one trace the word at an address, where each thread added this and did nothing else there, is the sum
-- modulo 2^64
abbrev pub CountersAreSums : Type 0
CountersAreSums = (all : List ActBy) (a : ℕ) (totals : List ℕ) → AreOne all
    → AllByRecursion (λ t. t.thread < length totals) all
    → ((i total : ℕ) → slice_get totals i ≡ Some total → AddsAt a total (acts_by i all))
    → left_at a all ≡ sum totals % 2 ^ 64
