-- What threads of one log return that they added to its counters, and what the counters' words are at the end. Counter c is
-- the word at address c.
use Rattle.std.specs.Prelude.{ℕ, ◌≡◌, ◌<◌, ◌+◌, ◌%◌, ◌^◌, ◌⊎◌, Bool, true, false, Some, None, List, ◌∷◌, map, Ok, slice_get, slice_index}
use Rattle.std.specs.List.{sum}
use Rattle.hl_traces.specs.declared.act.Act.{Act}
use Rattle.hl_traces.specs.declared.act.Act.TheVariants.{Changed}
use Rattle.hl_traces.specs.Counters.{AddsAt}
use Rattle.hl.specs.Devices.{Differs}
use Rattle.hl.specs.Sessions.{SessionState}
use Rattle.hl.specs.Traces.{Told}
use Rattle.example_counters.specs.declared.Counted.{Counted}
use Rattle.example_counters.specs.declared.TheConstants.{COUNTERS}

-- these acts added each of these sums to its counter, and did nothing else there
abbrev pub AddsEach : List ℕ → List Act → Type 0
AddsEach sums own = (counter : ℕ) → counter < COUNTERS → AddsAt counter (slice_index sums counter) own

-- what was done between the two added nothing
abbrev pub AddsNothing : List Act → List Act → Type 0
AddsNothing old new = (a total : ℕ) → AddsAt a total old → AddsAt a total new

-- a number was added to one counter, or not, and nothing else was done
abbrev pub AddsOne : ℕ → ℕ → Bool → List Act → List Act → Type 0
AddsOne counter number true old new =
    (found : ℕ) × (new ≡ Changed counter found ((found + number) % 2 ^ 64) ∷ old)
AddsOne counter number false old new = new ≡ old

-- a thread returns what it added to each counter, and did nothing else there
abbrev pub returns_sums : SessionState → SessionState → List ℕ → Type 0
returns_sums = Told (λ own sums. AddsEach sums own)

-- A log was closed whose threads added to its counters. If each thread returned a value, each counter's word at the end,
-- wherever it lies, is the sum of what they returned; or none was read, since two images on the device differ
abbrev pub AreCounted : Counted → Type 0
AreCounted counted = (all : List (List ℕ)) → counted.outs.items ≡ map (λ out. Ok out) all → (counter : ℕ)
    → counter < COUNTERS → counter < counted.ending.snapshot.six.tail
    → (slice_get counted.sums counter
    ≡ Some (Some (sum (map (λ sums. slice_index sums counter) all) % 2 ^ 64)))
    ⊎ ((slice_get counted.sums counter ≡ Some None) × ((page : ℕ) × Differs counted.device page))
