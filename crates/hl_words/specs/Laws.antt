-- What follows from the rule on cells. Each statement is the contract of a function of the module laws.
use Rattle.std.specs.Prelude.{ℕ, ◌≡◌, ◌≢◌, ◌+◌, ◌%◌, ◌^◌, ◌<◌, ◌≤◌, ◌==◌, ◌&&◌, not, ◌⊎◌, if◌then◌else◌, List, [], ◌∷◌, ◌++◌, map, length, Some, slice_get, slice_index}
use Rattle.std.specs.List.{sum, sum_by}
use Rattle.hl_words.specs.declared.view.Touch.{Touch}
use Rattle.hl_words.specs.declared.view.Touch.TheVariants.{Stored, Loaded, Changed, Called, Looked, Met}
use Rattle.hl_words.specs.declared.view.OffsetWords.{OffsetWords}
use Rattle.hl_words.specs.declared.view.RiderView.{RiderView}
use Rattle.hl_words.specs.Views.{newest, added}
use Rattle.hl_words.specs.Rule.{HasStore, EachRider, TouchBy, by_rider, IsSerial, IsRuled}

-- the list touches the cell by loads, and by adds of numbers that make this total
abbrev pub AddsUp : ℕ → ℕ → List Touch → Type 0
AddsUp c total [] = total ≡ 0
AddsUp c total (Stored d v ∷ before) = (d ≢ c) × AddsUp c total before
AddsUp c total (Loaded d v ∷ before) = AddsUp c total before
AddsUp c total (Changed d found v ∷ before) = ((d ≢ c) × AddsUp c total before)
    ⊎ ((d ≡ c) × ((more : ℕ) × (rest : ℕ) × (total ≡ rest + more) × (v ≡ (found + more) % 2 ^ 64)
    × AddsUp c rest before))
AddsUp c total (Called met left ∷ before) = AddsUp c total before
AddsUp c total (Looked which x ∷ before) = AddsUp c total before
AddsUp c total (Met name count ∷ before) = AddsUp c total before

-- an add to the cell adds its number to what a rider's touches of the cell add up to, whatever it found
abbrev pub AddsAddUp : Type 0
AddsAddUp = (c total more found : ℕ) (r : RiderView) → AddsUp c total r.touches
    → AddsUp c (total + more) (added c more found r).touches

-- No add is lost: where each rider touched a cell by loads and adds alone, the cell holds the sum of all
-- numbers added, modulo 2^64
abbrev pub NoAddIsLost : Type 0
NoAddIsLost = (cells : ℕ) (words : List ℕ) (stores : OffsetWords) (riders : List RiderView) (c : ℕ)
    (totals : List ℕ) → IsRuled cells words stores riders → c < cells → length totals ≡ length riders
    → EachRider (λ i r. (total : ℕ) → slice_get totals i ≡ Some total → AddsUp c total r.touches) riders
    → slice_index words c ≡ sum totals % 2 ^ 64

-- two riders that each found 0 in a cell and left 1 there, and did nothing else, are against the rule
abbrev pub LostAddIsUnlawful : Type 0
LostAddIsUnlawful = (cells : ℕ) (words : List ℕ) (stores : OffsetWords) (r q : RiderView) (c : ℕ)
    → r.touches ≡ Changed c 0 1 ∷ [] → q.touches ≡ Changed c 0 1 ∷ []
    → ¬ (IsRuled cells words stores (r ∷ q ∷ []))

-- Between two changes of a cell from one value to others a touch stores that value there, in each order in which
-- each touch finds what the newest store left; the list between the two stands newest first
abbrev pub TakesAreApart : Type 0
TakesAreApart = (c x v w i j : ℕ) (newer between older : List TouchBy)
    → IsSerial (newer ++ by_rider j (Changed c x v) ∷ (between ++ by_rider i (Changed c x w) ∷ older)) → w ≢ x
    → HasStore c x (map (λ t. t.touch) between)

-- how often the list changes the cell from this value to another
abbrev pub takes : ℕ → ℕ → List Touch → ℕ
takes c x [] = 0
takes c x (Stored d v ∷ before) = takes c x before
takes c x (Loaded d v ∷ before) = takes c x before
takes c x (Changed d found v ∷ before) =
    (if (d == c) && ((found == x) && not (v == x)) then 1 else 0) + takes c x before
takes c x (Called met left ∷ before) = takes c x before
takes c x (Looked which y ∷ before) = takes c x before
takes c x (Met name count ∷ before) = takes c x before

-- how often it stores this value there, by a store or a change
abbrev pub gives : ℕ → ℕ → List Touch → ℕ
gives c x [] = 0
gives c x (Stored d v ∷ before) = (if (d == c) && (v == x) then 1 else 0) + gives c x before
gives c x (Loaded d v ∷ before) = gives c x before
gives c x (Changed d found v ∷ before) = (if (d == c) && (v == x) then 1 else 0) + gives c x before
gives c x (Called met left ∷ before) = gives c x before
gives c x (Looked which y ∷ before) = gives c x before
gives c x (Met name count ∷ before) = gives c x before

-- All riders together changed a cell from one value to others at most as often as they stored that value there,
-- and once more where it is 0, which each cell holds at first
abbrev pub TakesAreGiven : Type 0
TakesAreGiven = (cells : ℕ) (words : List ℕ) (stores : OffsetWords) (riders : List RiderView) (c x : ℕ)
    → IsRuled cells words stores riders → sum_by (λ r. takes c x r.touches) riders
    ≤ sum_by (λ r. gives c x r.touches) riders + (if x == 0 then 1 else 0)

-- The list's touches of the cell met values that it held one after another, and never an older one after a newer;
-- the newest stands first in both lists
abbrev pub Meets : ℕ → List ℕ → List Touch → Type 0
Meets c values [] = Unit {0}
Meets c values (Stored d v ∷ before) = ((d ≢ c) × Meets c values before)
    ⊎ ((d ≡ c) × ((newer : List ℕ) × (older : List ℕ) × (values ≡ newer ++ v ∷ older) × Meets c older before))
Meets c values (Loaded d v ∷ before) = ((d ≢ c) × Meets c values before)
    ⊎ ((d ≡ c) × ((newer : List ℕ) × (older : List ℕ) × (values ≡ newer ++ older) × (v ≡ newest older)
    × Meets c older before))
Meets c values (Changed d found v ∷ before) = ((d ≢ c) × Meets c values before)
    ⊎ ((d ≡ c) × ((newer : List ℕ) × (older : List ℕ) × (values ≡ newer ++ v ∷ older)
    × (found ≡ newest older) × Meets c older before))
Meets c values (Called met left ∷ before) = Meets c values before
Meets c values (Looked which x ∷ before) = Meets c values before
Meets c values (Met name count ∷ before) = Meets c values before

-- Each cell has one list of the values stored there, which ends with what the cell holds, and no rider's touches of
-- the cell go back in it
abbrev pub NoRiderGoesBack : Type 0
NoRiderGoesBack = (cells : ℕ) (words : List ℕ) (stores : OffsetWords) (riders : List RiderView) (c : ℕ)
    → IsRuled cells words stores riders → c < cells
    → (values : List ℕ) × (slice_index words c ≡ newest values)
    × EachRider (λ i r. Meets c values r.touches) riders
