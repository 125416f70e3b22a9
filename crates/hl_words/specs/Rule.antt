-- The rule that cells, the master's words, its stores of these, and the riders' stores and loads meet between
-- any two steps.
use Rattle.std.specs.Prelude.{ℕ, ◌≡◌, ◌≢◌, ◌+◌, ◌<◌, ◌≤◌, ◌==◌, ◌⊎◌, if◌then◌else◌, List, [], ◌∷◌, length, Option, Some, None, slice_get, slice_index, AllPairs}
use Rattle.std.specs.List.{AllByRecursion, Contains}
use Rattle.hl_model.specs.Lists.{greatest}
use Rattle.hl_words.specs.declared.view.Touch.{Touch}
use Rattle.hl_words.specs.declared.view.Touch.TheVariants.{Stored, Loaded, Changed, Called, Looked, Met}
use Rattle.hl_words.specs.declared.which.Which.{Which}
use Rattle.hl_words.specs.declared.view.Extent.{Extent}
use Rattle.hl_words.specs.declared.view.OffsetWords.{OffsetWords}
use Rattle.hl_words.specs.declared.view.RiderView.{RiderView}
use Rattle.hl_words.specs.Views.{newest, looked, no_extent}

-- what these touches last stored into the cell; the newest stands first
abbrev pub last_store : ℕ → List Touch → Option ℕ
last_store c [] = None
last_store c (Stored d v ∷ before) = if d == c then Some v else last_store c before
last_store c (Loaded d v ∷ before) = last_store c before
last_store c (Changed d found v ∷ before) = if d == c then Some v else last_store c before
last_store c (Called met left ∷ before) = last_store c before
last_store c (Looked which x ∷ before) = last_store c before
last_store c (Met name count ∷ before) = last_store c before

-- no store into the cell, and no load of it but of 0
abbrev pub IsQuiet : ℕ → List Touch → Type 0
IsQuiet c [] = Unit {0}
IsQuiet c (Stored d v ∷ before) = (d ≢ c) × IsQuiet c before
IsQuiet c (Loaded d v ∷ before) = (d ≡ c → v ≡ 0) × IsQuiet c before
IsQuiet c (Changed d found v ∷ before) = (d ≢ c) × IsQuiet c before
IsQuiet c (Called met left ∷ before) = IsQuiet c before
IsQuiet c (Looked which x ∷ before) = IsQuiet c before
IsQuiet c (Met name count ∷ before) = IsQuiet c before

-- these touches stored the value into the cell
abbrev pub HasStore : ℕ → ℕ → List Touch → Type 0
HasStore c v [] = ⊥
HasStore c v (Stored d w ∷ before) = ((d ≡ c) × (w ≡ v)) ⊎ HasStore c v before
HasStore c v (Loaded d w ∷ before) = HasStore c v before
HasStore c v (Changed d found w ∷ before) = ((d ≡ c) × (w ≡ v)) ⊎ HasStore c v before
HasStore c v (Called met left ∷ before) = HasStore c v before
HasStore c v (Looked which x ∷ before) = HasStore c v before
HasStore c v (Met name count ∷ before) = HasStore c v before

-- P holds of each rider's number and view; the riders are numbered from 0
abbrev pub EachRider : (ℕ → RiderView → Type 0) → List RiderView → Type 0
EachRider P riders = (i : ℕ) (r : RiderView) → slice_get riders i ≡ Some r → P i r

-- P holds of some rider's number and view
abbrev pub SomeRider : (ℕ → RiderView → Type 0) → List RiderView → Type 0
SomeRider P riders = (i : ℕ) × (r : RiderView) × (slice_get riders i ≡ Some r) × P i r

-- another rider than the i-th stored the value into the cell
abbrev pub IsElsewhere : List RiderView → ℕ → ℕ → ℕ → Type 0
IsElsewhere riders i c v = SomeRider (λ j r. (j ≢ i) × HasStore c v r.touches) riders

-- the value that is found in the cell is the last store of the list before, or a value stored elsewhere, or 0
-- where the list before has no store and no load but of 0
abbrev pub IsFound : (ℕ → ℕ → Type 0) → ℕ → ℕ → List Touch → Type 0
IsFound Elsewhere c v before =
    (last_store c before ≡ Some v) ⊎ (Elsewhere c v ⊎ ((v ≡ 0) × IsQuiet c before))

-- each value that the list loads, or finds where it changes a cell, is found so
abbrev pub IsLawful : (ℕ → ℕ → Type 0) → List Touch → Type 0
IsLawful Elsewhere [] = Unit {0}
IsLawful Elsewhere (Stored c v ∷ before) = IsLawful Elsewhere before
IsLawful Elsewhere (Loaded c v ∷ before) = IsFound Elsewhere c v before × IsLawful Elsewhere before
IsLawful Elsewhere (Changed c found v ∷ before) =
    IsFound Elsewhere c found before × IsLawful Elsewhere before
IsLawful Elsewhere (Called met left ∷ before) = IsLawful Elsewhere before
IsLawful Elsewhere (Looked which x ∷ before) = IsLawful Elsewhere before
IsLawful Elsewhere (Met name count ∷ before) = IsLawful Elsewhere before

-- the cell is 0 where no rider stored there, else it is some rider's last store there
abbrev pub IsCell : List RiderView → ℕ → ℕ → Type 0
IsCell riders c w = ((w ≡ 0) × EachRider (λ i r. last_store c r.touches ≡ None) riders)
    ⊎ SomeRider (λ i r. last_store c r.touches ≡ Some w) riders

-- a touch, and the place of the rider whose it is
pub record TouchBy : Type 0 where
  pub rider : ℕ
  pub touch : Touch

-- the i-th rider's touch
abbrev pub by_rider : ℕ → Touch → TouchBy
by_rider i touch = record { rider = i; touch = touch }

-- what the cell holds after this touch, if it held w before it
abbrev pub left_by : ℕ → Touch → ℕ → ℕ
left_by c (Stored d v) w = if d == c then v else w
left_by c (Loaded d v) w = w
left_by c (Changed d found v) w = if d == c then v else w
left_by c (Called met left) w = w
left_by c (Looked which x) w = w
left_by c (Met name count) w = w

-- what the cell holds after these touches, and 0 before any; the newest stands first
abbrev pub held : ℕ → List TouchBy → ℕ
held c [] = 0
held c (t ∷ before) = left_by c t.touch (held c before)

-- how far the newest call left the one list after this touch, if it was so far before it
abbrev pub called_by : Touch → Extent → Extent
called_by (Stored d v) e = e
called_by (Loaded d v) e = e
called_by (Changed d found v) e = e
called_by (Called met left) e = left
called_by (Looked which x) e = e
called_by (Met name count) e = e

-- how far the newest call of these touches left it, and nowhere before any; the newest stands first
abbrev pub last_called : List TouchBy → Extent
last_called [] = no_extent
last_called (t ∷ before) = called_by t.touch (last_called before)

-- neither number falls
abbrev pub RisesTo : Extent → Extent → Type 0
RisesTo met left = (met.steps ≤ left.steps) × (met.cut ≤ left.cut)

-- no load of this word of the master's that gave more than n
abbrev pub IsLookUpTo : Which → ℕ → Touch → Type 0
IsLookUpTo w n (Stored d v) = Unit {0}
IsLookUpTo w n (Loaded d v) = Unit {0}
IsLookUpTo w n (Changed d found v) = Unit {0}
IsLookUpTo w n (Called met left) = Unit {0}
IsLookUpTo w n (Looked which x) = which ≡ w → x ≤ n
IsLookUpTo w n (Met name count) = Unit {0}

-- what the touch found in its cell is what the cell held after those before it; a call met the one list where the
-- newest call before it left it; and a load of a word of the master's gave no less than earlier ones did
abbrev pub Finds : List TouchBy → Touch → Type 0
Finds before (Stored d v) = Unit {0}
Finds before (Loaded d v) = v ≡ held d before
Finds before (Changed d found v) = found ≡ held d before
Finds before (Called met left) = (met ≡ last_called before) × RisesTo met left
Finds before (Looked which x) = AllByRecursion (λ t. IsLookUpTo which x t.touch) before
Finds before (Met name count) = Unit {0}

-- each load, each change and each call of the list found so
abbrev pub IsSerial : List TouchBy → Type 0
IsSerial [] = Unit {0}
IsSerial (t ∷ before) = Finds before t.touch × IsSerial before

-- the touches of the i-th rider
abbrev pub touches_of : ℕ → List TouchBy → List Touch
touches_of i [] = []
touches_of i (t ∷ before) =
    if t.rider == i then t.touch ∷ touches_of i before else touches_of i before

-- no two riders have the same name
abbrev pub AreNamed : List RiderView → Type 0
AreNamed riders = (i j : ℕ) (r q : RiderView) → slice_get riders i ≡ Some r → slice_get riders j ≡ Some q
    → r.name ≡ q.name → i ≡ j

-- where the touch is of a rider that was told what another had done, the other's touches up to there stand before
abbrev pub HasMet : List RiderView → List TouchBy → Touch → Type 0
HasMet riders before (Stored d v) = Unit {0}
HasMet riders before (Loaded d v) = Unit {0}
HasMet riders before (Changed d found v) = Unit {0}
HasMet riders before (Called met left) = Unit {0}
HasMet riders before (Looked which x) = Unit {0}
HasMet riders before (Met name count) =
    SomeRider (λ i r. (r.name ≡ name) × (count ≤ length (touches_of i before))) riders

-- so it is with each of the list
abbrev pub AreMet : List RiderView → List TouchBy → Type 0
AreMet riders [] = Unit {0}
AreMet riders (t ∷ before) = HasMet riders before t.touch × AreMet riders before

-- One order of all touches: each load and each change found what the newest store before it left; each call met the one
-- list where the newest call before it left it; what a rider was told of stands before; of each rider it has just that
-- rider's touches, in the rider's order, and no other touch; and each cell holds what the newest store there left
pub record IsOneOrder (cells : ℕ) (words : List ℕ) (riders : List RiderView)
    (order : List TouchBy) : Type 0 where
  pub serial : IsSerial order
  pub each : EachRider (λ i r. r.touches ≡ touches_of i order) riders
  pub theirs : AllByRecursion (λ t. t.rider < length riders) order
  pub last : (c : ℕ) → c < cells → slice_index words c ≡ held c order
  pub met : AreMet riders order
  pub names : AreNamed riders

-- there is one
abbrev pub HasOneOrder : ℕ → List ℕ → List RiderView → Type 0
HasOneOrder cells words riders = (order : List TouchBy) × IsOneOrder cells words riders order

-- no store of such a word is below an earlier one
abbrev pub NeverFalls : List ℕ → Type 0
NeverFalls stores = AllPairs (λ later earlier. earlier ≤ later) stores

-- each load of such a word is of 0 or of one of its stores, and the greatest is at most the newest store
abbrev pub AreLoads : List ℕ → List ℕ → Type 0
AreLoads stores loads = (greatest (λ x. x) loads ≤ newest stores)
    × AllByRecursion (λ x. (x ≡ 0) ⊎ Contains stores x) loads

-- The rule on words, the master's stores and the riders' views: first the cells, of which the one order says
-- all and the two clauses below it what follows for each cell and each rider; then the read-only word, the head
-- word, that of the last epoch that ended and the safe read-only word
pub record IsRuled (cells : ℕ) (words : List ℕ) (stores : OffsetWords)
    (riders : List RiderView) : Type 0 where
  pub order : HasOneOrder cells words riders
  pub cell : (c : ℕ) → c < cells → IsCell riders c (slice_index words c)
  pub load : EachRider (λ i r. IsLawful (IsElsewhere riders i) r.touches) riders
  pub read_only : slice_index words (cells + 8) ≡ newest stores.read_only
  pub head : slice_index words (cells + 9) ≡ newest stores.head
  pub ended : slice_index words (cells + 10) ≡ newest stores.ended
  pub safe_read_only : slice_index words (cells + 11) ≡ newest stores.safe_read_only
  pub never_falls : NeverFalls stores.read_only × NeverFalls stores.head × NeverFalls stores.ended
      × NeverFalls stores.safe_read_only
  pub offset : EachRider
      (λ i r. AreLoads stores.read_only (looked r.touches).read_only
      × AreLoads stores.head (looked r.touches).head
      × AreLoads stores.ended (looked r.touches).ended
      × AreLoads stores.safe_read_only (looked r.touches).safe_read_only) riders

-- the rule, and the newest call of the order left the one list so far
pub record IsRuledAt (cells : ℕ) (words : List ℕ) (stores : OffsetWords) (called : Extent)
    (riders : List RiderView) : Type 0 where
  pub rule : IsRuled cells words stores riders
  pub called_is : last_called rule.order.0 ≡ called
