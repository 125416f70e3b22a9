-- What a load found that its rider made after a call, or after it was told what another did. Each statement is the
-- contract of a function of the module past_laws.
use Rattle.std.specs.Prelude.{ℕ, ◌≡◌, ◌≢◌, ◌<◌, ◌⊎◌, List, [], ◌∷◌, ◌++◌, length, Some, None, slice_get, unwrap_or}
use Rattle.hl_words.specs.declared.view.Touch.{Touch}
use Rattle.hl_words.specs.declared.view.Touch.TheVariants.{Loaded, Called, Met}
use Rattle.hl_words.specs.declared.view.Extent.{Extent}
use Rattle.hl_words.specs.declared.view.OffsetWords.{OffsetWords}
use Rattle.hl_words.specs.declared.view.RiderView.{RiderView}
use Rattle.hl_words.specs.Rule.{EachRider, TouchBy, by_rider, held, last_store, touches_of, RisesTo, IsRuled}

-- a load of the i-th rider in the order: it found what the newest store before it left
pub record IsLoad (order : List TouchBy) (i c v : ℕ) (before : List TouchBy) : Type 0 where
  pub newer : List TouchBy
  pub whole : order ≡ newer ++ by_rider i (Loaded c v) ∷ before
  pub finds : v ≡ held c before

-- of the j-th rider, at least these touches stand there
abbrev pub HasAll : ℕ → List Touch → List TouchBy → Type 0
HasAll j past before = (since : List Touch) × (touches_of j before ≡ since ++ past)

-- of the j-th rider, at most these touches stand there
abbrev pub HasOnly : ℕ → List Touch → List TouchBy → Type 0
HasOnly j past before = (rest : List Touch) × (past ≡ rest ++ touches_of j before)

-- all that riders did before calls that left fewer steps than n
abbrev pub HasCalls : List RiderView → ℕ → List TouchBy → Type 0
HasCalls riders n before = (j : ℕ) (met left : Extent) (q : RiderView) (later past : List Touch)
    → slice_get riders j ≡ Some q → q.touches ≡ later ++ Called met left ∷ past → left.steps < n
    → HasAll j (Called met left ∷ past) before

-- nothing that riders did after calls that met more steps than n
abbrev pub HasNoCalls : List RiderView → ℕ → List TouchBy → Type 0
HasNoCalls riders n before = (j : ℕ) (met left : Extent) (q : RiderView) (later past : List Touch)
    → slice_get riders j ≡ Some q → q.touches ≡ later ++ Called met left ∷ past → n < met.steps
    → HasOnly j past before

-- A load after its rider was told what another did finds it, or what was stored since
abbrev pub LoadsAfterMet : Type 0
LoadsAfterMet = (cells : ℕ) (words : List ℕ) (stores : OffsetWords) (riders : List RiderView) (i j c v : ℕ)
    (r q : RiderView) (newer between earlier later past : List Touch)
    → (ruled : IsRuled cells words stores riders) → slice_get riders i ≡ Some r → slice_get riders j ≡ Some q
    → r.touches ≡ newer ++ Loaded c v ∷ (between ++ Met q.name (length past) ∷ earlier)
    → q.touches ≡ later ++ past
    → (before : List TouchBy) × IsLoad ruled.order.0 i c v before × HasAll j past before

-- A load after a call of its rider finds what riders did before calls that left fewer steps, or what was stored since
abbrev pub LoadsAfterCalled : Type 0
LoadsAfterCalled = (cells : ℕ) (words : List ℕ) (stores : OffsetWords) (riders : List RiderView)
    (i c v : ℕ) (met left : Extent) (r : RiderView) (newer between earlier : List Touch)
    → (ruled : IsRuled cells words stores riders) → slice_get riders i ≡ Some r
    → r.touches ≡ newer ++ Loaded c v ∷ (between ++ Called met left ∷ earlier)
    → (before : List TouchBy) × IsLoad ruled.order.0 i c v before × HasCalls riders left.steps before

-- A load of a rider that was told of another's call, and of which the other was told before a later call of its own,
-- stands between the two: it finds what riders did before calls that left fewer steps than the one, and nothing of what
-- they did after calls that met more than the other
abbrev pub LoadsBetween : Type 0
LoadsBetween = (cells : ℕ) (words : List ℕ) (stores : OffsetWords) (riders : List RiderView)
    (i k c v : ℕ) (met begun done left : Extent) (r f : RiderView) (last between earlier : List Touch)
    (newer first newest middle more oldest : List Touch)
    → (ruled : IsRuled cells words stores riders) → slice_get riders i ≡ Some r → slice_get riders k ≡ Some f
    → let told = first ++ Called met begun ∷ oldest
    in let own = newer ++ Loaded c v ∷ (between ++ Met f.name (length told) ∷ earlier)
    in r.touches ≡ last ++ own
    → f.touches ≡ newest ++ Called done left ∷ (middle ++ Met r.name (length own) ∷ (more ++ told))
    → (before : List TouchBy) × IsLoad ruled.order.0 i c v before × HasCalls riders begun.steps before
    × HasNoCalls riders done.steps before

-- A load of a rider that made a call before it and one after it stands between the two: it finds what riders did before
-- calls that left fewer steps than the one, and nothing of what they did after calls that met more than the other
abbrev pub LoadsBetweenOwn : Type 0
LoadsBetweenOwn = (cells : ℕ) (words : List ℕ) (stores : OffsetWords) (riders : List RiderView)
    (i c v : ℕ) (met begun done left : Extent) (r : RiderView) (newer middle between earlier : List Touch)
    → (ruled : IsRuled cells words stores riders) → slice_get riders i ≡ Some r
    → r.touches
    ≡ newer ++ Called done left ∷ (middle ++ Loaded c v ∷ (between ++ Called met begun ∷ earlier))
    → (before : List TouchBy) × IsLoad ruled.order.0 i c v before × HasCalls riders begun.steps before
    × HasNoCalls riders done.steps before

-- A call of a rider that was told what another did met all steps that the other's calls up to there left, and no fewer
-- of them cut
abbrev pub CallsAfterMet : Type 0
CallsAfterMet = (cells : ℕ) (words : List ℕ) (stores : OffsetWords) (riders : List RiderView)
    (i j : ℕ) (met left first n : Extent) (r q : RiderView)
    (newer between earlier later past recent older : List Touch)
    → IsRuled cells words stores riders → slice_get riders i ≡ Some r → slice_get riders j ≡ Some q
    → r.touches ≡ newer ++ Called met left ∷ (between ++ Met q.name (length past) ∷ earlier)
    → q.touches ≡ later ++ past → past ≡ recent ++ Called first n ∷ older → RisesTo n met

-- Where one rider alone stores into a cell, a load of any rider finds the newest of its stores that stand before
abbrev pub LoadsOfOne : Type 0
LoadsOfOne = (cells : ℕ) (words : List ℕ) (stores : OffsetWords) (riders : List RiderView) (i j c v : ℕ)
    (before : List TouchBy) → (ruled : IsRuled cells words stores riders)
    → EachRider (λ k r. k ≢ j → last_store c r.touches ≡ None) riders
    → IsLoad ruled.order.0 i c v before → v ≡ unwrap_or (last_store c (touches_of j before)) 0

-- Where one rider alone stores into a cell, a load of whoever was told what it did, and after which it stored nothing
-- there, finds its newest store up to there
abbrev pub LoadsOfTold : Type 0
LoadsOfTold = (cells : ℕ) (words : List ℕ) (stores : OffsetWords) (riders : List RiderView) (i j c v : ℕ)
    (r q : RiderView) (newer between earlier later past : List Touch)
    → IsRuled cells words stores riders → slice_get riders i ≡ Some r → slice_get riders j ≡ Some q
    → EachRider (λ k r. k ≢ j → last_store c r.touches ≡ None) riders
    → r.touches ≡ newer ++ Loaded c v ∷ (between ++ Met q.name (length past) ∷ earlier)
    → q.touches ≡ later ++ past → last_store c later ≡ None → v ≡ unwrap_or (last_store c past) 0

-- Between two calls of the j-th rider, and before what it did after the later one, the loads of a cell into which it
-- alone stores, and not between the two, find its newest store before the earlier one
abbrev pub LoadsOfOneBetween : Type 0
LoadsOfOneBetween = (cells : ℕ) (words : List ℕ) (stores : OffsetWords) (riders : List RiderView)
    (i j c v begun done : ℕ) (met left next last : Extent) (q : RiderView) (before : List TouchBy)
    (later middle past : List Touch)
    → (ruled : IsRuled cells words stores riders) → slice_get riders j ≡ Some q
    → EachRider (λ k r. k ≢ j → last_store c r.touches ≡ None) riders
    → IsLoad ruled.order.0 i c v before → HasCalls riders begun before → HasNoCalls riders done before
    → q.touches ≡ later ++ Called next last ∷ (middle ++ Called met left ∷ past) → left.steps < begun
    → done < next.steps
    → last_store c middle ≡ None → v ≡ unwrap_or (last_store c past) 0

-- no such touches, or those before a call that left fewer steps than n
abbrev pub EndsBefore : ℕ → List Touch → Type 0
EndsBefore n old = (old ≡ [])
    ⊎ ((met left : Extent) × (past : List Touch) × (old ≡ Called met left ∷ past) × (left.steps < n))

-- no such touches, or those after a call that met more steps than n
abbrev pub BeginsAfter : ℕ → List Touch → Type 0
BeginsAfter n late = (late ≡ [])
    ⊎ ((met left : Extent) × (later : List Touch) × (late ≡ later ++ Called met left ∷ []) × (n < met.steps))

-- these touches store nothing into the cell between the calls that left fewer steps than the one number, and those that
-- met more than the other
pub record IsQuietBetween (c from to : ℕ) (touches : List Touch) : Type 0 where
  pub late : List Touch
  pub quiet : List Touch
  pub old : List Touch
  pub all : touches ≡ late ++ (quiet ++ old)
  pub after : BeginsAfter to late
  pub before : EndsBefore from old
  pub none : last_store c quiet ≡ None

-- Where since a call of the j-th rider, that left n steps, no other rider stores into a cell, but for what they do after
-- calls that met more steps than `done`, a load that stands between the calls finds the j-th rider's newest store there,
-- if it stored there since that call and before one that left fewer steps than `begun`, and not again before one that met
-- more than `done`
abbrev pub LoadsOfNewest : Type 0
LoadsOfNewest = (cells : ℕ) (words : List ℕ) (stores : OffsetWords) (riders : List RiderView)
    (i j c v begun done w : ℕ) (first n met left : Extent) (q : RiderView) (before : List TouchBy)
    (late middle recent older : List Touch)
    → (ruled : IsRuled cells words stores riders) → slice_get riders j ≡ Some q
    → IsLoad ruled.order.0 i c v before → HasCalls riders begun before → HasNoCalls riders done before
    → EachRider (λ k r. k ≢ j → IsQuietBetween c n.steps done r.touches) riders
    → q.touches ≡ late ++ (middle ++ Called met left ∷ (recent ++ Called first n ∷ older))
    → BeginsAfter done late → last_store c middle ≡ None → left.steps < begun → last_store c recent ≡ Some w
    → v ≡ w
