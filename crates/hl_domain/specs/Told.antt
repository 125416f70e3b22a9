-- What the calls of a rider meet that met no fewer steps than another's left, or was told of them; and what it found in the
-- word of the safe read-only offset. Each statement is the contract of a function of the module laws.
use Rattle.std.specs.Prelude.{ℕ, suc, ◌≡◌, ◌+◌, ◌≤◌, List, [], ◌∷◌, ◌++◌, length, Some, slice_get}
use Rattle.std.specs.List.{AllByRecursion}
use Rattle.hl_model.specs.Sizes.{Sizes}
use Rattle.hl_history.specs.declared.view.Entry.{Entry}
use Rattle.hl_history.specs.Lists.{Begins, left_by}
use Rattle.hl_words.specs.declared.view.Extent.{Extent}
use Rattle.hl_words.specs.declared.view.Touch.{Touch}
use Rattle.hl_words.specs.declared.view.Touch.TheVariants.{Stored, Loaded, Changed, Called, Looked, Met}
use Rattle.hl_words.specs.States.{RiderState}
use Rattle.hl_words.specs.Views.{looked}
use Rattle.hl_keeper.specs.Endings.{EndingState}
use Rattle.hl_keeper.specs.Stores.{IsSettled}
use Rattle.hl_domain.specs.Domains.{IsEnding}

-- A call that met no fewer steps than another left met a list that begins with what that one left
abbrev pub LaterCallsBegin : Type 0 → Type 0
LaterCallsBegin F = (sizes : Sizes) (riders : List RiderState) (ending : EndingState F) (i j m n : ℕ)
    (r q : RiderState) (e d : Entry)
    → IsEnding sizes riders ending → slice_get riders i ≡ Some r → slice_get riders j ≡ Some q
    → slice_get r.calls m ≡ Some e → slice_get q.calls n ≡ Some d
    → length d.before + length d.steps ≤ length e.before → Begins (left_by d) e.before

-- how many of these touches are calls
abbrev pub calls_in : List Touch → ℕ
calls_in [] = 0
calls_in (Stored d v ∷ before) = calls_in before
calls_in (Loaded d v ∷ before) = calls_in before
calls_in (Changed d found v ∷ before) = calls_in before
calls_in (Called met left ∷ before) = suc (calls_in before)
calls_in (Looked which x ∷ before) = calls_in before
calls_in (Met name count ∷ before) = calls_in before

-- A call of a rider that was told another's past met a list that begins with what each call in that past left: the
-- call of the j-th rider stands among its calls behind as many as there are calls among its newer touches, and so does
-- that of the i-th
abbrev pub ToldCallsBegin : Type 0 → Type 0
ToldCallsBegin F = (sizes : Sizes) (riders : List RiderState) (ending : EndingState F)
    (i j : ℕ) (met left first n : Extent) (r q : RiderState)
    (newer between earlier later recent older : List Touch)
    → IsEnding sizes riders ending → slice_get riders i ≡ Some r → slice_get riders j ≡ Some q
    → let past = recent ++ Called first n ∷ older
    in r.view.touches ≡ newer ++ Called met left ∷ (between ++ Met q.view.name (length past) ∷ earlier)
    → q.view.touches ≡ later ++ past
    → (e d : Entry) × (slice_get r.calls (calls_in newer) ≡ Some e)
    × (slice_get q.calls (calls_in (later ++ recent)) ≡ Some d) × Begins (left_by d) e.before

-- Each value that a rider loaded of the safe read-only offset is settled in the one list
abbrev pub LoadsAreSettled : Type 0 → Type 0
LoadsAreSettled F = (sizes : Sizes) (riders : List RiderState) (ending : EndingState F) (i : ℕ)
    (r : RiderState) → (end : IsEnding sizes riders ending) → slice_get riders i ≡ Some r
    → AllByRecursion (IsSettled (end.steps_cut ++ ending.journal)) (looked r.view.touches).safe_read_only
