-- One memory by address: what loads find.
use Rattle.std.specs.Prelude.{ℕ, ◌≡◌, ◌<◌, ◌≤◌, ◌⊎◌, List, [], ◌∷◌, ◌++◌, length, Some, slice_get, slice_index}
use Rattle.hl_model.specs.Offsets.{tail}
use Rattle.hl_model.specs.Settled.{closed}
use Rattle.hl_model.specs.Sizes.{Sizes}
use Rattle.hl_history.specs.declared.view.Entry.{Entry}
use Rattle.hl_history.specs.Lists.{left_by}
use Rattle.hl_words.specs.declared.view.Extent.{Extent}
use Rattle.hl_words.specs.declared.view.RiderView.{RiderView}
use Rattle.hl_words.specs.declared.view.Touch.{Touch}
use Rattle.hl_words.specs.declared.view.Touch.TheVariants.{Loaded, Changed, Called}
use Rattle.hl_words.specs.Past.{HasAll, HasOnly}
use Rattle.hl_words.specs.Rule.{TouchBy, by_rider, held, touches_of}
use Rattle.hl_words.specs.States.{RiderState}
use Rattle.hl_keeper.specs.Endings.{EndingState}
use Rattle.hl_keeper.specs.Passes.{cell_at}
use Rattle.hl_domain.specs.Domains.{IsEnding}
use Rattle.hl_memory.specs.Acts.{in_cells, AreActsOf, IsHistory}

-- all that riders did before calls that entered a step and left no more than n
abbrev pub HasGrown : List RiderView → ℕ → List TouchBy → Type 0
HasGrown riders n before = (j : ℕ) (met left : Extent) (q : RiderView) (later past : List Touch)
    → slice_get riders j ≡ Some q → q.touches ≡ later ++ Called met left ∷ past → met.steps < left.steps
    → left.steps ≤ n → HasAll j (Called met left ∷ past) before

-- nothing that riders did after calls that left more than n
abbrev pub HasNoneLeft : List RiderView → ℕ → List TouchBy → Type 0
HasNoneLeft riders n before = (j : ℕ) (met left : Extent) (q : RiderView) (later past : List Touch)
    → slice_get riders j ≡ Some q → q.touches ≡ later ++ Called met left ∷ past → n < left.steps
    → HasOnly j past before

-- Each change found what the newest store at its address left
abbrev pub ChangesFindMemory : Type 0 → Type 0
ChangesFindMemory F = (sizes : Sizes) (riders : List RiderState) (ending : EndingState F)
    (ends : IsEnding sizes riders ending)
    → let whole = ends.steps_cut ++ ending.journal
    in 0 < sizes.page_size → 0 < sizes.frames → (history newer before : List TouchBy)
    → IsHistory sizes whole riders ends.ruled.rule.order.0 history
    → (i a found v : ℕ) → history ≡ newer ++ by_rider i (Changed a found v) ∷ before → found ≡ held a before

-- the address is in the log of the list that the newest call so far left, and not below this number
abbrev pub IsOpen : Sizes → ℕ → List Entry → ℕ → Type 0
IsOpen sizes a calls low = (e : Entry) × (older : List Entry) × (calls ≡ e ∷ older)
    × (a < tail sizes (left_by e)) × (low ≤ a)

-- Each load of these acts is at an address in the log of the list that the newest call before it left, and
-- not closed in the list that a call behind it met; or not below this number, where no such call stands
-- behind it yet. All lists stand newest first
abbrev pub AreOpen : Sizes → List Touch → List Entry → ℕ → Type 0
AreOpen sizes [] calls low = Unit {0}
AreOpen sizes (Loaded a v ∷ before) calls low = IsOpen sizes a calls low × AreOpen sizes before calls low
AreOpen sizes (Called met left ∷ before) [] low = ⊥
AreOpen sizes (Called met left ∷ before) (call ∷ calls) low =
    AreOpen sizes before calls low ⊎ AreOpen sizes before calls (closed call.before)
AreOpen sizes (_ ∷ before) calls low = AreOpen sizes before calls low

-- what a load or a change finds is what the newest store at its address left
abbrev pub FindsMemory : List TouchBy → Touch → Type 0
FindsMemory before (Loaded a v) = v ≡ held a before
FindsMemory before (Changed a found v) = found ≡ held a before
FindsMemory before _ = Unit {0}

-- so it is with each of the i-th rider's
abbrev pub FindMemory : ℕ → List TouchBy → Type 0
FindMemory i history = (newer before : List TouchBy) (act : Touch)
    → history ≡ newer ++ by_rider i act ∷ before → FindsMemory before act

-- Each rider whose loads are at open addresses finds by each load, and by each change, what the newest store
-- at that very address left
abbrev pub OpenFindMemory : Type 0 → Type 0
OpenFindMemory F = (sizes : Sizes) (riders : List RiderState) (ending : EndingState F)
    (ends : IsEnding sizes riders ending)
    → let whole = ends.steps_cut ++ ending.journal
    in 0 < sizes.page_size → 0 < sizes.frames → (history : List TouchBy)
    → IsHistory sizes whole riders ends.ruled.rule.order.0 history
    → (i : ℕ) (r : RiderState) → slice_get riders i ≡ Some r
    → AreOpen sizes (touches_of i history) r.calls (closed whole) → FindMemory i history

-- There is a history of these acts, if they are those of the riders
abbrev pub HistoriesStand : Type 0 → Type 0
HistoriesStand F = (sizes : Sizes) (riders : List RiderState) (ending : EndingState F)
    (ends : IsEnding sizes riders ending) (acts : ℕ → List Touch)
    → let whole = ends.steps_cut ++ ending.journal
    in ((i : ℕ) (r : RiderState) → slice_get riders i ≡ Some r → AreActsOf sizes whole r (acts i))
    → ((i : ℕ) → length riders ≤ i → acts i ≡ [])
    → (history : List TouchBy) × IsHistory sizes whole riders ends.ruled.rule.order.0 history
    × ((i : ℕ) → touches_of i history ≡ acts i)

-- One memory by address: the acts of all riders have one order, in which each rider whose loads are at open
-- addresses finds by each load, and by each change, what the newest store at that very address left, and 0
-- where there is none
abbrev pub OneMemory : Type 0 → Type 0
OneMemory F = (sizes : Sizes) (riders : List RiderState) (ending : EndingState F)
    (ends : IsEnding sizes riders ending) (acts : ℕ → List Touch)
    → let whole = ends.steps_cut ++ ending.journal
    in 0 < sizes.page_size → 0 < sizes.frames
    → ((i : ℕ) (r : RiderState) → slice_get riders i ≡ Some r → AreActsOf sizes whole r (acts i))
    → ((i : ℕ) → length riders ≤ i → acts i ≡ [])
    → (history : List TouchBy) × (in_cells sizes history ≡ ends.ruled.rule.order.0)
    × ((i : ℕ) → touches_of i history ≡ acts i)
    × ((i : ℕ) (r : RiderState) → slice_get riders i ≡ Some r → AreOpen sizes (acts i) r.calls (closed whole)
    → FindMemory i history)

-- At the end each cell that an open address has holds what that memory has there
abbrev pub WordsAreMemory : Type 0 → Type 0
WordsAreMemory F = (sizes : Sizes) (riders : List RiderState) (ending : EndingState F)
    (ends : IsEnding sizes riders ending)
    → let whole = ends.steps_cut ++ ending.journal
    in 0 < sizes.page_size → 0 < sizes.frames → (history : List TouchBy)
    → IsHistory sizes whole riders ends.ruled.rule.order.0 history → (a : ℕ) → a < tail sizes whole
    → closed whole ≤ a → slice_index ending.words.words (cell_at sizes a) ≡ held a history
