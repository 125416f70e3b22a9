-- What a session does with a whole record: it places and stores one, or loads one.
use Rattle.std.specs.Prelude.{◌≡◌, ◌≢◌, ◌⊎◌, ℕ, ◌+◌, ◌-◌, ◌<◌, ◌≤◌, nat_lt, if◌then◌else◌, Bool, true, false, Option, Some, None, Result, Ok, Err, MatchResult, List, [], ◌∷◌, ◌++◌, length, take}
use Rattle.std.specs.List.{AllByRecursion, list_any}
use Rattle.hl_model.specs.declared.fault.Fault.{Fault}
use Rattle.hl_model.specs.declared.fault.Fault.TheVariants.{Below, Beyond, Evicted, TouchesFull}
use Rattle.hl_model.specs.declared.step.Step.{Step}
use Rattle.hl_model.specs.declared.step.Step.TheVariants.{Allocate, Refresh, Write}
use Rattle.hl_model.specs.Lists.{until_last}
use Rattle.hl_model.specs.Offsets.{place_of, tail}
use Rattle.hl_model.specs.Sizes.{Sizes}
use Rattle.hl_history.specs.declared.view.Entry.{Entry}
use Rattle.hl_words.specs.declared.view.Touch.{Touch}
use Rattle.hl_words.specs.declared.view.Touch.TheVariants.{Stored, Loaded, Changed, Called, Looked, Met}
use Rattle.hl_keeper.specs.Passes.{PassRecord, seen, cell_at, store_fault, touches_most, with_load, with_rider, with_tail}
use Rattle.hl_keeper.specs.Calls.{call_fault, MakesTouched}
use Rattle.hl_domain.specs.Domains.{DomainState, pass_call, with_held, MakesUnderLock, Refreshed}
use Rattle.hl_crew.specs.Goes.{Followed}

-- the fault of n words from address a on, of which each is to be loaded: the first is below the head, or there aren't so
-- many below the tail
unfoldable pub row_fault : PassRecord → ℕ → ℕ → Option Fault
row_fault p a n =
    if nat_lt a (seen p).head then Some (Evicted (seen p).head)
    else (if nat_lt ((seen p).tail - a) n then Some (Beyond (seen p).tail) else None)

-- the pass after it loaded these words, one after another, from address a on
abbrev pub with_loads : Sizes → ℕ → List ℕ → PassRecord → PassRecord
with_loads sizes a [] p = p
with_loads sizes a (w ∷ ws) p = with_loads sizes (a + 1) ws (with_load sizes a w p)

-- the steps that these calls put behind the one list, the earliest first. Of the calls the newest stands first
abbrev pub entered_steps : List Entry → List Step
entered_steps [] = []
entered_steps (call ∷ earlier) = entered_steps earlier ++ call.steps

-- the steps of a pass, the earliest first: those that its rider's calls entered, and those that wait for the next
abbrev pub own_steps : PassRecord → List Step
own_steps p = entered_steps p.rider.calls ++ p.touches

-- the writes among these steps
abbrev pub writes_in : List Step → List Step
writes_in [] = []
writes_in (Write t a v ∷ steps) = Write t a v ∷ writes_in steps
writes_in (step ∷ steps) = writes_in steps

-- those of these words by slot t, from address a on
abbrev pub writes_at : ℕ → ℕ → List ℕ → List Step
writes_at t a [] = []
writes_at t a (w ∷ ws) = Write t a w ∷ writes_at t (a + 1) ws

-- a write, or a refresh, of slot t
abbrev pub StoresOrRefreshes : ℕ → Step → Type 0
StoresOrRefreshes t step = ((a : ℕ) × (v : ℕ) × (step ≡ Write t a v)) ⊎ (step ≡ Refresh t)

-- a refresh
abbrev pub is_refresh : Step → Bool
is_refresh (Refresh t) = true
is_refresh _ = false

-- how many touches a pass has after these steps of its slot, if it had so many before: the steps behind the last refresh, or
-- all of them and those that it had
abbrev pub touches_after : ℕ → List Step → ℕ
touches_after n steps =
    if list_any is_refresh steps then length steps - until_last is_refresh steps else n + length steps

-- a pass that had so many touches made these steps, and each refresh among them when it had no room for one more
abbrev pub RefreshesIfFull : ℕ → List Step → Type 0
RefreshesIfFull n steps = (X : List Step) (t : ℕ) (Y : List Step) → steps ≡ X ++ Refresh t ∷ Y
    → touches_after n X ≡ touches_most

-- the stores into cells among these touches, of which the newest stands first
abbrev pub stores_in : List Touch → List Touch
stores_in [] = []
stores_in (Stored cell v ∷ before) = Stored cell v ∷ stores_in before
stores_in (Changed cell found v ∷ before) = Changed cell found v ∷ stores_in before
stores_in (Loaded cell v ∷ before) = stores_in before
stores_in (Called met left ∷ before) = stores_in before
stores_in (Looked which x ∷ before) = stores_in before
stores_in (Met name count ∷ before) = stores_in before

-- the stores once these words were stored, one after another, from address a on
abbrev pub stored_at : Sizes → ℕ → List ℕ → List Touch → List Touch
stored_at sizes a [] before = before
stored_at sizes a (w ∷ ws) before = stored_at sizes (a + 1) ws (Stored (cell_at sizes a) w ∷ before)

-- between these two a pass stored these words from address a on, one after another: the steps that it made are their
-- writes, with refreshes between, each when it had no room for a touch; and it stored nothing else into cells
pub record AreStored (sizes : Sizes) (a : ℕ) (words : List ℕ) (old new : PassRecord) : Type 0 where
  pub slot : new.slot ≡ old.slot
  pub behind : List Step
  pub steps : own_steps new ≡ own_steps old ++ behind
  pub kinds : AllByRecursion (StoresOrRefreshes old.slot) behind
  pub writes : writes_in behind ≡ writes_at old.slot a words
  pub full : RefreshesIfFull (length old.touches) behind
  pub touches : length new.touches ≡ touches_after (length old.touches) behind
  pub cells : stores_in new.rider.view.touches ≡ stored_at sizes a words (stores_in old.rider.view.touches)

-- a pass asked for a record of n words, and was answered so
pub record Allocated (F : Type 0) (log : DomainState) (n : ℕ) (old new : PassRecord) (result : Result ℕ Fault)
    : Type 0 where
  pub met : MakesUnderLock F log (pass_call old (Allocate old.slot n) new.rider) result (λ keeper.
      MakesTouched keeper old (Allocate old.slot n) (λ A. call_fault keeper A old (Allocate old.slot n))
      (λ A. place_of keeper.core.sizes.page_size (tail keeper.core.sizes (A ++ old.touches)) n))
  pub pass : let p = with_rider new.rider old
      in MatchResult result (λ a. new ≡ with_held p.epoch (with_tail (a + n) (seen p)) p) (λ _. new ≡ p)

-- the store of a word at address a was refused with this fault, and not for want of room for a touch: maybe after a
-- refresh that made room; or there was no room, and the refresh that was to make it was refused so
pub record RefusesStore (F : Type 0) (log : DomainState) (a : ℕ) (fault : Fault) (old new : PassRecord)
    : Type 0 where
  pub last : PassRecord
  pub none : AreStored log.sizes a [] old last
  pub refused : ((new ≡ last) × (store_fault last a ≡ Some fault) × (fault ≢ TouchesFull))
      ⊎ ((store_fault last a ≡ Some TouchesFull) × Refreshed F log last new (Err fault))

-- of these words from address a on, a pass stored some, and the store of the next was refused with this fault
pub record StopsAt (F : Type 0) (log : DomainState) (a : ℕ) (words : List ℕ) (fault : Fault)
    (old new : PassRecord)
    : Type 0 where
  pub count : ℕ
  pub few : count < length words
  pub last : PassRecord
  pub stored : AreStored log.sizes a (take count words) old last
  pub refused : RefusesStore F log (a + count) fault last new

-- a record of these words was placed at this address, and all of them were stored
pub record IsPlaced (F : Type 0) (log : DomainState) (words : List ℕ) (address : ℕ) (old new : PassRecord)
    : Type 0 where
  pub placed : PassRecord
  pub allocated : Allocated F log (length words) old placed (Ok address)
  pub stored : AreStored log.sizes address words placed new

-- a record of these words was refused a place with this fault; or it was placed, and the store of one of its words was
-- refused so, or a refresh between two
abbrev pub IsRefused : (F : Type 0) → DomainState → List ℕ → Fault → PassRecord → PassRecord → Type 0
IsRefused F log words fault old new =
    Allocated F log (length words) old new (Err fault)
    ⊎ ((address : ℕ) × (placed : PassRecord) × Allocated F log (length words) old placed (Ok address)
    × StopsAt F log address words fault placed new)

-- a record of these words was refused since a word of it lay below the read-only offset: another try may follow
abbrev pub PlacesNext : (F : Type 0) → DomainState → List ℕ
    → ℕ → Result Bool Fault → PassRecord → PassRecord → Type 0
PlacesNext F log words i next old new = (read_only : ℕ) × IsRefused F log words (Below read_only) old new

-- a record of these words was asked for once, and answered so
abbrev pub Places : (F : Type 0) → DomainState → List ℕ → PassRecord → PassRecord → Result ℕ Fault → Type 0
Places F log words old new result = MatchResult result (λ address. IsPlaced F log words address old new)
    (λ fault. IsRefused F log words fault old new)

-- a record of these words was appended, and answered so: it was asked for at most so often before, each time in vain; and
-- just so often, if even the last was
pub record Appends (F : Type 0) (log : DomainState) (words : List ℕ) (again : ℕ) (old new : PassRecord)
    (result : Result ℕ Fault) : Type 0 where
  pub vain : ℕ
  pub most : vain ≤ again
  pub last : PassRecord
  pub before : Followed (PlacesNext F log words) vain old last
  pub places : Places F log words last new result
  pub all_tried : (read_only : ℕ) → result ≡ Err (Below read_only) → vain ≡ again
