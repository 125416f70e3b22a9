-- The trace of a rider: what it did, by address, which its touches and its calls tell.
use Rattle.std.specs.Prelude.{ℕ, ◌≡◌, ◌<◌, ◌≤◌, ◌+◌, ◌-◌, ◌*◌, ◌/◌, Bool, true, false, if◌then◌else◌, List, [], ◌∷◌, ◌++◌, drop}
use Rattle.std.specs.List.{list_any}
use Rattle.hl_model.specs.declared.step.Step.{Step}
use Rattle.hl_model.specs.declared.step.Step.TheVariants.{Acquire, Refresh, Allocate}
use Rattle.hl_model.specs.Offsets.{place_of, tail}
use Rattle.hl_model.specs.Replies.{IsAccepted}
use Rattle.hl_model.specs.Settled.{closed}
use Rattle.hl_model.specs.Sizes.{Sizes}
use Rattle.hl_history.specs.declared.view.Entry.{Entry}
use Rattle.hl_history.specs.Lists.{left_by}
use Rattle.hl_words.specs.declared.view.Touch.{Touch}
use Rattle.hl_words.specs.declared.view.Touch.TheVariants.{Stored as StoredIn, Loaded as LoadedFrom, Changed as ChangedIn, Called}
use Rattle.hl_words.specs.States.{RiderState}
use Rattle.hl_keeper.specs.Passes.{PassRecord}
use Rattle.hl_traces.specs.declared.act.Act.{Act}
use Rattle.hl_traces.specs.declared.act.Act.TheVariants.{Placed, Stored, Loaded, Changed, Met}
use Rattle.hl_memory.specs.Acts.{NoneOfPages}
use Rattle.hl_memory.specs.Keeping.{RiderActs, PassActs}

-- a step by which a slot is entered or moved on
abbrev pub moves_slot : Step → Bool
moves_slot (Acquire t) = true
moves_slot (Refresh t) = true
moves_slot (Allocate t n) = true
moves_slot _ = false

-- the tail of the list that the newest of these calls left by which a slot was entered or moved on; 0 where none is
abbrev pub tail_met : Sizes → List Entry → ℕ
tail_met sizes [] = 0
tail_met sizes (call ∷ older) =
    if list_any moves_slot call.steps then tail sizes (left_by call) else tail_met sizes older

-- of the addresses below this end the greatest that has this cell
abbrev pub address_of : Sizes → ℕ → ℕ → ℕ
address_of sizes cell end =
    (end - 1 - cell) / (sizes.frames * sizes.page_size) * (sizes.frames * sizes.page_size) + cell

-- a touch with an address in place of its cell: the newest below this end
abbrev pub addressed : Sizes → ℕ → Touch → Touch
addressed sizes end (StoredIn d v) = StoredIn (address_of sizes d end) v
addressed sizes end (LoadedFrom d v) = LoadedFrom (address_of sizes d end) v
addressed sizes end (ChangedIn d found v) = ChangedIn (address_of sizes d end) found v
addressed sizes end t = t

-- the calls before this touch, of these: the newest of them is the touch's own, if it is a call
abbrev pub calls_before : Touch → List Entry → List Entry
calls_before (Called met left) calls = drop 1 calls
calls_before _ calls = calls

-- The touches of a rider that made these calls, with addresses in place of cells, each below the tail that the rider's slot
-- had met. All lists stand newest first
abbrev pub by_address : Sizes → List Touch → List Entry → List Touch
by_address sizes [] calls = []
by_address sizes (t ∷ before) calls =
    addressed sizes (tail_met sizes calls) t ∷ by_address sizes before (calls_before t calls)

-- the record that a step behind this list placed, if it is an allocation
abbrev pub placed_by : Sizes → List Step → Step → List Act
placed_by sizes A (Allocate t n) = Placed (place_of sizes.page_size (tail sizes A) n) n ∷ []
placed_by sizes A _ = []

-- those that these steps behind the list placed, the newest first
abbrev pub places : Sizes → List Step → List Step → List Act
places sizes A [] = []
places sizes A (s ∷ steps) = places sizes (A ++ s ∷ []) steps ++ placed_by sizes A s

-- what a touch by address is as acts, where these calls are the rider's so far: a call left the list so long, and then what
-- it placed there is told
abbrev pub told_as : Sizes → Touch → List Entry → List Act
told_as sizes (StoredIn a v) calls = Stored a v ∷ []
told_as sizes (LoadedFrom a v) calls = Loaded a v ∷ []
told_as sizes (ChangedIn a found v) calls = Changed a found v ∷ []
told_as sizes (Called met left) [] = []
told_as sizes (Called met left) (call ∷ calls) = places sizes call.before call.steps ++ Met left.steps ∷ []
told_as sizes _ calls = []

-- touches by address as acts
abbrev pub acts_of : Sizes → List Touch → List Entry → List Act
acts_of sizes [] calls = []
acts_of sizes (t ∷ before) calls = told_as sizes t calls ++ acts_of sizes before (calls_before t calls)

-- the trace of a rider: all its acts, the newest first
abbrev pub trace : Sizes → RiderState → List Act
trace sizes r = acts_of sizes (by_address sizes r.view.touches r.calls) r.calls

-- a rider that has no pass: its touches at those addresses are its acts, and it neither flushes nor cleans pages
pub record RiderTraces (sizes : Sizes) (r : RiderState) : Type 0 where
  pub acts : RiderActs sizes r (by_address sizes r.view.touches r.calls)
  pub pages : NoneOfPages r.calls

-- so it is with a pass's rider; and nothing that the pass may touch is closed in the list that its slot met last
pub record PassTraces (sizes : Sizes) (p : PassRecord) : Type 0 where
  pub acts : PassActs sizes p (by_address sizes p.rider.view.touches p.rider.calls)
  pub pages : NoneOfPages p.rider.calls
  pub page_some : 0 < sizes.page_size
  pub frames_some : 0 < sizes.frames
  pub list : List Step
  pub accepted : IsAccepted sizes list
  pub met : tail_met sizes p.rider.calls ≡ tail sizes list
  pub sees : p.held.tail ≤ tail sizes list
  pub head : closed list ≤ p.held.head
  pub read_only : closed list ≤ p.held.read_only

-- a rider that did this too
abbrev pub RiderDoes : Sizes → List Act → RiderState → RiderState → Type 0
RiderDoes sizes own old new = RiderTraces sizes new × (trace sizes new ≡ own ++ trace sizes old)

-- the rider of a pass that did this too
abbrev pub PassDoes : Sizes → List Act → RiderState → PassRecord → Type 0
PassDoes sizes own old new = PassTraces sizes new × (trace sizes new.rider ≡ own ++ trace sizes old)
