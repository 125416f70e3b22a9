-- One trace of all threads: what they did in one order, as one memory by address did it.
use Rattle.std.specs.Prelude.{ℕ, ◌≡◌, ◌<◌, Bool, true, false, ◌≤◌, ◌+◌, ◌*◌, ◌==◌, if◌then◌else◌, List, [], ◌∷◌, ◌++◌, map, Some, slice_get, slice_index}
use Rattle.std.specs.List.{AllByRecursion, range_with_len}
use Rattle.hl_model.specs.Offsets.{place_of, tail}
use Rattle.hl_model.specs.Settled.{closed}
use Rattle.hl_model.specs.Sizes.{Sizes}
use Rattle.hl_words.specs.States.{RiderState}
use Rattle.hl_keeper.specs.Endings.{EndingState}
use Rattle.hl_keeper.specs.Passes.{cell_at}
use Rattle.hl_domain.specs.Domains.{IsEnding}
use Rattle.hl_images.specs.Entered.{newest_writes}
use Rattle.hl_images.specs.Flushes.{HasFlushed}
use Rattle.hl_images.specs.Kept.{RiderEnters}
use Rattle.hl_traces.specs.declared.act.Act.{Act}
use Rattle.hl_traces.specs.declared.act.Act.TheVariants.{Placed, Stored, Loaded, Changed, Met}
use Rattle.hl_traces.specs.Traces.{places, trace, RiderTraces}

-- an act, and the number of the thread whose it is
pub record ActBy : Type 0 where
  pub thread : ℕ
  pub act : Act

-- the act of this thread
abbrev pub by_thread : ℕ → Act → ActBy
by_thread i act = record { thread = i; act = act }

-- the acts of the i-th thread
abbrev pub acts_by : ℕ → List ActBy → List Act
acts_by i [] = []
acts_by i (t ∷ before) = if t.thread == i then t.act ∷ acts_by i before else acts_by i before

-- what an address has after this act, if it had w before it
abbrev pub leaves_at : ℕ → Act → ℕ → ℕ
leaves_at a (Stored b v) w = if b == a then v else w
leaves_at a (Changed b found v) w = if b == a then v else w
leaves_at a _ w = w

-- what the newest store at an address left there, and 0 where there is none; the newest act stands first
abbrev pub left_at : ℕ → List ActBy → ℕ
left_at a [] = 0
left_at a (t ∷ before) = leaves_at a t.act (left_at a before)

-- the words of a page, as these acts leave them
abbrev pub page_left : Sizes → ℕ → List ActBy → List ℕ
page_left sizes page all =
    map (λ a. left_at a all) (range_with_len (page * sizes.page_size) sizes.page_size)

-- if the act placed a record, that ends at this address or below
abbrev pub EndsBelow : ℕ → Act → Type 0
EndsBelow a (Placed b n) = b + n ≤ a
EndsBelow a _ = Unit {0}

-- if it was a locked call, that left no more than n steps
abbrev pub LeftUpTo : ℕ → Act → Type 0
LeftUpTo n (Met m) = m ≤ n
LeftUpTo n _ = Unit {0}

-- What an act says of those before it: a load, or a change, found what the newest store at its address left; a record lies
-- behind all that were placed; a locked call left no fewer steps than those before it
abbrev pub Follows : List ActBy → Act → Type 0
Follows before (Placed a n) = AllByRecursion (λ t. EndsBelow a t.act) before
Follows before (Stored a v) = Unit {0}
Follows before (Loaded a v) = v ≡ left_at a before
Follows before (Changed a found v) = found ≡ left_at a before
Follows before (Met n) = AllByRecursion (λ t. LeftUpTo n t.act) before

-- so it is with each act
abbrev pub AreOne : List ActBy → Type 0
AreOne [] = Unit {0}
AreOne (t ∷ before) = Follows before t.act × AreOne before

-- where a record ends, if the act placed one; else this
abbrev pub ends_at : Act → ℕ → ℕ
ends_at (Placed a n) end = a + n
ends_at _ end = end

-- where the newest record ends, and 0 where none was placed; the newest act stands first
abbrev pub placed_end : List ActBy → ℕ
placed_end [] = 0
placed_end (t ∷ before) = ends_at t.act (placed_end before)

-- if the act placed a record, it lies at this end of those before it, or at the start of the next page, where its own has no
-- room for it
abbrev pub LiesBehind : ℕ → ℕ → Act → Type 0
LiesBehind page_size end (Placed a n) = a ≡ place_of page_size end n
LiesBehind page_size end _ = Unit {0}

-- so it is with each record
abbrev pub AreInRow : ℕ → List ActBy → Type 0
AreInRow page_size [] = Unit {0}
AreInRow page_size (t ∷ before) = LiesBehind page_size (placed_end before) t.act × AreInRow page_size before

-- the rider's calls placed no record
abbrev pub PlacesNone : Sizes → RiderState → Type 0
PlacesNone sizes r = AllByRecursion (λ e. places sizes e.before e.steps ≡ []) r.calls

-- a rider that serves threads: it stores only to sweep pages, so its calls write nothing
pub record Serves (sizes : Sizes) (r : RiderState) : Type 0 where
  pub enters : RiderEnters sizes r
  pub writes : AllByRecursion (λ e. newest_writes e.steps [] ≡ []) r.calls

-- All that those riders did which are threads, in one order, in which each finds what that memory has: each thread's acts
-- are its trace. At the end the words of all addresses that aren't closed are that memory, and so are the words of each
-- page that was flushed; at the tail or beyond nothing was stored. If none but threads place records, these lie in a row, and
-- the newest ends at the tail
pub record HasOneTrace {F : Type 0} (sizes : Sizes) (riders : List RiderState) (ending : EndingState F)
    (ends : IsEnding sizes riders ending) (is_thread : ℕ → Bool) : Type 0 where
  pub all : List ActBy
  pub one : AreOne all
  pub each : (i : ℕ) (r : RiderState) → is_thread i ≡ true → slice_get riders i ≡ Some r
      → acts_by i all ≡ trace sizes r
  pub theirs : AllByRecursion (λ t. is_thread t.thread ≡ true) all
  pub words : (a : ℕ) → closed (ends.steps_cut ++ ending.journal) ≤ a
      → a < tail sizes (ends.steps_cut ++ ending.journal)
      → slice_index ending.words.words (cell_at sizes a) ≡ left_at a all
  pub beyond : (a : ℕ) → tail sizes (ends.steps_cut ++ ending.journal) ≤ a → left_at a all ≡ 0
  pub placed : ((i : ℕ) (r : RiderState) → is_thread i ≡ false → slice_get riders i ≡ Some r
      → PlacesNone sizes r) → (tail sizes (ends.steps_cut ++ ending.journal) ≡ placed_end all)
      × AreInRow sizes.page_size all
  pub pages : (i page : ℕ) (image : List ℕ) (r : RiderState) → slice_get riders i ≡ Some r
      → HasFlushed sizes page image r → image ≡ page_left sizes page all

-- Where some of a domain's riders are threads, which have traces, and the others serve them, all that those did is one trace
abbrev pub TracesAreOne : Type 0 → Type 0
TracesAreOne F = (sizes : Sizes) (riders : List RiderState) (ending : EndingState F)
    (ends : IsEnding sizes riders ending) (is_thread : ℕ → Bool) → 0 < sizes.page_size → 0 < sizes.frames
    → ((i : ℕ) (r : RiderState) → is_thread i ≡ true → slice_get riders i ≡ Some r → RiderTraces sizes r)
    → ((i : ℕ) (r : RiderState) → is_thread i ≡ false → slice_get riders i ≡ Some r → Serves sizes r)
    → HasOneTrace sizes riders ending ends is_thread
