-- What the threads of a log did is one trace, and memory and device show what it leaves.
use Rattle.std.specs.Prelude.{ℕ, ◌≡◌, ◌<◌, ◌≤◌, ◌+◌, ◌*◌, ◌/◌, Bool, Result, Ok, Some, IfOk, List, ◌∷◌, ◌++◌, length, map, slice_get, slice_index, Vec}
use Rattle.std.specs.List.{AllByRecursion}
use Rattle.std.specs.declared.alloc.Global.{Global}
use Rattle.hl_model.specs.declared.fault.Fault.{Fault}
use Rattle.hl_model.specs.Sizes.{Sizes}
use Rattle.hl_words.specs.States.{RiderState}
use Rattle.hl_keeper.specs.Endings.{EndingState}
use Rattle.hl_keeper.specs.Passes.{cell_at}
use Rattle.hl_domain.specs.Domains.{DomainState, IsEnding}
use Rattle.hl_image.specs.Image.{image}
use Rattle.hl_traces.specs.declared.act.Act.{Act}
use Rattle.hl_traces.specs.declared.act.Act.TheVariants.{Placed}
use Rattle.hl_traces.specs.OneTrace.{ActBy, by_thread, acts_by, left_at, page_left, placed_end, AreInRow, AreOne}
use Rattle.hl.specs.declared.outcome.Finished.{Finished}
use Rattle.hl.specs.Closings.{AllReturned}
use Rattle.hl.specs.Configs.{behind}
use Rattle.hl.specs.LastSession.{Finishing}
use Rattle.hl.specs.Sessions.{SessionState}
use Rattle.hl.specs.Traces.{acts, AreMet, ArePads, IsFresh}

-- A thread's acts: all that it did in its session, which its work tells so, and then the calls by which it left
pub record ThreadActs {Out : Type 0} (Returns : SessionState → SessionState → Out → Type 0) (own : List Act)
    (out : Out) : Type 0 where
  pub first : SessionState
  pub last : SessionState
  pub fresh : IsFresh first
  pub ran : Returns first last out
  pub left : List Act
  pub met : AreMet left
  pub own_is : own ≡ left ++ acts last

-- At a log's end memory and device have what these acts leave: memory the words from the closed offset to the tail, the
-- device each page below the flushed offset, of whose image so much holds; and no word is in neither. At the tail and beyond
-- nothing was stored; the records lie in a row, and the newest ends at the tail
pub record HoldsTrace {F : Type 0} (sizes : Sizes) (Took : ℕ → List ℕ → Type 0) (ending : EndingState F)
    (all : List ActBy) : Type 0 where
  pub words : (a : ℕ) → ending.snapshot.six.closed ≤ a → a < ending.snapshot.six.tail
      → slice_index ending.words.words (cell_at sizes a) ≡ left_at a all
  pub pages : (page : ℕ) → page * sizes.page_size < ending.snapshot.six.flushed
      → Took page (image page (page_left sizes page all))
  pub kept : ending.snapshot.six.closed ≤ ending.snapshot.six.flushed
  pub beyond : (a : ℕ) → ending.snapshot.six.tail ≤ a → left_at a all ≡ 0
  pub in_row : AreInRow sizes.page_size all
  pub tail : ending.snapshot.six.tail ≡ placed_end all

-- All that threads did which returned these, in one order: each load and each change found what the newest store before it
-- at its very address left. At the end memory and device have what it leaves
pub record AreOneTrace {Out : Type 0} (F : Type 0) (sizes : Sizes)
    (Returns : ℕ → SessionState → SessionState → Out → Type 0) (Took : ℕ → List ℕ → Type 0) (outs : List Out)
    (ending : EndingState F) : Type 0 where
  pub all : List ActBy
  pub one : AreOne all
  pub each : (i : ℕ) (out : Out) → slice_get outs i ≡ Some out → ThreadActs (Returns i) (acts_by i all) out
  pub theirs : AllByRecursion (λ t. t.thread < length outs) all
  pub holds : HoldsTrace sizes Took ending all

-- So it is where each thread of a log returned a value, and the log was closed
abbrev pub ThreadsAreOne : {Out : Type 0} → (F : Type 0) → (ℕ → SessionState → SessionState → Out → Type 0)
    → (ℕ → List ℕ → Type 0) → Type 0
ThreadsAreOne {Out} F Returns Took = (log : DomainState) (may_cut : Bool) (outs : List Out)
    (riders : List RiderState) (ending : EndingState F) → 0 < log.sizes.page_size → 0 < log.sizes.frames
    → AllReturned F log may_cut Returns Took (map (λ out. Ok out) outs) riders
    → IsEnding log.sizes riders ending → AreOneTrace F log.sizes Returns Took outs ending

-- if each thread returned a value, and the ending is there, all that they did is one trace
abbrev pub HaveOneTrace : {Out : Type 0} → (F : Type 0) → Sizes
    → (ℕ → SessionState → SessionState → Out → Type 0) → (ℕ → List ℕ → Type 0)
    → Vec (Result Out Fault) Global → Result (EndingState F) Fault → Type 0
HaveOneTrace {Out} F sizes Returns Took results ending = IfOk ending (λ ending.
    (outs : List Out) → results.items ≡ map (λ out. Ok out) outs
    → AreOneTrace F sizes Returns Took outs ending)

-- The same with the session that finished: its acts stand under the number behind those of the threads; and under the next
-- one those of the flush at the end, if that was wanted: calls, and words placed, of which nothing was stored
pub record FinishedTrace {Out F : Type 0} (sizes : Sizes) (flush : Bool)
    (Returns : ℕ → SessionState → SessionState → Out → Type 0) (Took : ℕ → List ℕ → Type 0)
    (Finishes : SessionState → SessionState → Out → Type 0) (finished : Finished Out F) : Type 0 where
  pub all : List ActBy
  pub one : AreOne all
  pub each : (i : ℕ) (out : Out) → slice_get finished.outs.items i ≡ Some out
      → ThreadActs (Returns i) (acts_by i all) out
  pub finish : ThreadActs (Finishing Finishes) (acts_by (length finished.outs.items) all) finished.last
  pub flushed : ArePads (acts_by (length finished.outs.items + 1) all)
  pub theirs : AllByRecursion (λ t. t.thread < length finished.outs.items + behind flush) all
  pub holds : HoldsTrace sizes Took finished.ending all

-- The device has each word of each record, of a log that was flushed up to its tail: it took the image of the word's page, with
-- the words that the trace leaves there
abbrev pub AllIsWritten : Type 0 → (ℕ → List ℕ → Type 0) → Type 0
AllIsWritten F Took = (sizes : Sizes) (ending : EndingState F) (all : List ActBy) → HoldsTrace sizes Took ending all
    → AreOne all → ending.snapshot.six.tail ≤ ending.snapshot.six.flushed → (newer before : List ActBy) (i a n k : ℕ)
    → all ≡ newer ++ by_thread i (Placed a n) ∷ before → k < n
    → let page = (a + k) / sizes.page_size in Took page (image page (page_left sizes page all))
