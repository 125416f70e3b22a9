-- What follows from the one trace of a log's threads, for common wants.
use Rattle.std.specs.Prelude.{ℕ, ◌≡◌, ◌<◌, ◌%◌, ◌^◌, ◌⊎◌, Bool, true, Some, Result, MatchResult, List, [], ◌∷◌, ◌++◌, length, map, slice_get}
use Rattle.std.specs.List.{AllByRecursion, sum}
use Rattle.hl_model.specs.declared.fault.Fault.{Fault}
use Rattle.hl_traces.specs.declared.act.Act.{Act}
use Rattle.hl_traces.specs.Counters.{AddsAt}
use Rattle.hl_traces.specs.OneTrace.{ActBy, acts_by, left_at, AreOne}
use Rattle.hl_traces.specs.Records.{Appended, AppendsOnly, AllAppend}
use Rattle.hl.specs.Sessions.{SessionState}
use Rattle.hl.specs.Threads.{ThreadActs}
use Rattle.hl.specs.Traces.{acts, AppendsBy, IsFresh}

-- A counter: where each thread's work tells of what the thread returned how much it added to the word at an address, and
-- that it did nothing else there, that word ends as the sum, modulo 2^64
abbrev pub CountersEndAsSums : {Out : Type 0} → (ℕ → SessionState → SessionState → Out → Type 0) → Type 0
CountersEndAsSums {Out} Returns = (all : List ActBy) (outs : List Out) (a : ℕ) (total : Out → ℕ) → AreOne all
    → AllByRecursion (λ t. t.thread < length outs) all
    → ((i : ℕ) (out : Out) → slice_get outs i ≡ Some out → ThreadActs (Returns i) (acts_by i all) out)
    → ((i : ℕ) (first last : SessionState) (out : Out) → IsFresh first → Returns i first last out
    → AddsAt a (total out) (acts last))
    → left_at a all ≡ sum (map total outs) % 2 ^ 64

-- a record of these words, all of which were stored
abbrev pub whole : ℕ → List ℕ → Appended
whole a words = record { address = a; words = words; count = length words }

-- each of these is a number of 64 bits
abbrev pub AreNumbers : List ℕ → Type 0
AreNumbers words = (m v : ℕ) → slice_get words m ≡ Some v → v < 2 ^ 64

-- These records have words that are `ok`. All of those words were stored of just those at these addresses; the append of each
-- other was refused midway
pub record AreJust (ok : List ℕ → Bool) (records : List Appended) (entries : List (ℕ × List ℕ)) : Type 0 where
  pub has : (n : ℕ) (entry : ℕ × List ℕ) → slice_get entries n ≡ Some entry
      → (k : ℕ) × (slice_get records k ≡ Some (whole entry.0 entry.1))
  pub others : (k : ℕ) (r : Appended) → slice_get records k ≡ Some r → (r.count < length r.words)
      ⊎ ((r ≡ whole r.address r.words) × (n : ℕ) × (slice_get entries n ≡ Some (r.address, r.words)))
  pub fine : (k : ℕ) (r : Appended) → slice_get records k ≡ Some r → (ok r.words ≡ true) × AreNumbers r.words

-- these acts appended such records, and placed and stored nothing else
pub record HasAppended (ok : List ℕ → Bool) (own : List Act) (entries : List (ℕ × List ℕ)) : Type 0 where
  pub records : List Appended
  pub only : AppendsOnly records own
  pub just : AreJust ok records entries

-- An append: a session that has appended these has one more, if it was answered with an address, and else the same
abbrev pub AppendsMore : Type 0
AppendsMore = (ok : List ℕ → Bool) (again : ℕ) (words : List ℕ) (result : Result ℕ Fault) (old new : SessionState)
    (entries : List (ℕ × List ℕ)) → ok words ≡ true → AreNumbers words
    → AppendsBy again words result old new → HasAppended ok (acts old) entries → MatchResult result
    (λ a. HasAppended ok (acts new) (entries ++ (a, words) ∷ [])) (λ _. HasAppended ok (acts new) entries)

-- all that threads did which returned these is appends of records: of each thread those that it tells
pub record AllHaveAppended {Out : Type 0} (ok : List ℕ → Bool) (all : List ActBy) (outs : List Out)
    (entries : Out → List (ℕ × List ℕ)) : Type 0 where
  pub records : ℕ → List Appended
  pub appends : AllAppend records all
  pub just : (i : ℕ) (out : Out) → slice_get outs i ≡ Some out → AreJust ok (records i) (entries out)
  pub theirs : (i k : ℕ) (r : Appended) → slice_get (records i) k ≡ Some r
      → (out : Out) × (slice_get outs i ≡ Some out)

-- Records: where each thread's work tells of what the thread returned what it appended, and that it placed and stored nothing
-- else, all that the threads did is appends of such records
abbrev pub ThreadsAppend : {Out : Type 0} → (ℕ → SessionState → SessionState → Out → Type 0) → Type 0
ThreadsAppend {Out} Returns = (ok : List ℕ → Bool) (all : List ActBy) (outs : List Out)
    (entries : Out → List (ℕ × List ℕ)) → AllByRecursion (λ t. t.thread < length outs) all
    → ((i : ℕ) (out : Out) → slice_get outs i ≡ Some out → ThreadActs (Returns i) (acts_by i all) out)
    → ((i : ℕ) (first last : SessionState) (out : Out) → IsFresh first → Returns i first last out
    → HasAppended ok (acts last) (entries out))
    → AllHaveAppended ok all outs entries
