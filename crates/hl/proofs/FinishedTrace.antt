-- What the threads of a log did is one trace also with the session that finished.
use Rattle.std.proofs.Common.{◌≡◌, ◌≢◌, ℕ, zero, suc, ◌+◌, ◌-◌, ◌*◌, None, Option, ◌<◌, ◌≤◌, ◌⊎◌, Bool, true, false, List, [], ◌∷◌, ◌++◌, length, map, Some, Ok, Err, Result, IfOk, MatchResult, slice_get, ltb, ltb-true, eqb-true, refl, ap, sym, ◌∙◌, inl, inr, ⊎_elim, subst, arith, length-append}
use Rattle.std.specs.Prelude.{◌==◌, if◌then◌else◌}
use Rattle.std.specs.List.{AllByRecursion as Every, range_with_len}
use Rattle.std.proofs.lemmas.Bool.{cases_eq, cases_lt, eq-eqb, ne_eqb, le-ltb, lt-ltb}
use Rattle.std.proofs.lemmas.Option.{slice_get_within}
use Rattle.hl_model.specs.declared.fault.Fault.{Fault}
use Rattle.hl_model.specs.Sizes.{Sizes, AreInRange}
use Rattle.hl_words.specs.States.{RiderState, new_rider}
use Rattle.hl_words.proofs.Cut.{every_weaker}
use Rattle.hl_traces.specs.declared.act.Act.{Act}
use Rattle.hl_traces.specs.declared.act.Act.TheVariants.{Placed, Stored, Loaded, Changed, Met}
use Rattle.hl_traces.specs.OneTrace.{ActBy, by_thread, acts_by, leaves_at, left_at, ends_at, placed_end, EndsBelow, LeftUpTo, Follows, LiesBehind, AreInRow, AreOne, HasOneTrace, PlacesNone, Serves}
use Rattle.hl_traces.specs.Traces.{trace, RiderTraces}
use Rattle.hl_traces.proofs.JoinLaws.{not_both}
use Rattle.hl_domain.specs.Domains.{DomainState}
use Rattle.hl_crew.specs.declared.limits.Cuts.{Cuts}
use Rattle.hl_image.specs.Image.{image}
use Rattle.hl.specs.declared.outcome.Finished.{Finished}
use Rattle.hl.specs.declared.opening.Opening.{Opening}
use Rattle.hl.specs.Closings.{FlushesTaken, Stood}
use Rattle.hl.specs.Configs.{behind as behind_of}
use Rattle.hl.specs.LastSession.{one_or_none, rider_of, AreFinished, Finishing, Flusher, FlushedBy, IsUnfinished}
use Rattle.hl.specs.Openings.{opened_as}
use Rattle.hl.specs.Sessions.{SessionState, beside_crew, without_crew}
use Rattle.hl.specs.Traces.{acts, ArePads, OnlyPads}
use Rattle.hl.specs.Threads.{FinishedTrace, HoldsTrace}
use Rattle.hl.proofs.FlushLaws.{pads_both, pads_of_met}
use Rattle.hl.proofs.ThreadLaws.{count_is, trace_of_all, held_of_all, stood_acts, thread_traces, crew_serves, thread_acts}

-- A trace in which the threads have other numbers is the same trace
module _ (number : ℕ → ℕ) where
  pub numbered_leaves : (a : ℕ) (all : List ActBy) → left_at a (map (λ t. by_thread (number t.thread) t.act) all) ≡ left_at a all
  numbered_leaves a [] = refl
  numbered_leaves a (t ∷ all) = ap (leaves_at a t.act) (numbered_leaves a all)

  numbered_every : (P : Act → Type 0) (all : List ActBy) → Every (λ (t : ActBy). P t.act) all → Every (λ (t : ActBy). P t.act) (map (λ t. by_thread (number t.thread) t.act) all)
  numbered_every P [] h = tt
  numbered_every P (t ∷ all) h = (h.0, numbered_every P all h.1)

  numbered_follows : (all : List ActBy) (act : Act) → Follows all act → Follows (map (λ t. by_thread (number t.thread) t.act) all) act
  numbered_follows all (Placed a n) h = numbered_every (EndsBelow a) all h
  numbered_follows all (Stored a v) h = tt
  numbered_follows all (Loaded a v) h = h ∙ sym (numbered_leaves a all)
  numbered_follows all (Changed a f v) h = h ∙ sym (numbered_leaves a all)
  numbered_follows all (Met n) h = numbered_every (LeftUpTo n) all h

  pub numbered_one : (all : List ActBy) → AreOne all → AreOne (map (λ t. by_thread (number t.thread) t.act) all)
  numbered_one [] one = tt
  numbered_one (t ∷ all) one = (numbered_follows all t.act one.0, numbered_one all one.1)

  pub numbered_end : (all : List ActBy) → placed_end (map (λ t. by_thread (number t.thread) t.act) all) ≡ placed_end all
  numbered_end [] = refl
  numbered_end (t ∷ all) = ap (ends_at t.act) (numbered_end all)

  pub numbered_row : (page_size : ℕ) (all : List ActBy) → AreInRow page_size all → AreInRow page_size (map (λ t. by_thread (number t.thread) t.act) all)
  numbered_row page_size [] row = tt
  numbered_row page_size (t ∷ all) row = (subst (λ (end : ℕ). LiesBehind page_size end t.act) (sym (numbered_end all)) row.0, numbered_row page_size all row.1)

  -- who alone has a number has the same acts under it
  pub numbered_acts : (i j : ℕ) (all : List ActBy) → number i ≡ j → Every (λ (t : ActBy). number t.thread ≡ j → t.thread ≡ i) all → acts_by j (map (λ t. by_thread (number t.thread) t.act) all) ≡ acts_by i all
  numbered_acts i j [] is alone = refl
  numbered_acts i j (t ∷ all) is alone =
      let rest = numbered_acts i j all is alone.1 in
      ⊎_elim
      (λ (own : t.thread ≡ i).
      ap (λ (b : Bool). if b then t.act ∷ acts_by j (map (λ t. by_thread (number t.thread) t.act) all) else acts_by j (map (λ t. by_thread (number t.thread) t.act) all)) (eq-eqb (number t.thread) j (ap number own ∙ is))
      ∙ ap (λ (l : List Act). t.act ∷ l) rest
      ∙ sym (ap (λ (b : Bool). if b then t.act ∷ acts_by i all else acts_by i all) (eq-eqb t.thread i own)))
      (λ (apart : t.thread ≢ i).
      ap (λ (b : Bool). if b then t.act ∷ acts_by j (map (λ t. by_thread (number t.thread) t.act) all) else acts_by j (map (λ t. by_thread (number t.thread) t.act) all)) (ne_eqb (number t.thread) j (λ e. apart (alone.0 e)))
      ∙ rest
      ∙ sym (ap (λ (b : Bool). if b then t.act ∷ acts_by i all else acts_by i all) (ne_eqb t.thread i apart)))
      (cases_eq t.thread i)

-- words of a page by words at addresses
words_same : (f g : ℕ → ℕ) → ((a : ℕ) → f a ≡ g a) → (xs : List ℕ) → map f xs ≡ map g xs
words_same f g each [] = refl
words_same f g each (x ∷ xs) = ap (λ (y : ℕ). y ∷ map f xs) (each x) ∙ ap (λ (ys : List ℕ). g x ∷ ys) (words_same f g each xs)

-- an element of the first list, or of the one behind it
front_at : {X : Type 0} (xs ys : List X) (i : ℕ) (x : X) → i < length xs → slice_get (xs ++ ys) i ≡ Some x → slice_get xs i ≡ Some x
front_at [] ys i x less at = absurd (omega (arith, less))
front_at (z ∷ xs) ys zero x less at = at
front_at (z ∷ xs) ys (suc i) x less at = front_at xs ys i x (omega (arith, less)) at

front_of : {X : Type 0} (xs ys : List X) (i : ℕ) (x : X) → slice_get xs i ≡ Some x → slice_get (xs ++ ys) i ≡ Some x
front_of [] ys i x at = absurd (cc at)
front_of (z ∷ xs) ys zero x at = at
front_of (z ∷ xs) ys (suc i) x at = front_of xs ys i x at

behind_at : {X : Type 0} (xs ys : List X) (k : ℕ) → slice_get (xs ++ ys) (length xs + k) ≡ slice_get ys k
behind_at [] ys k = ap (λ (n : ℕ). slice_get ys n) (omega arith)
behind_at (z ∷ xs) ys k =
    let step : suc (length xs) + k ≡ suc (length xs + k) = omega arith in
    ap (λ (n : ℕ). slice_get (z ∷ (xs ++ ys)) n) step ∙ behind_at xs ys k

same_at : {X : Type 0} (xs : List X) (i : ℕ) (x y : X) → slice_get xs i ≡ Some x → slice_get xs i ≡ Some y → x ≡ y
same_at xs i x y e f = let same : Some x ≡ Some y = sym e ∙ f in cc same

-- who is a thread: each of the first so many, and each from another number on, of so many in all
abbrev who : ℕ → ℕ → ℕ → ℕ → Bool
who n count total i = if ltb i n then true else (if ltb i count then false else ltb i total)

-- under which number: those behind stand right behind the first
abbrev number_of : ℕ → ℕ → ℕ → ℕ
number_of n count i = if ltb i n then i else i - count + n

who_first : (n count total i : ℕ) → i < n → who n count total i ≡ true
who_first n count total i less = ap (λ (b : Bool). if b then true else (if ltb i count then false else ltb i total)) (lt-ltb i n less)

who_far : (n count total i : ℕ) → n ≤ count → count ≤ i → i < total → who n count total i ≡ true
who_far n count total i some far less =
    ap (λ (b : Bool). if b then true else (if ltb i count then false else ltb i total)) (le-ltb i n (omega (arith, some, far)))
    ∙ ap (λ (b : Bool). if b then false else ltb i total) (le-ltb i count far) ∙ lt-ltb i total less

who_is : (n count total i : ℕ) → who n count total i ≡ true → (i < n) ⊎ ((count ≤ i) × (i < total))
who_is n count total i h =
    ⊎_elim (λ (less : i < n). inl less)
    (λ (beyond : n ≤ i).
    let rest : (if ltb i count then false else ltb i total) ≡ true = sym (ap (λ (b : Bool). if b then true else (if ltb i count then false else ltb i total)) (le-ltb i n beyond)) ∙ h in
    ⊎_elim (λ (near : i < count). absurd (not_both rest (ap (λ (b : Bool). if b then false else ltb i total) (lt-ltb i count near))))
    (λ (far : count ≤ i). inr (far, ltb-true i total (sym (ap (λ (b : Bool). if b then false else ltb i total) (le-ltb i count far)) ∙ rest)))
    (cases_lt i count))
    (cases_lt i n)

who_not : (n count total i : ℕ) → n ≤ count → i < total → who n count total i ≡ false → (n ≤ i) × (i < count)
who_not n count total i some less h =
    ⊎_elim
    (λ (first : i < n). absurd (not_both (who_first n count total i first) h))
    (λ (beyond : n ≤ i). ⊎_elim (λ (near : i < count). (beyond, near)) (λ (far : count ≤ i). absurd (not_both (who_far n count total i some far less) h)) (cases_lt i count))
    (cases_lt i n)

number_first : (n count i : ℕ) → i < n → number_of n count i ≡ i
number_first n count i less = ap (λ (b : Bool). if b then i else i - count + n) (lt-ltb i n less)

number_far : (n count i : ℕ) → n ≤ i → number_of n count i ≡ i - count + n
number_far n count i far = ap (λ (b : Bool). if b then i else i - count + n) (le-ltb i n far)

number_behind : (n count k : ℕ) → n ≤ count → number_of n count (count + k) ≡ n + k
number_behind n count k some = omega (arith, number_far n count (count + k) (omega (arith, some)))

first_alone : (n count i t : ℕ) → i < n → number_of n count t ≡ i → t ≡ i
first_alone n count i t less is = ⊎_elim (λ (low : t < n). sym (number_first n count t low) ∙ is) (λ (far : n ≤ t). absurd (omega (arith, less, number_far n count t far, is))) (cases_lt t n)

behind_alone : (n count total k t : ℕ) → who n count total t ≡ true → number_of n count t ≡ n + k → t ≡ count + k
behind_alone n count total k t own is =
    ⊎_elim (λ (low : t < n). absurd (omega (arith, low, number_first n count t low, is)))
    (λ (far : (count ≤ t) × (t < total)). ⊎_elim (λ (low : t < n). absurd (omega (arith, low, number_first n count t low, is))) (λ (beyond : n ≤ t). omega (arith, far.0, number_far n count t beyond, is)) (cases_lt t n))
    (who_is n count total t own)

each_alone : (n count i : ℕ) → i < n → (all : List ActBy) → Every (λ (t : ActBy). number_of n count t.thread ≡ i → t.thread ≡ i) all
each_alone n count i less [] = tt
each_alone n count i less (t ∷ all) = (λ is. first_alone n count i t.thread less is, each_alone n count i less all)

most : (n count more : ℕ) (all : List ActBy) → Every (λ (t : ActBy). who n count (count + more) t.thread ≡ true) all → Every (λ (t : ActBy). t.thread < n + more) (map (λ t. by_thread (number_of n count t.thread) t.act) all)
most n count more [] own = tt
most n count more (t ∷ all) own = (
  ⊎_elim (λ (low : t.thread < n). omega (arith, low, number_first n count t.thread low))
      (λ (far : (count ≤ t.thread) × (t.thread < count + more)). ⊎_elim (λ (low : t.thread < n). omega (arith, low, number_first n count t.thread low)) (λ (beyond : n ≤ t.thread). omega (arith, far.0, far.1, number_far n count t.thread beyond)) (cases_lt t.thread n))
      (who_is n count (count + more) t.thread own.0),
  most n count more all own.1,
)

-- nobody has another number
nobody : (n count more : ℕ) (all : List ActBy) → Every (λ (t : ActBy). t.thread < n + more) all → (j : ℕ) → n + more ≤ j → acts_by j all ≡ []
nobody n count more [] few j far = refl
nobody n count more (t ∷ all) few j far =
    ap (λ (b : Bool). if b then t.act ∷ acts_by j all else acts_by j all) (ne_eqb t.thread j (λ e. absurd (omega (arith, e, few.0, far)))) ∙ nobody n count more all few.1 j far

-- The rider that flushed, if one did, has a trace: of calls, and of words that were placed
flush_traces : (F : Type 0) (log : DomainState) (Flushing : SessionState → SessionState → Result ℕ Fault → Type 0) → ((old new : SessionState) (out : Result ℕ Fault) → Flushing old new out → OnlyPads old new)
    → (name : ℕ) (flusher : Flusher) → Stood F log beside_crew true Flushing (new_rider name) (Ok flusher.1) flusher.0 → RiderTraces log.sizes flusher.1 × ArePads (trace log.sizes flusher.1)
flush_traces F log Flushing pads name flusher s =
    let sizes = ap (λ (l : DomainState). trace l.sizes flusher.1) s.log_stays in
    let ran = pads s.first s.last flusher.0 s.ran in
    let own : trace log.sizes flusher.1 ≡ s.went.0 ++ (ran.0 ++ acts s.first) = sym sizes ∙ s.went.2.1 ∙ ap (λ (l : List Act). s.went.0 ++ l) ran.2 in
    let came : ArePads (acts s.first) = subst ArePads (sym s.came.1) (inl (s.came.0, refl), tt) in
    (s.traces, subst ArePads (sym own) (pads_both s.went.0 (ran.0 ++ acts s.first) (pads_of_met s.went.0 s.went.1) (pads_both ran.0 (acts s.first) ran.1 came)))

-- it is the one behind the last, if there is one
flusher_at : (F : Type 0) (log : DomainState) (Flushing : SessionState → SessionState → Result ℕ Fault → Type 0) (flush : Bool) (rider : RiderState) (flusher : Option Flusher) (k : ℕ) (q : RiderState)
    → FlushedBy F log true Flushing (if flush then Some rider else None) flusher → slice_get (one_or_none (rider_of flusher)) k ≡ Some q
    → (one : Flusher) × (q ≡ one.1) × (k ≡ 0) × Stood F log beside_crew true Flushing rider (Ok one.1) one.0
flusher_at F log Flushing true rider (Some one) zero q by at = (one, (let same : one.1 ≡ q = cc at in sym same), refl, by)
flusher_at F log Flushing true rider (Some one) (suc k) q by at = absurd (cc at)
flusher_at F log Flushing true rider None k q by at = absurd by
flusher_at F log Flushing false rider (Some one) k q by at = absurd (cc by)
flusher_at F log Flushing false rider None k q by at = absurd (cc at)

flushers : (F : Type 0) (log : DomainState) (Flushing : SessionState → SessionState → Result ℕ Fault → Type 0) (flush : Bool) (rider : RiderState) (flusher : Option Flusher)
    → FlushedBy F log true Flushing (if flush then Some rider else None) flusher → length (one_or_none (rider_of flusher)) + 1 ≡ behind_of flush
flushers F log Flushing true rider (Some one) by = refl
flushers F log Flushing true rider None by = absurd by
flushers F log Flushing false rider (Some one) by = absurd (cc by)
flushers F log Flushing false rider None by = refl

-- Where the session of the last rider finished behind threads that each returned a value
module _ {Out : Type 0} (F : Type 0) (o : Opening Sizes) (cuts : Cuts) (flush : Bool) (Returns : ℕ → SessionState → SessionState → Out → Type 0) (Took : ℕ → List ℕ → Type 0) (Finishes : SessionState → SessionState → Out → Type 0) (Flushing : SessionState → SessionState → Result ℕ Fault → Type 0)
    (pads : (old new : SessionState) (out : Result ℕ Fault) → Flushing old new out → OnlyPads old new) (finished : Finished Out F) (range : AreInRange o.params) (r : AreFinished F o cuts flush Returns Took Finishes Flushing finished) where
  behind : length finished.outs.items + 4 ≡ r.count
  behind = omega (arith, r.returned.threads, count_is F Returns Took (opened_as o) true r.count finished.outs.items r.riders r.returned)

  some : length finished.outs.items ≤ r.count
  some = omega (arith, behind)

  abbrev last_ones : List RiderState
  last_ones = r.finish.last ∷ one_or_none (rider_of r.flusher)

  many : length last_ones ≡ behind_of flush
  many = let ones = flushers F (opened_as o) Flushing flush (new_rider (r.count + 1)) r.flusher r.flushed in omega (arith, ones)

  total_is : length (r.riders ++ last_ones) ≡ r.count + behind_of flush
  total_is = length-append r.riders last_ones ∙ omega (arith, r.returned.back, many)

  abbrev is_one : ℕ → Bool
  is_one = who (length finished.outs.items) r.count (r.count + behind_of flush)

  -- who stands behind the others
  far_at : (k : ℕ) → slice_get (r.riders ++ last_ones) (r.count + k) ≡ slice_get last_ones k
  far_at k = subst (λ (n : ℕ). slice_get (r.riders ++ last_ones) (n + k) ≡ slice_get last_ones k) r.returned.back (behind_at r.riders last_ones k)

  far_traces : (k : ℕ) (q : RiderState) → slice_get last_ones k ≡ Some q → RiderTraces o.params q
  far_traces zero q at = let same : r.finish.last ≡ q = cc at in subst (RiderTraces o.params) same r.finish.finish.traces
  far_traces (suc k) q at =
      let one = flusher_at F (opened_as o) Flushing flush (new_rider (r.count + 1)) r.flusher k q r.flushed at in
      subst (RiderTraces o.params) (sym one.1) (flush_traces F (opened_as o) Flushing pads (r.count + 1) one.0 one.3).0

  threads : (i : ℕ) (q : RiderState) → is_one i ≡ true → slice_get (r.riders ++ last_ones) i ≡ Some q → RiderTraces o.params q
  threads i q own at =
      ⊎_elim
      (λ (less : i < length finished.outs.items).
      thread_traces F Returns Took (opened_as o) true r.count finished.outs.items r.riders r.returned i q less (front_at r.riders last_ones i q (omega (arith, less, behind, r.returned.back)) at))
      (λ (far : (r.count ≤ i) × (i < r.count + behind_of flush)).
      let is : i ≡ r.count + (i - r.count) = omega (arith, far.0) in
      far_traces (i - r.count) q (sym (far_at (i - r.count)) ∙ subst (λ (n : ℕ). slice_get (r.riders ++ last_ones) n ≡ Some q) is at))
      (who_is (length finished.outs.items) r.count (r.count + behind_of flush) i own)

  crew : (i : ℕ) (q : RiderState) → is_one i ≡ false → slice_get (r.riders ++ last_ones) i ≡ Some q → Serves o.params q × PlacesNone o.params q × FlushesTaken Took o.params q
  crew i q other at =
      let is = who_not (length finished.outs.items) r.count (r.count + behind_of flush) i some (omega (arith, slice_get_within (r.riders ++ last_ones) i q at, total_is)) other in
      crew_serves F Returns Took (opened_as o) true r.count finished.outs.items r.riders r.returned i q is.0 (front_at r.riders last_ones i q (omega (arith, is.1, r.returned.back)) at)

  of_all : HasOneTrace o.params (r.riders ++ last_ones) finished.ending r.finish.ending is_one
  of_all = trace_of_all F o.params Took (r.riders ++ last_ones) finished.ending r.finish.ending is_one (omega (arith, range.page_size_least)) (omega (arith, range.frames_least)) threads crew

  holds : HoldsTrace o.params Took finished.ending of_all.all
  unfolding of_all
  holds = held_of_all F o.params Took (r.riders ++ last_ones) finished.ending r.finish.ending is_one (omega (arith, range.page_size_least)) (omega (arith, range.frames_least)) threads crew

  abbrev numbered : List ActBy
  numbered = map (λ t. by_thread (number_of (length finished.outs.items) r.count t.thread) t.act) of_all.all

  left_same : (a : ℕ) → left_at a of_all.all ≡ left_at a numbered
  left_same a = sym (numbered_leaves (number_of (length finished.outs.items) r.count) a of_all.all)

  thread_own : (i : ℕ) (q : RiderState) → i < length finished.outs.items → slice_get r.riders i ≡ Some q → acts_by i numbered ≡ trace o.params q
  thread_own i q less at =
      numbered_acts (number_of (length finished.outs.items) r.count) i i of_all.all (number_first (length finished.outs.items) r.count i less) (each_alone (length finished.outs.items) r.count i less of_all.all)
      ∙ of_all.each i q (who_first (length finished.outs.items) r.count (r.count + behind_of flush) i less) (front_of r.riders last_ones i q at)

  far_own : (k : ℕ) (q : RiderState) → slice_get last_ones k ≡ Some q → acts_by (length finished.outs.items + k) numbered ≡ trace o.params q
  far_own k q at =
      numbered_acts (number_of (length finished.outs.items) r.count) (r.count + k) (length finished.outs.items + k) of_all.all (number_behind (length finished.outs.items) r.count k some)
      (every_weaker (λ (t : ActBy). is_one t.thread ≡ true) (λ (t : ActBy). number_of (length finished.outs.items) r.count t.thread ≡ length finished.outs.items + k → t.thread ≡ r.count + k) of_all.all (λ t own is. behind_alone (length finished.outs.items) r.count (r.count + behind_of flush) k t.thread own is) of_all.theirs)
      ∙ of_all.each (r.count + k) q (who_far (length finished.outs.items) r.count (r.count + behind_of flush) (r.count + k) some (omega arith) (omega (arith, slice_get_within last_ones k q at, many))) (far_at k ∙ at)

  last_own : acts_by (length finished.outs.items) numbered ≡ trace o.params r.finish.last
  last_own =
      let same : length finished.outs.items + 0 ≡ length finished.outs.items = omega arith in
      subst (λ (n : ℕ). acts_by n numbered ≡ trace o.params r.finish.last) same (far_own 0 r.finish.last refl)

  few : Every (λ (t : ActBy). t.thread < length finished.outs.items + behind_of flush) numbered
  few = most (length finished.outs.items) r.count (behind_of flush) of_all.all of_all.theirs

  flush_own : ArePads (acts_by (length finished.outs.items + 1) numbered)
  flush_own = by r.flusher refl
    where
      by : (f : Option Flusher) → r.flusher ≡ f → ArePads (acts_by (length finished.outs.items + 1) numbered)
      by (Some one) e =
          let there : slice_get last_ones 1 ≡ Some one.1 = ap (λ (f : Option Flusher). slice_get (one_or_none (rider_of f)) 0) e in
          let is = flusher_at F (opened_as o) Flushing flush (new_rider (r.count + 1)) r.flusher 0 one.1 r.flushed there in
          subst ArePads (sym (far_own 1 one.1 there ∙ ap (trace o.params) is.1)) (flush_traces F (opened_as o) Flushing pads (r.count + 1) is.0 is.3).1
      by None e =
          let none : length (one_or_none (rider_of r.flusher)) ≡ 0 = ap (λ (f : Option Flusher). length (one_or_none (rider_of f))) e in
          subst ArePads (sym (nobody (length finished.outs.items) 0 (behind_of flush) numbered few (length finished.outs.items + 1) (omega (arith, many, none)))) tt

  pub finished_trace : FinishedTrace o.params flush Returns Took Finishes finished
  finished_trace = record {
    all = numbered;
    one = numbered_one (number_of (length finished.outs.items) r.count) of_all.all of_all.one;
    each = λ i out at. thread_acts F Returns Took (opened_as o) true r.count finished.outs.items r.riders r.returned i out (acts_by i numbered) at (λ q there. thread_own i q (slice_get_within finished.outs.items i out at) there);
    finish = stood_acts F (opened_as o) (without_crew cuts) true (Finishing Finishes) r.count r.finish.last finished.last (acts_by (length finished.outs.items) numbered) r.finish.finish last_own;
    flushed = flush_own;
    theirs = few;
    holds = record {
      words = λ a unclosed below. holds.words a unclosed below ∙ left_same a;
      kept = holds.kept;
      beyond = λ a far. sym (left_same a) ∙ holds.beyond a far;
      in_row = numbered_row (number_of (length finished.outs.items) r.count) o.params.page_size of_all.all holds.in_row;
      tail = holds.tail ∙ sym (numbered_end (number_of (length finished.outs.items) r.count) of_all.all);
      pages = λ page less.
          subst (λ (words : List ℕ). Took page (image page words))
          (words_same (λ a. left_at a of_all.all) (λ a. left_at a numbered) left_same (range_with_len (page * o.params.page_size) o.params.page_size)) (holds.pages page less);
    };
  }

-- so it is with each log that was finished
pub finished_one : {Out : Type 0} (F : Type 0) (o : Opening Sizes) (cuts : Cuts) (flush : Bool) (Returns : ℕ → SessionState → SessionState → Out → Type 0) (Took : ℕ → List ℕ → Type 0) (Finishes : SessionState → SessionState → Out → Type 0) (Flushing : SessionState → SessionState → Result ℕ Fault → Type 0) (result : Result (Finished Out F) Fault)
    → ((old new : SessionState) (out : Result ℕ Fault) → Flushing old new out → OnlyPads old new) → AreInRange o.params
    → MatchResult result (AreFinished F o cuts flush Returns Took Finishes Flushing) (IsUnfinished F o cuts flush Returns Took Finishes Flushing) → IfOk result (FinishedTrace o.params flush Returns Took Finishes)
finished_one F o cuts flush Returns Took Finishes Flushing (Ok finished) pads range is = finished_trace F o cuts flush Returns Took Finishes Flushing pads finished range is
finished_one F o cuts flush Returns Took Finishes Flushing (Err fault) pads range is = tt
