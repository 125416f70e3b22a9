-- What the threads of a log did is one trace.
use Rattle.std.proofs.Common.{None, ⊎_elim, ◌≡◌, ◌≢◌, ℕ, zero, suc, ◌*◌, ◌<◌, ◌≤◌, Bool, true, false, List, [], ◌∷◌, ◌++◌, length, map, Some, Ok, Err, Result, MatchResult, Vec, Global, slice_get, ltb, ltb-true, ltb-false, refl, ap, sym, ◌∙◌, subst, arith}
use Rattle.std.specs.Prelude.{◌||◌, drop, slice_index_or}
use Rattle.std.specs.List.{AllByRecursion as Every, list_any}
use native.Mathlib.Nat.{lt_of_mul-lt-mul_right}
use Rattle.std.proofs.lemmas.Bool.{lt-ltb}
use Rattle.std.proofs.lemmas.List.{length-map}
use Rattle.std.proofs.lemmas.Option.{get_or_from_slice_get, slice_get_cases, slice_get-get_or, slice_get_within}
use Rattle.hl_model.specs.declared.fault.Fault.{Fault}
use Rattle.hl_model.specs.declared.fault.Fault.TheVariants.{Stranger}
use Rattle.hl_model.specs.declared.step.Step.{Step}
use Rattle.hl_model.specs.declared.step.Step.TheVariants.{Allocate, Write, FlushTake, FlushDone, CleanTake, CleanDone}
use Rattle.hl_model.specs.declared.snapshot.Snapshot.{Snapshot}
use Rattle.hl_model.specs.Offsets.{tail}
use Rattle.hl_model.specs.Pages.{flushes, flushed_run}
use Rattle.hl_model.specs.Sizes.{Sizes, AreInRange}
use Rattle.hl_laws.proofs.PageFacts.{head-le-flushed}
use Rattle.hl_laws.proofs.BoundLaws.{closed-le-head}
use Rattle.hl_history.specs.declared.view.Entry.{Entry}
use Rattle.hl_words.specs.States.{RiderState, new_rider}
use Rattle.hl_words.proofs.Cut.{every_weaker}
use Rattle.hl_keeper.specs.Endings.{EndingState}
use Rattle.hl_domain.specs.Domains.{DomainState, IsEnding}
use Rattle.hl_image.specs.Image.{image}
use Rattle.hl_images.specs.Entered.{newest_writes}
use Rattle.hl_images.specs.Kept.{RiderEnters}
use Rattle.hl_traces.specs.declared.act.Act.{Act}
use Rattle.hl_memory.specs.Acts.{is_of_pages, NoneOfPages}
use Rattle.hl_traces.specs.OneTrace.{acts_by, page_left, placed_end, ActBy, AreInRow, PlacesNone, Serves, HasOneTrace}
use Rattle.hl_traces.specs.Traces.{placed_by, places, trace, RiderTraces}
use Rattle.hl_traces.proofs.OneLaws.{traces_are_one}
use Rattle.hl_crew.specs.Riders.{has_flushed, is_crew_step, MakesCrewSteps}
use Rattle.hl.specs.declared.opening.Opening.{Opening}
use Rattle.hl.specs.Closings.{rider_at, AllReturned, CountReturned, FlushesTaken, Stood, Tells}
use Rattle.hl.specs.Openings.{opened_as}
use Rattle.hl.specs.Sessions.{Beside, SessionState, beside_crew}
use Rattle.hl.specs.Threads.{ThreadActs, HoldsTrace, AreOneTrace, ThreadsAreOne, HaveOneTrace}
use Rattle.hl.proofs.EvictedLaws.{flushed_by_one}

answered_at : {X E : Type 0} (xs : List X) (i : ℕ) (x : X) (d : Result X E) → slice_get xs i ≡ Some x → slice_index_or (map (λ y. Ok y) xs) i d ≡ Ok x
answered_at [] i x d e = absurd (cc e)
answered_at {X} {E} (y ∷ xs) zero x d e = let same : y ≡ x = cc e in ap (λ (z : X). Ok z) same
answered_at (y ∷ xs) (suc i) x d e = answered_at xs i x d e

-- values as results
abbrev oks : {Out : Type 0} → List Out → List (Result Out Fault)
oks outs = map (λ out. Ok out) outs

-- what holds of all from a place on
from_on : (P : RiderState → Type 0) (n : ℕ) (xs : List RiderState) → Every P (drop n xs) → (i : ℕ) (x : RiderState) → n ≤ i → slice_get xs i ≡ Some x → P x
from_on P n [] all i x far e = absurd (cc e)
from_on P zero (y ∷ xs) all zero x far e = let same : y ≡ x = cc e in subst P same all.0
from_on P zero (y ∷ xs) all (suc i) x far e = from_on P zero xs all.1 i x (omega arith) e
from_on P (suc n) (y ∷ xs) all zero x far e = absurd (omega (arith, far))
from_on P (suc n) (y ∷ xs) all (suc i) x far e = from_on P n xs all i x (omega (arith, far)) e

-- steps of a crew write nothing
no_writes : (steps older : List Step) → Every (λ (s : Step). is_crew_step s ≡ true) steps → newest_writes steps older ≡ older
no_writes [] older all = refl
no_writes (Write t a v ∷ steps) older all = absurd (cc all.0)
no_writes (_ ∷ steps) older all = no_writes steps older all.1

none_written : (calls : List Entry) → Every (λ (e : Entry). Every (λ (s : Step). is_crew_step s ≡ true) e.steps) calls → Every (λ (e : Entry). newest_writes e.steps [] ≡ []) calls
none_written [] all = tt
none_written (e ∷ calls) all = (no_writes e.steps [] all.0, none_written calls all.1)

-- nor do they place records
no_places : (sizes : Sizes) (A steps : List Step) → Every (λ (s : Step). is_crew_step s ≡ true) steps → places sizes A steps ≡ []
no_places sizes A [] all = refl
no_places sizes A (Allocate t n ∷ steps) all = absurd (cc all.0)
no_places sizes A (s ∷ steps) all = ap (λ (l : List Act). l ++ placed_by sizes A s) (no_places sizes (A ++ s ∷ []) steps all.1)

none_placed : (sizes : Sizes) (calls : List Entry) → Every (λ (e : Entry). Every (λ (s : Step). is_crew_step s ≡ true) e.steps) calls → Every (λ (e : Entry). places sizes e.before e.steps ≡ []) calls
none_placed sizes [] all = tt
none_placed sizes (e ∷ calls) all = (no_places sizes e.before e.steps all.0, none_placed sizes calls all.1)

-- who neither flushes nor cleans answered no page as flushed
flushes_none : (page : ℕ) (steps : List Step) → list_any is_of_pages steps ≡ false → list_any (flushes page) steps ≡ false
flushes_none page [] e = refl
flushes_none page (FlushTake ∷ steps) e = absurd (cc e)
flushes_none page (FlushDone p ok ∷ steps) e = absurd (cc e)
flushes_none page (CleanTake ∷ steps) e = absurd (cc e)
flushes_none page (CleanDone p ∷ steps) e = absurd (cc e)
flushes_none page (_ ∷ steps) e = flushes_none page steps e

flushed_none : (page : ℕ) (calls : List Entry) → NoneOfPages calls → has_flushed page calls ≡ false
flushed_none page [] none = refl
flushed_none page (e ∷ calls) none = ap (λ (b : Bool). b || has_flushed page calls) (flushes_none page e.steps none.0) ∙ flushed_none page calls none.1

-- a page that begins below so many pages is one of them
page_within : (page size run : ℕ) → page * size < size * run → page < run
page_within page size run less =
    let swap : size * run ≡ run * size = omega arith in
    lt_of_mul-lt-mul_right size (omega (arith, less, swap))

-- Where some of a log's riders are threads, which have traces, and the others serve them and have flushed what was taken
module _ (F : Type 0) (sizes : Sizes) (Took : ℕ → List ℕ → Type 0) (riders : List RiderState) (ending : EndingState F) (ends : IsEnding sizes riders ending) (is_thread : ℕ → Bool)
    (page_some : 0 < sizes.page_size) (frames_some : 0 < sizes.frames) (threads : (i : ℕ) (q : RiderState) → is_thread i ≡ true → slice_get riders i ≡ Some q → RiderTraces sizes q)
    (crew : (i : ℕ) (q : RiderState) → is_thread i ≡ false → slice_get riders i ≡ Some q → Serves sizes q × PlacesNone sizes q × FlushesTaken Took sizes q) where
  pub trace_of_all : HasOneTrace sizes riders ending ends is_thread
  trace_of_all = traces_are_one F sizes riders ending ends is_thread page_some frames_some threads (λ i q other at. (crew i q other at).0)

  flushed_taken : (page i : ℕ) (q : RiderState) → slice_get riders i ≡ Some q → has_flushed page q.calls ≡ true → Took page (image page (page_left sizes page trace_of_all.all))
  flushed_taken page i q at flushed = by (is_thread i) refl
    where
      by : (b : Bool) → is_thread i ≡ b → Took page (image page (page_left sizes page trace_of_all.all))
      by true own = absurd (let contrary : false ≡ true = sym (flushed_none page q.calls (threads i q own at).pages) ∙ flushed in cc)
      by false other =
          let t = (crew i q other at).2 page flushed in
          subst (λ (words : List ℕ). Took page (image page words)) (trace_of_all.pages i page t.0 q at t.2) t.1

  in_row : (tail sizes (ends.steps_cut ++ ending.journal) ≡ placed_end trace_of_all.all) × AreInRow sizes.page_size trace_of_all.all
  in_row = trace_of_all.placed (λ i q other at. (crew i q other at).1)

  pub held_of_all : HoldsTrace sizes Took ending trace_of_all.all
  held_of_all = record {
    words = λ a unclosed below.
        let closed_is = ap (λ (s : Snapshot). s.six.closed) ends.snapshot_is in
        let tail_is = ap (λ (s : Snapshot). s.six.tail) ends.snapshot_is in
        trace_of_all.words a (omega (arith, unclosed, closed_is)) (omega (arith, below, tail_is));
    pages = λ page less.
        let list = ends.steps_cut ++ ending.journal in
        let flushed_is = ap (λ (s : Snapshot). s.six.flushed) ends.snapshot_is in
        let one = flushed_by_one sizes list riders page ends.one_list (page_within page sizes.page_size (flushed_run sizes list) (omega (arith, less, flushed_is))) in
        flushed_taken page one.0 one.1 one.2 one.3;
    kept =
        let list = ends.steps_cut ++ ending.journal in
        let closed_is = ap (λ (s : Snapshot). s.six.closed) ends.snapshot_is in
        let flushed_is = ap (λ (s : Snapshot). s.six.flushed) ends.snapshot_is in
        omega (arith, closed_is, flushed_is, closed-le-head sizes list ends.accepted, head-le-flushed sizes list ends.accepted);
    beyond = λ a far. let tail_is = ap (λ (s : Snapshot). s.six.tail) ends.snapshot_is in trace_of_all.beyond a (omega (arith, far, tail_is));
    in_row = in_row.1;
    tail = ap (λ (s : Snapshot). s.six.tail) ends.snapshot_is ∙ in_row.0;
  }

-- the acts of a rider that stood in a session
pub stood_acts : {Out : Type 0} (F : Type 0) (log : DomainState) (beside : Beside) (may_cut : Bool) (Returns : SessionState → SessionState → Out → Type 0) (name : ℕ) (last : RiderState) (out : Out) (own : List Act)
    → Stood F log beside may_cut Returns (new_rider name) (Ok last) out → own ≡ trace log.sizes last → ThreadActs Returns own out
stood_acts F log beside may_cut Returns name last out own s here =
    let sizes = ap (λ (l : DomainState). trace l.sizes last) s.log_stays in
    record {
      first = s.first;
      last = s.last;
      fresh = s.came;
      ran = s.ran;
      left = s.went.0;
      met = s.went.1;
      own_is = here ∙ sym sizes ∙ s.went.2.1;
    }

-- Of threads that each returned a value, and a crew
module _ {Out : Type 0} (F : Type 0) (Returns : ℕ → SessionState → SessionState → Out → Type 0) (Took : ℕ → List ℕ → Type 0) (log : DomainState) (may_cut : Bool) (count : ℕ) (outs : List Out) (riders : List RiderState)
    (r : CountReturned F log may_cut Returns Took count (map (λ out. Ok out) outs) riders) where
  pub count_is : length (oks outs) ≡ length outs
  count_is = length-map outs (λ out. Ok out)

  stood : (i : ℕ) (out : Out) → slice_get outs i ≡ Some out → Stood F log beside_crew may_cut (Returns i) (new_rider i) (Ok (rider_at riders i)) out
  stood i out at =
      subst (λ (x : Result Out Fault). Tells F log beside_crew may_cut (Returns i) (new_rider i) (rider_at riders i) x) (answered_at outs i out (Ok out) at) (r.each i (Ok out) (omega (arith, slice_get_within outs i out at, count_is)))

  pub thread_traces : (i : ℕ) (q : RiderState) → i < length outs → slice_get riders i ≡ Some q → RiderTraces log.sizes q
  thread_traces i q less at =
      ⊎_elim (λ (o : (out : Out) × (i < length outs) × (slice_get outs i ≡ Some out) × (slice_index_or outs i out ≡ out)). subst (RiderTraces log.sizes) (get_or_from_slice_get riders i q (new_rider i) at) (stood i o.0 o.2).traces)
      (λ (none : (length outs ≤ i) × (slice_get outs i ≡ None)). absurd (omega (arith, less, none.0))) (slice_get_cases outs i).1

  pub crew_serves : (i : ℕ) (q : RiderState) → length outs ≤ i → slice_get riders i ≡ Some q → Serves log.sizes q × PlacesNone log.sizes q × FlushesTaken Took log.sizes q
  crew_serves i q far at =
      let n = length (oks outs) in
      let beyond : n ≤ i = omega (arith, far, count_is) in (
        record {
          enters = from_on (RiderEnters log.sizes) n riders r.enters i q beyond at;
          writes = none_written q.calls (from_on MakesCrewSteps n riders r.makes i q beyond at);
        },
        none_placed log.sizes q.calls (from_on MakesCrewSteps n riders r.makes i q beyond at),
        from_on (FlushesTaken Took log.sizes) n riders r.images i q beyond at,
      )

  pub thread_acts : (i : ℕ) (out : Out) (own : List Act) → slice_get outs i ≡ Some out → ((q : RiderState) → slice_get riders i ≡ Some q → own ≡ trace log.sizes q) → ThreadActs (Returns i) own out
  thread_acts i out own at here =
      let there = slice_get-get_or riders i (new_rider i) (omega (arith, slice_get_within outs i out at, r.back, r.threads, count_is)) in
      stood_acts F log beside_crew may_cut (Returns i) i (rider_at riders i) out own (stood i out at) (here (rider_at riders i) there)

-- Where these are all riders of a log that was closed
module _ {Out : Type 0} (F : Type 0) (Returns : ℕ → SessionState → SessionState → Out → Type 0) (Took : ℕ → List ℕ → Type 0) (log : DomainState) (may_cut : Bool) (outs : List Out) (riders : List RiderState) (ending : EndingState F)
    (page_some : 0 < log.sizes.page_size) (frames_some : 0 < log.sizes.frames) (r : AllReturned F log may_cut Returns Took (map (λ out. Ok out) outs) riders) (ends : IsEnding log.sizes riders ending) where
  threads : (i : ℕ) (q : RiderState) → ltb i (length outs) ≡ true → slice_get riders i ≡ Some q → RiderTraces log.sizes q
  threads i q first = thread_traces F Returns Took log may_cut log.riders outs riders r i q (ltb-true i (length outs) first)

  crew : (i : ℕ) (q : RiderState) → ltb i (length outs) ≡ false → slice_get riders i ≡ Some q → Serves log.sizes q × PlacesNone log.sizes q × FlushesTaken Took log.sizes q
  crew i q other = crew_serves F Returns Took log may_cut log.riders outs riders r i q (ltb-false i (length outs) other)

  of_all : HasOneTrace log.sizes riders ending ends (λ i. ltb i (length outs))
  of_all = trace_of_all F log.sizes Took riders ending ends (λ i. ltb i (length outs)) page_some frames_some threads crew

  are_one : AreOneTrace F log.sizes Returns Took outs ending
  unfolding of_all trace_of_all
  are_one = record {
    all = of_all.all;
    one = of_all.one;
    each = λ i out at. thread_acts F Returns Took log may_cut log.riders outs riders r i out (acts_by i of_all.all) at (λ q there. of_all.each i q (lt-ltb i (length outs) (slice_get_within outs i out at)) there);
    theirs = every_weaker (λ (t : ActBy). ltb t.thread (length outs) ≡ true) (λ (t : ActBy). t.thread < length outs) of_all.all (λ t first. ltb-true t.thread (length outs) first) of_all.theirs;
    holds = held_of_all F log.sizes Took riders ending ends (λ i. ltb i (length outs)) page_some frames_some threads crew;
  }

pub threads_are_one : {Out : Type 0} (F : Type 0) (Returns : ℕ → SessionState → SessionState → Out → Type 0) (Took : ℕ → List ℕ → Type 0) → ThreadsAreOne F Returns Took
threads_are_one F Returns Took log may_cut outs riders ending page_some frames_some r ends = are_one F Returns Took log may_cut outs riders ending page_some frames_some r ends

-- so it is with what a log's threads left that was closed
pub closed_trace : {Out : Type 0} (F : Type 0) (o : Opening Sizes) (may_cut : Bool) (Returns : ℕ → SessionState → SessionState → Out → Type 0) (Took : ℕ → List ℕ → Type 0) (riders : List RiderState) (results : Vec (Result Out Fault) Global) (ending : Result (EndingState F) Fault) → AreInRange o.params
    → AllReturned F (opened_as o) may_cut Returns Took results.items riders
    → MatchResult ending (λ ending. (length riders ≡ o.riders) × IsEnding o.params riders ending) (λ fault. (fault ≡ Stranger o.stamp) × (length riders ≢ o.riders))
    → HaveOneTrace F o.params Returns Took results ending
closed_trace F o may_cut Returns Took riders results (Ok ending) range all ends = λ outs are.
    threads_are_one F Returns Took (opened_as o) may_cut outs riders ending (omega (arith, range.page_size_least)) (omega (arith, range.frames_least)) (subst (λ l. AllReturned F (opened_as o) may_cut Returns Took l riders) are all) ends.1
closed_trace F o may_cut Returns Took riders results (Err fault) range all ends = tt
