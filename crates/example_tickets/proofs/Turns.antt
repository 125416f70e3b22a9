-- Two calls of one list, of which the later one's thread saw that there were no fewer steps than after the earlier one.
use Rattle.std.proofs.Common.{◌≡◌, ◌≢◌, ℕ, suc, ◌+◌, ◌<◌, ◌≤◌, List, [], ◌∷◌, ◌++◌, map, length, slice_index_or, Bool, Option, Some, Ok, Result, IfOk, MatchResult, true, slice_get, refl, ap, sym, ◌∙◌, subst, arith, length-append}
use Rattle.std.proofs.lemmas.List.{get_or-map, length-map}
use Rattle.std.proofs.lemmas.Option.{slice_get_within, get_or_from_slice_get, slice_get-get_or}
use Rattle.hl_model.specs.declared.fault.Fault.{Fault}
use Rattle.hl_model.specs.declared.fault.Fault.TheVariants.{Stranger}
use Rattle.hl_model.specs.declared.step.Step.{Step}
use Rattle.hl_model.specs.declared.step.Step.TheVariants.{Settle, Release}
use Rattle.hl_model.specs.Actions.{bumps}
use Rattle.hl_model.specs.Sizes.{Sizes}
use Rattle.hl_action.specs.declared.no_job.NoJob.{NoJob}
use Rattle.hl_history.specs.declared.view.Entry.{Entry}
use Rattle.hl_history.specs.Lists.{Begins, Rises, entry, IsOf}
use Rattle.hl_words.specs.States.{RiderState, new_rider}
use Rattle.hl_keeper.specs.Endings.{EndingState}
use Rattle.hl_domain.specs.Domains.{DomainState, IsEnding}
use Rattle.hl_domain.specs.Told.{LaterCallsBegin}
use Rattle.hl.specs.declared.opening.Opening.{Opening}
use Rattle.hl.specs.declared.shared.Returned.{Returned}
use Rattle.hl.specs.Openings.{opened_as}
use Rattle.hl.specs.Closings.{rider_at, IsClosed, Stood, Tells, AllReturned, AreAllReturned}
use Rattle.hl.specs.declared.open.Closed.{Closed}
use Rattle.hl.specs.Sessions.{beside_crew}
use Rattle.hl.proofs.LeaveLaws.{left_calls}
use Rattle.example_tickets.specs.declared.in_turn.Answer.{Answer}
use Rattle.example_tickets.specs.InTurn.{DrewFirst, DrewSecond, Drew, answers, AreInTurn}
use Rattle.example_tickets.proofs.Draws.{every_at, bumps-append, one_more}

-- a bump of a list that begins with what an earlier bump left was answered more
greater : (l m : List Step) → Begins (l ++ Settle ∷ []) m → bumps (l ++ Settle ∷ []) < bumps (m ++ Settle ∷ [])
greater l m b = omega (arith, ap bumps b.1, bumps-append (l ++ Settle ∷ []) b.0, one_more m)

-- a list that begins with another is no shorter
begins_long : (xs list : List Step) → Begins xs list → length xs ≤ length list
begins_long xs list b = omega (arith, ap length b.1, length-append xs b.0)

-- the bump before the call that told a number left no more steps
first_left : (ticket steps : ℕ) (enter drawn : List Entry) (d : DrewFirst ticket steps enter drawn) → Rises drawn → length d.list + 1 ≤ steps
first_left ticket steps enter drawn d rises =
    let r : Rises (entry d.seen [] ∷ entry d.list (Settle ∷ []) ∷ enter) = subst Rises d.calls_are rises in
    omega (arith, begins_long (d.list ++ Settle ∷ []) d.seen r.0.0, length-append d.list (Settle ∷ []), d.steps_are)

-- the bump after the call that saw no fewer met no fewer
second_met : (ticket steps : ℕ) (enter drawn : List Entry) (d : DrewSecond ticket steps enter drawn) → Rises drawn → steps ≤ length d.list
second_met ticket steps enter drawn d rises =
    let r : Rises (entry d.list (Settle ∷ []) ∷ entry d.seen [] ∷ enter) = subst Rises d.calls_are rises in
    omega (arith, begins_long (d.seen ++ []) d.list r.0.0, length-append d.seen [], d.steps_are)

-- so it is of calls behind others
rises_behind : (newer calls : List Entry) → Rises (newer ++ calls) → Rises calls
rises_behind [] calls h = h
rises_behind (e ∷ newer) calls h = rises_behind newer calls h.1

-- where one of these calls stands behind others
abbrev behind : List Entry → ℕ → ℕ
behind [] i = i
behind (e ∷ newer) i = suc (behind newer i)

at_behind : (newer calls : List Entry) (i : ℕ) → slice_get (newer ++ calls) (behind newer i) ≡ slice_get calls i
at_behind [] calls i = refl
at_behind (e ∷ newer) calls i = at_behind newer calls i

module _ {F : Type 0} (sizes : Sizes) (riders : List RiderState) (ending : EndingState F) (law : LaterCallsBegin F) (end : IsEnding sizes riders ending) where
  rises_at : (i : ℕ) (r : RiderState) (newer drawn : List Entry) → slice_get riders i ≡ Some r → r.calls ≡ newer ++ drawn → Rises drawn
  rises_at i r newer drawn at are =
      let A : List Step = end.steps_cut ++ ending.journal in
      let calls : List (List Entry) = map (λ (x : RiderState). x.calls) riders in
      let within = slice_get_within riders i r at in
      let is : slice_index_or calls i [] ≡ newer ++ drawn = get_or-map (λ (x : RiderState). x.calls) riders i r [] within ∙ ap (λ (x : RiderState). x.calls) (get_or_from_slice_get riders i r r at) ∙ are in
      let of_r : IsOf A (newer ++ drawn) = subst (IsOf A) is (every_at (IsOf A) calls i [] end.one_list.each (omega (arith, within, length-map riders (λ (x : RiderState). x.calls)))) in
      rises_behind newer drawn of_r.rises

  less_of : (a b steps : ℕ) → Drew DrewFirst a steps (slice_get riders 0) → Drew DrewSecond b steps (slice_get riders 1) → a < b
  less_of a b steps p q =
      let d = p.draws in
      let e = q.draws in
      let left = first_left a steps p.enter p.drawn d (rises_at 0 p.rider (p.leave ∷ p.vain) p.drawn p.is p.calls_are) in
      let met = second_met b steps q.enter q.drawn e (rises_at 1 q.rider (q.leave ∷ q.vain) q.drawn q.is q.calls_are) in
      let m = behind (q.leave ∷ q.vain) 0 in
      let n = behind (p.leave ∷ p.vain) 1 in
      let mine : slice_get q.rider.calls m ≡ Some (entry e.list (Settle ∷ [])) = ap (λ l. slice_get l m) q.calls_are ∙ at_behind (q.leave ∷ q.vain) q.drawn 0 ∙ ap (λ l. slice_get l 0) e.calls_are in
      let its : slice_get p.rider.calls n ≡ Some (entry d.list (Settle ∷ [])) = ap (λ l. slice_get l n) p.calls_are ∙ at_behind (p.leave ∷ p.vain) p.drawn 1 ∙ ap (λ l. slice_get l 1) d.calls_are in
      let begins = law sizes riders ending 1 0 m n q.rider p.rider (entry e.list (Settle ∷ [])) (entry d.list (Settle ∷ [])) end q.is p.is mine its (omega (arith, left, met)) in
      omega (arith, d.ticket_is, e.ticket_is, greater d.list e.list begins)

-- a thread's rider drew its ticket
drew_of : {J : Type 0} (Draws : ℕ → ℕ → List Entry → List Entry → Type 0) (log : DomainState) (may_cut : Bool) (number : ℕ) (old new : RiderState) (answer : Answer) (at : Option RiderState)
    → (s : Stood J log beside_crew may_cut (answers number) old (Ok new) (Some answer)) → Draws answer.ticket answer.steps s.first.pass.rider.calls s.last.pass.rider.calls → at ≡ Some new → Drew Draws answer.ticket answer.steps at
drew_of Draws log may_cut number old new answer at s draws is =
    let left = left_calls may_cut s.last new s.met in
    record {
      rider = new;
      is = is;
      leave = entry left.0 (s.last.pass.touches ++ Release s.last.pass.slot ∷ []);
      vain = left.1;
      none = left.2;
      enter = s.first.pass.rider.calls;
      drawn = s.last.pass.rider.calls;
      calls_are = left.3;
      draws = draws;
    }

-- what the threads' log left, where both drew
module _ {J : Type 0} (may_cut : Bool) (Took : ℕ → List ℕ → Type 0) (o : Opening Sizes) (outs : List (Result (Option Answer) Fault)) (riders : List RiderState) (all : AllReturned J (opened_as o) may_cut answers Took outs riders) where
  stood_at : (number : ℕ) (answer : Answer) → slice_get outs number ≡ Some (Ok (Some answer)) → Stood J (opened_as o) beside_crew may_cut (answers number) (new_rider number) (Ok (rider_at riders number)) (Some answer)
  stood_at number answer at =
      let told = all.each number (Ok (Some answer)) (slice_get_within outs number (Ok (Some answer)) at) in
      subst (λ (x : Result (Option Answer) Fault). Tells J (opened_as o) beside_crew may_cut (answers number) (new_rider number) (rider_at riders number) x) (get_or_from_slice_get outs number (Ok (Some answer)) (Ok (Some answer)) at) told

  rider_of : (number : ℕ) (answer : Answer) → slice_get outs number ≡ Some (Ok (Some answer)) → slice_get riders number ≡ Some (rider_at riders number)
  rider_of number answer at = slice_get-get_or riders number (new_rider number) (omega (arith, slice_get_within outs number (Ok (Some answer)) at, all.threads, all.back))

  in_turn : (ending : EndingState NoJob) (first second : Answer) → LaterCallsBegin NoJob → IsEnding o.params riders ending → slice_get outs 0 ≡ Some (Ok (Some first)) → slice_get outs 1 ≡ Some (Ok (Some second)) → first.steps ≡ second.steps
      → AreInTurn o (record { first = first.ticket; second = second.ticket; ending = ending })
  in_turn ending first second law end at also same =
      let s = stood_at 0 first at in
      let t = stood_at 1 second also in
      let p : Drew DrewFirst first.ticket first.steps (slice_get riders 0) = drew_of DrewFirst (opened_as o) may_cut 0 (new_rider 0) (rider_at riders 0) first (slice_get riders 0) s (s.ran.0 refl) (rider_of 0 first at) in
      let q : Drew DrewSecond second.ticket second.steps (slice_get riders 1) = drew_of DrewSecond (opened_as o) may_cut 1 (new_rider 1) (rider_at riders 1) second (slice_get riders 1) t (t.ran.1 refl) (rider_of 1 second also) in
      let r : Drew DrewSecond second.ticket first.steps (slice_get riders 1) = subst (λ n. Drew DrewSecond second.ticket n (slice_get riders 1)) (sym same) q in
      record {
        riders = riders;
        steps = first.steps;
        first = p;
        second = r;
        ends = end;
        less = less_of o.params riders ending law end first.ticket second.ticket first.steps p r;
      }

-- the same of what `with_threads` returned
pub turns_left : (may_cut : Bool) (Took : ℕ → List ℕ → Type 0) (o : Opening Sizes) (result : Result (Closed (Returned (Option Answer)) NoJob) Fault) (closed : Closed (Returned (Option Answer)) NoJob)
    (ending : EndingState NoJob) (first second : Answer)
    → result ≡ Ok closed → closed.ending ≡ Ok ending → slice_get closed.out.outs.items 0 ≡ Some (Ok (Some first)) → slice_get closed.out.outs.items 1 ≡ Some (Ok (Some second)) → first.steps ≡ second.steps → LaterCallsBegin NoJob
    → IfOk result (IsClosed o (AreAllReturned NoJob (opened_as o) may_cut answers Took))
    → AreInTurn o (record { first = first.ticket; second = second.ticket; ending = ending })
turns_left may_cut Took o result closed ending first second opened ending_is at also same law told =
    let left : IsClosed o (AreAllReturned NoJob (opened_as o) may_cut answers Took) closed = subst (λ k. IfOk k (IsClosed o (AreAllReturned NoJob (opened_as o) may_cut answers Took))) opened told in
    let riders = left.riders in
    let all : AllReturned NoJob (opened_as o) may_cut answers Took closed.out.outs.items riders = left.left in
    let end = subst (λ k. MatchResult k (λ ending. (length riders ≡ o.riders) × IsEnding o.params riders ending) (λ fault. (fault ≡ Stranger o.stamp) × (length riders ≢ o.riders))) ending_is left.ending in
    in_turn may_cut Took o closed.out.outs.items riders all ending first second law end.1 at also same
