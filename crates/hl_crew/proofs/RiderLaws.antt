-- What a crew's calls do leaves it so that its riders store only to sweep, that each store is entered, that they make a
-- crew's steps alone, cut nothing if it never cuts, and flush only what they imaged.
use Rattle.std.proofs.Common.{◌≡◌, ℕ, ◌+◌, Bool, true, false, List, [], ◌∷◌, Some, None, slice_get, refl, sym, ap, ◌∙◌, subst, inl, inr}
use Rattle.std.specs.Prelude.{length, Result, Ok, Err, MatchResult, Option, unwrap_or, ◌⊎◌, ◌&&◌, ◌||◌, ◌==◌, All}
use Rattle.std.specs.List.{AllByRecursion, list_any}
use Rattle.std.proofs.lemmas.Option.{get_or_from_slice_get, slice_get_within}
use Rattle.hl_model.specs.declared.step.Step.{Step}
use Rattle.hl_model.specs.declared.step.Step.TheVariants.{Raise, Settle, Shift, Close, Take, Done, FlushTake, FlushDone}
use Rattle.hl_model.specs.declared.snapshot.Snapshot.{Snapshot}
use Rattle.hl_model.specs.declared.fault.Fault.{Fault}
use Rattle.hl_model.specs.declared.fault.Fault.TheVariants.{JournalFull, NoneSealed}
use Rattle.hl_model.specs.Pages.{flushes, clean_of}
use Rattle.hl_model.specs.Replies.{or_fault, unless_fault, unless_page}
use Rattle.hl_model.specs.Sizes.{Sizes}
use Rattle.hl_action.specs.Jobs.{ReadyRecord}
use Rattle.hl_history.specs.declared.view.Entry.{Entry}
use Rattle.hl_words.specs.declared.view.RiderView.{RiderView}
use Rattle.hl_words.specs.States.{RiderState, with_view}
use Rattle.hl_keeper.specs.Keepers.{KeeperState}
use Rattle.hl_keeper.specs.Pages.{first_cell, loaded_all}
use Rattle.hl_keeper.specs.declared.load.PageJob.{PageJob}
use Rattle.hl_domain.specs.Domains.{DomainState, Call, LeavesUnderLock, answered, call_of, no_step, steps_if}
use Rattle.hl_lag.specs.Lag.{lag_of}
use Rattle.hl_images.specs.Entered.{is_touch}
use Rattle.hl_images.specs.Kept.{RiderEnters}
use Rattle.hl_images.specs.Later.{IsLater}
use Rattle.hl_images.specs.Sweeps.{AreSweeps, StoresSweep}
use Rattle.hl_images.proofs.KeptLaws.{riders_stay_entered}
use Rattle.hl_images.proofs.LaterLaws.{same as is_same, still, loads as later_loads, call as later_call}
use Rattle.hl_crew.specs.declared.ends.Accepted.{Accepted}
use Rattle.hl_crew.specs.declared.messages.Over.{Over}
use Rattle.hl_crew.specs.declared.messages.Over.TheVariants.{Lost}
use Rattle.hl_crew.specs.declared.limits.Cuts.{Cuts}
use Rattle.hl_crew.specs.declared.limits.Cuts.TheVariants.{Never, EachTurn, Above}
use Rattle.hl_crew.specs.declared.flusher.FlusherState.{FlusherState}
use Rattle.hl_crew.specs.declared.limits.Limits.{Limits}
use Rattle.hl_crew.specs.declared.stop.Stopped.{Stopped}
use Rattle.hl_crew.specs.Cutting.{EndsTurn, OrCuts}
use Rattle.hl_crew.specs.Flushes.{HoldState, AnswersPage, Tells}
use Rattle.hl_crew.specs.Goes.{Followed, UpTo}
use Rattle.hl_crew.specs.Lags.{is_lag_step, MakesIf, MakesNext, KeepsLag}
use Rattle.hl_crew.specs.Overs.{makes_room}
use Rattle.hl_crew.specs.Riders.{is_crew_step, MakesCrewSteps, has_flushed, CutsNothing, CutsNone, WorksOn}
use Rattle.hl_crew.specs.Runs.{FlushesIf, Acts, Ends, MakesTurn, TurnsNext, TurnsBy, Serves, ServeState, serve_of, ServesOnce, ServesNext, ServesUntil}
use Rattle.hl_crew.specs.Tries.{TriesAgain, Tries, EndsAction}
use Rattle.hl_crew.specs.Turns.{SendState, Takes, Loads, SendsPage, Finishes, RunsAction}
use Rattle.hl_crew.proofs.LagLaws.{lag_kinds}
use Rattle.hl_crew.proofs.RepeatLaws.{each_hold, followed_holds, then_holds, up_to_holds}

-- the page that an accepted take names
pub named : {J : Type 0} (none : Fault) (told : ℕ → J) (page : J → ℕ) → ((p : ℕ) → page (told p) ≡ p) → (room : Option Fault) (next : Option ℕ) (job : J)
    → Ok job ≡ unless_fault (or_fault room (unless_page none next)) (told (unwrap_or next 0)) → next ≡ Some (page job)
named none told page is None (Some p) job e = let same : job ≡ told p = cc e in ap Some (sym (ap page same ∙ is p))
named none told page is None None job e = absurd cc
named none told page is (Some f) next job e = absurd cc

-- a call whose one step flushes no page
quiet : {X : Type 0} (result : Result X Fault) (s : Step) → ((p : ℕ) → flushes p s ≡ false) → (p : ℕ) → list_any (flushes p) (steps_if result (s ∷ [])) ≡ false
quiet (Ok x) s none p = ap (λ b. b || false) (none p)
quiet (Err fault) s none p = refl

-- a step of a crew that is no touch, and frees no page
abbrev pub IsPlain : Step → Type 0
IsPlain s = (is_crew_step s ≡ true) × (is_touch s ≡ false) × (clean_of s ≡ None)

-- each of the lag's is one
lag_plain : (s : Step) → is_lag_step s ≡ true → IsPlain s
lag_plain (Raise x) is = (refl, refl, refl)
lag_plain Settle is = (refl, refl, refl)
lag_plain (Shift x) is = (refl, refl, refl)
lag_plain Close is = (refl, refl, refl)
lag_plain _ is = absurd cc

-- a call whose one step is a crew's
made_by : {X : Type 0} (result : Result X Fault) (s : Step) → is_crew_step s ≡ true → AllByRecursion (λ (t : Step). is_crew_step t ≡ true) (steps_if result (s ∷ []))
made_by (Ok x) s is = (is, tt)
made_by (Err fault) s is = tt

-- a step of the lag flushes none
lag_quiet : (s : Step) → is_lag_step s ≡ true → (p : ℕ) → flushes p s ≡ false
lag_quiet (Raise x) is p = refl
lag_quiet Settle is p = refl
lag_quiet (Shift x) is p = refl
lag_quiet Close is p = refl
lag_quiet _ is p = absurd cc

-- nor does one that ended badly
pub failed_quiet : (page : ℕ) (p : ℕ) → flushes p (FlushDone page false) ≡ false
failed_quiet page p = by (page == p)
  where
    by : (same : Bool) → (same && false) ≡ false
    by true = refl
    by false = refl

-- loads leave the stores as they are
loads_sweep : (sizes : Sizes) (cell : ℕ) (words : List ℕ) (view : RiderView) (calls : List Entry) → AreSweeps sizes view.touches calls → AreSweeps sizes (loaded_all cell words view).touches calls
unfolding loaded_all
loads_sweep sizes cell [] view calls is = is
loads_sweep sizes cell (w ∷ words) view calls is = loads_sweep sizes (cell + 1) words _ calls is

-- the loads of a copy are no calls
loads_cut_none : (cell : ℕ) (words : List ℕ) (view : RiderView) → AllByRecursion CutsNothing view.touches → AllByRecursion CutsNothing (loaded_all cell words view).touches
unfolding loaded_all
loads_cut_none cell [] view none = none
loads_cut_none cell (w ∷ words) view none = loads_cut_none (cell + 1) words _ (tt, none)

-- a crew that makes room cuts
pub room_cuts : (cuts : Cuts) → makes_room cuts ≡ true → cuts ≡ Never → ⊥
room_cuts Never room never = absurd cc
room_cuts EachTurn room never = absurd cc
room_cuts (Above steps) room never = absurd cc

-- a crew, that cuts so, serves or not, on a domain of these sizes
module _ (cuts : Cuts) (serves : Bool) (sizes : Sizes) where
  -- a rider that did nothing
  pub no_more : (old new : RiderState) → new ≡ old → WorksOn cuts serves sizes old new
  no_more old new same = subst (λ r. WorksOn cuts serves sizes old r) (sym same) (record { later = is_same old; sweeps = λ s. s; enters = λ h. h; makes = λ m. m; keeps = λ never c. c; flushes = λ serving p. refl })

  -- one thing after another
  pub then : (old mid new : RiderState) → WorksOn cuts serves sizes old mid → WorksOn cuts serves sizes mid new → WorksOn cuts serves sizes old new
  then old mid new a b = record {
    later = still old mid new a.later b.later;
    sweeps = λ s. b.sweeps (a.sweeps s);
    enters = λ h. b.enters (a.enters h);
    makes = λ m. b.makes (a.makes m);
    keeps = λ never c. b.keeps never (a.keeps never c);
    flushes = λ serving p. b.flushes serving p ∙ a.flushes serving p;
  }

  -- a call of a crew's steps that cuts nothing if the crew never cuts, and flushes no page if it serves
  pub call_works : {F : Type 0} {domain : DomainState} {call : Call} {H : KeeperState F → KeeperState F → Type 0} (left : LeavesUnderLock F domain call H) → (cuts ≡ Never → left.after.cut ≡ left.before.cut)
      → ((list : List Step) → AllByRecursion (λ s. is_crew_step s ≡ true) (call.steps list))
      → (serves ≡ true → (p : ℕ) (list : List Step) → list_any (flushes p) (call.steps list) ≡ false) → (RiderEnters sizes call.old → RiderEnters sizes call.new) → WorksOn cuts serves sizes call.old call.new
  call_works {call = call} left keep made none enters = record {
    later = subst (IsLater call.old) (sym left.entered) (later_call left.before.cut left.after.cut left.list (call.steps left.list) call.old);
    sweeps = λ s. subst (StoresSweep sizes) (sym left.entered) s;
    enters = enters;
    makes = λ m. subst MakesCrewSteps (sym left.entered) (made left.list, m);
    keeps = λ never c. subst CutsNone (sym left.entered) (keep never, c);
    flushes = λ serving p. ap (λ (r : RiderState). has_flushed p r.calls) left.entered ∙ ap (λ b. b || has_flushed p call.old.calls) (none serving p left.list);
  }

  -- a call that made no step keeps what is entered
  none_enters : {F : Type 0} {domain : DomainState} {H : KeeperState F → KeeperState F → Type 0} (old new : RiderState) → LeavesUnderLock F domain (no_step old new) H → RiderEnters sizes old → RiderEnters sizes new
  none_enters old new left h = subst (RiderEnters sizes) (sym left.entered) ((riders_stay_entered sizes).refused left.before.cut left.after.cut left.list old h)

  -- a call of one step
  pub step_works : {F X : Type 0} {domain : DomainState} {H : KeeperState F → KeeperState F → Type 0} (s : Step) (result : Result X Fault) (old new : RiderState) (left : LeavesUnderLock F domain (answered result (call_of s old new)) H)
      → left.after.cut ≡ left.before.cut → IsPlain s → (serves ≡ true → (p : ℕ) → flushes p s ≡ false) → WorksOn cuts serves sizes old new
  step_works {F = F} {X = X} {domain = domain} {H = H} s result old new left keep plain none = call_works left (λ never. keep) (λ list. made_by result s plain.0) (λ serving p list. quiet result s (none serving) p) (by result left)
    where
      by : (result : Result X Fault) → LeavesUnderLock F domain (answered result (call_of s old new)) H → RiderEnters sizes old → RiderEnters sizes new
      by (Ok x) left h = subst (RiderEnters sizes) (sym left.entered) ((riders_stay_entered sizes).call left.before.cut left.after.cut left.list s old plain.1 plain.2 h)
      by (Err fault) left h = none_enters old new left h

  -- a call that made no step
  pub none_works : {F : Type 0} {domain : DomainState} {H : KeeperState F → KeeperState F → Type 0} (old new : RiderState) (left : LeavesUnderLock F domain (no_step old new) H) → (cuts ≡ Never → left.after.cut ≡ left.before.cut) → WorksOn cuts serves sizes old new
  none_works old new left keep = call_works left keep (λ list. tt) (λ serving p list. refl) (none_enters old new left)

  -- a cut of a crew that cuts
  pub cut_works : {F : Type 0} {domain : DomainState} {H : KeeperState F → KeeperState F → Type 0} (old new : RiderState) → (cuts ≡ Never → ⊥) → LeavesUnderLock F domain (no_step old new) H → WorksOn cuts serves sizes old new
  cut_works old new may left = none_works old new left (λ never. absurd (may never))

  -- the copy of a page
  pub loads_work : (page : ℕ) (words : List ℕ) (old new : RiderState) → length words ≡ sizes.page_size → new ≡ with_view (loaded_all (first_cell sizes page) words old.view) old → WorksOn cuts serves sizes old new
  loads_work page words old new long is = subst (λ r. WorksOn cuts serves sizes old r) (sym is) (record {
    later = later_loads (first_cell sizes page) words old;
    sweeps = λ s. loads_sweep sizes (first_cell sizes page) words old.view old.calls s;
    enters = λ h. (riders_stay_entered sizes).loads page words old long h;
    makes = λ m. m;
    keeps = λ never c. loads_cut_none (first_cell sizes page) words old.view c;
    flushes = λ serving p. refl;
  })

  module _ (F : Type 0) (domain : DomainState) (may_cut : Bool) (may : may_cut ≡ true → cuts ≡ Never → ⊥) where
    -- tries that others follow, all but the last
    pub again_work : {X : Type 0} (Answered : Result X Fault → RiderState → RiderState → Type 0) → ((old new : RiderState) → Answered (Err JournalFull) old new → WorksOn cuts serves sizes old new)
        → (n : ℕ) (old new : RiderState) → Followed (TriesAgain F domain may_cut Answered) n old new → WorksOn cuts serves sizes old new
    again_work Answered each = followed_holds (WorksOn cuts serves sizes) no_more then (TriesAgain F domain may_cut Answered) again
      where
        again : (i : ℕ) (next : Result Bool Fault) (old new : RiderState) → TriesAgain F domain may_cut Answered i next old new → WorksOn cuts serves sizes old new
        again i next old new (refused, answered, room, cut) = then old refused new (each old refused answered) (cut_works refused new (may room) cut)

    pub tries_work : {X : Type 0} (Answered : Result X Fault → RiderState → RiderState → Type 0) → ((answer : Result X Fault) (old new : RiderState) → Answered answer old new → WorksOn cuts serves sizes old new)
        → (result : Result X Fault) (old new : RiderState) → Tries F domain may_cut Answered result old new → WorksOn cuts serves sizes old new
    tries_work Answered each result old new tries =
        then old tries.last new (again_work Answered (each (Err JournalFull)) tries.before old tries.last tries.again) (each result tries.last new tries.answered)

  -- what a crew's calls on one domain do
  module _ (F : Type 0) (domain : DomainState) where
    pub or_cuts_work : (done result : Result Bool Over) (old new : RiderState) → OrCuts F domain cuts done result old new → WorksOn cuts serves sizes old new
    or_cuts_work done result old new (inl (is, same, room)) = no_more old new same
    or_cuts_work done result old new (inr (full, room, dropped, is, cut)) = cut_works old new (room_cuts cuts room) cut

    turn_end_works : (limit : Cuts) → limit ≡ cuts → (old new : RiderState) → EndsTurn F domain limit old new → WorksOn cuts serves sizes old new
    turn_end_works Never are old new same = no_more old new same
    turn_end_works EachTurn are old new cut = cut_works old new (λ never. let no : EachTurn ≡ Never = are ∙ never in absurd cc) cut
    turn_end_works (Above steps) are old new (true, mid, looked, cut) =
        then old mid new (none_works old mid looked (λ never. ap (λ (k : KeeperState F). k.cut) looked.holds.0)) (cut_works mid new (λ never. let no : Above steps ≡ Never = are ∙ never in absurd cc) cut)
    turn_end_works (Above steps) are old new (false, mid, looked, same) = then old mid new (none_works old mid looked (λ never. ap (λ (k : KeeperState F). k.cut) looked.holds.0)) (no_more mid new same)

    take_works : (answer : Result (ReadyRecord F) Fault) (old new : RiderState) → Takes F domain answer old new → WorksOn cuts serves sizes old new
    take_works answer old new taken = step_works Take answer old new taken taken.holds.1.cut (refl, refl, refl) (λ serving p. refl)

    finish_works : (origin ticket : ℕ) (over : Result Accepted Over) (old new : RiderState) → Finishes F domain cuts origin ticket over old new → WorksOn cuts serves sizes old new
    finish_works origin ticket over old new (result, told, tries) =
        tries_work F domain (makes_room cuts) (room_cuts cuts) (EndsAction F domain origin ticket) (λ answer a b done. step_works (Done ticket) answer a b done done.holds.1.0.cut (refl, refl, refl) (λ serving p. refl)) result old new tries

    action_works : (i : ℕ) (result : Result Bool Over) (old new : RiderState) → RunsAction F domain cuts i result old new → WorksOn cuts serves sizes old new
    action_works i (Ok true) old new one = then old one.mid new (take_works (Ok one.ready) old one.mid one.taken) (finish_works _ _ _ one.mid new one.done)
    action_works i (Ok false) old new (fault, none, taken) = take_works (Err fault) old new taken
    action_works i (Err over) old new (inl (fault, other, is, taken)) = take_works (Err fault) old new taken
    action_works i (Err over) old new (inr (ready, mid, taken, done)) = then old mid new (take_works (Ok ready) old mid taken) (finish_works _ _ _ mid new done)

    load_works : (answer : Result PageJob Fault) (old new : RiderState) → Loads F domain answer old new → WorksOn cuts serves sizes old new
    load_works answer old new taken = step_works FlushTake answer old new taken taken.holds.1.0.cut (refl, refl, refl) (λ serving p. refl)

    -- a page that is sent
    send_works : (i : ℕ) (result : Result Bool Over) (old new : SendState) → SendsPage F domain i result old new → WorksOn cuts serves sizes old.rider new.rider
    send_works i (Ok true) old new ((load, taken, puts), more) = load_works (Ok load) old.rider new.rider taken
    send_works i (Ok false) old new ((taken, same), sent) = load_works (Err NoneSealed) old.rider new.rider taken
    send_works i (Err over) old new (inl (fault, other, is, (taken, same)), sent) = load_works (Err fault) old.rider new.rider taken
    send_works i (Err over) old new (inr (lost, (load, taken, puts)), sent) = load_works (Ok load) old.rider new.rider taken

-- each of the lag's steps is one
kind_at : (steps : List Step) → All (λ step. is_lag_step step ≡ true) steps → (i : ℕ) (step : Step) → slice_get steps i ≡ Some step → is_lag_step step ≡ true
kind_at steps kinds i step at = subst (λ (s : Step). is_lag_step s ≡ true) (get_or_from_slice_get steps i step step at) (kinds i step (slice_get_within steps i step at))

-- what a flusher does
module _ {L : Type 0} (limits : Limits) (sizes : Sizes) (F : Type 0) (domain : DomainState) where
  -- what two states of it are known to be
  abbrev FlusherWorks : Bool → FlusherState L → FlusherState L → Type 0
  FlusherWorks serves old new = WorksOn limits.cuts serves sizes old.rider new.rider

  flusher_same : (serves : Bool) (old new : FlusherState L) → new ≡ old → FlusherWorks serves old new
  flusher_same serves old new same = no_more limits.cuts serves sizes old.rider new.rider (ap (λ (o : FlusherState L). o.rider) same)

  flusher_then : (serves : Bool) (old mid new : FlusherState L) → FlusherWorks serves old mid → FlusherWorks serves mid new → FlusherWorks serves old new
  flusher_then serves old mid new = then limits.cuts serves sizes old.rider mid.rider new.rider

  make_works : (serves wanted : Bool) (step : Step) (result : Result (Unit {0}) Fault) (old new : FlusherState L) → is_lag_step step ≡ true → MakesIf F domain wanted step result old new → FlusherWorks serves old new
  make_works serves false step result old new lag (is, same) = flusher_same serves old new same
  make_works serves true step (Ok done) old new lag (answer, made, is) = step_works limits.cuts serves sizes step (Ok answer) old.rider new.rider made made.holds.1.cut (lag_plain step lag) (λ serving. lag_quiet step lag)
  make_works serves true step (Err fault) old new lag (made, is) = step_works limits.cuts serves sizes {F = F} {X = ℕ} step (Err fault) old.rider new.rider made made.holds.1.cut (lag_plain step lag) (λ serving. lag_quiet step lag)

  lag_step_works : (serves : Bool) (now : Snapshot) (steps : List Step) → All (λ step. is_lag_step step ≡ true) steps → (i : ℕ) (result : Result Bool Fault) (old new : FlusherState L) → MakesNext F domain serves now steps i result old new → FlusherWorks serves old new
  lag_step_works serves now steps kinds i (Ok true) old new (step, at, made) = make_works serves _ step _ old new (kind_at steps kinds i step at) made
  lag_step_works serves now steps kinds i (Ok false) old new none = absurd none
  lag_step_works serves now steps kinds i (Err fault) old new (step, at, made) = make_works serves _ step _ old new (kind_at steps kinds i step at) made

  lag_works : (serves : Bool) (mutable resident : ℕ) (result : Result (Unit {0}) Over) (old new : FlusherState L) → KeepsLag F domain serves mutable resident result old new → FlusherWorks serves old new
  lag_works serves mutable resident result old new lag =
      let steps : List Step = lag_of domain.sizes.page_size lag.now.six mutable resident in
      up_to_holds (FlusherWorks serves) (flusher_same serves) (flusher_then serves) (MakesNext F domain serves lag.now steps) (lag_step_works serves lag.now steps (lag_kinds domain.sizes.page_size lag.now.six mutable resident)) _ lag.made _ new lag.steps

  -- what it does with pages that it sent, if the writers don't take them themselves
  abbrev HoldWorks : HoldState L → HoldState L → Type 0
  HoldWorks old new = WorksOn limits.cuts false sizes old.own.rider new.own.rider

  hold_same : (old new : HoldState L) → new ≡ old → HoldWorks old new
  hold_same old new same = no_more limits.cuts false sizes old.own.rider new.own.rider (ap (λ (h : HoldState L). h.own.rider) same)

  hold_then : (old mid new : HoldState L) → HoldWorks old mid → HoldWorks mid new → HoldWorks old new
  hold_then old mid new = then limits.cuts false sizes old.own.rider mid.own.rider new.own.rider

  answer_works : (page : ℕ) (ok : Bool) (result : Result (Unit {0}) Over) (old new : HoldState L) → AnswersPage F domain page ok result old new → HoldWorks old new
  answer_works page ok result old new one = step_works limits.cuts false sizes (FlushDone page ok) one.answer old.own.rider new.own.rider one.answers.met one.answers.met.holds.1.0.cut (refl, refl, refl) (λ serving. absurd cc)

  tell_works : (i : ℕ) (result : Result (Unit {0}) Over) (old new : HoldState L) → ((result ≡ Err Lost) × (new ≡ old)) ⊎ ((page : ℕ) × (ok : Bool) × Tells F domain page ok result old new) → HoldWorks old new
  tell_works i result old new (inl (lost, same)) = hold_same old new same
  tell_works i result old new (inr (page, ok, inl (none, is, same))) = no_more limits.cuts false sizes old.own.rider new.own.rider (ap (λ (h : HoldState L). h.own.rider) same)
  tell_works i result old new (inr (page, ok, inr one)) = answer_works page ok result old new one

  flush_works : (serves : Bool) (result : Result (Unit {0}) Over) (old new : FlusherState L) → FlushesIf F domain serves result old new → FlusherWorks serves old new
  flush_works true result old new (is, same) = flusher_same true old new same
  flush_works false result old new flushed =
      then limits.cuts false sizes old.rider flushed.sender.rider new.rider
      (up_to_holds (λ (a b : SendState). WorksOn limits.cuts false sizes a.rider b.rider) (λ (a b : SendState) (is : b ≡ a). no_more limits.cuts false sizes a.rider b.rider (ap (λ (s : SendState). s.rider) is)) (λ (a b c : SendState). then limits.cuts false sizes a.rider b.rider c.rider)
      (SendsPage F domain) (send_works limits.cuts false sizes F domain) 4 flushed.sent _ flushed.sender flushed.sends)
      (then limits.cuts false sizes flushed.sender.rider flushed.mid.own.rider new.rider (each_hold HoldWorks hold_same hold_then _ tell_works _ flushed.told _ flushed.mid flushed.tells)
      (each_hold HoldWorks hold_same hold_then _ (λ i result (a b : HoldState L) (one : (page : ℕ) × AnswersPage F domain page false result a b). answer_works one.0 false result a b one.1) _ flushed.failed flushed.mid _ flushed.fails))

  -- its turns within these limits
  module _ (serves : Bool) where
    acts_work : (result : Result (Unit {0}) Over) (old new : FlusherState L) → Acts F domain limits serves result old new → FlusherWorks serves old new
    acts_work result old new (acts, is) =
        up_to_holds (WorksOn limits.cuts serves sizes) (no_more limits.cuts serves sizes) (then limits.cuts serves sizes) (RunsAction F domain limits.cuts) (action_works limits.cuts serves sizes F domain) 4 result old.rider new.rider acts

    ends_work : (result : Result (Unit {0}) Over) (old new : FlusherState L) → Ends F domain limits serves result old new → FlusherWorks serves old new
    ends_work result old new (is, ends, still) = turn_end_works limits.cuts serves sizes F domain limits.cuts refl old.rider new.rider ends

    turn_works : (result : Result (Unit {0}) Over) (old new : FlusherState L) → MakesTurn F domain limits serves result old new → FlusherWorks serves old new
    turn_works =
        then_holds (FlusherWorks serves) (flusher_same serves) (flusher_then serves) (KeepsLag F domain serves limits.mutable limits.resident) _ (lag_works serves limits.mutable limits.resident)
        (then_holds (FlusherWorks serves) (flusher_same serves) (flusher_then serves) (Acts F domain limits serves) _ acts_work
        (then_holds (FlusherWorks serves) (flusher_same serves) (flusher_then serves) (FlushesIf F domain serves) (Ends F domain limits serves) (flush_works serves) ends_work))

    pub turned_works : (result : Result Bool Over) (old new : FlusherState L) → Serves F domain limits serves result old new → FlusherWorks serves old new
    turned_works result old new one = flusher_then serves old one.mid new (turn_works one.made old one.mid one.turn) (or_cuts_work limits.cuts serves sizes F domain _ result one.mid.rider new.rider one.cuts)

    once_works : (vain : ℕ) (result : Result ℕ Over) (old new : FlusherState L) → ServesOnce F domain limits serves vain result old new → FlusherWorks serves old new
    once_works vain (Ok after) old new (moved, written, one, is) = turned_works (Ok moved) old new one
    once_works vain (Err over) old new one = turned_works (Err over) old new one

    -- all turns of a flusher: so many, or until its stop
    turns_work : (most : ℕ) (result : Result (Unit {0}) Over) (old new : FlusherState L) → UpTo (TurnsNext F domain limits serves) most result old new → FlusherWorks serves old new
    turns_work = each_hold (FlusherWorks serves) (flusher_same serves) (flusher_then serves) _ (λ i. turn_works)

    served_work : (result : Result Stopped Over) (old new : FlusherState L) → ServesUntil F domain limits serves result old new → FlusherWorks serves old new
    served_work result old new served = flusher_then serves old served.last.own new before (by result served.ended)
      where
        before : FlusherWorks serves old served.last.own
        before = followed_holds (λ (a b : ServeState L). FlusherWorks serves a.own b.own) (λ (a b : ServeState L) (is : b ≡ a). flusher_same serves a.own b.own (ap (λ (s : ServeState L). s.own) is)) (λ (a b c : ServeState L). flusher_then serves a.own b.own c.own)
            (ServesNext F domain limits serves) (λ i next (a b : ServeState L). once_works a.vain (Ok b.vain) a.own b.own) served.turns (serve_of old 0) served.last served.before

        by : (result : Result Stopped Over) → MatchResult result (λ _. new ≡ served.last.own) (λ over. Serves F domain limits serves (Err over) served.last.own new) → FlusherWorks serves served.last.own new
        by (Ok stopped) same = flusher_same serves served.last.own new same
        by (Err over) one = turned_works (Err over) served.last.own new one

  -- all that it does
  pub flusher_works : (serves : Bool) (old new : FlusherState L) → TurnsBy F domain limits serves old new → FlusherWorks serves old new
  flusher_works false old new (result, turns) = turns_work false limits.turns result old new turns
  flusher_works true old new (result, served) = served_work true result old new served
