-- Rounds of help: what is tried again, and that a rider's calls stay.
use Rattle.std.proofs.Common.{◌≡◌, ℕ, Bool, true, false, List, [], ◌∷◌, ◌++◌, refl, sym, ap, ◌∙◌, subst, subst₂, append_assoc, append-nil, inl, inr}
use Rattle.std.specs.Prelude.{Result, Ok, Err, MatchResult}
use Rattle.hl_model.specs.declared.fault.Fault.{Fault}
use Rattle.hl_model.specs.declared.step.Reply.{Reply}
use Rattle.hl_model.specs.declared.step.Step.{Step}
use Rattle.hl_model.specs.declared.step.Step.TheVariants.{Refresh, Take, Done}
use Rattle.hl_model.specs.declared.view.View.{View}
use Rattle.hl_action.specs.Firings.{FiringRecord}
use Rattle.hl_action.specs.Jobs.{ReadyRecord}
use Rattle.hl_action.specs.declared.ran.Outcome.{Outcome}
use Rattle.hl_history.specs.declared.view.Entry.{Entry}
use Rattle.hl_history.specs.Lists.{entry}
use Rattle.hl_words.specs.States.{RiderState}
use Rattle.hl_keeper.specs.Keepers.{KeeperState}
use Rattle.hl_keeper.specs.Passes.{PassRecord, with_rider}
use Rattle.hl_domain.specs.Domains.{DomainState, Call, LeavesUnderLock, Refreshed}
use Rattle.hl_crew.specs.declared.limits.Cuts.{Cuts}
use Rattle.hl_crew.specs.declared.limits.Cuts.TheVariants.{Never, EachTurn, Above}
use Rattle.hl_crew.specs.Cutting.{EndsTurn}
use Rattle.hl_crew.specs.Goes.{Followed}
use Rattle.hl_crew.specs.Tries.{EndsAction, TriesAgain, Tries}
use Rattle.hl_crew.proofs.RepeatLaws.{followed_holds}
use Rattle.hl.specs.Records.{entered_steps}
use Rattle.hl.specs.Helps.{WasRun, Takes, TakesAndEnds, RunsOldest, RunsAndRefreshes, Helps, AreOfHelp, Enters}
use Rattle.hl.specs.Sessions.{SessionState, KeepsAllButRider}

-- a rider has its calls, and maybe more
abbrev pub Grew : RiderState → RiderState → Type 0
Grew old new = (more : List Entry) × (new.calls ≡ more ++ old.calls)

pub grew_same : (old new : RiderState) → new ≡ old → Grew old new
grew_same old new same = ([], ap (λ (r : RiderState). r.calls) same)

pub grew_then : (old mid new : RiderState) → Grew old mid → Grew mid new → Grew old new
grew_then old mid new first second =
    (second.0 ++ first.0, second.1 ∙ ap (λ l. second.0 ++ l) first.1 ∙ sym (append_assoc second.0 first.0 old.calls))

-- a call
pub grew_call : {F : Type 0} {log : DomainState} (call : Call) (Holds : KeeperState F → KeeperState F → Type 0) → LeavesUnderLock F log call Holds → Grew call.old call.new
grew_call call Holds left = (entry left.list (call.steps left.list) ∷ [], ap (λ (r : RiderState). r.calls) left.entered)

module _ (F : Type 0) (log : DomainState) where
  -- a cut, if one was due
  grew_due : (cuts : Cuts) (old new : RiderState) → EndsTurn F log cuts old new → Grew old new
  grew_due Never old new same = grew_same old new same
  grew_due EachTurn old new cut = grew_call _ _ cut
  grew_due (Above steps) old new (true, mid, looked, cut) = grew_then old mid new (grew_call _ _ looked) (grew_call _ _ cut)
  grew_due (Above steps) old new (false, mid, looked, same) = grew_then old mid new (grew_call _ _ looked) (grew_same mid new same)

  grew_tries : (ran : Outcome) (result : Result Reply Fault) (old new : RiderState) → Tries F log true (EndsAction F log ran.origin ran.ticket) result old new → Grew old new
  grew_tries ran result old new t =
      grew_then old t.last new (followed_holds Grew grew_same grew_then (TriesAgain F log true (EndsAction F log ran.origin ran.ticket)) again t.before old t.last t.again) (grew_call _ _ t.answered)
    where
      again : (i : ℕ) (next : Result Bool Fault) (old new : RiderState) → TriesAgain F log true (EndsAction F log ran.origin ran.ticket) i next old new → Grew old new
      again i next old new (refused, ends, may, cuts) = grew_then old refused new (grew_call _ _ ends) (grew_call _ _ cuts)

  module _ (gives : F → FiringRecord → ℕ → Type 0) (keeps : ℕ → FiringRecord → ℕ → Type 0) where
    grew_ends : (result : Result Reply Fault) (old new : RiderState) → TakesAndEnds F log gives keeps result old new → Grew old new
    grew_ends result old new t = grew_then old t.taken new (grew_call _ _ t.takes) (grew_tries t.ran result t.taken new t.ends)

    pub grew_runs : (result : Result Bool Fault) (old new : RiderState) → RunsOldest F log gives keeps result old new → Grew old new
    grew_runs (Ok true) old new (reply, ends) = grew_ends (Ok reply) old new ends
    grew_runs (Ok false) old new (fault, none) = grew_call _ _ none.0
    grew_runs (Err fault) old new (inl none) = grew_call _ _ none.0
    grew_runs (Err fault) old new (inr ends) = grew_ends (Err fault) old new ends

    grew_refreshed : (result : Result Bool Fault) (old new : PassRecord) → RunsAndRefreshes F log gives keeps result old new → Grew old.rider new.rider
    grew_refreshed (Ok did) old new (mid, view, runs, refreshed) =
        grew_then old.rider mid new.rider (grew_runs (Ok did) old.rider mid runs) (grew_call _ _ refreshed.met)
    grew_refreshed (Err fault) old new (inl (runs, same)) = grew_runs (Err fault) old.rider new.rider runs
    grew_refreshed (Err fault) old new (inr (did, mid, runs, refreshed)) =
        grew_then old.rider mid new.rider (grew_runs (Ok did) old.rider mid runs) (grew_call _ _ refreshed.met)

    pub grew_helps : (cuts : Cuts) (result : Result Bool Fault) (old new : PassRecord) → Helps F log cuts gives keeps result old new → Grew old.rider new.rider
    grew_helps cuts result old new (cutter, due, goes) =
        grew_then old.rider cutter new.rider (grew_due cuts old.rider cutter due) (grew_refreshed result (with_rider cutter old) new goes)

-- what the calls of a rider entered
entered_by_call : {F : Type 0} {log : DomainState} (call : Call) (Holds : KeeperState F → KeeperState F → Type 0) (left : LeavesUnderLock F log call Holds)
    → entered_steps call.new.calls ≡ entered_steps call.old.calls ++ call.steps left.list
entered_by_call call Holds left = ap (λ (r : RiderState). entered_steps r.calls) left.entered

module _ (F : Type 0) (log : DomainState) where
  abbrev EntersNone : RiderState → RiderState → Type 0
  EntersNone old new = entered_steps new.calls ≡ entered_steps old.calls

  -- a cut, if one was due
  due_enters : (cuts : Cuts) (old new : RiderState) → EndsTurn F log cuts old new → EntersNone old new
  due_enters Never old new same = ap (λ (r : RiderState). entered_steps r.calls) same
  due_enters EachTurn old new cut = entered_by_call _ _ cut ∙ append-nil (entered_steps old.calls)
  due_enters (Above steps) old new (true, mid, looked, cut) = entered_by_call _ _ cut ∙ append-nil (entered_steps mid.calls) ∙ entered_by_call _ _ looked ∙ append-nil (entered_steps old.calls)
  due_enters (Above steps) old new (false, mid, looked, same) = ap (λ (r : RiderState). entered_steps r.calls) same ∙ entered_by_call _ _ looked ∙ append-nil (entered_steps old.calls)

  tries_enter : (ran : Outcome) (n : ℕ) (old new : RiderState) → Followed (TriesAgain F log true (EndsAction F log ran.origin ran.ticket)) n old new → EntersNone old new
  tries_enter ran = followed_holds EntersNone (λ old new same. ap (λ (r : RiderState). entered_steps r.calls) same) (λ old mid new first second. second ∙ first) (TriesAgain F log true (EndsAction F log ran.origin ran.ticket)) again
    where
      again : (i : ℕ) (next : Result Bool Fault) (old new : RiderState) → TriesAgain F log true (EndsAction F log ran.origin ran.ticket) i next old new → EntersNone old new
      again i next old new (refused, ends, may, cuts) = entered_by_call _ _ cuts ∙ append-nil (entered_steps refused.calls) ∙ entered_by_call _ _ ends ∙ append-nil (entered_steps old.calls)

  module _ (gives : F → FiringRecord → ℕ → Type 0) (keeps : ℕ → FiringRecord → ℕ → Type 0) where
    runs_enter : (did : Bool) (old new : RiderState) → RunsOldest F log gives keeps (Ok did) old new
        → (ran : List Step) × AreOfHelp did ran × (entered_steps new.calls ≡ entered_steps old.calls ++ ran)
    runs_enter true old new (reply, t) = (
      Take ∷ Done t.ran.ticket ∷ [],
      (t.ran.ticket, refl),
      entered_by_call _ _ t.ends.answered ∙ ap (λ l. l ++ Done t.ran.ticket ∷ []) (tries_enter t.ran t.ends.before t.taken t.ends.last t.ends.again ∙ entered_by_call _ _ t.takes)
          ∙ append_assoc (entered_steps old.calls) (Take ∷ []) (Done t.ran.ticket ∷ []),
    )
    runs_enter false old new (fault, none) = ([], refl, entered_by_call _ _ none.0)

    refreshed_enters : (did : Bool) (old new : PassRecord) → RunsAndRefreshes F log gives keeps (Ok did) old new → Enters did old new
    refreshed_enters did old new (mid, view, runs, refreshed) =
        let ran = runs_enter did old.rider mid runs in (
          ran.0,
          ran.1,
          entered_by_call _ _ refreshed.met ∙ ap (λ l. l ++ (old.touches ++ Refresh old.slot ∷ [])) ran.2
              ∙ append_assoc (entered_steps old.rider.calls) ran.0 (old.touches ++ Refresh old.slot ∷ []),
        )

    -- a cut enters no step
    pub helps_enter : (cuts : Cuts) (did : Bool) (old new : PassRecord) → Helps F log cuts gives keeps (Ok did) old new → Enters did old new
    helps_enter cuts did old new (cutter, due, goes) =
        let enters = refreshed_enters did (with_rider cutter old) new goes in
        (enters.0, enters.1, enters.2 ∙ ap (λ l. l ++ (enters.0 ++ (old.touches ++ Refresh old.slot ∷ []))) (due_enters cuts old.rider cutter due))

    -- a round of help of a session: once the journal was cut as is due, the oldest action was to be run
    module _ (cuts : Cuts) (old cut mid : SessionState) (is : old.log ≡ log) (due : EndsTurn F old.log cuts old.pass.rider cut.pass.rider) (kept : KeepsAllButRider old cut) (same : KeepsAllButRider cut mid) where
      due_here : EndsTurn F log cuts old.pass.rider cut.pass.rider
      due_here = subst (λ l. EndsTurn F l cuts old.pass.rider cut.pass.rider) is due

      log_cut : cut.log ≡ log
      log_cut = ap (λ (s : SessionState). s.log) kept ∙ is

      pass_mid : mid.pass ≡ with_rider mid.pass.rider old.pass
      pass_mid = ap (λ (s : SessionState). s.pass) same ∙ ap (λ (s : SessionState). with_rider mid.pass.rider s.pass) kept

      runs_here : (r : Result Bool Fault) → RunsOldest F cut.log gives keeps r cut.pass.rider mid.pass.rider → RunsOldest F log gives keeps r cut.pass.rider mid.pass.rider
      runs_here r runs = subst (λ l. RunsOldest F l gives keeps r cut.pass.rider mid.pass.rider) log_cut runs

      refreshed_here : (r : Result View Fault) (new : PassRecord) → Refreshed F mid.log mid.pass new r → Refreshed F log (with_rider mid.pass.rider old.pass) new r
      refreshed_here r new refreshed = subst₂ (λ l p. Refreshed F l p new r) (ap (λ (s : SessionState). s.log) same ∙ log_cut) pass_mid refreshed

      -- then the session refreshed
      pub helped : (did : Bool) (view : View) (new : PassRecord) → RunsOldest F cut.log gives keeps (Ok did) cut.pass.rider mid.pass.rider → Refreshed F mid.log mid.pass new (Ok view) → Helps F log cuts gives keeps (Ok did) old.pass new
      helped did view new runs refreshed = (cut.pass.rider, due_here, (mid.pass.rider, view, runs_here (Ok did) runs, refreshed_here (Ok view) new refreshed))

      -- it was refused the take or the done
      pub refused_run : (fault : Fault) → RunsOldest F cut.log gives keeps (Err fault) cut.pass.rider mid.pass.rider → Helps F log cuts gives keeps (Err fault) old.pass mid.pass
      refused_run fault runs = (cut.pass.rider, due_here, inl (runs_here (Err fault) runs, pass_mid))

module _ (F : Type 0) (log : DomainState) (gives : F → FiringRecord → ℕ → Type 0) (keeps : ℕ → FiringRecord → ℕ → Type 0) where
  -- an action was taken and run, and answered done or not
  pub runs_it : (ready : ReadyRecord F) (ran : Outcome) (old taken new : RiderState) (result : Result Bool Fault) (answer : Result Reply Fault) → Takes F log (Ok ready) old taken → WasRun gives keeps ready ran
      → Tries F log true (EndsAction F log ran.origin ran.ticket) answer taken new → MatchResult answer (λ _. result ≡ Ok true) (λ fault. result ≡ Err fault) → RunsOldest F log gives keeps result old new
  runs_it ready ran old taken new result (Ok reply) takes run ends is =
      subst (λ r. RunsOldest F log gives keeps r old new) (sym is) (reply, record { ready = ready; taken = taken; takes = takes; ran = ran; was_run = run; ends = ends })
  runs_it ready ran old taken new result (Err fault) takes run ends is =
      subst (λ r. RunsOldest F log gives keeps r old new) (sym is) (inr (record { ready = ready; taken = taken; takes = takes; ran = ran; was_run = run; ends = ends }))
