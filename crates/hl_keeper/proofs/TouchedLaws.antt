-- A pass's touches and its own step behind them, made by a keeper.
use Rattle.std.proofs.Common.{◌≡◌, ℕ, ◌+◌, ◌^◌, ◌≤◌, true, false, cond, is_none, List, [], ◌∷◌, ◌++◌, length, refl, sym, ap, ap₂, ◌∙◌, subst, arith, append-nil}
use Rattle.std.specs.Prelude.{Some, None, Result, Ok, Err}
use Rattle.hl_model.specs.declared.fault.Fault.{Fault}
use Rattle.hl_model.specs.declared.step.Reply.{Reply}
use Rattle.hl_model.specs.declared.step.Step.{Step}
use Rattle.hl_model.specs.declared.step.Step.TheVariants.{Refresh, Release, Allocate}
use Rattle.hl_model.specs.Sizes.{Sizes}
use Rattle.hl_model.specs.Replies.{or_fault, fault_of, answer_of, unless_fault}
use Rattle.hl_laws.proofs.NoFaultLaws.{unless_err, unless_ok}
use Rattle.hl_action.specs.Jobs.{KeptRecord}
use Rattle.hl_words.specs.declared.view.OffsetWords.{OffsetWords}
use Rattle.hl_words.specs.States.{MasterState, RiderState}
use Rattle.hl_core.specs.Standing.{State, Stands}
use Rattle.hl_core.specs.Steps.{Made, is_acted}
use Rattle.hl_keeper.specs.Touches.{AreTouches, is_call}
use Rattle.hl_keeper.specs.Passes.{PassRecord}
use Rattle.hl_keeper.specs.Journals.{JournalState, journal_of, full_fault, with_steps}
use Rattle.hl_keeper.specs.Keepers.{job_tag, KeeperState, KeeperStands, IsKeeper, IsKept}
use Rattle.hl_keeper.specs.Calls.{room_fault, step_fault, touched_fault, Knows, Called, Replied, Makes, SameStamps}
use Rattle.hl_keeper.specs.Parts.{keeper_of, pass_of}
use Rattle.hl_keeper.specs.Stamps.{is_acquire, slot_stamps}
use Rattle.hl_keeper.specs.Stores.{with_told}
use Rattle.hl_keeper.specs.Touches.{view_after}
use Rattle.hl_pass.specs.declared.pass_view.PassView.{PassView}
use Rattle.hl_pass.specs.declared.stamps.Stamps.{Stamps}
use Rattle.hl_pass.specs.Calls.{looked}
use Rattle.hl_keeper.proofs.CatchLaws.{caught_up, viewed_anywhere}
use Rattle.hl_keeper.proofs.EnterLaws.{stepped_on}
use Rattle.hl_keeper.proofs.JournalLaws.{room_fewer, room_behind}
use Rattle.hl_keeper.proofs.KeeperLaws.{grown, kept_on, room-none, counted}
use Rattle.hl_keeper.proofs.StepLaws.{HasMade, fault_first, refused_at, accepted_at, unstamped, stands_on}
use Rattle.hl_keeper.proofs.TouchLaws.{touches_leave_faults, touches_leave_stores, touches_leave_stamps}

-- a pass's own step stores nothing
call_stores : (sizes : Sizes) (A B : List Step) (s : Step) (r : Reply) (o : OffsetWords) → is_call s ≡ true → r ≡ answer_of sizes A B s → with_told r o ≡ o
call_stores sizes A B (Refresh t) r o h e = ap (λ z. with_told z o) e
call_stores sizes A B (Release t) r o h e = ap (λ z. with_told z o) e
call_stores sizes A B (Allocate t n) r o h e = ap (λ z. with_told z o) e
call_stores sizes A B _ r o h e = cc

-- takes no job in or out, and stamps no slot
pub call_acts : (s : Step) → is_call s ≡ true → (is_acted s ≡ true) × (is_acquire s ≡ false)
call_acts (Refresh t) h = (refl, refl)
call_acts (Release t) h = (refl, refl)
call_acts (Allocate t n) h = (refl, refl)
call_acts _ h = cc

-- where they are 0, there are none
pub no_touches : (xs : List Step) (n : ℕ) → n ≡ length xs → n ≡ 0 → xs ≡ []
no_touches [] n e none = refl
no_touches (x ∷ xs) n e none = cc

module _ {F : Type 0} where
  -- what a keeper that stood at A answered to a step behind B, to which these touches led
  abbrev CalledBehind : KeeperState F → List Step → Step → KeeperState F → Result Reply Fault → List Step → List Step → Type 0
  CalledBehind keeper A s new result xs B =
      Replied (or_fault (room_fault keeper (length xs + 1)) (fault_of keeper.core.sizes B s)) (answer_of keeper.core.sizes B (B ++ s ∷ []) s)
      (cond (is_none (or_fault (room_fault keeper (length xs + 1)) (fault_of keeper.core.sizes B s))) (B ++ s ∷ []) A) new result

  -- where there are no touches, a call is a rider's step
  pub called_alone : (keeper new : KeeperState F) (p : PassRecord) (s : Step) (result : Result Reply Fault) → p.touches ≡ [] → Makes keeper s (λ A. answer_of keeper.core.sizes A (A ++ s ∷ []) s) new result → (A : List Step) → KeeperStands keeper A → Called keeper A p s new result
  unfolding touched_fault step_fault
  called_alone keeper new p s result none makes A st =
      subst (λ (xs : List Step). CalledBehind keeper A s new result xs (A ++ xs)) (sym none)
      (subst (λ (B : List Step). CalledBehind keeper A s new result [] B) (sym (append-nil A)) (makes A st))

  -- the fault of the room comes first
  pub called_full : (keeper : KeeperState F) (p : PassRecord) (s : Step) (count : ℕ) (f : Fault) → count ≡ length p.touches → Err f ≡ unless_fault (room_fault keeper (count + 1)) (tt {0}) → (A : List Step) → KeeperStands keeper A → Called keeper A p s keeper (Err f)
  unfolding touched_fault
  called_full keeper p s count f e h A st =
      refused_at keeper A ((A ++ p.touches) ++ s ∷ []) (touched_fault keeper A p s) f _ st
      (fault_first (room_fault keeper (length p.touches + 1)) (fault_of keeper.core.sizes (A ++ p.touches) s) f (h ∙ ap (λ n. unless_fault (room_fault keeper (n + 1)) (tt {0})) e))

  -- what is known of a call before its touches enter, but for the step's own fault
  pub record MayCall (keeper : KeeperState F) (p : PassRecord) (s : Step) : Type 0 where
    pub standing : IsKeeper keeper
    pub known : Knows keeper p
    pub kind : is_call s ≡ true
    pub lawful : AreTouches p.slot p.held p.touches
    pub room : room_fault keeper (length p.touches + 1) ≡ None

  pub may_call : (now keeper : KeeperState F) (q p : PassRecord) (s : Step) (count : ℕ) (u : Unit {0}) → keeper ≡ now → p ≡ q → IsKeeper keeper → Knows now q → is_call s ≡ true → AreTouches p.slot p.held p.touches → count ≡ length p.touches → Ok u ≡ unless_fault (room_fault now (count + 1)) (tt {0}) → MayCall keeper p s
  may_call now keeper q p s count u k e at known kind are n h = record {
    standing = at;
    known = subst (λ (z : PassRecord). Knows keeper z) (sym e) (subst (λ (z : KeeperState F). Knows z q) (sym k) known);
    kind = kind;
    lawful = are;
    room = ap₂ (λ (z : KeeperState F) (m : ℕ). room_fault z (m + 1)) k (sym n) ∙ (unless_ok (room_fault now (count + 1)) u (tt {0}) h).0;
  }

  -- touches leave the step's fault
  touched_is : (keeper : KeeperState F) (p : PassRecord) (s : Step) → MayCall keeper p s → (A : List Step) → touched_fault keeper A p s ≡ fault_of keeper.core.sizes A s
  unfolding touched_fault
  touched_is keeper p s may A =
      ap (λ o. or_fault o (fault_of keeper.core.sizes (A ++ p.touches) s)) may.room
      ∙ touches_leave_faults keeper.core.sizes p.slot A p.held p.touches s may.lawful may.kind

  -- the core's own fault
  pub called_faulty : (keeper : KeeperState F) (p : PassRecord) (s : Step) (f : Fault) → MayCall keeper p s → ((A : List Step) → Stands job_tag keeper.core A → Err f ≡ unless_fault (fault_of keeper.core.sizes A s) (tt {0})) → (A : List Step) → KeeperStands keeper A → Called keeper A p s keeper (Err f)
  called_faulty keeper p s f may h A st =
      refused_at keeper A ((A ++ p.touches) ++ s ∷ []) (touched_fault keeper A p s) f _ st (touched_is keeper p s may A ∙ unless_err (fault_of keeper.core.sizes A s) f (tt {0}) (h A st.core_stands))

  -- the journal has room for the touches, and behind them for the step
  pub touches_fit : (keeper : KeeperState F) (p : PassRecord) (s : Step) → MayCall keeper p s → full_fault (journal_of keeper) (length p.touches) ≡ None
  touches_fit keeper p s may = room_fewer (journal_of keeper) (length p.touches + 1) (length p.touches) may.room (omega arith)

  pub step_fits_behind : (keeper : KeeperState F) (p : PassRecord) (s : Step) → MayCall keeper p s → full_fault (with_steps p.touches (journal_of keeper)) 1 ≡ None
  step_fits_behind keeper p s may = room_behind (journal_of keeper) p.touches (length p.touches + 1) 1 may.room (omega arith)

  -- and the master can count them
  pub counts : (keeper : KeeperState F) (p : PassRecord) (s : Step) → MayCall keeper p s → keeper.total + (length p.touches + 1) ≤ 2 ^ 62
  counts keeper p s may = omega (arith, (room-none keeper (length p.touches + 1) may.room).1, counted keeper may.standing.0 may.standing.1)

  -- what is known when the touches have entered: the core was told no fault of the step before
  pub record HasEntered (keeper : KeeperState F) (p : PassRecord) (s : Step) (mid : State (KeptRecord F)) : Type 0 where
    pub may : MayCall keeper p s
    pub fine : (A : List Step) → Stands job_tag keeper.core A → fault_of keeper.core.sizes A s ≡ None
    pub sizes : mid.sizes ≡ keeper.core.sizes
    pub core : (A : List Step) → Stands job_tag keeper.core A → Stands job_tag mid (A ++ p.touches)

  -- so it is once the core caught up
  pub has_entered : (core mid : State (KeptRecord F)) (journal : JournalState) (stamps : Stamps) (master : MasterState) (own : PassView) (xs : List Step) (rider : RiderState) (s : Step) (u : Unit {0}) → MayCall (keeper_of core journal stamps master) (pass_of own xs rider) s → own.view ≡ view_after own.held xs
      → ((A : List Step) → Stands job_tag core A → Ok u ≡ unless_fault (fault_of core.sizes A s) (tt {0})) → mid.sizes ≡ core.sizes → ((A : List Step) → Stands job_tag core A → Stands job_tag mid (looked core.sizes A own)) → HasEntered (keeper_of core journal stamps master) (pass_of own xs rider) s mid
  has_entered core mid journal stamps master own xs rider s u may is checked same caught = record {
    may = may;
    fine = λ A st. (unless_ok (fault_of core.sizes A s) u (tt {0}) (checked A st)).0;
    sizes = same;
    core = λ A st.
        let B : List Step = may.standing.0 in
        let at : KeeperStands (keeper_of core journal stamps master) B = may.standing.1 in
        caught_up job_tag core mid own xs A is may.lawful (viewed_anywhere job_tag core own.slot B own.held at.core_stands (may.known B at) A st) st same (caught A st);
  }

  -- the step is never refused then
  pub never_refused : (keeper : KeeperState F) (p : PassRecord) (s : Step) (mid new : State (KeptRecord F)) (f : Fault) → HasEntered keeper p s mid → Made job_tag mid s new (Err f) → ⊥
  never_refused keeper p s mid new f at made =
      let A : List Step = at.may.standing.0 in
      let st : KeeperStands keeper A = at.may.standing.1 in
      let B : List Step = A ++ p.touches in
      let fine : fault_of mid.sizes B s ≡ None = ap (λ z. fault_of z B s) at.sizes ∙ touches_leave_faults keeper.core.sizes p.slot A p.held p.touches s at.may.lawful at.may.kind ∙ at.fine A st.core_stands in
      let refused : fault_of mid.sizes B s ≡ Some f = unless_err (fault_of mid.sizes B s) f (answer_of mid.sizes B (B ++ s ∷ []) s) (made B (at.core A st.core_stands)).reply in
      cc

  -- the keeper that has these touches behind its journal, and this core
  abbrev pub behind : KeeperState F → PassRecord → State (KeptRecord F) → KeeperState F
  behind k p core = record { core = core; base = k.base; cut = k.cut; journal = k.journal ++ p.touches; limit = k.limit; stamps = k.stamps; stamp = k.stamp; acquired = k.acquired; offsets = k.offsets; total = k.total + length p.touches; called = k.called }

  module _ (keeper : KeeperState F) (p : PassRecord) (s : Step) (mid : State (KeptRecord F)) (at : HasEntered keeper p s mid) where
    -- it stands where they lead
    entered_at : (A : List Step) → KeeperStands keeper A → KeeperStands (behind keeper p mid) (A ++ p.touches)
    entered_at A st =
        let still = touches_leave_stamps keeper.core.sizes.slots keeper.stamp p.slot A p.held p.touches at.may.lawful in
        grown keeper (behind keeper p mid) A p.touches st (record {
          room = touches_fit keeper p s at.may;
          core = at.core A st.core_stands;
          sizes = at.sizes;
          noted = refl;
          own = refl;
          stamped = record { count = st.acquired_is ∙ sym still.0; row = st.stamps_are ∙ sym still.1 ∙ ap (λ (z : Sizes). slot_stamps z.slots keeper.stamp (A ++ p.touches)) (sym at.sizes) };
          stores = st.stores_are ∙ sym (touches_leave_stores p.slot A p.held p.touches at.may.lawful);
          total = refl;
        })

    -- and makes the step there
    pub made_behind : (new : KeeperState F) (r : Reply) (count : ℕ) → Made job_tag mid s new.core (Ok r) → new.core.sizes ≡ mid.sizes → count ≡ length p.touches → journal_of new ≡ with_steps (s ∷ []) (with_steps p.touches (journal_of keeper)) → SameStamps keeper new → new.stamp ≡ keeper.stamp
        → new.offsets ≡ keeper.offsets → new.total ≡ keeper.total + (count + 1) → HasMade (behind keeper p mid) s r new
    made_behind new r count made same n j stamps own offsets total =
        let A : List Step = at.may.standing.0 in
        let on = stepped_on job_tag mid (A ++ p.touches) s new.core r (made (A ++ p.touches) (at.core A at.may.standing.1.core_stands)) in record {
          room = step_fits_behind keeper p s at.may;
          core = made;
          sizes = same;
          noted = j;
          own = own;
          stamped = unstamped (behind keeper p mid) new s (call_acts s at.may.kind).1 stamps own same;
          stores = offsets ∙ sym (call_stores mid.sizes (A ++ p.touches) ((A ++ p.touches) ++ s ∷ []) s r keeper.offsets at.may.kind on.1);
          total = omega (arith, total, n);
        }

    module _ (new : KeeperState F) (r : Reply) (h : HasMade (behind keeper p mid) s r new) where
      -- so it stands at the list with the touches and the step
      stands_behind : (A : List Step) → KeeperStands keeper A → KeeperStands new ((A ++ p.touches) ++ s ∷ [])
      stands_behind A st = stands_on (behind keeper p mid) s r new h (A ++ p.touches) (entered_at A st)

      pub kept_behind : (sizes : Sizes) (stamp room : ℕ) → IsKept sizes stamp keeper room → IsKept sizes stamp new room
      kept_behind sizes stamp room kept =
          let was : IsKeeper keeper = kept.of.standing in
          kept_on sizes stamp keeper new ((was.0 ++ p.touches) ++ s ∷ []) room room kept (stands_behind was.0 was.1) (h.sizes ∙ at.sizes) h.own refl

      pub called_made : (A : List Step) → KeeperStands keeper A → Called keeper A p s new (Ok r)
      called_made A st =
          let B : List Step = A ++ p.touches in
          let on = stepped_on job_tag mid B s new.core r (h.core B (at.core A st.core_stands)) in
          accepted_at new A (B ++ s ∷ []) (touched_fault keeper A p s) r (answer_of keeper.core.sizes B (B ++ s ∷ []) s) (stands_behind A st)
          (touched_is keeper p s at.may A ∙ at.fine A st.core_stands) (on.1 ∙ ap (λ z. answer_of z B (B ++ s ∷ []) s) at.sizes)
