-- What a keeper makes of one step of a rider's.
use Rattle.std.proofs.Common.{◌≡◌, ℕ, ◌+◌, ◌≤◌, false, cond, is_none, List, [], ◌∷◌, ◌++◌, refl, sym, ap, ap₂, ◌∙◌, subst, arith}
use Rattle.std.specs.Prelude.{Option, Some, None, Result, Ok, Err}
use Rattle.hl_model.specs.declared.fault.Fault.{Fault}
use Rattle.hl_model.specs.declared.step.Reply.{Reply}
use Rattle.hl_model.specs.declared.step.Step.{Step}
use Rattle.hl_model.specs.declared.step.Step.TheVariants.{Raise, Shift}
use Rattle.hl_model.specs.Offsets.{read_only, head}
use Rattle.hl_model.specs.Sizes.{Sizes}
use Rattle.hl_model.specs.Replies.{or_fault, fault_of, answer_of, unless_fault}
use Rattle.hl_laws.proofs.NoFaultLaws.{unless_err, unless_ok, or_fault-none}
use Rattle.hl_laws.proofs.OffsetLaws.{read_only-raise, head-shift}
use Rattle.hl_action.specs.Jobs.{KeptRecord}
use Rattle.hl_words.specs.declared.view.OffsetWords.{OffsetWords}
use Rattle.hl_words.specs.States.{MasterState}
use Rattle.hl_core.specs.Standing.{State}
use Rattle.hl_core.specs.Steps.{Made}
use Rattle.hl_keeper.specs.Journals.{journal_of, full_fault, with_steps}
use Rattle.hl_keeper.specs.Keepers.{job_tag, KeeperState, KeeperStands, IsKeeper, IsKept, steps_most}
use Rattle.hl_keeper.specs.Stamps.{is_acquire, slot_stamps}
use Rattle.hl_keeper.specs.Stores.{stores_of, with_told, IsAbove}
use Rattle.hl_keeper.specs.Calls.{room_fault, step_fault, made, Replied, Makes, SameStamps}
use Rattle.hl_keeper.proofs.EnterLaws.{stepped_on}
use Rattle.hl_keeper.proofs.StampLaws.{acquires_in-stay, slot_stamps-stay}
use Rattle.hl_pass.proofs.StoreLaws.{stores-told, stores-rise}
use Rattle.hl_keeper.proofs.KeeperLaws.{Stamped, grown, kept_on, room-none, counted}

-- of two faults the first that there is
pub fault_first : (o p : Option Fault) (f : Fault) → Err f ≡ unless_fault o (tt {0}) → or_fault o p ≡ Some f
fault_first o p f h = ap (λ z. or_fault z p) (unless_err o f (tt {0}) h)

pub fault_second : (o p : Option Fault) (u : Unit {0}) → Ok u ≡ unless_fault o (tt {0}) → or_fault o p ≡ p
fault_second o p u h = ap (λ z. or_fault z p) (unless_ok o u (tt {0}) h).0

-- a master that counted one step more
abbrev pub one_more : MasterState → MasterState
one_more m = record { offsets = m.offsets; total = m.total + 1; called = m.called }

-- a keeper's master
abbrev pub master_of : {F : Type 0} → KeeperState F → MasterState
master_of keeper = record { offsets = keeper.offsets; total = keeper.total; called = keeper.called }

module _ {F : Type 0} where
  -- a keeper that refused stands where it stood
  pub refused_at : {X : Type 0} (keeper : KeeperState F) (A B : List Step) (o : Option Fault) (f : Fault) (x : X) → KeeperStands keeper A → o ≡ Some f → Replied o x (cond (is_none o) B A) keeper (Err f)
  refused_at keeper A B o f x st h = subst (λ (z : Option Fault). Replied z x (cond (is_none z) B A) keeper (Err f)) (sym h) (record { reply = refl; standing = st })

  -- one that accepted
  pub accepted_at : {X : Type 0} (keeper : KeeperState F) (A B : List Step) (o : Option Fault) (v x : X) → KeeperStands keeper B → o ≡ None → v ≡ x → Replied o x (cond (is_none o) B A) keeper (Ok v)
  accepted_at keeper A B o v x st h e = subst (λ (z : Option Fault). Replied z x (cond (is_none z) B A) keeper (Ok v)) (sym h) (record { reply = ap (λ z. Ok z) e; standing = st })

  -- what one call answered another did, with the same faults
  pub same_faults : {X : Type 0} (o p : Option Fault) (x : X) (A B : List Step) (new : KeeperState F) (result : Result X Fault) → p ≡ o → Replied o x (cond (is_none o) B A) new result → Replied p x (cond (is_none p) B A) new result
  same_faults o p x A B new result e h = subst (λ (z : Option Fault). Replied z x (cond (is_none z) B A) new result) (sym e) h

  -- so did one that refused
  pub refused_as : {X Y : Type 0} (o : Option Fault) (x : X) (y : Y) (list : List Step) (new : KeeperState F) (f : Fault) → Replied o y list new (Err f) → Replied o x list new (Err f)
  refused_as o x y list new f h = record { reply = sym (ap (λ z. unless_fault z x) (unless_err o f y h.reply)); standing = h.standing }

  -- and one that accepted, where the answers are the same
  pub replied_as : {X Y : Type 0} (o : Option Fault) (y r : Y) (list : List Step) (new : KeeperState F) (v x : X) → Replied o y list new (Ok r) → (o ≡ None → r ≡ y → v ≡ x) → Replied o x list new (Ok v)
  replied_as o y r list new v x h same =
      let both = unless_ok o r y h.reply in
      record { reply = ap (λ z. Ok z) (same both.0 both.1) ∙ sym (ap (λ z. unless_fault z x) both.0); standing = h.standing }

  -- the reply itself
  pub reply_is : {X : Type 0} (o : Option Fault) (y r : X) (list : List Step) (new : KeeperState F) → Replied o y list new (Ok r) → r ≡ y
  reply_is o y r list new h = (unless_ok o r y h.reply).1

  -- a keeper that refused one step for its journal's sake
  pub full_refused : {X : Type 0} (keeper : KeeperState F) (s : Step) (f : Fault) (x : List Step → X) → Err f ≡ unless_fault (room_fault keeper 1) (tt {0}) → Makes keeper s x keeper (Err f)
  unfolding step_fault
  full_refused keeper s f x h A st = refused_at keeper A (A ++ s ∷ []) (step_fault keeper A s) f (x A) st (fault_first (room_fault keeper 1) (fault_of keeper.core.sizes A s) f h)

  -- what it is that one step more has room
  pub has_room : (now keeper : KeeperState F) (u : Unit {0}) → keeper ≡ now → Ok u ≡ unless_fault (room_fault now 1) (tt {0}) → room_fault keeper 1 ≡ None
  has_room now keeper u e h = ap (λ (k : KeeperState F). room_fault k 1) e ∙ (unless_ok (room_fault now 1) u (tt {0}) h).0

  pub one_enters : (keeper : KeeperState F) (master : MasterState) → IsKeeper keeper → room_fault keeper 1 ≡ None → master.total ≡ keeper.total → (full_fault (journal_of keeper) 1 ≡ None) × (master.total + 1 ≤ steps_most)
  one_enters keeper master at none t = (none, omega (arith, t, (room-none keeper 1 none).1, counted keeper at.0 at.1))

  step_fits : (keeper : KeeperState F) (A : List Step) (s : Step) → room_fault keeper 1 ≡ None → step_fault keeper A s ≡ fault_of keeper.core.sizes A s
  unfolding step_fault
  step_fits keeper A s none = ap (λ o. or_fault o (fault_of keeper.core.sizes A s)) none

  -- one that refused it for its core's sake
  pub core_refused : {X : Type 0} (keeper : KeeperState F) (s : Step) (core : State (KeptRecord F)) (f : Fault) (x : List Step → X) → room_fault keeper 1 ≡ None → Made job_tag keeper.core s core (Err f) → Makes keeper s x keeper (Err f)
  core_refused keeper s core f x none answered A st =
      refused_at keeper A (A ++ s ∷ []) (step_fault keeper A s) f (x A) st
      (step_fits keeper A s none ∙ unless_err (fault_of keeper.core.sizes A s) f (answer_of keeper.core.sizes A (A ++ s ∷ []) s) (answered A st.core_stands).reply)

  -- what an accepted step stores lowers no word
  pub told_rises : (keeper : KeeperState F) (s : Step) (core : State (KeptRecord F)) (r : Reply) → IsKeeper keeper → Made job_tag keeper.core s core (Ok r) → IsAbove keeper.offsets (with_told r keeper.offsets)
  told_rises keeper s core r at answered =
      let A : List Step = at.0 in
      let st : KeeperStands keeper A = at.1 in
      let on = stepped_on job_tag keeper.core A s core r (answered A st.core_stands) in
      subst (λ (o : OffsetWords). IsAbove o (with_told r o)) (sym st.stores_are)
      (subst (λ (o : OffsetWords). IsAbove (stores_of A) o) (stores-told keeper.core.sizes A s on.0 ∙ ap (λ z. with_told z (stores_of A)) (sym on.1)) (stores-rise keeper.core.sizes A s st.core_stands.accepted on.0))

  -- a step that is no acquire leaves the stamps
  pub unstamped : (old new : KeeperState F) (s : Step) → is_acquire s ≡ false → SameStamps old new → new.stamp ≡ old.stamp → new.core.sizes ≡ old.core.sizes → (A : List Step) → KeeperStands old A → Stamped new (A ++ s ∷ [])
  unstamped old new s h same own sizes A st = record {
    count = same.1 ∙ st.acquired_is ∙ sym (acquires_in-stay A s h);
    row = same.0 ∙ st.stamps_are ∙ sym (slot_stamps-stay old.core.sizes.slots old.stamp A s h) ∙ ap₂ (λ (z : Sizes) (n : ℕ). slot_stamps z.slots n (A ++ s ∷ [])) (sym sizes) (sym own);
  }

  -- what a keeper did that made one step, as its core did, and was answered so
  pub record HasMade (old : KeeperState F) (s : Step) (r : Reply) (new : KeeperState F) : Type 0 where
    pub room : room_fault old 1 ≡ None
    pub core : Made job_tag old.core s new.core (Ok r)
    pub sizes : new.core.sizes ≡ old.core.sizes
    pub noted : journal_of new ≡ with_steps (s ∷ []) (journal_of old)
    pub own : new.stamp ≡ old.stamp
    pub stamped : (A : List Step) → KeeperStands old A → Stamped new (A ++ s ∷ [])
    pub stores : new.offsets ≡ with_told r old.offsets
    pub total : new.total ≡ old.total + 1

  -- so it did by any step but an acquire, which stamps a slot
  pub was_made : (old : KeeperState F) (s : Step) (r : Reply) (new : KeeperState F) → room_fault old 1 ≡ None → Made job_tag old.core s new.core (Ok r) → new.core.sizes ≡ old.core.sizes → journal_of new ≡ with_steps (s ∷ []) (journal_of old) → is_acquire s ≡ false → SameStamps old new → new.stamp ≡ old.stamp
      → master_of new ≡ one_more (record { offsets = with_told r old.offsets; total = old.total; called = old.called }) → HasMade old s r new
  was_made old s r new room made sizes noted none same own master = record {
    room = room;
    core = made;
    sizes = sizes;
    noted = noted;
    own = own;
    stamped = unstamped old new s none same own sizes;
    stores = ap (λ (m : MasterState). m.offsets) master;
    total = ap (λ (m : MasterState). m.total) master;
  }

  module _ (old : KeeperState F) (s : Step) (r : Reply) (new : KeeperState F) (h : HasMade old s r new) where
    -- it stands at the list with the step
    pub stands_on : (A : List Step) → KeeperStands old A → KeeperStands new (A ++ s ∷ [])
    stands_on A st =
        let on = stepped_on job_tag old.core A s new.core r (h.core A st.core_stands) in
        grown old new A (s ∷ []) st (record {
          room = h.room;
          core = on.2;
          sizes = h.sizes;
          noted = h.noted;
          own = h.own;
          stamped = h.stamped A st;
          stores = h.stores ∙ ap (with_told r) st.stores_are ∙ ap (λ z. with_told z (stores_of A)) on.1 ∙ sym (stores-told old.core.sizes A s on.0);
          total = h.total;
        })

    -- and so it is kept
    pub kept_made : (sizes : Sizes) (stamp before after : ℕ) → IsKept sizes stamp old before → after ≡ before → IsKept sizes stamp new after
    kept_made sizes stamp before after kept room =
        let at : IsKeeper old = kept.of.standing in
        kept_on sizes stamp old new (at.0 ++ s ∷ []) before after kept (stands_on at.0 at.1) h.sizes h.own room

    -- it answered with what the reply tells
    pub has_made : {X : Type 0} (v : X) (x : List Step → X) → ((A : List Step) → KeeperStands old A → r ≡ answer_of old.core.sizes A (A ++ s ∷ []) s → v ≡ x A) → Makes old s x new (Ok v)
    has_made v x same A st =
        let on = stepped_on job_tag old.core A s new.core r (h.core A st.core_stands) in
        accepted_at new A (A ++ s ∷ []) (step_fault old A s) v (x A) (stands_on A st) (step_fits old A s h.room ∙ on.0) (same A st on.1)

  -- an accepted raise leaves the read-only offset where it raises it to, and a shift the head
  pub raised_is : (keeper : KeeperState F) (A : List Step) (x : ℕ) → step_fault keeper A (Raise x) ≡ None → x ≡ read_only (A ++ Raise x ∷ [])
  unfolding step_fault
  raised_is keeper A x none = sym (read_only-raise keeper.core.sizes A x (or_fault-none (room_fault keeper 1) (fault_of keeper.core.sizes A (Raise x)) none).1)

  pub shifted_is : (keeper : KeeperState F) (A : List Step) (x : ℕ) → step_fault keeper A (Shift x) ≡ None → x ≡ head (A ++ Shift x ∷ [])
  unfolding step_fault
  shifted_is keeper A x none = sym (head-shift keeper.core.sizes A x (or_fault-none (room_fault keeper 1) (fault_of keeper.core.sizes A (Shift x)) none).1)
