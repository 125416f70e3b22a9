-- Where a core stands after a step of one slot.
use Rattle.std.proofs.Common.{◌≡◌, ℕ, ◌<◌, true, false, leb, List, [], ◌∷◌, ◌++◌, length, set, refl, sym, ap, ap₂, ◌∙◌, arith, eq-eqb}
use Rattle.std.specs.Prelude.{Option, Some, None, Result, Ok, Err}
use Rattle.std.proofs.lemmas.Bool.{leb-false}
use Rattle.hl_laws.proofs.DrainLaws.{two_faults}
use Rattle.hl_model.specs.declared.fault.Fault.{Fault}
use Rattle.hl_model.specs.declared.fault.Fault.TheVariants.{NoSlot, Occupied}
use Rattle.hl_model.specs.declared.step.Reply.{Reply}
use Rattle.hl_model.specs.declared.step.Reply.TheVariants.{Entered, Left}
use Rattle.hl_model.specs.declared.step.Step.{Step}
use Rattle.hl_model.specs.declared.step.Step.TheVariants.{Acquire, Refresh, Release}
use Rattle.hl_model.specs.declared.view.View.{View}
use Rattle.hl_model.specs.Sizes.{Sizes}
use Rattle.hl_model.specs.Epochs.{Table, table_of, is_bump, enters, current_epoch, slot_epochs, is_protected, epoch_of}
use Rattle.hl_model.specs.Views.{view_of, slot_views}
use Rattle.hl_model.specs.Replies.{fault_of, acquire_fault, protected_fault, answer_of, unless_fault, unless_refused}
use Rattle.hl_laws.proofs.EpochLaws.{slot_epoch-enters, slot_epochs-acquire, slot_epochs-refresh, slot_epochs-release, epoch_of-slot_epoch}
use Rattle.hl_laws.proofs.NoFaultLaws.{protected-none, unless_ok}
use Rattle.hl_laws.proofs.ViewLaws.{slot_view-enters, slot_views-acquire, slot_views-refresh, slot_views-release, length-slot_views, view_of-slot_view}
use Rattle.hl_epoch.specs.Faults.{acquire_fault as free_row_fault, protected_fault as row_fault}
use Rattle.hl_epoch.specs.Table.{entered, left}
use Rattle.hl_offsets.specs.Log.{Log}
use Rattle.hl_core.specs.Standing.{State, Stands, IsStanding, log_of}
use Rattle.hl_core.specs.Steps.{Stepped, Made}
use Rattle.hl_core.proofs.TableLaws.{table_set, acquire_fault-table, protected_fault-table}
use Rattle.hl_core.proofs.QuietLaws.{OffsetsStay, PagesStay, log-stays, pages-stay}
use Rattle.hl_core.proofs.Refusals.{call_accepts}
use Rattle.hl_core.proofs.StandLaws.{DrainStays, table_refused, accepted_step, quiet_drain}
use Rattle.hl_laws.proofs.LawProofs.{current-stay}

-- the view of whoever enters now
abbrev pub seen_now : Log → View
seen_now log = record { read_only = log.read_only; head = log.head; tail = log.tail }

seen-now : (sizes : Sizes) (t : ℕ) (A : List Step) (s : Step) → enters t s ≡ true → view_of sizes t (A ++ s ∷ []) ≡ seen_now (log_of sizes A)
seen-now sizes t A s h = view_of-slot_view sizes t (A ++ s ∷ []) (seen_now (log_of sizes A)) (slot_view-enters sizes t A s h)

module _ {J : Type 0} (tag : J → ℕ) where
  -- a core that stood somewhere stands where the step that it made leads
  pub still_stands : (old new : State J) (s : Step) (r : Result Reply Fault) → IsStanding tag old → Made tag old s new r → IsStanding tag new
  still_stands old new s r at made = (_, (made at.0 at.1).standing)

  -- a core of which one slot and its view moved
  slot_moved : (core : State J) (A : List Step) (s : Step) (table : Table) (views : List (Option View)) → Stands tag core A → fault_of core.sizes A s ≡ None → DrainStays tag A s → OffsetsStay s → PagesStay s → table ≡ table_of core.sizes (A ++ s ∷ []) → views ≡ slot_views core.sizes (A ++ s ∷ []) → Stands tag (record { sizes = core.sizes; table = table; views = views; drain = core.drain; offsets = core.offsets; pages = core.pages }) (A ++ s ∷ [])
  slot_moved core A s table views st h d o p t v =
      quiet_drain tag core A s table views core.offsets core.pages st h d t v (st.offsets_is ∙ sym (log-stays core.sizes A s st.accepted o)) (st.pages_is ∙ sym (pages-stay core.sizes A s o.allocated p))

  -- a step by which slot t enters
  enter_step : (core : State J) (A : List Step) (t : ℕ) (s : Step) (table : Table) (epoch : ℕ) (view : View) → Stands tag core A → fault_of core.sizes A s ≡ None → DrainStays tag A s → OffsetsStay s → PagesStay s → is_bump s ≡ false → enters t s ≡ true → slot_epochs core.sizes.slots (A ++ s ∷ []) ≡ set (slot_epochs core.sizes.slots A) t (Some (current_epoch A)) → slot_views core.sizes (A ++ s ∷ []) ≡ set (slot_views core.sizes A) t (Some (seen_now (log_of core.sizes A))) → answer_of core.sizes A (A ++ s ∷ []) s ≡ Entered (epoch_of t (A ++ s ∷ [])) (view_of core.sizes t (A ++ s ∷ [])) → table ≡ entered t core.table → epoch ≡ table.current → view ≡ seen_now core.offsets → Stepped tag core A s (record { sizes = core.sizes; table = table; views = set core.views t (Some view); drain = core.drain; offsets = core.offsets; pages = core.pages }) (Ok (Entered epoch view))
  enter_step core A t s table epoch view st h d o p no_bump en slots rows reply moved now seen =
      let is : table ≡ table_of core.sizes (A ++ s ∷ []) = moved ∙ ap (entered t) st.table_is ∙ table_set core.sizes A s (set (slot_epochs core.sizes.slots A) t (Some (current_epoch A))) no_bump slots in
      let seen_is : view ≡ seen_now (log_of core.sizes A) = seen ∙ ap seen_now st.offsets_is in
      let views : set core.views t (Some view) ≡ slot_views core.sizes (A ++ s ∷ []) = ap₂ (λ xs (v : View). set xs t (Some v)) st.views_is seen_is ∙ sym rows in
      let epoch_is : epoch_of t (A ++ s ∷ []) ≡ epoch =
      epoch_of-slot_epoch t (A ++ s ∷ []) (current_epoch A) (slot_epoch-enters t A s en) ∙ sym (current-stay A s no_bump) ∙ sym (ap (λ (z : Table). z.current) is) ∙ sym now in
      let view_is : view_of core.sizes t (A ++ s ∷ []) ≡ view = seen-now core.sizes t A s en ∙ sym seen_is in
      accepted_step tag core (record { sizes = core.sizes; table = table; views = set core.views t (Some view); drain = core.drain; offsets = core.offsets; pages = core.pages }) A s (Entered epoch view) h refl (reply ∙ ap₂ (λ e v. Entered e v) epoch_is view_is)
      (slot_moved core A s table (set core.views t (Some view)) st h d o p is views)

  -- the table's faults are the list's
  free_fault : (core : State J) (t : ℕ) (A : List Step) → Stands tag core A → acquire_fault core.sizes A t ≡ free_row_fault t core.table
  free_fault core t A st = sym (acquire_fault-table core.sizes A t) ∙ sym (ap (free_row_fault t) st.table_is)

  held_fault : (core : State J) (t : ℕ) (A : List Step) → Stands tag core A → protected_fault core.sizes A t ≡ row_fault t core.table
  held_fault core t A st = sym (protected_fault-table core.sizes A t) ∙ sym (ap (row_fault t) st.table_is)

  -- a refused acquire
  pub acquire_err : (core : State J) (t : ℕ) (f : Fault) (table : Table) → Err f ≡ unless_fault (free_row_fault t core.table) (tt {0}) → table ≡ unless_refused (free_row_fault t core.table) core.table (entered t core.table) → Made tag core (Acquire t) (record { sizes = core.sizes; table = table; views = core.views; drain = core.drain; offsets = core.offsets; pages = core.pages }) (Err f)
  acquire_err core t f table h e = table_refused tag core (Acquire t) f (free_row_fault t core.table) (tt {0}) (entered t core.table) table h e (free_fault core t)

  -- an accepted acquire
  pub acquire_ok : (core : State J) (t : ℕ) (table : Table) (epoch : ℕ) (view : View) → Ok (tt {0}) ≡ unless_fault (free_row_fault t core.table) (tt {0}) → table ≡ unless_refused (free_row_fault t core.table) core.table (entered t core.table) → epoch ≡ table.current → view ≡ seen_now core.offsets → Made tag core (Acquire t) (record { sizes = core.sizes; table = table; views = set core.views t (Some view); drain = core.drain; offsets = core.offsets; pages = core.pages }) (Ok (Entered epoch view))
  acquire_ok core t table epoch view h e now seen A st =
      let both = call_accepts (free_row_fault t core.table) (tt {0}) (tt {0}) core.table (entered t core.table) table h e in
      let free : acquire_fault core.sizes A t ≡ None = free_fault core t A st ∙ both.0 in
      enter_step core A t (Acquire t) table epoch view st free (record { takes_none = refl; ends_none = λ c. refl; stores_none = refl }) (record { done = refl; raised = refl; shifted = refl; allocated = λ a b. refl })
      (record { flush_taken = refl; flush_ended = refl; flushed = λ a. refl; clean_taken = refl; clean_ended = refl; freed = λ a. refl })
      refl (eq-eqb t t refl) (slot_epochs-acquire core.sizes.slots A t) (slot_views-acquire core.sizes A t) refl both.1 now seen

  -- a refused refresh
  pub refresh_err : (core : State J) (t : ℕ) (f : Fault) (table : Table) → Err f ≡ unless_fault (row_fault t core.table) (tt {0}) → table ≡ unless_refused (row_fault t core.table) core.table (entered t core.table) → Made tag core (Refresh t) (record { sizes = core.sizes; table = table; views = core.views; drain = core.drain; offsets = core.offsets; pages = core.pages }) (Err f)
  refresh_err core t f table h e = table_refused tag core (Refresh t) f (row_fault t core.table) (tt {0}) (entered t core.table) table h e (held_fault core t)

  -- an accepted refresh
  pub refresh_ok : (core : State J) (t : ℕ) (table : Table) (epoch : ℕ) (view : View) → Ok (tt {0}) ≡ unless_fault (row_fault t core.table) (tt {0}) → table ≡ unless_refused (row_fault t core.table) core.table (entered t core.table) → epoch ≡ table.current → view ≡ seen_now core.offsets → Made tag core (Refresh t) (record { sizes = core.sizes; table = table; views = set core.views t (Some view); drain = core.drain; offsets = core.offsets; pages = core.pages }) (Ok (Entered epoch view))
  refresh_ok core t table epoch view h e now seen A st =
      let both = call_accepts (row_fault t core.table) (tt {0}) (tt {0}) core.table (entered t core.table) table h e in
      let seated : protected_fault core.sizes A t ≡ None = held_fault core t A st ∙ both.0 in
      enter_step core A t (Refresh t) table epoch view st seated (record { takes_none = refl; ends_none = λ c. refl; stores_none = refl }) (record { done = refl; raised = refl; shifted = refl; allocated = λ a b. refl })
      (record { flush_taken = refl; flush_ended = refl; flushed = λ a. refl; clean_taken = refl; clean_ended = refl; freed = λ a. refl })
      refl (eq-eqb t t refl) (slot_epochs-refresh core.sizes.slots A t) (slot_views-refresh core.sizes A t) refl both.1 now seen

  -- a refused release
  pub release_err : (core : State J) (t : ℕ) (f : Fault) (table : Table) → Err f ≡ unless_fault (row_fault t core.table) (tt {0}) → table ≡ unless_refused (row_fault t core.table) core.table (left t core.table) → Made tag core (Release t) (record { sizes = core.sizes; table = table; views = core.views; drain = core.drain; offsets = core.offsets; pages = core.pages }) (Err f)
  release_err core t f table h e = table_refused tag core (Release t) f (row_fault t core.table) (tt {0}) (left t core.table) table h e (held_fault core t)

  -- an accepted release
  pub release_ok : (core : State J) (t : ℕ) (table : Table) → Ok (tt {0}) ≡ unless_fault (row_fault t core.table) (tt {0}) → table ≡ unless_refused (row_fault t core.table) core.table (left t core.table) → Made tag core (Release t) (record { sizes = core.sizes; table = table; views = set core.views t None; drain = core.drain; offsets = core.offsets; pages = core.pages }) (Ok Left)
  release_ok core t table h e A st =
      let both = call_accepts (row_fault t core.table) (tt {0}) (tt {0}) core.table (left t core.table) table h e in
      let seated : protected_fault core.sizes A t ≡ None = held_fault core t A st ∙ both.0 in
      let is : table ≡ table_of core.sizes (A ++ Release t ∷ []) = both.1 ∙ ap (left t) st.table_is ∙ table_set core.sizes A (Release t) (set (slot_epochs core.sizes.slots A) t None) refl (slot_epochs-release core.sizes.slots A t) in
      let views : set core.views t None ≡ slot_views core.sizes (A ++ Release t ∷ []) = ap (λ xs. set xs t None) st.views_is ∙ sym (slot_views-release core.sizes A t) in
      accepted_step tag core (record { sizes = core.sizes; table = table; views = set core.views t None; drain = core.drain; offsets = core.offsets; pages = core.pages }) A (Release t) Left seated refl refl
      (slot_moved core A (Release t) table (set core.views t None) st seated (record { takes_none = refl; ends_none = λ c. refl; stores_none = refl }) (record { done = refl; raised = refl; shifted = refl; allocated = λ a b. refl })
      (record { flush_taken = refl; flush_ended = refl; flushed = λ a. refl; clean_taken = refl; clean_ended = refl; freed = λ a. refl }) is views)

  -- a slot that a table takes has a view's place
  pub acquire_fits : (core : State J) (t : ℕ) → IsStanding tag core → Ok (tt {0}) ≡ unless_fault (free_row_fault t core.table) (tt {0}) → t < length core.views
  acquire_fits core t at h =
      let A = at.0 in
      let st : Stands tag core A = at.1 in
      let free : acquire_fault core.sizes A t ≡ None = free_fault core t A st ∙ (unless_ok (free_row_fault t core.table) (tt {0}) (tt {0}) h).0 in
      omega (arith, leb-false core.sizes.slots t (two_faults (leb core.sizes.slots t) (is_protected t A) NoSlot Occupied free).0, ap length st.views_is, length-slot_views core.sizes A)

  pub protected_fits : (core : State J) (t : ℕ) → IsStanding tag core → Ok (tt {0}) ≡ unless_fault (row_fault t core.table) (tt {0}) → t < length core.views
  protected_fits core t at h =
      let A = at.0 in
      let st : Stands tag core A = at.1 in
      let seated : protected_fault core.sizes A t ≡ None = held_fault core t A st ∙ (unless_ok (row_fault t core.table) (tt {0}) (tt {0}) h).0 in
      omega (arith, (protected-none core.sizes A t seated).0, ap length st.views_is, length-slot_views core.sizes A)
