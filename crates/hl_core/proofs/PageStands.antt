-- Where a core stands after a step on a page.
use Rattle.std.proofs.Common.{◌≡◌, ℕ, Bool, true, false, cond, List, [], ◌∷◌, ◌++◌, refl, sym, ap, ◌∙◌, subst}
use Rattle.std.specs.Prelude.{Option, Some, None, Result, Ok, Err, unwrap_or}
use Rattle.hl_model.specs.declared.fault.Fault.{Fault}
use Rattle.hl_model.specs.declared.fault.Fault.TheVariants.{NoneSealed, NotInFlight, NoneClosed, NotCleaning}
use Rattle.hl_model.specs.declared.step.Reply.TheVariants.{Page, Flushed, Freed}
use Rattle.hl_model.specs.declared.step.Step.{Step}
use Rattle.hl_model.specs.declared.step.Step.TheVariants.{FlushTake, FlushDone, CleanTake, CleanDone}
use Rattle.hl_model.specs.Epochs.{is_bump, enters, leaves}
use Rattle.hl_model.specs.Actions.{is_take, finishes, action_of}
use Rattle.hl_model.specs.Views.{allocates, looked_read_only, looked_head}
use Rattle.hl_model.specs.Pages.{is_in_flight, is_cleaning, next_to_flush, next_to_clean, flushed}
use Rattle.hl_model.specs.Replies.{fault_of, unless_page}
use Rattle.hl_laws.proofs.AcceptedLaws.{IsAccepted-push}
use Rattle.hl_laws.proofs.ViewLaws.{slot_views-stay}
use Rattle.hl_frames.specs.Pages.{Pages, flushed_offset, is_in_flight as IN_FLIGHT, is_cleaning as CLEANING, next_to_flush as NEXT_TO_FLUSH, next_to_clean as NEXT_TO_CLEAN}
use Rattle.hl_frames.specs.Answers.{page_or, after_take, flush_begun, flush_ended, flush_done_answer, after_flush_done, clean_begun, clean_ended, clean_done_answer, after_clean_done}
use Rattle.hl_core.specs.Standing.{State, Stands, pages_of}
use Rattle.hl_core.specs.Steps.{Stepped, Made, as_reply}
use Rattle.hl_core.proofs.PageFound.{flush_found, clean_found, flight_found, cleaning_found}
use Rattle.hl_core.proofs.PageOffsets.{pages_of-flushed}
use Rattle.hl_core.proofs.PageMoves.{flush_begun-is, flush_ended-is, clean_begun-is, clean_ended-is}
use Rattle.hl_core.proofs.QuietLaws.{OffsetsStay, log-stays}
use Rattle.hl_core.proofs.Refusals.{refused_by_test, passed_by_test}
use Rattle.hl_core.proofs.StandLaws.{refused_step, accepted_step, quiet_drain}
use Rattle.hl_core.proofs.TableLaws.{table_stays}

-- a step that moves the frames alone
record OfPages (s : Step) : Type 0 where
  no_bump : is_bump s ≡ false
  no_take : is_take s ≡ false
  ends_none : (c : ℕ) → finishes c s ≡ false
  stores_none : (A : List Step) → action_of A s ≡ []
  offsets : OffsetsStay s
  enters_none : (t : ℕ) → enters t s ≡ false
  leaves_none : (t : ℕ) → leaves t s ≡ false
  allocates_none : (t : ℕ) → allocates t s ≡ false
  looks_none : (t : ℕ) → looked_read_only t s ≡ None
  heads_none : (t : ℕ) → looked_head t s ≡ None

-- a flush take
flush_take_quiet : OfPages FlushTake
flush_take_quiet = record { no_bump = refl; no_take = refl; ends_none = λ c. refl; stores_none = λ A. refl; offsets = record { done = refl; raised = refl; shifted = refl; allocated = λ a b. refl }; enters_none = λ t. refl; leaves_none = λ t. refl; allocates_none = λ t. refl; looks_none = λ t. refl; heads_none = λ t. refl }

-- the end of a flush
flush_done_quiet : (q : ℕ) (ok : Bool) → OfPages (FlushDone q ok)
flush_done_quiet q ok = record { no_bump = refl; no_take = refl; ends_none = λ c. refl; stores_none = λ A. refl; offsets = record { done = refl; raised = refl; shifted = refl; allocated = λ a b. refl }; enters_none = λ t. refl; leaves_none = λ t. refl; allocates_none = λ t. refl; looks_none = λ t. refl; heads_none = λ t. refl }

-- a clean take
clean_take_quiet : OfPages CleanTake
clean_take_quiet = record { no_bump = refl; no_take = refl; ends_none = λ c. refl; stores_none = λ A. refl; offsets = record { done = refl; raised = refl; shifted = refl; allocated = λ a b. refl }; enters_none = λ t. refl; leaves_none = λ t. refl; allocates_none = λ t. refl; looks_none = λ t. refl; heads_none = λ t. refl }

-- the end of a cleaning
clean_done_quiet : (q : ℕ) → OfPages (CleanDone q)
clean_done_quiet q = record { no_bump = refl; no_take = refl; ends_none = λ c. refl; stores_none = λ A. refl; offsets = record { done = refl; raised = refl; shifted = refl; allocated = λ a b. refl }; enters_none = λ t. refl; leaves_none = λ t. refl; allocates_none = λ t. refl; looks_none = λ t. refl; heads_none = λ t. refl }

-- a take that fails finds no page
taken_err : (fault f : Fault) (o : Option ℕ) → Err f ≡ page_or fault o → (o ≡ None) × (f ≡ fault)
taken_err fault f None h = (refl, cc)
taken_err fault f (Some q) h = cc

-- and one that doesn't finds this one
taken_ok : (fault : Fault) (q : ℕ) (o : Option ℕ) → Ok q ≡ page_or fault o → o ≡ Some q
taken_ok fault q None h = cc
taken_ok fault q (Some p) h = let same : q ≡ p = cc in ap Some (sym same)

module _ {J : Type 0} (tag : J → ℕ) where
  -- a core whose frames alone moved
  pages_moved : (core : State J) (A : List Step) (s : Step) (pages : Pages) → Stands tag core A → fault_of core.sizes A s ≡ None → OfPages s → pages ≡ pages_of core.sizes (A ++ s ∷ []) → Stands tag (record { sizes = core.sizes; table = core.table; views = core.views; drain = core.drain; offsets = core.offsets; pages = pages }) (A ++ s ∷ [])
  pages_moved core A s pages st h quiet is =
      quiet_drain tag core A s core.table core.views core.offsets pages st h
      (record { takes_none = quiet.no_take; ends_none = quiet.ends_none; stores_none = quiet.stores_none A })
      (table_stays core.sizes A s core.table st.table_is quiet.no_bump quiet.enters_none quiet.leaves_none)
      (st.views_is ∙ sym (slot_views-stay core.sizes A s quiet.enters_none quiet.leaves_none quiet.allocates_none quiet.looks_none quiet.heads_none))
      (st.offsets_is ∙ sym (log-stays core.sizes A s st.accepted quiet.offsets)) is

  -- frames that stayed where a step was refused
  pages_refuse : (core : State J) (A : List Step) (s : Step) (f : Fault) (pages : Pages) → Stands tag core A → fault_of core.sizes A s ≡ Some f → pages ≡ core.pages → Stepped tag core A s (record { sizes = core.sizes; table = core.table; views = core.views; drain = core.drain; offsets = core.offsets; pages = pages }) (Err f)
  pages_refuse core A s f pages st h same =
      subst (λ (z : Pages). Stepped tag core A s (record { sizes = core.sizes; table = core.table; views = core.views; drain = core.drain; offsets = core.offsets; pages = z }) (Err f)) (sym same) (refused_step tag core A s f st h)

  -- a refused flush take
  flush_take_err : (core : State J) (sro : ℕ) (f : Fault) (pages : Pages) → sro ≡ core.offsets.safe_read_only → Err f ≡ page_or NoneSealed (NEXT_TO_FLUSH sro core.pages) → pages ≡ after_take flush_begun (NEXT_TO_FLUSH sro core.pages) core.pages → Made tag core FlushTake (record { sizes = core.sizes; table = core.table; views = core.views; drain = core.drain; offsets = core.offsets; pages = pages }) (Err f)
  flush_take_err core sro f pages at h e A st =
      let told : (NEXT_TO_FLUSH sro core.pages ≡ None) × (f ≡ NoneSealed) = taken_err NoneSealed f (NEXT_TO_FLUSH sro core.pages) h in
      let none : next_to_flush core.sizes A ≡ None = sym (ap (λ n. NEXT_TO_FLUSH n core.pages) at ∙ flush_found tag core A st) ∙ told.0 in
      pages_refuse core A FlushTake f pages st (ap (unless_page NoneSealed) none ∙ ap Some (sym told.1)) (e ∙ ap (λ o. after_take flush_begun o core.pages) told.0)

  -- an accepted flush take
  flush_take_ok : (core : State J) (sro q : ℕ) (pages : Pages) → sro ≡ core.offsets.safe_read_only → Ok q ≡ page_or NoneSealed (NEXT_TO_FLUSH sro core.pages) → pages ≡ after_take flush_begun (NEXT_TO_FLUSH sro core.pages) core.pages → Made tag core FlushTake (record { sizes = core.sizes; table = core.table; views = core.views; drain = core.drain; offsets = core.offsets; pages = pages }) (Ok (Page q))
  flush_take_ok core sro q pages at h e A st =
      let told : NEXT_TO_FLUSH sro core.pages ≡ Some q = taken_ok NoneSealed q (NEXT_TO_FLUSH sro core.pages) h in
      let found : next_to_flush core.sizes A ≡ Some q = sym (ap (λ n. NEXT_TO_FLUSH n core.pages) at ∙ flush_found tag core A st) ∙ told in
      let none : fault_of core.sizes A FlushTake ≡ None = ap (unless_page NoneSealed) found in
      let is : pages ≡ pages_of core.sizes (A ++ FlushTake ∷ []) = e ∙ ap (λ o. after_take flush_begun o core.pages) told ∙ ap (flush_begun q) st.pages_is ∙ sym (flush_begun-is core.sizes A q st.in_range st.accepted found) in
      accepted_step tag core (record { sizes = core.sizes; table = core.table; views = core.views; drain = core.drain; offsets = core.offsets; pages = pages }) A FlushTake (Page q) none refl (ap (λ o. Page (unwrap_or o 0)) found)
      (pages_moved core A FlushTake pages st none flush_take_quiet is)

  -- a flush take
  pub flush_take_made : (core : State J) (sro : ℕ) (result : Result ℕ Fault) (pages : Pages) → sro ≡ core.offsets.safe_read_only → result ≡ page_or NoneSealed (NEXT_TO_FLUSH sro core.pages) → pages ≡ after_take flush_begun (NEXT_TO_FLUSH sro core.pages) core.pages → Made tag core FlushTake (record { sizes = core.sizes; table = core.table; views = core.views; drain = core.drain; offsets = core.offsets; pages = pages }) (as_reply Page result)
  flush_take_made core sro (Ok q) pages at h e = flush_take_ok core sro q pages at h e
  flush_take_made core sro (Err f) pages at h e = flush_take_err core sro f pages at h e

  -- a refused end of a flush
  flush_done_err : (core : State J) (q : ℕ) (ok : Bool) (f : Fault) (pages : Pages) → Err f ≡ flush_done_answer q ok core.pages → pages ≡ after_flush_done q ok core.pages → Made tag core (FlushDone q ok) (record { sizes = core.sizes; table = core.table; views = core.views; drain = core.drain; offsets = core.offsets; pages = pages }) (Err f)
  flush_done_err core q ok f pages h e A st =
      let told : (IN_FLIGHT q core.pages ≡ false) × (f ≡ NotInFlight) = refused_by_test NotInFlight f (IN_FLIGHT q core.pages) (flushed_offset (flush_ended q ok core.pages)) h in
      let no_flight : is_in_flight core.sizes q A ≡ false = sym (flight_found tag core A q st) ∙ told.0 in
      pages_refuse core A (FlushDone q ok) f pages st (ap (λ b. cond b None (Some NotInFlight)) no_flight ∙ ap Some (sym told.1)) (e ∙ ap (λ b. cond b (flush_ended q ok core.pages) core.pages) told.0)

  -- an accepted end of a flush
  flush_done_ok : (core : State J) (q : ℕ) (ok : Bool) (offset : ℕ) (pages : Pages) → Ok offset ≡ flush_done_answer q ok core.pages → pages ≡ after_flush_done q ok core.pages → Made tag core (FlushDone q ok) (record { sizes = core.sizes; table = core.table; views = core.views; drain = core.drain; offsets = core.offsets; pages = pages }) (Ok (Flushed offset))
  flush_done_ok core q ok offset pages h e A st =
      let told : (IN_FLIGHT q core.pages ≡ true) × (offset ≡ flushed_offset (flush_ended q ok core.pages)) = passed_by_test NotInFlight (IN_FLIGHT q core.pages) offset (flushed_offset (flush_ended q ok core.pages)) h in
      let flight : is_in_flight core.sizes q A ≡ true = sym (flight_found tag core A q st) ∙ told.0 in
      let none : fault_of core.sizes A (FlushDone q ok) ≡ None = ap (λ b. cond b None (Some NotInFlight)) flight in
      let moved : flush_ended q ok core.pages ≡ pages_of core.sizes (A ++ FlushDone q ok ∷ []) = ap (flush_ended q ok) st.pages_is ∙ sym (flush_ended-is core.sizes A q ok st.in_range st.accepted flight) in
      let reply : flushed core.sizes (A ++ FlushDone q ok ∷ []) ≡ offset =
      sym (pages_of-flushed core.sizes (A ++ FlushDone q ok ∷ []) st.in_range (IsAccepted-push core.sizes A (FlushDone q ok) st.accepted none)) ∙ sym (ap flushed_offset moved) ∙ sym told.1 in
      accepted_step tag core (record { sizes = core.sizes; table = core.table; views = core.views; drain = core.drain; offsets = core.offsets; pages = pages }) A (FlushDone q ok) (Flushed offset) none refl (ap (λ n. Flushed n) reply)
      (pages_moved core A (FlushDone q ok) pages st none (flush_done_quiet q ok) (e ∙ ap (λ b. cond b (flush_ended q ok core.pages) core.pages) told.0 ∙ moved))

  -- an end of a flush
  pub flush_done_made : (core : State J) (q : ℕ) (ok : Bool) (result : Result ℕ Fault) (pages : Pages) → result ≡ flush_done_answer q ok core.pages → pages ≡ after_flush_done q ok core.pages → Made tag core (FlushDone q ok) (record { sizes = core.sizes; table = core.table; views = core.views; drain = core.drain; offsets = core.offsets; pages = pages }) (as_reply Flushed result)
  flush_done_made core q ok (Ok offset) pages h e = flush_done_ok core q ok offset pages h e
  flush_done_made core q ok (Err f) pages h e = flush_done_err core q ok f pages h e

  -- a refused clean take
  clean_take_err : (core : State J) (end : ℕ) (f : Fault) (pages : Pages) → end ≡ core.offsets.closed → Err f ≡ page_or NoneClosed (NEXT_TO_CLEAN end core.pages) → pages ≡ after_take clean_begun (NEXT_TO_CLEAN end core.pages) core.pages → Made tag core CleanTake (record { sizes = core.sizes; table = core.table; views = core.views; drain = core.drain; offsets = core.offsets; pages = pages }) (Err f)
  clean_take_err core end f pages at h e A st =
      let told : (NEXT_TO_CLEAN end core.pages ≡ None) × (f ≡ NoneClosed) = taken_err NoneClosed f (NEXT_TO_CLEAN end core.pages) h in
      let none : next_to_clean core.sizes A ≡ None = sym (ap (λ n. NEXT_TO_CLEAN n core.pages) at ∙ clean_found tag core A st) ∙ told.0 in
      pages_refuse core A CleanTake f pages st (ap (unless_page NoneClosed) none ∙ ap Some (sym told.1)) (e ∙ ap (λ o. after_take clean_begun o core.pages) told.0)

  -- an accepted clean take
  clean_take_ok : (core : State J) (end q : ℕ) (pages : Pages) → end ≡ core.offsets.closed → Ok q ≡ page_or NoneClosed (NEXT_TO_CLEAN end core.pages) → pages ≡ after_take clean_begun (NEXT_TO_CLEAN end core.pages) core.pages → Made tag core CleanTake (record { sizes = core.sizes; table = core.table; views = core.views; drain = core.drain; offsets = core.offsets; pages = pages }) (Ok (Page q))
  clean_take_ok core end q pages at h e A st =
      let told : NEXT_TO_CLEAN end core.pages ≡ Some q = taken_ok NoneClosed q (NEXT_TO_CLEAN end core.pages) h in
      let found : next_to_clean core.sizes A ≡ Some q = sym (ap (λ n. NEXT_TO_CLEAN n core.pages) at ∙ clean_found tag core A st) ∙ told in
      let none : fault_of core.sizes A CleanTake ≡ None = ap (unless_page NoneClosed) found in
      let is : pages ≡ pages_of core.sizes (A ++ CleanTake ∷ []) = e ∙ ap (λ o. after_take clean_begun o core.pages) told ∙ ap (clean_begun q) st.pages_is ∙ sym (clean_begun-is core.sizes A q st.in_range st.accepted found) in
      accepted_step tag core (record { sizes = core.sizes; table = core.table; views = core.views; drain = core.drain; offsets = core.offsets; pages = pages }) A CleanTake (Page q) none refl (ap (λ o. Page (unwrap_or o 0)) found)
      (pages_moved core A CleanTake pages st none clean_take_quiet is)

  -- a clean take
  pub clean_take_made : (core : State J) (end : ℕ) (result : Result ℕ Fault) (pages : Pages) → end ≡ core.offsets.closed → result ≡ page_or NoneClosed (NEXT_TO_CLEAN end core.pages) → pages ≡ after_take clean_begun (NEXT_TO_CLEAN end core.pages) core.pages → Made tag core CleanTake (record { sizes = core.sizes; table = core.table; views = core.views; drain = core.drain; offsets = core.offsets; pages = pages }) (as_reply Page result)
  clean_take_made core end (Ok q) pages at h e = clean_take_ok core end q pages at h e
  clean_take_made core end (Err f) pages at h e = clean_take_err core end f pages at h e

  -- a refused end of a cleaning
  pub clean_done_err : (core : State J) (q : ℕ) (f : Fault) (pages : Pages) → Err f ≡ clean_done_answer q core.pages → pages ≡ after_clean_done q core.pages → Made tag core (CleanDone q) (record { sizes = core.sizes; table = core.table; views = core.views; drain = core.drain; offsets = core.offsets; pages = pages }) (Err f)
  clean_done_err core q f pages h e A st =
      let told : (CLEANING q core.pages ≡ false) × (f ≡ NotCleaning) = refused_by_test NotCleaning f (CLEANING q core.pages) (tt {0}) h in
      let no_cleaning : is_cleaning core.sizes q A ≡ false = sym (cleaning_found tag core A q st) ∙ told.0 in
      pages_refuse core A (CleanDone q) f pages st (ap (λ b. cond b None (Some NotCleaning)) no_cleaning ∙ ap Some (sym told.1)) (e ∙ ap (λ b. cond b (clean_ended q core.pages) core.pages) told.0)

  -- an accepted end of a cleaning
  pub clean_done_ok : (core : State J) (q : ℕ) (pages : Pages) → Ok (tt {0}) ≡ clean_done_answer q core.pages → pages ≡ after_clean_done q core.pages → Made tag core (CleanDone q) (record { sizes = core.sizes; table = core.table; views = core.views; drain = core.drain; offsets = core.offsets; pages = pages }) (Ok (Freed q))
  clean_done_ok core q pages h e A st =
      let told : (CLEANING q core.pages ≡ true) × (tt {0} ≡ tt {0}) = passed_by_test NotCleaning (CLEANING q core.pages) (tt {0}) (tt {0}) h in
      let cleaned : is_cleaning core.sizes q A ≡ true = sym (cleaning_found tag core A q st) ∙ told.0 in
      let none : fault_of core.sizes A (CleanDone q) ≡ None = ap (λ b. cond b None (Some NotCleaning)) cleaned in
      let moved : clean_ended q core.pages ≡ pages_of core.sizes (A ++ CleanDone q ∷ []) = ap (clean_ended q) st.pages_is ∙ sym (clean_ended-is core.sizes A q st.in_range st.accepted cleaned) in
      accepted_step tag core (record { sizes = core.sizes; table = core.table; views = core.views; drain = core.drain; offsets = core.offsets; pages = pages }) A (CleanDone q) (Freed q) none refl refl
      (pages_moved core A (CleanDone q) pages st none (clean_done_quiet q) (e ∙ ap (λ b. cond b (clean_ended q core.pages) core.pages) told.0 ∙ moved))
