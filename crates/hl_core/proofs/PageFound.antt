-- What the frames of a core answer, wherever it stands.
use Rattle.std.proofs.Common.{◌≡◌, ℕ, ◌+◌, ◌-◌, ◌*◌, ◌/◌, ◌≤◌, ◌<◌, Bool, cond, ltb, List, length, arith, sym, ap, ap₂, ◌∙◌, subst}
use Rattle.std.specs.Prelude.{Option, Some, None}
use Rattle.std.proofs.Math.Nat.{le-div_iff_mul-le, div-mul-le_self}
use Rattle.hl_model.specs.declared.fault.Fault.TheVariants.{NoneSealed, NotInFlight, NoneClosed, NotCleaning}
use Rattle.hl_model.specs.declared.frame.FrameState.{FrameState}
use Rattle.hl_model.specs.declared.step.Step.{Step}
use Rattle.hl_model.specs.declared.step.Step.TheVariants.{FlushTake, FlushDone, CleanTake, CleanDone}
use Rattle.hl_model.specs.Offsets.{tail, is_entered}
use Rattle.hl_model.specs.Settled.{safe_read_only, closed}
use Rattle.hl_model.specs.Pages.{is_in_flight, is_cleaning, next_to_flush, next_to_clean}
use Rattle.hl_model.specs.Frames.{may_enter, frame_of}
use Rattle.hl_model.specs.Replies.{fault_of, unless_fault, unless_page}
use Rattle.hl_laws.proofs.OrderLaws.{offsets_are_in_order}
use Rattle.hl_frames.specs.Pages.{Pages, pages_below, flushed_offset, is_in_flight as IN_FLIGHT, is_cleaning as CLEANING, may_enter as MAY_ENTER, next_to_flush as NEXT_TO_FLUSH, next_to_clean as NEXT_TO_CLEAN}
use Rattle.hl_frames.specs.Answers.{state_of}
use Rattle.hl_core.specs.Standing.{State, Stands, IsStanding, pages_entered}
use Rattle.hl_core.proofs.PageRows.{length-frames}
use Rattle.hl_core.proofs.PageMarks.{page_size_some, next_to_flush-is, next_to_clean-is, is_in_flight-is, is_cleaning-is, may_enter-is}
use Rattle.hl_core.proofs.PageOffsets.{is_entered-is, closed_within, frame_of-is}

module _ {J : Type 0} (tag : J → ℕ) (core : State J) where
  -- the page to flush
  pub flush_found : (A : List Step) → Stands tag core A → NEXT_TO_FLUSH core.offsets.safe_read_only core.pages ≡ next_to_flush core.sizes A
  flush_found A st = ap₂ NEXT_TO_FLUSH (ap (λ log. log.safe_read_only) st.offsets_is) st.pages_is ∙ next_to_flush-is core.sizes A st.accepted

  -- the page to clean
  pub clean_found : (A : List Step) → Stands tag core A → NEXT_TO_CLEAN core.offsets.closed core.pages ≡ next_to_clean core.sizes A
  clean_found A st = ap₂ NEXT_TO_CLEAN (ap (λ log. log.closed) st.offsets_is) st.pages_is ∙ next_to_clean-is core.sizes A st.accepted

  -- whether a page is in flight
  pub flight_found : (A : List Step) (p : ℕ) → Stands tag core A → IN_FLIGHT p core.pages ≡ is_in_flight core.sizes p A
  flight_found A p st = ap (IN_FLIGHT p) st.pages_is ∙ is_in_flight-is core.sizes A p st.accepted

  -- whether a page is being cleaned
  pub cleaning_found : (A : List Step) (p : ℕ) → Stands tag core A → CLEANING p core.pages ≡ is_cleaning core.sizes p A
  cleaning_found A p st = ap (CLEANING p) st.pages_is ∙ is_cleaning-is core.sizes A p st.accepted

  -- whether a page may be entered
  pub enter_found : (A : List Step) (p : ℕ) → Stands tag core A → MAY_ENTER p core.pages ≡ may_enter core.sizes p A
  enter_found A p st = ap (MAY_ENTER p) st.pages_is ∙ may_enter-is core.sizes A p st.accepted

  -- whether a page is entered
  pub entered_found : (q : ℕ) (told : Bool) → told ≡ ltb q core.pages.entered → (A : List Step) → Stands tag core A → told ≡ is_entered core.sizes q A
  entered_found q told is A st = is ∙ ap (λ (p : Pages). ltb q p.entered) st.pages_is ∙ is_entered-is core.sizes A q (page_size_some core.sizes st.in_range)

  -- and whether an address's page is
  pub entered_at_found : (a : ℕ) (told : Bool) → told ≡ ltb (a / core.pages.page_size) core.pages.entered → (A : List Step) → Stands tag core A → told ≡ is_entered core.sizes (a / core.sizes.page_size) A
  entered_at_found a told is A st = entered_found (a / core.pages.page_size) told is A st ∙ ap (λ (p : Pages). is_entered core.sizes (a / p.page_size) A) st.pages_is

  -- what a frame is at
  pub state_found : (A : List Step) (f : ℕ) → Stands tag core A → f < core.sizes.frames → state_of f core.offsets.safe_read_only core.offsets.closed core.pages ≡ frame_of core.sizes f A
  state_found A f st h =
      ap₂ (λ log pages. state_of f log.safe_read_only log.closed pages) st.offsets_is st.pages_is ∙ frame_of-is core.sizes A f st.in_range h

  -- closed pages are flushed
  pub closed_fits : IsStanding tag core → core.offsets.closed ≤ flushed_offset core.pages
  closed_fits (A, st) =
      subst (λ (n : ℕ). n ≤ flushed_offset core.pages) (sym (ap (λ log. log.closed) st.offsets_is))
      (subst (λ (pages : Pages). closed A ≤ flushed_offset pages) (sym st.pages_is) (closed_within core.sizes A st.in_range st.accepted))

  -- sealed pages are entered
  pub sealed_fits : IsStanding tag core → pages_below core.offsets.safe_read_only core.pages ≤ core.pages.entered
  sealed_fits (A, st) =
      let some : 0 < core.sizes.page_size = page_size_some core.sizes st.in_range in
      let order = offsets_are_in_order core.sizes A some st.accepted in
      let starts : safe_read_only A / core.sizes.page_size * core.sizes.page_size ≤ tail core.sizes A + core.sizes.page_size - 1 = omega (arith, div-mul-le_self (safe_read_only A) core.sizes.page_size, order.safe_read_only_most, order.read_only_most, some) in
      let entered : safe_read_only A / core.sizes.page_size ≤ pages_entered core.sizes A = (le-div_iff_mul-le some).1 starts in
      subst (λ (n : ℕ). pages_below n core.pages ≤ core.pages.entered) (sym (ap (λ log. log.safe_read_only) st.offsets_is))
      (subst (λ (pages : Pages). pages_below (safe_read_only A) pages ≤ pages.entered) (sym st.pages_is) entered)

  -- what a flush take would be answered
  pub may_flush : (sro : ℕ) (o : Option ℕ) → sro ≡ core.offsets.safe_read_only → o ≡ NEXT_TO_FLUSH sro core.pages → (A : List Step) → Stands tag core A → unless_fault (unless_page NoneSealed o) (tt {0}) ≡ unless_fault (fault_of core.sizes A FlushTake) (tt {0})
  may_flush sro o at is A st = ap (λ r. unless_fault (unless_page NoneSealed r) (tt {0})) (is ∙ ap (λ n. NEXT_TO_FLUSH n core.pages) at ∙ flush_found A st)

  -- a clean take
  pub may_clean : (end : ℕ) (o : Option ℕ) → end ≡ core.offsets.closed → o ≡ NEXT_TO_CLEAN end core.pages → (A : List Step) → Stands tag core A → unless_fault (unless_page NoneClosed o) (tt {0}) ≡ unless_fault (fault_of core.sizes A CleanTake) (tt {0})
  may_clean end o at is A st = ap (λ r. unless_fault (unless_page NoneClosed r) (tt {0})) (is ∙ ap (λ n. NEXT_TO_CLEAN n core.pages) at ∙ clean_found A st)

  -- the end of a flush
  pub may_end_flush : (p : ℕ) (b : Bool) → b ≡ IN_FLIGHT p core.pages → (A : List Step) (ok : Bool) → Stands tag core A → unless_fault (cond b None (Some NotInFlight)) (tt {0}) ≡ unless_fault (fault_of core.sizes A (FlushDone p ok)) (tt {0})
  may_end_flush p b is A ok st = ap (λ r. unless_fault (cond r None (Some NotInFlight)) (tt {0})) (is ∙ flight_found A p st)

  -- the end of a cleaning
  pub may_end_cleaning : (p : ℕ) (b : Bool) → b ≡ CLEANING p core.pages → (A : List Step) → Stands tag core A → unless_fault (cond b None (Some NotCleaning)) (tt {0}) ≡ unless_fault (fault_of core.sizes A (CleanDone p)) (tt {0})
  may_end_cleaning p b is A st = ap (λ r. unless_fault (cond r None (Some NotCleaning)) (tt {0})) (is ∙ cleaning_found A p st)

  -- each frame has its place
  pub frame_fits : (f : ℕ) → IsStanding tag core → f < core.sizes.frames → f < length core.pages.frames
  frame_fits f (A, st) h = omega (arith, h, ap (λ (pages : Pages). length pages.frames) st.pages_is, length-frames core.sizes A)

  -- what a frame is said to be at
  pub state_told : (f sro end : ℕ) (told : FrameState × Option ℕ) → f < core.sizes.frames → sro ≡ core.offsets.safe_read_only → end ≡ core.offsets.closed → told ≡ state_of f sro end core.pages → (A : List Step) → Stands tag core A → told ≡ frame_of core.sizes f A
  state_told f sro end told h at_sro at_end is A st = is ∙ ap₂ (λ x y. state_of f x y core.pages) at_sro at_end ∙ state_found A f st h
