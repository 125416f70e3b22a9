-- The flushed offset, the pages up to an offset, and what each frame is at, by the frames of an accepted list.
use Rattle.std.proofs.Common.{◌≡◌, ℕ, ◌+◌, ◌-◌, ◌*◌, ◌/◌, ◌<◌, ◌≤◌, Bool, true, false, cond, ltb, leb, List, refl, sym, ap, ap₂, ◌∙◌, arith, inl, inr, ◌⊎◌, zero-add}
use Rattle.std.specs.Prelude.{Option, Some, None, option_map}
use Rattle.std.proofs.Math.Nat.{le-div_iff_mul-le, mul_comm}
use Rattle.std.proofs.lemmas.Bool.{ltb-true, lt-ltb, le-ltb, le-leb, lt-leb, both_ways, cases_lt}
use Rattle.hl_model.specs.declared.frame.FrameState.{FrameState}
use Rattle.hl_model.specs.declared.frame.FrameState.TheVariants.{Opened, Sealed, Flushed, Closed, Free}
use Rattle.hl_model.specs.declared.step.Step.{Step}
use Rattle.hl_model.specs.Sizes.{Sizes, AreInRange}
use Rattle.hl_model.specs.Offsets.{tail, is_entered}
use Rattle.hl_model.specs.Settled.{safe_read_only, closed}
use Rattle.hl_model.specs.Pages.{is_flushed, is_freed, flushed_run, flushed}
use Rattle.hl_model.specs.Frames.{last_entered, state_of_page, frame_of}
use Rattle.hl_model.specs.Snapshots.{six, AreInOrder}
use Rattle.hl_model.specs.Replies.{IsAccepted}
use Rattle.hl_laws.proofs.RunLaws.{flushed_run-passes, flushed_run-fails}
use Rattle.hl_frames.specs.Pages.{flushed_offset, is_flushed as FLUSHED, flushed_run as FLUSHED_RUN}
use Rattle.hl_frames.specs.Answers.{state_in, state_of}
use Rattle.hl_model.proofs.SearchLaws.{prefix_len-first}
use Rattle.hl_model.specs.Bases.{marked}
use Rattle.hl_core.specs.Standing.{pages_entered, pages_of}
use Rattle.hl_core.proofs.PageRows.{frame_holds}
use Rattle.hl_core.proofs.PageMarks.{page_size_some, in_order, is_flushed-is, ahead_unflushed}

-- a page below the number of those that begin below an address begins there
begins_before : (page_size end q : ℕ) → 0 < page_size → q < (end + page_size - 1) / page_size → q * page_size < end
begins_before page_size end q some h =
    let upper : q + 1 ≤ (end + page_size - 1) / page_size = omega arith in
    let step : (q + 1) * page_size ≤ end + page_size - 1 = (le-div_iff_mul-le some).0 upper in
    let more : (q + 1) * page_size ≡ q * page_size + page_size = omega arith in
    omega arith

-- and one that begins there is below the number
counts_before : (page_size end q : ℕ) → 0 < page_size → q * page_size < end → q < (end + page_size - 1) / page_size
counts_before page_size end q some h =
    let more : (q + 1) * page_size ≡ q * page_size + page_size = omega arith in
    let step : (q + 1) * page_size ≤ end + page_size - 1 = omega arith in
    let upper : q + 1 ≤ (end + page_size - 1) / page_size = (le-div_iff_mul-le some).1 step in
    omega arith

-- the pages entered are those below their number
pub below_entered : (sizes : Sizes) (A : List Step) (q : ℕ) → 0 < sizes.page_size → q < pages_entered sizes A → is_entered sizes q A ≡ true
below_entered sizes A q some h = lt-ltb (q * sizes.page_size) (tail sizes A) (begins_before sizes.page_size (tail sizes A) q some h)

-- and entered pages are below it
pub entered_below : (sizes : Sizes) (A : List Step) (q : ℕ) → 0 < sizes.page_size → is_entered sizes q A ≡ true → q < pages_entered sizes A
entered_below sizes A q some e = counts_before sizes.page_size (tail sizes A) q some (ltb-true (q * sizes.page_size) (tail sizes A) e)

-- as a test
pub is_entered-is : (sizes : Sizes) (A : List Step) (q : ℕ) → 0 < sizes.page_size → ltb q (pages_entered sizes A) ≡ is_entered sizes q A
is_entered-is sizes A q some = by_order (cases_lt q (pages_entered sizes A))
  where
    by_order : ((q < pages_entered sizes A) ⊎ (pages_entered sizes A ≤ q)) → ltb q (pages_entered sizes A) ≡ is_entered sizes q A
    by_order (inl lt) = lt-ltb q (pages_entered sizes A) lt ∙ sym (below_entered sizes A q some lt)
    by_order (inr ge) =
        le-ltb q (pages_entered sizes A) ge
        ∙ sym (le-ltb (q * sizes.page_size) (tail sizes A) (by_start (cases_lt (q * sizes.page_size) (tail sizes A))))
      where
        by_start : ((q * sizes.page_size < tail sizes A) ⊎ (tail sizes A ≤ q * sizes.page_size)) → tail sizes A ≤ q * sizes.page_size
        by_start (inl lt) = let upper : q < pages_entered sizes A = counts_before sizes.page_size (tail sizes A) q some lt in absurd (omega arith)
        by_start (inr le) = le

-- where the pages below a number are entered, and that one isn't, so many are entered
pub pages_entered-is : (sizes : Sizes) (A : List Step) (n : ℕ) → 0 < sizes.page_size → ((p : ℕ) → p < n → is_entered sizes p A ≡ true) → is_entered sizes n A ≡ false → pages_entered sizes A ≡ n
pages_entered-is sizes A n some each none = by_order (cases_lt (pages_entered sizes A) n) (cases_lt n (pages_entered sizes A))
  where
    by_order : ((pages_entered sizes A < n) ⊎ (n ≤ pages_entered sizes A)) → ((n < pages_entered sizes A) ⊎ (pages_entered sizes A ≤ n)) → pages_entered sizes A ≡ n
    by_order (inl lt) other = let over : pages_entered sizes A < pages_entered sizes A = entered_below sizes A (pages_entered sizes A) some (each (pages_entered sizes A) lt) in absurd (omega arith)
    by_order (inr ge) (inl gt) = absurd (both_ways (is_entered sizes n A) none (below_entered sizes A n some gt))
    by_order (inr ge) (inr le) = omega arith

-- the next page isn't entered
pub unentered_end : (sizes : Sizes) (A : List Step) → 0 < sizes.page_size → is_entered sizes (pages_entered sizes A) A ≡ false
unentered_end sizes A some = sym (is_entered-is sizes A (pages_entered sizes A) some) ∙ le-ltb (pages_entered sizes A) (pages_entered sizes A) (omega arith)

-- flushed pages are entered
run_entered : (sizes : Sizes) (A : List Step) → AreInRange sizes → IsAccepted sizes A → flushed_run sizes A ≤ pages_entered sizes A
run_entered sizes A range a = by_order (cases_lt (pages_entered sizes A) (flushed_run sizes A))
  where
    by_order : ((pages_entered sizes A < flushed_run sizes A) ⊎ (flushed_run sizes A ≤ pages_entered sizes A)) → flushed_run sizes A ≤ pages_entered sizes A
    by_order (inl lt) =
        absurd (both_ways (is_flushed sizes (pages_entered sizes A) A) (ahead_unflushed sizes A (pages_entered sizes A) range a (unentered_end sizes A (page_size_some sizes range))) (flushed_run-passes sizes A (pages_entered sizes A) lt))
    by_order (inr le) = le

-- the run of flushed pages
flushed_run-same : (sizes : Sizes) (A : List Step) → AreInRange sizes → IsAccepted sizes A → FLUSHED_RUN (pages_of sizes A) ≡ flushed_run sizes A
flushed_run-same sizes A range a =
    sym (zero-add (FLUSHED_RUN (pages_of sizes A)))
    ∙ prefix_len-first (λ q. FLUSHED q (pages_of sizes A)) 0 (pages_entered sizes A) (flushed_run sizes A)
    (λ q least lt. is_flushed-is sizes A q a ∙ flushed_run-passes sizes A q lt)
    (omega arith) (omega (arith, run_entered sizes A range a))
    (λ lt. is_flushed-is sizes A (flushed_run sizes A) a ∙ flushed_run-fails sizes A)

-- the flushed offset
pub pages_of-flushed : (sizes : Sizes) (A : List Step) → AreInRange sizes → IsAccepted sizes A → flushed_offset (pages_of sizes A) ≡ flushed sizes A
pages_of-flushed sizes A range a = ap (λ n. n * sizes.page_size) (flushed_run-same sizes A range a) ∙ mul_comm (flushed_run sizes A) sizes.page_size

-- closed pages are flushed
pub closed_within : (sizes : Sizes) (A : List Step) → AreInRange sizes → IsAccepted sizes A → closed A ≤ flushed_offset (pages_of sizes A)
closed_within sizes A range a =
    let order : AreInOrder sizes.page_size (six sizes A) = in_order sizes A range a in
    omega (arith, pages_of-flushed sizes A range a, order.closed_most, order.head_most)

-- a page is below the number of those that end at or below an address where it ends there
ends_core : (page_size p a : ℕ) → 0 < page_size → ltb p (a / page_size) ≡ leb ((p + 1) * page_size) a
ends_core page_size p a some = by_order (cases_lt p (a / page_size))
  where
    by_order : ((p < a / page_size) ⊎ (a / page_size ≤ p)) → ltb p (a / page_size) ≡ leb ((p + 1) * page_size) a
    by_order (inl lt) =
        let upper : p + 1 ≤ a / page_size = omega arith in
        lt-ltb p (a / page_size) lt ∙ sym (le-leb ((p + 1) * page_size) a ((le-div_iff_mul-le some).0 upper))
    by_order (inr ge) = le-ltb p (a / page_size) ge ∙ sym (lt-leb ((p + 1) * page_size) a (by_end (cases_lt a ((p + 1) * page_size))))
      where
        by_end : ((a < (p + 1) * page_size) ⊎ ((p + 1) * page_size ≤ a)) → a < (p + 1) * page_size
        by_end (inl lt) = lt
        by_end (inr le) = let upper : p + 1 ≤ a / page_size = (le-div_iff_mul-le some).1 le in absurd (omega arith)

-- what a frame is at, told its last page
state_same : (sizes : Sizes) (A : List Step) (o : Option ℕ) → 0 < sizes.page_size → state_in (safe_read_only A / sizes.page_size) (closed A / sizes.page_size) (option_map (marked sizes A) o) ≡ state_of_page sizes A o
state_same sizes A None some = refl
state_same sizes A (Some p) some =
    ap₂ (λ (shut safe : Bool). cond {A = FrameState × Option ℕ} (is_freed sizes p A) (Free, None) (cond shut (Closed, Some p) (cond (is_flushed sizes p A) (Flushed, Some p) (cond safe (Sealed, Some p) (Opened, Some p)))))
    (ends_core sizes.page_size p (closed A) some) (ends_core sizes.page_size p (safe_read_only A) some)

-- what a frame is at
pub frame_of-is : (sizes : Sizes) (A : List Step) (f : ℕ) → AreInRange sizes → f < sizes.frames → state_of f (safe_read_only A) (closed A) (pages_of sizes A) ≡ frame_of sizes f A
frame_of-is sizes A f range h =
    ap (λ o. state_in (safe_read_only A / sizes.page_size) (closed A / sizes.page_size) o) (frame_holds sizes A f h)
    ∙ state_same sizes A (last_entered sizes f A) (page_size_some sizes range)
