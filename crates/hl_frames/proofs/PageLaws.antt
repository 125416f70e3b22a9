-- What each call makes of the pages stays true of all frames.
use Rattle.std.proofs.Common.{◌≡◌, ℕ, ◌+◌, ◌-◌, ◌/◌, ◌%◌, ◌^◌, ◌<◌, ◌≤◌, Bool, true, false, not, ◌||◌, Option, Some, None, List, length, get_or, set, length-set, get_or-set_same, get_or-set_other, zero-add, refl, sym, ap, ◌∙◌, arith, inl, inr}
use Rattle.std.specs.Option.{option_map}
use Rattle.std.proofs.lemmas.Bool.{cases_eq, cases_lt, lt-ltb, le-ltb, eq-eqb}
use Rattle.std.proofs.Math.Nat.{mod-lt, mod-le, add-mod_right, le-div_iff_mul-le, div-le_of_le-mul, mul-le-mul_right, mul_comm}
use Rattle.hl_model.specs.declared.frame.Held.{Held}
use Rattle.std.specs.List.{range_with_len}
use Rattle.std.proofs.lemmas.List.FromFn.{length-range_with_len, get_or-range_with_len}
use Rattle.std.proofs.lemmas.List.Sums.{prefix_len-le-length, prefix_len_passes}
use Rattle.std.proofs.lemmas.Bool.Decides.{eqb_tells}
use Rattle.hl_model.proofs.Remainders.{mod-apart}
use Rattle.hl_frames.specs.Pages.{Pages, held_for, left_or_marked, is_marked, is_flushed, is_in_flight, is_freed, is_cleaning, pages_below, is_unflushed, is_uncleaned, next_to_flush, next_to_clean, flushed_run, flushed_offset}
use Rattle.hl_frames.specs.Answers.{unmarked, changed, entered, flush_begun, flush_ended, clean_begun, clean_ended}
use Rattle.hl_frames.specs.IsFrames.{AreMarks, page_in, HasLeft, IsFrames}
use Rattle.hl_model.proofs.ListLaws.{find-range}

-- a page that left its frame has each mark that counts then
left-marked : (mark : Held → Bool) (q : ℕ) (o : Option Held) → HasLeft q o → left_or_marked mark q o ≡ true
left-marked mark q None left = absurd left
left-marked mark q (Some held) left = rw (lt-ltb q held.page left) refl

-- pages that left their frames are flushed
pub left-flushed : (T : Pages) (q : ℕ) → IsFrames T → q < T.entered - length T.frames → is_flushed q T ≡ true
left-flushed T q is before = left-marked (λ held. held.flushed) q (held_for q T) (is.left q (omega arith))

-- pages that left their frames are freed
pub left-freed : (T : Pages) (q : ℕ) → IsFrames T → q < T.entered - length T.frames → is_freed q T ≡ true
left-freed T q is before = left-marked (λ held. held.freed) q (held_for q T) (is.left q (omega arith))

-- a page lies in a frame
pub within : (T : Pages) (q : ℕ) → IsFrames T → q % length T.frames < length T.frames
within T q is = mod-lt q (omega (arith, is.frames_least))

-- whether a page left a frame is told by the page there
HasLeft-same : (q : ℕ) (o o' : Option Held) → page_in o' ≡ page_in o → HasLeft q o → HasLeft q o'
HasLeft-same q None None same left = left
HasLeft-same q None (Some held) same left = absurd left
HasLeft-same q (Some held) None same left = absurd cc
HasLeft-same q (Some held) (Some held') same left = let e : held'.page ≡ held.page = cc in omega arith

-- no page lies in an empty frame
empty-same : (o o' : Option Held) → page_in o' ≡ page_in o → o ≡ None → o' ≡ None
empty-same None None same empty = refl
empty-same None (Some held) same empty = absurd cc
empty-same (Some held) o' same empty = absurd cc

-- the page of what is changed
page_in-changed : (change : Held → Held) (o : Option Held) → ((held : Held) → (change held).page ≡ held.page) → page_in (option_map change o) ≡ page_in o
page_in-changed change None keeps = refl
page_in-changed change (Some held) keeps = ap (λ page. Some page) (keeps held)

-- what is changed was there
changed-was : (change : Held → Held) (o : Option Held) (held : Held) → option_map change o ≡ Some held → (was : Held) × ((o ≡ Some was) × (change was ≡ held))
changed-was change None held e = absurd cc
changed-was change (Some was) held e = (was, (refl, cc))

-- where marks of one page change, all frames stay frames
IsFrames-changed : (T : Pages) (q : ℕ) (change : Held → Held) → IsFrames T → ((held : Held) → (change held).page ≡ held.page) → ((held : Held) → held_for q T ≡ Some held → AreMarks (change held)) → IsFrames (changed q change T)
IsFrames-changed T q change is keeps marks =
    let F : ℕ = length T.frames in
    let place : ℕ = q % F in
    let there : place < F = within T q is in
    let frames : List (Option Held) = set T.frames place (option_map change (get_or T.frames place None)) in
    let count : length frames ≡ F = length-set T.frames place (option_map change (get_or T.frames place None)) in
    let same : (f : ℕ) → page_in (get_or frames f None) ≡ page_in (get_or T.frames f None) =
    λ f.
    elim (cases_eq f place) [
      | inl e ↦ rw (e, get_or-set_same T.frames place (option_map change (get_or T.frames place None)) None there) (page_in-changed change (get_or T.frames place None) keeps)
      | inr other ↦ ap page_in (get_or-set_other T.frames place f (option_map change (get_or T.frames place None)) None other)
    ] in
    record {
      page_size_least = is.page_size_least;
      page_size_most = is.page_size_most;
      frames_least = rw count is.frames_least;
      frames_most = rw count is.frames_most;
      within_space = is.within_space;
      ends = is.ends;
      held = λ k below recent. rw count (same (k % F) ∙ is.held k below (rw count at recent));
      left = λ k before. rw count (HasLeft-same k (get_or T.frames (k % F) None) (get_or frames (k % F) None) (same (k % F)) (is.left k (rw count at before)));
      empty = λ f past. empty-same (get_or T.frames f None) (get_or frames f None) (same f) (is.empty f past);
      marks = λ f held e.
          elim (cases_eq f place) [
            | inl at ↦
                let e' = rw (at, get_or-set_same T.frames place (option_map change (get_or T.frames place None)) None there) at e in
                let was = changed-was change (get_or T.frames place None) held e' in
                rw (← was.1.1) (marks was.0 was.1.0)
            | inr other ↦ is.marks f held (sym (get_or-set_other T.frames place f (option_map change (get_or T.frames place None)) None other) ∙ e)
          ];
    }

-- the flushed run is of entered pages
pub run_within : (T : Pages) → flushed_run T ≤ T.entered
run_within T = omega (arith, prefix_len-le-length (λ q. is_flushed q T) (range_with_len 0 T.entered), length-range_with_len 0 T.entered)

-- the flushed offset is an address
pub offset_within : (T : Pages) → IsFrames T → flushed_offset T ≤ 2 ^ 48
offset_within T is = omega (arith, mul-le-mul_right T.page_size (run_within T), is.within_space)

-- neither of two
neither : (a b : Bool) → not (a || b) ≡ true → (a ≡ false) × (b ≡ false)
neither true b e = absurd cc
neither false true e = absurd cc
neither false false e = (refl, refl)

-- an entered page that isn't flushed lies in its frame
pub unflushed-lies : (T : Pages) (q : ℕ) → IsFrames T → q < T.entered → is_flushed q T ≡ false → page_in (held_for q T) ≡ Some q
unflushed-lies T q is below unflushed =
    elim (cases_lt (q + length T.frames) T.entered) [
      | inl before ↦ let e = left-flushed T q is (omega arith) in absurd cc
      | inr recent ↦ is.held q below recent
    ]

-- an entered page that isn't freed lies in its frame
pub unfreed-lies : (T : Pages) (q : ℕ) → IsFrames T → q < T.entered → is_freed q T ≡ false → page_in (held_for q T) ≡ Some q
unfreed-lies T q is below unfreed =
    elim (cases_lt (q + length T.frames) T.entered) [
      | inl before ↦ let e = left-freed T q is (omega arith) in absurd cc
      | inr recent ↦ is.held q below recent
    ]

-- the page to flush is sealed, and isn't flushed
pub next_to_flush-found : (T : Pages) (sro q : ℕ) → next_to_flush sro T ≡ Some q → (is_flushed q T ≡ false) × (q < pages_below sro T)
next_to_flush-found T sro q found =
    let at = find-range (is_unflushed T) 0 (pages_below sro T) q found in
    ((neither (is_flushed q T) (is_in_flight q T) at.0).0, omega (arith, at.2))

-- the page to clean is closed, and isn't freed
pub next_to_clean-found : (T : Pages) (closed q : ℕ) → next_to_clean closed T ≡ Some q → (is_freed q T ≡ false) × (q < pages_below closed T)
next_to_clean-found T closed q found =
    let at = find-range (is_uncleaned T) 0 (pages_below closed T) q found in
    ((neither (is_freed q T) (is_cleaning q T) at.0).0, omega (arith, at.2))

-- the page that a frame holds lacks a mark that doesn't count
unmarked-at : (mark : Held → Bool) (q : ℕ) (held : Held) → held.page ≡ q → left_or_marked mark q (Some held) ≡ false → mark held ≡ false
unmarked-at mark q held lies e = rw (le-ltb q held.page (omega arith), eq-eqb q held.page (sym lies)) at e

-- the page that a frame holds has a mark that counts
left_or_marked-at : (mark : Held → Bool) (q : ℕ) (held : Held) → held.page ≡ q → left_or_marked mark q (Some held) ≡ true → mark held ≡ true
left_or_marked-at mark q held lies e = rw (le-ltb q held.page (omega arith), eq-eqb q held.page (sym lies)) at e

-- what a frame holds has a mark of its page
pub marked-at : (mark : Held → Bool) (q : ℕ) (held : Held) → is_marked mark q (Some held) ≡ true → mark held ≡ true
marked-at mark q held e =
    elim (eqb_tells q held.page) [
      | inl is ↦ rw is.0 at e
      | inr other ↦ let e' = rw other.0 at e in absurd cc
    ]

-- the page of what a frame holds
pub page-at : (T : Pages) (q : ℕ) (held : Held) → page_in (held_for q T) ≡ Some q → held_for q T ≡ Some held → held.page ≡ q
page-at T q held lies e = let lies' = rw e at lies in cc

-- the marks stay right where the flush of a page begins
pub IsFrames-flush_begun : (T : Pages) (q : ℕ) → IsFrames T → page_in (held_for q T) ≡ Some q → is_flushed q T ≡ false → IsFrames (flush_begun q T)
IsFrames-flush_begun T q is lies unflushed =
    IsFrames-changed T q (λ held. record held { in_flight = true }) is (λ held. refl)
    (λ held e.
    let marks = is.marks (q % length T.frames) held e in
    let flushed = unmarked-at (λ held. held.flushed) q held (page-at T q held lies e) (rw e at unflushed) in
    record {
      in_flight_unflushed = λ flies. flushed;
      cleaning_flushed = marks.cleaning_flushed;
      cleaning_unfreed = marks.cleaning_unfreed;
      freed_flushed = marks.freed_flushed;
    })

-- the marks stay right where the flush of a page ends
pub IsFrames-flush_ended : (T : Pages) (q : ℕ) (ok : Bool) → IsFrames T → is_in_flight q T ≡ true → IsFrames (flush_ended q ok T)
IsFrames-flush_ended T q ok is flies =
    IsFrames-changed T q (λ held. record held { in_flight = false; flushed = ok }) is (λ held. refl)
    (λ held e.
    let marks = is.marks (q % length T.frames) held e in
    let flushed : held.flushed ≡ false = marks.in_flight_unflushed (marked-at (λ held. held.in_flight) q held (rw e at flies)) in
    record {
      in_flight_unflushed = λ never. absurd cc;
      cleaning_flushed = λ cleans. let e = marks.cleaning_flushed cleans in absurd cc;
      cleaning_unfreed = marks.cleaning_unfreed;
      freed_flushed = λ freed. let e = marks.freed_flushed freed in absurd cc;
    })

-- the marks stay right where the cleaning of a page begins
pub IsFrames-clean_begun : (T : Pages) (q : ℕ) → IsFrames T → page_in (held_for q T) ≡ Some q → is_flushed q T ≡ true → is_freed q T ≡ false → IsFrames (clean_begun q T)
IsFrames-clean_begun T q is lies flushed unfreed =
    IsFrames-changed T q (λ held. record held { cleaning = true }) is (λ held. refl)
    (λ held e.
    let marks = is.marks (q % length T.frames) held e in
    let page = page-at T q held lies e in
    let marked = left_or_marked-at (λ held. held.flushed) q held page (rw e at flushed) in
    let unmarked = unmarked-at (λ held. held.freed) q held page (rw e at unfreed) in
    record {
      in_flight_unflushed = marks.in_flight_unflushed;
      cleaning_flushed = λ cleans. marked;
      cleaning_unfreed = λ cleans. unmarked;
      freed_flushed = marks.freed_flushed;
    })

-- the marks stay right where the cleaning of a page ends
pub IsFrames-clean_ended : (T : Pages) (q : ℕ) → IsFrames T → is_cleaning q T ≡ true → IsFrames (clean_ended q T)
IsFrames-clean_ended T q is cleans =
    IsFrames-changed T q (λ held. record held { cleaning = false; freed = true }) is (λ held. refl)
    (λ held e.
    let marks = is.marks (q % length T.frames) held e in
    let flushed = marks.cleaning_flushed (marked-at (λ held. held.cleaning) q held (rw e at cleans)) in
    record {
      in_flight_unflushed = marks.in_flight_unflushed;
      cleaning_flushed = λ never. absurd cc;
      cleaning_unfreed = λ never. absurd cc;
      freed_flushed = λ freed. flushed;
    })

-- pages below the flushed offset are flushed
pub closed-flushed : (T : Pages) (closed q : ℕ) → IsFrames T → closed ≤ flushed_offset T → q < pages_below closed T → (is_flushed q T ≡ true) × (q < T.entered)
closed-flushed T closed q is most below =
    let some : 0 < T.page_size = omega (arith, is.page_size_least) in
    let most_pages : pages_below closed T ≤ flushed_run T = div-le_of_le-mul T.page_size (rw (mul_comm T.page_size (flushed_run T)) most) in
    let run = run_within T in
    let entered : q < T.entered = omega arith in
    (rw (get_or-range_with_len, zero-add) at (prefix_len_passes (λ q. is_flushed q T) (range_with_len 0 T.entered) q 0 (omega arith)), entered)

-- where the next page is entered, all frames stay frames
pub IsFrames-entered : (T : Pages) (q : ℕ) → IsFrames T → q ≡ T.entered → q < 2 ^ 48 / T.page_size → IsFrames (entered q T)
IsFrames-entered T q is next space =
    let F : ℕ = length T.frames in
    let place : ℕ = q % F in
    let there : place < F = within T q is in
    let frames : List (Option Held) = set T.frames place (Some (unmarked q)) in
    let count : length frames ≡ F = length-set T.frames place (Some (unmarked q)) in
    let here : get_or frames place None ≡ Some (unmarked q) = get_or-set_same T.frames place (Some (unmarked q)) None there in
    let some : 0 < T.page_size = omega (arith, is.page_size_least) in
    let below : place ≤ q = mod-le q F in
    let room : q + 1 ≤ 2 ^ 48 / T.page_size = omega arith in
    record {
      page_size_least = is.page_size_least;
      page_size_most = is.page_size_most;
      frames_least = rw count is.frames_least;
      frames_most = rw count is.frames_most;
      within_space = (le-div_iff_mul-le some).0 room;
      ends = is.ends;
      held = λ k recent old. rw count
          (elim (cases_eq k q) [
            | inl at ↦ rw (at, here) refl
            | inr other ↦
                let apart : k % F ≡ place → ⊥ = λ same. omega (arith, count, mod-apart k q F same (omega arith)) in
                rw (get_or-set_other T.frames place (k % F) (Some (unmarked q)) None apart) (is.held k (omega arith) (omega (arith, count)))
          ]);
      left = λ k before. rw count
          (elim (cases_eq (k % F) place) [
            | inl at ↦ rw (at, here) (omega (arith, count, is.frames_least))
            | inr other ↦
                let apart : k + F ≡ q → ⊥ = λ same. other (sym (add-mod_right k F) ∙ ap (λ n. n % F) same) in
                rw (get_or-set_other T.frames place (k % F) (Some (unmarked q)) None other) (is.left k (omega (arith, count)))
          ]);
      empty = λ f past.
          let other : f ≡ place → ⊥ = λ same. omega arith in
          get_or-set_other T.frames place f (Some (unmarked q)) None other ∙ is.empty f (omega arith);
      marks = λ f held e.
          elim (cases_eq f place) [
            | inl at ↦
                let is' : unmarked q ≡ held = cc (rw at at e, here) in
                rw (← is') (record { in_flight_unflushed = λ never. refl; cleaning_flushed = λ never. absurd cc; cleaning_unfreed = λ never. refl; freed_flushed = λ never. absurd cc })
            | inr other ↦ is.marks f held (sym (get_or-set_other T.frames place f (Some (unmarked q)) None other) ∙ e)
          ];
    }
