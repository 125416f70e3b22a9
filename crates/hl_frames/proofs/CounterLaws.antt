-- What each call makes of the counts of flushed and freed pages.
use Rattle.std.proofs.Common.{◌≡◌, ℕ, zero, suc, ◌+◌, ◌-◌, ◌%◌, ◌<◌, ◌≤◌, ◌⊎◌, Bool, true, false, cond, Some, None, List, length, refl, sym, ap, ◌∙◌, arith, inl, inr}
use Rattle.std.specs.List.{range_with_len}
use Rattle.std.proofs.lemmas.Bool.{cases_eq, cases_lt}
use Rattle.std.proofs.lemmas.List.FromFn.{length-range_with_len}
use Rattle.std.proofs.lemmas.List.Sums.{count_by-le-length}
use Rattle.std.proofs.Math.Nat.{mod-eq_of_lt, add-mod_right}
use Rattle.hl_model.specs.declared.frame.Held.{Held}
use Rattle.hl_frames.specs.Pages.{Pages, held_for, left_or_marked, is_flushed, is_in_flight, is_freed, is_cleaning, may_enter}
use Rattle.hl_frames.specs.Answers.{entered, flush_begun, flush_ended, clean_begun, clean_ended}
use Rattle.hl_frames.specs.IsFrames.{page_in, IsFrames}
use Rattle.hl_frames.specs.Kept.{count_flushed, AreCounts}
use Rattle.hl_frames.proofs.PageLaws.{marked-at}
use Rattle.hl_frames.proofs.MarkLaws.{lying, marked-lies, left_or_marked-own, changed-same, changed-left_or_marked, changed-own, flushed-begun, flushed-ended, flushed-ended_own, flies-unflushed, flushed-clean_begun, flushed-clean_ended, next-left_or_marked, entered-left_or_marked, flushed-entered}
use Rattle.hl_frames.proofs.CountLaws.{count-same, count-next, count-more}

-- what a page's frame holds, where the page is one of the last F or comes later, is an entered page, if any
held-entered : (T : Pages) (n q : ℕ) → IsFrames T → q < n → T.entered ≤ q + length T.frames → (held_for q T ≡ None) ⊎ ((p : ℕ) × ((p < T.entered) × (page_in (held_for q T) ≡ Some p)))
held-entered T zero q is less recent = absurd (omega arith)
held-entered T (suc n) q is less recent =
    let F : ℕ = length T.frames in
    elim (cases_lt q T.entered) [
      | inl below ↦ inr (q, (below, is.held q below recent))
      | inr past ↦
          elim (cases_lt q F) [
            | inl few ↦ inl (is.empty (q % F) (omega (arith, mod-eq_of_lt few)))
            | inr many ↦
                let before : ℕ = q - F in
                let again : before + F ≡ q = omega arith in
                let place : q % F ≡ before % F = ap (λ k. k % F) (sym again) ∙ add-mod_right before F in
                rw place (held-entered T n before is (omega (arith, is.frames_least)) (omega arith))
          ]
    ]

-- so a page that lies in its frame was entered
lies-entered : (T : Pages) (q : ℕ) → IsFrames T → page_in (held_for q T) ≡ Some q → q < T.entered
lies-entered T q is lies =
    elim (cases_lt q T.entered) [
      | inl below ↦ below
      | inr past ↦
          elim (held-entered T (q + 1) q is (omega arith) (omega arith)) [
            | inl none ↦ let e = rw none at lies in absurd cc
            | inr some ↦ let e : some.0 ≡ q = (let f = sym some.1.1 ∙ lies in cc) in absurd (omega (arith, some.1.0))
          ]
    ]

-- a page that is being cleaned isn't freed
cleans-unfreed : (T : Pages) (q : ℕ) → IsFrames T → is_cleaning q T ≡ true → is_freed q T ≡ false
cleans-unfreed T q is cleans =
    let at = lying q (held_for q T) (marked-lies (λ held. held.cleaning) q (held_for q T) cleans) in
    let marks = is.marks (q % length T.frames) at.0 at.1.0 in
    let cleaning : at.0.cleaning ≡ true = marked-at (λ held. held.cleaning) q at.0 (rw at.1.0 at cleans) in
    rw at.1.0 (left_or_marked-own (λ held. held.freed) q at.0 at.1.1 ∙ marks.cleaning_unfreed cleaning)

-- no more pages are flushed or freed than were entered
pub counts-fit : (T : Pages) (flushed freed : ℕ) → AreCounts T flushed freed → (flushed ≤ T.entered) × (freed ≤ T.entered)
counts-fit T flushed freed counts =
    let pages : List ℕ = range_with_len 0 T.entered in
    let all : length pages ≡ T.entered = length-range_with_len 0 T.entered in
    (omega (arith, counts.of_flushed, count_by-le-length (λ q. is_flushed q T) pages), omega (arith, counts.of_freed, count_by-le-length (λ q. is_freed q T) pages))

-- where no page is flushed or freed anew, the counts stay
counts-same : (T T' : Pages) (flushed freed : ℕ) → T'.entered ≡ T.entered → ((k : ℕ) → is_flushed k T' ≡ is_flushed k T) → ((k : ℕ) → is_freed k T' ≡ is_freed k T) → AreCounts T flushed freed → AreCounts T' flushed freed
counts-same T T' flushed freed entered flushes frees counts = record {
  of_flushed = counts.of_flushed ∙ sym (rw entered (count-same (λ k. is_flushed k T) (λ k. is_flushed k T') T.entered flushes));
  of_freed = counts.of_freed ∙ sym (rw entered (count-same (λ k. is_freed k T) (λ k. is_freed k T') T.entered frees));
}

-- a page that is entered is neither flushed nor freed
pub counts-entered : (T : Pages) (q flushed freed : ℕ) → IsFrames T → q ≡ T.entered → may_enter q T ≡ true → AreCounts T flushed freed → AreCounts (entered q T) flushed freed
counts-entered T q flushed freed is next may counts =
    let free : may_enter T.entered T ≡ true = rw (← next) may in
    record {
      of_flushed = counts.of_flushed ∙ sym (count-next (λ k. is_flushed k T) (λ k. is_flushed k (entered q T)) T.entered (q + 1) (omega arith) (λ k. rw next (flushed-entered T k is free)) (next-left_or_marked (λ held. held.flushed) T is));
      of_freed = counts.of_freed ∙ sym (count-next (λ k. is_freed k T) (λ k. is_freed k (entered q T)) T.entered (q + 1) (omega arith) (λ k. rw next (entered-left_or_marked (λ held. held.freed) T k is free (λ held marks freed. freed) refl)) (next-left_or_marked (λ held. held.freed) T is));
    }

pub counts-begun : (T : Pages) (q flushed freed : ℕ) → IsFrames T → AreCounts T flushed freed → AreCounts (flush_begun q T) flushed freed
counts-begun T q flushed freed is counts =
    counts-same T (flush_begun q T) flushed freed refl (λ k. flushed-begun T q k is)
    (λ k. changed-same (left_or_marked (λ held. held.freed) k) T q k (λ held. record held { in_flight = true }) is (λ held e. refl)) counts

-- a flush that ended well makes one page more flushed
pub counts-ended : (T : Pages) (q : ℕ) (ok : Bool) (flushed more freed : ℕ) → IsFrames T → is_in_flight q T ≡ true → more ≡ cond ok 1 0 → AreCounts T flushed freed → AreCounts (flush_ended q ok T) (flushed + more) freed
counts-ended T q ok flushed more freed is flies one counts = record {
  of_flushed = ap (λ n. flushed + n) one ∙ by_end ok;
  of_freed = counts.of_freed ∙ sym (count-same (λ k. is_freed k T) (λ k. is_freed k (flush_ended q ok T)) T.entered (λ k. changed-same (left_or_marked (λ held. held.freed) k) T q k (λ held. record held { in_flight = false; flushed = ok }) is (λ held e. refl)));
}
  where
    failed : (k : ℕ) → is_flushed k (flush_ended q false T) ≡ is_flushed k T
    failed k = elim (cases_eq k q) [
      | inl at ↦ rw at (flushed-ended_own T q false is flies ∙ sym (flies-unflushed T q is flies))
      | inr other ↦ flushed-ended T q k false is flies other
    ]

    by_end : (good : Bool) → flushed + cond good 1 0 ≡ count_flushed (flush_ended q good T)
    by_end true =
        ap (λ n. n + 1) counts.of_flushed
        ∙ sym (count-more (λ k. is_flushed k T) (λ k. is_flushed k (flush_ended q true T)) q T.entered (lies-entered T q is (marked-lies (λ held. held.in_flight) q (held_for q T) flies)) (λ k other. flushed-ended T q k true is flies other) (flies-unflushed T q is flies) (flushed-ended_own T q true is flies))
    by_end false =
        let same = count-same (λ k. is_flushed k T) (λ k. is_flushed k (flush_ended q false T)) T.entered failed in
        omega (arith, counts.of_flushed, same)

pub counts-clean_begun : (T : Pages) (q flushed freed : ℕ) → IsFrames T → AreCounts T flushed freed → AreCounts (clean_begun q T) flushed freed
counts-clean_begun T q flushed freed is counts =
    counts-same T (clean_begun q T) flushed freed refl (λ k. flushed-clean_begun T q k is)
    (λ k. changed-same (left_or_marked (λ held. held.freed) k) T q k (λ held. record held { cleaning = true }) is (λ held e. refl)) counts

-- a cleaning that ended makes one page more freed
pub counts-clean_ended : (T : Pages) (q flushed freed : ℕ) → IsFrames T → is_cleaning q T ≡ true → AreCounts T flushed freed → AreCounts (clean_ended q T) flushed (freed + 1)
counts-clean_ended T q flushed freed is cleans counts =
    let change : Held → Held = λ held. record held { cleaning = false; freed = true } in
    let lies : page_in (held_for q T) ≡ Some q = marked-lies (λ held. held.cleaning) q (held_for q T) cleans in
    let at = lying q (held_for q T) lies in
    record {
      of_flushed = counts.of_flushed ∙ sym (count-same (λ k. is_flushed k T) (λ k. is_flushed k (clean_ended q T)) T.entered (λ k. flushed-clean_ended T q k is));
      of_freed =
          ap (λ n. n + 1) counts.of_freed
          ∙ sym (count-more (λ k. is_freed k T) (λ k. is_freed k (clean_ended q T)) q T.entered (lies-entered T q is lies) (λ k other. changed-left_or_marked (λ held. held.freed) T q k change is (λ held. refl) lies other) (cleans-unfreed T q is cleans) (changed-own (λ held. held.freed) T q change at.0 is (λ held. refl) at.1.1 at.1.0));
    }
