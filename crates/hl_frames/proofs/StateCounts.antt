-- How many frames are open, sealed, flushed, closed and free. A page that was entered and isn't freed lies in
-- a frame of its own. Freed pages are closed, closed ones flushed, flushed ones sealed and sealed ones entered,
-- so that the frames at a state are as many as the pages that came so far and no further.
use Rattle.std.proofs.Common.{◌≡◌, ℕ, ◌+◌, ◌-◌, ◌<◌, ◌≤◌, Bool, true, false, cond, ltb, not, min, Option, Some, None, length, get_or, refl, sym, ap, ◌∙◌, arith, inl, inr, zero-add}
use Rattle.std.specs.List.{range_with_len, sum_by, count_by}
use Rattle.std.proofs.lemmas.Bool.{cases_lt, lt-ltb, le-ltb}
use Rattle.std.proofs.Math.Nat.{mod-eq_of_lt}
use Rattle.std.proofs.lemmas.List.FromFn.{length-map-range_with_len}
use Rattle.hl_model.specs.declared.frame.FrameState.{FrameState}
use Rattle.hl_model.specs.declared.frame.FrameState.TheVariants.{Opened, Sealed, Flushed, Closed, Free}
use Rattle.hl_model.specs.declared.frame.Held.{Held}
use Rattle.hl_model.specs.Snapshots.{is_opened, is_at_sealed, is_at_flushed, is_at_closed, is_free}
use Rattle.hl_frames.specs.Pages.{Pages, held_for, left_or_marked, is_flushed, is_freed, pages_below, flushed_offset}
use Rattle.hl_frames.specs.Answers.{state_in, states}
use Rattle.hl_frames.specs.IsFrames.{IsFrames}
use Rattle.hl_frames.specs.Kept.{count_flushed, count_freed}
use Rattle.hl_frames.proofs.PageLaws.{left-flushed, left-freed, closed-flushed}
use Rattle.hl_frames.proofs.MarkLaws.{lying, left_or_marked-own}
use Rattle.hl_frames.proofs.CountLaws.{one_if, sum-split, sum-same, sum-plus, sum-none, sum-ones, sum-window, count-below, count-map, count-not}

-- the state that four tests of a page tell
abbrev state_by : Bool → Bool → Bool → Bool → FrameState
state_by freed closed flushed sealed =
    cond freed Free (cond closed Closed (cond flushed Flushed (cond sealed Sealed Opened)))

-- each state is where one test is passed and the one before isn't
record IsBetween (freed closed flushed sealed : Bool) : Type 0 where
  opened : one_if (is_opened (state_by freed closed flushed sealed)) + one_if sealed ≡ 1
  at_sealed : one_if (is_at_sealed (state_by freed closed flushed sealed)) + one_if flushed ≡ one_if sealed
  at_flushed : one_if (is_at_flushed (state_by freed closed flushed sealed)) + one_if closed ≡ one_if flushed
  at_closed : one_if (is_at_closed (state_by freed closed flushed sealed)) + one_if freed ≡ one_if closed
  used : one_if (not (is_free (state_by freed closed flushed sealed))) + one_if freed ≡ 1

between : (freed closed flushed sealed : Bool) → (freed ≡ true → closed ≡ true) → (closed ≡ true → flushed ≡ true) → (flushed ≡ true → sealed ≡ true) → IsBetween freed closed flushed sealed
between true closed flushed sealed a b c =
    rw (a refl, b (a refl), c (b (a refl))) (record { opened = refl; at_sealed = refl; at_flushed = refl; at_closed = refl; used = refl })
between false true flushed sealed a b c =
    rw (b refl, c (b refl)) (record { opened = refl; at_sealed = refl; at_flushed = refl; at_closed = refl; used = refl })
between false false true sealed a b c =
    rw (c refl) (record { opened = refl; at_sealed = refl; at_flushed = refl; at_closed = refl; used = refl })
between false false false true a b c = record { opened = refl; at_sealed = refl; at_flushed = refl; at_closed = refl; used = refl }
between false false false false a b c = record { opened = refl; at_sealed = refl; at_flushed = refl; at_closed = refl; used = refl }

state_by-is : (freed closed flushed sealed : Bool) (p : ℕ) → (cond {A = FrameState × Option ℕ} freed (Free, None) (cond closed (Closed, Some p) (cond flushed (Flushed, Some p) (cond sealed (Sealed, Some p) (Opened, Some p))))).0 ≡ state_by freed closed flushed sealed
state_by-is true closed flushed sealed p = refl
state_by-is false true flushed sealed p = refl
state_by-is false false true sealed p = refl
state_by-is false false false true p = refl
state_by-is false false false false p = refl

-- a page's frame, which holds it, is at the state that the tests of the page tell
state_in-is : (q sealed closed : ℕ) (o : Option Held) (held : Held) → o ≡ Some held → held.page ≡ q → (state_in sealed closed o).0 ≡ state_by (left_or_marked (λ held. held.freed) q o) (ltb q closed) (left_or_marked (λ held. held.flushed) q o) (ltb q sealed)
state_in-is q sealed closed o held e lies =
    rw (e, ← lies, left_or_marked-own (λ held. held.freed) held.page held refl, left_or_marked-own (λ held. held.flushed) held.page held refl)
    (state_by-is held.freed (ltb held.page closed) held.flushed (ltb held.page sealed) held.page)

module _ (T : Pages) (is : IsFrames T) where
  -- what is told of each frame, nothing of an empty one, adds up as for each page that lies in its frame
  frames-pages : (g : Option Held → ℕ) → g None ≡ 0 → sum_by (λ f. g (get_or T.frames f None)) (range_with_len 0 (length T.frames)) ≡ sum_by (λ q. g (held_for q T)) (range_with_len (T.entered - length T.frames) (min T.entered (length T.frames)))
  frames-pages g nothing =
      let F : ℕ = length T.frames in
      let E : ℕ = T.entered in
      let at = λ (f : ℕ). g (get_or T.frames f None) in
      let of = λ (q : ℕ). g (held_for q T) in
      elim (cases_lt E F) [
        | inl few ↦
            let count : min E F ≡ E = omega arith in
            let from : E - F ≡ 0 = omega arith in
            let first = sum-same at of 0 E (λ k low below. ap at (sym (mod-eq_of_lt {n = k} {m = F} (omega arith)))) in
            let rest = sum-none at (0 + E) (F - E) (λ k low below. ap g (is.empty k (omega arith)) ∙ nothing) in
            rw (count, from) (omega (arith, sum-split at 0 E (F - E) F (omega arith), first, rest))
        | inr many ↦
            let count : min E F ≡ F = omega arith in
            rw count (sym (sum-window at F (E - F)))
      ]

  -- pages that pass: those that left their frames, which all do, and others
  pages-split : (p : ℕ → Bool) → ((q : ℕ) → q < T.entered - length T.frames → p q ≡ true) → count_by p (range_with_len 0 T.entered) ≡ (T.entered - length T.frames) + count_by p (range_with_len (T.entered - length T.frames) (min T.entered (length T.frames)))
  pages-split p left =
      let L : ℕ = T.entered - length T.frames in
      let n : ℕ = min T.entered (length T.frames) in
      let f = λ (q : ℕ). one_if (p q) in
      let before = sum-ones f 0 L (λ k low below. ap one_if (left k (omega arith))) in
      omega (arith, sum-split f 0 L n T.entered (omega arith), before, ap (λ a. sum_by f (range_with_len a n)) (zero-add L))

-- where the frames of each state are counted by pages
pub record AreApart (T : Pages) (sro closed : ℕ) : Type 0 where
  pub opened : count_by is_opened (states sro closed T) + pages_below sro T ≡ T.entered
  pub at_sealed : count_by is_at_sealed (states sro closed T) + count_flushed T ≡ pages_below sro T
  pub at_flushed : count_by is_at_flushed (states sro closed T) + pages_below closed T ≡ count_flushed T
  pub at_closed : count_by is_at_closed (states sro closed T) + count_freed T ≡ pages_below closed T
  pub free : count_by is_free (states sro closed T) + T.entered ≡ length T.frames + count_freed T

module _ (T : Pages) (sro closed : ℕ) (is : IsFrames T) (sealed_entered : pages_below sro T ≤ T.entered) (closed_flushed : closed ≤ flushed_offset T) (flushed_sealed : (q : ℕ) → is_flushed q T ≡ true → q < pages_below sro T) (freed_closed : (q : ℕ) → is_freed q T ≡ true → q < pages_below closed T) where
  -- a page that is less than another passes the test that it is
  below : (q n : ℕ) → ltb q n ≡ true → q < n
  below q n passes = elim (cases_lt q n) [ inl less ↦ less | inr most ↦ let e = le-ltb q n most in absurd cc ]

  -- a page that lies in its frame is at the state that the tests of the page tell
  state-is : (q : ℕ) → q < T.entered → T.entered ≤ q + length T.frames → (state_in (pages_below sro T) (pages_below closed T) (held_for q T)).0 ≡ state_by (is_freed q T) (ltb q (pages_below closed T)) (is_flushed q T) (ltb q (pages_below sro T))
  state-is q entered recent =
      let at = lying q (held_for q T) (is.held q entered recent) in
      state_in-is q (pages_below sro T) (pages_below closed T) (held_for q T) at.0 at.1.0 at.1.1

  tests : (q : ℕ) → IsBetween (is_freed q T) (ltb q (pages_below closed T)) (is_flushed q T) (ltb q (pages_below sro T))
  tests q =
      between (is_freed q T) (ltb q (pages_below closed T)) (is_flushed q T) (ltb q (pages_below sro T))
      (λ freed. lt-ltb q (pages_below closed T) (freed_closed q freed))
      (λ low. (closed-flushed T closed q is closed_flushed (below q (pages_below closed T) low)).0)
      (λ flushed. lt-ltb q (pages_below sro T) (flushed_sealed q flushed))

  -- the first page that lies in its frame, and how many do
  abbrev first : ℕ
  first = T.entered - length T.frames

  abbrev many : ℕ
  many = min T.entered (length T.frames)

  -- a test of each frame's state adds up as that of each page that lies in its frame
  at-pages : (test : FrameState → Bool) → test Free ≡ false → count_by test (states sro closed T) ≡ sum_by (λ q. one_if (test (state_in (pages_below sro T) (pages_below closed T) (held_for q T)).0)) (range_with_len first many)
  unfolding states
  at-pages test fails =
      count-map test (λ f. (state_in (pages_below sro T) (pages_below closed T) (get_or T.frames f None)).0) (range_with_len 0 (length T.frames))
      ∙ frames-pages T is (λ o. one_if (test (state_in (pages_below sro T) (pages_below closed T) o).0)) (ap one_if fails)

  -- so with a test more that adds up to a third
  with-test : (test : FrameState → Bool) (p r : ℕ → Bool) → test Free ≡ false → ((q : ℕ) → one_if (test (state_by (is_freed q T) (ltb q (pages_below closed T)) (is_flushed q T) (ltb q (pages_below sro T)))) + one_if (p q) ≡ one_if (r q)) → count_by test (states sro closed T) + count_by p (range_with_len first many) ≡ count_by r (range_with_len first many)
  with-test test p r fails both =
      let at = λ (q : ℕ). one_if (test (state_in (pages_below sro T) (pages_below closed T) (held_for q T)).0) in
      rw (at-pages test fails)
      (sum-plus at (λ q. one_if (p q)) (λ q. one_if (r q)) first many
      (λ q from before. ap (λ s. one_if (test s) + one_if (p q)) (state-is q (omega arith) (omega arith)) ∙ both q))

  -- tests that are passed by each page that left its frame
  counted : (p : ℕ → Bool) → ((q : ℕ) → q < first → p q ≡ true) → count_by p (range_with_len 0 T.entered) ≡ first + count_by p (range_with_len first many)
  counted p left = pages-split T is p left

  closed_entered : pages_below closed T ≤ T.entered
  closed_entered = elim (cases_lt T.entered (pages_below closed T)) [
    | inl less ↦ let e = (closed-flushed T closed T.entered is closed_flushed less).1 in absurd (omega arith)
    | inr most ↦ most
  ]

  -- each frame is at one state
  each-counted : count_by is_free (states sro closed T) + count_by (λ s. not (is_free s)) (states sro closed T) ≡ length T.frames
  unfolding states
  each-counted =
      count-not is_free (states sro closed T) ∙ length-map-range_with_len (λ f. (state_in (pages_below sro T) (pages_below closed T) (get_or T.frames f None)).0) 0 (length T.frames)

  pub apart : AreApart T sro closed
  apart =
      let S : ℕ = pages_below sro T in
      let C : ℕ = pages_below closed T in
      let flushed = λ (q : ℕ). is_flushed q T in
      let freed = λ (q : ℕ). is_freed q T in
      let low = λ (q : ℕ). ltb q S in
      let shut = λ (q : ℕ). ltb q C in
      let all = λ (q : ℕ). true in
      let of_freed = counted freed (λ q before. left-freed T q is before) in
      let of_flushed = counted flushed (λ q before. left-flushed T q is before) in
      let of_shut = counted shut (λ q before. lt-ltb q C (freed_closed q (left-freed T q is before))) in
      let of_low = counted low (λ q before. lt-ltb q S (flushed_sealed q (left-flushed T q is before))) in
      let of_all = sum-ones (λ q. one_if (all q)) first many (λ q from before. refl) in
      let lows = count-below S T.entered sealed_entered in
      let shuts = count-below C T.entered closed_entered in
      record {
        opened = omega (arith, with-test is_opened low all refl (λ q. (tests q).opened), of_low, of_all, lows);
        at_sealed = omega (arith, with-test is_at_sealed flushed low refl (λ q. (tests q).at_sealed), of_low, of_flushed, lows);
        at_flushed = omega (arith, with-test is_at_flushed shut flushed refl (λ q. (tests q).at_flushed), of_shut, of_flushed, shuts);
        at_closed = omega (arith, with-test is_at_closed freed shut refl (λ q. (tests q).at_closed), of_shut, of_freed, shuts);
        free = omega (arith, with-test (λ s. not (is_free s)) freed all refl (λ q. (tests q).used), each-counted, of_freed, of_all);
      }
