-- What the stored pages tell, and how calls move them.
use Rattle.std.proofs.Common.{◌≡◌, ℕ, ◌+◌, ◌-◌, ◌*◌, ◌%◌, ◌^◌, ◌<◌, ◌≤◌, Bool, true, false, not, ◌||◌, min, Option, Some, None, List, find, ap, length, get_or, set, zero-add, refl, sym, ◌∙◌, arith, inl, inr}
use Rattle.std.specs.List.{range_with_len}
use Rattle.std.specs.Bool.{then_some}
use Rattle.std.specs.Option.{option_map}
use Rattle.std.proofs.lemmas.List.{get_or_read}
use Rattle.std.proofs.Math.Dec.{leb}
use Rattle.std.proofs.lemmas.Bool.{cases_eq, cases_lt, le-leb, le-ltb, lt-leb}
use Rattle.std.proofs.lemmas.List.FromFn.{length-range_with_len, get_or-range_with_len}
use Rattle.std.proofs.lemmas.List.Sums.{prefix_len_passes, prefix_len_stops}
use Rattle.std.proofs.Math.Nat.{add-mod_right, min-eq_left, min-eq_right, mul-le-mul_left, mul-le-mul_right}
use Rattle.hl_model.proofs.SearchLaws.{find-first, find-missing, prefix_len-first}
use Rattle.hl_frames.specs.Pages.{Pages, held_for, left_or_marked, is_flushed, is_in_flight, is_cleaning, is_unflushed, is_uncleaned, may_enter, pages_below, flushed_run}
use Rattle.hl_frames.specs.IsFrames.{page_in, IsFrames}
use Rattle.hl_model.specs.declared.frame.Held.{Held}
use Rattle.hl_frames.specs.Answers.{changed, entered, flush_begun, flush_ended, clean_begun, clean_ended}
use Rattle.hl_frames.specs.declared.placed.Placed.{Placed}
use Rattle.hl_frames.specs.Row.{HasFrame}
use Rattle.hl_frames.specs.Kept.{IsLeast, IsFirst, AreStored}
use Rattle.hl_frames.proofs.PageLaws.{run_within, left-flushed, IsFrames-flush_begun, IsFrames-clean_ended}
use Rattle.hl_frames.proofs.MarkLaws.{next-left_or_marked, flushed-begun, unflushed-begun, unflushed-begun_own, uncleaned-begun, unflushed-ended, unflushed-ended_ok, unflushed-ended_failed, uncleaned-ended, uncleaned-clean_begun, uncleaned-clean_begun_own, flushed-clean_begun, unflushed-clean_begun, uncleaned-clean_ended, flushed-entered, unflushed-entered, uncleaned-entered, flushed-clean_ended, unflushed-clean_ended}

-- where the same pages wait, the least of them stays
least-same : (waits waits' : ℕ → Bool) (q : ℕ) → ((k : ℕ) → waits' k ≡ waits k) → IsLeast waits q → IsLeast waits' q
least-same waits waits' q same least = record {
  before = λ k below. same k ∙ least.before k below;
  here = same q ∙ least.here;
}

first-same : (waits waits' : ℕ → Bool) (q : ℕ) → ((k : ℕ) → waits' k ≡ waits k) → IsFirst waits q → IsFirst waits' q
first-same waits waits' q same first = record {
  before = λ k below. same k ∙ first.before k below;
  behind = λ k from. same k ∙ first.behind k from;
}

pub first-least : (waits : ℕ → Bool) (q : ℕ) → IsFirst waits q → IsLeast waits q
first-least waits q first = record { before = first.before; here = first.behind q (omega arith) }

-- where page p waits again, the lesser of it and the least is the least
least-lower : (waits waits' : ℕ → Bool) (q p : ℕ) → IsLeast waits q → ((k : ℕ) → (k ≡ p → ⊥) → waits' k ≡ waits k) → waits' p ≡ true → IsLeast waits' (min q p)
least-lower waits waits' q p least same again =
    elim (cases_lt p q) [
      | inl below ↦
          let is : min q p ≡ p = min-eq_right (omega arith) in
          rw is
          (record {
            before = λ k less. same k (λ at. omega arith) ∙ least.before k (omega arith);
            here = again;
          })
      | inr above ↦
          let is : min q p ≡ q = min-eq_left above in
          rw is
          (record {
            before = λ k less. same k (λ at. omega arith) ∙ least.before k less;
            here = elim (cases_eq q p) [
              | inl at ↦ rw at again
              | inr other ↦ same q other ∙ least.here
            ];
          })
    ]

-- where the least waits no longer, the next that waits is the least
least-next : (waits waits' : ℕ → Bool) (q r : ℕ) → IsLeast waits q → ((k : ℕ) → (k ≡ q → ⊥) → waits' k ≡ waits k) → waits' q ≡ false → ((k : ℕ) → q + 1 ≤ k → k < r → waits' k ≡ false) → waits' r ≡ true → IsLeast waits' r
least-next waits waits' q r least same taken between next = record {
  before = λ k below.
      elim (cases_lt k q) [
        | inl less ↦ same k (λ at. omega arith) ∙ least.before k less
        | inr from ↦
            elim (cases_eq k q) [
              | inl at ↦ rw at taken
              | inr other ↦ between k (omega arith) below
            ]
      ];
  here = next;
}

first-next : (waits waits' : ℕ → Bool) (q : ℕ) → IsFirst waits q → ((k : ℕ) → (k ≡ q → ⊥) → waits' k ≡ waits k) → waits' q ≡ false → IsFirst waits' (q + 1)
first-next waits waits' q first same taken = record {
  before = λ k below.
      elim (cases_eq k q) [
        | inl at ↦ rw at taken
        | inr other ↦ same k other ∙ first.before k (omega arith)
      ];
  behind = λ k from. same k (λ at. omega arith) ∙ first.behind k (omega arith);
}

-- the least that waits is at or below each that does
pub least-below : (waits : ℕ → Bool) (q n : ℕ) → waits n ≡ true → IsLeast waits q → q ≤ n
least-below waits q n passes least =
    elim (cases_lt n q) [
      | inl less ↦ let e = least.before n less in absurd cc
      | inr most ↦ most
    ]

-- the least that waits is found, where its page ends at or below the offset
pub least-found : (T : Pages) (waits : ℕ → Bool) (q offset : ℕ) → IsFrames T → IsLeast waits q → then_some (leb ((q + 1) * T.page_size) offset) q ≡ find waits (range_with_len 0 (pages_below offset T))
least-found T waits q offset is least =
    elim (cases_lt q (pages_below offset T)) [
      | inl below ↦
          rw (le-leb ((q + 1) * T.page_size) offset ((is.ends q offset).0 below))
          (sym (find-first waits 0 (pages_below offset T) q (λ k from less. least.before k less) (omega arith) (omega arith) least.here))
      | inr past ↦
          let ends : offset < (q + 1) * T.page_size = elim (cases_lt offset ((q + 1) * T.page_size)) [
            | inl less ↦ less
            | inr most ↦ let e = (is.ends q offset).1 most in absurd (omega arith)
          ] in
          rw (lt-leb ((q + 1) * T.page_size) offset ends)
          (sym (find-missing waits 0 (pages_below offset T) (λ k from less. least.before k (omega arith))))
    ]

-- the end of a page at or below the next one is an address
pub end_fits : (T : Pages) (q : ℕ) → IsFrames T → q ≤ T.entered → (q + 1) * T.page_size ≤ 2 ^ 48 + 2 ^ 20
end_fits T q is most = omega (arith, mul-le-mul_right T.page_size most, is.within_space, is.page_size_most)

-- and so is its number
pub number_fits : (T : Pages) (q : ℕ) → IsFrames T → q ≤ T.entered → q + 1 ≤ 2 ^ 48 + 2 ^ 20
number_fits T q is most = omega (arith, end_fits T q is most, mul-le-mul_left (q + 1) is.page_size_least)

-- the flushed run is of flushed pages
run-flushed : (T : Pages) (q : ℕ) → q < flushed_run T → is_flushed q T ≡ true
run-flushed T q below =
    let entered : q < T.entered = omega (arith, run_within T) in
    rw (get_or-range_with_len, zero-add) at (prefix_len_passes (λ k. is_flushed k T) (range_with_len 0 T.entered) q 0 below)

-- where it stops, the page isn't flushed
run-stops : (T : Pages) → IsFrames T → is_flushed (flushed_run T) T ≡ false
run-stops T is =
    elim (cases_lt (flushed_run T) T.entered) [
      | inl below ↦
          let count : length (range_with_len 0 T.entered) ≡ T.entered = length-range_with_len 0 T.entered in
          rw (get_or-range_with_len, zero-add) at (prefix_len_stops (λ k. is_flushed k T) (range_with_len 0 T.entered) 0 (omega (arith, count)))
      | inr most ↦
          let at : flushed_run T ≡ T.entered = omega (arith, run_within T) in
          rw at (next-left_or_marked (λ held. held.flushed) T is)
    ]

-- it is so many pages, where these are flushed and the next isn't
run-is : (T : Pages) (r : ℕ) → IsFrames T → ((q : ℕ) → q < r → is_flushed q T ≡ true) → is_flushed r T ≡ false → r ≡ flushed_run T
run-is T r is flushed stops =
    let most : r ≤ T.entered = elim (cases_lt T.entered r) [
      | inl less ↦ let e = flushed T.entered less in let f = next-left_or_marked (λ held. held.flushed) T is in absurd cc
      | inr most ↦ most
    ] in
    omega (arith, prefix_len-first (λ k. is_flushed k T) 0 T.entered r (λ q from below. flushed q below) (omega arith) (omega arith) (λ below. stops))

-- where the same pages are flushed, it stays
run-same : (T T' : Pages) → IsFrames T → IsFrames T' → ((q : ℕ) → is_flushed q T' ≡ is_flushed q T) → flushed_run T ≡ flushed_run T'
run-same T T' is is' same = run-is T' (flushed_run T) is' (λ q below. same q ∙ run-flushed T q below) (same (flushed_run T) ∙ run-stops T is)

-- it is at most F pages below those entered
pub run-recent : (T : Pages) → IsFrames T → T.entered ≤ flushed_run T + length T.frames
run-recent T is =
    elim (cases_lt (flushed_run T + length T.frames) T.entered) [
      | inl before ↦ let e = left-flushed T (flushed_run T) is (omega arith) in let f = run-stops T is in absurd cc
      | inr recent ↦ recent
    ]

-- what is read at a page's frame is what the frame holds
pub held-read : (T : Pages) (q place : ℕ) (o : Option Held) → place ≡ q % length T.frames → place < length T.frames → o ≡ get_or T.frames place o → o ≡ held_for q T
held-read T q place o placed there was = get_or_read T.frames place o there was None ∙ rw placed refl

-- a page's frame is free where no page was entered in it or the one before is freed, told what the frame holds
pub may_enter-read : (T : Pages) (q place : ℕ) (o : Option Held) → place ≡ q % length T.frames → place < length T.frames → o ≡ get_or T.frames place o → length T.frames ≤ q → left_or_marked (λ held. held.freed) (q - length T.frames) o ≡ may_enter q T
may_enter-read T q place o placed there was past =
    let F : ℕ = length T.frames in
    let at : q - F + F ≡ q = omega arith in
    let same : place ≡ (q - F) % F = placed ∙ ap (λ n. n % F) (sym at) ∙ add-mod_right (q - F) F in
    rw (le-ltb q F past, held-read T (q - F) place o same there was) refl

-- a row in which a frame is changed
pub row-changed : (T : Pages) (q place : ℕ) (o v : Option Held) (change : Held → Held) → place ≡ q % length T.frames → place < length T.frames → o ≡ get_or T.frames place o → v ≡ option_map change o → set T.frames place v ≡ (changed q change T).frames
row-changed T q place o v change placed there was is =
    let held : o ≡ held_for q T = held-read T q place o placed there was in
    rw (is, held, placed) refl

-- the frames that are kept are the pages', also in another row of as many
pub still-placed : (at : Placed) (frames frames' : List (Option Held)) → HasFrame at frames → length frames' ≡ length frames → HasFrame at frames'
still-placed at frames frames' placed same = placed ∙ ap (λ n. at.page % n) (sym same)

then_some-is : (b : Bool) (least q : ℕ) → then_some b least ≡ Some q → least ≡ q
then_some-is true least q e = cc
then_some-is false least q e = absurd cc

not-or-first : (a b : Bool) → not (a || b) ≡ true → a ≡ false
not-or-first true b e = absurd cc
not-or-first false b e = refl

-- the run that a walk found, from where it was
pub run-walked : (T T' : Pages) (run r : ℕ) → IsFrames T' → run ≡ flushed_run T → ((q : ℕ) → is_flushed q T ≡ true → is_flushed q T' ≡ true) → ((q : ℕ) → run ≤ q → q < r → is_flushed q T' ≡ true) → (r < T'.entered → is_flushed r T' ≡ false) → r ≤ T'.entered → r ≡ flushed_run T'
run-walked T T' run r is' was keeps walked stops most =
    run-is T' r is'
    (λ q below. elim (cases_lt q run) [
      | inl before ↦ keeps q (run-flushed T q (omega arith))
      | inr from ↦ walked q from below
    ])
    (elim (cases_lt r T'.entered) [
      | inl below ↦ stops below
      | inr last ↦ let at : r ≡ T'.entered = omega arith in rw at (next-left_or_marked (λ held. held.flushed) T' is')
    ])

-- a page that is found is the least that waits
pub found-least : (T : Pages) (waits : ℕ → Bool) (least q offset : ℕ) → IsFrames T → IsLeast waits least → find waits (range_with_len 0 (pages_below offset T)) ≡ Some q → least ≡ q
found-least T waits least q offset is stored found = then_some-is (leb ((least + 1) * T.page_size) offset) least q (least-found T waits least offset is stored ∙ found)

-- the stored pages after each call
pub stored-entered : (T : Pages) (q run to_flush to_clean : ℕ) → IsFrames T → q ≡ T.entered → may_enter q T ≡ true → IsFrames (entered q T) → AreStored T run to_flush to_clean → AreStored (entered q T) run to_flush to_clean
stored-entered T q run to_flush to_clean is next may is' stored =
    let free : may_enter T.entered T ≡ true = rw (← next) may in
    record {
      flushed = stored.flushed ∙ run-same T (entered q T) is is' (λ k. rw next (flushed-entered T k is free));
      unflushed = least-same (is_unflushed T) (is_unflushed (entered q T)) to_flush (λ k. rw next (unflushed-entered T k is free)) stored.unflushed;
      uncleaned = first-same (is_uncleaned T) (is_uncleaned (entered q T)) to_clean (λ k. rw next (uncleaned-entered T k is free)) stored.uncleaned;
    }

pub stored-begun : (T : Pages) (run q next to_clean : ℕ) → IsFrames T → AreStored T run q to_clean → page_in (held_for q T) ≡ Some q → ((k : ℕ) → q + 1 ≤ k → k < next → is_unflushed (flush_begun q T) k ≡ false) → is_unflushed (flush_begun q T) next ≡ true → AreStored (flush_begun q T) run next to_clean
stored-begun T run q next to_clean is stored lies taken waits = record {
  flushed = stored.flushed ∙ run-same T (flush_begun q T) is (IsFrames-flush_begun T q is lies (not-or-first (is_flushed q T) (is_in_flight q T) stored.unflushed.here)) (λ k. flushed-begun T q k is);
  unflushed = least-next (is_unflushed T) (is_unflushed (flush_begun q T)) q next stored.unflushed (λ k other. unflushed-begun T q k is lies other) (unflushed-begun_own T q is lies) taken waits;
  uncleaned = first-same (is_uncleaned T) (is_uncleaned (flush_begun q T)) to_clean (λ k. uncleaned-begun T q k is) stored.uncleaned;
}

pub stored-ended_ok : (T : Pages) (q : ℕ) (ok : Bool) (run run' to_flush to_clean : ℕ) → IsFrames T → is_in_flight q T ≡ true → ok ≡ true → AreStored T run to_flush to_clean → run' ≡ flushed_run (flush_ended q ok T) → AreStored (flush_ended q ok T) run' to_flush to_clean
stored-ended_ok T q ok run run' to_flush to_clean is flies good stored moved =
    rw good
    (record {
      flushed = rw good at moved;
      unflushed = least-same (is_unflushed T) (is_unflushed (flush_ended q true T)) to_flush (λ k. unflushed-ended_ok T q k is flies) stored.unflushed;
      uncleaned = first-same (is_uncleaned T) (is_uncleaned (flush_ended q true T)) to_clean (λ k. uncleaned-ended T q k true is) stored.uncleaned;
    })

pub stored-ended_failed : (T : Pages) (q : ℕ) (ok : Bool) (run run' to_flush to_clean : ℕ) → IsFrames T → is_in_flight q T ≡ true → ok ≡ false → AreStored T run to_flush to_clean → run' ≡ flushed_run (flush_ended q ok T) → AreStored (flush_ended q ok T) run' (min to_flush q) to_clean
stored-ended_failed T q ok run run' to_flush to_clean is flies failed stored moved =
    rw failed
    (record {
      flushed = rw failed at moved;
      unflushed = least-lower (is_unflushed T) (is_unflushed (flush_ended q false T)) to_flush q stored.unflushed (λ k other. unflushed-ended T q k false is flies other) (unflushed-ended_failed T q is flies);
      uncleaned = first-same (is_uncleaned T) (is_uncleaned (flush_ended q false T)) to_clean (λ k. uncleaned-ended T q k false is) stored.uncleaned;
    })

pub stored-clean_begun : (T : Pages) (run to_flush q : ℕ) → IsFrames T → IsFrames (clean_begun q T) → AreStored T run to_flush q → page_in (held_for q T) ≡ Some q → AreStored (clean_begun q T) run to_flush (q + 1)
stored-clean_begun T run to_flush q is is' stored lies = record {
  flushed = stored.flushed ∙ run-same T (clean_begun q T) is is' (λ k. flushed-clean_begun T q k is);
  unflushed = least-same (is_unflushed T) (is_unflushed (clean_begun q T)) to_flush (λ k. unflushed-clean_begun T q k is) stored.unflushed;
  uncleaned = first-next (is_uncleaned T) (is_uncleaned (clean_begun q T)) q stored.uncleaned (λ k other. uncleaned-clean_begun T q k is lies other) (uncleaned-clean_begun_own T q is lies);
}

pub stored-clean_ended : (T : Pages) (q run to_flush to_clean : ℕ) → IsFrames T → is_cleaning q T ≡ true → AreStored T run to_flush to_clean → AreStored (clean_ended q T) run to_flush to_clean
stored-clean_ended T q run to_flush to_clean is cleans stored = record {
  flushed = stored.flushed ∙ run-same T (clean_ended q T) is (IsFrames-clean_ended T q is cleans) (λ k. flushed-clean_ended T q k is);
  unflushed = least-same (is_unflushed T) (is_unflushed (clean_ended q T)) to_flush (λ k. unflushed-clean_ended T q k is) stored.unflushed;
  uncleaned = first-same (is_uncleaned T) (is_uncleaned (clean_ended q T)) to_clean (λ k. uncleaned-clean_ended T q k is cleans) stored.uncleaned;
}
