-- What each call makes of the tests of a page.
use Rattle.std.proofs.Common.{◌≡◌, ℕ, ◌+◌, ◌-◌, ◌%◌, ◌<◌, ◌≤◌, ◌==◌, ◌||◌, ◌&&◌, ◌⊎◌, Bool, true, false, not, Option, Some, None, length, get_or, length-set, get_or-set_same, get_or-set_other, refl, sym, ap, ◌∙◌, arith, inl, inr}
use Rattle.std.specs.Prelude.{nat_lt}
use Rattle.std.specs.Option.{option_map}
use Rattle.std.proofs.lemmas.Bool.{cases_eq, cases_lt, lt-ltb, le-ltb, eq-eqb}
use Rattle.std.proofs.lemmas.Bool.Decides.{eqb_tells}
use Rattle.std.proofs.Math.Nat.{mod-eq_of_lt, add-mod_right}
use Rattle.hl_model.specs.declared.frame.Held.{Held}
use Rattle.hl_model.proofs.Remainders.{mod-apart}
use Rattle.hl_frames.specs.Pages.{Pages, held_for, left_or_marked, is_marked, is_flushed, is_in_flight, is_freed, is_cleaning, is_unflushed, is_uncleaned, may_enter}
use Rattle.hl_frames.specs.Answers.{unmarked, changed, entered, flush_begun, flush_ended, clean_begun, clean_ended}
use Rattle.hl_frames.specs.IsFrames.{AreMarks, page_in, IsFrames}
use Rattle.hl_frames.proofs.PageLaws.{within, page-at, marked-at}

-- a page that lies in its frame is held there
pub lying : (q : ℕ) (o : Option Held) → page_in o ≡ Some q → (held : Held) × ((o ≡ Some held) × (held.page ≡ q))
lying q None lies = absurd cc
lying q (Some held) lies = (held, (refl, cc))

-- a page whose mark counts lies in its frame
pub marked-lies : (mark : Held → Bool) (q : ℕ) (o : Option Held) → is_marked mark q o ≡ true → page_in o ≡ Some q
marked-lies mark q None e = absurd cc
marked-lies mark q (Some held) e =
    elim (eqb_tells q held.page) [
      | inl is ↦ ap (λ page. Some page) (sym is.1)
      | inr other ↦ let e' = rw other.0 at e in absurd cc
    ]

-- where a frame holds a page, its mark tells
pub left_or_marked-own : (mark : Held → Bool) (q : ℕ) (held : Held) → held.page ≡ q → left_or_marked mark q (Some held) ≡ mark held
left_or_marked-own mark q held lies = rw (le-ltb q held.page (omega arith), eq-eqb q held.page (sym lies)) refl

is_marked-own : (mark : Held → Bool) (q : ℕ) (held : Held) → held.page ≡ q → is_marked mark q (Some held) ≡ mark held
is_marked-own mark q held lies = rw (eq-eqb q held.page (sym lies)) refl

or-false : (b : Bool) → (b || false) ≡ b
or-false true = refl
or-false false = refl

-- of another page only its number counts
left_or_marked-other : (mark : Held → Bool) (k : ℕ) (held : Held) → (k ≡ held.page → ⊥) → left_or_marked mark k (Some held) ≡ nat_lt k held.page
left_or_marked-other mark k held other =
    elim (eqb_tells k held.page) [
      | inl is ↦ absurd (other is.1)
      | inr not_eq ↦ rw not_eq.0 (or-false (nat_lt k held.page))
    ]

is_marked-other : (mark : Held → Bool) (k : ℕ) (held : Held) → (k ≡ held.page → ⊥) → is_marked mark k (Some held) ≡ false
is_marked-other mark k held other =
    elim (eqb_tells k held.page) [
      | inl is ↦ absurd (other is.1)
      | inr not_eq ↦ rw not_eq.0 refl
    ]

-- what the frame of page q holds after it is changed
changed-here : (T : Pages) (q : ℕ) (change : Held → Held) → IsFrames T → held_for q (changed q change T) ≡ option_map change (held_for q T)
changed-here T q change is =
    let place : ℕ = q % length T.frames in
    rw (length-set T.frames place (option_map change (get_or T.frames place None)))
    (get_or-set_same T.frames place (option_map change (get_or T.frames place None)) None (within T q is))

same-option : (test : Option Held → Bool) (change : Held → Held) (o : Option Held) → ((held : Held) → o ≡ Some held → test (Some (change held)) ≡ test (Some held)) → test (option_map change o) ≡ test o
same-option test change None same = refl
same-option test change (Some held) same = same held refl

-- a test of any page's frame is as it was, where it is as it was for what is changed
pub changed-same : (test : Option Held → Bool) (T : Pages) (q k : ℕ) (change : Held → Held) → IsFrames T → ((held : Held) → held_for q T ≡ Some held → test (Some (change held)) ≡ test (Some held)) → test (held_for k (changed q change T)) ≡ test (held_for k T)
changed-same test T q k change is same =
    let place : ℕ = q % length T.frames in
    let v : Option Held = option_map change (get_or T.frames place None) in
    rw (length-set T.frames place v)
    (elim (cases_eq (k % length T.frames) place) [
      | inl at ↦ rw (at, get_or-set_same T.frames place v None (within T q is)) (same-option test change (get_or T.frames place None) same)
      | inr other ↦ ap test (get_or-set_other T.frames place (k % length T.frames) v None other)
    ])

-- marks of other pages stay
pub changed-left_or_marked : (mark : Held → Bool) (T : Pages) (q k : ℕ) (change : Held → Held) → IsFrames T → ((held : Held) → (change held).page ≡ held.page) → page_in (held_for q T) ≡ Some q → (k ≡ q → ⊥) → left_or_marked mark k (held_for k (changed q change T)) ≡ left_or_marked mark k (held_for k T)
changed-left_or_marked mark T q k change is keeps lies other =
    changed-same (left_or_marked mark k) T q k change is
    (λ held e.
    let page = page-at T q held lies e in
    left_or_marked-other mark k (change held) (λ at. other (at ∙ keeps held ∙ page)) ∙ ap (λ p. nat_lt k p) (keeps held) ∙ sym (left_or_marked-other mark k held (λ at. other (at ∙ page))))

changed-is_marked : (mark : Held → Bool) (T : Pages) (q k : ℕ) (change : Held → Held) → IsFrames T → ((held : Held) → (change held).page ≡ held.page) → page_in (held_for q T) ≡ Some q → (k ≡ q → ⊥) → is_marked mark k (held_for k (changed q change T)) ≡ is_marked mark k (held_for k T)
changed-is_marked mark T q k change is keeps lies other =
    changed-same (is_marked mark k) T q k change is
    (λ held e.
    let page = page-at T q held lies e in
    is_marked-other mark k (change held) (λ at. other (at ∙ keeps held ∙ page)) ∙ sym (is_marked-other mark k held (λ at. other (at ∙ page))))

-- the marks of the page itself
pub changed-own : (mark : Held → Bool) (T : Pages) (q : ℕ) (change : Held → Held) (held : Held) → IsFrames T → ((held : Held) → (change held).page ≡ held.page) → held.page ≡ q → held_for q T ≡ Some held → left_or_marked mark q (held_for q (changed q change T)) ≡ mark (change held)
changed-own mark T q change held is keeps lies e =
    rw (changed-here T q change is, e) (left_or_marked-own mark q (change held) (keeps held ∙ lies))

changed-own_marked : (mark : Held → Bool) (T : Pages) (q : ℕ) (change : Held → Held) (held : Held) → IsFrames T → ((held : Held) → (change held).page ≡ held.page) → held.page ≡ q → held_for q T ≡ Some held → is_marked mark q (held_for q (changed q change T)) ≡ mark (change held)
changed-own_marked mark T q change held is keeps lies e =
    rw (changed-here T q change is, e) (is_marked-own mark q (change held) (keeps held ∙ lies))

-- neither of two tests is passed, where the same holds before
same-neither : (a b c d : Bool) → a ≡ c → b ≡ d → not (a || b) ≡ not (c || d)
same-neither a b c d e f = rw (e, f) refl

neither-second : (a b : Bool) → b ≡ true → not (a || b) ≡ false
neither-second true b e = refl
neither-second false b e = rw e refl

neither-first : (a b : Bool) → a ≡ true → not (a || b) ≡ false
neither-first a b e = rw e refl

neither-both : (a b : Bool) → a ≡ false → b ≡ false → not (a || b) ≡ true
neither-both a b e f = rw (e, f) refl

-- where the flush of a page begins, it waits no longer, and others as before
pub unflushed-begun : (T : Pages) (q k : ℕ) → IsFrames T → page_in (held_for q T) ≡ Some q → (k ≡ q → ⊥) → is_unflushed (flush_begun q T) k ≡ is_unflushed T k
unflushed-begun T q k is lies other =
    let change : Held → Held = λ held. record held { in_flight = true } in
    same-neither (is_flushed k (flush_begun q T)) (is_in_flight k (flush_begun q T)) (is_flushed k T) (is_in_flight k T)
    (changed-left_or_marked (λ held. held.flushed) T q k change is (λ held. refl) lies other)
    (changed-is_marked (λ held. held.in_flight) T q k change is (λ held. refl) lies other)

pub unflushed-begun_own : (T : Pages) (q : ℕ) → IsFrames T → page_in (held_for q T) ≡ Some q → is_unflushed (flush_begun q T) q ≡ false
unflushed-begun_own T q is lies =
    let at = lying q (held_for q T) lies in
    neither-second (is_flushed q (flush_begun q T)) (is_in_flight q (flush_begun q T))
    (changed-own_marked (λ held. held.in_flight) T q (λ held. record held { in_flight = true }) at.0 is (λ held. refl) at.1.1 at.1.0)

pub flushed-begun : (T : Pages) (q k : ℕ) → IsFrames T → is_flushed k (flush_begun q T) ≡ is_flushed k T
flushed-begun T q k is = changed-same (left_or_marked (λ held. held.flushed) k) T q k (λ held. record held { in_flight = true }) is (λ held e. refl)

pub uncleaned-begun : (T : Pages) (q k : ℕ) → IsFrames T → is_uncleaned (flush_begun q T) k ≡ is_uncleaned T k
uncleaned-begun T q k is =
    let change : Held → Held = λ held. record held { in_flight = true } in
    same-neither (is_freed k (flush_begun q T)) (is_cleaning k (flush_begun q T)) (is_freed k T) (is_cleaning k T)
    (changed-same (left_or_marked (λ held. held.freed) k) T q k change is (λ held e. refl))
    (changed-same (is_marked (λ held. held.cleaning) k) T q k change is (λ held e. refl))

-- where the flush of a page ends, it is flushed or waits again, and others as before
pub flushed-ended : (T : Pages) (q k : ℕ) (ok : Bool) → IsFrames T → is_in_flight q T ≡ true → (k ≡ q → ⊥) → is_flushed k (flush_ended q ok T) ≡ is_flushed k T
flushed-ended T q k ok is flies other =
    changed-left_or_marked (λ held. held.flushed) T q k (λ held. record held { in_flight = false; flushed = ok }) is (λ held. refl) (marked-lies (λ held. held.in_flight) q (held_for q T) flies) other

pub flushed-ended_own : (T : Pages) (q : ℕ) (ok : Bool) → IsFrames T → is_in_flight q T ≡ true → is_flushed q (flush_ended q ok T) ≡ ok
flushed-ended_own T q ok is flies =
    let at = lying q (held_for q T) (marked-lies (λ held. held.in_flight) q (held_for q T) flies) in
    changed-own (λ held. held.flushed) T q (λ held. record held { in_flight = false; flushed = ok }) at.0 is (λ held. refl) at.1.1 at.1.0

pub unflushed-ended : (T : Pages) (q k : ℕ) (ok : Bool) → IsFrames T → is_in_flight q T ≡ true → (k ≡ q → ⊥) → is_unflushed (flush_ended q ok T) k ≡ is_unflushed T k
unflushed-ended T q k ok is flies other =
    same-neither (is_flushed k (flush_ended q ok T)) (is_in_flight k (flush_ended q ok T)) (is_flushed k T) (is_in_flight k T)
    (flushed-ended T q k ok is flies other)
    (changed-is_marked (λ held. held.in_flight) T q k (λ held. record held { in_flight = false; flushed = ok }) is (λ held. refl) (marked-lies (λ held. held.in_flight) q (held_for q T) flies) other)

-- a page in flight isn't flushed
pub flies-unflushed : (T : Pages) (q : ℕ) → IsFrames T → is_in_flight q T ≡ true → is_flushed q T ≡ false
flies-unflushed T q is flies =
    let at = lying q (held_for q T) (marked-lies (λ held. held.in_flight) q (held_for q T) flies) in
    let marks = is.marks (q % length T.frames) at.0 at.1.0 in
    let flying : at.0.in_flight ≡ true = marked-at (λ held. held.in_flight) q at.0 (rw at.1.0 at flies) in
    rw at.1.0 (left_or_marked-own (λ held. held.flushed) q at.0 at.1.1 ∙ marks.in_flight_unflushed flying)

-- a page whose flush ended well doesn't wait, as before
pub unflushed-ended_ok : (T : Pages) (q k : ℕ) → IsFrames T → is_in_flight q T ≡ true → is_unflushed (flush_ended q true T) k ≡ is_unflushed T k
unflushed-ended_ok T q k is flies =
    elim (cases_eq k q) [
      | inl at ↦ rw at
          (neither-first (is_flushed q (flush_ended q true T)) (is_in_flight q (flush_ended q true T)) (flushed-ended_own T q true is flies)
          ∙ sym (neither-second (is_flushed q T) (is_in_flight q T) flies))
      | inr other ↦ unflushed-ended T q k true is flies other
    ]

-- and one whose flush failed does
pub unflushed-ended_failed : (T : Pages) (q : ℕ) → IsFrames T → is_in_flight q T ≡ true → is_unflushed (flush_ended q false T) q ≡ true
unflushed-ended_failed T q is flies =
    let at = lying q (held_for q T) (marked-lies (λ held. held.in_flight) q (held_for q T) flies) in
    neither-both (is_flushed q (flush_ended q false T)) (is_in_flight q (flush_ended q false T)) (flushed-ended_own T q false is flies)
    (changed-own_marked (λ held. held.in_flight) T q (λ held. record held { in_flight = false; flushed = false }) at.0 is (λ held. refl) at.1.1 at.1.0)

-- no flushed page is lost
pub flushed-ended_kept : (T : Pages) (q k : ℕ) (ok : Bool) → IsFrames T → is_in_flight q T ≡ true → is_flushed k T ≡ true → is_flushed k (flush_ended q ok T) ≡ true
flushed-ended_kept T q k ok is flies flushed =
    let other : k ≡ q → ⊥ = λ at. let e : is_flushed q T ≡ true = rw (← at) flushed in let f = flies-unflushed T q is flies in absurd cc in
    flushed-ended T q k ok is flies other ∙ flushed

pub uncleaned-ended : (T : Pages) (q k : ℕ) (ok : Bool) → IsFrames T → is_uncleaned (flush_ended q ok T) k ≡ is_uncleaned T k
uncleaned-ended T q k ok is =
    let change : Held → Held = λ held. record held { in_flight = false; flushed = ok } in
    same-neither (is_freed k (flush_ended q ok T)) (is_cleaning k (flush_ended q ok T)) (is_freed k T) (is_cleaning k T)
    (changed-same (left_or_marked (λ held. held.freed) k) T q k change is (λ held e. refl))
    (changed-same (is_marked (λ held. held.cleaning) k) T q k change is (λ held e. refl))

-- where the cleaning of a page begins, it waits no longer, and others as before
pub uncleaned-clean_begun : (T : Pages) (q k : ℕ) → IsFrames T → page_in (held_for q T) ≡ Some q → (k ≡ q → ⊥) → is_uncleaned (clean_begun q T) k ≡ is_uncleaned T k
uncleaned-clean_begun T q k is lies other =
    let change : Held → Held = λ held. record held { cleaning = true } in
    same-neither (is_freed k (clean_begun q T)) (is_cleaning k (clean_begun q T)) (is_freed k T) (is_cleaning k T)
    (changed-left_or_marked (λ held. held.freed) T q k change is (λ held. refl) lies other)
    (changed-is_marked (λ held. held.cleaning) T q k change is (λ held. refl) lies other)

pub uncleaned-clean_begun_own : (T : Pages) (q : ℕ) → IsFrames T → page_in (held_for q T) ≡ Some q → is_uncleaned (clean_begun q T) q ≡ false
uncleaned-clean_begun_own T q is lies =
    let at = lying q (held_for q T) lies in
    neither-second (is_freed q (clean_begun q T)) (is_cleaning q (clean_begun q T))
    (changed-own_marked (λ held. held.cleaning) T q (λ held. record held { cleaning = true }) at.0 is (λ held. refl) at.1.1 at.1.0)

pub flushed-clean_begun : (T : Pages) (q k : ℕ) → IsFrames T → is_flushed k (clean_begun q T) ≡ is_flushed k T
flushed-clean_begun T q k is = changed-same (left_or_marked (λ held. held.flushed) k) T q k (λ held. record held { cleaning = true }) is (λ held e. refl)

pub unflushed-clean_begun : (T : Pages) (q k : ℕ) → IsFrames T → is_unflushed (clean_begun q T) k ≡ is_unflushed T k
unflushed-clean_begun T q k is =
    same-neither (is_flushed k (clean_begun q T)) (is_in_flight k (clean_begun q T)) (is_flushed k T) (is_in_flight k T)
    (flushed-clean_begun T q k is)
    (changed-same (is_marked (λ held. held.in_flight) k) T q k (λ held. record held { cleaning = true }) is (λ held e. refl))

-- where the cleaning of a page ends, all pages wait as before
pub uncleaned-clean_ended : (T : Pages) (q k : ℕ) → IsFrames T → is_cleaning q T ≡ true → is_uncleaned (clean_ended q T) k ≡ is_uncleaned T k
uncleaned-clean_ended T q k is cleans =
    let change : Held → Held = λ held. record held { cleaning = false; freed = true } in
    let lies : page_in (held_for q T) ≡ Some q = marked-lies (λ held. held.cleaning) q (held_for q T) cleans in
    elim (cases_eq k q) [
      | inl at ↦
          let held = lying q (held_for q T) lies in
          rw at
          (neither-first (is_freed q (clean_ended q T)) (is_cleaning q (clean_ended q T)) (changed-own (λ held. held.freed) T q change held.0 is (λ held. refl) held.1.1 held.1.0)
          ∙ sym (neither-second (is_freed q T) (is_cleaning q T) cleans))
      | inr other ↦
          same-neither (is_freed k (clean_ended q T)) (is_cleaning k (clean_ended q T)) (is_freed k T) (is_cleaning k T)
          (changed-left_or_marked (λ held. held.freed) T q k change is (λ held. refl) lies other)
          (changed-is_marked (λ held. held.cleaning) T q k change is (λ held. refl) lies other)
    ]

pub flushed-clean_ended : (T : Pages) (q k : ℕ) → IsFrames T → is_flushed k (clean_ended q T) ≡ is_flushed k T
flushed-clean_ended T q k is = changed-same (left_or_marked (λ held. held.flushed) k) T q k (λ held. record held { cleaning = false; freed = true }) is (λ held e. refl)

pub unflushed-clean_ended : (T : Pages) (q k : ℕ) → IsFrames T → is_unflushed (clean_ended q T) k ≡ is_unflushed T k
unflushed-clean_ended T q k is =
    same-neither (is_flushed k (clean_ended q T)) (is_in_flight k (clean_ended q T)) (is_flushed k T) (is_in_flight k T)
    (flushed-clean_ended T q k is)
    (changed-same (is_marked (λ held. held.in_flight) k) T q k (λ held. record held { cleaning = false; freed = true }) is (λ held e. refl))

-- the next page's frame is empty, or holds the page F before it
next-holds : (T : Pages) → IsFrames T → ((T.entered < length T.frames) × (held_for T.entered T ≡ None)) ⊎ ((held : Held) × ((held_for T.entered T ≡ Some held) × (held.page + length T.frames ≡ T.entered)))
next-holds T is =
    elim (cases_lt T.entered (length T.frames)) [
      | inl first ↦ inl (first, is.empty (T.entered % length T.frames) (omega (arith, mod-eq_of_lt first)))
      | inr later ↦
          let q : ℕ = T.entered - length T.frames in
          let next : q + length T.frames ≡ T.entered = omega arith in
          let lies = is.held q (omega (arith, is.frames_least)) (omega arith) in
          let at = lying q (held_for q T) lies in
          let place : T.entered % length T.frames ≡ q % length T.frames = ap (λ n. n % length T.frames) (sym next) ∙ add-mod_right q (length T.frames) in
          inr (at.0, (rw place at.1.0, omega (arith, at.1.1, next)))
    ]

-- the next page has no mark yet
pub next-left_or_marked : (mark : Held → Bool) (T : Pages) → IsFrames T → left_or_marked mark T.entered (held_for T.entered T) ≡ false
next-left_or_marked mark T is =
    elim (next-holds T is) [
      | inl none ↦ rw none.1 refl
      | inr some ↦
          let other : T.entered ≡ some.0.page → ⊥ = λ at. omega (arith, some.1.1, is.frames_least) in
          rw some.1.0 (left_or_marked-other mark T.entered some.0 other ∙ le-ltb T.entered some.0.page (omega (arith, some.1.1)))
    ]

next-is_marked : (mark : Held → Bool) (T : Pages) → IsFrames T → is_marked mark T.entered (held_for T.entered T) ≡ false
next-is_marked mark T is =
    elim (next-holds T is) [
      | inl none ↦ rw none.1 refl
      | inr some ↦
          let other : T.entered ≡ some.0.page → ⊥ = λ at. omega (arith, some.1.1, is.frames_least) in
          rw some.1.0 (is_marked-other mark T.entered some.0 other)
    ]

pub next-unflushed : (T : Pages) → IsFrames T → is_unflushed T T.entered ≡ true
next-unflushed T is = neither-both (is_flushed T.entered T) (is_in_flight T.entered T) (next-left_or_marked (λ held. held.flushed) T is) (next-is_marked (λ held. held.in_flight) T is)

pub next-uncleaned : (T : Pages) → IsFrames T → is_uncleaned T T.entered ≡ true
next-uncleaned T is = neither-both (is_freed T.entered T) (is_cleaning T.entered T) (next-left_or_marked (λ held. held.freed) T is) (next-is_marked (λ held. held.cleaning) T is)

-- where the next page may be entered, the page F before it is freed
next-freed : (T : Pages) (held : Held) → may_enter T.entered T ≡ true → held_for T.entered T ≡ Some held → held.page + length T.frames ≡ T.entered → held.freed ≡ true
next-freed T held may there next =
    let past : nat_lt T.entered (length T.frames) ≡ false = le-ltb T.entered (length T.frames) (omega arith) in
    let before : T.entered - length T.frames ≡ held.page = omega arith in
    let place : T.entered % length T.frames ≡ held.page % length T.frames = ap (λ n. n % length T.frames) (sym next) ∙ add-mod_right held.page (length T.frames) in
    let lies : held_for held.page T ≡ Some held = rw (← place) there in
    let freed : is_freed held.page T ≡ true = rw (past, before) at may in
    sym (left_or_marked-own (λ held. held.freed) held.page held refl) ∙ (rw lies at freed)

and-false : (b c : Bool) → c ≡ false → (b && c) ≡ false
and-false true c e = e
and-false false c e = refl

-- a page at or below another, with no mark that counts
past-unmarked : (mark : Held → Bool) (k : ℕ) (held : Held) → held.page ≤ k → mark held ≡ false → left_or_marked mark k (Some held) ≡ false
past-unmarked mark k held past e = rw (le-ltb k held.page past) (and-false (k == held.page) (mark held) e)

-- a page at or above another, with a mark that counts
before-marked : (mark : Held → Bool) (k : ℕ) (held : Held) → k ≤ held.page → mark held ≡ true → left_or_marked mark k (Some held) ≡ true
before-marked mark k held before e =
    elim (cases_lt k held.page) [
      | inl less ↦ rw (lt-ltb k held.page less) refl
      | inr most ↦ left_or_marked-own mark k held (omega arith) ∙ e
    ]

-- where the next page is entered, each page is flushed and freed as before
pub entered-left_or_marked : (mark : Held → Bool) (T : Pages) (k : ℕ) → IsFrames T → may_enter T.entered T ≡ true → ((held : Held) → AreMarks held → held.freed ≡ true → mark held ≡ true) → mark (unmarked T.entered) ≡ false → left_or_marked mark k (held_for k (entered T.entered T)) ≡ left_or_marked mark k (held_for k T)
entered-left_or_marked mark T k is may left bare =
    let F : ℕ = length T.frames in
    let q : ℕ = T.entered in
    let place : ℕ = q % F in
    rw (length-set T.frames place (Some (unmarked q)))
    (elim (cases_eq (k % F) place) [
      | inl at ↦
          rw (at, get_or-set_same T.frames place (Some (unmarked q)) None (within T q is))
          (elim (next-holds T is) [
            | inl none ↦
                let past : q ≤ k = elim (cases_lt k q) [
                  | inl less ↦ let own = mod-eq_of_lt {n = k} {m = F} (omega (arith, none.0)) in let next = mod-eq_of_lt none.0 in absurd (omega arith)
                  | inr most ↦ most
                ] in
                rw none.1 (past-unmarked mark k (unmarked q) past bare)
            | inr some ↦
                let freed = next-freed T some.0 may some.1.0 some.1.1 in
                let marked : mark some.0 ≡ true = left some.0 (is.marks place some.0 some.1.0) freed in
                rw some.1.0
                (elim (cases_lt k q) [
                  | inl less ↦
                      let before : k ≤ some.0.page = omega (arith, some.1.1, mod-apart k q F at less) in
                      rw (lt-ltb k q less) (sym (before-marked mark k some.0 before marked))
                  | inr past ↦
                      past-unmarked mark k (unmarked q) past bare
                      ∙ sym (left_or_marked-other mark k some.0 (λ same. omega (arith, some.1.1, is.frames_least)) ∙ le-ltb k some.0.page (omega (arith, some.1.1)))
                ])
          ])
      | inr other ↦ ap (left_or_marked mark k) (get_or-set_other T.frames place (k % F) (Some (unmarked q)) None other)
    ])

-- and none is in flight or being cleaned that wasn't
entered-is_marked : (mark : Held → Bool) (T : Pages) (k : ℕ) → IsFrames T → may_enter T.entered T ≡ true → ((held : Held) → AreMarks held → held.freed ≡ true → mark held ≡ false) → mark (unmarked T.entered) ≡ false → is_marked mark k (held_for k (entered T.entered T)) ≡ is_marked mark k (held_for k T)
entered-is_marked mark T k is may left bare =
    let F : ℕ = length T.frames in
    let q : ℕ = T.entered in
    let place : ℕ = q % F in
    rw (length-set T.frames place (Some (unmarked q)))
    (elim (cases_eq (k % F) place) [
      | inl at ↦
          rw (at, get_or-set_same T.frames place (Some (unmarked q)) None (within T q is))
          (and-false (k == q) (mark (unmarked q)) bare
          ∙ (elim (next-holds T is) [
            | inl none ↦ rw none.1 refl
            | inr some ↦
                let freed = next-freed T some.0 may some.1.0 some.1.1 in
                rw some.1.0 (sym (and-false (k == some.0.page) (mark some.0) (left some.0 (is.marks place some.0 some.1.0) freed)))
          ]))
      | inr other ↦ ap (is_marked mark k) (get_or-set_other T.frames place (k % F) (Some (unmarked q)) None other)
    ])

pub flushed-entered : (T : Pages) (k : ℕ) → IsFrames T → may_enter T.entered T ≡ true → is_flushed k (entered T.entered T) ≡ is_flushed k T
flushed-entered T k is may = entered-left_or_marked (λ held. held.flushed) T k is may (λ held marks freed. marks.freed_flushed freed) refl

never : (b : Bool) → (b ≡ true → ⊥) → b ≡ false
never true refused = absurd (refused refl)
never false refused = refl

freed-unflying : (held : Held) → AreMarks held → held.freed ≡ true → held.in_flight ≡ false
freed-unflying held marks freed = never held.in_flight (λ flies. let e = marks.in_flight_unflushed flies in let f = marks.freed_flushed freed in absurd cc)

freed-uncleaning : (held : Held) → AreMarks held → held.freed ≡ true → held.cleaning ≡ false
freed-uncleaning held marks freed = never held.cleaning (λ cleans. let e = marks.cleaning_unfreed cleans in absurd cc)

pub unflushed-entered : (T : Pages) (k : ℕ) → IsFrames T → may_enter T.entered T ≡ true → is_unflushed (entered T.entered T) k ≡ is_unflushed T k
unflushed-entered T k is may =
    same-neither (is_flushed k (entered T.entered T)) (is_in_flight k (entered T.entered T)) (is_flushed k T) (is_in_flight k T)
    (flushed-entered T k is may)
    (entered-is_marked (λ held. held.in_flight) T k is may freed-unflying refl)

pub uncleaned-entered : (T : Pages) (k : ℕ) → IsFrames T → may_enter T.entered T ≡ true → is_uncleaned (entered T.entered T) k ≡ is_uncleaned T k
uncleaned-entered T k is may =
    same-neither (is_freed k (entered T.entered T)) (is_cleaning k (entered T.entered T)) (is_freed k T) (is_cleaning k T)
    (entered-left_or_marked (λ held. held.freed) T k is may (λ held marks freed. freed) refl)
    (entered-is_marked (λ held. held.cleaning) T k is may freed-uncleaning refl)
