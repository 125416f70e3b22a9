-- Each step of the table keeps its rule, whatever the table is when the step is taken.
use Rattle.std.proofs.Common.{◌≡◌, ℕ, zero, suc, ◌+◌, ◌-◌, ◌<◌, ◌≤◌, List, [], ◌∷◌, ◌++◌, length, set, drop, Some, slice_get, refl, ap, sym, ◌∙◌, subst, arith, append_assoc, length-append}
use Rattle.std.specs.Prelude.{slice_index, ◌==◌, ◌%◌, ◌^◌, Bool, true, false, if◌then◌else◌}
use prog.Atomic.{either}
use Rattle.std.specs.List.{AllByRecursion as Every}
use Rattle.std.proofs.lemmas.List.{length-set, set-get_or}
use mathlib.Core.Option.{some, none, some-injective, some-ne-none}
use lib.ListN.{get_elem?}
use Rattle.atomic_table.specs.Table.{Me, step, keeps, Allows}
use Rattle.hl_words.specs.declared.view.Touch.{Touch}
use Rattle.hl_words.specs.declared.view.Touch.TheVariants.{Stored, Loaded, Changed, Looked}
use Rattle.hl_words.specs.declared.view.Extent.{Extent}
use Rattle.hl_words.specs.declared.view.Known.{Known}
use Rattle.hl_words.specs.declared.view.OffsetWords.{OffsetWords}
use Rattle.hl_words.specs.declared.view.RiderView.{RiderView}
use Rattle.hl_words.specs.declared.view.SeatView.{SeatView}
use Rattle.hl_words.specs.declared.view.Room.{Room}
use Rattle.hl_words.specs.declared.which.Which.{Which}
use Rattle.hl_words.specs.declared.which.Which.TheVariants.{ReadOnly, Head, Ended, SafeReadOnly}
use Rattle.hl_words.specs.Views.{place_of, offset_of, greatest_of, touched, added, exchanged, with_loaded, looked}
use Rattle.hl_words.specs.Rule.{IsRuledAt}
use Rattle.hl_words.specs.Seats.{rider_seat, riders_in, HasPast, IsKnown, IsKept, Holds, Stores, Loads, Adds, Exchanges, Looks}
use Rattle.hl_words.proofs.Cut.{every_back, every_weaker, every_set}
use Rattle.hl_words.proofs.Line.{line_wide, line_at, line_set}
use Rattle.hl_words.proofs.Orders.{some_changed}
use Rattle.hl_words.proofs.Standing.{IsStanding, Below, standing_from, ruled_from, after_store, after_change, after_load, after_look, found_offset}

abbrev pub Nothing : Type 0
Nothing = Unit {0}

-- The riders of one seat stand between those of the others
pub record Parted (views : List SeatView) (id : ℕ) (v : SeatView) : Type 0 where
  pub front : List RiderView
  pub back : List RiderView
  pub before : riders_in views ≡ front ++ (v.riders ++ back)
  pub after : (w : SeatView) → riders_in (set views id w) ≡ front ++ (w.riders ++ back)

pub parted : (views : List SeatView) (id : ℕ) (v : SeatView) → get_elem? views id ≡ some v → Parted views id v
parted [] id v e = absurd (some-ne-none v (sym e))
parted (x ∷ xs) zero v e = record { front = []; back = riders_in xs; before = ap (λ (u : SeatView). u.riders ++ riders_in xs) (some-injective x v e); after = λ w. refl }
parted (x ∷ xs) (suc id) v e =
    let p = parted xs id v e in
    record {
      front = x.riders ++ p.front;
      back = p.back;
      before = ap (λ l. x.riders ++ l) p.before ∙ sym (append_assoc x.riders p.front (v.riders ++ p.back));
      after = λ w. ap (λ l. x.riders ++ l) (p.after w) ∙ sym (append_assoc x.riders p.front (w.riders ++ p.back));
    }

-- what the master knows stays where it does in a seat
pub master_after : (views : List SeatView) (id : ℕ) (m v w : SeatView) → get_elem? views 0 ≡ some m → get_elem? views id ≡ some v → w.offsets ≡ v.offsets → w.called ≡ v.called
    → (u : SeatView) × (get_elem? (set views id w) 0 ≡ some u) × (u.offsets ≡ m.offsets) × (u.called ≡ m.called)
master_after [] id m v w e d same calls = absurd (some-ne-none m (sym e))
master_after (x ∷ xs) zero m v w e d same calls =
    let one : v ≡ m = sym (some-injective x v d) ∙ some-injective x m e in
    (w, refl, same ∙ ap (λ (u : SeatView). u.offsets) one, calls ∙ ap (λ (u : SeatView). u.called) one)
master_after (x ∷ xs) (suc id) m v w e d same calls = (m, e, refl, refl)

-- what pasts tell of these riders
abbrev pub AllKnown : List RiderView → List SeatView → Type 0
AllKnown riders views = Every (λ (v : SeatView). Every (IsKnown riders) v.known) views

pub known_more : (riders after : List RiderView) (views : List SeatView) → ((k : Known) → IsKnown riders k → IsKnown after k) → AllKnown riders views → AllKnown after views
known_more riders after views grows h =
    every_weaker (λ (v : SeatView). Every (IsKnown riders) v.known) (λ (v : SeatView). Every (IsKnown after) v.known) views (λ v e. every_weaker (IsKnown riders) (IsKnown after) v.known grows e) h

-- what a rider made, it made where it made more since
pub past_more : (past : List Touch) (r q : RiderView) → HasPast past r → HasPast r.touches q → HasPast past q
past_more past r q h k = (k.0 ++ h.0, k.1 ∙ ap (λ (l : List Touch). k.0 ++ l) h.1 ∙ sym (append_assoc k.0 h.0 past))

-- another seat that knows as much
pub same_master : (cells : ℕ) (words : List ℕ) (m u : SeatView) (riders : List RiderView) → u.offsets ≡ m.offsets → u.called ≡ m.called → IsRuledAt cells words m.offsets m.called riders → IsRuledAt cells words u.offsets u.called riders
same_master cells words m u riders stores calls h = subst (λ e. IsRuledAt cells words u.offsets e riders) (sym calls) (subst (λ o. IsRuledAt cells words o m.called riders) (sym stores) h)

-- one rider's view and some words change
pub rider_kept : (room : Room) (words after : List ℕ) (views : List SeatView) (id : ℕ) (r q : RiderView) → IsKept room words views → get_elem? views id ≡ some (rider_seat r) → length after ≡ length words
    → q.name ≡ r.name → HasPast r.touches q
    → ((front back : List RiderView) (last : OffsetWords) (m : Extent) → riders_in views ≡ front ++ r ∷ back → IsStanding room.cells (drop 8 words) last m (front ++ r ∷ back) → IsStanding room.cells (drop 8 after) last m (front ++ q ∷ back))
    → IsKept room after (set views id (rider_seat q))
rider_kept room words after views id r q h at width named longer move =
    let p = parted views id (rider_seat r) at in
    let m = master_after views id h.master (rider_seat r) (rider_seat q) h.seat at refl refl in
    let now = p.after (rider_seat q) in
    let n = h.master.called in
    let standing = standing_from room.cells (drop 8 words) h.master.offsets n (p.front ++ r ∷ p.back) (subst (λ l. IsRuledAt room.cells (drop 8 words) h.master.offsets n l) p.before h.ruled) in
    let moved = ruled_from room.cells (drop 8 after) h.master.offsets n (p.front ++ q ∷ p.back) (move p.front p.back h.master.offsets n p.before standing) in
    let grows : (k : Known) → IsKnown (riders_in views) k → IsKnown (riders_in (set views id (rider_seat q))) k =
    λ k s. subst (λ l. IsKnown l k) (sym now)
    (some_changed (λ i x. (x.name ≡ k.name) × HasPast k.touches x) (λ i x. (x.name ≡ k.name) × HasPast k.touches x) p.front r q p.back (λ y. (named ∙ y.0, past_more k.touches r q y.1 longer)) (λ i x y. y) (subst (λ l. IsKnown l k) p.before s)) in
    record {
      master = m.0;
      seat = m.1;
      width = width ∙ h.width;
      count = ap length now ∙ length-append p.front (q ∷ p.back) ∙ sym (length-append p.front (r ∷ p.back)) ∙ sym (ap length p.before) ∙ h.count;
      ruled = subst (λ l. IsRuledAt room.cells (drop 8 after) m.0.offsets m.0.called l) (sym now) (same_master room.cells (drop 8 after) h.master m.0 (p.front ++ q ∷ p.back) m.2 m.3 moved);
      known = known_more (riders_in views) (riders_in (set views id (rider_seat q))) (set views id (rider_seat q)) grows (every_set (λ (v : SeatView). Every (IsKnown (riders_in views)) v.known) views id (rider_seat q) h.known tt);
    }

-- what the rule says of the words and of one rider
pub standing_at : (room : Room) (words : List ℕ) (views : List SeatView) (id : ℕ) (r : RiderView) → (h : IsKept room words views) → (at : get_elem? views id ≡ some (rider_seat r))
    → IsStanding room.cells (drop 8 words) h.master.offsets h.master.called ((parted views id (rider_seat r) at).front ++ r ∷ (parted views id (rider_seat r) at).back)
standing_at room words views id r h at =
    let p = parted views id (rider_seat r) at in
    standing_from room.cells (drop 8 words) h.master.offsets h.master.called (p.front ++ r ∷ p.back) (subst (λ l. IsRuledAt room.cells (drop 8 words) h.master.offsets h.master.called l) p.before h.ruled)

module _ (room : Room) (slots : ℕ) (id : ℕ) where
  pub stores_allowed : (me : Me Nothing SeatView) (r : RiderView) (w v : ℕ) → me ≡ (rider_seat r, []) → 8 ≤ w → w - 8 < room.cells
      → Allows (Holds room) slots id me w (λ _. v) (λ _. Stores (step slots w v 0 none) me v)
  stores_allowed me r w v is behind less = subst (λ (m : Me Nothing SeatView). Allows (Holds room) slots id m w (λ _. v) (λ _. Stores (step slots w v 0 none) m v)) (sym is)
      (λ s h homes at bound. let q = touched (Stored (w - 8) v) r in (
        rider_seat q,
        keeps,
        tt,
        rider_kept room s.words (set s.words w v) s.views id r q h at (length-set s.words w v) refl (Stored (w - 8) v ∷ [], refl)
            (λ front back last m b k.
            subst (λ ws. IsStanding room.cells ws last m (front ++ q ∷ back)) (sym (line_set s.words w (w - 8) v (omega (arith, behind))))
            (after_store front r back room.cells (drop 8 s.words) last m (w - 8) v less (line_wide room.cells s.words h.width) k)),
        refl,
      ))

  -- a rider loads a cell
  loaded : (words : List ℕ) (views : List SeatView) (r : RiderView) (w : ℕ) → 8 ≤ w → w - 8 < room.cells → IsKept room words views → get_elem? views id ≡ some (rider_seat r)
      → IsKept room (set words w (slice_index words w)) (set views id (rider_seat (touched (Loaded (w - 8) (slice_index words w)) r)))
  loaded words views r w behind less h at =
      let found = slice_index words w in
      let q = touched (Loaded (w - 8) found) r in
      subst (λ ws. IsKept room ws (set views id (rider_seat q))) (sym (set-get_or words w 0))
      (rider_kept room words words views id r q h at refl refl (Loaded (w - 8) found ∷ [], refl)
      (λ front back last m b k. after_load front r back room.cells (drop 8 words) last m (w - 8) found less (line_at words w (w - 8) (omega (arith, behind))) k))

  pub loads_allowed : (me : Me Nothing SeatView) (r : RiderView) (w : ℕ) → me ≡ (rider_seat r, []) → 8 ≤ w → w - 8 < room.cells
      → Allows (Holds room) slots id me w (λ n. n) (Loads (step slots w 0 0 none) me)
  loads_allowed me r w is behind less = subst (λ (m : Me Nothing SeatView). Allows (Holds room) slots id m w (λ n. n) (Loads (step slots w 0 0 none) m)) (sym is)
      (λ s h homes at bound. (rider_seat (touched (Loaded (w - 8) (slice_index s.words w)) r), keeps, tt, loaded s.words s.views r w behind less h at, refl))

  -- a rider changes a cell, in one step
  changed : (words : List ℕ) (views : List SeatView) (r : RiderView) (w v : ℕ) → 8 ≤ w → w - 8 < room.cells → IsKept room words views → get_elem? views id ≡ some (rider_seat r)
      → IsKept room (set words w v) (set views id (rider_seat (touched (Changed (w - 8) (slice_index words w) v) r)))
  changed words views r w v behind less h at =
      let found = slice_index words w in
      let q = touched (Changed (w - 8) found v) r in
      let place : w ≡ 8 + (w - 8) = omega (arith, behind) in
      rider_kept room words (set words w v) views id r q h at (length-set words w v) refl (Changed (w - 8) found v ∷ [], refl)
      (λ front back last m b k.
      subst (λ ws. IsStanding room.cells ws last m (front ++ q ∷ back)) (sym (line_set words w (w - 8) v place))
      (after_change front r back room.cells (drop 8 words) last m (w - 8) found v less (line_wide room.cells words h.width) (line_at words w (w - 8) place) k))

  pub adds_allowed : (me : Me Nothing SeatView) (r : RiderView) (w more : ℕ) → me ≡ (rider_seat r, []) → 8 ≤ w → w - 8 < room.cells
      → Allows (Holds room) slots id me w (λ n. (n + more) % 2 ^ 64) (Adds (step slots w more 0 none) me)
  adds_allowed me r w more is behind less = subst (λ (m : Me Nothing SeatView). Allows (Holds room) slots id m w (λ n. (n + more) % 2 ^ 64) (Adds (step slots w more 0 none) m)) (sym is)
      (λ s h homes at bound. let found = slice_index s.words w in (
        rider_seat (added (w - 8) more found r),
        keeps,
        tt,
        changed s.words s.views r w ((found + more) % 2 ^ 64) behind less h at,
        refl,
      ))

  pub exchanges_allowed : (me : Me Nothing SeatView) (r : RiderView) (w old new : ℕ) → me ≡ (rider_seat r, []) → 8 ≤ w → w - 8 < room.cells
      → Allows (Holds room) slots id me w (λ n. either (n == old) new n) (Exchanges (step slots w old new none) me)
  exchanges_allowed me r w old new is behind less = subst (λ (m : Me Nothing SeatView). Allows (Holds room) slots id m w (λ n. either (n == old) new n) (Exchanges (step slots w old new none) m)) (sym is)
      (λ s h homes at bound. let found = slice_index s.words w in (
        rider_seat (exchanged (w - 8) old new found r),
        keeps,
        tt,
        kept s.words s.views h at (found == old),
        refl,
      ))
    where
      kept : (words : List ℕ) (views : List SeatView) → IsKept room words views → get_elem? views id ≡ some (rider_seat r) → (same : Bool)
          → let found = slice_index words w in
          IsKept room (set words w (either same new found)) (set views id (rider_seat (if same then touched (Changed (w - 8) found new) r else touched (Loaded (w - 8) found) r)))
      kept words views h at true = changed words views r w new behind less h at
      kept words views h at false = loaded words views r w behind less h at

  pub looks_allowed : (me : Me Nothing SeatView) (r : RiderView) (which : Which) (i : ℕ) → me ≡ (rider_seat r, []) → i ≡ 8 + place_of which room.cells
      → Allows (Holds room) slots id me i (λ n. n) (Looks which (step slots i 0 0 none) me)
  looks_allowed me r which i is place = subst (λ (m : Me Nothing SeatView). Allows (Holds room) slots id m i (λ n. n) (Looks which (step slots i 0 0 none) m)) (sym is)
      (λ s h homes at bound.
      let x = slice_index s.words i in
      let q = with_loaded which x r in
      let found : (last : OffsetWords) (m : Extent) (riders : List RiderView) → IsStanding room.cells (drop 8 s.words) last m riders → x ≡ offset_of which last =
      λ last m riders k. line_at s.words i (place_of which room.cells) place ∙ found_offset which room.cells (drop 8 s.words) last m riders k in
      let now = standing_at room s.words s.views id r h at in
      let p = parted s.views id (rider_seat r) at in
      let below = (every_back (Below h.master.offsets) p.front (r ∷ p.back) now.offset).0 in (
        rider_seat q,
        keeps,
        tt,
        subst (λ ws. IsKept room ws (set s.views id (rider_seat q))) (sym (set-get_or s.words i 0))
            (rider_kept room s.words s.words s.views id r q h at refl refl (Looked which x ∷ [], refl) (λ front back last m b k. after_look front r back room.cells (drop 8 s.words) last m which x (found last m (front ++ r ∷ back) k) k)),
        (refl, only x r (at_most which h.master.offsets r x (found h.master.offsets h.master.called (p.front ++ r ∷ p.back) now) below)),
      ))
    where
      at_most : (which : Which) (last : OffsetWords) (r : RiderView) (x : ℕ) → x ≡ offset_of which last → Below last r → greatest_of which (looked r.touches) ≤ x
      at_most ReadOnly last r x e b = omega (arith, b.0.0)
      at_most Head last r x e b = omega (arith, b.1.0)
      at_most Ended last r x e b = omega (arith, b.2.0)
      at_most SafeReadOnly last r x e b = omega (arith, b.3.0)

      only : (x : ℕ) (r : RiderView) → greatest_of which (looked r.touches) ≤ x → (i : ℕ) (q : RiderView) → slice_get (r ∷ []) i ≡ Some q → greatest_of which (looked q.touches) ≤ x
      only x r le zero q e = let same : r ≡ q = cc e in subst (λ (p : RiderView). greatest_of which (looked p.touches) ≤ x) same le
      only x r le (suc i) q e = absurd (cc e)
