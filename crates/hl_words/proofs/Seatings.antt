-- What seats give and take keeps the rule: riders, pasts and calls, and the master's own stores.
use Rattle.std.proofs.Common.{◌≡◌, ℕ, zero, suc, ◌+◌, ◌≤◌, List, [], ◌∷◌, ◌++◌, length, set, drop, replicate, Some, slice_get, refl, ap, sym, ◌∙◌, subst, arith, append_assoc, length-append}
use Rattle.std.specs.Prelude.{slice_index}
use Rattle.std.specs.List.{AllByRecursion as Every}
use Rattle.std.proofs.lemmas.List.{append-nil, length-set, length-replicate}
use mathlib.Core.Option.{some, none, some-injective, some-ne-none}
use lib.ListN.{get_elem?}
use Rattle.atomic_table.proofs.Lists.{set_else, set_again}
use Rattle.atomic_table.specs.Table.{Me, step, keeps, Allows, Splits, Joins, Enters, opening, Final, Seen}
use Rattle.hl_words.specs.declared.view.Touch.TheVariants.{Called, Met}
use Rattle.hl_words.specs.declared.view.Extent.{Extent}
use Rattle.hl_words.specs.declared.view.Known.{Known}
use Rattle.hl_words.specs.declared.view.OffsetWords.{OffsetWords}
use Rattle.hl_words.specs.declared.view.RiderView.{RiderView}
use Rattle.hl_words.specs.declared.view.SeatView.{SeatView}
use Rattle.hl_words.specs.declared.view.Room.{Room}
use Rattle.hl_words.specs.declared.which.Which.{Which}
use Rattle.hl_words.specs.Views.{place_of, no_offsets, offset_of, with_offset, fresh, fresh_from, past_of, told, called, no_extent}
use Rattle.hl_words.specs.Rule.{RisesTo, HasOneOrder, IsRuledAt}
use Rattle.hl_words.specs.Seats.{master_seat, knows_seat, rider_seat, spent_seat, first_seat, riders_in, HasPast, IsKnown, IsKept, Holds, Sets, left_seat, right_seat, joined_seat, left_called, right_called, same_seat, shown_seat, copied_seat, told_seat, attested_seat, Blanks}
use Rattle.hl_words.proofs.Cut.{every_append, every_set, every_elem}
use Rattle.hl_words.proofs.Line.{line_wide, line_at, line_set}
use Rattle.hl_words.proofs.Orders.{at_place, some_changed, some_to_front, some_from_front}
use Rattle.hl_words.proofs.Standing.{IsStanding, Below, no_loads, no_stores, standing_from, ruled_from, to_front, from_front, after_call, after_told, after_set}
use Rattle.hl_words.proofs.Steps.{AllKnown, Nothing, known_more, master_after, parted, past_more, same_master, rider_kept}

-- any seat
abbrev pub full_seat : OffsetWords → List RiderView → Extent → List Known → SeatView
full_seat last riders m known = record { offsets = last; riders = riders; called = m; known = known }

riders_in-push : (views : List SeatView) (w : SeatView) → riders_in (views ++ w ∷ []) ≡ riders_in views ++ w.riders
riders_in-push [] w = append-nil w.riders
riders_in-push (u ∷ us) w = ap (λ l. u.riders ++ l) (riders_in-push us w) ∙ sym (append_assoc u.riders (riders_in us) w.riders)

module _ (room : Room) where
  -- the master's steps are those of seat 0
  pub sets_allowed : (slots id : ℕ) (me : Me Nothing SeatView) (m : Extent) (last : OffsetWords) (riders : List RiderView) (which : Which) (i x : ℕ) → id ≡ 0 → me ≡ (master_seat m last riders, []) → i ≡ 8 + place_of which room.cells → offset_of which last ≤ x
      → Allows (Holds room) slots id me i (λ _. x) (λ _. Sets which (step slots i x 0 none) me x)
  sets_allowed slots id me m last riders which i x first is place le =
      subst (λ (k : ℕ). Allows (Holds room) slots k me i (λ _. x) (λ _. Sets which (step slots i x 0 none) me x)) (sym first)
      (subst (λ (m : Me Nothing SeatView). Allows (Holds room) slots 0 m i (λ _. x) (λ _. Sets which (step slots i x 0 none) m x)) (sym is)
      (λ s h homes at bound. (master_seat m (with_offset which x last) riders, keeps, tt, kept s.words s.views h at, refl)))
    where
      kept : (words : List ℕ) (views : List SeatView) → IsKept room words views → get_elem? views 0 ≡ some (master_seat m last riders) → IsKept room (set words i x) (set views 0 (master_seat m (with_offset which x last) riders))
      kept words [] h at = absurd (some-ne-none (master_seat m last riders) (sym at))
      kept words (v ∷ views) h at =
          let same : v ≡ master_seat m last riders = some-injective v (master_seat m last riders) at in
          let mine : h.master ≡ master_seat m last riders = sym (some-injective v h.master h.seat) ∙ same in
          let all = riders ++ riders_in views in
          let flat : riders_in (v ∷ views) ≡ all = ap (λ (u : SeatView). u.riders ++ riders_in views) same in
          let used = drop 8 words in
          let ruled = subst (λ l. IsRuledAt room.cells used last m l) flat (subst (λ (u : SeatView). IsRuledAt room.cells used u.offsets u.called (riders_in (v ∷ views))) mine h.ruled) in
          let now = ruled_from room.cells (set used (place_of which room.cells) x) (with_offset which x last) m all
          (after_set which room.cells used last m all x (line_wide room.cells words h.width) le (standing_from room.cells used last m all ruled)) in
          record {
            master = master_seat m (with_offset which x last) riders;
            seat = refl;
            width = length-set words i x ∙ h.width;
            count = sym (ap length flat) ∙ h.count;
            ruled = subst (λ ws. IsRuledAt room.cells ws (with_offset which x last) m all) (sym (line_set words i (place_of which room.cells) x place)) now;
            known = (tt, subst (λ l. AllKnown l views) flat h.known.1);
          }

  -- a seat comes that stands for nobody
  pushed : (words : List ℕ) (views : List SeatView) (w : SeatView) (h : IsKept room words views) → w.riders ≡ [] → Every (IsKnown (riders_in views)) w.known → IsKept room words (views ++ w ∷ [])
  pushed words [] w h bare knows = absurd (some-ne-none h.master (sym h.seat))
  pushed words (u ∷ us) w h bare knows =
      let flat : riders_in ((u ∷ us) ++ w ∷ []) ≡ riders_in (u ∷ us) = riders_in-push (u ∷ us) w ∙ ap (λ l. riders_in (u ∷ us) ++ l) bare ∙ append-nil (riders_in (u ∷ us)) in
      record {
        master = h.master;
        seat = h.seat;
        width = h.width;
        count = ap length flat ∙ h.count;
        ruled = subst (λ l. IsRuledAt room.cells (drop 8 words) h.master.offsets h.master.called l) (sym flat) h.ruled;
        known = subst (λ l. AllKnown l ((u ∷ us) ++ w ∷ [])) (sym flat) (every_append (λ (v : SeatView). Every (IsKnown (riders_in (u ∷ us))) v.known) (u ∷ us) (w ∷ []) h.known (knows, tt));
      }

  -- a rider is dealt out, and may change
  dealt : (words : List ℕ) (u : SeatView) (us : List SeatView) (last : OffsetWords) (r q : RiderView) (rs : List RiderView) (m n : Extent) (known : List Known) → (h : IsKept room words (u ∷ us)) → u ≡ full_seat last (r ∷ rs) m known
      → q.name ≡ r.name → HasPast r.touches q
      → ((back : List RiderView) → IsStanding room.cells (drop 8 words) last m (r ∷ back) → IsStanding room.cells (drop 8 words) last n (q ∷ back))
      → IsKept room words (full_seat last rs n known ∷ (us ++ rider_seat q ∷ []))
  dealt words u us last r q rs m n known h same named longer move =
      let w = rider_seat q in
      let used = drop 8 words in
      let others = rs ++ riders_in us in
      let old : riders_in (u ∷ us) ≡ r ∷ others = ap (λ (x : SeatView). x.riders ++ riders_in us) same in
      let flat : rs ++ riders_in (us ++ w ∷ []) ≡ others ++ q ∷ [] = ap (λ l. rs ++ l) (riders_in-push us w) ∙ sym (append_assoc rs (riders_in us) (q ∷ [])) in
      let mine : h.master ≡ full_seat last (r ∷ rs) m known = sym (some-injective u h.master h.seat) ∙ same in
      let ruled : IsRuledAt room.cells used last m (r ∷ others) = subst (λ l. IsRuledAt room.cells used last m l) old (subst (λ (x : SeatView). IsRuledAt room.cells used x.offsets x.called (riders_in (u ∷ us))) mine h.ruled) in
      let moved : IsStanding room.cells used last n (q ∷ others) = move others (standing_from room.cells used last m (r ∷ others) ruled) in
      let full : IsStanding room.cells used last n (q ∷ (others ++ [])) = subst (λ l. IsStanding room.cells used last n (q ∷ l)) (sym (append-nil others)) moved in
      let now = ruled_from room.cells used last n (others ++ q ∷ []) (from_front others q [] room.cells used last n full) in
      let grows : (k : Known) → IsKnown (riders_in (u ∷ us)) k → IsKnown (rs ++ riders_in (us ++ w ∷ [])) k =
      λ k s. subst (λ l. IsKnown l k) (sym flat)
      (some_from_front others q [] (λ x. (x.name ≡ k.name) × HasPast k.touches x)
      (subst (λ l. IsKnown (q ∷ l) k) (sym (append-nil others))
      (some_changed (λ i x. (x.name ≡ k.name) × HasPast k.touches x) (λ i x. (x.name ≡ k.name) × HasPast k.touches x) [] r q others (λ y. (named ∙ y.0, past_more k.touches r q y.1 longer)) (λ i x y. y) (subst (λ l. IsKnown l k) old s)))) in
      record {
        master = full_seat last rs n known;
        seat = refl;
        width = h.width;
        count = ap length flat ∙ omega (arith, length-append others (q ∷ []), ap length old, h.count);
        ruled = subst (λ l. IsRuledAt room.cells used last n l) (sym flat) now;
        known = known_more (riders_in (u ∷ us)) (rs ++ riders_in (us ++ w ∷ [])) (full_seat last rs n known ∷ (us ++ w ∷ [])) grows
            (subst (λ (x : SeatView). Every (IsKnown (riders_in (u ∷ us))) x.known) same h.known.0, every_append (λ (v : SeatView). Every (IsKnown (riders_in (u ∷ us))) v.known) us (w ∷ []) h.known.1 (tt, tt));
      }

  -- a rider is dealt out
  pub deals : (id : ℕ) (v : SeatView) → id ≡ 0 → Splits (Holds room) id v (left_seat v) (right_seat v)
  deals id v first = subst (λ (k : ℕ). Splits (Holds room) k v (left_seat v) (right_seat v)) (sym first) (λ s h at. kept s.words s.views v.offsets v.riders v.called v.known h at)
    where
      kept : (words : List ℕ) (views : List SeatView) (last : OffsetWords) (riders : List RiderView) (m : Extent) (known : List Known) → IsKept room words views → get_elem? views 0 ≡ some (full_seat last riders m known)
          → IsKept room words (set views 0 (left_seat (full_seat last riders m known)) ++ right_seat (full_seat last riders m known) ∷ [])
      kept words [] last riders m known h at = absurd (some-ne-none (full_seat last riders m known) (sym at))
      kept words (u ∷ us) last riders m known h at = by_riders riders (some-injective u (full_seat last riders m known) at)
        where
          by_riders : (riders : List RiderView) → u ≡ full_seat last riders m known → IsKept room words (left_seat (full_seat last riders m known) ∷ (us ++ right_seat (full_seat last riders m known) ∷ []))
          by_riders [] same = subst (λ (x : SeatView). IsKept room words (x ∷ (us ++ spent_seat ∷ []))) same (pushed words (u ∷ us) spent_seat h refl tt)
          by_riders (r ∷ rs) same = dealt words u us last r r rs m m known h same refl ([], refl) (λ back st. st)

  -- a rider is dealt out that made a call
  pub calls : (n : Extent) (id : ℕ) (me : Me Nothing SeatView) (m : Extent) (last : OffsetWords) (r : RiderView) → id ≡ 0 → me ≡ (master_seat m last (r ∷ []), []) → RisesTo m n → Splits (Holds room) id me.0 (left_called n me.0) (right_called n me.0)
  calls n id me m last r first is le =
      subst (λ (k : ℕ). Splits (Holds room) k me.0 (left_called n me.0) (right_called n me.0)) (sym first)
      (subst (λ (x : Me Nothing SeatView). Splits (Holds room) 0 x.0 (left_called n x.0) (right_called n x.0)) (sym is) (λ s h at. kept s.words s.views h at))
    where
      kept : (words : List ℕ) (views : List SeatView) → IsKept room words views → get_elem? views 0 ≡ some (master_seat m last (r ∷ []))
          → IsKept room words (set views 0 (master_seat n last []) ++ rider_seat (called m n r) ∷ [])
      kept words [] h at = absurd (some-ne-none (master_seat m last (r ∷ [])) (sym at))
      kept words (u ∷ us) h at =
          dealt words u us last r (called m n r) [] m n [] h (some-injective u (master_seat m last (r ∷ [])) at) refl (Called m n ∷ [], refl)
          (λ back st. after_call [] r back room.cells (drop 8 words) last m n le st)

  -- a load makes a seat for nobody
  pub blanks : (slots : ℕ) (v : SeatView) → Enters (Holds room) slots 0 (λ n w. Blanks (step slots 0 0 0 none) (v, []) n (w, []))
  blanks slots v = λ s h homes bound. (spent_seat, pushed s.words s.views spent_seat h refl tt, refl)

  -- a rider's seat gives a past
  pub shows : (id : ℕ) (v : SeatView) (r : RiderView) → v ≡ rider_seat r → Splits (Holds room) id v (same_seat v) (shown_seat v)
  shows id v r is = subst (λ (x : SeatView). Splits (Holds room) id x (same_seat x) (shown_seat x)) (sym is) (λ s h at. kept s.words s.views h at)
    where
      kept : (words : List ℕ) (views : List SeatView) → IsKept room words views → get_elem? views id ≡ some (rider_seat r) → IsKept room words (set views id (rider_seat r) ++ knows_seat (past_of r) ∷ [])
      kept words views h at =
          let p = parted views id (rider_seat r) at in
          let some_one : IsKnown (p.front ++ r ∷ p.back) (past_of r) = (length p.front, r, at_place p.front r p.back, (refl, ([], refl))) in
          subst (λ vs. IsKept room words (vs ++ knows_seat (past_of r) ∷ [])) (sym (set_again views id (rider_seat r) at))
          (pushed words views (knows_seat (past_of r)) h refl (subst (λ l. IsKnown l (past_of r)) (sym p.before) some_one, tt))

  -- a past's seat gives another
  pub copies : (id : ℕ) (v : SeatView) (k : Known) → v ≡ knows_seat k → Splits (Holds room) id v (same_seat v) (copied_seat v)
  copies id v k is = subst (λ (x : SeatView). Splits (Holds room) id x (same_seat x) (copied_seat x)) (sym is) (λ s h at. kept s.words s.views h at)
    where
      kept : (words : List ℕ) (views : List SeatView) → (h : IsKept room words views) → get_elem? views id ≡ some (knows_seat k) → IsKept room words (set views id (knows_seat k) ++ knows_seat k ∷ [])
      kept words views h at =
          subst (λ vs. IsKept room words (vs ++ knows_seat k ∷ [])) (sym (set_again views id (knows_seat k) at))
          (pushed words views (knows_seat k) h refl (every_elem (λ (x : SeatView). Every (IsKnown (riders_in views)) x.known) views id (knows_seat k) h.known at))

  -- a past's seat is spent
  cleared : (words : List ℕ) (views : List SeatView) (id : ℕ) (k : Known) (h : IsKept room words views) → get_elem? views id ≡ some (knows_seat k) → IsKept room words (set views id spent_seat)
  cleared words views id k h at =
      let p = parted views id (knows_seat k) at in
      let m = master_after views id h.master (knows_seat k) spent_seat h.seat at refl refl in
      let flat : riders_in (set views id spent_seat) ≡ riders_in views = p.after spent_seat ∙ sym p.before in
      record {
        master = m.0;
        seat = m.1;
        width = h.width;
        count = ap length flat ∙ h.count;
        ruled = subst (λ l. IsRuledAt room.cells (drop 8 words) m.0.offsets m.0.called l) (sym flat) (same_master room.cells (drop 8 words) h.master m.0 (riders_in views) m.2 m.3 h.ruled);
        known = subst (λ l. AllKnown l (set views id spent_seat)) (sym flat) (every_set (λ (v : SeatView). Every (IsKnown (riders_in views)) v.known) views id spent_seat h.known tt);
      }

  -- a seat takes note of what it may know
  noted : (words : List ℕ) (views : List SeatView) (id : ℕ) (v w : SeatView) (h : IsKept room words views) → get_elem? views id ≡ some v → w.offsets ≡ v.offsets → w.called ≡ v.called → w.riders ≡ v.riders → Every (IsKnown (riders_in views)) w.known
      → IsKept room words (set views id w)
  noted words views id v w h at offsets calls same knows =
      let p = parted views id v at in
      let m = master_after views id h.master v w h.seat at offsets calls in
      let flat : riders_in (set views id w) ≡ riders_in views = p.after w ∙ ap (λ l. p.front ++ (l ++ p.back)) same ∙ sym p.before in
      record {
        master = m.0;
        seat = m.1;
        width = h.width;
        count = ap length flat ∙ h.count;
        ruled = subst (λ l. IsRuledAt room.cells (drop 8 words) m.0.offsets m.0.called l) (sym flat) (same_master room.cells (drop 8 words) h.master m.0 (riders_in views) m.2 m.3 h.ruled);
        known = subst (λ l. AllKnown l (set views id w)) (sym flat) (every_set (λ (x : SeatView). Every (IsKnown (riders_in views)) x.known) views id w h.known knows);
      }

  -- a rider's seat is told what a witness knows
  pub tells : (id : ℕ) (v : SeatView) (other : ℕ) (w : SeatView) (r : RiderView) (k : Known) → v ≡ rider_seat r → w ≡ knows_seat k → Joins (Holds room) id v other w (told_seat v w) spent_seat
  tells id v other w r k is seen =
      subst (λ (x : SeatView). Joins (Holds room) id x other w (told_seat x w) spent_seat) (sym is)
      (subst (λ (x : SeatView). Joins (Holds room) id (rider_seat r) other x (told_seat (rider_seat r) x) spent_seat) (sym seen) (λ s h at apart there. kept s.words s.views h at apart there))
    where
      kept : (words : List ℕ) (views : List SeatView) (h : IsKept room words views) → get_elem? views id ≡ some (rider_seat r) → ¬ (other ≡ id) → get_elem? (set views id (rider_seat (told k r))) other ≡ some (knows_seat k)
          → IsKept room words (set (set views id (rider_seat (told k r))) other spent_seat)
      kept words views h at apart there =
          let new : SeatView = rider_seat (told k r) in
          let knows : Every (IsKnown (riders_in views)) (k ∷ []) = every_elem (λ (x : SeatView). Every (IsKnown (riders_in views)) x.known) views other (knows_seat k) h.known (sym (set_else views id other new apart) ∙ there) in
          let mid : IsKept room words (set views id new) =
          rider_kept room words words views id r (told k r) h at refl refl (Met k.name (length k.touches) ∷ [], refl) (λ front back last m b st. after_told front r back room.cells (drop 8 words) last m k (subst (λ l. IsKnown l k) b knows.0) st) in
          cleared words (set views id new) other k mid there

  -- any seat takes what a past tells
  pub attests : (id : ℕ) (v : SeatView) (other : ℕ) (w : SeatView) (k : Known) → w ≡ knows_seat k → Joins (Holds room) id v other w (attested_seat v w) spent_seat
  attests id v other w k seen =
      subst (λ (x : SeatView). Joins (Holds room) id v other x (attested_seat v x) spent_seat) (sym seen) (λ s h at apart there. kept s.words s.views h at apart there)
    where
      kept : (words : List ℕ) (views : List SeatView) (h : IsKept room words views) → get_elem? views id ≡ some v → ¬ (other ≡ id) → get_elem? (set views id (attested_seat v (knows_seat k))) other ≡ some (knows_seat k)
          → IsKept room words (set (set views id (attested_seat v (knows_seat k))) other spent_seat)
      kept words views h at apart there =
          let new : SeatView = attested_seat v (knows_seat k) in
          let knows : Every (IsKnown (riders_in views)) (k ∷ []) = every_elem (λ (x : SeatView). Every (IsKnown (riders_in views)) x.known) views other (knows_seat k) h.known (sym (set_else views id other new apart) ∙ there) in
          let own : Every (IsKnown (riders_in views)) v.known = every_elem (λ (x : SeatView). Every (IsKnown (riders_in views)) x.known) views id v h.known at in
          let mid : IsKept room words (set views id new) = noted words views id v new h at refl refl refl (knows.0, own) in
          cleared words (set views id new) other k mid there

  -- and taken back in
  pub joins : (id : ℕ) (v : SeatView) (other : ℕ) (w : SeatView) (r : RiderView) → id ≡ 0 → w ≡ rider_seat r → Joins (Holds room) id v other w (joined_seat v w) spent_seat
  joins id v other w r first is =
      subst (λ (k : ℕ). Joins (Holds room) k v other w (joined_seat v w) spent_seat) (sym first)
      (subst (λ (x : SeatView). Joins (Holds room) 0 v other x (joined_seat v x) spent_seat) (sym is) (λ s h at apart there. kept s.words s.views other h at apart there))
    where
      kept : (words : List ℕ) (views : List SeatView) (other : ℕ) → IsKept room words views → get_elem? views 0 ≡ some v → ¬ (other ≡ 0) → get_elem? (set views 0 (joined_seat v (rider_seat r))) other ≡ some (rider_seat r)
          → IsKept room words (set (set views 0 (joined_seat v (rider_seat r))) other spent_seat)
      kept words [] other h at apart there = absurd (some-ne-none v (sym at))
      kept words (u ∷ us) zero h at apart there = absurd (apart refl)
      kept words (u ∷ us) (suc k) h at apart there =
          let same : u ≡ v = some-injective u v at in
          let p = parted us k (rider_seat r) there in
          let front = v.riders ++ p.front in
          let gone : riders_in (set us k spent_seat) ≡ p.front ++ p.back = p.after spent_seat in
          let old : riders_in (u ∷ us) ≡ front ++ r ∷ p.back = ap (λ (x : SeatView). x.riders ++ riders_in us) same ∙ ap (λ l. v.riders ++ l) p.before ∙ sym (append_assoc v.riders p.front (r ∷ p.back)) in
          let flat : r ∷ (v.riders ++ riders_in (set us k spent_seat)) ≡ r ∷ (front ++ p.back) = ap (λ l. r ∷ l) (ap (λ l. v.riders ++ l) gone ∙ sym (append_assoc v.riders p.front p.back)) in
          let mine : h.master ≡ v = sym (some-injective u h.master h.seat) ∙ same in
          let used = drop 8 words in
          let ruled = subst (λ l. IsRuledAt room.cells used v.offsets v.called l) old (subst (λ (x : SeatView). IsRuledAt room.cells used x.offsets x.called (riders_in (u ∷ us))) mine h.ruled) in
          let now = ruled_from room.cells used v.offsets v.called (r ∷ (front ++ p.back)) (to_front front r p.back room.cells used v.offsets v.called (standing_from room.cells used v.offsets v.called (front ++ r ∷ p.back) ruled)) in
          let grows : (x : Known) → IsKnown (riders_in (u ∷ us)) x → IsKnown (r ∷ (v.riders ++ riders_in (set us k spent_seat))) x =
          λ x s. subst (λ l. IsKnown l x) (sym flat) (some_to_front front r p.back (λ y. (y.name ≡ x.name) × HasPast x.touches y) (subst (λ l. IsKnown l x) old s)) in
          record {
            master = joined_seat v (rider_seat r);
            seat = refl;
            width = h.width;
            count = ap length flat ∙ omega (arith, length-append front p.back, length-append front (r ∷ p.back), ap length old, h.count);
            ruled = subst (λ l. IsRuledAt room.cells used v.offsets v.called l) (sym flat) now;
            known = known_more (riders_in (u ∷ us)) (r ∷ (v.riders ++ riders_in (set us k spent_seat))) (joined_seat v (rider_seat r) ∷ set us k spent_seat) grows
                (subst (λ (x : SeatView). Every (IsKnown (riders_in (u ∷ us))) x.known) same h.known.0, every_set (λ (x : SeatView). Every (IsKnown (riders_in (u ∷ us))) x.known) us k spent_seat h.known.1 tt);
          }

  -- at the end the master's seat stands for all riders, and knows what the pasts tell that it took back
  pub ends : (words : List ℕ) (slots : List Nothing) (m : Extent) (last : OffsetWords) (riders : List RiderView) (ks : List Known) (id : ℕ) (v : SeatView) → id ≡ 0 → v ≡ full_seat last riders m ks → length riders ≡ room.riders
      → Final (Seen (Holds room) id v) words slots → IsRuledAt room.cells (drop 8 words) last m riders × Every (IsKnown riders) ks
  ends words slots m last riders ks id v first is all f =
      let s = f.0 in
      let at : get_elem? s.views 0 ≡ some (full_seat last riders m ks) = ap (get_elem? s.views) (sym first) ∙ f.1.1 ∙ ap some is in
      let both = told_at s.words s.views f.1.0 at in
      (subst (λ ws. IsRuledAt room.cells (drop 8 ws) last m riders) f.2 both.0, both.1)
    where
      none_left : (xs ys : List RiderView) → length (xs ++ ys) ≡ length xs → xs ++ ys ≡ xs
      none_left xs [] e = append-nil xs
      none_left xs (y ∷ ys) e = absurd (omega (arith, length-append xs (y ∷ ys)))

      told_at : (words : List ℕ) (views : List SeatView) → IsKept room words views → get_elem? views 0 ≡ some (full_seat last riders m ks) → IsRuledAt room.cells (drop 8 words) last m riders × Every (IsKnown riders) ks
      told_at words [] h at = absurd (some-ne-none (full_seat last riders m ks) (sym at))
      told_at words (u ∷ us) h at =
          let same : u ≡ full_seat last riders m ks = some-injective u (full_seat last riders m ks) at in
          let mine : h.master ≡ full_seat last riders m ks = sym (some-injective u h.master h.seat) ∙ same in
          let flat : riders_in (u ∷ us) ≡ riders ++ riders_in us = ap (λ (x : SeatView). x.riders ++ riders_in us) same in
          let whole : riders ++ riders_in us ≡ riders = none_left riders (riders_in us) (sym (ap length flat) ∙ h.count ∙ sym all) in (
            subst (λ l. IsRuledAt room.cells (drop 8 words) last m l) (flat ∙ whole) (subst (λ (x : SeatView). IsRuledAt room.cells (drop 8 words) x.offsets x.called (riders_in (u ∷ us))) mine h.ruled),
            subst (λ l. Every (IsKnown l) ks) (flat ∙ whole) (subst (λ (x : SeatView). Every (IsKnown (riders_in (u ∷ us))) x.known) same h.known.0),
          )

  -- nothing was done yet
  pub begins : (words : List ℕ) → words ≡ replicate (room.cells + 27) 0 → Holds room (opening words [] (first_seat room))
  begins words is = subst (λ ws. IsKept room ws (first_seat room ∷ [])) (sym is)
      record {
        master = first_seat room;
        seat = refl;
        width = length-replicate (room.cells + 27) 0;
        count = ap length flat ∙ long room.riders 0;
        ruled = subst (λ l. IsRuledAt room.cells used no_offsets no_extent l) (sym flat) (ruled_from room.cells used no_offsets no_extent (fresh_from 0 room.riders) standing);
        known = (tt, tt);
      }
    where
      flat : fresh_from 0 room.riders ++ [] ≡ fresh_from 0 room.riders
      flat = append-nil (fresh_from 0 room.riders)

      long : (n k : ℕ) → length (fresh_from k n) ≡ n
      long zero k = refl
      long (suc n) k = ap suc (long n (suc k))

      zeros : (n i : ℕ) → slice_index (replicate n 0) i ≡ 0
      zeros zero i = refl
      zeros (suc n) zero = refl
      zeros (suc n) (suc i) = zeros n i

      used : List ℕ
      used = drop 8 (replicate (room.cells + 27) 0)

      empty : (i : ℕ) → slice_index used i ≡ 0
      empty i = sym (line_at (replicate (room.cells + 27) 0) (8 + i) i refl) ∙ zeros (room.cells + 27) (8 + i)

      each : (P : RiderView → Type 0) → ((k : ℕ) → P (fresh k)) → (n k : ℕ) → Every P (fresh_from k n)
      each P p zero k = tt
      each P p (suc n) k = (p k, each P p n (suc k))

      untouched : (n k i : ℕ) (r : RiderView) → slice_get (fresh_from k n) i ≡ Some r → (r.touches ≡ []) × (r.name ≡ k + i)
      untouched zero k i r e = absurd cc
      untouched (suc n) k zero r e = let is : fresh k ≡ r = cc e in (sym (ap (λ (x : RiderView). x.touches) is), omega (arith, ap (λ (x : RiderView). x.name) is))
      untouched (suc n) k (suc i) r e = let h = untouched n (suc k) i r e in (h.0, omega (arith, h.1))

      order : HasOneOrder room.cells used (fresh_from 0 room.riders)
      order = (
        [],
        record {
          serial = tt;
          each = λ i r e. (untouched room.riders 0 i r e).0;
          theirs = tt;
          last = λ c less. empty c;
          met = tt;
          names = λ i j r q a b e. omega (arith, (untouched room.riders 0 i r a).1, (untouched room.riders 0 j q b).1, e);
        },
      )

      standing : IsStanding room.cells used no_offsets no_extent (fresh_from 0 room.riders)
      standing = record {
        order = order;
        called_is = refl;
        read_only = empty (room.cells + 8);
        head = empty (room.cells + 9);
        ended = empty (room.cells + 10);
        safe_read_only = empty (room.cells + 11);
        never_falls = (no_stores, no_stores, no_stores, no_stores);
        offset = each (Below no_offsets) (λ k. (no_loads, no_loads, no_loads, no_loads)) room.riders 0;
      }
