-- Each step of the table keeps its rule, whatever the table is when the step is taken.
use Rattle.std.proofs.Common.{◌≡◌, ℕ, zero, suc, List, [], ◌∷◌, ◌++◌, length, set, replicate, refl, ap, sym, ◌∙◌, subst, arith, append_assoc, length-append}
use Rattle.std.proofs.lemmas.List.{append-nil, length-replicate}
use mathlib.Core.Option.{none, some, some-injective, some-ne-none}
use lib.ListN.{get_elem?}
use Rattle.std.specs.List.{AllByRecursion as Every}
use Rattle.atomic_table.specs.Table.{step, keeps, Allows, Me, Splits, Joins, opening, Final, Seen}
use Rattle.hl_model.specs.declared.step.Step.{Step}
use Rattle.hl_history.specs.declared.view.Entry.{Entry}
use Rattle.hl_history.specs.declared.view.SeatView.{SeatView}
use Rattle.hl_history.specs.declared.view.Room.{Room}
use Rattle.hl_history.specs.Lists.{entry, IsOf, IsOneList}
use Rattle.hl_history.specs.Seats.{seat_of, record_seat, spent_seat, first_seat, records_in, IsKept, Holds, left_seat, right_seat, left_with, right_with, joined_seat, Looks}
use Rattle.hl_history.specs.States.{IsRecorderSeat}
use Rattle.hl_history.proofs.Calls.{entered, to_front, to_back, every_front, nothing}

abbrev Nothing : Type 0
Nothing = Unit {0}

-- The records of one seat stand between those of the others
record Parted (views : List SeatView) (id : ℕ) (v : SeatView) : Type 0 where
  front : List (List Entry)
  back : List (List Entry)
  before : records_in views ≡ front ++ (v.records ++ back)
  after : (w : SeatView) → records_in (set views id w) ≡ front ++ (w.records ++ back)

parted : (views : List SeatView) (id : ℕ) (v : SeatView) → get_elem? views id ≡ some v → Parted views id v
parted [] id v e = absurd (some-ne-none v (sym e))
parted (x ∷ xs) zero v e = record { front = []; back = records_in xs; before = ap (λ (u : SeatView). u.records ++ records_in xs) (some-injective x v e); after = λ w. refl }
parted (x ∷ xs) (suc id) v e =
    let p = parted xs id v e in
    record {
      front = x.records ++ p.front;
      back = p.back;
      before = ap (λ l. x.records ++ l) p.before ∙ sym (append_assoc x.records p.front (v.records ++ p.back));
      after = λ w. ap (λ l. x.records ++ l) (p.after w) ∙ sym (append_assoc x.records p.front (w.records ++ p.back));
    }

records_in-push : (views : List SeatView) (w : SeatView) → records_in (views ++ w ∷ []) ≡ records_in views ++ w.records
records_in-push [] w = append-nil w.records
records_in-push (u ∷ us) w = ap (λ l. u.records ++ l) (records_in-push us w) ∙ sym (append_assoc u.records (records_in us) w.records)

-- what the rule says where the recorder's seat is known
one_at : (room : Room) (u : SeatView) (us : List SeatView) (list : List Step) (ds : List (List Entry)) → IsKept room (u ∷ us) → u ≡ seat_of list ds → IsOneList list (ds ++ records_in us)
one_at room u us list ds h same =
    let mine : h.recorder ≡ seat_of list ds = sym (some-injective u h.recorder h.seat) ∙ same in
    let flat : records_in (u ∷ us) ≡ ds ++ records_in us = ap (λ (x : SeatView). x.records ++ records_in us) same in
    subst (λ l. IsOneList list l) flat (subst (λ (x : SeatView). IsOneList x.list (records_in (u ∷ us))) mine h.one)

-- the recorder's first record is dealt out, and may change with the list
dealt : (room : Room) (u : SeatView) (us : List SeatView) (list list' : List Step) (d d' : List Entry) (ds : List (List Entry)) → IsKept room (u ∷ us) → u ≡ seat_of list (d ∷ ds)
    → ((others : List (List Entry)) → IsOneList list (d ∷ others) → IsOneList list' (d' ∷ others))
    → IsKept room (seat_of list' ds ∷ (us ++ record_seat d' ∷ []))
dealt room u us list list' d d' ds h same move =
    let flat : ds ++ records_in (us ++ record_seat d' ∷ []) ≡ (ds ++ records_in us) ++ d' ∷ [] = ap (λ l. ds ++ l) (records_in-push us (record_seat d')) ∙ sym (append_assoc ds (records_in us) (d' ∷ [])) in
    let old : length (records_in (u ∷ us)) ≡ length (d ∷ (ds ++ records_in us)) = ap (λ (x : SeatView). length (x.records ++ records_in us)) same in
    record {
      recorder = seat_of list' ds;
      seat = refl;
      count = ap length flat ∙ omega (arith, length-append (ds ++ records_in us) (d' ∷ []), old, h.count);
      one = subst (λ l. IsOneList list' l) (sym flat) (to_back list' d' (ds ++ records_in us) (move (ds ++ records_in us) (one_at room u us list (d ∷ ds) h same)));
    }

module _ (room : Room) where
  -- a record is dealt out as it is
  pub deals : (id : ℕ) (v : SeatView) → id ≡ 0 → Splits (Holds room) id v (left_seat v) (right_seat v)
  deals id v first = subst (λ (k : ℕ). Splits (Holds room) k v (left_seat v) (right_seat v)) (sym first) (λ s h at. kept s.views v.list v.records h at)
    where
      kept : (views : List SeatView) (list : List Step) (ds : List (List Entry)) → IsKept room views → get_elem? views 0 ≡ some (seat_of list ds)
          → IsKept room (set views 0 (left_seat (seat_of list ds)) ++ right_seat (seat_of list ds) ∷ [])
      kept [] list ds h at = absurd (some-ne-none (seat_of list ds) (sym at))
      kept (u ∷ us) list [] h at =
          let same = some-injective u (seat_of list []) at in
          let flat : records_in (us ++ spent_seat ∷ []) ≡ records_in us = records_in-push us spent_seat ∙ append-nil (records_in us) in
          record {
            recorder = seat_of list [];
            seat = refl;
            count = ap length flat ∙ sym (ap (λ (x : SeatView). length (x.records ++ records_in us)) same) ∙ h.count;
            one = subst (λ l. IsOneList list l) (sym flat) (one_at room u us list [] h same);
          }
      kept (u ∷ us) list (d ∷ ds) h at = dealt room u us list list d d ds h (some-injective u (seat_of list (d ∷ ds)) at) (λ others one. one)

  -- a record is dealt out with a call more
  pub enters : (steps : List Step) (id : ℕ) (me : Me Nothing SeatView) (list : List Step) (d : List Entry) → IsRecorderSeat list (d ∷ []) id me → Splits (Holds room) id me.0 (left_with steps me.0) (right_with steps me.0)
  enters steps id me list d is =
      subst (λ (k : ℕ). Splits (Holds room) k me.0 (left_with steps me.0) (right_with steps me.0)) (sym is.first)
      (subst (λ (m : Me Nothing SeatView). Splits (Holds room) 0 m.0 (left_with steps m.0) (right_with steps m.0)) (sym is.knows) (λ s h at. kept s.views h at))
    where
      kept : (views : List SeatView) → IsKept room views → get_elem? views 0 ≡ some (seat_of list (d ∷ []))
          → IsKept room (set views 0 (seat_of (list ++ steps) []) ++ record_seat (entry list steps ∷ d) ∷ [])
      kept [] h at = absurd (some-ne-none (seat_of list (d ∷ [])) (sym at))
      kept (u ∷ us) h at = dealt room u us list (list ++ steps) d (entry list steps ∷ d) [] h (some-injective u (seat_of list (d ∷ [])) at) (λ others one. entered list steps d others one)

  -- and taken back in
  pub joins : (id : ℕ) (v : SeatView) (other : ℕ) (w : SeatView) (d : List Entry) → id ≡ 0 → w ≡ record_seat d → Joins (Holds room) id v other w (joined_seat v w) spent_seat
  joins id v other w d first is =
      subst (λ (k : ℕ). Joins (Holds room) k v other w (joined_seat v w) spent_seat) (sym first)
      (subst (λ (x : SeatView). Joins (Holds room) 0 v other x (joined_seat v x) spent_seat) (sym is) (λ s h at apart there. kept s.views other h at apart there))
    where
      kept : (views : List SeatView) (other : ℕ) → IsKept room views → get_elem? views 0 ≡ some v → ¬ (other ≡ 0) → get_elem? (set views 0 (joined_seat v (record_seat d))) other ≡ some (record_seat d)
          → IsKept room (set (set views 0 (joined_seat v (record_seat d))) other spent_seat)
      kept [] other h at apart there = absurd (some-ne-none v (sym at))
      kept (u ∷ us) zero h at apart there = absurd (apart refl)
      kept (u ∷ us) (suc k) h at apart there =
          let same : u ≡ v = some-injective u v at in
          let p = parted us k (record_seat d) there in
          let ds = v.records in
          let old : ds ++ records_in us ≡ (ds ++ p.front) ++ d ∷ p.back = ap (λ l. ds ++ l) p.before ∙ sym (append_assoc ds p.front (d ∷ p.back)) in
          let flat : d ∷ (ds ++ records_in (set us k spent_seat)) ≡ d ∷ ((ds ++ p.front) ++ p.back) = ap (λ l. d ∷ l) (ap (λ l. ds ++ l) (p.after spent_seat) ∙ sym (append_assoc ds p.front p.back)) in
          let whole : length (records_in (u ∷ us)) ≡ length (ds ++ records_in us) = ap (λ (x : SeatView). length (x.records ++ records_in us)) same in
          let one = subst (λ l. IsOneList v.list l) old (one_at room u us v.list ds h same) in
          record {
            recorder = joined_seat v (record_seat d);
            seat = refl;
            count = ap length flat ∙ omega (arith, length-append (ds ++ p.front) p.back, length-append (ds ++ p.front) (d ∷ p.back), ap length old, whole, h.count);
            one = subst (λ l. IsOneList v.list l) (sym flat) (to_front v.list (ds ++ p.front) d p.back one);
          }

  -- the recorder's seat looks
  pub looks : (slots id : ℕ) (me : Me Nothing SeatView) (list : List Step) (ds : List (List Entry)) → IsRecorderSeat list ds id me
      → Allows (Holds room) slots id me 0 (λ n. n) (Looks (step slots 0 0 0 none) me)
  looks slots id me list ds is =
      subst (λ (k : ℕ). Allows (Holds room) slots k me 0 (λ n. n) (Looks (step slots 0 0 0 none) me)) (sym is.first)
      (subst (λ (m : Me Nothing SeatView). Allows (Holds room) slots 0 m 0 (λ n. n) (Looks (step slots 0 0 0 none) m)) (sym is.knows)
      (λ s h homes at bound. (seat_of list ds, keeps, tt, kept s.views h at, (refl, each s.views h at))))
    where
      kept : (views : List SeatView) → IsKept room views → get_elem? views 0 ≡ some (seat_of list ds) → IsKept room (set views 0 (seat_of list ds))
      kept [] h at = absurd (some-ne-none (seat_of list ds) (sym at))
      kept (u ∷ us) h at = subst (λ (x : SeatView). IsKept room (x ∷ us)) (some-injective u (seat_of list ds) at) h

      each : (views : List SeatView) → IsKept room views → get_elem? views 0 ≡ some (seat_of list ds) → Every (IsOf list) ds
      each [] h at = absurd (some-ne-none (seat_of list ds) (sym at))
      each (u ∷ us) h at = every_front (IsOf list) ds (records_in us) (one_at room u us list ds h (some-injective u (seat_of list ds) at)).each

  -- at the end the recorder's seat stands for all records
  pub ends : (words : List ℕ) (slots : List Nothing) (list : List Step) (ds : List (List Entry)) (id : ℕ) (me : Me Nothing SeatView) → IsRecorderSeat list ds id me → length ds ≡ room.records
      → Final (Seen (Holds room) id me.0) words slots → IsOneList list ds
  ends words slots list ds id me is all f =
      one_in f.0.views f.1.0 (ap (get_elem? f.0.views) (sym is.first) ∙ f.1.1 ∙ ap (λ (m : Me Nothing SeatView). some m.0) is.knows)
    where
      none_left : (xs ys : List (List Entry)) → length (xs ++ ys) ≡ length xs → xs ++ ys ≡ xs
      none_left xs [] e = append-nil xs
      none_left xs (y ∷ ys) e = absurd (omega (arith, length-append xs (y ∷ ys), e))

      one_in : (views : List SeatView) → IsKept room views → get_elem? views 0 ≡ some (seat_of list ds) → IsOneList list ds
      one_in [] h at = absurd (some-ne-none (seat_of list ds) (sym at))
      one_in (u ∷ us) h at =
          let same : u ≡ seat_of list ds = some-injective u (seat_of list ds) at in
          let flat : length (records_in (u ∷ us)) ≡ length (ds ++ records_in us) = ap (λ (x : SeatView). length (x.records ++ records_in us)) same in
          subst (λ l. IsOneList list l) (none_left ds (records_in us) (sym flat ∙ h.count ∙ sym all)) (one_at room u us list ds h same)

  -- nothing was done yet
  pub begins : (words : List ℕ) → Holds room (opening words [] (first_seat room))
  begins words =
      let flat : replicate room.records [] ++ [] ≡ replicate room.records [] = append-nil (replicate room.records []) in
      record {
        recorder = first_seat room;
        seat = refl;
        count = ap length flat ∙ length-replicate room.records [];
        one = subst (λ l. IsOneList [] l) (sym flat) (nothing room.records);
      }
