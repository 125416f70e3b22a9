-- The rule by the one order of all touches, from which the clauses on each cell and each rider follow, and what each step does to it.
use Rattle.std.proofs.Common.{◌≡◌, ℕ, zero, suc, ◌+◌, ◌<◌, ◌≤◌, ◌⊎◌, List, [], ◌∷◌, ◌++◌, length, set, refl, ap, sym, ◌∙◌, inl, inr, ⊎_elim, subst, arith, length-append}
use Rattle.std.specs.Prelude.{slice_index}
use Rattle.std.specs.List.{AllByRecursion as Every, Contains}
use Rattle.hl_model.specs.Lists.{greatest}
use Rattle.std.proofs.lemmas.List.{get_or-set_same, get_or-set_other}
use Rattle.hl_words.specs.declared.view.Touch.{Touch}
use Rattle.hl_words.specs.declared.view.Touch.TheVariants.{Stored, Loaded, Changed, Called, Looked, Met}
use Rattle.hl_words.specs.declared.view.Extent.{Extent}
use Rattle.hl_words.specs.declared.view.Known.{Known}
use Rattle.hl_words.specs.declared.view.OffsetWords.{OffsetWords}
use Rattle.hl_words.specs.declared.view.RiderView.{RiderView}
use Rattle.hl_words.specs.declared.which.Which.{Which}
use Rattle.hl_words.specs.declared.which.Which.TheVariants.{ReadOnly, Head, Ended, SafeReadOnly}
use Rattle.hl_words.specs.Views.{newest, offset_of, greatest_of, with_offset, place_of, touched, with_loaded, looked, called, told}
use Rattle.hl_words.specs.Rule.{SomeRider, called_by, last_called, RisesTo, IsLookUpTo, HasOneOrder, NeverFalls, AreLoads, IsRuledAt}
use Rattle.hl_words.specs.Seats.{IsKnown}
use Rattle.hl_words.proofs.Cut.{every_front, every_back, every_append, every_weaker, every_at, every_from}
use Rattle.hl_words.proofs.Orders.{order_more, order_every, met_last, put_last, order_to_front, order_from_front}
use Rattle.hl_words.proofs.Lawful.{cell_from, lawful_from}

-- what the rider loaded of the offset words are loads of these stores
abbrev pub Below : OffsetWords → RiderView → Type 0
Below last r = AreLoads last.read_only (looked r.touches).read_only × AreLoads last.head (looked r.touches).head × AreLoads last.ended (looked r.touches).ended × AreLoads last.safe_read_only (looked r.touches).safe_read_only

-- the newest value of a word is 0 or one of its stores
newest_stored : (stores : List ℕ) → (newest stores ≡ 0) ⊎ Contains stores (newest stores)
newest_stored [] = inl refl
newest_stored (x ∷ before) = inr (0, omega arith, refl)

-- nothing was loaded or stored yet
pub no_loads : AreLoads [] []
unfolding greatest
no_loads = (omega arith, tt)

pub no_stores : NeverFalls []
no_stores = λ i j d lt within. absurd (omega arith)

-- one more load, of the newest value
load_newest : (stores loads : List ℕ) (x : ℕ) → x ≡ newest stores → AreLoads stores loads → AreLoads stores (x ∷ loads)
unfolding greatest
load_newest stores loads x is h =
    (omega (arith, is, h.0), (subst (λ v. (v ≡ 0) ⊎ Contains stores v) (sym is) (newest_stored stores), h.1))

-- one more store, which isn't below the newest
store_more : (stores loads : List ℕ) (x : ℕ) → newest stores ≤ x → AreLoads stores loads → AreLoads (x ∷ stores) loads
store_more stores loads x le h = (
  omega (arith, le, h.0),
  every_weaker (λ v. (v ≡ 0) ⊎ Contains stores v) (λ v. (v ≡ 0) ⊎ Contains (x ∷ stores) v) loads
      (λ v one. ⊎_elim (λ z. inl z) (λ s. inr (suc s.0, omega (arith, s.1), s.2)) one) h.1,
)

-- the word does not fall
store_rises : (stores : List ℕ) (x : ℕ) → newest stores ≤ x → NeverFalls stores → NeverFalls (x ∷ stores)
store_rises [] x le h i j d lt within = absurd (omega arith)
store_rises (y ∷ before) x le h i zero d lt within = absurd (omega arith)
store_rises (y ∷ before) x le h zero (suc zero) d lt within = le
store_rises (y ∷ before) x le h zero (suc (suc j)) d lt within = omega (arith, le, h 0 (suc j) d (omega arith) (omega arith))
store_rises (y ∷ before) x le h (suc i) (suc j) d lt within = h i j d (omega arith) (omega arith)

-- one load more of a word of the master's
more_looked : (which w : Which) (y : ℕ) (o : OffsetWords) → (greatest_of which o ≤ greatest_of which (with_offset w y o)) × (w ≡ which → y ≤ greatest_of which (with_offset w y o))
unfolding greatest
more_looked ReadOnly ReadOnly y o = (omega arith, λ e. omega arith)
more_looked ReadOnly Head y o = (omega arith, λ e. absurd (cc e))
more_looked ReadOnly Ended y o = (omega arith, λ e. absurd (cc e))
more_looked ReadOnly SafeReadOnly y o = (omega arith, λ e. absurd (cc e))
more_looked Head ReadOnly y o = (omega arith, λ e. absurd (cc e))
more_looked Head Head y o = (omega arith, λ e. omega arith)
more_looked Head Ended y o = (omega arith, λ e. absurd (cc e))
more_looked Head SafeReadOnly y o = (omega arith, λ e. absurd (cc e))
more_looked Ended ReadOnly y o = (omega arith, λ e. absurd (cc e))
more_looked Ended Head y o = (omega arith, λ e. absurd (cc e))
more_looked Ended Ended y o = (omega arith, λ e. omega arith)
more_looked Ended SafeReadOnly y o = (omega arith, λ e. absurd (cc e))
more_looked SafeReadOnly ReadOnly y o = (omega arith, λ e. absurd (cc e))
more_looked SafeReadOnly Head y o = (omega arith, λ e. absurd (cc e))
more_looked SafeReadOnly Ended y o = (omega arith, λ e. absurd (cc e))
more_looked SafeReadOnly SafeReadOnly y o = (omega arith, λ e. omega arith)

-- each load of such a word gave no more than the greatest
looks_up_to : (which : Which) (x : ℕ) (l : List Touch) → greatest_of which (looked l) ≤ x → Every (IsLookUpTo which x) l
looks_up_to which x [] le = tt
looks_up_to which x (Stored d v ∷ before) le = (tt, looks_up_to which x before le)
looks_up_to which x (Loaded d v ∷ before) le = (tt, looks_up_to which x before le)
looks_up_to which x (Changed d found v ∷ before) le = (tt, looks_up_to which x before le)
looks_up_to which x (Called met left ∷ before) le = (tt, looks_up_to which x before le)
looks_up_to which x (Looked w y ∷ before) le =
    let more = more_looked which w y (looked before) in
    ((λ e. omega (arith, more.1 e, le)), looks_up_to which x before (omega (arith, more.0, le)))
looks_up_to which x (Met name count ∷ before) le = (tt, looks_up_to which x before le)

pub record IsStanding (cells : ℕ) (words : List ℕ) (last : OffsetWords) (m : Extent) (riders : List RiderView) : Type 0 where
  pub order : HasOneOrder cells words riders
  pub called_is : last_called order.0 ≡ m
  pub read_only : slice_index words (cells + 8) ≡ newest last.read_only
  pub head : slice_index words (cells + 9) ≡ newest last.head
  pub ended : slice_index words (cells + 10) ≡ newest last.ended
  pub safe_read_only : slice_index words (cells + 11) ≡ newest last.safe_read_only
  pub never_falls : NeverFalls last.read_only × NeverFalls last.head × NeverFalls last.ended × NeverFalls last.safe_read_only
  pub offset : Every (Below last) riders

-- the two forms of the rule say the same
pub standing_from : (cells : ℕ) (words : List ℕ) (last : OffsetWords) (m : Extent) (riders : List RiderView) → IsRuledAt cells words last m riders → IsStanding cells words last m riders
standing_from cells words last m riders h =
    record {
      order = h.rule.order;
      called_is = h.called_is;
      read_only = h.rule.read_only;
      head = h.rule.head;
      ended = h.rule.ended;
      safe_read_only = h.rule.safe_read_only;
      never_falls = h.rule.never_falls;
      offset = every_from (Below last) riders h.rule.offset;
    }

pub ruled_from : (cells : ℕ) (words : List ℕ) (last : OffsetWords) (m : Extent) (riders : List RiderView) → IsStanding cells words last m riders → IsRuledAt cells words last m riders
ruled_from cells words last m riders h =
    record {
      rule = record {
        order = h.order;
        cell = cell_from cells words riders h.order;
        load = lawful_from cells words riders h.order;
        read_only = h.read_only;
        head = h.head;
        ended = h.ended;
        safe_read_only = h.safe_read_only;
        never_falls = h.never_falls;
        offset = every_at (Below last) riders h.offset;
      };
      called_is = h.called_is;
    }

module _ (front : List RiderView) (r : RiderView) (back : List RiderView) where
  -- one rider comes to the front
  pub to_front : (cells : ℕ) (words : List ℕ) (last : OffsetWords) (m : Extent) → IsStanding cells words last m (front ++ r ∷ back) → IsStanding cells words last m (r ∷ front ++ back)
  to_front cells words last m h =
      let b = every_back (Below last) front (r ∷ back) h.offset in
      let o = order_to_front front r back cells words h.order in
      record {
        order = o.0;
        called_is = o.1 ∙ h.called_is;
        read_only = h.read_only;
        head = h.head;
        ended = h.ended;
        safe_read_only = h.safe_read_only;
        never_falls = h.never_falls;
        offset = (b.0, every_append (Below last) front back (every_front (Below last) front (r ∷ back) h.offset) b.1);
      }

  -- or goes from it
  pub from_front : (cells : ℕ) (words : List ℕ) (last : OffsetWords) (m : Extent) → IsStanding cells words last m (r ∷ front ++ back) → IsStanding cells words last m (front ++ r ∷ back)
  from_front cells words last m h =
      let o = order_from_front front r back cells words h.order in
      record {
        order = o.0;
        called_is = o.1 ∙ h.called_is;
        read_only = h.read_only;
        head = h.head;
        ended = h.ended;
        safe_read_only = h.safe_read_only;
        never_falls = h.never_falls;
        offset = every_append (Below last) front (r ∷ back) (every_front (Below last) front back h.offset.1) (h.offset.0, every_back (Below last) front back h.offset.1);
      }

  -- the rider's view changes to q, and the words to `after`
  changed : (cells : ℕ) (words after : List ℕ) (last : OffsetWords) (m : Extent) (t : Touch) (q : RiderView) → (h : IsStanding cells words last m (front ++ r ∷ back))
      → (o : HasOneOrder cells after (front ++ q ∷ back)) × (last_called o.0 ≡ called_by t (last_called h.order.0))
      → (slice_index after (cells + 8) ≡ slice_index words (cells + 8)) → (slice_index after (cells + 9) ≡ slice_index words (cells + 9)) → (slice_index after (cells + 10) ≡ slice_index words (cells + 10)) → (slice_index after (cells + 11) ≡ slice_index words (cells + 11))
      → Below last q
      → IsStanding cells after last (called_by t m) (front ++ q ∷ back)
  changed cells words after last m t q h order read_only head ended safe below =
      record {
        order = order.0;
        called_is = order.1 ∙ ap (called_by t) h.called_is;
        read_only = read_only ∙ h.read_only;
        head = head ∙ h.head;
        ended = ended ∙ h.ended;
        safe_read_only = safe ∙ h.safe_read_only;
        never_falls = h.never_falls;
        offset = every_append (Below last) front (q ∷ back) (every_front (Below last) front (r ∷ back) h.offset) (below, (every_back (Below last) front (r ∷ back) h.offset).1);
      }

  -- a store into a cell
  pub after_store : (cells : ℕ) (words : List ℕ) (last : OffsetWords) (m : Extent) (c v : ℕ) → c < cells → length words ≡ cells + 19
      → IsStanding cells words last m (front ++ r ∷ back) → IsStanding cells (set words c v) last m (front ++ touched (Stored c v) r ∷ back)
  after_store cells words last m c v less width h =
      let q = touched (Stored c v) r in
      changed cells words (set words c v) last m (Stored c v) q h
      (order_more cells words (set words c v) front r q back (Stored c v) refl refl h.order tt tt (put_last cells words c v less width h.order.0 h.order.1.last))
      (get_or-set_other words c (cells + 8) v 0 (λ e. omega arith))
      (get_or-set_other words c (cells + 9) v 0 (λ e. omega arith))
      (get_or-set_other words c (cells + 10) v 0 (λ e. omega arith))
      (get_or-set_other words c (cells + 11) v 0 (λ e. omega arith))
      (every_back (Below last) front (r ∷ back) h.offset).0

  -- a cell found, and changed in the same step
  pub after_change : (cells : ℕ) (words : List ℕ) (last : OffsetWords) (m : Extent) (c found v : ℕ) → c < cells → length words ≡ cells + 19 → found ≡ slice_index words c
      → IsStanding cells words last m (front ++ r ∷ back) → IsStanding cells (set words c v) last m (front ++ touched (Changed c found v) r ∷ back)
  after_change cells words last m c found v less width is h =
      let t = Changed c found v in
      let q = touched t r in
      changed cells words (set words c v) last m t q h
      (order_more cells words (set words c v) front r q back t refl refl h.order (is ∙ h.order.1.last c less) tt (put_last cells words c v less width h.order.0 h.order.1.last))
      (get_or-set_other words c (cells + 8) v 0 (λ e. omega arith))
      (get_or-set_other words c (cells + 9) v 0 (λ e. omega arith))
      (get_or-set_other words c (cells + 10) v 0 (λ e. omega arith))
      (get_or-set_other words c (cells + 11) v 0 (λ e. omega arith))
      (every_back (Below last) front (r ∷ back) h.offset).0

  -- a load of a cell
  pub after_load : (cells : ℕ) (words : List ℕ) (last : OffsetWords) (m : Extent) (c found : ℕ) → c < cells → found ≡ slice_index words c
      → IsStanding cells words last m (front ++ r ∷ back) → IsStanding cells words last m (front ++ touched (Loaded c found) r ∷ back)
  after_load cells words last m c found less is h =
      let t = Loaded c found in
      let q = touched t r in
      changed cells words words last m t q h
      (order_more cells words words front r q back t refl refl h.order (is ∙ h.order.1.last c less) tt h.order.1.last)
      refl
      refl
      refl
      refl
      (every_back (Below last) front (r ∷ back) h.offset).0

  -- a call that met what the newest one left
  pub after_call : (cells : ℕ) (words : List ℕ) (last : OffsetWords) (m n : Extent) → RisesTo m n
      → IsStanding cells words last m (front ++ r ∷ back) → IsStanding cells words last n (front ++ called m n r ∷ back)
  after_call cells words last m n le h =
      let q = called m n r in
      changed cells words words last m (Called m n) q h
      (order_more cells words words front r q back (Called m n) refl refl h.order (sym h.called_is, le) tt h.order.1.last)
      refl
      refl
      refl
      refl
      (every_back (Below last) front (r ∷ back) h.offset).0

  -- the rider is told what some rider did
  pub after_told : (cells : ℕ) (words : List ℕ) (last : OffsetWords) (m : Extent) (k : Known) → IsKnown (front ++ r ∷ back) k
      → IsStanding cells words last m (front ++ r ∷ back) → IsStanding cells words last m (front ++ told k r ∷ back)
  after_told cells words last m k some h =
      let q = told k r in
      changed cells words words last m (Met k.name (length k.touches)) q h
      (order_more cells words words front r q back (Met k.name (length k.touches)) refl refl h.order tt (met_last k.name (length k.touches) cells words (front ++ r ∷ back) h.order (counted some)) h.order.1.last)
      refl
      refl
      refl
      refl
      (every_back (Below last) front (r ∷ back) h.offset).0
    where
      counted : IsKnown (front ++ r ∷ back) k → SomeRider (λ i x. (x.name ≡ k.name) × (length k.touches ≤ length x.touches)) (front ++ r ∷ back)
      counted s = (s.0, s.1, s.2, (s.3.0, omega (arith, ap length s.3.1.1, length-append s.3.1.0 k.touches)))

  -- a load of a word of the master's
  pub after_look : (cells : ℕ) (words : List ℕ) (last : OffsetWords) (m : Extent) (which : Which) (x : ℕ) → x ≡ offset_of which last
      → IsStanding cells words last m (front ++ r ∷ back) → IsStanding cells words last m (front ++ with_loaded which x r ∷ back)
  after_look cells words last m which x found h =
      let q = with_loaded which x r in
      changed cells words words last m (Looked which x) q h
      (order_more cells words words front r q back (Looked which x) refl refl h.order
      (order_every (IsLookUpTo which x) cells words (front ++ r ∷ back) h.order (every_weaker (Below last) (λ (p : RiderView). Every (IsLookUpTo which x) p.touches) (front ++ r ∷ back) (λ p b. looks_up_to which x p.touches (omega (arith, found, at_most last which p b))) h.offset))
      tt h.order.1.last)
      refl
      refl
      refl
      refl
      (below which found (every_back (Below last) front (r ∷ back) h.offset).0)
    where
      at_most : (last : OffsetWords) (which : Which) (p : RiderView) → Below last p → greatest_of which (looked p.touches) ≤ offset_of which last
      at_most last ReadOnly p b = b.0.0
      at_most last Head p b = b.1.0
      at_most last Ended p b = b.2.0
      at_most last SafeReadOnly p b = b.3.0

      below : (which : Which) → x ≡ offset_of which last → Below last r → Below last (with_loaded which x r)
      below ReadOnly e b = (load_newest last.read_only (looked r.touches).read_only x e b.0, b.1, b.2, b.3)
      below Head e b = (b.0, load_newest last.head (looked r.touches).head x e b.1, b.2, b.3)
      below Ended e b = (b.0, b.1, load_newest last.ended (looked r.touches).ended x e b.2, b.3)
      below SafeReadOnly e b = (b.0, b.1, b.2, load_newest last.safe_read_only (looked r.touches).safe_read_only x e b.3)

-- the cells stay where a word of the master's changes
order_beside : (cells : ℕ) (words : List ℕ) (riders : List RiderView) (i x : ℕ) → cells ≤ i → (h : HasOneOrder cells words riders) → (o : HasOneOrder cells (set words i x) riders) × (last_called o.0 ≡ last_called h.0)
order_beside cells words riders i x beside h = (
  (
    h.0,
    record {
      serial = h.1.serial;
      each = h.1.each;
      theirs = h.1.theirs;
      last = λ c less. get_or-set_other words i c x 0 (λ e. omega arith) ∙ h.1.last c less;
      met = h.1.met;
      names = h.1.names;
    },
  ),
  refl,
)

-- an offset word is the master's newest store
pub found_offset : (which : Which) (cells : ℕ) (words : List ℕ) (last : OffsetWords) (m : Extent) (riders : List RiderView) → IsStanding cells words last m riders → slice_index words (place_of which cells) ≡ offset_of which last
found_offset ReadOnly cells words last m riders h = h.read_only
found_offset Head cells words last m riders h = h.head
found_offset Ended cells words last m riders h = h.ended
found_offset SafeReadOnly cells words last m riders h = h.safe_read_only

-- a store of an offset word that does not fall
pub after_set : (which : Which) (cells : ℕ) (words : List ℕ) (last : OffsetWords) (m : Extent) (riders : List RiderView) (x : ℕ) → length words ≡ cells + 19 → offset_of which last ≤ x
    → IsStanding cells words last m riders → IsStanding cells (set words (place_of which cells) x) (with_offset which x last) m riders
after_set ReadOnly cells words last m riders x width le h =
    let o = order_beside cells words riders (cells + 8) x (omega arith) h.order in
    record {
      order = o.0;
      called_is = o.1 ∙ h.called_is;
      read_only = get_or-set_same words (cells + 8) x 0 (omega arith);
      head = get_or-set_other words (cells + 8) (cells + 9) x 0 (λ e. omega arith) ∙ h.head;
      ended = get_or-set_other words (cells + 8) (cells + 10) x 0 (λ e. omega arith) ∙ h.ended;
      safe_read_only = get_or-set_other words (cells + 8) (cells + 11) x 0 (λ e. omega arith) ∙ h.safe_read_only;
      never_falls = (store_rises last.read_only x le h.never_falls.0, h.never_falls.1, h.never_falls.2, h.never_falls.3);
      offset = every_weaker (Below last) (Below (with_offset ReadOnly x last)) riders (λ r b. (store_more last.read_only (looked r.touches).read_only x le b.0, b.1, b.2, b.3)) h.offset;
    }
after_set Head cells words last m riders x width le h =
    let o = order_beside cells words riders (cells + 9) x (omega arith) h.order in
    record {
      order = o.0;
      called_is = o.1 ∙ h.called_is;
      read_only = get_or-set_other words (cells + 9) (cells + 8) x 0 (λ e. omega arith) ∙ h.read_only;
      head = get_or-set_same words (cells + 9) x 0 (omega arith);
      ended = get_or-set_other words (cells + 9) (cells + 10) x 0 (λ e. omega arith) ∙ h.ended;
      safe_read_only = get_or-set_other words (cells + 9) (cells + 11) x 0 (λ e. omega arith) ∙ h.safe_read_only;
      never_falls = (h.never_falls.0, store_rises last.head x le h.never_falls.1, h.never_falls.2, h.never_falls.3);
      offset = every_weaker (Below last) (Below (with_offset Head x last)) riders (λ r b. (b.0, store_more last.head (looked r.touches).head x le b.1, b.2, b.3)) h.offset;
    }
after_set Ended cells words last m riders x width le h =
    let o = order_beside cells words riders (cells + 10) x (omega arith) h.order in
    record {
      order = o.0;
      called_is = o.1 ∙ h.called_is;
      read_only = get_or-set_other words (cells + 10) (cells + 8) x 0 (λ e. omega arith) ∙ h.read_only;
      head = get_or-set_other words (cells + 10) (cells + 9) x 0 (λ e. omega arith) ∙ h.head;
      ended = get_or-set_same words (cells + 10) x 0 (omega arith);
      safe_read_only = get_or-set_other words (cells + 10) (cells + 11) x 0 (λ e. omega arith) ∙ h.safe_read_only;
      never_falls = (h.never_falls.0, h.never_falls.1, store_rises last.ended x le h.never_falls.2, h.never_falls.3);
      offset = every_weaker (Below last) (Below (with_offset Ended x last)) riders (λ r b. (b.0, b.1, store_more last.ended (looked r.touches).ended x le b.2, b.3)) h.offset;
    }
after_set SafeReadOnly cells words last m riders x width le h =
    let o = order_beside cells words riders (cells + 11) x (omega arith) h.order in
    record {
      order = o.0;
      called_is = o.1 ∙ h.called_is;
      read_only = get_or-set_other words (cells + 11) (cells + 8) x 0 (λ e. omega arith) ∙ h.read_only;
      head = get_or-set_other words (cells + 11) (cells + 9) x 0 (λ e. omega arith) ∙ h.head;
      ended = get_or-set_other words (cells + 11) (cells + 10) x 0 (λ e. omega arith) ∙ h.ended;
      safe_read_only = get_or-set_same words (cells + 11) x 0 (omega arith);
      never_falls = (h.never_falls.0, h.never_falls.1, h.never_falls.2, store_rises last.safe_read_only x le h.never_falls.3);
      offset = every_weaker (Below last) (Below (with_offset SafeReadOnly x last)) riders (λ r b. (b.0, b.1, b.2, store_more last.safe_read_only (looked r.touches).safe_read_only x le b.3)) h.offset;
    }
