-- What travels with a call and with a past, by the one order.
use Rattle.std.proofs.Common.{◌≡◌, ℕ, ◌≤◌, ◌==◌, ◌⊎◌, Bool, true, false, List, [], ◌∷◌, ◌++◌, length, Some, slice_get, refl, ap, sym, ◌∙◌, inl, inr, ⊎_elim, subst, arith, append_assoc, length-append}
use Rattle.std.specs.Prelude.{if◌then◌else◌}
use Rattle.std.specs.List.{AllByRecursion as Every}
use Rattle.std.proofs.lemmas.Bool.{eqb-true}
use Rattle.hl_words.specs.declared.view.Extent.{Extent}
use Rattle.hl_words.specs.declared.view.Touch.{Touch}
use Rattle.hl_words.specs.declared.view.Touch.TheVariants.{Loaded, Called, Met}
use Rattle.hl_words.specs.declared.view.RiderView.{RiderView}
use Rattle.hl_words.specs.Rule.{TouchBy, by_rider, RisesTo, IsSerial, touches_of, AreMet, HasOneOrder}
use Rattle.hl_words.specs.Past.{IsLoad, HasAll, HasCalls, HasNoCalls, LoadsAfterMet, LoadsAfterCalled, LoadsBetween, LoadsBetweenOwn, CallsAfterMet}
use Rattle.hl_words.proofs.CallOrder.{IsUpTo, met_all}
use Rattle.hl_words.proofs.Cut.{every_back}
use Rattle.hl_words.proofs.Orders.{own_more}

-- the touches of two lists
pub touches_both : (i : ℕ) (xs ys : List TouchBy) → touches_of i (xs ++ ys) ≡ touches_of i xs ++ touches_of i ys
touches_both i [] ys = refl
touches_both i (t ∷ xs) ys = by (t.rider == i) (touches_both i xs ys)
  where
    by : (b : Bool) → touches_of i (xs ++ ys) ≡ touches_of i xs ++ touches_of i ys
        → (if b then t.touch ∷ touches_of i (xs ++ ys) else touches_of i (xs ++ ys)) ≡ (if b then t.touch ∷ touches_of i xs else touches_of i xs) ++ touches_of i ys
    by true e = ap (λ (l : List Touch). t.touch ∷ l) e
    by false e = e

-- the order cut at one touch of a rider
pub record IsCut (order : List TouchBy) (i : ℕ) (t : Touch) (older : List Touch) : Type 0 where
  pub front : List TouchBy
  pub before : List TouchBy
  pub whole : order ≡ front ++ by_rider i t ∷ before
  pub own : touches_of i before ≡ older

pub cut_at : (i : ℕ) (order : List TouchBy) (newer : List Touch) (t : Touch) (older : List Touch) → touches_of i order ≡ newer ++ t ∷ older → IsCut order i t older
cut_at i [] [] t older e = absurd cc
cut_at i [] (x ∷ newer) t older e = absurd cc
cut_at i (s ∷ order) newer t older e = by (λ n h. cut_at i order n t older h) (s.rider == i) refl newer e
  where
    further : IsCut order i t older → IsCut (s ∷ order) i t older
    further c =
        record { front = s ∷ c.front; before = c.before; whole = ap (λ (l : List TouchBy). s ∷ l) c.whole; own = c.own }

    by : ((n : List Touch) → touches_of i order ≡ n ++ t ∷ older → IsCut order i t older) → (b : Bool) → (s.rider == i) ≡ b → (newer : List Touch) → (if b then s.touch ∷ touches_of i order else touches_of i order) ≡ newer ++ t ∷ older → IsCut (s ∷ order) i t older
    by sooner false test newer e = further (sooner newer e)
    by sooner true test [] e =
        let head : s.touch ≡ t = cc e in
        let tail : touches_of i order ≡ older = cc e in
        let is : s ≡ by_rider i t = ap (λ (k : ℕ). by_rider k s.touch) (eqb-true s.rider i test) ∙ ap (by_rider i) head in
        record { front = []; before = order; whole = ap (λ (x : TouchBy). x ∷ order) is; own = tail }
    by sooner true test (x ∷ newer) e =
        let tail : touches_of i order ≡ newer ++ t ∷ older = cc e in
        further (sooner newer tail)

module _ {X : Type 0} where
  -- two places of one list: the one comes first, or they are the same, or the other comes first
  pub compared : (xs : List X) (a : X) (ar ys : List X) (b : X) (bs : List X) → xs ++ a ∷ ar ≡ ys ++ b ∷ bs
      → ((mid : List X) × (ar ≡ mid ++ b ∷ bs)) ⊎ (((a ≡ b) × (ar ≡ bs)) ⊎ ((mid : List X) × (bs ≡ mid ++ a ∷ ar)))
  compared [] a ar [] b bs e = let h : a ≡ b = cc e in let t : ar ≡ bs = cc e in inr (inl (h, t))
  compared [] a ar (y ∷ ys) b bs e = let t : ar ≡ ys ++ b ∷ bs = cc e in inl (ys, t)
  compared (x ∷ xs) a ar [] b bs e = let t : bs ≡ xs ++ a ∷ ar = cc e in inr (inr (xs, t))
  compared (x ∷ xs) a ar (y ∷ ys) b bs e = let t : xs ++ a ∷ ar ≡ ys ++ b ∷ bs = cc e in compared xs a ar ys b bs t

  -- of two ends of one list the shorter is an end of the longer
  ends_in : (xs ys later past : List X) → xs ++ ys ≡ later ++ past → length past ≤ length ys → (since : List X) × (ys ≡ since ++ past)
  ends_in [] ys later past e le = (later, e)
  ends_in (x ∷ xs) ys [] past e le = absurd (omega (arith, ap length e, length-append xs ys, le))
  ends_in (x ∷ xs) ys (y ∷ later) past e le = let t : xs ++ ys ≡ later ++ past = cc e in ends_in xs ys later past t le

-- the end of such an order is one
pub serial_end : (newer rest : List TouchBy) → IsSerial (newer ++ rest) → IsSerial rest
serial_end [] rest h = h
serial_end (t ∷ newer) rest h = serial_end newer rest h.1

met_end : (riders : List RiderView) (newer rest : List TouchBy) → AreMet riders (newer ++ rest) → AreMet riders rest
met_end riders [] rest h = h
met_end riders (t ∷ newer) rest h = met_end riders newer rest h.1

module _ (cells : ℕ) (words : List ℕ) (riders : List RiderView) (h : HasOneOrder cells words riders) where
  -- a call stands before each one that left more steps, with all that its rider did before
  pub after_call : (k : ℕ) (first n : Extent) (front before : List TouchBy) → h.0 ≡ front ++ by_rider k (Called first n) ∷ before → HasCalls riders n.steps before
  after_call k first n front before whole j m left q later past at is less =
      let its = by_rider k (Called first n) in
      let own_call = by_rider j (Called m left) in
      let c = cut_at j h.0 later (Called m left) past (sym (h.1.each j q at) ∙ is) in
      let serial : IsSerial (c.front ++ own_call ∷ c.before) = subst IsSerial c.whole h.1.serial in
      let found = serial_end c.front (own_call ∷ c.before) serial in
      let own : touches_of j (own_call ∷ c.before) ≡ Called m left ∷ past = own_more j (Called m left) c.before ∙ ap (λ (l : List Touch). Called m left ∷ l) c.own in
      ⊎_elim
      (λ (here : (mid : List TouchBy) × (before ≡ mid ++ own_call ∷ c.before)).
      (touches_of j here.0, ap (touches_of j) here.1 ∙ touches_both j here.0 (own_call ∷ c.before) ∙ ap (λ (l : List Touch). touches_of j here.0 ++ l) own))
      (λ (other : ((its ≡ own_call) × (before ≡ c.before)) ⊎ ((mid : List TouchBy) × (c.before ≡ mid ++ its ∷ before))).
      ⊎_elim
      (λ (same : (its ≡ own_call) × (before ≡ c.before)).
      let alike : Called first n ≡ Called m left = ap (λ (t : TouchBy). t.touch) same.0 in
      let number : n ≡ left = cc alike in
      absurd (omega (arith, ap (λ e. e.steps) number, less)))
      (λ (there : (mid : List TouchBy) × (c.before ≡ mid ++ its ∷ before)).
      let at_most : RisesTo n m = (every_back (λ (t : TouchBy). IsUpTo m t.touch) there.0 (its ∷ before) (subst (Every (λ (t : TouchBy). IsUpTo m t.touch)) there.1 (met_all j m left c.before found))).0 in
      absurd (omega (arith, at_most.0, found.0.1.0, less)))
      other)
      (compared front its before c.front own_call c.before (sym whole ∙ c.whole))

  -- and nothing that a rider did after a call stands before one that met fewer
  before_call : (k : ℕ) (n last : Extent) (front rest between before : List TouchBy) → h.0 ≡ front ++ by_rider k (Called n last) ∷ rest → rest ≡ between ++ before → HasNoCalls riders n.steps before
  before_call k n last front rest between before whole has j m left q later past at is less =
      let its = by_rider k (Called n last) in
      let own_call = by_rider j (Called m left) in
      let c = cut_at j h.0 later (Called m left) past (sym (h.1.each j q at) ∙ is) in
      let serial : IsSerial (front ++ its ∷ rest) = subst IsSerial whole h.1.serial in
      let most : Every (λ (t : TouchBy). IsUpTo n t.touch) rest = met_all k n last rest (serial_end front (its ∷ rest) serial) in
      let other_serial : IsSerial (c.front ++ own_call ∷ c.before) = subst IsSerial c.whole h.1.serial in
      let grew : RisesTo m left = (serial_end c.front (own_call ∷ c.before) other_serial).0.1 in
      ⊎_elim
      (λ (here : (mid : List TouchBy) × (rest ≡ mid ++ own_call ∷ c.before)).
      let at_most : RisesTo left n = (every_back (λ (t : TouchBy). IsUpTo n t.touch) here.0 (own_call ∷ c.before) (subst (Every (λ (t : TouchBy). IsUpTo n t.touch)) here.1 most)).0 in
      absurd (omega (arith, at_most.0, grew.0, less)))
      (λ (other : ((its ≡ own_call) × (rest ≡ c.before)) ⊎ ((mid : List TouchBy) × (c.before ≡ mid ++ its ∷ rest))).
      ⊎_elim
      (λ (same : (its ≡ own_call) × (rest ≡ c.before)).
      let alike : Called n last ≡ Called m left = ap (λ (t : TouchBy). t.touch) same.0 in
      let number : n ≡ m = cc alike in
      absurd (omega (arith, ap (λ e. e.steps) number, less)))
      (λ (there : (mid : List TouchBy) × (c.before ≡ mid ++ its ∷ rest)).
      let front2 : List TouchBy = there.0 ++ its ∷ between in
      let parts : c.before ≡ front2 ++ before = there.1 ∙ ap (λ (l : List TouchBy). there.0 ++ its ∷ l) has ∙ sym (append_assoc there.0 (its ∷ between) before) in
      (touches_of j front2, sym c.own ∙ ap (touches_of j) parts ∙ touches_both j front2 before))
      other)
      (compared front its rest c.front own_call c.before (sym whole ∙ c.whole))

  -- where a rider was told of another, the other's touches stand before
  after_met : (i j : ℕ) (q : RiderView) (front before : List TouchBy) (later past : List Touch) → h.0 ≡ front ++ by_rider i (Met q.name (length past)) ∷ before → slice_get riders j ≡ Some q → q.touches ≡ later ++ past
      → HasAll j past before
  after_met i j q front before later past whole at is =
      let t = by_rider i (Met q.name (length past)) in
      let some = (met_end riders front (t ∷ before) (subst (AreMet riders) whole h.1.met)).0 in
      let same : some.0 ≡ j = h.1.names some.0 j some.1 q some.2 at some.3.0 in
      let long : length past ≤ length (touches_of j before) = subst (λ (k : ℕ). length past ≤ length (touches_of k before)) same some.3.1 in
      let parts : h.0 ≡ (front ++ t ∷ []) ++ before = whole ∙ sym (append_assoc front (t ∷ []) before) in
      ends_in (touches_of j (front ++ t ∷ [])) (touches_of j before) later past
      (sym (touches_both j (front ++ t ∷ []) before) ∙ sym (ap (touches_of j) parts) ∙ sym (h.1.each j q at) ∙ is)
      long

  -- a load at its place
  load_at : (i c v : ℕ) (newer before : List TouchBy) → h.0 ≡ newer ++ by_rider i (Loaded c v) ∷ before → IsLoad h.0 i c v before
  load_at i c v newer before whole =
      record {
        newer = newer;
        whole = whole;
        finds = (serial_end newer (by_rider i (Loaded c v) ∷ before) (subst IsSerial whole h.1.serial)).0;
      }

-- what stands behind more
pub has_more : (j : ℕ) (past : List Touch) (front before : List TouchBy) → HasAll j past before → HasAll j past (front ++ before)
has_more j past front before a = (touches_of j front ++ a.0, touches_both j front before ∙ ap (λ (l : List Touch). touches_of j front ++ l) a.1 ∙ sym (append_assoc (touches_of j front) a.0 past))

-- a list cut in its end
pub joined : (front front2 : List TouchBy) (t u : TouchBy) (middle before order : List TouchBy) → order ≡ front ++ t ∷ middle → middle ≡ front2 ++ u ∷ before → order ≡ (front ++ t ∷ front2) ++ u ∷ before
joined front front2 t u middle before order a b = a ∙ ap (λ (l : List TouchBy). front ++ t ∷ l) b ∙ sym (append_assoc front (t ∷ front2) (u ∷ before))

pub loads_after_met : LoadsAfterMet
loads_after_met cells words stores riders i j c v r q newer between earlier later past ruled ati atj mine others =
    let h = ruled.order in
    let t = Met q.name (length past) in
    let a = cut_at i h.0 newer (Loaded c v) (between ++ t ∷ earlier) (sym (h.1.each i r ati) ∙ mine) in
    let b = cut_at i a.before between t earlier a.own in
    let has = after_met cells words riders h i j q (a.front ++ by_rider i (Loaded c v) ∷ b.front) b.before later past (joined a.front b.front (by_rider i (Loaded c v)) (by_rider i t) a.before b.before h.0 a.whole b.whole) atj others in
    let all : HasAll j past ((b.front ++ by_rider i t ∷ []) ++ b.before) = has_more j past (b.front ++ by_rider i t ∷ []) b.before has in
    let parts : (b.front ++ by_rider i t ∷ []) ++ b.before ≡ a.before = append_assoc b.front (by_rider i t ∷ []) b.before ∙ sym b.whole in
    (a.before, load_at cells words riders h i c v a.front a.before a.whole, subst (HasAll j past) parts all)

-- what riders did before calls stands behind more
pub calls_more : (riders : List RiderView) (n : ℕ) (front before : List TouchBy) → HasCalls riders n before → HasCalls riders n (front ++ before)
calls_more riders n front before h j m left q later past at is less = has_more j (Called m left ∷ past) front before (h j m left q later past at is less)

-- what holds of each holds of each of the end
every_end : (P : TouchBy → Type 0) (all newer rest : List TouchBy) (t : TouchBy) → all ≡ newer ++ t ∷ rest → Every P all → Every P rest
every_end P all newer rest t is h = (every_back P newer (t ∷ rest) (subst (Every P) is h)).1

-- what holds of each touch of the order holds of each of a rider's
own_every : (P : Touch → Type 0) (i : ℕ) (order : List TouchBy) → Every (λ (t : TouchBy). P t.touch) order → Every P (touches_of i order)
own_every P i [] h = tt
own_every P i (t ∷ before) h = by (t.rider == i) (own_every P i before h.1)
  where
    by : (b : Bool) → Every P (touches_of i before) → Every P (if b then t.touch ∷ touches_of i before else touches_of i before)
    by true rest = (h.0, rest)
    by false rest = rest

pub calls_after_met : CallsAfterMet
calls_after_met cells words stores riders i j met left first n r q newer between earlier later past recent older ruled ati atj mine others calls =
    let h = ruled.order in
    let t = Met q.name (length past) in
    let own = by_rider i (Called met left) in
    let a = cut_at i h.0 newer (Called met left) (between ++ t ∷ earlier) (sym (h.1.each i r ati) ∙ mine) in
    let b = cut_at i a.before between t earlier a.own in
    let has = after_met cells words riders h i j q (a.front ++ own ∷ b.front) b.before later past (joined a.front b.front own (by_rider i t) a.before b.before h.0 a.whole b.whole) atj others in
    let found = met_all i met left a.before (serial_end a.front (own ∷ a.before) (subst IsSerial a.whole h.1.serial)) in
    let all : Every (λ (x : TouchBy). IsUpTo met x.touch) b.before = every_end (λ (x : TouchBy). IsUpTo met x.touch) a.before b.front b.before (by_rider i t) b.whole found in
    let theirs : Every (IsUpTo met) (has.0 ++ past) = subst (Every (IsUpTo met)) has.1 (own_every (IsUpTo met) j b.before all) in
    let own_calls : Every (IsUpTo met) past = every_back (IsUpTo met) has.0 past theirs in
    let parts : Every (IsUpTo met) (recent ++ Called first n ∷ older) = subst (Every (IsUpTo met)) calls own_calls in
    (every_back (IsUpTo met) recent (Called first n ∷ older) parts).0

pub loads_after_called : LoadsAfterCalled
loads_after_called cells words stores riders i c v m n r newer between earlier ruled ati mine =
    let h = ruled.order in
    let t = Called m n in
    let a = cut_at i h.0 newer (Loaded c v) (between ++ t ∷ earlier) (sym (h.1.each i r ati) ∙ mine) in
    let b = cut_at i a.before between t earlier a.own in
    let has = after_call cells words riders h i m n (a.front ++ by_rider i (Loaded c v) ∷ b.front) b.before (joined a.front b.front (by_rider i (Loaded c v)) (by_rider i t) a.before b.before h.0 a.whole b.whole) in
    let parts : (b.front ++ by_rider i t ∷ []) ++ b.before ≡ a.before = append_assoc b.front (by_rider i t ∷ []) b.before ∙ sym b.whole in
    (a.before, load_at cells words riders h i c v a.front a.before a.whole, subst (HasCalls riders n.steps) parts (calls_more riders n.steps (b.front ++ by_rider i t ∷ []) b.before has))

-- a list cut twice
in_two : (b1 b2 g1 g2 all : List TouchBy) (t u : TouchBy) → all ≡ b1 ++ t ∷ b2 → b2 ≡ g1 ++ u ∷ g2 → (b1 ++ t ∷ (g1 ++ u ∷ [])) ++ g2 ≡ all
in_two b1 b2 g1 g2 all t u one two =
    append_assoc b1 (t ∷ (g1 ++ u ∷ [])) g2 ∙ ap (λ (x : List TouchBy). b1 ++ t ∷ x) (append_assoc g1 (u ∷ []) g2 ∙ sym two) ∙ sym one

module _ (cells : ℕ) (words : List ℕ) (riders : List RiderView) (h : HasOneOrder cells words riders) where
  -- each touch that a rider was told of stands before
  told_cut : (k i : ℕ) (t : Touch) (r : RiderView) (last own newer rest : List Touch) (front before : List TouchBy) → own ≡ newer ++ t ∷ rest → slice_get riders i ≡ Some r → r.touches ≡ last ++ own
      → h.0 ≡ front ++ by_rider k (Met r.name (length own)) ∷ before → IsCut before i t rest
  told_cut k i t r last own newer rest front before is at mine whole =
      let all = after_met cells words riders h k i r front before last own whole at mine in
      cut_at i before (all.0 ++ newer) t rest (all.1 ∙ ap (λ (x : List Touch). all.0 ++ x) is ∙ sym (append_assoc all.0 newer (t ∷ rest)))

  -- so do the calls that met fewer steps than one of which a rider was told
  told_calls : (i k : ℕ) (first n : Extent) (f : RiderView) (its told newer oldest between earlier : List Touch) (front before : List TouchBy) (t : TouchBy) → told ≡ newer ++ Called first n ∷ oldest → slice_get riders k ≡ Some f → f.touches ≡ its ++ told
      → h.0 ≡ front ++ t ∷ before → touches_of i before ≡ between ++ Met f.name (length told) ∷ earlier → HasCalls riders n.steps before
  told_calls i k first n f its told newer oldest between earlier front before t is at theirs whole own =
      let m = Met f.name (length told) in
      let b = cut_at i before between m earlier own in
      let whole_b : h.0 ≡ (front ++ t ∷ b.front) ++ by_rider i m ∷ b.before = joined front b.front t (by_rider i m) before b.before h.0 whole b.whole in
      let g = told_cut i k (Called first n) f its told newer oldest (front ++ t ∷ b.front) b.before is at theirs whole_b in
      let whole_g = joined (front ++ t ∷ b.front) g.front (by_rider i m) (by_rider k (Called first n)) b.before g.before h.0 whole_b g.whole in
      subst (HasCalls riders n.steps) (in_two b.front b.before g.front g.before before (by_rider i m) (by_rider k (Called first n)) b.whole g.whole)
      (calls_more riders n.steps (b.front ++ by_rider i m ∷ (g.front ++ by_rider k (Called first n) ∷ [])) g.before (after_call cells words riders h k first n ((front ++ t ∷ b.front) ++ by_rider i m ∷ g.front) g.before whole_g))

  -- a load of which a rider was told before a call
  load_before : (i k c v : ℕ) (n late : Extent) (r f : RiderView) (last own newer rest newest middle told : List Touch) → own ≡ newer ++ Loaded c v ∷ rest → slice_get riders i ≡ Some r → slice_get riders k ≡ Some f → r.touches ≡ last ++ own
      → f.touches ≡ newest ++ Called n late ∷ (middle ++ Met r.name (length own) ∷ told)
      → (before : List TouchBy) × (front : List TouchBy) × (h.0 ≡ front ++ by_rider i (Loaded c v) ∷ before) × (touches_of i before ≡ rest) × HasNoCalls riders n.steps before
  load_before i k c v n late r f last own newer rest newest middle told is ati atk mine theirs =
      let m = Met r.name (length own) in
      let l = by_rider i (Loaded c v) in
      let d = cut_at k h.0 newest (Called n late) (middle ++ m ∷ told) (sym (h.1.each k f atk) ∙ theirs) in
      let w = cut_at k d.before middle m told d.own in
      let whole_w : h.0 ≡ (d.front ++ by_rider k (Called n late) ∷ w.front) ++ by_rider k m ∷ w.before = joined d.front w.front (by_rider k (Called n late)) (by_rider k m) d.before w.before h.0 d.whole w.whole in
      let a = told_cut k i (Loaded c v) r last own newer rest (d.front ++ by_rider k (Called n late) ∷ w.front) w.before is ati mine whole_w in (
        a.before,
        (d.front ++ by_rider k (Called n late) ∷ w.front) ++ by_rider k m ∷ a.front,
        joined (d.front ++ by_rider k (Called n late) ∷ w.front) a.front (by_rider k m) l w.before a.before h.0 whole_w a.whole,
        a.own,
        before_call cells words riders h k n late d.front d.before (w.front ++ by_rider k m ∷ (a.front ++ l ∷ [])) a.before d.whole (sym (in_two w.front w.before a.front a.before d.before (by_rider k m) l w.whole a.whole)),
      )

-- the other's touches end with what it told
its_end : (newest middle told : List Touch) (t m : Touch) → newest ++ t ∷ (middle ++ m ∷ told) ≡ (newest ++ t ∷ (middle ++ m ∷ [])) ++ told
its_end newest middle told t m = ap (λ (x : List Touch). newest ++ t ∷ x) (sym (append_assoc middle (m ∷ []) told)) ∙ sym (append_assoc newest (t ∷ (middle ++ m ∷ [])) told)

pub loads_between : LoadsBetween
loads_between cells words stores riders i k c v met begun done left r f last between earlier newer first newest middle more oldest ruled ati atk mine others =
    let h = ruled.order in
    let told = first ++ Called met begun ∷ oldest in
    let rest = between ++ Met f.name (length told) ∷ earlier in
    let own = newer ++ Loaded c v ∷ rest in
    let m = Met r.name (length own) in
    let a = load_before cells words riders h i k c v done left r f last own newer rest newest middle (more ++ told) refl ati atk mine others in
    let its : f.touches ≡ ((newest ++ Called done left ∷ (middle ++ m ∷ [])) ++ more) ++ told = others ∙ its_end newest middle (more ++ told) (Called done left) m ∙ sym (append_assoc (newest ++ Called done left ∷ (middle ++ m ∷ [])) more told) in (
      a.0,
      load_at cells words riders h i c v a.1 a.0 a.2,
      told_calls cells words riders h i k met begun f ((newest ++ Called done left ∷ (middle ++ m ∷ [])) ++ more) told first oldest between earlier a.1 a.0 (by_rider i (Loaded c v)) refl atk its a.2 a.3,
      a.4,
    )

pub loads_between_own : LoadsBetweenOwn
loads_between_own cells words stores riders i c v met begun done left r newer middle between earlier ruled ati mine =
    let h = ruled.order in
    let last = by_rider i (Called done left) in
    let l = by_rider i (Loaded c v) in
    let t = by_rider i (Called met begun) in
    let d = cut_at i h.0 newer (Called done left) (middle ++ Loaded c v ∷ (between ++ Called met begun ∷ earlier)) (sym (h.1.each i r ati) ∙ mine) in
    let a = cut_at i d.before middle (Loaded c v) (between ++ Called met begun ∷ earlier) d.own in
    let b = cut_at i a.before between (Called met begun) earlier a.own in
    let whole_a = joined d.front a.front last l d.before a.before h.0 d.whole a.whole in
    let whole_b = joined (d.front ++ last ∷ a.front) b.front l t a.before b.before h.0 whole_a b.whole in
    let has = after_call cells words riders h i met begun ((d.front ++ last ∷ a.front) ++ l ∷ b.front) b.before whole_b in
    let parts : (b.front ++ t ∷ []) ++ b.before ≡ a.before = append_assoc b.front (t ∷ []) b.before ∙ sym b.whole in (
      a.before,
      load_at cells words riders h i c v (d.front ++ last ∷ a.front) a.before whole_a,
      subst (HasCalls riders begun.steps) parts (calls_more riders begun.steps (b.front ++ t ∷ []) b.before has),
      before_call cells words riders h i done left d.front d.before (a.front ++ l ∷ []) a.before d.whole (a.whole ∙ sym (append_assoc a.front (l ∷ []) a.before)),
    )
