-- What a session stores and loads of a record, word for word.
use Rattle.std.proofs.Common.{◌≡◌, ◌≢◌, ℕ, suc, ◌+◌, ◌<◌, ◌≤◌, Bool, true, false, cond, List, [], ◌∷◌, ◌++◌, length, take, set, get_or, refl, ap, sym, ◌∙◌, subst, arith, append_assoc, append-nil, inl, inr, Some, Ok, Err}
use Rattle.std.specs.Prelude.{◌-◌, ◌==◌, ◌⊎◌, ◌||◌, if◌then◌else◌, nat_le, nat_lt, Option, None, Result, MatchResult}
use Rattle.std.proofs.lemmas.Bool.{eqb-true, le-ltb, lt-leb}
use Rattle.std.specs.List.{list_any, AllByRecursion as Every}
use Rattle.std.proofs.Math.Seq.{take-suc, take-suc-set}
use Rattle.std.proofs.lemmas.List.{length-append, length-take}
use Rattle.std.proofs.lemmas.List.Folds.{list_any-append}
use Rattle.hl_model.specs.declared.fault.Fault.{Fault}
use Rattle.hl_model.specs.declared.step.Step.{Step}
use Rattle.hl_model.specs.declared.step.Step.TheVariants.{Refresh, Write}
use Rattle.hl_model.specs.declared.view.View.{View}
use Rattle.hl_model.specs.Sizes.{Sizes}
use Rattle.hl_words.specs.declared.view.Touch.{Touch}
use Rattle.hl_words.specs.declared.view.Touch.TheVariants.{Stored}
use Rattle.hl_words.specs.States.{RiderState}
use Rattle.hl_model.specs.declared.fault.Fault.TheVariants.{Below, Beyond, Evicted, TouchesFull}
use Rattle.hl_model.specs.Replies.{or_fault, unless_fault, unless_refused}
use Rattle.hl_model.specs.Lists.{until_last}
use Rattle.hl_model.proofs.ListLaws.{all-append, until_last-le}
use Rattle.hl_laws.proofs.AppendLaws.{until_last-append}
use Rattle.hl_laws.proofs.NoFaultLaws.{unless_err}
use Rattle.hl_keeper.specs.Passes.{PassRecord, seen, cell_at, store_fault, load_fault, touch_fault, touches_most, with_store, with_load}
use Rattle.hl_keeper.specs.Touches.{view_after, view_past}
use Rattle.hl_domain.specs.Domains.{DomainState, with_held, Refreshed}
use Rattle.hl.specs.Sessions.{SessionState, with_pass}
use Rattle.hl.specs.Records.{with_loads, entered_steps, own_steps, writes_in, writes_at, StoresOrRefreshes, is_refresh, touches_after, RefreshesIfFull, stores_in, stored_at, AreStored, RefusesStore}

-- a store leaves the tail that a pass sees
tail_after : (view : View) (xs : List Step) (t a v : ℕ) → (view_after view (xs ++ Write t a v ∷ [])).tail ≡ (view_after view xs).tail
unfolding view_after
tail_after view [] t a v = refl
tail_after view (x ∷ xs) t a v = tail_after (view_past view x) xs t a v

-- a pass that was given a view has that one's tail
pub held_tail : (epoch : ℕ) (view : View) (p : PassRecord) → (seen (with_held epoch view p)).tail ≡ view.tail
unfolding view_after
held_tail epoch view p = refl

pub stored_tail : (sizes : Sizes) (a v : ℕ) (p : PassRecord) (fault : Option Fault) → (seen (unless_refused fault p (with_store sizes a v p))).tail ≡ (seen p).tail
unfolding with_store
stored_tail sizes a v p None = tail_after p.held p.touches p.slot a v
stored_tail sizes a v p (Some fault) = refl

writes_in-append : (xs ys : List Step) → writes_in (xs ++ ys) ≡ writes_in xs ++ writes_in ys
writes_in-append [] ys = refl
writes_in-append (Write t a v ∷ xs) ys = ap (λ l. Write t a v ∷ l) (writes_in-append xs ys)
writes_in-append (_ ∷ xs) ys = writes_in-append xs ys

writes_at-append : (t a : ℕ) (xs ys : List ℕ) → writes_at t a (xs ++ ys) ≡ writes_at t a xs ++ writes_at t (a + length xs) ys
writes_at-append t a [] ys = ap (λ n. writes_at t n ys) (omega arith)
writes_at-append t a (x ∷ xs) ys = ap (λ l. Write t a x ∷ l) (writes_at-append t (a + 1) xs ys ∙ ap (λ n. writes_at t (a + 1) xs ++ writes_at t n ys) (omega arith))

stored_at-append : (sizes : Sizes) (a : ℕ) (xs ys : List ℕ) (before : List Touch) → stored_at sizes a (xs ++ ys) before ≡ stored_at sizes (a + length xs) ys (stored_at sizes a xs before)
stored_at-append sizes a [] ys before = ap (λ n. stored_at sizes n ys before) (omega arith)
stored_at-append sizes a (x ∷ xs) ys before =
    let later = Stored (cell_at sizes a) x ∷ before in
    stored_at-append sizes (a + 1) xs ys later ∙ ap (λ n. stored_at sizes n ys (stored_at sizes (a + 1) xs later)) (omega arith)

-- a list with an element at some place, where it is two lists: the place is in the one or in the other
parts : (xs ys X : List Step) (z : Step) (Y : List Step) → xs ++ ys ≡ X ++ z ∷ Y → ((W : List Step) × (xs ≡ X ++ z ∷ W)) ⊎ ((W : List Step) × (X ≡ xs ++ W) × (ys ≡ W ++ z ∷ Y))
parts [] ys X z Y e = inr (X, refl, e)
parts (x ∷ xs) ys [] z Y e = let same : x ≡ z = cc e in inl (xs, ap (λ s. s ∷ xs) same)
parts (x ∷ xs) ys (w ∷ X) z Y e = behind (parts xs ys X z Y (cc e))
  where
    first : x ≡ w
    first = cc e

    behind : ((W : List Step) × (xs ≡ X ++ z ∷ W)) ⊎ ((W : List Step) × (X ≡ xs ++ W) × (ys ≡ W ++ z ∷ Y)) → ((W : List Step) × (x ∷ xs ≡ (w ∷ X) ++ z ∷ W)) ⊎ ((W : List Step) × (w ∷ X ≡ (x ∷ xs) ++ W) × (ys ≡ W ++ z ∷ Y))
    behind (inl (W, is)) = inl (W, ap (λ s. s ∷ xs) first ∙ ap (λ l. w ∷ l) is)
    behind (inr (W, is, rest)) = inr (W, ap (λ s. s ∷ X) (sym first) ∙ ap (λ l. x ∷ l) is, rest)

-- behind more steps without a refresh
behind_none : (any : Bool) (n last xs ys all : ℕ) → all ≡ xs + ys → last ≤ xs → (if any then all - last else n + all) ≡ (if any then xs - last else n + xs) + ys
behind_none true n last xs ys all long less = omega (arith, long, less)
behind_none false n last xs ys all long less = omega (arith, long)

touches_after-append : (n : ℕ) (xs ys : List Step) → touches_after n (xs ++ ys) ≡ touches_after (touches_after n xs) ys
touches_after-append n xs ys = rw (list_any-append is_refresh xs ys, until_last-append is_refresh xs ys) (by_any (list_any is_refresh ys))
  where
    some : ℕ
    some = until_last is_refresh ys

    here : ℕ
    here = until_last is_refresh xs

    by_any : (late : Bool) → (if list_any is_refresh xs || late then length (xs ++ ys) - (cond late (length xs + some) here) else n + length (xs ++ ys))
        ≡ (if late then length ys - some else touches_after n xs + length ys)
    by_any true = by_early (list_any is_refresh xs)
      where
        by_early : (early : Bool) → (if early || true then length (xs ++ ys) - (length xs + some) else n + length (xs ++ ys)) ≡ length ys - some
        by_early true = omega (arith, length-append xs ys)
        by_early false = omega (arith, length-append xs ys)
    by_any false = by_early (list_any is_refresh xs) refl
      where
        by_early : (early : Bool) → list_any is_refresh xs ≡ early → (if early || false then length (xs ++ ys) - here else n + length (xs ++ ys)) ≡ touches_after n xs + length ys
        by_early true h = behind_none true n here (length xs) (length ys) (length (xs ++ ys)) (length-append xs ys) (until_last-le is_refresh xs) ∙ sym (ap (λ b. cond b (length xs - here) (n + length xs) + length ys) h)
        by_early false h = behind_none false n here (length xs) (length ys) (length (xs ++ ys)) (length-append xs ys) (until_last-le is_refresh xs) ∙ sym (ap (λ b. cond b (length xs - here) (n + length xs) + length ys) h)

if_full-append : (n : ℕ) (xs ys : List Step) → RefreshesIfFull n xs → RefreshesIfFull (touches_after n xs) ys → RefreshesIfFull n (xs ++ ys)
if_full-append n xs ys x y X t Y e = by_part (parts xs ys X (Refresh t) Y e)
  where
    by_part : ((W : List Step) × (xs ≡ X ++ Refresh t ∷ W)) ⊎ ((W : List Step) × (X ≡ xs ++ W) × (ys ≡ W ++ Refresh t ∷ Y)) → touches_after n X ≡ touches_most
    by_part (inl (W, is)) = x X t W is
    by_part (inr (W, is, rest)) = ap (touches_after n) is ∙ touches_after-append n xs W ∙ y W t Y rest

-- one step alone, which is a refresh only where there was no room
one_full : (n : ℕ) (s : Step) → ((t : ℕ) → s ≡ Refresh t → n ≡ touches_most) → RefreshesIfFull n (s ∷ [])
unfolding until_last
one_full n s full [] t Y e = omega (arith, full t (cc e))
one_full n s full (x ∷ []) t Y e = cc e
one_full n s full (x ∷ (y ∷ X)) t Y e = cc e

none_full : (n : ℕ) → RefreshesIfFull n []
none_full n [] t Y e = cc e
none_full n (x ∷ X) t Y e = cc e

after_none : (n : ℕ) → touches_after n [] ≡ n
unfolding until_last
after_none n = omega arith

after_write : (n t a v : ℕ) → touches_after n (Write t a v ∷ []) ≡ n + 1
unfolding until_last
after_write n t a v = refl

after_refresh : (n t : ℕ) → touches_after n (Refresh t ∷ []) ≡ 0
unfolding until_last
after_refresh n t = refl

-- a store is refused for want of room only where there is none
is_full : (p : PassRecord) (a : ℕ) → store_fault p a ≡ Some TouchesFull → length p.touches ≡ touches_most
unfolding store_fault touch_fault
is_full p a is = by (nat_lt a (seen p).read_only) (nat_le (seen p).tail a) (length p.touches == touches_most) refl is
  where
    by : (below beyond full : Bool) → (length p.touches == touches_most) ≡ full
        → or_fault (if below then Some (Below (seen p).read_only) else (if beyond then Some (Beyond (seen p).tail) else None)) (if full then Some TouchesFull else None) ≡ Some TouchesFull
        → length p.touches ≡ touches_most
    by true beyond full e none = cc
    by false true full e none = cc
    by false false true e none = eqb-true (length p.touches) touches_most e
    by false false false e none = cc

-- nothing was stored
pub none_stored : (sizes : Sizes) (a : ℕ) (p q : PassRecord) → q ≡ p → AreStored sizes a [] p q
none_stored sizes a p q same = record {
  slot = ap (λ (z : PassRecord). z.slot) same;
  behind = [];
  steps = ap own_steps same ∙ sym (append-nil (own_steps p));
  kinds = tt;
  writes = refl;
  full = none_full (length p.touches);
  touches = ap (λ (z : PassRecord). length z.touches) same ∙ sym (after_none (length p.touches));
  cells = ap (λ (z : PassRecord). stores_in z.rider.view.touches) same;
}

-- a store
pub one_stored : (sizes : Sizes) (a v : ℕ) (p q : PassRecord) → q ≡ with_store sizes a v p → AreStored sizes a (v ∷ []) p q
unfolding with_store
one_stored sizes a v p q is = record {
  slot = ap (λ (z : PassRecord). z.slot) is;
  behind = Write p.slot a v ∷ [];
  steps = ap own_steps is ∙ sym (append_assoc (entered_steps p.rider.calls) p.touches (Write p.slot a v ∷ []));
  kinds = (inl (a, v, refl), tt);
  writes = refl;
  full = one_full (length p.touches) (Write p.slot a v) (λ t e. cc e);
  touches = ap (λ (z : PassRecord). length z.touches) is ∙ length-append p.touches (Write p.slot a v ∷ []) ∙ sym (after_write (length p.touches) p.slot a v);
  cells = ap (λ (z : PassRecord). stores_in z.rider.view.touches) is;
}

-- a refresh where there was no room for a store
pub refreshed : {F : Type 0} (log : DomainState) (sizes : Sizes) (a : ℕ) (p q : PassRecord) (view : View) → store_fault p a ≡ Some TouchesFull → Refreshed F log p q (Ok view) → AreStored sizes a [] p q
refreshed log sizes a p q view none r =
    let entered = r.met.entered in
    let touches : q.touches ≡ [] = ap (λ (z : PassRecord). z.touches) r.pass in
    let calls : entered_steps q.rider.calls ≡ entered_steps p.rider.calls ++ (p.touches ++ Refresh p.slot ∷ []) = ap (λ (z : RiderState). entered_steps z.calls) entered in
    record {
      slot = ap (λ (z : PassRecord). z.slot) r.pass;
      behind = Refresh p.slot ∷ [];
      steps = ap (λ l. entered_steps q.rider.calls ++ l) touches ∙ append-nil (entered_steps q.rider.calls) ∙ calls
          ∙ sym (append_assoc (entered_steps p.rider.calls) p.touches (Refresh p.slot ∷ []));
      kinds = (inr refl, tt);
      writes = refl;
      full = one_full (length p.touches) (Refresh p.slot) (λ t e. is_full p a none);
      touches = ap length touches ∙ sym (after_refresh (length p.touches) p.slot);
      cells = ap (λ (z : RiderState). stores_in z.view.touches) entered;
    }

-- more was stored behind
pub stored_then : (sizes : Sizes) (a b : ℕ) (xs ys : List ℕ) (p m q : PassRecord) → b ≡ a + length xs → AreStored sizes a xs p m → AreStored sizes b ys m q → AreStored sizes a (xs ++ ys) p q
stored_then sizes a b xs ys p m q at x y = record {
  slot = y.slot ∙ x.slot;
  behind = x.behind ++ y.behind;
  steps = y.steps ∙ ap (λ l. l ++ y.behind) x.steps ∙ append_assoc (own_steps p) x.behind y.behind;
  kinds = all-append (StoresOrRefreshes p.slot) x.behind y.behind x.kinds (subst (λ t. Every (StoresOrRefreshes t) y.behind) x.slot y.kinds);
  writes = writes_in-append x.behind y.behind ∙ ap (λ l. l ++ writes_in y.behind) x.writes
      ∙ ap (λ l. writes_at p.slot a xs ++ l) (y.writes ∙ ap (λ t. writes_at t b ys) x.slot ∙ ap (λ n. writes_at p.slot n ys) at)
      ∙ sym (writes_at-append p.slot a xs ys);
  full = if_full-append (length p.touches) x.behind y.behind x.full (subst (λ n. RefreshesIfFull n y.behind) x.touches y.full);
  touches = y.touches ∙ ap (λ n. touches_after n y.behind) x.touches ∙ sym (touches_after-append (length p.touches) x.behind y.behind);
  cells = y.cells ∙ ap (stored_at sizes b ys) x.cells ∙ ap (λ n. stored_at sizes n ys (stored_at sizes a xs (stores_in p.rider.view.touches))) at
      ∙ sym (stored_at-append sizes a xs ys (stores_in p.rider.view.touches));
}

-- one word more of a row was stored
pub stored_next : (sizes : Sizes) (a k d : ℕ) (words : List ℕ) (p m q : PassRecord) → k < length words
    → AreStored sizes a (take k words) p m → AreStored sizes (a + k) (get_or words k d ∷ []) m q → AreStored sizes a (take (k + 1) words) p q
stored_next sizes a k d words p m q less x y =
    let len : length (take k words) ≡ k = omega (arith, length-take k words, less) in
    let next : k + 1 ≡ suc k = omega arith in
    let row : take (k + 1) words ≡ take k words ++ get_or words k d ∷ [] = ap (λ n. take n words) next ∙ take-suc words k d less in
    subst (λ l. AreStored sizes a l p q) (sym row) (stored_then sizes a (a + k) (take k words) (get_or words k d ∷ []) p m q (ap (λ n. a + n) (sym len)) x y)

-- one word more of a row was loaded
loads_push : (sizes : Sizes) (a : ℕ) (ws : List ℕ) (w : ℕ) (p : PassRecord) → with_loads sizes a (ws ++ w ∷ []) p ≡ with_load sizes (a + length ws) w (with_loads sizes a ws p)
loads_push sizes a [] w p = ap (λ n. with_load sizes n w p) (omega arith)
loads_push sizes a (x ∷ ws) w p = loads_push sizes (a + 1) ws w (with_load sizes a x p) ∙ ap (λ n. with_load sizes n w (with_loads sizes (a + 1) ws (with_load sizes a x p))) (omega arith)

pub loads_next : (sizes : Sizes) (a k w : ℕ) (out : List ℕ) (p m q : PassRecord) → k < length out → m ≡ with_loads sizes a (take k out) p → q ≡ with_load sizes (a + k) w m → q ≡ with_loads sizes a (take (k + 1) (set out k w)) p
loads_next sizes a k w out p m q less before after =
    let next : k + 1 ≡ suc k = omega arith in
    let row : take (k + 1) (set out k w) ≡ take k out ++ w ∷ [] = ap (λ n. take n (set out k w)) next ∙ take-suc-set out k w less in
    let len : length (take k out) ≡ k = omega (arith, length-take k out, less) in
    after ∙ ap (with_load sizes (a + k) w) before ∙ sym (ap (λ l. with_loads sizes a l p) row ∙ loads_push sizes a (take k out) w p ∙ ap (λ n. with_load sizes (a + n) w (with_loads sizes a (take k out) p)) len)

-- loads leave what the pass sees
pub loads_see : (sizes : Sizes) (a : ℕ) (ws : List ℕ) (p : PassRecord) → seen (with_loads sizes a ws p) ≡ seen p
unfolding with_load
loads_see sizes a [] p = refl
loads_see sizes a (w ∷ ws) p = loads_see sizes (a + 1) ws (with_load sizes a w p)

-- a store, after at most a refresh, was answered so
pub store_answered : (F : Type 0) (log : DomainState) (a v : ℕ) (p m q : PassRecord) (o : Option Fault) (r : Result (Unit {0}) Fault) → AreStored log.sizes a [] p m → store_fault m a ≡ o → r ≢ Err TouchesFull
    → r ≡ unless_fault o tt → q ≡ unless_refused o m (with_store log.sizes a v m)
    → MatchResult r (λ _. AreStored log.sizes a (v ∷ []) p q) (λ fault. RefusesStore F log a fault p q)
store_answered F log a v p m q None r none met room answer is =
    let P = λ (z : Result (Unit {0}) Fault). MatchResult z (λ _. AreStored log.sizes a (v ∷ []) p q) (λ fault. RefusesStore F log a fault p q) in
    subst P (sym answer) (stored_then log.sizes a a [] (v ∷ []) p m q (omega arith) none (one_stored log.sizes a v m q is))
store_answered F log a v p m q (Some f) r none met room answer is =
    let P = λ (z : Result (Unit {0}) Fault). MatchResult z (λ _. AreStored log.sizes a (v ∷ []) p q) (λ fault. RefusesStore F log a fault p q) in
    subst P (sym answer) (record { last = m; none = none; refused = inl (is, met, λ full. room (answer ∙ ap Err full)) })

-- a refresh that was to make room was refused
pub refresh_refused : (F : Type 0) (log : DomainState) (a : ℕ) (fault : Fault) (p q : PassRecord) → store_fault p a ≡ Some TouchesFull → Refreshed F log p q (Err fault) → RefusesStore F log a fault p q
refresh_refused F log a fault p q full r = record { last = p; none = none_stored log.sizes a p p refl; refused = inr (full, r) }

-- a refresh makes room for a store
pub made_room : {F : Type 0} (log : DomainState) (a : ℕ) (p q : PassRecord) (view : View) (result : Result (Unit {0}) Fault) → Refreshed F log p q (Ok view) → result ≡ unless_fault (store_fault q a) tt → result ≢ Err TouchesFull
made_room log a p q view result r answer none =
    omega (arith, is_full q a (unless_err (store_fault q a) TouchesFull tt (sym none ∙ answer)), ap (λ (z : PassRecord). length z.touches) r.pass)

-- each word of a row below the tail may be loaded
pub load_free : (p m : PassRecord) (a n k : ℕ) → (seen p).head ≤ a → n ≤ (seen p).tail - a → k < n → seen m ≡ seen p → load_fault m (a + k) ≡ None
unfolding load_fault
load_free p m a n k head many less same =
    let low : (seen m).head ≤ a + k = omega (arith, head, ap (λ (v : View). v.head) same) in
    let high : a + k < (seen m).tail = omega (arith, many, less, ap (λ (v : View). v.tail) same) in
    ap (λ b. if b then Some (Evicted (seen m).head) else (if nat_le (seen m).tail (a + k) then Some (Beyond (seen m).tail) else None)) (le-ltb (a + k) (seen m).head low)
    ∙ ap (λ b. if b then Some (Beyond (seen m).tail) else None) (lt-leb (seen m).tail (a + k) high)

-- of a session
pub session_next : (s m q : SessionState) (a k w : ℕ) (out : List ℕ) → k < length out → m ≡ with_pass (with_loads s.log.sizes a (take k out) s.pass) s → q ≡ with_pass (with_load m.log.sizes (a + k) w m.pass) m
    → q ≡ with_pass (with_loads s.log.sizes a (take (k + 1) (set out k w)) s.pass) s
session_next s m q a k w out less before after =
    let p = with_loads s.log.sizes a (take k out) s.pass in
    after ∙ ap (λ (z : SessionState). with_pass (with_load z.log.sizes (a + k) w z.pass) z) before
    ∙ ap (λ (z : PassRecord). with_pass z s) (loads_next s.log.sizes a k w out s.pass p (with_load s.log.sizes (a + k) w p) less refl refl)
