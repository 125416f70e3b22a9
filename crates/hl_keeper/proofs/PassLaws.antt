-- What a pass's calls without the lock answer, and what they make of it.
use Rattle.std.proofs.Common.{◌≡◌, ℕ, ◌≤◌, Bool, true, false, cond, leb, ltb, max, List, [], ◌∷◌, ◌++◌, length, refl, sym, ap, ap₂, ◌∙◌, subst, arith, append-nil}
use Rattle.std.specs.Prelude.{◌==◌, Option, Some, None, Ok, Err}
use Rattle.std.proofs.lemmas.Bool.{leb-false, ltb-false, eq-eqb, ne_eqb}
use Rattle.hl_model.specs.declared.fault.Fault.{Fault}
use Rattle.hl_model.specs.declared.fault.Fault.TheVariants.{Below, Beyond, TouchesFull}
use Rattle.hl_model.specs.declared.step.Step.{Step}
use Rattle.hl_model.specs.declared.step.Step.TheVariants.{Look, Write}
use Rattle.hl_model.specs.declared.view.View.{View}
use Rattle.hl_model.specs.Sizes.{Sizes}
use Rattle.hl_model.specs.Replies.{or_fault, unless_fault, unless_refused}
use Rattle.hl_laws.proofs.NoFaultLaws.{unless_err, unless_ok, or_fault-none, later_fault}
use Rattle.hl_words.specs.declared.which.Which.TheVariants.{ReadOnly, Head}
use Rattle.hl_words.specs.States.{RiderState, with_view}
use Rattle.hl_words.specs.Views.{newest, looked, greatest_of, stored, changed, loaded, with_loaded}
use Rattle.hl_pass.specs.Views.{beyond_fault, rises, raised, store_fault as view_store_fault, load_fault as view_load_fault}
use Rattle.hl_keeper.specs.Touches.{view_past, view_after, IsTouch, AreTouches}
use Rattle.hl_keeper.specs.Passes.{PassRecord, seen, touches_most, touch_fault, store_fault, load_fault, cell_at, with_store, with_change, with_load, look_made, with_look, LooksOn}
use Rattle.hl_keeper.proofs.TouchLaws.{touches_more}

-- a pass with other touches, and another rider
abbrev pub pass_with : PassRecord → List Step → RiderState → PassRecord
pass_with p xs rider = record { slot = p.slot; stamp = p.stamp; epoch = p.epoch; held = p.held; touches = xs; rider = rider }

-- a pass with all its touches
pub touches_full : (p : PassRecord) (n : ℕ) → n ≡ length p.touches → n ≡ touches_most → Err TouchesFull ≡ unless_fault (touch_fault p) (tt {0})
unfolding touch_fault
touches_full p n e h = sym (ap (λ b. unless_fault (cond b (Some TouchesFull) None) (tt {0})) (ap (λ m. m == touches_most) (sym e) ∙ eq-eqb n touches_most h))

-- and one with room
pub touches_room : (p : PassRecord) (n : ℕ) → n ≡ length p.touches → (n ≡ touches_most → ⊥) → Ok (tt {0}) ≡ unless_fault (touch_fault p) (tt {0})
unfolding touch_fault
touches_room p n e h = sym (ap (λ b. unless_fault (cond b (Some TouchesFull) None) (tt {0})) (ap (λ m. m == touches_most) (sym e) ∙ ne_eqb n touches_most h))

module _ (p : PassRecord) (v : View) (a : ℕ) (is : v ≡ seen p) where
  -- a store that its view refuses
  pub store_refused : (f : Fault) → Err f ≡ unless_fault (view_store_fault v a) (tt {0}) → Err f ≡ unless_fault (store_fault p a) (tt {0})
  unfolding store_fault
  store_refused f h = sym (ap (λ o. unless_fault (or_fault o (touch_fault p)) (tt {0})) (ap (λ (w : View). view_store_fault w a) (sym is) ∙ unless_err (view_store_fault v a) f (tt {0}) h))

  -- one that its view allows has the fault of a touch
  pub store_allowed : (u : Unit {0}) → Ok u ≡ unless_fault (view_store_fault v a) (tt {0}) → store_fault p a ≡ touch_fault p
  unfolding store_fault
  store_allowed u h = ap (λ o. or_fault o (touch_fault p)) (ap (λ (w : View). view_store_fault w a) (sym is) ∙ (unless_ok (view_store_fault v a) u (tt {0}) h).0)

  -- a load is judged by its view
  pub load_judged : view_load_fault v a ≡ load_fault p a
  unfolding load_fault
  load_judged = ap (λ (w : View). view_load_fault w a) is

-- a store without a fault is a lawful touch
pub store_lawful : (p : PassRecord) (a x : ℕ) → store_fault p a ≡ None → IsTouch p.slot (seen p) (Write p.slot a x)
unfolding store_fault
store_lawful p a x h =
    let outer = later_fault (ltb a (seen p).read_only) (Below (seen p).read_only) (beyond_fault (seen p) a) (or_fault-none (view_store_fault (seen p) a) (touch_fault p) h).0 in
    let inner = later_fault (leb (seen p).tail a) (Beyond (seen p).tail) None outer.1 in
    (refl, ltb-false a (seen p).read_only outer.0, leb-false (seen p).tail a inner.0)

-- a pass that meets no fault, told of it as it is now
none_met : (fault : PassRecord → Option Fault) (p now : PassRecord) (u : Unit {0}) → p ≡ now → Ok u ≡ unless_fault (fault now) (tt {0}) → fault p ≡ None
none_met fault p now u e h = ap fault e ∙ (unless_ok (fault now) u (tt {0}) h).0

-- the touches of a pass that stored
pub store_touches : (p now : PassRecord) (v : View) (a x : ℕ) (xs : List Step) (u : Unit {0}) → p ≡ now → Ok u ≡ unless_fault (store_fault now a) (tt {0}) → v ≡ seen p → AreTouches p.slot p.held p.touches → xs ≡ p.touches ++ Write p.slot a x ∷ [] → (v ≡ view_after p.held xs) × AreTouches p.slot p.held xs
store_touches p now v a x xs u n h is are e =
    let more = touches_more p.slot p.held p.touches (Write p.slot a x) are (store_lawful p a x (none_met (λ q. store_fault q a) p now u n h)) in
    subst (λ (z : List Step). (v ≡ view_after p.held z) × AreTouches p.slot p.held z) (sym e) (is ∙ sym more.1, more.0)

-- the pass after a store
pub store_is : (sizes : Sizes) (a x : ℕ) (p now : PassRecord) (cell : ℕ) (rider : RiderState) (xs : List Step) (u : Unit {0}) → p ≡ now → Ok u ≡ unless_fault (store_fault now a) (tt {0}) → cell ≡ cell_at sizes a → rider ≡ with_view (stored cell x p.rider.view) p.rider → xs ≡ p.touches ++ Write p.slot a x ∷ []
    → pass_with p xs rider ≡ unless_refused (store_fault now a) now (with_store sizes a x now)
unfolding with_store
store_is sizes a x p now cell rider xs u n h c r e =
    ap₂ (λ (z : List Step) (q : RiderState). pass_with p z q) e (r ∙ ap (λ d. with_view (stored d x p.rider.view) p.rider) c) ∙ ap (with_store sizes a x) n
    ∙ sym (ap (λ o. unless_refused o now (with_store sizes a x now)) (unless_ok (store_fault now a) u (tt {0}) h).0)

-- the pass after a load
pub load_is : (sizes : Sizes) (a x : ℕ) (p now : PassRecord) (cell : ℕ) (rider : RiderState) → p ≡ now → cell ≡ cell_at sizes a → rider ≡ with_view (loaded cell x p.rider.view) p.rider → pass_with p p.touches rider ≡ with_load sizes a x now
unfolding with_load
load_is sizes a x p now cell rider n c r = ap (λ (q : RiderState). pass_with p p.touches q) (r ∙ ap (λ d. with_view (loaded d x p.rider.view) p.rider) c) ∙ ap (with_load sizes a x) n

-- the pass after a change at an address
pub change_is : (sizes : Sizes) (a found x : ℕ) (p now : PassRecord) (cell : ℕ) (rider : RiderState) (xs : List Step) → p ≡ now → cell ≡ cell_at sizes a → rider ≡ with_view (changed cell found x p.rider.view) p.rider → xs ≡ p.touches ++ Write p.slot a x ∷ [] → pass_with p xs rider ≡ with_change sizes a found x now
unfolding with_change
change_is sizes a found x p now cell rider xs n c r e =
    ap₂ (λ (z : List Step) (q : RiderState). pass_with p z q) e (r ∙ ap (λ d. with_view (changed d found x p.rider.view) p.rider) c) ∙ ap (with_change sizes a found x) n

-- the touches of a pass that looked
pub look_touches : (p : PassRecord) (v w : View) (r h : ℕ) (xs : List Step) → v ≡ seen p → AreTouches p.slot p.held p.touches → w ≡ raised v r h → xs ≡ p.touches ++ Look p.slot w.read_only w.head ∷ []
    → (w ≡ view_after p.held xs) × AreTouches p.slot p.held xs
look_touches p v w r h xs is are rose e =
    let look : Step = Look p.slot w.read_only w.head in
    let lawful : IsTouch p.slot (seen p) look =
    (refl, omega (arith, ap (λ (u : View). u.read_only) rose, ap (λ (u : View). u.read_only) is), omega (arith, ap (λ (u : View). u.head) rose, ap (λ (u : View). u.head) is)) in
    let more = touches_more p.slot p.held p.touches look are lawful in
    let past : w ≡ view_past v look = ap (λ (t : ℕ). let u : View = record { read_only = w.read_only; head = w.head; tail = t } in u) (ap (λ (u : View). u.tail) rose) in
    subst (λ (z : List Step). (w ≡ view_after p.held z) × AreTouches p.slot p.held z) (sym e) (past ∙ ap (λ (u : View). view_past u look) is ∙ sym more.1, more.0)

-- the touch that a look makes
pub look_made-some : (p : PassRecord) (v w : View) (r h : ℕ) (b : Bool) → v ≡ seen p → b ≡ rises v r h → b ≡ true → w ≡ raised v r h → Look p.slot w.read_only w.head ∷ [] ≡ look_made p.slot (seen p) r h
look_made-some p v w r h b is e t rose =
    ap (λ (u : View). Look p.slot u.read_only u.head ∷ []) rose
    ∙ sym (ap (λ c. cond c (Look p.slot (max v.read_only r) (max v.head h) ∷ []) []) (sym e ∙ t))
    ∙ ap (λ (w : View). look_made p.slot w r h) is

pub look_made-none : (p : PassRecord) (v : View) (r h : ℕ) (b : Bool) → v ≡ seen p → b ≡ rises v r h → b ≡ false → p.touches ≡ p.touches ++ look_made p.slot (seen p) r h
look_made-none p v r h b is e f =
    let none : look_made p.slot (seen p) r h ≡ [] = ap (λ (w : View). look_made p.slot w r h) (sym is) ∙ ap (λ c. cond c (Look p.slot (max v.read_only r) (max v.head h) ∷ []) []) (sym e ∙ f) in
    sym (ap (λ z. p.touches ++ z) none ∙ append-nil p.touches)

-- the rider after it loaded both offsets
pub loaded_both : (r h : ℕ) (before first second : RiderState) → first ≡ with_view (with_loaded ReadOnly r before.view) before → second ≡ with_view (with_loaded Head h first.view) first
    → second ≡ with_view (with_loaded Head h (with_loaded ReadOnly r before.view)) before
loaded_both r h before first second a b = b ∙ ap (λ (q : RiderState). with_view (with_loaded Head h q.view) q) a

-- and neither is below any that it had loaded
pub looks_on : (r h : ℕ) (old new : PassRecord) (first second : RiderState) → first ≡ with_view (with_loaded ReadOnly r old.rider.view) old.rider → second ≡ with_view (with_loaded Head h first.view) first → new.rider ≡ second
    → greatest_of ReadOnly (looked old.rider.view.touches) ≤ r → greatest_of Head (looked first.view.touches) ≤ h → LooksOn old new
looks_on r h old new first second a b c low high =
    let both : new.rider ≡ with_view (with_loaded Head h (with_loaded ReadOnly r old.rider.view)) old.rider = c ∙ loaded_both r h old.rider first second a b in record {
      read_only = omega (arith, low, ap (λ (q : RiderState). newest (looked q.view.touches).read_only) both);
      head = omega (arith, high, ap (λ (q : RiderState). greatest_of Head (looked q.view.touches)) a, ap (λ (q : RiderState). newest (looked q.view.touches).head) both);
    }

-- the pass after a look
pub look_is : (p now : PassRecord) (r h : ℕ) (first second : RiderState) (xs : List Step) (u : Unit {0}) → p ≡ now → Ok u ≡ unless_fault (touch_fault now) (tt {0}) → first ≡ with_view (with_loaded ReadOnly r p.rider.view) p.rider → second ≡ with_view (with_loaded Head h first.view) first → xs ≡ p.touches ++ look_made p.slot (seen p) r h
    → pass_with p xs second ≡ unless_refused (touch_fault now) now (with_look (newest (looked second.view.touches).read_only) (newest (looked second.view.touches).head) now)
unfolding with_look
look_is p now r h first second xs u n f a b t =
    let both = loaded_both r h p.rider first second a b in
    let last : with_look (newest (looked second.view.touches).read_only) (newest (looked second.view.touches).head) p ≡ with_look r h p =
    ap (λ (q : RiderState). with_look (newest (looked q.view.touches).read_only) (newest (looked q.view.touches).head) p) both in
    ap₂ (λ (z : List Step) (q : RiderState). pass_with p z q) t both ∙ sym last ∙ ap (with_look (newest (looked second.view.touches).read_only) (newest (looked second.view.touches).head)) n
    ∙ sym (ap (λ o. unless_refused o now (with_look (newest (looked second.view.touches).read_only) (newest (looked second.view.touches).head) now)) (unless_ok (touch_fault now) u (tt {0}) f).0)
