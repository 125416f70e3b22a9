-- What the test of a pass tells; and a pass that was known is known after it rested in its slot's view, where its slot is
-- protected then.
use Rattle.std.proofs.Common.{◌≡◌, ℕ, Bool, true, false, cond, is_some, nat_eq, refl, sym, ap₂, subst}
use lib.Dec.{T}
use Rattle.std.specs.Prelude.{◌&&◌, Option, Some, None, Ok, Err, unwrap_or, slice_index_or}
use Rattle.std.proofs.lemmas.Bool.{eq-eqb, eqb-true}
use Rattle.hl_model.specs.declared.fault.Fault.{Fault}
use Rattle.hl_model.specs.declared.fault.Fault.TheVariants.{Stranger}
use Rattle.hl_model.specs.declared.view.View.{View}
use Rattle.hl_model.specs.Replies.{unless_fault}
use Rattle.hl_pass.specs.Calls.{unless_stranger}
use Rattle.hl_model.specs.Views.{slot_view}
use Rattle.hl_pass.specs.Laws.{StaysKnown}
use Rattle.hl_pass.specs.Views.{same_view, has_view}

-- a view is the same as itself
same_itself : (w : View) → same_view w w ≡ true
same_itself w = ap₂ (λ a b. a && b) (eq-eqb w.read_only w.read_only refl) (ap₂ (λ a b. a && b) (eq-eqb w.head w.head refl) (eq-eqb w.tail w.tail refl))

pub and_parts : (a b : Bool) → (a && b) ≡ true → (a ≡ true) × (b ≡ true)
and_parts true b both = (refl, both)
and_parts false b both = absurd (subst T (sym both) tt)

-- a slot that has a view by the test has it
pub view_is : (o : Option View) (w : View) → has_view o w ≡ true → o ≡ Some w
view_is None w has = absurd (subst T (sym has) tt)
view_is (Some v) w has =
    let first = and_parts (nat_eq v.read_only w.read_only) (nat_eq v.head w.head && nat_eq v.tail w.tail) has in
    let rest = and_parts (nat_eq v.head w.head) (nat_eq v.tail w.tail) first.1 in
    same v.read_only v.head v.tail (eqb-true v.read_only w.read_only first.0) (eqb-true v.head w.head rest.0) (eqb-true v.tail w.tail rest.1)
  where
    same : (x y z : ℕ) → x ≡ w.read_only → y ≡ w.head → z ≡ w.tail → ◌≡◌ {A = Option View} (Some (record { read_only = x; head = y; tail = z })) (Some w)
    same x y z a b c = rw (a, b, c) refl

-- what a test told that passed, and one that didn't
pub test_passed : (b : Bool) (s : ℕ) (u : Unit {0}) → Ok u ≡ unless_fault (unless_stranger b s) (tt {0}) → b ≡ true
test_passed true s u told = refl
test_passed false s u told = cc

pub test_refused : (b : Bool) (s : ℕ) (f : Fault) → Err f ≡ unless_fault (unless_stranger b s) (tt {0}) → (b ≡ false) × (f ≡ Stranger s)
test_refused true s f told = cc
test_refused false s f told = (refl, cc)

-- what the row of stamps has for the slot of a pass that is known is the pass's
pub was_stamp : (v : Option View) (held : View) (s stamp : ℕ) → (has_view v held && nat_eq (cond (is_some v) s 0) stamp) ≡ true → s ≡ stamp
was_stamp None held s stamp known = absurd (subst T (sym known) tt)
was_stamp (Some w) held s stamp known = eqb-true s stamp (and_parts (same_view w held) (nat_eq s stamp) known).1

-- a pass with the view and the stamp of a protected slot is known
pub is_it : (v : Option View) (other : View) (s stamp : ℕ) → s ≡ stamp → is_some v ≡ true → (has_view v (unwrap_or v other) && nat_eq (cond (is_some v) s 0) stamp) ≡ true
is_it None other s stamp same some = absurd (subst T (sym some) tt)
is_it (Some w) other s stamp same some = ap₂ (λ a b. a && b) (same_itself w) (eq-eqb s stamp same)

pub stays_known : StaysKnown
stays_known sizes row A B epoch p known =
    is_it (slot_view sizes p.slot B) p.view (slice_index_or row p.slot 0) p.stamp (was_stamp (slot_view sizes p.slot A) p.held (slice_index_or row p.slot 0) p.stamp known)
