-- What a pass's locked calls answer.
use Rattle.std.proofs.Common.{◌≡◌, ℕ, ◌+◌, ◌-◌, ◌/◌, ◌^◌, ◌<◌, ◌≤◌, true, leb, List, [], ◌++◌, length, refl, sym, ap, ap₂, ◌∙◌, subst, arith}
use Rattle.std.specs.Prelude.{◌==◌, ◌&&◌, Some, None, Ok}
use Rattle.std.proofs.lemmas.Bool.{leb-true, eq-eqb}
use Rattle.hl_model.specs.declared.step.Reply.{Reply}
use Rattle.hl_model.specs.declared.step.Reply.TheVariants.{Entered, At}
use Rattle.hl_model.specs.declared.step.Step.{Step}
use Rattle.hl_model.specs.declared.step.Step.TheVariants.{Refresh, Allocate}
use Rattle.hl_model.specs.declared.view.View.{View}
use Rattle.hl_model.specs.Sizes.{Sizes}
use Rattle.hl_model.specs.Offsets.{read_only, head, tail, place_of}
use Rattle.hl_model.specs.Views.{slot_view, view_of}
use Rattle.hl_model.specs.Replies.{fault_of, answer_of, unless_fault}
use Rattle.hl_laws.proofs.NoFaultLaws.{unless_ok, or_fault-none, allocate-none, size-none}
use Rattle.hl_laws.proofs.OffsetLaws.{place_of-le, place_of-one_page}
use Rattle.hl_laws.proofs.ViewLaws.{slot_view-enters, view_of-slot_view}
use Rattle.hl_pass.proofs.KnownLaws.{and_parts, view_is, test_passed}
use Rattle.hl_pass.specs.Views.{has_view}
use Rattle.hl_keeper.specs.Touches.{AreTouches}
use Rattle.hl_keeper.specs.Passes.{PassRecord, seen, entered_by, rested}
use Rattle.hl_keeper.specs.Keepers.{KeeperState, KeeperStands}
use Rattle.hl_keeper.specs.Calls.{stamp_at, is_known, is_behind, stranger_fault, ahead_fault, room_fault, touched_fault, touched_list, Knows, Called, IsUpTo}
use Rattle.hl_pass.proofs.LookLaws.{viewed}
use Rattle.hl_keeper.proofs.TouchLaws.{touches_leave_offsets, touches_rise, seen_tail-le}

-- where an allocation places
pub record Placed (page_size a n : ℕ) (v : View) : Type 0 where
  pub above : v.tail ≤ a
  pub one_page : a / page_size ≡ (a + n - 1) / page_size
  pub most : a + n ≤ 2 ^ 48

-- the reply to a refresh is one epoch and one view
pub entered_is : (r : Reply) (e d : ℕ) (v w : View) → r ≡ Entered d w → r ≡ Entered e v → (e ≡ d) × (v ≡ w)
entered_is r e d v w told is = (cc, cc)

-- and that to an allocation one place
pub placed_is : (r : Reply) (a b : ℕ) → r ≡ At b → r ≡ At a → a ≡ b
placed_is r a b told is = cc

module _ {F : Type 0} where
  -- a pass that is known has its slot's view
  known_view : (keeper : KeeperState F) (A : List Step) (p : PassRecord) → is_known keeper A p ≡ true → slot_view keeper.core.sizes p.slot A ≡ Some p.held
  unfolding is_known stamp_at
  known_view keeper A p h = view_is (slot_view keeper.core.sizes p.slot A) p.held (and_parts (has_view (slot_view keeper.core.sizes p.slot A) p.held) (stamp_at keeper A p.slot == p.stamp) h).0

  pub knows : (keeper : KeeperState F) (p : PassRecord) (u : Unit {0}) → ((A : List Step) → KeeperStands keeper A → Ok u ≡ unless_fault (stranger_fault keeper A p) (tt {0})) → Knows keeper p
  unfolding stranger_fault
  knows keeper p u h A st = known_view keeper A p (test_passed (is_known keeper A p) (stamp_at keeper A p.slot) u (h A st))

  pub knows_behind : (keeper : KeeperState F) (p : PassRecord) (u : Unit {0}) → ((A : List Step) → KeeperStands keeper A → Ok u ≡ unless_fault (ahead_fault keeper A p) (tt {0})) → Knows keeper p
  unfolding ahead_fault
  knows_behind keeper p u h A st = known_view keeper A p (and_parts (is_known keeper A p) (is_behind A p) (test_passed (is_known keeper A p && is_behind A p) (stamp_at keeper A p.slot) u (h A st))).0

  -- and saw no offset above the present one
  pub behind : (keeper : KeeperState F) (A : List Step) (p : PassRecord) (u : Unit {0}) → Ok u ≡ unless_fault (ahead_fault keeper A p) (tt {0}) → ((seen p).read_only ≤ read_only A) × ((seen p).head ≤ head A)
  unfolding ahead_fault is_behind
  behind keeper A p u h =
      let tests = (and_parts (is_known keeper A p) (is_behind A p) (test_passed (is_known keeper A p && is_behind A p) (stamp_at keeper A p.slot) u h)).1 in
      let both = and_parts (leb (seen p).read_only (read_only A)) (leb (seen p).head (head A)) tests in
      (leb-true (seen p).read_only (read_only A) both.0, leb-true (seen p).head (head A) both.1)

  -- what a pass saw isn't above the present tail
  tail_behind : (keeper : KeeperState F) (A : List Step) (p : PassRecord) → KeeperStands keeper A → slot_view keeper.core.sizes p.slot A ≡ Some p.held → AreTouches p.slot p.held p.touches → (seen p).tail ≤ tail keeper.core.sizes A
  tail_behind keeper A p st view are =
      let rise = touches_rise p.slot p.held p.touches are in
      let held = (viewed keeper.core.sizes p.slot A p.held view).1 in
      omega (arith, rise.2, ap (λ (w : View). w.tail) held, seen_tail-le keeper.core.sizes p.slot A (omega (arith, st.core_stands.in_range.page_size_least)) st.core_stands.accepted)

  -- a refreshed view isn't below the pass's own
  pub refresh_fresh : (keeper : KeeperState F) (A : List Step) (p : PassRecord) (u : Unit {0}) (v : View) → KeeperStands keeper A → Knows keeper p → AreTouches p.slot p.held p.touches → Ok u ≡ unless_fault (ahead_fault keeper A p) (tt {0}) → v ≡ view_of keeper.core.sizes p.slot (touched_list A p (Refresh p.slot)) → IsUpTo (seen p) v
  refresh_fresh keeper A p u v st known are h e =
      let low = behind keeper A p u h in
      let still = touches_leave_offsets keeper.core.sizes p.slot A p.held p.touches are in
      let now : View = record { read_only = read_only (A ++ p.touches); head = head (A ++ p.touches); tail = tail keeper.core.sizes (A ++ p.touches) } in
      let is : v ≡ now = e ∙ view_of-slot_view keeper.core.sizes p.slot (touched_list A p (Refresh p.slot)) now (slot_view-enters keeper.core.sizes p.slot (A ++ p.touches) (Refresh p.slot) (eq-eqb p.slot p.slot refl)) in (
        omega (arith, low.0, still.0, ap (λ (w : View). w.read_only) is),
        omega (arith, low.1, still.1, ap (λ (w : View). w.head) is),
        omega (arith, tail_behind keeper A p st (known A st) are, still.2, ap (λ (w : View). w.tail) is),
      )

  pub allocate_placed : (keeper : KeeperState F) (A : List Step) (p : PassRecord) (n : ℕ) (new : KeeperState F) (r : Reply) (a : ℕ) → KeeperStands keeper A → Knows keeper p → AreTouches p.slot p.held p.touches → Called keeper A p (Allocate p.slot n) new (Ok r) → r ≡ At a → Placed keeper.core.sizes.page_size a n (seen p)
  unfolding touched_fault
  allocate_placed keeper A p n new r a st known are called is =
      let sizes : Sizes = keeper.core.sizes in
      let T : ℕ = tail sizes (A ++ p.touches) in
      let both = unless_ok (touched_fault keeper A p (Allocate p.slot n)) r (answer_of sizes (A ++ p.touches) (touched_list A p (Allocate p.slot n)) (Allocate p.slot n)) called.reply in
      let fine : fault_of sizes (A ++ p.touches) (Allocate p.slot n) ≡ None = (or_fault-none (room_fault keeper (length p.touches + 1)) (fault_of sizes (A ++ p.touches) (Allocate p.slot n)) both.0).1 in
      let size = size-none sizes.page_size T n (allocate-none sizes (A ++ p.touches) p.slot n fine).1 in
      let place : a ≡ place_of sizes.page_size T n = placed_is r a (place_of sizes.page_size T n) both.1 is in
      let some : 0 < sizes.page_size = omega (arith, st.core_stands.in_range.page_size_least) in
      let still = touches_leave_offsets sizes p.slot A p.held p.touches are in record {
        above = omega (arith, place, place_of-le sizes.page_size T n some, still.2, tail_behind keeper A p st (known A st) are);
        one_page = subst (λ (z : ℕ). z / sizes.page_size ≡ (z + n - 1) / sizes.page_size) (sym place) (place_of-one_page sizes.page_size T n some size.0 size.1);
        most = omega (arith, place, size.2);
      }

-- the pass after a call that leaves it with an epoch and a view
pub rested_is : (p mid new : PassRecord) (epoch : ℕ) (v w : View) → mid ≡ entered_by p → new ≡ record { slot = mid.slot; stamp = mid.stamp; epoch = epoch; held = v; touches = []; rider = mid.rider } → v ≡ w → new ≡ rested epoch w p
unfolding rested
rested_is p mid new epoch v w m n e =
    n ∙ ap₂ (λ (q : PassRecord) (z : View). let made : PassRecord = record { slot = q.slot; stamp = q.stamp; epoch = epoch; held = z; touches = []; rider = q.rider } in made) m e
