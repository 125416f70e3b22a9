-- What the row of views tells of a slot of a core that stands at a list.
use Rattle.std.proofs.Common.{◌≡◌, ℕ, ◌<◌, ◌≤◌, true, false, cond, leb, is_some, List, length, get_or, refl, sym, ap, ap₂, ◌∙◌, arith}
use Rattle.std.specs.Prelude.{Option, Some, None, Ok, Err, IfSome}
use Rattle.std.proofs.lemmas.Bool.{le-leb, lt-leb}
use Rattle.hl_model.specs.declared.fault.Fault.TheVariants.{NoSlot, Occupied, NotProtected}
use Rattle.hl_model.specs.declared.step.Step.{Step}
use Rattle.hl_model.specs.declared.view.View.{View}
use Rattle.hl_model.specs.Epochs.{is_protected, slot_epoch}
use Rattle.hl_model.specs.Settled.{safe_read_only, closed}
use Rattle.hl_model.specs.Views.{seen_read_only, seen_head, view_of, slot_view, slot_views}
use Rattle.hl_model.specs.Replies.{acquire_fault, protected_fault, unless_fault}
use Rattle.hl_laws.proofs.BoundLaws.{views_are_bounded}
use Rattle.hl_laws.proofs.DrainLaws.{protected-slot}
use Rattle.hl_laws.proofs.EpochLaws.{is_protected-slot_epoch}
use Rattle.hl_laws.proofs.ViewLaws.{slot_view-unprotected, slot_views-at, length-slot_views, is_protected-slot_view, view_of-slot_view}
use Rattle.hl_offsets.specs.Log.{Log}
use Rattle.hl_core.specs.Standing.{State, Stands, IsStanding}

module _ {J : Type 0} (tag : J → ℕ) where
  -- a slot that the row has
  in_row : (core : State J) (t : ℕ) (xs : List (Option View)) (A : List Step) → Stands tag core A → xs ≡ core.views → t < length xs → (leb core.sizes.slots t ≡ false) × (get_or xs t None ≡ slot_view core.sizes t A)
  in_row core t xs A st e lt =
      let is : xs ≡ slot_views core.sizes A = e ∙ st.views_is in
      let below : t < core.sizes.slots = omega (arith, lt, ap length is, length-slot_views core.sizes A) in
      (lt-leb core.sizes.slots t below, ap (λ z. get_or z t None) is ∙ slot_views-at core.sizes A t None below)

  past_row : (core : State J) (t : ℕ) (xs : List (Option View)) (A : List Step) → Stands tag core A → xs ≡ core.views → length xs ≤ t → leb core.sizes.slots t ≡ true
  past_row core t xs A st e le =
      let is : xs ≡ slot_views core.sizes A = e ∙ st.views_is in
      le-leb core.sizes.slots t (omega (arith, le, ap length is, length-slot_views core.sizes A))

  -- the test of a slot that the row has
  protected_is : (core : State J) (t : ℕ) (xs : List (Option View)) (A : List Step) (o : Option View) → Stands tag core A → xs ≡ core.views → t < length xs → get_or xs t None ≡ o → is_protected t A ≡ is_some o
  protected_is core t xs A o st e lt h = is_protected-slot_view core.sizes t A ∙ ap is_some (sym (in_row core t xs A st e lt).1 ∙ h)

  -- what the view of slot t tells
  pub seen_past : (core : State J) (t : ℕ) (xs : List (Option View)) → xs ≡ core.views → length xs ≤ t → (A : List Step) → Stands tag core A → Err NoSlot ≡ unless_fault (protected_fault core.sizes A t) (view_of core.sizes t A)
  seen_past core t xs e le A st = sym (ap (λ b. unless_fault (cond b (Some NoSlot) (cond (is_protected t A) None (Some NotProtected))) (view_of core.sizes t A)) (past_row core t xs A st e le))

  pub seen_none : (core : State J) (t : ℕ) (xs : List (Option View)) → xs ≡ core.views → t < length xs → get_or xs t None ≡ None → (A : List Step) → Stands tag core A → Err NotProtected ≡ unless_fault (protected_fault core.sizes A t) (view_of core.sizes t A)
  seen_none core t xs e lt h A st = sym (ap₂ (λ a b. unless_fault (cond a (Some NoSlot) (cond b None (Some NotProtected))) (view_of core.sizes t A)) (in_row core t xs A st e lt).0 (protected_is core t xs A None st e lt h))

  pub seen_some : (core : State J) (t : ℕ) (xs : List (Option View)) (view : View) → xs ≡ core.views → t < length xs → get_or xs t None ≡ Some view → (A : List Step) → Stands tag core A → Ok view ≡ unless_fault (protected_fault core.sizes A t) (view_of core.sizes t A)
  seen_some core t xs view e lt h A st =
      let is : view_of core.sizes t A ≡ view = view_of-slot_view core.sizes t A view (sym (in_row core t xs A st e lt).1 ∙ h) in
      ap (λ v. Ok v) (sym is) ∙ sym (ap₂ (λ a b. unless_fault (cond a (Some NoSlot) (cond b None (Some NotProtected))) (view_of core.sizes t A)) (in_row core t xs A st e lt).0 (protected_is core t xs A (Some view) st e lt h))

  -- whether slot t may be acquired
  pub free_past : (core : State J) (t : ℕ) (xs : List (Option View)) → xs ≡ core.views → length xs ≤ t → (A : List Step) → Stands tag core A → Err NoSlot ≡ unless_fault (acquire_fault core.sizes A t) (tt {0})
  free_past core t xs e le A st = sym (ap (λ b. unless_fault (cond b (Some NoSlot) (cond (is_protected t A) (Some Occupied) None)) (tt {0})) (past_row core t xs A st e le))

  pub free_none : (core : State J) (t : ℕ) (xs : List (Option View)) → xs ≡ core.views → t < length xs → get_or xs t None ≡ None → (A : List Step) → Stands tag core A → Ok (tt {0}) ≡ unless_fault (acquire_fault core.sizes A t) (tt {0})
  free_none core t xs e lt h A st = sym (ap₂ (λ a b. unless_fault (cond a (Some NoSlot) (cond b (Some Occupied) None)) (tt {0})) (in_row core t xs A st e lt).0 (protected_is core t xs A None st e lt h))

  pub free_some : (core : State J) (t : ℕ) (xs : List (Option View)) (view : View) → xs ≡ core.views → t < length xs → get_or xs t None ≡ Some view → (A : List Step) → Stands tag core A → Err Occupied ≡ unless_fault (acquire_fault core.sizes A t) (tt {0})
  free_some core t xs view e lt h A st = sym (ap₂ (λ a b. unless_fault (cond a (Some NoSlot) (cond b (Some Occupied) None)) (tt {0})) (in_row core t xs A st e lt).0 (protected_is core t xs A (Some view) st e lt h))

  -- a view that is told
  pub view_past : (core : State J) (t : ℕ) (xs : List (Option View)) → xs ≡ core.views → length xs ≤ t → (A : List Step) → Stands tag core A → None ≡ slot_view core.sizes t A
  view_past core t xs e le A st = by_epoch (slot_epoch t A) refl
    where
      by_epoch : (o : Option ℕ) → slot_epoch t A ≡ o → None ≡ slot_view core.sizes t A
      by_epoch None h = sym (slot_view-unprotected core.sizes t A (is_protected-slot_epoch t A ∙ ap is_some h))
      by_epoch (Some n) h = absurd (omega (arith, protected-slot core.sizes t A st.accepted n h, le, ap length (e ∙ st.views_is), length-slot_views core.sizes A))

  pub view_is : (core : State J) (t : ℕ) (xs : List (Option View)) (o : Option View) → xs ≡ core.views → t < length xs → get_or xs t None ≡ o → (A : List Step) → Stands tag core A → o ≡ slot_view core.sizes t A
  view_is core t xs o e lt h A st = sym h ∙ (in_row core t xs A st e lt).1

  -- it isn't below what is settled
  pub view_bounded : (core : State J) (t : ℕ) (xs : List (Option View)) (o : Option View) → IsStanding tag core → xs ≡ core.views → t < length xs → get_or xs t None ≡ o → IfSome o (λ view. (core.offsets.safe_read_only ≤ view.read_only) × (core.offsets.closed ≤ view.head))
  view_bounded core t xs None at e lt h = tt
  view_bounded core t xs (Some view) at e lt h =
      let A = at.0 in
      let st : Stands tag core A = at.1 in
      let seated : is_protected t A ≡ true = protected_is core t xs A (Some view) st e lt h in
      let is : view_of core.sizes t A ≡ view = view_of-slot_view core.sizes t A view (sym (view_is core t xs (Some view) e lt h A st)) in
      let most : (safe_read_only A ≤ seen_read_only t A) × (closed A ≤ seen_head t A) = views_are_bounded core.sizes A t st.accepted seated in
      (omega (arith, most.0, ap (λ (v : View). v.read_only) is, ap (λ (z : Log). z.safe_read_only) st.offsets_is), omega (arith, most.1, ap (λ (v : View). v.head) is, ap (λ (z : Log). z.closed) st.offsets_is))
