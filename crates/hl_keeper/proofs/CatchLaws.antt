-- A core that caught up with what a pass saw, by one look, stands where the pass's touches lead.
use Rattle.std.proofs.Common.{◌≡◌, ℕ, ◌≤◌, Bool, true, false, cond, eqb, List, [], ◌∷◌, ◌++◌, set, get_or, refl, sym, ap, ◌∙◌, subst, append_assoc, append-nil}
use Rattle.std.specs.Prelude.{Option, Some, None, Ok}
use Rattle.std.proofs.lemmas.Bool.{eqb-true}
use Rattle.std.proofs.lemmas.List.{set-get_or, set-set}
use Rattle.hl_model.specs.declared.step.Step.{Step}
use Rattle.hl_model.specs.declared.step.Step.TheVariants.{Look, Write}
use Rattle.hl_model.specs.declared.view.View.{View}
use Rattle.hl_model.specs.Sizes.{Sizes}
use Rattle.hl_model.specs.Epochs.{table_of}
use Rattle.hl_model.specs.Views.{slot_view, slot_views, view_of}
use Rattle.hl_model.specs.Replies.{fault_of, unless_fault, extended, IsAccepted}
use Rattle.hl_laws.proofs.AcceptedLaws.{extended-none}
use Rattle.hl_laws.proofs.ViewLaws.{slot_views-at}
use Rattle.hl_core.specs.Standing.{State, Stands, log_of, pages_of}
use Rattle.hl_core.proofs.LookStands.{look_ok, write_ok}
use Rattle.hl_pass.specs.declared.pass_view.PassView.{PassView}
use Rattle.hl_pass.specs.Calls.{looked}
use Rattle.hl_pass.specs.Passes.{is_up}
use Rattle.hl_pass.proofs.KnownLaws.{and_parts}
use Rattle.hl_pass.proofs.LookLaws.{viewed, viewed_slot, look_free}
use Rattle.hl_keeper.specs.Touches.{view_past, view_after, IsTouch, AreTouches}
use Rattle.hl_keeper.proofs.EnterLaws.{stepped_on}
use Rattle.hl_keeper.proofs.TouchLaws.{touch_step, touches_rise}

module _ {J : Type 0} (tag : J → ℕ) where
  -- the core whose row of views is this, and the one in which slot t has this view
  abbrev viewing : State J → List (Option View) → State J
  viewing core views = record { sizes = core.sizes; table = core.table; views = views; drain = core.drain; offsets = core.offsets; pages = core.pages }

  abbrev seeing : State J → ℕ → View → State J
  seeing core t v = viewing core (set core.views t (Some v))

  -- where two cores stand at one list, the one stands wherever the other does
  alike : (one other : State J) (L M : List Step) → one.sizes ≡ other.sizes → Stands tag one L → Stands tag other L → Stands tag other M → Stands tag one M
  alike one other L M same a b c = record {
    in_range = a.in_range;
    accepted = subst (λ (z : Sizes). IsAccepted z M) (sym same) c.accepted;
    table_is = a.table_is ∙ ap (λ (z : Sizes). table_of z L) same ∙ sym b.table_is ∙ c.table_is ∙ ap (λ (z : Sizes). table_of z M) (sym same);
    views_is = a.views_is ∙ ap (λ (z : Sizes). slot_views z L) same ∙ sym b.views_is ∙ c.views_is ∙ ap (λ (z : Sizes). slot_views z M) (sym same);
    limit_is = a.limit_is;
    pending_is = a.pending_is ∙ sym b.pending_is ∙ c.pending_is;
    taken_is = a.taken_is ∙ sym b.taken_is ∙ c.taken_is;
    ordered = a.ordered;
    offsets_is = a.offsets_is ∙ ap (λ (z : Sizes). log_of z L) same ∙ sym b.offsets_is ∙ c.offsets_is ∙ ap (λ (z : Sizes). log_of z M) (sym same);
    pages_is = a.pages_is ∙ ap (λ (z : Sizes). pages_of z L) same ∙ sym b.pages_is ∙ c.pages_is ∙ ap (λ (z : Sizes). pages_of z M) (sym same);
  }

  module _ (core : State J) (t : ℕ) (A : List Step) (v : View) (st : Stands tag core A) (at : slot_view core.sizes t A ≡ Some v) where
    -- what the row has for the slot
    in_row : get_or core.views t None ≡ Some v
    in_row = ap (λ (vs : List (Option View)). get_or vs t None) st.views_is ∙ slot_views-at core.sizes A t None (viewed_slot core.sizes t A v st.accepted at) ∙ at

    -- the slot has this view wherever the core stands
    pub viewed_anywhere : (B : List Step) → Stands tag core B → slot_view core.sizes t B ≡ Some v
    viewed_anywhere B there =
        sym (slot_views-at core.sizes B t None (viewed_slot core.sizes t A v st.accepted at)) ∙ ap (λ (vs : List (Option View)). get_or vs t None) (sym there.views_is) ∙ in_row

    -- so the core in which the slot has it is the core
    itself : Stands tag (seeing core t v) A
    itself = subst (λ (vs : List (Option View)). Stands tag (viewing core vs) A) (sym (ap (λ (o : Option View). set core.views t o) (sym in_row) ∙ set-get_or core.views t None)) st

    -- after a look of the slot
    looked_on : (r h : ℕ) → v.read_only ≤ r → v.head ≤ h → Stands tag (seeing core t (view_past v (Look t r h))) (A ++ Look t r h ∷ [])
    looked_on r h low high =
        let told : (B : List Step) → Stands tag core B → Ok v ≡ unless_fault (fault_of core.sizes B (Look t r h)) (view_of core.sizes t B) =
        (λ B there. let here : slot_view core.sizes t B ≡ Some v = viewed_anywhere B there in
        sym (ap (λ o. unless_fault o (view_of core.sizes t B)) (look_free core.sizes t B v r h there.accepted here low high) ∙ ap (λ (w : View). Ok w) (viewed core.sizes t B v here).1)) in
        (stepped_on tag core A (Look t r h) _ _ (look_ok tag core t r h v told A st)).2

    -- after a touch
    touch_on : (s : Step) → IsTouch t v s → Stands tag (seeing core t (view_past v s)) (A ++ s ∷ [])
    touch_on (Look u r h) is = subst (λ (z : ℕ). Stands tag (seeing core t (view_past v (Look z r h))) (A ++ Look z r h ∷ [])) (sym is.0) (looked_on r h is.1 is.2)
    touch_on (Write u a x) is =
        let free = (touch_step core.sizes t A v (Write u a x) is st.accepted at).0 in
        subst (λ (vs : List (Option View)). Stands tag (viewing core vs) (A ++ Write u a x ∷ [])) (sym (ap (λ (o : Option View). set core.views t o) (sym in_row) ∙ set-get_or core.views t None))
        (stepped_on tag core A (Write u a x) core _ (write_ok tag core A u a x st free)).2
    touch_on _ is = absurd is

  -- and after touches one by one
  touches_on : (core : State J) (t : ℕ) (A : List Step) (v : View) (xs : List Step) → Stands tag core A → slot_view core.sizes t A ≡ Some v → AreTouches t v xs → Stands tag (seeing core t (view_after v xs)) (A ++ xs)
  unfolding AreTouches view_after
  touches_on core t A v [] st at are = subst (λ (B : List Step). Stands tag (seeing core t v) B) (sym (append-nil A)) (itself core t A v st at)
  touches_on core t A v (s ∷ xs) st at are =
      let w : View = view_past v s in
      let rest = touches_on (seeing core t w) t (A ++ s ∷ []) w xs (touch_on core t A v st at s are.0) (touch_step core.sizes t A v s are.0 st.accepted at).1 are.1 in
      subst (λ (vs : List (Option View)). Stands tag (viewing core vs) (A ++ s ∷ xs)) (set-set core.views t (Some w) (Some (view_after w xs)))
      (subst (λ (B : List Step). Stands tag (seeing (seeing core t w) t (view_after w xs)) B) (append_assoc A (s ∷ []) xs) rest)

  -- so one look brings a core where the touches lead
  pub caught_up : (core new : State J) (own : PassView) (xs : List Step) (A : List Step) → own.view ≡ view_after own.held xs → AreTouches own.slot own.held xs → slot_view core.sizes own.slot A ≡ Some own.held
      → Stands tag core A → new.sizes ≡ core.sizes → Stands tag new (looked core.sizes A own) → Stands tag new (A ++ xs)
  caught_up core new own xs A is are at st same there = by_look (is_up own) refl
    where
      rise : (own.held.read_only ≤ own.view.read_only) × (own.held.head ≤ own.view.head) × (own.view.tail ≡ own.held.tail)
      rise = subst (λ (w : View). (own.held.read_only ≤ w.read_only) × (own.held.head ≤ w.head) × (w.tail ≡ own.held.tail)) (sym is) (touches_rise own.slot own.held xs are)

      whole : (r h n : ℕ) → own.view.read_only ≡ r → own.view.head ≡ h → own.view.tail ≡ n → own.view ≡ record { read_only = r; head = h; tail = n }
      whole r h n a b c = rw (sym a, sym b, sym c) refl

      last : Stands tag (seeing core own.slot own.view) (A ++ xs)
      last = subst (λ (w : View). Stands tag (seeing core own.slot w) (A ++ xs)) (sym is) (touches_on core own.slot A own.held xs st at are)

      by_look : (up : Bool) → is_up own ≡ up → Stands tag new (A ++ xs)
      by_look true up =
          let both = and_parts (eqb own.view.read_only own.held.read_only) (eqb own.view.head own.held.head) up in
          let low : own.view.read_only ≡ own.held.read_only = eqb-true own.view.read_only own.held.read_only both.0 in
          let high : own.view.head ≡ own.held.head = eqb-true own.view.head own.held.head both.1 in
          let held : own.view ≡ own.held = whole own.held.read_only own.held.head own.held.tail low high rise.2 in
          alike new (seeing core own.slot own.view) A (A ++ xs) same
          (subst (λ (b : Bool). Stands tag new (cond b A (extended core.sizes A (Look own.slot own.view.read_only own.view.head)))) up there)
          (subst (λ (w : View). Stands tag (seeing core own.slot w) A) (sym held) (itself core own.slot A own.held st at)) last
      by_look false up =
          let look : Step = Look own.slot own.view.read_only own.view.head in
          let free = look_free core.sizes own.slot A own.held own.view.read_only own.view.head st.accepted at rise.0 rise.1 in
          let past : own.view ≡ view_past own.held look = whole own.view.read_only own.view.head own.held.tail refl refl rise.2 in
          alike new (seeing core own.slot own.view) (A ++ look ∷ []) (A ++ xs) same
          (subst (λ (B : List Step). Stands tag new B) (extended-none core.sizes A look free) (subst (λ (b : Bool). Stands tag new (cond b A (extended core.sizes A look))) up there))
          (subst (λ (w : View). Stands tag (seeing core own.slot w) (A ++ look ∷ [])) (sym past) (looked_on core own.slot A own.held st at own.view.read_only own.view.head rise.0 rise.1)) last
