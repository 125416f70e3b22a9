-- The firings of taken actions, with one step more.
use Rattle.std.proofs.Common.{◌≡◌, ℕ, Bool, true, false, cond, not, ◌&&◌, List, [], ◌∷◌, ◌++◌, map, refl, sym, ap, ap₂, ◌∙◌, append-nil}
use Rattle.std.specs.Prelude.{◌==◌, None}
use Rattle.std.specs.List.{filter}
use Rattle.std.proofs.lemmas.List.{map-append}
use Rattle.std.proofs.lemmas.List.Elements.{filter-append, filter_agree}
use Rattle.hl_model.specs.declared.action.Waiting.{Waiting}
use Rattle.hl_model.specs.declared.step.Step.{Step}
use Rattle.hl_model.specs.declared.step.Step.TheVariants.{Take, Done}
use Rattle.hl_model.specs.Lists.{gather, gather_after}
use Rattle.hl_model.specs.Sizes.{Sizes}
use Rattle.hl_model.specs.Epochs.{safe_epoch}
use Rattle.hl_model.specs.Actions.{front, pending, taken, is_take, is_finished, finishes}
use Rattle.hl_model.specs.Replies.{fault_of, IsAccepted}
use Rattle.hl_model.proofs.ListLaws.{gather-push}
use Rattle.hl_laws.proofs.ActionLaws.{is_finished-push, is_finished-stay, taken-done, taken-stores, ticket-front, not_or, filter_twice, taken-nil}
use Rattle.hl_laws.proofs.AcceptedLaws.{accepted_has}
use Rattle.hl_laws.proofs.DrainLaws.{taken-next, front-unfinished, take_fault-none, takes-le-actions, first_pending}
use Rattle.hl_action.specs.Firings.{FiringRecord}
use Rattle.hl_cells.specs.TakenActions.{firings, firing_of, undone_firings}

-- a step's firings come behind those before
pub firings-push : (sizes : Sizes) (A : List Step) (s : Step) → firings sizes (A ++ s ∷ []) ≡ firings sizes A ++ firing_of sizes A s
unfolding firings
firings-push sizes A s = gather-push (firing_of sizes) A s

-- at first there are none
pub firings-nil : (sizes : Sizes) → firings sizes [] ≡ []
unfolding firings gather gather_after
firings-nil sizes = refl

-- a step that takes none has none
firing_of-none : (sizes : Sizes) (A : List Step) (s : Step) → is_take s ≡ false → firing_of sizes A s ≡ []
firing_of-none sizes A Take e = cc
firing_of-none sizes A s e = refl

-- and leaves the firings
pub firings-stay : (sizes : Sizes) (A : List Step) (s : Step) → is_take s ≡ false → firings sizes (A ++ s ∷ []) ≡ firings sizes A
firings-stay sizes A s e = firings-push sizes A s ∙ ap (λ z. firings sizes A ++ z) (firing_of-none sizes A s e) ∙ append-nil (firings sizes A)

-- at first none is undone
pub undone-nil : (sizes : Sizes) → undone_firings sizes [] ≡ []
unfolding undone_firings
undone-nil sizes = ap (filter (λ (f : FiringRecord). not (is_finished f.ticket []))) (firings-nil sizes)

-- a step that takes and ends none leaves the undone
pub undone-stay : (sizes : Sizes) (A : List Step) (s : Step) → is_take s ≡ false → ((c : ℕ) → finishes c s ≡ false) → undone_firings sizes (A ++ s ∷ []) ≡ undone_firings sizes A
unfolding undone_firings
undone-stay sizes A s e h =
    ap (filter (λ (f : FiringRecord). not (is_finished f.ticket (A ++ s ∷ [])))) (firings-stay sizes A s e)
    ∙ filter_agree (λ (f : FiringRecord). not (is_finished f.ticket (A ++ s ∷ []))) (λ (f : FiringRecord). not (is_finished f.ticket A)) (λ f. ap not (is_finished-stay f.ticket A s (h f.ticket))) (firings sizes A)

-- no done names the ticket of the oldest pending action
unfinished_next : (sizes : Sizes) (A : List Step) (w : Waiting) (ws : List Waiting) → IsAccepted sizes A → pending A ≡ w ∷ ws → is_finished (front A) A ≡ false
unfinished_next sizes A w ws acc first = ap (λ c. is_finished c A) (sym (ticket-front A w ws first)) ∙ front-unfinished sizes A w ws acc first

-- a take's firing is undone
pub undone-take : (sizes : Sizes) (A : List Step) (w : Waiting) (ws : List Waiting) → IsAccepted sizes A → pending A ≡ w ∷ ws → undone_firings sizes (A ++ Take ∷ []) ≡ undone_firings sizes A ++ record { ticket = front A; safe = safe_epoch sizes.slots A } ∷ []
unfolding undone_firings
undone-take sizes A w ws acc first =
    filter_agree (λ (f : FiringRecord). not (is_finished f.ticket (A ++ Take ∷ []))) (λ (f : FiringRecord). not (is_finished f.ticket A)) (λ f. ap not (is_finished-stay f.ticket A Take refl)) (firings sizes (A ++ Take ∷ []))
    ∙ ap (filter (λ (f : FiringRecord). not (is_finished f.ticket A))) (firings-push sizes A Take)
    ∙ filter-append (λ (f : FiringRecord). not (is_finished f.ticket A)) (firings sizes A) (firing_of sizes A Take)
    ∙ ap (λ (b : Bool). filter (λ (f : FiringRecord). not (is_finished f.ticket A)) (firings sizes A) ++ cond (not b) (firing_of sizes A Take) []) (unfinished_next sizes A w ws acc first)

-- a done leaves the firings of other tickets
pub undone-done : (sizes : Sizes) (A : List Step) (c : ℕ) → undone_firings sizes (A ++ Done c ∷ []) ≡ filter (λ f. not (c == f.ticket)) (undone_firings sizes A)
unfolding undone_firings
undone-done sizes A c =
    filter_agree (λ (f : FiringRecord). not (is_finished f.ticket (A ++ Done c ∷ []))) (λ (f : FiringRecord). not (c == f.ticket) && not (is_finished f.ticket A))
    (λ f. ap not (is_finished-push f.ticket A (Done c)) ∙ not_or (is_finished f.ticket A) (c == f.ticket)) (firings sizes (A ++ Done c ∷ []))
    ∙ ap (filter (λ (f : FiringRecord). not (c == f.ticket) && not (is_finished f.ticket A))) (firings-stay sizes A (Done c) refl)
    ∙ filter_twice (λ (f : FiringRecord). not (is_finished f.ticket A)) (λ (f : FiringRecord). not (c == f.ticket)) (firings sizes A)

-- a filter by a key is one of the keys
filter_keys : {X : Type 0} (key : X → ℕ) (p : ℕ → Bool) (xs : List X) → map key (filter (λ x. p (key x)) xs) ≡ filter p (map key xs)
filter_keys key p [] = refl
filter_keys key p (x ∷ xs) = by_test (filter_keys key p xs) (p (key x)) refl
  where
    by_test : map key (filter (λ x. p (key x)) xs) ≡ filter p (map key xs) → (b : Bool) → p (key x) ≡ b → map key (filter (λ x. p (key x)) (x ∷ xs)) ≡ filter p (map key (x ∷ xs))
    by_test rest true e = rw e (ap (λ ys. key x ∷ ys) rest)
    by_test rest false e = rw e rest

-- the undone firings have the tickets of the taken actions
same_tickets : Sizes → List Step → Type 0
same_tickets sizes A = map (λ f. f.ticket) (undone_firings sizes A) ≡ map (λ w. w.ticket) (taken A)

tickets-quiet : (sizes : Sizes) (A : List Step) (s : Step) → IsAccepted sizes A → is_take s ≡ false → ((c : ℕ) → finishes c s ≡ false) → same_tickets sizes A → same_tickets sizes (A ++ s ∷ [])
unfolding same_tickets
tickets-quiet sizes A s acc e h same =
    ap (map (λ (f : FiringRecord). f.ticket)) (undone-stay sizes A s e h) ∙ same ∙ sym (ap (map (λ (w : Waiting). w.ticket)) (taken-stores A s (takes-le-actions sizes A acc) e h))

tickets-step : (sizes : Sizes) (A : List Step) (s : Step) → IsAccepted sizes A → fault_of sizes A s ≡ None → same_tickets sizes A → same_tickets sizes (A ++ s ∷ [])
unfolding same_tickets
tickets-step sizes A Take acc free same =
    let first = first_pending A (take_fault-none sizes A free).0 in
    ap (map (λ (f : FiringRecord). f.ticket)) (undone-take sizes A first.0 first.1 acc first.2)
    ∙ map-append (λ (f : FiringRecord). f.ticket) (undone_firings sizes A) (record { ticket = front A; safe = safe_epoch sizes.slots A } ∷ [])
    ∙ ap₂ (λ ns n. ns ++ n ∷ []) same (sym (ticket-front A first.0 first.1 first.2))
    ∙ sym (map-append (λ (w : Waiting). w.ticket) (taken A) (first.0 ∷ []))
    ∙ sym (ap (map (λ (w : Waiting). w.ticket)) (taken-next sizes A first.0 first.1 acc first.2))
tickets-step sizes A (Done c) acc free same =
    ap (map (λ (f : FiringRecord). f.ticket)) (undone-done sizes A c)
    ∙ filter_keys (λ (f : FiringRecord). f.ticket) (λ n. not (c == n)) (undone_firings sizes A)
    ∙ ap (filter (λ n. not (c == n))) same
    ∙ sym (filter_keys (λ (w : Waiting). w.ticket) (λ n. not (c == n)) (taken A))
    ∙ sym (ap (map (λ (w : Waiting). w.ticket)) (taken-done A c))
tickets-step sizes A s acc free same = tickets-quiet sizes A s acc refl (λ c. refl) same

pub tickets-undone : (sizes : Sizes) (A : List Step) → IsAccepted sizes A → map (λ f. f.ticket) (undone_firings sizes A) ≡ map (λ w. w.ticket) (taken A)
unfolding same_tickets
tickets-undone sizes A acc = accepted_has sizes (λ A. same_tickets sizes A) (ap (map (λ (f : FiringRecord). f.ticket)) (undone-nil sizes) ∙ sym (ap (map (λ (w : Waiting). w.ticket)) taken-nil)) (tickets-step sizes) A acc
