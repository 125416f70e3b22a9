-- What holds of the drain list of every accepted list.
use Rattle.std.proofs.Common.{◌≡◌, ℕ, ◌+◌, ◌-◌, ◌<◌, ◌≤◌, Bool, true, false, cond, not, ◌&&◌, ◌||◌, leb, ltb, is_some, List, [], ◌∷◌, ◌++◌, length, take, refl, sym, ap, ◌∙◌, subst, arith, append-nil, take_all, le_trans, inl, inr, ◌⊎◌}
use Rattle.std.specs.Prelude.{◌==◌, Option, Some, None}
use Rattle.std.specs.List.{AllByRecursion, filter, list_any}
use Rattle.std.proofs.lemmas.Bool.{eqb-true, eqb-false, ltb-false, leb-false, and_parts, not-true, or_cases, false_from_ne_true}
use Rattle.std.proofs.lemmas.List.{length_push}
use Rattle.hl_model.specs.declared.action.Waiting.{Waiting}
use Rattle.hl_model.specs.declared.fault.Fault.{Fault}
use Rattle.hl_model.specs.declared.fault.Fault.TheVariants.{NoSlot, Occupied, NotProtected, DrainFull, EpochsSpent, Empty, NotReady, NotTaken, WindowFull}
use Rattle.hl_model.specs.declared.step.Step.{Step}
use Rattle.hl_model.specs.declared.step.Step.TheVariants.{Acquire, Refresh, Bump, Settle, Close, Bare, Take, Done}
use Rattle.hl_model.specs.Sizes.{Sizes}
use Rattle.hl_model.specs.Epochs.{epoch_window, is_bump, enters, leaves, current_epoch, is_protected, slot_epoch, safe_epoch}
use Rattle.hl_model.specs.Actions.{stores, is_take, is_done, finishes, takes, dones, action_of, actions, is_finished, pending, front, ever_taken, taken, is_taken, is_full, action_at}
use Rattle.hl_model.specs.Replies.{epoch_last, fault_of, bare_fault, bump_fault, IsAccepted}
use Rattle.hl_model.proofs.ListLaws.{one_where, none_where, all-append, all-follows}
use Rattle.hl_laws.proofs.AcceptedLaws.{accepted_has}
use Rattle.hl_laws.proofs.ActionLaws.{takes-push, takes-stay, dones-push, is_finished-push, actions-push, actions-nil, length-actions-push, actions-rising, length-pending, ever_taken-stay, ever_taken-take, ever_taken-nil, taken-stores, taken-take, taken-done, ticket-front, takes-nil, taken-nil}
use Rattle.hl_laws.proofs.EpochLaws.{current_epoch-push, current_epoch-nil, slot_epoch-push, slot_epoch-nil, safe_epoch-push}
use Rattle.hl_laws.proofs.TicketLaws.{of_ticket, Rising, Rising-take, Rising-filter, front-new, length-removed, of_ticket-filter, find-take, any-front, found-any}
use Rattle.hl_laws.proofs.NoFaultLaws.{later_fault}

-- no fault of two: neither test holds
pub two_faults : (b c : Bool) (f g : Fault) → cond b (Some f) (cond c (Some g) None) ≡ None → (b ≡ false) × (c ≡ false)
two_faults true c f g h = cc
two_faults false true f g h = cc
two_faults false false f g h = (refl, refl)

-- a take without a fault: some action is pending, and the front is safe
pub take_fault-none : (sizes : Sizes) (A : List Step) → fault_of sizes A Take ≡ None → (0 < length (pending A)) × (front A ≤ safe_epoch sizes.slots A)
take_fault-none sizes A h =
    let tests : ((length (pending A) == 0) ≡ false) × (ltb (safe_epoch sizes.slots A) (front A) ≡ false) = two_faults (length (pending A) == 0) (ltb (safe_epoch sizes.slots A) (front A)) Empty (NotReady (front A) (safe_epoch sizes.slots A)) h in
    (omega (arith, eqb-false (length (pending A)) 0 tests.0), ltb-false (safe_epoch sizes.slots A) (front A) tests.1)

-- a bare bump without a fault: there is an epoch, and the window has room
pub bare_fault-none : (sizes : Sizes) (A : List Step) → bare_fault sizes A ≡ None → ((current_epoch A == epoch_last) ≡ false) × ((current_epoch A - 1 - safe_epoch sizes.slots A == epoch_window) ≡ false)
bare_fault-none sizes A h = two_faults (current_epoch A == epoch_last) (current_epoch A - 1 - safe_epoch sizes.slots A == epoch_window) EpochsSpent WindowFull h

-- a bump that stores an action, without a fault: there is room, and a bare bump would meet none
pub bump_fault-none : (sizes : Sizes) (A : List Step) → bump_fault sizes A ≡ None → (is_full sizes.drain A ≡ false) × (bare_fault sizes A ≡ None)
bump_fault-none sizes A h = later_fault (is_full sizes.drain A) DrainFull (bare_fault sizes A) h

one_fault : (b : Bool) (f : Fault) → cond b None (Some f) ≡ None → b ≡ true
one_fault true f h = refl
one_fault false f h = cc

-- a done without a fault names an action that is taken and not done
pub done_fault-none : (sizes : Sizes) (A : List Step) (c : ℕ) → fault_of sizes A (Done c) ≡ None → is_taken c A ≡ true
done_fault-none sizes A c h = one_fault (is_taken c A) NotTaken h

-- ticket c is that of an action ever taken
abbrev pub was_taken : ℕ → List Step → Bool
was_taken c A = list_any (λ w. w.ticket == c) (ever_taken A)

-- what it is to be taken and not done
pub is_taken-parts : (c : ℕ) (A : List Step) → is_taken c A ≡ true → (was_taken c A ≡ true) × (is_finished c A ≡ false)
unfolding is_taken
is_taken-parts c A h =
    let parts : (was_taken c A ≡ true) × (not (is_finished c A) ≡ true) = and_parts (was_taken c A) (not (is_finished c A)) h in
    (parts.0, not-true (is_finished c A) parts.1)

dones-nil : dones [] ≡ 0
unfolding dones
dones-nil = refl

is_finished-nil : (c : ℕ) → is_finished c [] ≡ false
unfolding is_finished
is_finished-nil c = refl

takes-more : (A : List Step) (s : Step) → is_take s ≡ true → takes (A ++ s ∷ []) ≡ takes A + 1
takes-more A s e = omega (arith, takes-push A s, one_where (is_take s) e)

dones-more : (A : List Step) (s : Step) → is_done s ≡ true → dones (A ++ s ∷ []) ≡ dones A + 1
dones-more A s e = omega (arith, dones-push A s, one_where (is_done s) e)

dones-stay : (A : List Step) (s : Step) → is_done s ≡ false → dones (A ++ s ∷ []) ≡ dones A
dones-stay A s e = omega (arith, dones-push A s, none_where (is_done s) e)

-- the one step that takes
pub is_take-only : (s : Step) → is_take s ≡ true → s ≡ Take
is_take-only Take h = refl
is_take-only _ h = cc

-- the one step that finishes ticket c
finishes-only : (c : ℕ) (s : Step) → finishes c s ≡ true → s ≡ Done c
finishes-only c (Done ticket) h = ap Done (eqb-true ticket c h)
finishes-only c _ h = cc

-- no more is taken than was stored
pub takes-le-actions : (sizes : Sizes) (A : List Step) → IsAccepted sizes A → takes A ≤ length (actions A)
takes-le-actions sizes = accepted_has sizes (λ A. takes A ≤ length (actions A)) none step
  where
    none : takes [] ≤ length (actions [])
    none = omega (arith, takes-nil)

    step : (A : List Step) (s : Step) → IsAccepted sizes A → fault_of sizes A s ≡ None → takes A ≤ length (actions A) → takes (A ++ s ∷ []) ≤ length (actions (A ++ s ∷ []))
    step A s a h le = by_test (is_take s) refl
      where
        by_test : (b : Bool) → is_take s ≡ b → takes (A ++ s ∷ []) ≤ length (actions (A ++ s ∷ []))
        by_test true e =
            let left : (0 < length (pending A)) × (front A ≤ safe_epoch sizes.slots A) = take_fault-none sizes A (subst (λ (x : Step). fault_of sizes A x ≡ None) (is_take-only s e) h) in
            omega (arith, left.0, length-pending A, takes-more A s e, length-actions-push A s)
        by_test false e = omega (arith, takes-stay A s e, length-actions-push A s)

-- what was taken stays taken
was_taken-grows : (c : ℕ) (A : List Step) (s : Step) → was_taken c A ≡ true → was_taken c (A ++ s ∷ []) ≡ true
unfolding ever_taken
was_taken-grows c A s h =
    ap (λ ws. list_any (λ w. w.ticket == c) (take (takes (A ++ s ∷ [])) ws)) (actions-push A s)
    ∙ any-front (λ w. w.ticket == c) (takes A) (takes (A ++ s ∷ [])) (actions A) (action_of A s) (omega (arith, takes-push A s)) h

-- a finished ticket was taken
pub finished-taken : (sizes : Sizes) (c : ℕ) (A : List Step) → IsAccepted sizes A → is_finished c A ≡ true → was_taken c A ≡ true
finished-taken sizes c = accepted_has sizes (λ A. is_finished c A ≡ true → was_taken c A ≡ true) none step
  where
    none : is_finished c [] ≡ true → was_taken c [] ≡ true
    none h = let no : is_finished c [] ≡ false = is_finished-nil c in cc

    step : (A : List Step) (s : Step) → IsAccepted sizes A → fault_of sizes A s ≡ None → (is_finished c A ≡ true → was_taken c A ≡ true) → is_finished c (A ++ s ∷ []) ≡ true → was_taken c (A ++ s ∷ []) ≡ true
    step A s a h before now = was_taken-grows c A s (by_part (or_cases (is_finished c A) (finishes c s) (sym (is_finished-push c A s) ∙ now)))
      where
        by_part : ((is_finished c A ≡ true) ⊎ (finishes c s ≡ true)) → was_taken c A ≡ true
        by_part (inl e) = before e
        by_part (inr e) = (is_taken-parts c A (done_fault-none sizes A c (subst (λ (x : Step). fault_of sizes A x ≡ None) (finishes-only c s e) h))).0

-- no action still pending has a ticket that was taken
pub pending-untaken : (A : List Step) (w : Waiting) (ws : List Waiting) → pending A ≡ w ∷ ws → was_taken w.ticket A ≡ false
unfolding ever_taken pending
pending-untaken A w ws h = front-new 0 (takes A) (actions A) w ws (actions-rising A) h

-- the action that a take would name isn't done
pub front-unfinished : (sizes : Sizes) (A : List Step) (w : Waiting) (ws : List Waiting) → IsAccepted sizes A → pending A ≡ w ∷ ws → is_finished w.ticket A ≡ false
front-unfinished sizes A w ws a h =
    false_from_ne_true (is_finished w.ticket A) (λ done. let was : was_taken w.ticket A ≡ true = finished-taken sizes w.ticket A a done in let new : was_taken w.ticket A ≡ false = pending-untaken A w ws h in cc)

-- a take moves the first pending action behind those taken
pub taken-next : (sizes : Sizes) (A : List Step) (w : Waiting) (ws : List Waiting) → IsAccepted sizes A → pending A ≡ w ∷ ws → taken (A ++ Take ∷ []) ≡ taken A ++ w ∷ []
taken-next sizes A w ws a h = taken-take A w ws h (front-unfinished sizes A w ws a h)

-- the tickets ever taken rise
pub ever_taken-rising : (A : List Step) → Rising 0 (ever_taken A)
unfolding ever_taken
ever_taken-rising A = Rising-take (takes A) 0 (actions A) (actions-rising A)

-- and so do those taken
pub Rising-taken : (A : List Step) → Rising 0 (taken A)
unfolding taken
Rising-taken A = Rising-filter (λ w. not (is_finished w.ticket A)) 0 (ever_taken A) (ever_taken-rising A)

-- two tests, one after the other
both_tests : (b c : Bool) (o : Option Waiting) → cond b (cond c o None) None ≡ cond (c && b) o None
both_tests true true o = refl
both_tests true false o = refl
both_tests false true o = refl
both_tests false false o = refl

-- what the taken actions have under a ticket
pub of_ticket-taken : (c : ℕ) (A : List Step) → of_ticket c (taken A) ≡ cond (is_taken c A) (action_at c A) None
unfolding taken ever_taken is_taken action_at
of_ticket-taken c A =
    of_ticket-filter (λ t. not (is_finished t A)) c (take (takes A) (actions A))
    ∙ ap (λ o. cond (not (is_finished c A)) o None) (find-take (λ w. w.ticket == c) (takes A) (actions A))
    ∙ both_tests (not (is_finished c A)) (list_any (λ w. w.ticket == c) (take (takes A) (actions A))) (of_ticket c (actions A))

-- what was ever taken was stored
was_stored : (c : ℕ) (A : List Step) → was_taken c A ≡ true → list_any (λ w. w.ticket == c) (actions A) ≡ true
unfolding ever_taken
was_stored c A h =
    ap (list_any (λ w. w.ticket == c)) (sym (append-nil (actions A)) ∙ sym (take_all (takes A + length (actions A)) (actions A ++ []) (omega (arith, ap length (append-nil (actions A))))))
    ∙ any-front (λ w. w.ticket == c) (takes A) (takes A + length (actions A)) (actions A) [] (omega arith) h

-- a taken ticket has an action
pub action_at-some : (c : ℕ) (A : List Step) → is_taken c A ≡ true → is_some (action_at c A) ≡ true
unfolding action_at
action_at-some c A h = sym (found-any (λ w. w.ticket == c) (actions A)) ∙ was_stored c A (is_taken-parts c A h).0

-- a ticket is taken and not done exactly where it is among the taken ones
pub is_taken-found : (c : ℕ) (A : List Step) → is_some (of_ticket c (taken A)) ≡ is_taken c A
is_taken-found c A = ap is_some (of_ticket-taken c A) ∙ by_test (is_taken c A) refl
  where
    by_test : (b : Bool) → is_taken c A ≡ b → is_some (cond b (action_at c A) None) ≡ b
    by_test true e = action_at-some c A e
    by_test false e = refl

-- the one step that finishes anything
is_done-only : (s : Step) → is_done s ≡ true → (c : ℕ) × (s ≡ Done c)
is_done-only (Done ticket) h = (ticket, refl)
is_done-only _ h = cc

pub finishes-none : (c : ℕ) (s : Step) → is_done s ≡ false → finishes c s ≡ false
finishes-none c (Done ticket) h = cc
finishes-none c _ h = refl

is_take-is_done : (s : Step) → is_take s ≡ true → is_done s ≡ false
is_take-is_done Take h = refl
is_take-is_done _ h = cc

-- what is pending has a first
pub first_pending : (A : List Step) → 0 < length (pending A) → (w : Waiting) × (ws : List Waiting) × (pending A ≡ w ∷ ws)
first_pending A h = split (pending A) refl
  where
    split : (ws : List Waiting) → pending A ≡ ws → (v : Waiting) × (vs : List Waiting) × (pending A ≡ v ∷ vs)
    split [] e = absurd (omega (arith, h, ap length e))
    split (w ∷ ws) e = (w, ws, e)

-- each taken action is done, or taken and not done
pub taken-dones : (sizes : Sizes) (A : List Step) → IsAccepted sizes A → length (taken A) + dones A ≡ takes A
taken-dones sizes = accepted_has sizes (λ A. length (taken A) + dones A ≡ takes A) none step
  where
    none : length (taken []) + dones [] ≡ takes []
    none = omega (arith, ap length taken-nil, dones-nil, takes-nil)

    step : (A : List Step) (s : Step) → IsAccepted sizes A → fault_of sizes A s ≡ None → length (taken A) + dones A ≡ takes A → length (taken (A ++ s ∷ [])) + dones (A ++ s ∷ []) ≡ takes (A ++ s ∷ [])
    step A s a h before = by_test (is_take s) (is_done s) refl refl
      where
        by_test : (b d : Bool) → is_take s ≡ b → is_done s ≡ d → length (taken (A ++ s ∷ [])) + dones (A ++ s ∷ []) ≡ takes (A ++ s ∷ [])
        by_test true d e f =
            let is : s ≡ Take = is_take-only s e in
            let some : (0 < length (pending A)) × (front A ≤ safe_epoch sizes.slots A) = take_fault-none sizes A (subst (λ (x : Step). fault_of sizes A x ≡ None) is h) in
            let next : (w : Waiting) × (ws : List Waiting) × (pending A ≡ w ∷ ws) = first_pending A some.0 in
            let longer : length (taken (A ++ s ∷ [])) ≡ length (taken A ++ next.0 ∷ []) = ap (λ x. length (taken (A ++ x ∷ []))) is ∙ ap length (taken-next sizes A next.0 next.1 a next.2) in
            omega (arith, longer, length_push (taken A) next.0, takes-more A s e, dones-stay A s (is_take-is_done s e))
        by_test false true e f =
            let is : (c : ℕ) × (s ≡ Done c) = is_done-only s f in
            let held : is_taken is.0 A ≡ true = done_fault-none sizes A is.0 (subst (λ (x : Step). fault_of sizes A x ≡ None) is.1 h) in
            let shorter : length (taken (A ++ s ∷ [])) ≡ length (filter (λ w. not (is.0 == w.ticket)) (taken A)) = ap (λ x. length (taken (A ++ x ∷ []))) is.1 ∙ ap length (taken-done A is.0) in
            omega (arith, shorter, length-removed is.0 0 (taken A) (Rising-taken A) (is_taken-found is.0 A ∙ held), takes-stay A s e, dones-more A s f)
        by_test false false e f =
            omega (arith, ap length (taken-stores A s (takes-le-actions sizes A a) e (λ c. finishes-none c s f)), takes-stay A s e, dones-stay A s f)

-- a bump of any kind, without a fault
pub bump-none : (sizes : Sizes) (A : List Step) (s : Step) → is_bump s ≡ true → fault_of sizes A s ≡ None → bare_fault sizes A ≡ None
bump-none sizes A (Bump tag) e h = (bump_fault-none sizes A h).1
bump-none sizes A Settle e h = (bump_fault-none sizes A h).1
bump-none sizes A Close e h = (bump_fault-none sizes A h).1
bump-none sizes A Bare e h = h
bump-none sizes A _ e h = cc

-- one that stores an action
pub stores-none : (sizes : Sizes) (A : List Step) (s : Step) → stores s ≡ true → fault_of sizes A s ≡ None → is_full sizes.drain A ≡ false
stores-none sizes A (Bump tag) e h = (bump_fault-none sizes A h).0
stores-none sizes A Settle e h = (bump_fault-none sizes A h).0
stores-none sizes A Close e h = (bump_fault-none sizes A h).0
stores-none sizes A _ e h = cc

not_full : (d : ℕ) (A : List Step) → is_full d A ≡ false → (length (actions A) - dones A ≡ d → ⊥)
unfolding is_full
not_full d A h = eqb-false (length (actions A) - dones A) d h

-- the drain list has no more actions than places
pub actions-dones : (sizes : Sizes) (A : List Step) → IsAccepted sizes A → length (actions A) - dones A ≤ sizes.drain
actions-dones sizes = accepted_has sizes (λ A. length (actions A) - dones A ≤ sizes.drain) none step
  where
    none : length (actions []) - dones [] ≤ sizes.drain
    none = omega (arith, ap length actions-nil, dones-nil)

    step : (A : List Step) (s : Step) → IsAccepted sizes A → fault_of sizes A s ≡ None → length (actions A) - dones A ≤ sizes.drain → length (actions (A ++ s ∷ [])) - dones (A ++ s ∷ []) ≤ sizes.drain
    step A s a h before = by_test (stores s) refl
      where
        by_test : (b : Bool) → stores s ≡ b → length (actions (A ++ s ∷ [])) - dones (A ++ s ∷ []) ≤ sizes.drain
        by_test true e =
            omega (arith, before, not_full sizes.drain A (stores-none sizes A s e h), length-actions-push A s, one_where (stores s) e, dones-push A s)
        by_test false e = omega (arith, before, length-actions-push A s, none_where (stores s) e, dones-push A s)

-- pending and taken actions are those stored less dones
pub length-both : (sizes : Sizes) (A : List Step) → IsAccepted sizes A → length (pending A) + length (taken A) ≡ length (actions A) - dones A
length-both sizes A a = omega (arith, length-pending A, taken-dones sizes A a, takes-le-actions sizes A a)

-- the list is full where its two parts have as many actions as it has places
pub is_full-both : (sizes : Sizes) (d : ℕ) (A : List Step) → IsAccepted sizes A → is_full d A ≡ (length (pending A) + length (taken A) == d)
unfolding is_full
is_full-both sizes d A a = ap (λ n. n == d) (sym (length-both sizes A a))

-- what was taken is safe
pub ever_taken-safe : (sizes : Sizes) (A : List Step) → IsAccepted sizes A → AllByRecursion (λ w. w.ticket ≤ safe_epoch sizes.slots A) (ever_taken A)
ever_taken-safe sizes = accepted_has sizes (λ A. AllByRecursion (λ w. w.ticket ≤ safe_epoch sizes.slots A) (ever_taken A)) none step
  where
    none : AllByRecursion (λ w. w.ticket ≤ safe_epoch sizes.slots []) (ever_taken [])
    none = subst (AllByRecursion (λ w. w.ticket ≤ safe_epoch sizes.slots [])) (sym ever_taken-nil) tt

    step : (A : List Step) (s : Step) → IsAccepted sizes A → fault_of sizes A s ≡ None → AllByRecursion (λ w. w.ticket ≤ safe_epoch sizes.slots A) (ever_taken A) → AllByRecursion (λ w. w.ticket ≤ safe_epoch sizes.slots (A ++ s ∷ [])) (ever_taken (A ++ s ∷ []))
    step A s a h before = by_test (is_take s) refl
      where
        later : AllByRecursion (λ w. w.ticket ≤ safe_epoch sizes.slots (A ++ s ∷ [])) (ever_taken A)
        later =
            all-follows (λ w. w.ticket ≤ safe_epoch sizes.slots A) (λ w. w.ticket ≤ safe_epoch sizes.slots (A ++ s ∷ [])) (ever_taken A)
            (λ w le. le_trans le (safe_epoch-push sizes.slots A s)) before

        by_test : (b : Bool) → is_take s ≡ b → AllByRecursion (λ w. w.ticket ≤ safe_epoch sizes.slots (A ++ s ∷ [])) (ever_taken (A ++ s ∷ []))
        by_test true e =
            let is : s ≡ Take = is_take-only s e in
            let ready : (0 < length (pending A)) × (front A ≤ safe_epoch sizes.slots A) = take_fault-none sizes A (subst (λ (x : Step). fault_of sizes A x ≡ None) is h) in
            let next : (w : Waiting) × (ws : List Waiting) × (pending A ≡ w ∷ ws) = first_pending A ready.0 in
            let more : ever_taken (A ++ s ∷ []) ≡ ever_taken A ++ next.0 ∷ [] = ap (λ x. ever_taken (A ++ x ∷ [])) is ∙ ever_taken-take A next.0 next.1 next.2 in
            subst (AllByRecursion (λ w. w.ticket ≤ safe_epoch sizes.slots (A ++ s ∷ []))) (sym more)
            (all-append (λ w. w.ticket ≤ safe_epoch sizes.slots (A ++ s ∷ [])) (ever_taken A) (next.0 ∷ []) later
            (omega (arith, ticket-front A next.0 next.1 next.2, ready.1, safe_epoch-push sizes.slots A s), tt))
        by_test false e = subst (AllByRecursion (λ w. w.ticket ≤ safe_epoch sizes.slots (A ++ s ∷ []))) (sym (ever_taken-stay A s (takes-le-actions sizes A a) e)) later

-- so a ticket that was taken is safe
pub was_taken-safe : (sizes : Sizes) (A : List Step) (c : ℕ) → IsAccepted sizes A → was_taken c A ≡ true → c ≤ safe_epoch sizes.slots A
was_taken-safe sizes A c a was = of_any (ever_taken A) was (ever_taken-safe sizes A a)
  where
    of_any : (ws : List Waiting) → list_any (λ w. w.ticket == c) ws ≡ true → AllByRecursion (λ w. w.ticket ≤ safe_epoch sizes.slots A) ws → c ≤ safe_epoch sizes.slots A
    of_any [] h each = cc
    of_any (w ∷ ws) h each = by_test (w.ticket == c) refl h (λ k. of_any ws k each.1)
      where
        by_test : (b : Bool) → (w.ticket == c) ≡ b → (b || list_any (λ v. v.ticket == c) ws) ≡ true → (list_any (λ v. v.ticket == c) ws ≡ true → c ≤ safe_epoch sizes.slots A) → c ≤ safe_epoch sizes.slots A
        by_test true e k later = omega (arith, each.0, eqb-true w.ticket c e)
        by_test false e k later = later k

-- and so is a finished one
pub finished-safe : (sizes : Sizes) (A : List Step) (c : ℕ) → IsAccepted sizes A → is_finished c A ≡ true → c ≤ safe_epoch sizes.slots A
finished-safe sizes A c a done = was_taken-safe sizes A c a (finished-taken sizes c A a done)

-- the epochs that end above the safe one are at most those of the window
pub epochs-window : (sizes : Sizes) (A : List Step) → IsAccepted sizes A → current_epoch A - 1 - safe_epoch sizes.slots A ≤ epoch_window
epochs-window sizes = accepted_has sizes (λ A. current_epoch A - 1 - safe_epoch sizes.slots A ≤ epoch_window) none step
  where
    none : current_epoch [] - 1 - safe_epoch sizes.slots [] ≤ epoch_window
    none = omega (arith, current_epoch-nil)

    step : (A : List Step) (s : Step) → IsAccepted sizes A → fault_of sizes A s ≡ None → current_epoch A - 1 - safe_epoch sizes.slots A ≤ epoch_window → current_epoch (A ++ s ∷ []) - 1 - safe_epoch sizes.slots (A ++ s ∷ []) ≤ epoch_window
    step A s a h before = by_test (is_bump s) refl
      where
        by_test : (b : Bool) → is_bump s ≡ b → current_epoch (A ++ s ∷ []) - 1 - safe_epoch sizes.slots (A ++ s ∷ []) ≤ epoch_window
        by_test true e =
            omega (
              arith,
              before,
              eqb-false (current_epoch A - 1 - safe_epoch sizes.slots A) epoch_window (bare_fault-none sizes A (bump-none sizes A s e h)).1,
              current_epoch-push A s,
              one_where (is_bump s) e,
              safe_epoch-push sizes.slots A s,
            )
        by_test false e = omega (arith, before, current_epoch-push A s, none_where (is_bump s) e, safe_epoch-push sizes.slots A s)

protected_fault-none : (b p : Bool) (f g : Fault) → cond b (Some f) (cond p None (Some g)) ≡ None → (b ≡ false) × (p ≡ true)
protected_fault-none true p f g h = cc
protected_fault-none false true f g h = (refl, refl)
protected_fault-none false false f g h = cc

-- a step by which a slot enters names one that there is
pub enters-slot : (sizes : Sizes) (A : List Step) (t : ℕ) (s : Step) → enters t s ≡ true → fault_of sizes A s ≡ None → t < sizes.slots
enters-slot sizes A t (Acquire u) e h =
    let tests : (leb sizes.slots u ≡ false) × (is_protected u A ≡ false) = two_faults (leb sizes.slots u) (is_protected u A) NoSlot Occupied h in
    omega (arith, leb-false sizes.slots u tests.0, eqb-true u t e)
enters-slot sizes A t (Refresh u) e h =
    let tests : (leb sizes.slots u ≡ false) × (is_protected u A ≡ true) = protected_fault-none (leb sizes.slots u) (is_protected u A) NoSlot NotProtected h in
    omega (arith, leb-false sizes.slots u tests.0, eqb-true u t e)
enters-slot sizes A t _ e h = cc

-- only slots that there are are protected
pub protected-slot : (sizes : Sizes) (t : ℕ) (A : List Step) → IsAccepted sizes A → (e : ℕ) → slot_epoch t A ≡ Some e → t < sizes.slots
protected-slot sizes t = accepted_has sizes (λ A. (e : ℕ) → slot_epoch t A ≡ Some e → t < sizes.slots) (λ e h. let no : slot_epoch t [] ≡ None = slot_epoch-nil t in cc) step
  where
    step : (A : List Step) (s : Step) → IsAccepted sizes A → fault_of sizes A s ≡ None → ((e : ℕ) → slot_epoch t A ≡ Some e → t < sizes.slots) → (e : ℕ) → slot_epoch t (A ++ s ∷ []) ≡ Some e → t < sizes.slots
    step A s a h before e is = by_test (enters t s) (leaves t s) refl (sym (slot_epoch-push t A s) ∙ is)
      where
        by_test : (b c : Bool) → enters t s ≡ b → cond b (Some (current_epoch A)) (cond c None (slot_epoch t A)) ≡ Some e → t < sizes.slots
        by_test true c f k = enters-slot sizes A t s f h
        by_test false true f k = cc
        by_test false false f k = before e k
