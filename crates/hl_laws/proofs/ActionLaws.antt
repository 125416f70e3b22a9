-- What the drain list becomes when one step is put behind the list.
use Rattle.std.proofs.Common.{ap₂, add-zero, ◌≡◌, ℕ, zero, suc, ◌+◌, ◌-◌, ◌<◌, ◌≤◌, Bool, true, false, cond, not, ◌&&◌, ◌||◌, List, [], ◌∷◌, ◌++◌, length, take, drop, refl, sym, ap, ◌∙◌, subst, arith, append-nil, length-append, length-drop}
use Rattle.std.specs.Prelude.{◌==◌}
use Rattle.std.specs.List.{AllByRecursion, filter}
use Rattle.std.proofs.lemmas.List.{take-append-le, drop-append-le}
use Rattle.std.proofs.lemmas.List.Elements.{filter-append, filter_agree}
use Rattle.std.proofs.Math.Bool.{or-false}
use Rattle.hl_model.specs.declared.action.Waiting.{Waiting}
use Rattle.hl_model.specs.declared.step.Step.{Step}
use Rattle.hl_model.specs.declared.step.Step.TheVariants.{Bump, Settle, Close, Take, Done}
use Rattle.hl_model.specs.Lists.{gather, gather_after}
use Rattle.hl_model.specs.Epochs.{is_bump, current_epoch}
use Rattle.hl_model.specs.Actions.{stores, is_take, is_done, finishes, bumps, takes, dones, action_of, actions, is_finished, pending, first_ticket, front, ever_taken, taken}
use Rattle.hl_model.proofs.ListLaws.{count_by-push, list_any-push, gather-push, by_pushing, one_where, all-append, all-follows}
use Rattle.hl_laws.proofs.TicketLaws.{Rising, Rising-push}

pub bumps-push : (A : List Step) (s : Step) → bumps (A ++ s ∷ []) ≡ bumps A + cond (is_bump s) 1 0
unfolding bumps
bumps-push A s = count_by-push is_bump A s

pub takes-push : (A : List Step) (s : Step) → takes (A ++ s ∷ []) ≡ takes A + cond (is_take s) 1 0
unfolding takes
takes-push A s = count_by-push is_take A s

pub dones-push : (A : List Step) (s : Step) → dones (A ++ s ∷ []) ≡ dones A + cond (is_done s) 1 0
unfolding dones
dones-push A s = count_by-push is_done A s

-- the current epoch is one above the number of bumps
pub current_epoch-bumps : (A : List Step) → current_epoch A ≡ bumps A + 1
unfolding current_epoch bumps
current_epoch-bumps A = omega arith

-- each step's action comes behind those before
pub actions-push : (A : List Step) (s : Step) → actions (A ++ s ∷ []) ≡ actions A ++ action_of A s
unfolding actions
actions-push A s = gather-push action_of A s

-- a step says of some tickets that they are done
pub is_finished-push : (c : ℕ) (A : List Step) (s : Step) → is_finished c (A ++ s ∷ []) ≡ (is_finished c A || finishes c s)
unfolding is_finished
is_finished-push c A s = list_any-push (finishes c) A s

-- a step stores one action or none
length-action_of : (A : List Step) (s : Step) → length (action_of A s) ≡ cond (stores s) 1 0
length-action_of A (Bump tag) = refl
length-action_of A _ = refl

-- no steps store nothing
pub actions-nil : actions [] ≡ []
unfolding actions gather gather_after
actions-nil = refl

-- nor take
pub takes-nil : takes [] ≡ 0
unfolding takes
takes-nil = refl

-- and leave nothing pending or taken
pub pending-nil : pending [] ≡ []
unfolding pending actions gather gather_after takes
pending-nil = refl

pub taken-nil : taken [] ≡ []
unfolding taken ever_taken actions gather gather_after takes
taken-nil = refl

pub ever_taken-nil : ever_taken [] ≡ []
unfolding ever_taken actions gather gather_after takes
ever_taken-nil = refl

-- one more where a step stores one
pub length-actions-push : (A : List Step) (s : Step) → length (actions (A ++ s ∷ [])) ≡ length (actions A) + cond (stores s) 1 0
length-actions-push A s = ap length (actions-push A s) ∙ length-append (actions A) (action_of A s) ∙ omega (arith, length-action_of A s)

-- a new action has the current epoch for its ticket
pub action_of-ticket : (A : List Step) (s : Step) → AllByRecursion (λ w. w.ticket ≡ current_epoch A) (action_of A s)
action_of-ticket A (Bump tag) = (refl, tt)
action_of-ticket A Settle = (refl, tt)
action_of-ticket A Close = (refl, tt)
action_of-ticket A _ = tt

number : (A : List Step) (s : Step) → is_bump s ≡ true → (1 ≤ current_epoch A) × (current_epoch A ≤ bumps (A ++ s ∷ []))
number A s b = (omega (arith, current_epoch-bumps A), omega (arith, current_epoch-bumps A, bumps-push A s, one_where (is_bump s) b))

-- each ticket is a number of the bumps so far
pub actions-numbers : (A : List Step) → AllByRecursion (λ w. (1 ≤ w.ticket) × (w.ticket ≤ bumps A)) (actions A)
actions-numbers = by_pushing (λ A. AllByRecursion (λ w. (1 ≤ w.ticket) × (w.ticket ≤ bumps A)) (actions A)) none step
  where
    none : AllByRecursion (λ w. (1 ≤ w.ticket) × (w.ticket ≤ bumps [])) (actions [])
    none = subst (AllByRecursion (λ w. (1 ≤ w.ticket) × (w.ticket ≤ bumps []))) (sym actions-nil) tt

    new : (A : List Step) (s : Step) → AllByRecursion (λ w. (1 ≤ w.ticket) × (w.ticket ≤ bumps (A ++ s ∷ []))) (action_of A s)
    new A (Bump tag) = (number A (Bump tag) refl, tt)
    new A Settle = (number A Settle refl, tt)
    new A Close = (number A Close refl, tt)
    new A _ = tt

    step : (A : List Step) (s : Step) → AllByRecursion (λ w. (1 ≤ w.ticket) × (w.ticket ≤ bumps A)) (actions A) → AllByRecursion (λ w. (1 ≤ w.ticket) × (w.ticket ≤ bumps (A ++ s ∷ []))) (actions (A ++ s ∷ []))
    step A s h =
        subst (AllByRecursion (λ w. (1 ≤ w.ticket) × (w.ticket ≤ bumps (A ++ s ∷ [])))) (sym (actions-push A s))
        (all-append (λ w. (1 ≤ w.ticket) × (w.ticket ≤ bumps (A ++ s ∷ []))) (actions A) (action_of A s)
        (all-follows (λ w. (1 ≤ w.ticket) × (w.ticket ≤ bumps A)) (λ w. (1 ≤ w.ticket) × (w.ticket ≤ bumps (A ++ s ∷ []))) (actions A)
        (λ w old. (old.0, omega (arith, old.1, bumps-push A s))) h) (new A s))

-- tickets are in the order of the bumps
pub actions-rising : (A : List Step) → Rising 0 (actions A)
actions-rising = by_pushing (λ A. Rising 0 (actions A)) none step
  where
    none : Rising 0 (actions [])
    none = subst (Rising 0) (sym actions-nil) tt

    behind : (A : List Step) (ws : List Waiting) → length ws ≤ 1 → AllByRecursion (λ w. w.ticket ≡ current_epoch A) ws → Rising 0 (actions A) → Rising 0 (actions A ++ ws)
    behind A [] one same h = subst (Rising 0) (sym (append-nil (actions A))) h
    behind A (w ∷ []) one same h =
        Rising-push 0 (actions A) w h (omega (arith, same.0, current_epoch-bumps A))
        (all-follows (λ v. (1 ≤ v.ticket) × (v.ticket ≤ bumps A)) (λ v. v.ticket < w.ticket) (actions A)
        (λ v old. omega (arith, old.1, same.0, current_epoch-bumps A)) (actions-numbers A))
    behind A (w ∷ v ∷ ws) one same h = absurd (omega (arith, one))

    most : (A : List Step) (s : Step) (b : Bool) → length (action_of A s) ≡ cond b 1 0 → length (action_of A s) ≤ 1
    most A s true h = omega (arith, h)
    most A s false h = omega (arith, h)

    step : (A : List Step) (s : Step) → Rising 0 (actions A) → Rising 0 (actions (A ++ s ∷ []))
    step A s h = subst (Rising 0) (sym (actions-push A s)) (behind A (action_of A s) (most A s (stores s) (length-action_of A s)) (action_of-ticket A s) h)

-- what a take moves: the first of what is left after m
next_of : {X : Type 0} (m : ℕ) (xs : List X) (w : X) (ws : List X) → drop m xs ≡ w ∷ ws → (take (suc m) xs ≡ take m xs ++ w ∷ []) × (drop (suc m) xs ≡ ws)
next_of zero [] w ws h = cc
next_of zero (x ∷ xs) w ws h = let same : x ≡ w = cc in (ap (λ y. y ∷ []) same, cc)
next_of (suc m) [] w ws h = cc
next_of (suc m) (x ∷ xs) w ws h = let later : (take (suc m) xs ≡ take m xs ++ w ∷ []) × (drop (suc m) xs ≡ ws) = next_of m xs w ws h in (ap (λ l. x ∷ l) later.0, later.1)

keeps_once : {X : Type 0} (p q : X → Bool) (x : X) (both first : List X) → both ≡ filter q first → (b c : Bool) → p x ≡ b → q x ≡ c → cond (q x && p x) (x ∷ both) both ≡ filter q (cond (p x) (x ∷ first) first)
keeps_once p q x both first h true true e f = rw (e, f) (ap (λ l. x ∷ l) h)
keeps_once p q x both first h true false e f = rw (e, f) h
keeps_once p q x both first h false true e f = rw (e, f) h
keeps_once p q x both first h false false e f = rw (e, f) h

-- a filter by two tests is a filter by one and then by the other
pub filter_twice : {X : Type 0} (p q : X → Bool) (xs : List X) → filter (λ x. q x && p x) xs ≡ filter q (filter p xs)
filter_twice p q [] = refl
filter_twice p q (x ∷ xs) = keeps_once p q x (filter (λ y. q y && p y) xs) (filter p xs) (filter_twice p q xs) (p x) (q x) refl refl

-- neither of two
pub not_or : (a b : Bool) → not (a || b) ≡ (not b && not a)
not_or true true = refl
not_or true false = refl
not_or false true = refl
not_or false false = refl

-- a step that is no take leaves the number of takes
pub takes-stay : (A : List Step) (s : Step) → is_take s ≡ false → takes (A ++ s ∷ []) ≡ takes A
takes-stay A s no_take = takes-push A s ∙ ap (λ b. takes A + cond b 1 0) no_take ∙ add-zero (takes A)

-- the same ticket is done as before a step that finishes none
pub is_finished-stay : (c : ℕ) (A : List Step) (s : Step) → finishes c s ≡ false → is_finished c (A ++ s ∷ []) ≡ is_finished c A
is_finished-stay c A s no_done = is_finished-push c A s ∙ ap (λ b. is_finished c A || b) no_done ∙ or-false (is_finished c A)

-- what a step stores is pending, last
pub pending-stores : (A : List Step) (s : Step) → takes A ≤ length (actions A) → is_take s ≡ false → pending (A ++ s ∷ []) ≡ pending A ++ action_of A s
unfolding pending
pending-stores A s le no_take =
    ap₂ drop (takes-stay A s no_take) (actions-push A s)
    ∙ drop-append-le (takes A) (actions A) (action_of A s) le

-- a step that takes nothing leaves what was ever taken
pub ever_taken-stay : (A : List Step) (s : Step) → takes A ≤ length (actions A) → is_take s ≡ false → ever_taken (A ++ s ∷ []) ≡ ever_taken A
unfolding ever_taken
ever_taken-stay A s le no_take =
    ap₂ take (takes-stay A s no_take) (actions-push A s) ∙ take-append-le (takes A) (actions A) (action_of A s) le

-- a take takes the first pending action
pub ever_taken-take : (A : List Step) (w : Waiting) (ws : List Waiting) → pending A ≡ w ∷ ws → ever_taken (A ++ Take ∷ []) ≡ ever_taken A ++ w ∷ []
unfolding ever_taken pending
ever_taken-take A w ws h =
    let one_more : takes (A ++ Take ∷ []) ≡ suc (takes A) = omega (arith, takes-push A Take) in
    ap₂ take one_more (actions-push A Take ∙ append-nil (actions A)) ∙ (next_of (takes A) (actions A) w ws h).0

-- a step that takes and finishes nothing leaves what is taken
pub taken-stores : (A : List Step) (s : Step) → takes A ≤ length (actions A) → is_take s ≡ false → ((c : ℕ) → finishes c s ≡ false) → taken (A ++ s ∷ []) ≡ taken A
unfolding taken
taken-stores A s le no_take no_done =
    filter_agree (λ w. not (is_finished w.ticket (A ++ s ∷ []))) (λ w. not (is_finished w.ticket A))
    (λ w. ap not (is_finished-stay w.ticket A s (no_done w.ticket))) (ever_taken (A ++ s ∷ []))
    ∙ ap (filter (λ w. not (is_finished w.ticket A))) (ever_taken-stay A s le no_take)

-- a take moves the first pending action
pub pending-take : (A : List Step) (w : Waiting) (ws : List Waiting) → pending A ≡ w ∷ ws → pending (A ++ Take ∷ []) ≡ ws
unfolding pending
pending-take A w ws h =
    let one_more : takes (A ++ Take ∷ []) ≡ suc (takes A) = omega (arith, takes-push A Take) in
    ap₂ drop one_more (actions-push A Take ∙ append-nil (actions A)) ∙ (next_of (takes A) (actions A) w ws h).1

-- behind those taken before, if it isn't done
pub taken-take : (A : List Step) (w : Waiting) (ws : List Waiting) → pending A ≡ w ∷ ws → is_finished w.ticket A ≡ false → taken (A ++ Take ∷ []) ≡ taken A ++ w ∷ []
unfolding taken
taken-take A w ws h not_done =
    filter_agree (λ w. not (is_finished w.ticket (A ++ Take ∷ []))) (λ w. not (is_finished w.ticket A))
    (λ w. ap not (is_finished-stay w.ticket A Take refl)) (ever_taken (A ++ Take ∷ []))
    ∙ ap (filter (λ w. not (is_finished w.ticket A))) (ever_taken-take A w ws h)
    ∙ filter-append (λ w. not (is_finished w.ticket A)) (ever_taken A) (w ∷ [])
    ∙ ap (λ b. filter (λ w. not (is_finished w.ticket A)) (ever_taken A) ++ cond (not b) (w ∷ []) []) not_done

-- a done leaves what is pending
pub pending-done : (A : List Step) (c : ℕ) → pending (A ++ Done c ∷ []) ≡ pending A
unfolding pending
pending-done A c = ap₂ drop (takes-stay A (Done c) refl) (actions-push A (Done c) ∙ append-nil (actions A))

-- and what was ever taken
pub ever_taken-done : (A : List Step) (c : ℕ) → ever_taken (A ++ Done c ∷ []) ≡ ever_taken A
unfolding ever_taken
ever_taken-done A c = ap₂ take (takes-stay A (Done c) refl) (actions-push A (Done c) ∙ append-nil (actions A))

-- and the taken actions of other tickets
pub taken-done : (A : List Step) (c : ℕ) → taken (A ++ Done c ∷ []) ≡ filter (λ w. not (c == w.ticket)) (taken A)
unfolding taken
taken-done A c =
    filter_agree (λ w. not (is_finished w.ticket (A ++ Done c ∷ []))) (λ w. not (c == w.ticket) && not (is_finished w.ticket A))
    (λ w. ap not (is_finished-push w.ticket A (Done c)) ∙ not_or (is_finished w.ticket A) (c == w.ticket)) (ever_taken (A ++ Done c ∷ []))
    ∙ ap (filter (λ w. not (c == w.ticket) && not (is_finished w.ticket A))) (ever_taken-done A c)
    ∙ filter_twice (λ w. not (is_finished w.ticket A)) (λ w. not (c == w.ticket)) (ever_taken A)

-- how many are pending
pub length-pending : (A : List Step) → length (pending A) ≡ length (actions A) - takes A
unfolding pending
length-pending A = length-drop (takes A) (actions A)

-- the first pending action has the front for its ticket
pub ticket-front : (A : List Step) (w : Waiting) (ws : List Waiting) → pending A ≡ w ∷ ws → w.ticket ≡ front A
ticket-front A w ws h = ap first_ticket (sym h)
