-- The laws of every list of steps.
use Rattle.std.proofs.Common.{set, leb, ap₂, ◌≡◌, ℕ, suc, ◌+◌, ◌-◌, ◌<◌, ◌≤◌, ◌↔◌, Bool, true, false, cond, ◌||◌, is_some, List, [], ◌∷◌, ◌++◌, length, take, drop, map, refl, sym, ap, ◌∙◌, subst, arith, append_assoc, append-nil, inl, inr, ◌⊎◌}
use Rattle.std.specs.Prelude.{◌==◌, Option, Some, None, Ok}
use Rattle.std.specs.List.{AllByRecursion, AllPairs, list_any, count_by}
use Rattle.std.proofs.lemmas.List.Elements.{All-from_recursion}
use Rattle.std.proofs.lemmas.Bool.{eqb-false, both_ways, false_from_ne_true, eqb-true, cases_lt, or_parts, true_from_ne_false}
use Rattle.std.proofs.lemmas.List.{map-append, take-append-drop, take-append-le}
use Rattle.std.proofs.Math.Seq.{take-append-add}
use Rattle.hl_model.specs.declared.action.Kind.{Kind}
use Rattle.hl_model.specs.declared.action.Kind.TheVariants.{User, Settle as Settling, Close as Closing}
use Rattle.std.proofs.lemmas.List.Sums.{sum_by-append}
use Rattle.hl_model.specs.declared.action.Waiting.{Waiting}
use Rattle.hl_model.specs.declared.fault.Fault.TheVariants.{NoSlot, Occupied}
use Rattle.hl_model.specs.declared.step.Step.{Step}
use Rattle.hl_model.specs.declared.step.Step.TheVariants.{Acquire, Refresh, Release, Bump, Settle, Close, Bare, Take, Done}
use Rattle.hl_model.specs.Sizes.{Sizes}
use Rattle.hl_model.specs.Lists.{until_last, gather, gather_after}
use Rattle.hl_model.specs.Epochs.{table_of, slot_epochs, is_bump, enters, leaves, current_epoch, mark, is_protected, up_to_mark, epoch_of, slot_epoch, safe_epoch}
use Rattle.hl_model.specs.Actions.{is_take, bumps, action_of, actions, pending, ever_taken, taken, action_at, front}
use Rattle.hl_model.specs.Replies.{epoch_last, done_answer, kind_or_job_0, fault_of, reply_of, unless_fault, answer_of, IsAccepted}
use Rattle.hl_laws.specs.Follows.{TablesFollow}
use Rattle.hl_laws.specs.Laws.{AcceptedStepsAreAccepted, BeginningsAreAccepted, GoodByItsLastStep, SafeNeverFalls, TakenAreSafe, EpochsFitTheWindow, AcceptedMeetsNoFault, CurrentIsAtMostLast, DrainListHoldsThem, number_stored, TicketsAreNumbers, TicketsRise, TakenAreThoseListed, EpochsAreInOrder, SafeIsGreatest, MarkAfterBump}
use Rattle.hl_model.specs.Headline.{ticket_told, tickets_told, moves_on}
use Rattle.hl_model.proofs.ListLaws.{list_any-push, gather-push, by_pushing, one_where, none_where}
use Rattle.hl_laws.proofs.AcceptedLaws.{good-push, IsAccepted-good, IsAccepted-front, IsAccepted-parts, accepted_has}
use Rattle.hl_laws.proofs.EpochLaws.{slot_epochs-acquire, slot_epochs-refresh, slot_epochs-release, slot_epochs-stay, current_epoch-nil, safe_epoch-current, current_epoch-push, safe_epoch-append, enters-is_bump, slot_epoch-stays, slot_epoch-range, is_protected-slot_epoch, epoch_of-slot_epoch, safe_epoch-below, safe_epoch-greatest}
use Rattle.hl_laws.proofs.ActionLaws.{actions-push, actions-rising, actions-numbers, ever_taken-stay, ever_taken-take, ever_taken-nil, ticket-front, current_epoch-bumps}
use Rattle.hl_laws.proofs.DrainLaws.{is_take-only, first_pending, takes-le-actions, ever_taken-rising, ever_taken-safe, epochs-window, bare_fault-none, bump-none, length-both, actions-dones, is_taken-found, two_faults, take_fault-none, protected-slot}
use Rattle.hl_laws.proofs.TicketLaws.{found-any, tickets-rising}

-- laws that are lemmas of the parts
pub accepted_steps_are_accepted : AcceptedStepsAreAccepted
accepted_steps_are_accepted = IsAccepted-good

pub beginnings_are_accepted : BeginningsAreAccepted
beginnings_are_accepted = IsAccepted-front

pub good_by_its_last_step : GoodByItsLastStep
good_by_its_last_step = good-push

pub safe_never_falls : SafeNeverFalls
safe_never_falls = safe_epoch-append

pub taken_are_safe : TakenAreSafe
taken_are_safe sizes A a = All-from_recursion (λ w. w.ticket ≤ safe_epoch sizes.slots A) (ever_taken A) (ever_taken-safe sizes A a)

pub epochs_fit_the_window : EpochsFitTheWindow
epochs_fit_the_window = epochs-window

-- a protected slot has an epoch
pub slot_epoch-protected : (t : ℕ) (A : List Step) → is_protected t A ≡ true → slot_epoch t A ≡ Some (epoch_of t A)
unfolding slot_epoch
slot_epoch-protected t A h = ap (λ b. cond b (Some (epoch_of t A)) None) h

pub epochs_are_in_order : EpochsAreInOrder
epochs_are_in_order sizes A t a h =
    let seated : slot_epoch t A ≡ Some (epoch_of t A) = slot_epoch-protected t A h in
    (safe_epoch-below sizes.slots A t (epoch_of t A) (protected-slot sizes t A a (epoch_of t A) seated) seated, (slot_epoch-range t A (epoch_of t A) seated).1)

pub safe_is_greatest : SafeIsGreatest
safe_is_greatest slots A c = (below, greatest)
  where
    below : c ≤ safe_epoch slots A → (c < current_epoch A) × ((t : ℕ) → t < slots → is_protected t A ≡ true → c < epoch_of t A)
    below h = (omega (arith, safe_epoch-current slots A), λ t lt p. omega (arith, safe_epoch-below slots A t (epoch_of t A) lt (slot_epoch-protected t A p)))

    greatest : (c < current_epoch A) × ((t : ℕ) → t < slots → is_protected t A ≡ true → c < epoch_of t A) → c ≤ safe_epoch slots A
    greatest h =
        safe_epoch-greatest slots A c h.0
        (λ t e lt is. subst (λ (n : ℕ). c < n) (epoch_of-slot_epoch t A e is) (h.1 t lt (is_protected-slot_epoch t A ∙ ap is_some is)))

pub accepted_meets_no_fault : AcceptedMeetsNoFault
accepted_meets_no_fault sizes A s B a =
    (IsAccepted-parts sizes A s (IsAccepted-front sizes (A ++ s ∷ []) B (subst (IsAccepted sizes) (sym (append_assoc A (s ∷ []) B)) a))).1

pub current_is_at_most_last : CurrentIsAtMostLast
current_is_at_most_last sizes = accepted_has sizes (λ A. current_epoch A ≤ epoch_last) none step
  where
    none : current_epoch [] ≤ epoch_last
    none = omega (arith, current_epoch-nil)

    step : (A : List Step) (s : Step) → IsAccepted sizes A → fault_of sizes A s ≡ None → current_epoch A ≤ epoch_last → current_epoch (A ++ s ∷ []) ≤ epoch_last
    step A s a h before = by_test (is_bump s) refl
      where
        by_test : (b : Bool) → is_bump s ≡ b → current_epoch (A ++ s ∷ []) ≤ epoch_last
        by_test true e =
            omega (arith, before, eqb-false (current_epoch A) epoch_last (bare_fault-none sizes A (bump-none sizes A s e h)).0, current_epoch-push A s, one_where (is_bump s) e)
        by_test false e = omega (arith, before, current_epoch-push A s, none_where (is_bump s) e)

pub drain_list_holds_them : DrainListHoldsThem
drain_list_holds_them sizes A a = (length-both sizes A a, omega (arith, length-both sizes A a, actions-dones sizes A a))

number-stored : (A : List Step) (s : Step) → map (λ w. w.ticket) (action_of A s) ≡ number_stored A s
number-stored A (Bump tag) = ap (λ n. n ∷ []) (current_epoch-bumps A)
number-stored A Settle = ap (λ n. n ∷ []) (current_epoch-bumps A)
number-stored A Close = ap (λ n. n ∷ []) (current_epoch-bumps A)
number-stored A _ = refl

no_tickets : map (λ w. w.ticket) (actions []) ≡ gather number_stored []
unfolding actions gather gather_after
no_tickets = refl

pub tickets_are_numbers : TicketsAreNumbers
tickets_are_numbers = by_pushing (λ A. map (λ w. w.ticket) (actions A) ≡ gather number_stored A) no_tickets
    (λ A s h. ap (map (λ w. w.ticket)) (actions-push A s) ∙ map-append (λ w. w.ticket) (actions A) (action_of A s)
    ∙ ap₂ (λ xs ys. xs ++ ys) h (number-stored A s) ∙ sym (gather-push number_stored A s))

-- what holds of the ticket of each action holds of each of their tickets
of_tickets : (P : ℕ → Type 0) (ws : List Waiting) → AllByRecursion (λ w. P w.ticket) ws → AllByRecursion P (map (λ w. w.ticket) ws)
of_tickets P [] each = tt
of_tickets P (w ∷ ws) each = (each.0, of_tickets P ws each.1)

pub tickets_rise : TicketsRise
tickets_rise A = (
  tickets-rising 0 (actions A) (actions-rising A),
  All-from_recursion (λ c. (1 ≤ c) × (c ≤ bumps A)) (map (λ w. w.ticket) (actions A)) (of_tickets (λ c. (1 ≤ c) × (c ≤ bumps A)) (actions A) (actions-numbers A)),
)

pub taken_are_those_listed : TakenAreThoseListed
taken_are_those_listed sizes A c a = sym (found-any (λ w. w.ticket == c) (taken A) ∙ is_taken-found c A)

-- some element passes: there is a last one
last_of_some : {X : Type 0} (p : X → Bool) (xs : List X) → list_any p xs ≡ true → 0 < until_last p xs
unfolding until_last
last_of_some p [] h = cc
last_of_some p (x ∷ xs) h = by_test (list_any p xs) (p x) h
  where
    by_test : (any b : Bool) → (b || any) ≡ true → 0 < cond any (until_last p xs + 1) (cond b 1 0)
    by_test true b k = omega arith
    by_test false true k = omega arith
    by_test false false k = cc

last_first : {A : Type 0} (p : A → Bool) (s : A) (Y : List A) (any b : Bool) → list_any p Y ≡ any → cond any (until_last p Y + 1) (cond b 1 0) ≡ 1 → b ≡ true
last_first p s Y true b e k = absurd (omega (arith, k, last_of_some p Y e))
last_first p s Y false true e k = refl
last_first p s Y false false e k = absurd (omega (arith, k))

last_later : (any b : Bool) (n k : ℕ) (P : Type 0) → (n ≡ k + 1 → P) → cond any (n + 1) (cond b 1 0) ≡ suc k + 1 → P
last_later true b n k P later h = later (omega (arith, h))
last_later false true n k P later h = absurd (omega (arith, h))
last_later false false n k P later h = absurd (omega (arith, h))

-- the last place holds an element that passes
last_passes : {A : Type 0} (p : A → Bool) (X : List A) (s : A) (Y : List A) → until_last p (X ++ s ∷ Y) ≡ length X + 1 → p s ≡ true
unfolding until_last
last_passes p [] s Y h = last_first p s Y (list_any p Y) (p s) refl h
last_passes p (x ∷ X) s Y h =
    last_later (list_any p (X ++ s ∷ Y)) (p x) (until_last p (X ++ s ∷ Y)) (length X) (p s ≡ true) (last_passes p X s Y) h

count_front : {A : Type 0} (p : A → Bool) (k : ℕ) (X : List A) → count_by p (take k X) ≤ count_by p X
count_front p k X =
    omega (arith, sum_by-append (λ x. cond (p x) 1 0) (take k X) (drop k X), ap (count_by p) (take-append-drop k X))

-- a front that stops before the bump has no more bumps than what is before it
epoch_before : (X Y : List Step) (m : ℕ) → m ≤ length X → current_epoch (take m (X ++ Y)) ≤ bumps X + 1
unfolding current_epoch bumps
epoch_before X Y m le = omega (arith, count_front is_bump m X, ap (count_by is_bump) (take-append-le m X Y le))

-- a front that goes past the bump has it and all before it
epoch_past : (X : List Step) (s : Step) (Y : List Step) (k : ℕ) → is_bump s ≡ true → bumps X + 2 ≤ current_epoch (take (length X + suc k) (X ++ s ∷ Y))
unfolding current_epoch bumps
epoch_past X s Y k e =
    omega (
      arith,
      ap (count_by is_bump) (take-append-add X (s ∷ Y) (suc k)),
      sum_by-append (λ x. cond (is_bump x) 1 0) X (s ∷ take k Y),
      sum_by-append (λ x. cond (is_bump x) 1 0) (s ∷ []) (take k Y),
      one_where (is_bump s) e,
    )

bump-enters : (t : ℕ) (s : Step) → is_bump s ≡ true → enters t s ≡ true → ⊥
bump-enters t s b e = let no : is_bump s ≡ false = enters-is_bump t s e in cc

bump-leaves : (t : ℕ) (s : Step) → is_bump s ≡ true → leaves t s ≡ false
bump-leaves t (Bump tag) b = refl
bump-leaves t _ b = cc

pub mark_after_bump : MarkAfterBump
unfolding epoch_of up_to_mark mark
mark_after_bump X s Y t b h = by_order (cases_lt (length X) (mark t (X ++ s ∷ Y)))
  where
    by_order : ((length X < mark t (X ++ s ∷ Y)) ⊎ (mark t (X ++ s ∷ Y) ≤ length X)) → (bumps X + 1 < current_epoch (take (mark t (X ++ s ∷ Y)) (X ++ s ∷ Y))) ↔ (length X + 1 < mark t (X ++ s ∷ Y))
    by_order (inl lt) =
        let apart : (mark t (X ++ s ∷ Y) ≡ length X + 1) → ⊥ = λ e. bump-enters t s b (last_passes (enters t) X s Y e) in
        let far : length X + suc (mark t (X ++ s ∷ Y) - length X - 1) ≡ mark t (X ++ s ∷ Y) = omega arith in
        let late : bumps X + 2 ≤ current_epoch (take (mark t (X ++ s ∷ Y)) (X ++ s ∷ Y))
        = subst (λ (n : ℕ). bumps X + 2 ≤ current_epoch (take n (X ++ s ∷ Y))) far (epoch_past X s Y (mark t (X ++ s ∷ Y) - length X - 1) b) in
        (λ k. omega (arith, apart), λ k. omega arith)
    by_order (inr le) =
        let early : current_epoch (take (mark t (X ++ s ∷ Y)) (X ++ s ∷ Y)) ≤ bumps X + 1 = epoch_before X (s ∷ Y) (mark t (X ++ s ∷ Y)) le in
        (λ k. absurd (omega arith), λ k. absurd (omega arith))

done_told : (B : List Step) (k : Kind) → ticket_told (Ok (done_answer B k)) ≡ []
done_told B (User tag) = refl
done_told B (Settling x) = refl
done_told B (Closing x) = refl

-- an accepted take is told the front, and no other step is told a ticket as taken
told : (sizes : Sizes) (A : List Step) (s : Step) → fault_of sizes A s ≡ None → ticket_told (reply_of sizes A s) ≡ cond (is_take s) (front A ∷ []) []
told sizes A Take h = ap (λ o. ticket_told (unless_fault o (answer_of sizes A (A ++ Take ∷ []) Take))) h
told sizes A (Done c) h = ap (λ o. ticket_told (unless_fault o (answer_of sizes A (A ++ Done c ∷ []) (Done c)))) h ∙ done_told (A ++ Done c ∷ []) (kind_or_job_0 (action_at c (A ++ Done c ∷ [])))
told sizes A s h = ap (λ o. ticket_told (unless_fault o (answer_of sizes A (A ++ s ∷ []) s))) h

tickets_told-push : (sizes : Sizes) (A : List Step) (s : Step) → tickets_told sizes (A ++ s ∷ []) ≡ tickets_told sizes A ++ ticket_told (reply_of sizes A s)
unfolding tickets_told
tickets_told-push sizes A s = gather-push (λ before x. ticket_told (reply_of sizes before x)) A s

tickets_told-nil : (sizes : Sizes) → tickets_told sizes [] ≡ []
unfolding tickets_told gather gather_after
tickets_told-nil sizes = refl

-- one more ticket where the step takes
named_next : (sizes : Sizes) (A : List Step) (s : Step) (b : Bool) → IsAccepted sizes A → fault_of sizes A s ≡ None → is_take s ≡ b → map (λ w. w.ticket) (ever_taken A) ++ cond b (front A ∷ []) [] ≡ map (λ w. w.ticket) (ever_taken (A ++ s ∷ []))
named_next sizes A s true a h e =
    let is : s ≡ Take = is_take-only s e in
    let ready : (0 < length (pending A)) × (front A ≤ safe_epoch sizes.slots A) = take_fault-none sizes A (subst (λ (x : Step). fault_of sizes A x ≡ None) is h) in
    let next : (w : Waiting) × (ws : List Waiting) × (pending A ≡ w ∷ ws) = first_pending A ready.0 in
    ap (λ n. map (λ w. w.ticket) (ever_taken A) ++ n ∷ []) (sym (ticket-front A next.0 next.1 next.2))
    ∙ sym (map-append (λ w. w.ticket) (ever_taken A) (next.0 ∷ []))
    ∙ sym (ap (map (λ w. w.ticket)) (ap (λ x. ever_taken (A ++ x ∷ [])) is ∙ ever_taken-take A next.0 next.1 next.2))
named_next sizes A s false a h e =
    append-nil (map (λ w. w.ticket) (ever_taken A)) ∙ sym (ap (map (λ w. w.ticket)) (ever_taken-stay A s (takes-le-actions sizes A a) e))

pub takes_in_order : (sizes : Sizes) (A : List Step) → IsAccepted sizes A → tickets_told sizes A ≡ map (λ w. w.ticket) (ever_taken A)
takes_in_order sizes = accepted_has sizes (λ A. tickets_told sizes A ≡ map (λ w. w.ticket) (ever_taken A))
    (tickets_told-nil sizes ∙ sym (ap (map (λ w. w.ticket)) ever_taken-nil))
    (λ A s a h before. tickets_told-push sizes A s ∙ ap₂ (λ xs ys. xs ++ ys) before (told sizes A s h) ∙ named_next sizes A s (is_take s) a h refl)

pub takes_rise : (sizes : Sizes) (A : List Step) → IsAccepted sizes A → AllPairs (λ earlier later. earlier < later) (tickets_told sizes A)
takes_rise sizes A a =
    subst (AllPairs (λ earlier later. earlier < later)) (sym (takes_in_order sizes A a)) (tickets-rising 0 (ever_taken A) (ever_taken-rising A))

-- a protected slot that doesn't move on at an accepted step stays as it is
stays_seated : (sizes : Sizes) (W : List Step) (t : ℕ) (s : Step) → moves_on t s ≡ false → fault_of sizes W s ≡ None → is_protected t W ≡ true → (enters t s ≡ false) × (leaves t s ≡ false)
stays_seated sizes W t (Acquire u) m h p =
    let free : is_protected u W ≡ false = (two_faults (leb sizes.slots u) (is_protected u W) NoSlot Occupied h).1 in
    (false_from_ne_true (enters t (Acquire u)) (λ e. both_ways (is_protected t W) (ap (λ x. is_protected x W) (sym (eqb-true u t e)) ∙ free) p), refl)
stays_seated sizes W t (Refresh u) m h p = (m, refl)
stays_seated sizes W t (Release u) m h p = (refl, m)
stays_seated sizes W t _ m h p = (refl, refl)

-- a protected slot that doesn't move on in the accepted steps behind a list keeps its epoch
pub keeps_epoch : (sizes : Sizes) (A : List Step) (t e : ℕ) → slot_epoch t A ≡ Some e → (X : List Step) → IsAccepted sizes (A ++ X) → list_any (moves_on t) X ≡ false → slot_epoch t (A ++ X) ≡ Some e
keeps_epoch sizes A t e seated = by_pushing (λ X. IsAccepted sizes (A ++ X) → list_any (moves_on t) X ≡ false → slot_epoch t (A ++ X) ≡ Some e) none step
  where
    none : IsAccepted sizes (A ++ []) → list_any (moves_on t) [] ≡ false → slot_epoch t (A ++ []) ≡ Some e
    none a m = ap (slot_epoch t) (append-nil A) ∙ seated

    step : (X : List Step) (r : Step) → (IsAccepted sizes (A ++ X) → list_any (moves_on t) X ≡ false → slot_epoch t (A ++ X) ≡ Some e) → IsAccepted sizes (A ++ (X ++ r ∷ [])) → list_any (moves_on t) (X ++ r ∷ []) ≡ false → slot_epoch t (A ++ (X ++ r ∷ [])) ≡ Some e
    step X r before a m =
        let whole : (A ++ X) ++ r ∷ [] ≡ A ++ (X ++ r ∷ []) = append_assoc A X (r ∷ []) in
        let parts : IsAccepted sizes (A ++ X) × (fault_of sizes (A ++ X) r ≡ None) = IsAccepted-parts sizes (A ++ X) r (subst (IsAccepted sizes) (sym whole) a) in
        let quiet : (list_any (moves_on t) X ≡ false) × (moves_on t r ≡ false) = or_parts (list_any (moves_on t) X) (moves_on t r) (sym (list_any-push (moves_on t) X r) ∙ m) in
        let held : slot_epoch t (A ++ X) ≡ Some e = before parts.0 quiet.0 in
        let still : (enters t r ≡ false) × (leaves t r ≡ false) = stays_seated sizes (A ++ X) t r quiet.1 parts.1 (is_protected-slot_epoch t (A ++ X) ∙ ap is_some held) in
        ap (slot_epoch t) (sym whole) ∙ slot_epoch-stays t (A ++ X) r still.0 still.1 ∙ held

-- the ticket of an accepted take is below the epoch of each protected slot
pub taken_below : (sizes : Sizes) (A : List Step) (t e : ℕ) → IsAccepted sizes (A ++ Take ∷ []) → slot_epoch t A ≡ Some e → front A < e
taken_below sizes A t e a held =
    let parts : IsAccepted sizes A × (fault_of sizes A Take ≡ None) = IsAccepted-parts sizes A Take a in
    let low : safe_epoch sizes.slots A < e = safe_epoch-below sizes.slots A t e (protected-slot sizes t A parts.0 e held) held in
    let ready : (0 < length (pending A)) × (front A ≤ safe_epoch sizes.slots A) = take_fault-none sizes A parts.1 in
    omega (arith, low, ready.1)

pub taken_after_all_moved_on : (sizes : Sizes) (X : List Step) (s : Step) (Y Z : List Step) (t : ℕ) → IsAccepted sizes ((X ++ s ∷ Y) ++ Take ∷ Z) → is_bump s ≡ true → front (X ++ s ∷ Y) ≡ bumps X + 1 → is_protected t X ≡ true → list_any (moves_on t) Y ≡ true
taken_after_all_moved_on sizes X s Y Z t a b f p = true_from_ne_false (list_any (moves_on t) Y) early
  where
    accepted : IsAccepted sizes ((X ++ s ∷ Y) ++ Take ∷ [])
    accepted = IsAccepted-front sizes ((X ++ s ∷ Y) ++ Take ∷ []) Z (subst (IsAccepted sizes) (sym (append_assoc (X ++ s ∷ Y) (Take ∷ []) Z)) a)

    bumped : (X ++ s ∷ []) ++ Y ≡ X ++ s ∷ Y
    bumped = append_assoc X (s ∷ []) Y

    before : slot_epoch t X ≡ Some (epoch_of t X)
    before = slot_epoch-protected t X p

    -- the bump leaves the slot as it is
    seated : slot_epoch t (X ++ s ∷ []) ≡ Some (epoch_of t X)
    seated = slot_epoch-stays t X s (false_from_ne_true (enters t s) (bump-enters t s b)) (bump-leaves t s b) ∙ before

    early : list_any (moves_on t) Y ≡ false → ⊥
    early m =
        let whole : IsAccepted sizes ((X ++ s ∷ []) ++ Y) = subst (IsAccepted sizes) (sym bumped) (IsAccepted-parts sizes (X ++ s ∷ Y) Take accepted).0 in
        let held : slot_epoch t (X ++ s ∷ Y) ≡ Some (epoch_of t X) = ap (slot_epoch t) (sym bumped) ∙ keeps_epoch sizes (X ++ s ∷ []) t (epoch_of t X) seated Y whole m in
        omega (arith, taken_below sizes (X ++ s ∷ Y) t (epoch_of t X) accepted held, f, (slot_epoch-range t X (epoch_of t X) before).1, current_epoch-bumps X)

-- a table whose epochs and current epoch are these
table_at : (sizes : Sizes) (A B : List Step) (current : ℕ) (epochs : List (Option ℕ)) → current_epoch B ≡ current → slot_epochs sizes.slots B ≡ epochs → table_of sizes B ≡ record (table_of sizes A) { current = current; epochs = epochs }
table_at sizes A B current epochs c e = ap₂ (λ n es. record (table_of sizes A) { current = n; epochs = es }) c e

-- a step that is no bump leaves the current epoch
pub current-stay : (A : List Step) (s : Step) → is_bump s ≡ false → current_epoch (A ++ s ∷ []) ≡ current_epoch A
current-stay A s h = omega (arith, current_epoch-push A s, none_where (is_bump s) h)

pub tables_follow : TablesFollow
tables_follow sizes A = record {
  acquire = λ t. table_at sizes A (A ++ Acquire t ∷ []) (current_epoch A) (set (slot_epochs sizes.slots A) t (Some (current_epoch A))) (current-stay A (Acquire t) refl) (slot_epochs-acquire sizes.slots A t);
  refresh = λ t. table_at sizes A (A ++ Refresh t ∷ []) (current_epoch A) (set (slot_epochs sizes.slots A) t (Some (current_epoch A))) (current-stay A (Refresh t) refl) (slot_epochs-refresh sizes.slots A t);
  release = λ t. table_at sizes A (A ++ Release t ∷ []) (current_epoch A) (set (slot_epochs sizes.slots A) t None) (current-stay A (Release t) refl) (slot_epochs-release sizes.slots A t);
  bump = λ tag. table_at sizes A (A ++ Bump tag ∷ []) (current_epoch A + 1) (slot_epochs sizes.slots A) (current_epoch-push A (Bump tag)) (slot_epochs-stay sizes.slots A (Bump tag) (λ t. refl) (λ t. refl));
  settle = table_at sizes A (A ++ Settle ∷ []) (current_epoch A + 1) (slot_epochs sizes.slots A) (current_epoch-push A Settle) (slot_epochs-stay sizes.slots A Settle (λ t. refl) (λ t. refl));
  close = table_at sizes A (A ++ Close ∷ []) (current_epoch A + 1) (slot_epochs sizes.slots A) (current_epoch-push A Close) (slot_epochs-stay sizes.slots A Close (λ t. refl) (λ t. refl));
  bare = table_at sizes A (A ++ Bare ∷ []) (current_epoch A + 1) (slot_epochs sizes.slots A) (current_epoch-push A Bare) (slot_epochs-stay sizes.slots A Bare (λ t. refl) (λ t. refl));
  others = λ s b e l. table_at sizes A (A ++ s ∷ []) (current_epoch A) (slot_epochs sizes.slots A) (current-stay A s b) (slot_epochs-stay sizes.slots A s e l);
}
