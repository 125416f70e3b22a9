-- What the offsets that done actions settle become when one step is put behind the list, and what actions store.
use Rattle.std.proofs.Common.{◌≡◌, ℕ, ◌≤◌, Bool, true, false, cond, ◌||◌, max, is_some, List, [], ◌∷◌, ◌++◌, refl, sym, ap, ◌∙◌, subst, arith, append-nil, eqb-true, eq-eqb, ne_eqb, le_refl, le_trans}
use Rattle.std.specs.Prelude.{◌==◌, Option, Some, None}
use Rattle.std.specs.List.{AllByRecursion}
use Rattle.std.proofs.lemmas.Bool.{eqb-false, false_from_ne_true}
use Rattle.hl_model.specs.declared.action.Kind.{Kind}
use Rattle.hl_model.specs.declared.action.Waiting.{Waiting}
use Rattle.hl_model.specs.declared.step.Step.{Step}
use Rattle.hl_model.specs.declared.step.Step.TheVariants.{Bump, Settle, Close, Done}
use Rattle.hl_model.specs.Lists.{greatest}
use Rattle.hl_model.specs.Sizes.{Sizes}
use Rattle.hl_model.specs.Epochs.{current_epoch}
use Rattle.hl_model.specs.Actions.{stores, is_done, finishes, action_of, actions, is_finished, taken, is_taken, action_at}
use Rattle.hl_model.specs.Offsets.{read_only, head}
use Rattle.hl_model.specs.Settled.{settles, closes, done_greatest}
use Rattle.hl_model.specs.Replies.{fault_of, IsAccepted}
use Rattle.hl_model.proofs.ListLaws.{by_pushing, greatest-append, greatest-has, greatest-le, greatest-each_le, greatest-max, greatest-same, all-append, all-follows, all-found}
use Rattle.hl_laws.proofs.ActionLaws.{action_of-ticket, actions-nil, actions-push, actions-rising, is_finished-push, is_finished-stay}
use Rattle.hl_laws.proofs.TicketLaws.{of_ticket, Rising}
use Rattle.hl_laws.proofs.DrainLaws.{finishes-none, finished-safe, action_at-some, of_ticket-taken}
use Rattle.hl_laws.proofs.EpochLaws.{safe_epoch-current}
use Rattle.hl_laws.proofs.OffsetLaws.{read_only-grows, head-grows}

-- what action w counts for in the list A: what it stored, if it is done
abbrev pub counted : (Kind → ℕ) → List Step → Waiting → ℕ
counted stored A w = cond (is_finished w.ticket A) (stored w.kind) 0

-- nothing is settled in no steps
pub done_greatest-nil : (stored : Kind → ℕ) → done_greatest stored [] ≡ 0
unfolding done_greatest greatest
done_greatest-nil stored = ap (greatest (counted stored [])) actions-nil

-- a step that is no bump with an action stores nothing
pub action_of-none : (A : List Step) (s : Step) → stores s ≡ false → action_of A s ≡ []
action_of-none A (Bump tag) h = cc
action_of-none A Settle h = cc
action_of-none A Close h = cc
action_of-none A _ h = refl

-- and so leaves the actions
pub actions-stay : (A : List Step) (s : Step) → stores s ≡ false → actions (A ++ s ∷ []) ≡ actions A
actions-stay A s h = actions-push A s ∙ ap (λ ws. actions A ++ ws) (action_of-none A s h) ∙ append-nil (actions A)

-- no action whose ticket is still to come is done
pub is_finished-next : (sizes : Sizes) (A : List Step) → IsAccepted sizes A → is_finished (current_epoch A) A ≡ false
is_finished-next sizes A a =
    false_from_ne_true (is_finished (current_epoch A) A)
    (λ done. omega (arith, finished-safe sizes A (current_epoch A) a done, safe_epoch-current sizes.slots A))

-- a new action counts for nothing
counted-new : (sizes : Sizes) (stored : Kind → ℕ) (A : List Step) (s : Step) → IsAccepted sizes A → greatest (counted stored A) (action_of A s) ≤ 0
counted-new sizes stored A s a = greatest-le (counted stored A) 0 (action_of A s) (all-follows (λ w. w.ticket ≡ current_epoch A) (λ w. counted stored A w ≤ 0) (action_of A s) none (action_of-ticket A s))
  where
    none : (w : Waiting) → w.ticket ≡ current_epoch A → counted stored A w ≤ 0
    none w h =
        let undone : is_finished w.ticket A ≡ false = ap (λ c. is_finished c A) h ∙ is_finished-next sizes A a in
        rw undone (le_refl 0)

-- a step that finishes nothing settles nothing
pub done_greatest-quiet : (sizes : Sizes) (stored : Kind → ℕ) (A : List Step) (s : Step) → IsAccepted sizes A → is_done s ≡ false → done_greatest stored (A ++ s ∷ []) ≡ done_greatest stored A
unfolding done_greatest
done_greatest-quiet sizes stored A s a h =
    let same : greatest (counted stored (A ++ s ∷ [])) (actions (A ++ s ∷ [])) ≡ greatest (counted stored A) (actions (A ++ s ∷ []))
    = greatest-same (counted stored (A ++ s ∷ [])) (counted stored A) (actions (A ++ s ∷ []))
    (λ w. ap (λ b. cond b (stored w.kind) 0) (is_finished-stay w.ticket A s (finishes-none w.ticket s h))) in
    let parts : greatest (counted stored A) (actions (A ++ s ∷ [])) ≡ max (greatest (counted stored A) (actions A)) (greatest (counted stored A) (action_of A s))
    = ap (greatest (counted stored A)) (actions-push A s) ∙ greatest-append (counted stored A) (actions A) (action_of A s) in
    omega (arith, same, parts, counted-new sizes stored A s a)

pub either_counts : (b c : Bool) (n : ℕ) → cond (b || c) n 0 ≡ max (cond b n 0) (cond c n 0)
either_counts true true n = omega arith
either_counts true false n = omega arith
either_counts false true n = omega arith
either_counts false false n = omega arith

-- what the action of ticket c alone counts for
abbrev counted_alone : (Kind → ℕ) → ℕ → Waiting → ℕ
counted_alone stored c w = cond (c == w.ticket) (stored w.kind) 0

-- nothing, among actions with tickets above c
alone-above : (stored : Kind → ℕ) (c a : ℕ) (ws : List Waiting) → c ≤ a → Rising a ws → greatest (counted_alone stored c) ws ≡ 0
unfolding greatest
alone-above stored c a [] le r = refl
alone-above stored c a (w ∷ ws) le r =
    rw (ne_eqb c w.ticket (λ e. omega (arith, r.0, e)), alone-above stored c w.ticket ws (omega (arith, r.0)) r.1) refl

alone_cons : (stored : Kind → ℕ) (c a : ℕ) (v : Waiting) (ws : List Waiting) (w : Waiting) → Rising a (v ∷ ws) → (of_ticket c ws ≡ Some w → greatest (counted_alone stored c) ws ≡ stored w.kind) → (b : Bool) → (v.ticket == c) ≡ b → of_ticket c (v ∷ ws) ≡ Some w → greatest (counted_alone stored c) (v ∷ ws) ≡ stored w.kind
unfolding greatest
alone_cons stored c a v ws w r later true e found =
    let ticket : v.ticket ≡ c = eqb-true v.ticket c e in
    let here : Some v ≡ Some w = rw e at found in
    let same : v ≡ w = cc in
    let first : counted_alone stored c v ≡ stored w.kind = ap (λ b. cond b (stored v.kind) 0) (eq-eqb c v.ticket (sym ticket)) ∙ ap (λ u. stored u.kind) same in
    omega (arith, first, alone-above stored c v.ticket ws (omega (arith, ticket)) r.1)
alone_cons stored c a v ws w r later false e found =
    let there : (c == v.ticket) ≡ false = ne_eqb c v.ticket (λ same. eqb-false v.ticket c e (sym same)) in
    let rest : of_ticket c ws ≡ Some w = rw e at found in
    rw there (omega (arith, later rest))

-- what it stored, where it is among them
alone-found : (stored : Kind → ℕ) (c a : ℕ) (ws : List Waiting) (w : Waiting) → Rising a ws → of_ticket c ws ≡ Some w → greatest (counted_alone stored c) ws ≡ stored w.kind
alone-found stored c a [] w r found = cc
alone-found stored c a (v ∷ ws) w r found = alone_cons stored c a v ws w r (alone-found stored c v.ticket ws w r.1) (v.ticket == c) refl found

-- a done settles what its action stored
pub done_greatest-done : (sizes : Sizes) (stored : Kind → ℕ) (A : List Step) (c : ℕ) (w : Waiting) → IsAccepted sizes A → fault_of sizes A (Done c) ≡ None → action_at c A ≡ Some w → done_greatest stored (A ++ Done c ∷ []) ≡ max (done_greatest stored A) (stored w.kind)
unfolding done_greatest action_at
done_greatest-done sizes stored A c w a h found =
    ap (greatest (counted stored (A ++ Done c ∷ []))) (actions-stay A (Done c) refl)
    ∙ greatest-max (counted stored (A ++ Done c ∷ [])) (counted stored A) (counted_alone stored c) (actions A)
    (λ v. ap (λ b. cond b (stored v.kind) 0) (is_finished-push v.ticket A (Done c)) ∙ either_counts (is_finished v.ticket A) (c == v.ticket) (stored v.kind))
    ∙ ap (λ n. max (greatest (counted stored A) (actions A)) n)
    (alone-found stored c 0 (actions A) w (actions-rising A) found)

counted-more : (b c : Bool) (n : ℕ) → cond b n 0 ≤ cond (b || c) n 0
counted-more true c n = le_refl n
counted-more false c n = omega arith

-- what is settled stays settled
pub done_greatest-grows : (stored : Kind → ℕ) (A : List Step) (s : Step) → done_greatest stored A ≤ done_greatest stored (A ++ s ∷ [])
unfolding done_greatest
done_greatest-grows stored A s =
    let more : greatest (counted stored A) (actions A) ≤ greatest (counted stored (A ++ s ∷ [])) (actions A)
    = greatest-each_le (counted stored A) (counted stored (A ++ s ∷ [])) (actions A)
    (λ w. subst (λ (b : Bool). counted stored A w ≤ cond b (stored w.kind) 0) (sym (is_finished-push w.ticket A s)) (counted-more (is_finished w.ticket A) (finishes w.ticket s) (stored w.kind))) in
    let parts : greatest (counted stored (A ++ s ∷ [])) (actions (A ++ s ∷ [])) ≡ max (greatest (counted stored (A ++ s ∷ [])) (actions A)) (greatest (counted stored (A ++ s ∷ [])) (action_of A s))
    = ap (greatest (counted stored (A ++ s ∷ []))) (actions-push A s) ∙ greatest-append (counted stored (A ++ s ∷ [])) (actions A) (action_of A s) in
    omega (arith, more, parts)

-- what is settled is at most what each done action's is at most
pub done_greatest-le : (stored : Kind → ℕ) (m : ℕ) (A : List Step) → AllByRecursion (λ w. is_finished w.ticket A ≡ true → stored w.kind ≤ m) (actions A) → done_greatest stored A ≤ m
unfolding done_greatest
done_greatest-le stored m A each =
    greatest-le (counted stored A) m (actions A) (all-follows (λ w. is_finished w.ticket A ≡ true → stored w.kind ≤ m) (λ w. counted stored A w ≤ m) (actions A) (λ w h. by_test w (is_finished w.ticket A) h) each)
  where
    by_test : (w : Waiting) (b : Bool) → (b ≡ true → stored w.kind ≤ m) → cond b (stored w.kind) 0 ≤ m
    by_test w true h = h refl
    by_test w false h = omega arith

-- what holds of 0 and of all that was stored holds of what is settled
pub done_greatest-has : (P : ℕ → Type 0) (stored : Kind → ℕ) (A : List Step) → P 0 → AllByRecursion (λ w. P (stored w.kind)) (actions A) → P (done_greatest stored A)
unfolding done_greatest
done_greatest-has P stored A none each =
    greatest-has P (counted stored A) (actions A) none (all-follows (λ w. P (stored w.kind)) (λ w. P (counted stored A w)) (actions A) (λ w h. by_test w h (is_finished w.ticket A)) each)
  where
    by_test : (w : Waiting) → P (stored w.kind) → (b : Bool) → P (cond b (stored w.kind) 0)
    by_test w h true = h
    by_test w h false = none

-- an action found under a ticket has it
of_ticket-ticket : (c : ℕ) (ws : List Waiting) (w : Waiting) → of_ticket c ws ≡ Some w → w.ticket ≡ c
of_ticket-ticket c [] w found = cc
of_ticket-ticket c (v ∷ ws) w found = by_test (v.ticket == c) refl found (of_ticket-ticket c ws w)
  where
    by_test : (b : Bool) → (v.ticket == c) ≡ b → cond b (Some v) (of_ticket c ws) ≡ Some w → (of_ticket c ws ≡ Some w → w.ticket ≡ c) → w.ticket ≡ c
    by_test true e here later = let same : v ≡ w = cc in ap (λ u. u.ticket) (sym same) ∙ eqb-true v.ticket c e
    by_test false e here later = later here

-- a taken ticket has one action, which is the taken one
pub action_at-taken : (A : List Step) (c : ℕ) → is_taken c A ≡ true → (w : Waiting) × (action_at c A ≡ Some w) × (w.ticket ≡ c) × (of_ticket c (taken A) ≡ Some w)
unfolding action_at
action_at-taken A c h = by_action (of_ticket c (actions A)) refl (action_at-some c A h)
  where
    by_action : (o : Option Waiting) → of_ticket c (actions A) ≡ o → is_some o ≡ true → (w : Waiting) × (of_ticket c (actions A) ≡ Some w) × (w.ticket ≡ c) × (of_ticket c (taken A) ≡ Some w)
    by_action None e some = cc
    by_action (Some w) e some = (w, e, of_ticket-ticket c (actions A) w e, of_ticket-taken c A ∙ ap (λ b. cond b (of_ticket c (actions A)) None) h ∙ e)

-- and still has it once it is done
pub action_at-done : (c : ℕ) (A : List Step) → action_at c (A ++ Done c ∷ []) ≡ action_at c A
unfolding action_at
action_at-done c A = ap (of_ticket c) (actions-stay A (Done c) refl)

-- what holds of each action holds of that of a ticket
pub action_at-has : (P : Waiting → Type 0) (c : ℕ) (A : List Step) (w : Waiting) → AllByRecursion P (actions A) → action_at c A ≡ Some w → P w
unfolding action_at
action_at-has P c A w each found = all-found P (λ v. v.ticket == c) (actions A) w each found

-- what holds of each action stored so far, and goes on holding, holds of all
stored_have : (P : List Step → Waiting → Type 0) → ((A : List Step) (s : Step) (w : Waiting) → P A w → P (A ++ s ∷ []) w) → ((A : List Step) (s : Step) → AllByRecursion (P A) (action_of A s)) → (A : List Step) → AllByRecursion (P A) (actions A)
stored_have P later new = by_pushing (λ A. AllByRecursion (P A) (actions A)) none step
  where
    none : AllByRecursion (P []) (actions [])
    none = subst (AllByRecursion (P [])) (sym actions-nil) tt

    step : (A : List Step) (s : Step) → AllByRecursion (P A) (actions A) → AllByRecursion (P (A ++ s ∷ [])) (actions (A ++ s ∷ []))
    step A s h =
        subst (AllByRecursion (P (A ++ s ∷ []))) (sym (actions-push A s))
        (all-follows (P A) (P (A ++ s ∷ [])) (actions A ++ action_of A s) (later A s) (all-append (P A) (actions A) (action_of A s) h (new A s)))

-- no settle stored more than the read-only offset
pub settles-le : (A : List Step) → AllByRecursion (λ w. settles w.kind ≤ read_only A) (actions A)
settles-le = stored_have (λ A w. settles w.kind ≤ read_only A) (λ A s w h. le_trans h (read_only-grows A s)) new
  where
    new : (A : List Step) (s : Step) → AllByRecursion (λ w. settles w.kind ≤ read_only A) (action_of A s)
    new A (Bump tag) = (omega arith, tt)
    new A Settle = (le_refl (read_only A), tt)
    new A Close = (omega arith, tt)
    new A _ = tt

-- no close stored more than the head
pub closes-le : (A : List Step) → AllByRecursion (λ w. closes w.kind ≤ head A) (actions A)
closes-le = stored_have (λ A w. closes w.kind ≤ head A) (λ A s w h. le_trans h (head-grows A s)) new
  where
    new : (A : List Step) (s : Step) → AllByRecursion (λ w. closes w.kind ≤ head A) (action_of A s)
    new A (Bump tag) = (omega arith, tt)
    new A Settle = (omega arith, tt)
    new A Close = (le_refl (head A), tt)
    new A _ = tt
