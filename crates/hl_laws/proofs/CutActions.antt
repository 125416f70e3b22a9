-- The drain list of a base and the steps since.
use Rattle.std.proofs.Common.{◌≡◌, ℕ, suc, zero, ◌+◌, ◌<◌, Bool, false, cond, not, ◌||◌, ◌&&◌, List, [], ◌∷◌, ◌++◌, take, drop, refl, sym, ap, ap₂, ◌∙◌, subst, arith}
use Rattle.std.specs.Prelude.{◌==◌}
use Rattle.std.specs.List.{AllByRecursion, filter, list_any}
use Rattle.std.proofs.lemmas.Bool.{ne_eqb, both_ways, false_from_ne_true}
use Rattle.std.proofs.lemmas.List.{take-append-le, drop-append-le}
use Rattle.std.proofs.lemmas.List.Elements.{filter-append, filter_agree}
use Rattle.std.proofs.lemmas.List.Folds.{list_any-append}
use Rattle.std.proofs.lemmas.List.Sums.{sum_by-append}
use Rattle.hl_model.specs.declared.action.Kind.{Kind}
use Rattle.hl_model.specs.declared.action.Kind.TheVariants.{User, Settle as Settling, Close as Closing}
use Rattle.hl_model.specs.declared.action.Waiting.{Waiting}
use Rattle.hl_model.specs.declared.step.Step.{Step}
use Rattle.hl_model.specs.declared.step.Step.TheVariants.{Bump, Settle, Close}
use Rattle.hl_model.specs.Lists.{gather}
use Rattle.hl_model.specs.Sizes.{Sizes}
use Rattle.hl_model.specs.Actions.{is_take, finishes, takes, action_of, actions, is_finished, pending, ever_taken, taken}
use Rattle.hl_model.specs.Replies.{IsAccepted}
use Rattle.hl_model.specs.Bases.{base_of}
use Rattle.hl_model.specs.AfterActions.{stored_by, stored_after, waiting_after, ever_taken_after, taken_after}
use Rattle.hl_laws.proofs.ActionLaws.{actions-rising, filter_twice, not_or}
use Rattle.hl_laws.proofs.AppendLaws.{gather-append, gather-same, drop_both, take_both}
use Rattle.hl_laws.proofs.CutOffsets.{epoch_after-is, read_only_after-is, head_after-is}
use Rattle.hl_laws.proofs.DrainLaws.{takes-le-actions, finished-taken}
use Rattle.hl_model.proofs.ListLaws.{all-follows, all-with, all-drop, all-take, filter-same_on}
use Rattle.hl_laws.proofs.TicketLaws.{Rising, Rising-lower}

one_action : (c d : ℕ) (k l : Kind) → c ≡ d → k ≡ l → ◌≡◌ {A = List Waiting} (record { ticket = c; kind = k } ∷ []) (record { ticket = d; kind = l } ∷ [])
one_action c d k l e f = rw (e, f) refl

-- what a step stores
stored_by-is : (sizes : Sizes) (A before : List Step) (s : Step) → action_of (A ++ before) s ≡ stored_by (base_of sizes A) before s
stored_by-is sizes A before (Bump tag) = one_action _ _ (User tag) (User tag) (sym (epoch_after-is sizes A before)) refl
stored_by-is sizes A before Settle = one_action _ _ _ _ (sym (epoch_after-is sizes A before)) (ap Settling (sym (read_only_after-is sizes A before)))
stored_by-is sizes A before Close = one_action _ _ _ _ (sym (epoch_after-is sizes A before)) (ap Closing (sym (head_after-is sizes A before)))
stored_by-is sizes A before _ = refl

-- what the steps since the base store
abbrev pub stored_since : Sizes → List Step → List Step → List Waiting
stored_since sizes A L = gather (stored_by (base_of sizes A)) L

-- all actions
pub actions-append : (sizes : Sizes) (A L : List Step) → actions (A ++ L) ≡ actions A ++ stored_since sizes A L
unfolding actions
actions-append sizes A L =
    gather-append action_of A L
    ∙ ap (λ ws. gather action_of A ++ ws) (gather-same (λ before s. action_of (A ++ before) s) (stored_by (base_of sizes A)) (stored_by-is sizes A) L)

-- takes
pub takes-append : (A L : List Step) → takes (A ++ L) ≡ takes A + takes L
unfolding takes
takes-append A L = sum_by-append (λ s. cond (is_take s) 1 0) A L

-- dones
pub is_finished-append : (c : ℕ) (A L : List Step) → is_finished c (A ++ L) ≡ (is_finished c A || is_finished c L)
unfolding is_finished
is_finished-append c A L = list_any-append (finishes c) A L

-- the pending actions
pub waiting_after-is : (sizes : Sizes) (A L : List Step) → IsAccepted sizes A → waiting_after (base_of sizes A) L ≡ pending (A ++ L)
unfolding waiting_after stored_after base_of pending
waiting_after-is sizes A L a =
    sym (ap₂ drop (takes-append A L) (actions-append sizes A L) ∙ drop_both (takes A) (takes L) (actions A) (stored_since sizes A L) (takes-le-actions sizes A a))

-- the actions taken since the base
abbrev pub taken_since : Sizes → List Step → List Step → List Waiting
taken_since sizes A L = take (takes L) (pending A ++ stored_since sizes A L)

-- the actions ever taken
pub ever_taken-append : (sizes : Sizes) (A L : List Step) → IsAccepted sizes A → ever_taken (A ++ L) ≡ ever_taken A ++ taken_since sizes A L
unfolding ever_taken pending
ever_taken-append sizes A L a =
    ap₂ take (takes-append A L) (actions-append sizes A L)
    ∙ take_both (takes A) (takes L) (actions A) (stored_since sizes A L) (takes-le-actions sizes A a)

-- all those whose tickets rise from above a are above
rising_above : (a : ℕ) (ws : List Waiting) → Rising a ws → AllByRecursion (λ w. a < w.ticket) ws
rising_above a [] r = tt
rising_above a (w ∷ ws) r = (r.0, rising_above a ws (Rising-lower a w.ticket ws (omega (arith, r.0)) r.1))

-- none of those behind m has a ticket of the first m
behind-new : (m a : ℕ) (ws : List Waiting) → Rising a ws → AllByRecursion (λ w. list_any (λ v. v.ticket == w.ticket) (take m ws) ≡ false) (drop m ws)
behind-new zero a ws r = all-follows (λ w. a < w.ticket) (λ w. list_any (λ v. v.ticket == w.ticket) (take zero ws) ≡ false) ws (λ w h. refl) (rising_above a ws r)
behind-new (suc m) a [] r = tt
behind-new (suc m) a (x ∷ ws) r =
    all-with (λ w. x.ticket < w.ticket) (λ w. list_any (λ v. v.ticket == w.ticket) (take m ws) ≡ false) (λ w. list_any (λ v. v.ticket == w.ticket) (x ∷ take m ws) ≡ false) (drop m ws)
    (λ w lt new. rw (ne_eqb x.ticket w.ticket (λ e. omega (arith, lt, e))) new)
    (all-drop (λ w. x.ticket < w.ticket) m ws (rising_above x.ticket ws r.1)) (behind-new m x.ticket ws r.1)

-- an action is not done
abbrev pub IsUndone : List Step → Waiting → Type 0
IsUndone A w = is_finished w.ticket A ≡ false

-- no action behind those that were taken is done
pub undone_behind : (sizes : Sizes) (A : List Step) (ws : List Waiting) → IsAccepted sizes A → Rising 0 ws → take (takes A) ws ≡ ever_taken A → AllByRecursion (IsUndone A) (drop (takes A) ws)
undone_behind sizes A ws a r same =
    all-follows (λ w. list_any (λ v. v.ticket == w.ticket) (take (takes A) ws) ≡ false) (IsUndone A) (drop (takes A) ws) undone (behind-new (takes A) 0 ws r)
  where
    undone : (w : Waiting) → list_any (λ v. v.ticket == w.ticket) (take (takes A) ws) ≡ false → IsUndone A w
    undone w new =
        false_from_ne_true (is_finished w.ticket A)
        (λ done. both_ways (list_any (λ v. v.ticket == w.ticket) (take (takes A) ws)) new
        (ap (list_any (λ v. v.ticket == w.ticket)) same ∙ finished-taken sizes w.ticket A a done))

-- so are those pending in the base and stored since
pub undone_since : (sizes : Sizes) (A L : List Step) → IsAccepted sizes A → AllByRecursion (IsUndone A) (pending A ++ stored_since sizes A L)
unfolding pending ever_taken
undone_since sizes A L a =
    subst (AllByRecursion (IsUndone A)) (drop-append-le (takes A) (actions A) (stored_since sizes A L) (takes-le-actions sizes A a))
    (undone_behind sizes A (actions A ++ stored_since sizes A L) a
    (subst (Rising 0) (actions-append sizes A L) (actions-rising (A ++ L)))
    (take-append-le (takes A) (actions A) (stored_since sizes A L) (takes-le-actions sizes A a)))

-- the actions taken and not done
pub taken_after-is : (sizes : Sizes) (A L : List Step) → IsAccepted sizes A → taken_after (base_of sizes A) L ≡ taken (A ++ L)
unfolding taken_after ever_taken_after stored_after base_of taken
taken_after-is sizes A L a = sym (
    ap (filter now) (ever_taken-append sizes A L a) ∙ filter-append now (ever_taken A) rest
    ∙ ap₂ (λ k l. k ++ l) early late
    ∙ sym (filter-append since (filter (λ w. not (is_finished w.ticket A)) (ever_taken A)) rest)
    )
  where
    rest : List Waiting
    rest = taken_since sizes A L

    now : Waiting → Bool
    now w = not (is_finished w.ticket (A ++ L))

    since : Waiting → Bool
    since w = not (is_finished w.ticket L)

    early : filter now (ever_taken A) ≡ filter since (filter (λ w. not (is_finished w.ticket A)) (ever_taken A))
    early =
        filter_agree now (λ w. not (is_finished w.ticket L) && not (is_finished w.ticket A))
        (λ w. ap not (is_finished-append w.ticket A L) ∙ not_or (is_finished w.ticket A) (is_finished w.ticket L)) (ever_taken A)
        ∙ filter_twice (λ w. not (is_finished w.ticket A)) since (ever_taken A)

    late : filter now rest ≡ filter since rest
    late =
        filter-same_on now since rest
        (all-follows (IsUndone A) (λ w. now w ≡ since w) rest
        (λ w h. ap not (is_finished-append w.ticket A L ∙ ap (λ b. b || is_finished w.ticket L) h))
        (all-take (IsUndone A) (takes L) (pending A ++ stored_since sizes A L) (undone_since sizes A L a)))
