-- The stores of the master's words, told by a list of steps.
use Rattle.std.proofs.Common.{◌≡◌, ℕ, zero, suc, ◌+◌, ◌<◌, true, false, cond, ltb, max, List, [], ◌∷◌, ◌++◌, map, reverse, refl, sym, ap, ◌∙◌, arith}
use Rattle.std.specs.Prelude.{Some, None}
use Rattle.std.specs.List.{filter}
use Rattle.std.proofs.lemmas.Bool.{lt-ltb}
use Rattle.std.proofs.lemmas.List.{map-append, reverse-append}
use Rattle.std.proofs.lemmas.List.Elements.{filter-append}
use Rattle.hl_model.specs.declared.action.Kind.{Kind}
use Rattle.hl_model.specs.declared.action.Kind.TheVariants.{User, Settle as Settling, Close as Closing}
use Rattle.hl_model.specs.declared.action.Waiting.{Waiting}
use Rattle.hl_model.specs.declared.step.Step.{Step}
use Rattle.hl_model.specs.declared.step.Step.TheVariants.{Raise, Shift, Bump, Settle, Close, Bare, Done}
use Rattle.hl_model.specs.Lists.{gather, gather_after}
use Rattle.hl_model.specs.Sizes.{Sizes}
use Rattle.hl_model.specs.Actions.{bumps, is_done, action_at}
use Rattle.hl_model.specs.Epochs.{is_bump}
use Rattle.hl_model.specs.Offsets.{raised_to, shifted_to, read_only, head}
use Rattle.hl_model.specs.Replies.{kind_or_job_0, done_answer, fault_of, answer_of, IsAccepted}
use Rattle.hl_model.specs.Settled.{settles, safe_read_only}
use Rattle.hl_model.proofs.ListLaws.{gather-push}
use Rattle.hl_laws.proofs.AcceptedLaws.{accepted_has, IsAccepted-push}
use Rattle.hl_laws.proofs.ActionLaws.{bumps-push}
use Rattle.hl_laws.proofs.DrainLaws.{done_fault-none}
use Rattle.hl_laws.proofs.NoFaultLaws.{raise-none, shift-none}
use Rattle.hl_laws.proofs.OffsetLaws.{read_only-nil, read_only-stay, read_only-raise, read_only-grows, head-nil, head-stay, head-shift, head-grows}
use Rattle.hl_laws.proofs.SettledLaws.{done_greatest-nil, done_greatest-quiet, done_greatest-done, done_greatest-grows, action_at-taken, action_at-done}
use Rattle.hl_words.specs.declared.view.OffsetWords.{OffsetWords}
use Rattle.hl_words.specs.declared.which.Which.TheVariants.{Ended}
use Rattle.hl_words.specs.Views.{newest, no_offsets, with_offset}
use Rattle.hl_pass.specs.Stores.{moves_in, down_from, if_settle, settled_by, settled_in, stores_of, with_told, IsAbove}

-- what one step more puts before the others
moves-push : (to : Step → ℕ) (A : List Step) (s : Step) → moves_in to (A ++ s ∷ []) ≡ reverse (cond (ltb 0 (to s)) (to s ∷ []) []) ++ moves_in to A
unfolding moves_in
moves-push to A s =
    ap (λ z. reverse (filter (ltb 0) z)) (map-append to A (s ∷ []))
    ∙ ap reverse (filter-append (ltb 0) (map to A) (to s ∷ []))
    ∙ reverse-append (filter (ltb 0) (map to A)) (filter (ltb 0) (to s ∷ []))

-- a step that moves nothing leaves them
moves-stay : (to : Step → ℕ) (A : List Step) (s : Step) → to s ≡ 0 → moves_in to (A ++ s ∷ []) ≡ moves_in to A
moves-stay to A s h = moves-push to A s ∙ ap (λ n. reverse (cond (ltb 0 n) (n ∷ []) []) ++ moves_in to A) h

-- one that moves is the newest
moves-more : (to : Step → ℕ) (A : List Step) (s : Step) → 0 < to s → moves_in to (A ++ s ∷ []) ≡ to s ∷ moves_in to A
moves-more to A s lt = moves-push to A s ∙ ap (λ b. reverse (cond b (to s ∷ []) []) ++ moves_in to A) (lt-ltb 0 (to s) lt)

-- a step that is no bump ends no epoch
ended-stay : (A : List Step) (s : Step) → is_bump s ≡ false → down_from (bumps (A ++ s ∷ [])) ≡ down_from (bumps A)
ended-stay A s h = ap down_from (bumps-push A s ∙ ap (λ b. bumps A + cond b 1 0) h ∙ omega arith)

-- no step settled anything
pub settled-nil : settled_in [] ≡ []
unfolding settled_in gather gather_after
settled-nil = refl

-- what one step more settles, before what the others did
pub settled-push : (A : List Step) (s : Step) → settled_in (A ++ s ∷ []) ≡ reverse (settled_by A s) ++ settled_in A
unfolding settled_in
settled-push A s = ap reverse (gather-push settled_by A s) ∙ reverse-append (gather settled_by A) (settled_by A s)

-- a step that ends no action settles nothing
settled-stay : (A : List Step) (s : Step) → is_done s ≡ false → settled_in (A ++ s ∷ []) ≡ settled_in A
settled-stay A s h = settled-push A s ∙ ap (λ l. reverse l ++ settled_in A) (none s h)
  where
    none : (s : Step) → is_done s ≡ false → settled_by A s ≡ []
    none (Done ticket) h = cc
    none _ h = refl

-- the done of an action of this kind
settled-done : (A : List Step) (c : ℕ) (k : Kind) → kind_or_job_0 (action_at c A) ≡ k → settled_in (A ++ Done c ∷ []) ≡ reverse (if_settle (safe_read_only (A ++ Done c ∷ [])) k) ++ settled_in A
settled-done A c k is = settled-push A (Done c) ∙ ap (λ z. reverse (if_settle (safe_read_only (A ++ Done c ∷ [])) z) ++ settled_in A) is

-- before any step nothing is stored
pub stores-nil : stores_of [] ≡ no_offsets
unfolding stores_of moves_in bumps down_from settled_in gather gather_after
stores-nil = refl

-- a step that moves no offset, and ends no epoch and no action, stores nothing
pub stores-stay : (A : List Step) (s : Step) → raised_to s ≡ 0 → shifted_to s ≡ 0 → is_bump s ≡ false → is_done s ≡ false → stores_of (A ++ s ∷ []) ≡ stores_of A
unfolding stores_of
stores-stay A s r h e d = rw (moves-stay raised_to A s r, moves-stay shifted_to A s h, ended-stay A s e, settled-stay A s d) refl

-- a bump stores the epoch that it ends
stores-bump : (A : List Step) (s : Step) → raised_to s ≡ 0 → shifted_to s ≡ 0 → is_bump s ≡ true → is_done s ≡ false → stores_of (A ++ s ∷ []) ≡ with_offset Ended (bumps (A ++ s ∷ [])) (stores_of A)
unfolding stores_of down_from
stores-bump A s r h b d = rw (moves-stay raised_to A s r, moves-stay shifted_to A s h, more, settled-stay A s d) refl
  where
    more : bumps (A ++ s ∷ []) ≡ suc (bumps A)
    more = bumps-push A s ∙ ap (λ z. bumps A + cond z 1 0) b ∙ omega arith

-- a done what its answer tells
stores-done : (A : List Step) (c : ℕ) (k : Kind) → kind_or_job_0 (action_at c A) ≡ k → stores_of (A ++ Done c ∷ []) ≡ with_told (done_answer (A ++ Done c ∷ []) k) (stores_of A)
unfolding stores_of
stores-done A c (User tag) is = rw (moves-stay raised_to A (Done c) refl, moves-stay shifted_to A (Done c) refl, ended-stay A (Done c) refl, settled-done A c (User tag) is) refl
stores-done A c (Settling x) is = rw (moves-stay raised_to A (Done c) refl, moves-stay shifted_to A (Done c) refl, ended-stay A (Done c) refl, settled-done A c (Settling x) is) refl
stores-done A c (Closing x) is = rw (moves-stay raised_to A (Done c) refl, moves-stay shifted_to A (Done c) refl, ended-stay A (Done c) refl, settled-done A c (Closing x) is) refl

-- so each accepted step stores what its answer tells
pub stores-told : (sizes : Sizes) (A : List Step) (s : Step) → fault_of sizes A s ≡ None → stores_of (A ++ s ∷ []) ≡ with_told (answer_of sizes A (A ++ s ∷ []) s) (stores_of A)
unfolding stores_of
stores-told sizes A (Raise x) h =
    rw (moves-more raised_to A (Raise x) (omega (arith, (raise-none sizes A x h).0)), moves-stay shifted_to A (Raise x) refl, ended-stay A (Raise x) refl, settled-stay A (Raise x) refl, read_only-raise sizes A x h) refl
stores-told sizes A (Shift x) h =
    rw (moves-stay raised_to A (Shift x) refl, moves-more shifted_to A (Shift x) (omega (arith, (shift-none sizes A x h).0)), ended-stay A (Shift x) refl, settled-stay A (Shift x) refl, head-shift sizes A x h) refl
stores-told sizes A (Bump tag) h = stores-bump A (Bump tag) refl refl refl refl
stores-told sizes A Settle h = stores-bump A Settle refl refl refl refl
stores-told sizes A Close h = stores-bump A Close refl refl refl refl
stores-told sizes A Bare h = stores-bump A Bare refl refl refl refl
stores-told sizes A (Done c) h =
    stores-done A c (kind_or_job_0 (action_at c A)) refl ∙ ap (λ o. with_told (done_answer (A ++ Done c ∷ []) (kind_or_job_0 o)) (stores_of A)) (sym (action_at-done c A))
stores-told sizes A s h = stores-stay A s refl refl refl refl

-- the newest offsets that were stored are the list's
pub newest-read_only : (sizes : Sizes) (A : List Step) → IsAccepted sizes A → newest (stores_of A).read_only ≡ read_only A
unfolding stores_of
newest-read_only sizes = accepted_has sizes (λ A. newest (moves_in raised_to A) ≡ read_only A) (ap (λ (o : OffsetWords). newest o.read_only) stores-nil ∙ sym read_only-nil) step
  where
    step : (A : List Step) (s : Step) → IsAccepted sizes A → fault_of sizes A s ≡ None → newest (moves_in raised_to A) ≡ read_only A → newest (moves_in raised_to (A ++ s ∷ [])) ≡ read_only (A ++ s ∷ [])
    step A (Raise x) a h before = ap newest (moves-more raised_to A (Raise x) (omega (arith, (raise-none sizes A x h).0))) ∙ sym (read_only-raise sizes A x h)
    step A s a h before = ap newest (moves-stay raised_to A s refl) ∙ before ∙ sym (read_only-stay A s refl)

pub newest-head : (sizes : Sizes) (A : List Step) → IsAccepted sizes A → newest (stores_of A).head ≡ head A
unfolding stores_of
newest-head sizes = accepted_has sizes (λ A. newest (moves_in shifted_to A) ≡ head A) (ap (λ (o : OffsetWords). newest o.head) stores-nil ∙ sym head-nil) step
  where
    step : (A : List Step) (s : Step) → IsAccepted sizes A → fault_of sizes A s ≡ None → newest (moves_in shifted_to A) ≡ head A → newest (moves_in shifted_to (A ++ s ∷ [])) ≡ head (A ++ s ∷ [])
    step A (Shift x) a h before = ap newest (moves-more shifted_to A (Shift x) (omega (arith, (shift-none sizes A x h).0))) ∙ sym (head-shift sizes A x h)
    step A s a h before = ap newest (moves-stay shifted_to A s refl) ∙ before ∙ sym (head-stay A s refl)

-- the newest safe read-only offset that was stored is the list's
pub newest-settled : (sizes : Sizes) (A : List Step) → IsAccepted sizes A → newest (stores_of A).safe_read_only ≡ safe_read_only A
unfolding stores_of
newest-settled sizes = accepted_has sizes (λ A. newest (settled_in A) ≡ safe_read_only A) none step
  where
    none : newest (settled_in []) ≡ safe_read_only []
    none = ap newest settled-nil ∙ sym (done_greatest-nil settles)

    by_kind : (A : List Step) (c : ℕ) (k : Kind) → kind_or_job_0 (action_at c A) ≡ k → safe_read_only (A ++ Done c ∷ []) ≡ max (safe_read_only A) (settles k) → newest (settled_in A) ≡ safe_read_only A → newest (settled_in (A ++ Done c ∷ [])) ≡ safe_read_only (A ++ Done c ∷ [])
    by_kind A c (User tag) is more before = omega (arith, ap newest (settled-done A c (User tag) is), more, before)
    by_kind A c (Settling x) is more before = ap newest (settled-done A c (Settling x) is)
    by_kind A c (Closing x) is more before = omega (arith, ap newest (settled-done A c (Closing x) is), more, before)

    done : (A : List Step) (c : ℕ) → IsAccepted sizes A → fault_of sizes A (Done c) ≡ None → newest (settled_in A) ≡ safe_read_only A → newest (settled_in (A ++ Done c ∷ [])) ≡ safe_read_only (A ++ Done c ∷ [])
    done A c a h before =
        let w : (w : Waiting) × (action_at c A ≡ Some w) × (w.ticket ≡ c) × (_ ≡ Some w) = action_at-taken A c (done_fault-none sizes A c h) in
        by_kind A c w.0.kind (ap kind_or_job_0 w.1) (done_greatest-done sizes settles A c w.0 a h w.1) before

    step : (A : List Step) (s : Step) → IsAccepted sizes A → fault_of sizes A s ≡ None → newest (settled_in A) ≡ safe_read_only A → newest (settled_in (A ++ s ∷ [])) ≡ safe_read_only (A ++ s ∷ [])
    step A (Done c) a h before = done A c a h before
    step A s a h before = ap newest (settled-stay A s refl) ∙ before ∙ sym (done_greatest-quiet sizes settles A s a refl)

-- the newest epoch that was stored is the number of bumps
pub newest-ended : (A : List Step) → newest (stores_of A).ended ≡ bumps A
unfolding stores_of down_from
newest-ended A = first (bumps A)
  where
    first : (n : ℕ) → newest (down_from n) ≡ n
    first zero = refl
    first (suc n) = refl

-- no step lowers any of them
pub stores-rise : (sizes : Sizes) (A : List Step) (s : Step) → IsAccepted sizes A → fault_of sizes A s ≡ None → IsAbove (stores_of A) (stores_of (A ++ s ∷ []))
stores-rise sizes A s a h =
    let b : IsAccepted sizes (A ++ s ∷ []) = IsAccepted-push sizes A s a h in record {
      read_only = omega (arith, newest-read_only sizes A a, newest-read_only sizes (A ++ s ∷ []) b, read_only-grows A s);
      head = omega (arith, newest-head sizes A a, newest-head sizes (A ++ s ∷ []) b, head-grows A s);
      ended = omega (arith, newest-ended A, newest-ended (A ++ s ∷ []), bumps-push A s);
      safe_read_only = omega (arith, newest-settled sizes A a, newest-settled sizes (A ++ s ∷ []) b, done_greatest-grows settles A s);
    }
