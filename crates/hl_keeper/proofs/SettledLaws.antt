-- What is found in the word of the safe read-only offset, in the list whose dones stored it.
use Rattle.std.proofs.Common.{◌≡◌, ℕ, zero, suc, ◌≤◌, ◌⊎◌, inl, inr, List, [], ◌∷◌, ◌++◌, length, take, drop, reverse, sym, ap, ◌∙◌, subst, arith, take_all}
use Rattle.std.specs.List.{AllByRecursion as Every, Contains}
use Rattle.std.proofs.lemmas.List.{take-append-le, take-append-drop, length_push}
use Rattle.hl_model.specs.declared.action.Kind.{Kind}
use Rattle.hl_model.specs.declared.action.Kind.TheVariants.{Settle as Settling}
use Rattle.hl_model.specs.declared.step.Step.{Step}
use Rattle.hl_model.specs.declared.step.Step.TheVariants.{Write, Done}
use Rattle.hl_model.specs.Sizes.{Sizes}
use Rattle.hl_model.specs.Actions.{action_at}
use Rattle.hl_model.specs.Replies.{kind_or_job_0, IsAccepted}
use Rattle.hl_model.specs.Settled.{settles, safe_read_only}
use Rattle.hl_model.proofs.ListLaws.{by_pushing, all-append, all-follows, never_falls}
use Rattle.hl_laws.proofs.BoundLaws.{writes_are_above_safe_read_only}
use Rattle.hl_laws.proofs.SettledLaws.{done_greatest-nil, done_greatest-grows}
use Rattle.hl_words.specs.Rule.{AreLoads}
use Rattle.hl_keeper.specs.Stores.{if_settle, settled_by, settled_in, stores_of, IsSettled}
use Rattle.hl_pass.proofs.StoreLaws.{settled-nil, settled-push}

-- it was the safe read-only offset of the first n steps
abbrev pub WasSafe : List Step → ℕ → Type 0
WasSafe A x = (n : ℕ) × (n ≤ length A) × (x ≡ safe_read_only (take n A))

-- each that was stored
pub stored_were : (A : List Step) → Every (WasSafe A) (settled_in A)
stored_were = by_pushing (λ A. Every (WasSafe A) (settled_in A)) (subst (Every (WasSafe [])) (sym settled-nil) tt) step
  where
    later : (A : List Step) (s : Step) (x : ℕ) → WasSafe A x → WasSafe (A ++ s ∷ []) x
    later A s x w = (w.0, omega (arith, w.1, length_push A s), w.2 ∙ ap safe_read_only (sym (take-append-le w.0 A (s ∷ []) w.1)))

    by_kind : (B : List Step) (k : Kind) → Every (WasSafe B) (reverse (if_settle (safe_read_only B) k))
    by_kind B (Settling r) = ((length B, omega arith, ap safe_read_only (sym (take_all (length B) B (omega arith)))), tt)
    by_kind B _ = tt

    new : (A : List Step) (s : Step) → Every (WasSafe (A ++ s ∷ [])) (reverse (settled_by A s))
    new A (Done c) = by_kind (A ++ Done c ∷ []) (kind_or_job_0 (action_at c A))
    new A _ = tt

    step : (A : List Step) (s : Step) → Every (WasSafe A) (settled_in A) → Every (WasSafe (A ++ s ∷ [])) (settled_in (A ++ s ∷ []))
    step A s h = subst (Every (WasSafe (A ++ s ∷ []))) (sym (settled-push A s)) (all-append (WasSafe (A ++ s ∷ [])) (reverse (settled_by A s)) (settled_in A) (new A s) (all-follows (WasSafe A) (WasSafe (A ++ s ∷ [])) (settled_in A) (later A s) h))

-- what holds of each holds of one of them
of_each : (P : ℕ → Type 0) (xs : List ℕ) (x : ℕ) → Every P xs → Contains xs x → P x
of_each P [] x h (k, less, is) = absurd (omega (arith, less))
of_each P (y ∷ ys) x h (zero, less, is) = subst P is h.0
of_each P (y ∷ ys) x h (suc k, less, is) = of_each P ys x h.1 (k, omega (arith, less), is)

-- behind those steps no write lies below it
settled : (sizes : Sizes) (A : List Step) (x : ℕ) → IsAccepted sizes A → WasSafe A x → IsSettled A x
settled sizes A x accepted w = record {
  steps = w.0;
  safe = w.2;
  unwritten = λ X t a v Y e le.
      let n : ℕ = w.0 in
      let first : take n A ≡ take n X = ap (take n) e ∙ take-append-le n X (Write t a v ∷ Y) le in
      let grows : safe_read_only (take n X) ≤ safe_read_only (take n X ++ drop n X) = never_falls safe_read_only (done_greatest-grows settles) (take n X) (drop n X) in
      omega (arith, w.2, ap safe_read_only first, grows, ap safe_read_only (take-append-drop n X), writes_are_above_safe_read_only sizes X t a v Y (subst (IsAccepted sizes) e accepted));
}

-- so each that was loaded
pub loads_are_settled : (sizes : Sizes) (A : List Step) (loads : List ℕ) → IsAccepted sizes A → AreLoads (stores_of A).safe_read_only loads → Every (IsSettled A) loads
unfolding stores_of
loads_are_settled sizes A loads accepted are = all-follows (λ x. (x ≡ 0) ⊎ Contains (settled_in A) x) (IsSettled A) loads each are.1
  where
    each : (x : ℕ) → (x ≡ 0) ⊎ Contains (settled_in A) x → IsSettled A x
    each x (inl none) = settled sizes A x accepted (0, omega arith, none ∙ sym (done_greatest-nil settles))
    each x (inr found) = settled sizes A x accepted (of_each (WasSafe A) (settled_in A) x (stored_were A) found)
