-- What an accepted step makes of a core, and what a row of steps makes of a journal, step by step.
use Rattle.std.proofs.Common.{◌≡◌, ℕ, suc, ◌+◌, ◌<◌, List, [], ◌∷◌, ◌++◌, length, take, get_or, sym, ap, ◌∙◌, subst, arith}
use Rattle.std.specs.Prelude.{None, Ok}
use Rattle.std.proofs.Math.Seq.{take-suc}
use Rattle.std.proofs.lemmas.List.{length-take-le}
use Rattle.hl_model.specs.declared.step.Reply.{Reply}
use Rattle.hl_model.specs.declared.step.Step.{Step}
use Rattle.hl_model.specs.Replies.{fault_of, answer_of}
use Rattle.hl_laws.proofs.AcceptedLaws.{extended-none}
use Rattle.hl_laws.proofs.NoFaultLaws.{unless_ok}
use Rattle.hl_core.specs.Standing.{State, Stands}
use Rattle.hl_core.specs.Steps.{Stepped}
use Rattle.hl_keeper.specs.Journals.{JournalState, full_fault, with_steps}
use Rattle.hl_keeper.proofs.JournalLaws.{room_behind, steps_assoc}

take_next : (n : ℕ) (xs : List Step) (s d : Step) → n < length xs → s ≡ get_or xs n d → take (n + 1) xs ≡ take n xs ++ s ∷ []
take_next n xs s d lt e =
    let next : n + 1 ≡ suc n = omega arith in
    ap (λ (m : ℕ). take m xs) next ∙ take-suc xs n d lt ∙ ap (λ (z : Step). take n xs ++ z ∷ []) (sym e)

-- the next is put behind the journal
pub noted_next : (before journal longer : JournalState) (xs : List Step) (n : ℕ) (s d : Step) → journal ≡ with_steps (take n xs) before → n < length xs → s ≡ get_or xs n d → longer ≡ with_steps (s ∷ []) journal → longer ≡ with_steps (take (n + 1) xs) before
noted_next before journal longer xs n s d at lt e j =
    j ∙ ap (with_steps (s ∷ [])) at ∙ steps_assoc before (take n xs) (s ∷ []) ∙ ap (λ z. with_steps z before) (sym (take_next n xs s d lt e))

-- it has room
pub next_fits : (before journal : JournalState) (xs : List Step) (n : ℕ) → journal ≡ with_steps (take n xs) before → full_fault before (length xs) ≡ None → n < length xs → full_fault journal 1 ≡ None
next_fits before journal xs n at room lt = rw at (room_behind before (take n xs) (length xs) 1 room (omega (arith, length-take-le n xs (omega (arith, lt)), lt)))

module _ {J : Type 0} (tag : J → ℕ) where
  -- an accepted step takes a core on
  pub stepped_on : (old : State J) (A : List Step) (s : Step) (new : State J) (r : Reply) → Stepped tag old A s new (Ok r) → (fault_of old.sizes A s ≡ None) × (r ≡ answer_of old.sizes A (A ++ s ∷ []) s) × Stands tag new (A ++ s ∷ [])
  stepped_on old A s new r stepped =
      let both = unless_ok (fault_of old.sizes A s) r (answer_of old.sizes A (A ++ s ∷ []) s) stepped.reply in
      (both.0, both.1, subst (λ (z : List Step). Stands tag new z) (extended-none old.sizes A s both.0) stepped.standing)
