-- Operations that are tried again.
use Rattle.std.proofs.Common.{◌≡◌, ◌≤◌, ℕ, Ok, Err, inr}
use Rattle.std.specs.Prelude.{◌⊎◌, Option, None, Result, IfErr}
use Rattle.hl_crew.specs.Goes.{Followed}
use Rattle.hl.specs.declared.session.tries.Cure.{Cure}
use Rattle.hl.specs.declared.session.tries.Helped.{Helped}
use Rattle.hl.specs.Attempts.{AreTold, Attempts, TriesNext}

module _ {O S T X : Type 0} (Tries : O → S → Result T X → O → S → Type 0)
    (Cures : X → Option Cure → Type 0) (Tells : X → X → Type 0) (Helps : S → Cure → Helped → S → Type 0) where
  -- whatever an answer is, all tries were made
  pub if_all : (r : Result T X) {n again : ℕ} → n ≡ again → IfErr r (λ error. Cures error None ⊎ (n ≡ again))
  if_all (Ok out) all = tt
  if_all (Err error) all = inr all

  -- the last try, behind those in vain
  pub last_try : (again n : ℕ) (answered result : Result T X) (o p q : O) (old last new : S)
      → n ≤ again → Followed (TriesNext Tries Cures Tells Helps) n (o, old) (p, last) → Tries p last answered q new
      → IfErr answered (λ error. Cures error None ⊎ (n ≡ again)) → AreTold Tries Cures Tells Helps answered result
      → Attempts Tries Cures Tells Helps again result o old new
  last_try again n answered result o p q old last new most before answer all told =
      record { vain = n; most = most; operation = p; last = last; before = before; left = q; answered = answered; answer = answer; told = told; all_tried = all }
