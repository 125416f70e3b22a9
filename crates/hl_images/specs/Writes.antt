-- What calls wrote at an address.
use Rattle.std.specs.Prelude.{ℕ, ◌≡◌, List, ◌∷◌, ◌++◌, None}
use Rattle.std.specs.List.{AllByRecursion}
use Rattle.hl_model.specs.declared.step.Step.{Step}
use Rattle.hl_model.specs.declared.step.Step.TheVariants.{Write}
use Rattle.hl_model.specs.Words.{written_at}
use Rattle.hl_history.specs.declared.view.Entry.{Entry}

-- the steps write nothing at the address
abbrev pub WritesNothing : ℕ → List Step → Type 0
WritesNothing a steps = AllByRecursion (λ s. written_at a s ≡ None) steps

-- nor do these calls
abbrev pub CallsWriteNothing : ℕ → List Entry → Type 0
CallsWriteNothing a calls = AllByRecursion (λ e. WritesNothing a e.steps) calls

-- the newest write of these calls at an address is of this value
pub record LastWrites (a v : ℕ) (calls : List Entry) : Type 0 where
  pub newer : List Entry
  pub call : Entry
  pub earlier : List Entry
  pub calls_are : calls ≡ newer ++ call ∷ earlier
  pub none : CallsWriteNothing a newer
  pub slot : ℕ
  pub first : List Step
  pub rest : List Step
  pub steps : call.steps ≡ first ++ Write slot a v ∷ rest
  pub silent : WritesNothing a rest
