-- Which pages a protected slot reaches.
use Rattle.std.specs.Prelude.{◌≡◌, ◌⊎◌, ℕ, ◌/◌, None, List}
use Rattle.hl_model.specs.declared.step.Step.{Step}
use Rattle.hl_model.specs.declared.step.Step.TheVariants.{Write, Read}
use Rattle.hl_model.specs.Sizes.{Sizes}
use Rattle.hl_model.specs.Replies.{fault_of}

-- slot t reaches page p after the list A: a read or a write of some word of the page meets no fault
pub record Reaches (sizes : Sizes) (t p : ℕ) (A : List Step) : Type 0 where
  pub address : ℕ
  pub value : ℕ
  pub within : address / sizes.page_size ≡ p
  pub lawful : (fault_of sizes A (Read t address) ≡ None) ⊎ (fault_of sizes A (Write t address value) ≡ None)
