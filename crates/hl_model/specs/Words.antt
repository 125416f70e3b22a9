-- What the words of the log hold.
use Rattle.std.specs.Prelude.{ℕ, ◌*◌, ◌==◌, if◌then◌else◌, Option, Some, None, List, map}
use Rattle.std.specs.List.{range_with_len}
use Rattle.hl_model.specs.declared.step.Step.{Step}
use Rattle.hl_model.specs.declared.step.Step.TheVariants.{Write}
use Rattle.hl_model.specs.Lists.{last_given}
use Rattle.hl_model.specs.Sizes.{Sizes}

-- the value that a step writes at address a
abbrev pub written_at : ℕ → Step → Option ℕ
written_at a (Write t b v) = if b == a then Some v else None
written_at a _ = None

-- the word at address a: the last value written there, or 0
unfoldable pub word : ℕ → List Step → ℕ
word a A = last_given (written_at a) 0 A

-- the words of page p, in order
unfoldable pub page_words : Sizes → ℕ → List Step → List ℕ
page_words sizes p A = map (λ a. word a A) (range_with_len (p * sizes.page_size) sizes.page_size)
