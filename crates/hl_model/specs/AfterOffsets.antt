-- The offsets that steps move, of a base and the steps since.
use Rattle.std.specs.Prelude.{ℕ, max, List, fold}
use Rattle.hl_model.specs.declared.step.Step.{Step}
use Rattle.hl_model.specs.Lists.{greatest}
use Rattle.hl_model.specs.Offsets.{raised_to, shifted_to, tail_past}
use Rattle.hl_model.specs.Bases.{Base}

-- the read-only offset: the greatest of the base's and each address raised to
unfoldable pub read_only_after : Base → List Step → ℕ
read_only_after b L = max b.six.read_only (greatest raised_to L)

-- the head: the greatest of the base's and each address shifted to
unfoldable pub head_after : Base → List Step → ℕ
head_after b L = max b.six.head (greatest shifted_to L)

-- the tail: the end of the last record, or the base's tail
unfoldable pub tail_after : Base → List Step → ℕ
tail_after b L = fold (tail_past b.sizes.page_size) b.six.tail L
