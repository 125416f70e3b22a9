-- The offsets that done actions settle: nobody writes below the first any more (FASTER's safe read-only
-- offset, section on the HybridLog), and nobody reads below the second, which is our own.
use Rattle.std.specs.Prelude.{ℕ, ◌+◌, ◌*◌, ◌/◌, nat_le, Bool, if◌then◌else◌, List}
use Rattle.hl_model.specs.declared.action.Kind.{Kind}
use Rattle.hl_model.specs.declared.action.Kind.TheVariants.{Settle, Close}
use Rattle.hl_model.specs.declared.step.Step.{Step}
use Rattle.hl_model.specs.Lists.{greatest}
use Rattle.hl_model.specs.Sizes.{Sizes}
use Rattle.hl_model.specs.Actions.{actions, is_finished}

-- the read-only offset that a settle stored
abbrev pub settles : Kind → ℕ
settles (Settle x) = x
settles _ = 0

-- the head that a close stored
abbrev pub closes : Kind → ℕ
closes (Close x) = x
closes _ = 0

-- the greatest address that the done actions stored, or 0
unfoldable pub done_greatest : (Kind → ℕ) → List Step → ℕ
done_greatest stored A = greatest (λ w. if is_finished w.ticket A then stored w.kind else 0) (actions A)

-- the safe read-only offset
abbrev pub safe_read_only : List Step → ℕ
safe_read_only A = done_greatest settles A

-- the closed offset
abbrev pub closed : List Step → ℕ
closed A = done_greatest closes A

-- page p is sealed: it ends at or below the safe read-only offset
abbrev pub is_sealed : Sizes → ℕ → List Step → Bool
is_sealed sizes p A = nat_le ((p + 1) * sizes.page_size) (safe_read_only A)

-- page p is closed: it ends at or below the closed offset
abbrev pub is_closed : Sizes → ℕ → List Step → Bool
is_closed sizes p A = nat_le ((p + 1) * sizes.page_size) (closed A)

-- how many pages end at or below an address: those below this number
abbrev pub pages_below : Sizes → ℕ → ℕ
pages_below sizes a = a / sizes.page_size
