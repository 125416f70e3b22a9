-- The offsets that steps move, looked up in one flat list of steps (FASTER, section on the HybridLog). All
-- are addresses.
use Rattle.std.specs.Prelude.{ℕ, ◌+◌, ◌*◌, ◌/◌, ◌%◌, nat_le, nat_lt, Bool, if◌then◌else◌, List, fold}
use Rattle.hl_model.specs.declared.step.Step.{Step}
use Rattle.hl_model.specs.declared.step.Step.TheVariants.{Raise, Shift, Allocate}
use Rattle.hl_model.specs.Lists.{greatest}
use Rattle.hl_model.specs.Sizes.{Sizes}

-- the address to which a step raises the read-only offset
abbrev pub raised_to : Step → ℕ
raised_to (Raise x) = x
raised_to _ = 0

-- the address to which a step shifts the head
abbrev pub shifted_to : Step → ℕ
shifted_to (Shift x) = x
shifted_to _ = 0

-- the read-only offset: the greatest address raised to, or 0
unfoldable pub read_only : List Step → ℕ
read_only A = greatest raised_to A

-- the head: the greatest address shifted to, or 0
unfoldable pub head : List Step → ℕ
head A = greatest shifted_to A

-- where a record of n words is placed: at the tail, if its page has room, else at the start of the next page
abbrev pub place_of : ℕ → ℕ → ℕ → ℕ
place_of page_size tail n =
    if nat_le (tail % page_size + n) page_size then tail else ((tail / page_size + 1) * page_size)

-- the tail after a step, told the tail before it: an allocated record ends there
abbrev pub tail_past : ℕ → ℕ → Step → ℕ
tail_past page_size tail (Allocate t n) = place_of page_size tail n + n
tail_past page_size tail _ = tail

-- the tail: the end of the last record, or 0
unfoldable pub tail : Sizes → List Step → ℕ
tail sizes A = fold (tail_past sizes.page_size) 0 A

-- page q is entered: a record was placed in it
abbrev pub is_entered : Sizes → ℕ → List Step → Bool
is_entered sizes q A = nat_lt (q * sizes.page_size) (tail sizes A)
