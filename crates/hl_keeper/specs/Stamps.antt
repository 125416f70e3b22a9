-- Acquires, and the stamps that they give to slots, looked up in one flat list of steps.
use Rattle.std.specs.Prelude.{ℕ, ◌+◌, ◌==◌, Bool, true, false, if◌then◌else◌, List, take, map, count_by}
use Rattle.std.specs.List.{list_any, range_with_len}
use Rattle.hl_model.specs.declared.step.Step.{Step}
use Rattle.hl_model.specs.declared.step.Step.TheVariants.{Acquire}
use Rattle.hl_model.specs.Lists.{until_last}

-- an acquire
abbrev pub is_acquire : Step → Bool
is_acquire (Acquire t) = true
is_acquire _ = false

-- an acquire of slot t
abbrev pub acquires : ℕ → Step → Bool
acquires t (Acquire u) = u == t
acquires t _ = false

-- how many acquires there are
unfoldable pub acquires_in : List Step → ℕ
acquires_in A = count_by is_acquire A

-- how many acquires lead up to slot t's last, that one counted
unfoldable pub acquires_until : ℕ → List Step → ℕ
acquires_until t A = acquires_in (take (until_last (acquires t) A) A)

-- the stamp of slot t: the domain's, and one more for each acquire up to the slot's last; 0 where it was
-- never acquired
unfoldable pub slot_stamp : ℕ → ℕ → List Step → ℕ
slot_stamp stamp t A = if list_any (acquires t) A then stamp + acquires_until t A else 0

-- the stamp of each of n slots
unfoldable pub slot_stamps : ℕ → ℕ → List Step → List ℕ
slot_stamps n stamp A = map (λ t. slot_stamp stamp t A) (range_with_len 0 n)
