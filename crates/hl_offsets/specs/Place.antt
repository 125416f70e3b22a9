-- How a record lies among the pages of a log.
use Rattle.std.specs.Prelude.{◌≡◌, ℕ, ◌+◌, ◌-◌, ◌/◌}

-- the first and the last word of a record of n words at this address are on the same page
abbrev pub IsOnOnePage : ℕ → ℕ → ℕ → Type 0
IsOnOnePage page_size n address = address / page_size ≡ (address + n - 1) / page_size
