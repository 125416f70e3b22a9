-- What contracts see of a lease.
use Rattle.std.specs.Prelude.{◌≡◌, ℕ, ◌+◌, ◌-◌, ◌/◌, ◌<◌, Result, Ok, Err}
use Rattle.hl_model.specs.declared.fault.Fault.{Fault}

-- a piece of the log: the address of the next word that it gives, and its end
pub record LeaseRecord : Type 0 where
  pub next : ℕ
  pub end : ℕ

-- the answer of the allocation that placed the piece
abbrev pub placed : Result LeaseRecord Fault → Result ℕ Fault
placed (Ok lease) = Ok lease.next
placed (Err fault) = Err fault

-- whatever the size of a page, a record of n words at address a lies on one, if all that was left of the
-- piece did
abbrev pub StaysOnPage : LeaseRecord → ℕ → ℕ → Type 0
StaysOnPage lease a n = (page_size : ℕ) → 0 < page_size
    → lease.next / page_size ≡ (lease.end - 1) / page_size → a / page_size ≡ (a + n - 1) / page_size
