-- The steps that bring a log to its lag.
use Rattle.std.specs.Prelude.{ℕ, ◌+◌, ◌-◌, ◌*◌, ◌/◌, nat_lt, Bool, if◌then◌else◌, min, max, Option, None, List, [], ◌∷◌, ◌++◌}
use Rattle.hl_model.specs.declared.fault.Fault.{Fault}
use Rattle.hl_model.specs.declared.step.Step.{Step}
use Rattle.hl_model.specs.declared.step.Step.TheVariants.{Raise, Settle, Shift, Close}
use Rattle.hl_model.specs.declared.view.Six.{Six}
use Rattle.hl_model.specs.Replies.{raise_fault, shift_fault}

-- how many pages there are up to the tail, the last one counted whole
abbrev pub pages_up_to : ℕ → ℕ → ℕ
pages_up_to page_size tail = (tail + page_size - 1) / page_size

-- where the read-only offset should be: so many pages behind the tail, and never lower than it is
abbrev pub read_only_at : ℕ → Six → ℕ → ℕ
read_only_at page_size six mutable =
    max six.read_only (page_size * (pages_up_to page_size six.tail - mutable))

-- where the head should be: so many pages behind the tail, at most at the flushed offset, and never lower
-- than it is
abbrev pub head_at : ℕ → Six → ℕ → ℕ
head_at page_size six resident =
    max six.head (min six.flushed (page_size * (pages_up_to page_size six.tail - resident)))

-- a step, where this holds
abbrev pub step_if : Bool → Step → List Step
step_if b step = if b then step ∷ [] else []

-- the steps: a raise, a settle, a shift and a close, each where its offset isn't there yet
abbrev pub lag_of : ℕ → Six → ℕ → ℕ → List Step
lag_of page_size six mutable resident =
    step_if (nat_lt six.read_only (read_only_at page_size six mutable))
    (Raise (read_only_at page_size six mutable))
    ++ step_if (nat_lt six.safe_read_only (read_only_at page_size six mutable)) Settle
    ++ step_if (nat_lt six.head (head_at page_size six resident)) (Shift (head_at page_size six resident))
    ++ step_if (nat_lt six.closed (head_at page_size six resident)) Close

-- the fault that a raise or a shift meets at these offsets
abbrev pub fault_at : ℕ → Six → Step → Option Fault
fault_at page_size six (Raise x) = raise_fault six.read_only six.tail x
fault_at page_size six (Shift x) = shift_fault page_size six.head six.flushed x
fault_at page_size six _ = None
