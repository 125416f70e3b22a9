-- What a view tells of an address, and of a row of them.
use Rattle.std.specs.Prelude.{ℕ, ◌-◌, nat_lt, nat_le, if◌then◌else◌, Option, Some, None}
use Rattle.hl_model.specs.declared.fault.Fault.{Fault}
use Rattle.hl_model.specs.declared.fault.Fault.TheVariants.{Beyond, Evicted as EVICTED}
use Rattle.hl_model.specs.declared.view.View.{View}
use Rattle.hl_pass.specs.Views.{beyond_fault}
use Rattle.hl_pass.specs.declared.region.Region.{Region}
use Rattle.hl_pass.specs.declared.region.Region.TheVariants.{Mutable, Fuzzy, ReadOnly, Evicted}

-- the fault of an address that no region has: it is not below the tail that is seen, nor evicted
abbrev pub region_fault : View → ℕ → Option Fault
region_fault v a = if nat_lt a v.head then None else beyond_fault v a

-- the region of an address that has one, to whoever has this view, where the safe read-only offset is known to be at
-- least this
abbrev pub region_of : View → ℕ → ℕ → Region
region_of v safe_read_only a =
    if nat_lt a v.head then Evicted
    else if nat_le v.read_only a then Mutable
    else if nat_lt a safe_read_only then ReadOnly
    else Fuzzy

-- the fault of n words from address a on, of which each is to be loaded: the first is below the head, or there aren't
-- so many below the tail
abbrev pub row_fault : View → ℕ → ℕ → Option Fault
row_fault v a n =
    if nat_lt a v.head then Some (EVICTED v.head)
    else if nat_lt (v.tail - a) n then Some (Beyond v.tail)
    else None
