-- When a log can be opened, what contracts see of it then, and a refusal.
use Rattle.std.specs.Prelude.{◌≤◌, ◌^◌, nat_le, Bool, ◌&&◌}
use Rattle.hl_model.specs.declared.fault.Fault.{Fault}
use Rattle.hl_model.specs.Sizes.{Sizes}
use Rattle.hl_domain.specs.Domains.{DomainState}
use Rattle.hl.specs.declared.opening.Opening.{Opening}
use Rattle.hl.specs.declared.refused.Refused.{Refused}

-- 1 to 2,048 riders, a journal of 33 to 2^62 steps, since a locked call of a session with 32 touches enters 33, and a
-- stamp of at most 2^62
unfoldable pub can_open : {S : Type 0} → Opening S → Bool
can_open o =
    nat_le 1 o.riders && (nat_le o.riders 2048
    && (nat_le 33 o.journal && (nat_le o.journal (2 ^ 62) && nat_le o.stamp (2 ^ 62))))

-- so it is
pub record IsInRange {S : Type 0} (o : Opening S) : Type 0 where
  pub some_riders : 1 ≤ o.riders
  pub few_riders : o.riders ≤ 2048
  pub journal_enough : 33 ≤ o.journal
  pub journal_within : o.journal ≤ 2 ^ 62
  pub stamp_within : o.stamp ≤ 2 ^ 62

-- the same opening, of the sizes that it gives
abbrev pub of_sizes : {S : Type 0} → (S → Sizes) → Opening S → Opening Sizes
of_sizes sizes o =
    record { params = sizes o.params; riders = o.riders; journal = o.journal; stamp = o.stamp }

-- the log of an opening
abbrev pub opened_as : Opening Sizes → DomainState
opened_as o = record { sizes = o.params; stamp = o.stamp; limit = o.journal; riders = o.riders }

-- the refusal with this fault, and what was handed in
abbrev pub was_refused : {T : Type 0} → Fault → T → Refused T
was_refused fault back = record { fault = fault; back = back }
