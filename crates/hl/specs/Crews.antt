-- The logs that a crew can serve.
use Rattle.std.specs.Prelude.{nat_eq, nat_le, Bool, ◌&&◌}
use Rattle.hl_model.specs.Sizes.{Sizes}
use Rattle.hl_crew.specs.declared.duty.Duty.{Duty}
use Rattle.hl.specs.declared.opening.Opening.{Opening}
use Rattle.hl.specs.Openings.{can_open}

-- a log that can be opened with riders for a crew of this duty
unfoldable pub can_run : Opening Sizes → Duty → Bool
can_run o duty = can_open o && (nat_le 4 o.riders && nat_eq duty.frames o.params.frames)
