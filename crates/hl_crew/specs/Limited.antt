-- What a crew runs by.
use Rattle.std.specs.Prelude.{ℕ, ◌-◌, ◌^◌, Bool, true, false, Option, Some, None}
use Rattle.hl_crew.specs.declared.duty.Duty.{Duty}
use Rattle.hl_crew.specs.declared.limits.Cuts.{Cuts}
use Rattle.hl_crew.specs.declared.limits.Cuts.TheVariants.{Never, EachTurn, Above}
use Rattle.hl_crew.specs.declared.limits.Limits.{Limits}
use Rattle.hl_crew.specs.declared.mode.Mode.{Mode}
use Rattle.hl_crew.specs.declared.mode.Mode.TheVariants.{Turns, Until}

-- when a crew cuts that may leave so many steps, or none by its duty
abbrev pub duty_cuts : Option ℕ → Cuts
duty_cuts (Some steps) = Above steps
duty_cuts None = Never

-- the limits of a crew that serves by a duty: its turns end by a stop
abbrev pub duty_limits : Duty → Limits
duty_limits duty = record {
  mutable = duty.mutable;
  resident = duty.resident;
  cuts = duty_cuts duty.cut_above;
  turns = 2 ^ 64 - 1;
}

-- when a crew cuts that is told to, or not to, at each turn's end
abbrev pub run_cuts : Bool → Cuts
run_cuts true = EachTurn
run_cuts false = Never

-- the limits of a crew that makes a number of turns
abbrev pub run_limits : ℕ → ℕ → ℕ → Bool → Limits
run_limits mutable resident turns cut =
    record { mutable = mutable; resident = resident; cuts = run_cuts cut; turns = turns }

-- a crew serves until its stop is given, and doesn't make a number of turns
abbrev pub is_until : Mode → Bool
is_until Turns = false
is_until (Until stop) = true
