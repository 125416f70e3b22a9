-- The lag as numbers.
use Rattle.std.specs.Prelude.{ℕ, ◌&&◌, nat_lt, nat_le, if◌then◌else◌, option_map, unwrap_or, List, [], ◌∷◌, map, length, slice_get, replicate}
use Rattle.hl_model.specs.declared.step.Step.{Step}
use Rattle.hl_model.specs.declared.step.Step.TheVariants.{Raise, Settle, Shift, Close}
use Rattle.hl_model.specs.declared.view.Six.{Six}
use Rattle.hl_model.specs.Sizes.{Sizes}
use Rattle.hl_lag.specs.Lag.{lag_of}
use Rattle.hl_answers.specs.declared.lag.LagOutcome.{LagOutcome}
use Rattle.hl_answers.specs.declared.lag.LagStep.{LagStep}

-- a place of a lag with no step
abbrev pub no_step : LagStep
no_step = record { kind = 0; address = 0 }

-- a step of a lag: 1 a raise, 2 a settle, 3 a shift, 4 a close, and the address to which the first and the
-- third move their offset; a lag has no others
abbrev pub lag_step : Step → LagStep
lag_step (Raise x) = record { kind = 1; address = x }
lag_step Settle = record { kind = 2; address = 0 }
lag_step (Shift x) = record { kind = 3; address = x }
lag_step Close = record { kind = 4; address = 0 }
lag_step _ = no_step

-- the step at a place of a lag, if there is one
abbrev pub step_at : List Step → ℕ → LagStep
step_at steps place = unwrap_or (option_map lag_step (slice_get steps place)) no_step

-- how many steps a lag has, and the step at each place
abbrev pub lag_outcome : List Step → LagOutcome
lag_outcome steps = record {
  number = 0;
  count = length steps;
  steps = map (step_at steps) (0 ∷ 1 ∷ 2 ∷ 3 ∷ []);
}

-- a refusal
abbrev pub no_lag : ℕ → LagOutcome
no_lag number = record { number = number; count = 0; steps = replicate 4 no_step }

-- what is told of the lag at these offsets, for at least one mutable page, at least as many resident ones,
-- and a frame more than these; else out of range
unfoldable pub lag_answer : Sizes → Six → ℕ → ℕ → LagOutcome
lag_answer sizes six mutable resident =
    if nat_le 1 mutable && nat_le mutable resident && nat_lt resident sizes.frames
    then lag_outcome (lag_of sizes.page_size six mutable resident)
    else no_lag 254
