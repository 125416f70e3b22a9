-- What a take answers: the stamp of its domain, and the firing of the action.
use Rattle.std.specs.Prelude.{ℕ, Result, Ok, Err, List}
use Rattle.hl_model.specs.declared.fault.Fault.{Fault}
use Rattle.hl_model.specs.declared.step.Step.{Step}
use Rattle.hl_model.specs.Epochs.{safe_epoch}
use Rattle.hl_model.specs.Actions.{front}
use Rattle.hl_action.specs.Firings.{FiringRecord}
use Rattle.hl_action.specs.Jobs.{ReadyRecord}
use Rattle.hl_keeper.specs.Keepers.{KeeperState}

-- where a taken action comes from, and its firing
pub record TakenFrom : Type 0 where
  pub origin : ℕ
  pub firing : FiringRecord

-- that of a ready action, without its job
abbrev pub ready_reply : {F : Type 0} → Result (ReadyRecord F) Fault → Result TakenFrom Fault
ready_reply (Ok ready) = Ok (record { origin = ready.origin; firing = ready.firing })
ready_reply (Err fault) = Err fault

-- that of a take after A: the front, at the safe epoch
abbrev pub taken_from : {F : Type 0} → KeeperState F → List Step → TakenFrom
taken_from keeper A =
    record {
      origin = keeper.stamp;
      firing = record { ticket = front A; safe = safe_epoch keeper.core.sizes.slots A };
    }
