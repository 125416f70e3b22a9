use Rattle.std.proofs.Common.{◌≡◌, [], ◌∷◌}
use Rattle.hl_model.specs.declared.action.Kind.TheVariants.{Settle}
use Rattle.test_parts.proofs.drain.long_waiting_action.Given as goal

-- no action is pending, the first one waits for its done, and the last take visited one place
abbrev pub invariant-loop-c : goal.invariant-loop-c
invariant-loop-c g l =
    l.drain ≡ record { limit = 3; pending = []; taken = record { ticket = 1; kind = Settle 8 } ∷ []; turns = 1 }
