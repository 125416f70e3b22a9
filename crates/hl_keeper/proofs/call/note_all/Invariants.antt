use Rattle.std.proofs.Common.{◌≡◌, take}
use Rattle.hl_keeper.specs.Journals.{with_steps}
use Rattle.hl_keeper.proofs.call.note_all.Given as goal

-- the steps of the turns that are over stand behind the journal
abbrev pub invariant-loop-step : goal.invariant-loop-step
invariant-loop-step l = l.journal ≡ with_steps (take l.step-index l.steps) l.fn.journal
