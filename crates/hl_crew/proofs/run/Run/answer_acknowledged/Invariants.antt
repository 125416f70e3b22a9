use Rattle.hl_crew.specs.Flushes.{hold_of, TellsNext}
use Rattle.hl_crew.specs.Goes.{Going}
use Rattle.hl_crew.proofs.run.Run.answer_acknowledged.Given as goal

-- as many acknowledgements were answered as there were turns
abbrev pub invariant-loop : goal.invariant-loop
invariant-loop g l =
    Going (TellsNext g.row.F.Denot l.self.domain.now) l.counter
    (hold_of l.initial.own l.initial.pouch) (hold_of l.own l.pouch)
