use Rattle.hl_judge.proofs.PartLaws.{Past}
use Rattle.hl_judge.proofs.parts.parted.Given as goal

-- no ` -> ` begins before
abbrev pub invariant-loop-at : goal.invariant-loop-at
invariant-loop-at l = Past l.bytes l.at
