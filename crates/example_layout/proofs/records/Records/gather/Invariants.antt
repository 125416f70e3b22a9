use Rattle.std.proofs.Common.{◌≡◌, ◌-◌, length}
use Rattle.example_layout.specs.Pieces.{IsGathered}
use Rattle.example_layout.proofs.records.Records.gather.Given as goal

-- those up to here were put there
abbrev pub invariant-loop-entry : goal.invariant-loop-entry
invariant-loop-entry l = IsGathered l.fn.self.base l.fn.self.words.now l.fn.self.at l.self.at l.fn.found.items l.found.items × (l.self.words.now ≡ l.fn.self.words.now) × (l.self.base ≡ l.fn.self.base)

abbrev pub decreases-loop-entry : goal.decreases-loop-entry
decreases-loop-entry l = length l.self.words.now - l.self.at
