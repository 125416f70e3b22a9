use Rattle.std.proofs.Common.{◌≡◌, ◌-◌, [], length}
use Rattle.example_layout.specs.Pieces.{Yields}
use Rattle.example_layout.proofs.records.Records.next.Given as goal

-- no live record was passed
abbrev pub invariant-loop-self : goal.invariant-loop-self
invariant-loop-self l = Yields l.fn.self.base l.fn.self.words.now l.fn.self.at l.self.at [] × (l.self.words.now ≡ l.fn.self.words.now) × (l.self.base ≡ l.fn.self.base)

abbrev pub decreases-loop-self : goal.decreases-loop-self
decreases-loop-self l = length l.self.words.now - l.self.at
