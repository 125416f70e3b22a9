use Rattle.example_layout.proofs.Walks.{step_on}
use Rattle.example_layout.proofs.records.Records.next.Goals as goal

pub returns-in-Some-clause-next : goal.returns-in-Some-clause-next
returns-in-Some-clause-next c =
    let s = c.args.self.now in let l = c.loop-self.self in
    step_on s.base s.words.now l.words.now s.at l.at _ l.base _ c.loop-self.invariant.1 c.loop-self.invariant.2 c.loop-self.invariant.0 (rw c.in-Some.is at c.in_ok-count.ensures.piece)

pub loop-self-preserved : goal.loop-self-preserved
loop-self-preserved c =
    let s = c.args.self.now in let l = c.loop-self.self in (
      step_on s.base s.words.now l.words.now s.at l.at _ l.base _ c.loop-self.invariant.1 c.loop-self.invariant.2 c.loop-self.invariant.0 (rw c.in_default.is at c.in_ok-count.ensures.piece),
      c.loop-self.invariant.1,
      c.loop-self.invariant.2,
    )
