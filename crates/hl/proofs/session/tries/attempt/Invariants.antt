use Rattle.std.specs.Fn.{CalledAtMut}
use Rattle.hl_crew.specs.Goes.{Followed}
use Rattle.hl.specs.Attempts.{TriesNext}
use Rattle.hl.proofs.session.tries.attempt.Given as goal

-- the operation may be called again, and as many tries were in vain as there were turns
abbrev pub invariant-loop : goal.invariant-loop
invariant-loop g l =
    goal.O-IsAlwaysCallable g l.operation
    × Followed (TriesNext (CalledAtMut g.O.FnMut) g.X.Curable.cures g.X.Curable.tells g.S.Helping.helps) l.counter (l.fn.operation, l.fn.session) (l.operation, l.session)
