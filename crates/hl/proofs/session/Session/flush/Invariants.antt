use Rattle.std.proofs.Common.{◌≡◌, false}
use Rattle.hl_crew.specs.Goes.{Followed}
use Rattle.hl.specs.Flushes.{FlushNext}
use Rattle.hl.specs.Traces.{OnlyPads}
use Rattle.hl.proofs.session.Session.flush.Given as goal

-- as many rounds were made as there were turns, and only calls and pads came of them
abbrev pub invariant-loop : goal.invariant-loop
invariant-loop g l =
    (l.self.log ≡ l.fn.self.log) × (l.self.beside ≡ l.fn.self.beside)
    × Followed (FlushNext g.row.F.Denot g.F.Task.gives g.P.Promise.keeps l.address) l.counter (false, l.fn.self) (l.asked, l.self)
    × OnlyPads l.fn.self l.self
