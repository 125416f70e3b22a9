use Rattle.std.proofs.Common.{◌≡◌, ℕ}
use Rattle.hl_crew.specs.Goes.{Followed}
use Rattle.hl.specs.Overs.{HelpsNext}
use Rattle.hl.specs.Traces.{OnlyMeets}
use Rattle.hl.proofs.session.Session.wait_until_over.Given as goal

-- the session made some rounds, in the slot, of the log and beside whom it was
abbrev pub invariant-loop : goal.invariant-loop
invariant-loop g l =
    (goal.iterator-loop g).can_next l.iterator' × (goal.iterator-loop g).is_finite l.iterator'
    × (l.self.log ≡ l.fn.self.log) × (l.self.pass.slot ≡ l.fn.self.pass.slot) × (l.self.beside ≡ l.fn.self.beside)
    × ((rounds : ℕ) × Followed (HelpsNext g.row.F.Denot l.fn.self.log l.fn.self.beside.cuts g.F.Task.gives g.P.Promise.keeps l.fn.ticket) rounds l.fn.self.pass l.self.pass)
    × OnlyMeets l.fn.self l.self
