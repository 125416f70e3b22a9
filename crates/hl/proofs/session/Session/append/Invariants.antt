use Rattle.std.proofs.Common.{◌≡◌, ◌≤◌}
use Rattle.hl_crew.specs.Goes.{Followed}
use Rattle.hl.specs.Records.{PlacesNext}
use Rattle.hl.specs.Sessions.{tail_seen}
use Rattle.hl.proofs.RecordActs.{TriedInVain}
use Rattle.hl.proofs.session.Session.append.Given as goal

-- as many places were in vain as there were turns
abbrev pub invariant-loop : goal.invariant-loop
invariant-loop g l =
    (l.self.log ≡ l.fn.self.log) × (l.self.beside ≡ l.fn.self.beside)
    × Followed (PlacesNext g.row.F.Denot l.fn.self.log l.words) l.counter l.fn.self.pass l.self.pass
    × TriedInVain l.counter l.words l.fn.self l.self
    × (tail_seen l.fn.self ≤ tail_seen l.self)
