use Rattle.std.proofs.Common.{◌≡◌}
use Rattle.hl_crew.specs.Goes.{Going}
use Rattle.hl_crew.specs.Pouches.{load_count}
use Rattle.hl_crew.specs.Turns.{send_of, SendsPage}
use Rattle.hl_crew.proofs.run.Run.send_pages.Given as goal

-- a page was sent in each turn, and these are the pages that it holds
abbrev pub invariant-loop : goal.invariant-loop
invariant-loop g l =
    Going (SendsPage g.row.F.Denot l.self.domain.now) l.counter
    (send_of l.initial.rider l.initial.pouch l.initial.sent) (send_of l.rider l.pouch l.sent)
    × (l.sent ≡ load_count l.pouch) × (l.sent ≡ l.counter)
