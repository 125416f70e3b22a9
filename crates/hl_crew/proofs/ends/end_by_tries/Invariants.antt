use Rattle.std.proofs.Common.{◌≡◌}
use Rattle.hl_crew.proofs.TryLaws.{Trying}
use Rattle.hl_crew.proofs.ends.end_by_tries.Given as goal

-- what is ended is as it was, and as many tries were made as there were turns
abbrev pub invariant-loop : goal.invariant-loop
invariant-loop g l =
    (l.what ≡ l.initial.what)
    × Trying g.row.F.Denot l.domain l.may_cut (g.X.Ends.ends l.initial.what l.domain) l.counter l.initial.rider l.rider
