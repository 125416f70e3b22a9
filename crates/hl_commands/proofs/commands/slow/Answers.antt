use Rattle.hl_commands.proofs.StatusLaws.{answered}
use Rattle.hl_commands.proofs.commands.slow.Goals as goal

pub returns-clause-answered : goal.returns-clause-answered
returns-clause-answered g c = answered _ _ _ _ _ _ _ _ _ c.serve_slowly-ended.ensures c.of.ensures.kept c.status_of.ensures
