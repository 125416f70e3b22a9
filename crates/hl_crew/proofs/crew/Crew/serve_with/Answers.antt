use Rattle.hl_crew.proofs.StateLaws.{nothing_done}
use Rattle.hl_crew.proofs.crew.Crew.serve_with.Goals as goal

-- a crew whose duty is for other frames did nothing
pub returns-then-frames-clause-in_part : goal.returns-then-frames-clause-in_part
returns-then-frames-clause-in_part g c = nothing_done _ _ _ _ _ _ _ _ _
