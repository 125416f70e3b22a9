use Rattle.hl.proofs.WrittenLaws.{all_is_written}
use Rattle.hl.proofs.laws.all_is_written.Goals as goal

pub returns : goal.returns
returns g c = all_is_written g.row.P-Job.Denot (g.P.Work.took c.args._work.now)
