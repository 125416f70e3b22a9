use Rattle.std.proofs.Common.{sym}
use Rattle.hl_line.proofs.Reading.{line_of-only}
use Rattle.hl_judge.proofs.line.read.Goals as goal

pub returns-in-Some-clause-exact : goal.returns-in-Some-clause-exact
returns-in-Some-clause-exact c = sym (line_of-only c.args.bytes.now c.in-Some.line c.in-Some.ensures.0 c.in-Some.ensures.1)
