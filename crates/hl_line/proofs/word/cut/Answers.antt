use Rattle.hl_line.proofs.Words.{cut_at, uncut}
use Rattle.hl_line.proofs.word.cut.Goals as goal

pub returns-in-Some-clause-front : goal.returns-in-Some-clause-front
returns-in-Some-clause-front c = (cut_at c.args.bytes.now c.in-Some.end cc).0

pub returns-in-Some-clause-back : goal.returns-in-Some-clause-back
returns-in-Some-clause-back c = (cut_at c.args.bytes.now c.in-Some.end cc).1

pub returns-in-None-clause-front : goal.returns-in-None-clause-front
returns-in-None-clause-front c = (uncut c.args.bytes.now cc).0

pub returns-in-None-clause-back : goal.returns-in-None-clause-back
returns-in-None-clause-back c = (uncut c.args.bytes.now cc).1
