use Rattle.std.proofs.Common.{rules}
use Rattle.hl_c.proofs.log.written.Goals as goal

pub returns : goal.returns
returns c = search (rules, c.may_write.ensures.made c.args._value)
