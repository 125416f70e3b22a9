use Rattle.std.proofs.Common.{arith}
use Rattle.hl_line.proofs.Digits.{first_digit}
use Rattle.hl_line.proofs.usual.numeral.Goals as goal

pub returns-then-first-eq0-clause-value : goal.returns-then-first-eq0-clause-value
returns-then-first-eq0-clause-value c =
    first_digit c.args.bytes.now 0 c.requires.some (omega arith) (omega (arith, c.requires.here, c.if-first-eq0.true))
