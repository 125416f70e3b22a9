use Rattle.std.proofs.Common.{length, codes, arith, ap, rules}
use Rattle.hl_line.specs.Usual.{LacksNumber}
use Rattle.hl_line.proofs.Whole.{behind, at_each}
use Rattle.hl_line.proofs.usual.refresh.Goals as goal

pub returns-in_default-clause-none : goal.returns-in_default-clause-none
returns-in_default-clause-none c rest e = absurd (grind (arith, ap length e, at_each _ _ e))

pub returns-in_err-t-clause-none : goal.returns-in_err-t-clause-none
returns-in_err-t-clause-none c =
    search (rules, behind (codes "refresh ") c.args.bytes.now (LacksNumber 10) c.in_err-t.ensures.none)
