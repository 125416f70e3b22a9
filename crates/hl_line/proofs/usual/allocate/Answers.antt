use Rattle.std.proofs.Common.{length, codes, arith, ap, rules}
use Rattle.hl_line.specs.Usual.{LacksTwo}
use Rattle.hl_line.proofs.Whole.{no_first_of_two, no_last_of_two, behind, at_each}
use Rattle.hl_line.proofs.usual.allocate.Goals as goal

pub returns-in_default-clause-none : goal.returns-in_default-clause-none
returns-in_default-clause-none c rest e = absurd (grind (arith, ap length e, at_each _ _ e))

pub returns-in_err-t-clause-none : goal.returns-in_err-t-clause-none
returns-in_err-t-clause-none c =
    search (rules, behind (codes "alloc ") c.args.bytes.now LacksTwo (no_first_of_two _ c.in_err-t.ensures.none))

pub returns-in_err-n-clause-none : goal.returns-in_err-n-clause-none
returns-in_err-n-clause-none c =
    let found = c.in_ok-t in
    search (rules, behind (codes "alloc ") c.args.bytes.now LacksTwo (no_last_of_two found.t _ _ found.ensures.some.0 found.ensures.some.1 c.in_err-n.ensures.none))
