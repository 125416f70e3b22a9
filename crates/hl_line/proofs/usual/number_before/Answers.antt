use Rattle.std.proofs.Common.{rules, length, arith, ap}
use Rattle.hl_line.proofs.Whole.{no_number, other_end, at_each}
use Rattle.hl_line.proofs.usual.number_before.Goals as goal

pub returns-in_err-number-clause-none : goal.returns-in_err-number-clause-none
returns-in_err-number-clause-none c = search (rules, no_number 32 c.args.bytes.now c.in_err-number.ensures.none)

pub returns-in_default-clause-none : goal.returns-in_default-clause-none
returns-in_default-clause-none c =
    let found = c.in_ok-number in
    other_end found.number 32 found.rest.now c.args.bytes.now found.ensures.some.0 found.ensures.stop (omega arith) found.ensures.some.1
    (λ y e. grind (arith, ap length e, at_each _ _ e))
