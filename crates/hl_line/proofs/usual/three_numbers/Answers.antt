use Rattle.std.proofs.Common.{rules}
use Rattle.hl_line.proofs.Whole.{no_first_of_two, no_last_of_two, no_first_of_three, no_others_of_three}
use Rattle.hl_line.proofs.usual.three_numbers.Goals as goal

pub returns-in_err-first-clause-none : goal.returns-in_err-first-clause-none
returns-in_err-first-clause-none c =
    search (rules, no_first_of_three c.args.bytes.now c.in_err-first.ensures.none)

pub returns-in_err-second-clause-none : goal.returns-in_err-second-clause-none
returns-in_err-second-clause-none c =
    let found = c.in_ok-first in
    search (rules, no_others_of_three found.first _ c.args.bytes.now found.ensures.some.0 found.ensures.some.1 (no_first_of_two _ c.in_err-second.ensures.none))

pub returns-in_err-third-clause-none : goal.returns-in_err-third-clause-none
returns-in_err-third-clause-none c =
    let found = c.in_ok-first in
    let next = c.in_ok-second in
    search (rules, no_others_of_three found.first _ c.args.bytes.now found.ensures.some.0 found.ensures.some.1 (no_last_of_two next.second _ _ next.ensures.some.0 next.ensures.some.1 c.in_err-third.ensures.none))
