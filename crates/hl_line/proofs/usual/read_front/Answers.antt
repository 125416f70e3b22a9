use Rattle.std.proofs.Common.{Some, ap}
use Rattle.hl_line.proofs.Sights.{line_count}
use Rattle.hl_line.proofs.usual.read_front.Goals as goal

pub returns-clause-usual : goal.returns-clause-usual
returns-clause-usual c l rest usual here many =
    let found = c.in_ok-step in
    ap Some (line_count found.step found.rest.now c.args.bytes.now found.ensures.some.0 found.ensures.some.1 l rest usual here)
