use Rattle.std.proofs.Common.{rules}
use Rattle.hl_line.proofs.Growing.{Grows-taken}
use Rattle.hl_line.proofs.stream.put.Goals as goal

pub loop-rest-preserved : goal.loop-rest-preserved
loop-rest-preserved g c =
    Grows-taken _ _ _ c.args.bytes.now c.loop-rest.rest.now c.in-Ok.taken c.loop-rest.invariant c.in-Ok.ensures.bytes

pub returns-in-Ok-eq0-clause-ok : goal.returns-in-Ok-eq0-clause-ok
returns-in-Ok-eq0-clause-ok g c = search rules

pub returns-in-Ok-eq0-2-clause-ok : goal.returns-in-Ok-eq0-2-clause-ok
returns-in-Ok-eq0-2-clause-ok g c = search rules
