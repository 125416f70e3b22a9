use Rattle.std.proofs.Common.{rules}
use Rattle.hl_c_log.proofs.SealCalls.{seals_by}
use Rattle.hl_c_log.proofs.seal.hl_log_seal.Goals as goal

pub returns : goal.returns
returns c = seals_by _ _ _ _ c.in-Some.held.value _ c.seal-sealed.new.self c.in-Some-take.own.value _ c.seal-sealed.new.pass _ c.seal-sealed.result c.in-Some.ensures.value c.in-Some-take.ensures.value (search rules) (search rules) (search rules) (search rules) (search rules) c.seal-sealed.ensures (search rules)
