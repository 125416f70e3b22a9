use Rattle.std.proofs.Common.{refl}
use Rattle.hl_log.proofs.StandLaws.{stands_looked, log_looked}
use Rattle.hl_log.proofs.log.Log.begin.Goals as goal

pub invariant_of-self : goal.invariant_of-self
invariant_of-self c = log_looked _ _ c.args.pass.now c.self.invariant c.catch_up.ensures.standing c.catch_up.ensures.sizes (record { shared = refl; master = refl; stamps = refl })

pub returns-clause-standing : goal.returns-clause-standing
returns-clause-standing c = stands_looked _ _ _ c.args.pass.now c.self.view_is c.catch_up.ensures.standing refl
