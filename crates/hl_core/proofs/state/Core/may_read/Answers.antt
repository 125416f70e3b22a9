use Rattle.std.proofs.Common.{rules}
use Rattle.hl_core.proofs.LookStands.{read_made}
use Rattle.hl_core.proofs.state.Core.may_read.Goals as goal

pub returns-clause-fault : goal.returns-clause-fault
returns-clause-fault g c = search rules

pub returns-clause-made : goal.returns-clause-made
returns-clause-made g c = read_made g.J.Tagged.tag c.args.self.now c.args.t c.args.a _ (returns-clause-fault g c)

pub returns-then-a-seen-clause-fault : goal.returns-then-a-seen-clause-fault
returns-then-a-seen-clause-fault g c = search rules

pub returns-then-a-seen-clause-made : goal.returns-then-a-seen-clause-made
returns-then-a-seen-clause-made g c = search rules

pub returns-then-a-seen-2-clause-fault : goal.returns-then-a-seen-2-clause-fault
returns-then-a-seen-2-clause-fault g c = search rules

pub returns-then-a-seen-2-clause-made : goal.returns-then-a-seen-2-clause-made
returns-then-a-seen-2-clause-made g c = search rules
