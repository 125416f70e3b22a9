use Rattle.std.proofs.Common.{ap, ◌∙◌}
use Rattle.hl_core.proofs.ViewRows.{map-replicate}
use Rattle.hl_core.proofs.views.Views.open.Goals as goal

pub returns-clause-ok : goal.returns-clause-ok
returns-clause-ok c = rw c.in_ok-filled.ensures.items (map-replicate (λ r. r.view) c.args.slots _)
