use Rattle.std.proofs.Common.{sym, ap, ◌∙◌}
use Rattle.std.proofs.lemmas.List.{map-set}
use Rattle.hl_core.proofs.views.Views.set.Goals as goal

pub returns : goal.returns
returns c = rw (sym c.self.view_is) (map-set (λ r. r.view) c.self.inside.rows.items c.args.t _)
