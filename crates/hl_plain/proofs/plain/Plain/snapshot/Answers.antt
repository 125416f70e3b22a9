use Rattle.std.proofs.Common.{◌∙◌, ap}
use Rattle.hl_plain.specs.Shown.{snapshot_at}
use Rattle.hl_plain.proofs.BehindLaws.{snapshot_is}
use Rattle.hl_plain.proofs.plain.Plain.snapshot.Goals as goal

pub returns-clause-behind : goal.returns-clause-behind
returns-clause-behind c = λ A f. c.snapshot_at.ensures ∙ ap snapshot_at c.present.ensures ∙ snapshot_is c.args.self.now A f
