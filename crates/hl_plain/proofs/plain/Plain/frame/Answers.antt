use Rattle.std.proofs.Common.{◌∙◌, ap}
use Rattle.hl_plain.specs.Shown.{frame_at}
use Rattle.hl_plain.proofs.BehindLaws.{frame_is}
use Rattle.hl_plain.proofs.plain.Plain.frame.Goals as goal

pub returns-clause-behind : goal.returns-clause-behind
returns-clause-behind c = λ A f. c.frame_at.ensures ∙ ap (λ b. frame_at b c.args.f) c.present.ensures ∙ frame_is c.args.self.now A c.args.f f c.requires
