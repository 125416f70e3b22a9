use Rattle.std.proofs.Common.{◌∙◌, ap}
use Rattle.hl_model.specs.Bases.{Base}
use Rattle.hl_plain.proofs.BehindLaws.{waiting_is}
use Rattle.hl_plain.proofs.plain.Plain.pending.Goals as goal

pub returns-clause-behind : goal.returns-clause-behind
returns-clause-behind c = λ A f. c.waiting.ensures ∙ ap (λ (b : Base). b.waiting) c.present.ensures ∙ waiting_is c.args.self.now A f
