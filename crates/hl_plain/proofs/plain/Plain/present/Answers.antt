use Rattle.std.proofs.Common.{◌∙◌, ap}
use Rattle.hl_plain.specs.Histories.{History}
use Rattle.hl_plain.specs.Kept.{history_of, present_by}
use Rattle.hl_model.specs.AfterReplies.{base_after}
use Rattle.hl_plain.proofs.NearLaws.{present_by_is}
use Rattle.hl_plain.proofs.plain.Plain.present.Goals as goal

pub returns : goal.returns
returns c =
    let near = c.self.inside.near in
    c.present.ensures ∙ ap (present_by near) c.deref.ensures.value
    ∙ present_by_is (history_of c.self.inside) near c.self.invariant.history c.self.invariant.at
    ∙ ap (λ (h : History). base_after h.base h.steps) c.self.view_is
