use Rattle.std.proofs.Common.{◌∙◌, ap}
use Rattle.std.specs.Prelude.{option_map}
use Rattle.hl_model.specs.declared.slot.Slot.{Slot}
use Rattle.hl_model.specs.Bases.{slot_in}
use Rattle.hl_plain.proofs.BehindLaws.{view_is}
use Rattle.hl_plain.proofs.plain.Plain.view.Goals as goal

pub returns-clause-behind : goal.returns-clause-behind
returns-clause-behind c = λ A f lt.
    c.view_at.ensures ∙ ap (λ b. option_map (λ (slot : Slot). slot.view) (slot_in b c.args.t)) c.present.ensures ∙ view_is c.args.self.now A c.args.t f lt
