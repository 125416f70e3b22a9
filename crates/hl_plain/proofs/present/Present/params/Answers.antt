use Rattle.std.proofs.Common.{◌≡◌, length, subst}
use Rattle.hl_model.specs.Bases.{Base}
use Rattle.hl_plain.proofs.PresentLaws.{slots-length, frames-length}
use Rattle.hl_plain.proofs.present.Present.params.Goals as goal

pub returns-clause-slots : goal.returns-clause-slots
returns-clause-slots c = subst (λ (v : Base). length v.slots ≡ v.sizes.slots) c.self.view_is (slots-length c.self.inside.base.now c.self.inside.steps.now)

pub returns-clause-frames : goal.returns-clause-frames
returns-clause-frames c = subst (λ (v : Base). length v.frames ≡ v.sizes.frames) c.self.view_is (frames-length c.self.inside.base.now c.self.inside.steps.now)
