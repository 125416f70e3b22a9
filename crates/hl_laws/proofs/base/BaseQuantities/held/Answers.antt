use Rattle.std.proofs.Common.{ap, ◌∙◌, arith, get_or}
use Rattle.std.specs.Prelude.{None}
use Rattle.hl_model.specs.Bases.{Base}
use Rattle.hl_laws.specs.BaseRows.{base_in}
use Rattle.hl_laws.proofs.BaseRooms.{length-frames, same_element}
use Rattle.hl_laws.proofs.base.BaseQuantities.held.Goals as goal

pub index-requires : goal.index-requires
index-requires c =
    let here = c.self.inside in
    omega (arith, c.requires, length-frames (base_in here) c.self.invariant.base, ap (λ (b : Base). b.sizes.frames) c.self.view_is, here.frames.ok.0)

pub returns : goal.returns
returns c =
    let here = c.self.inside in
    let rooms = length-frames (base_in here) c.self.invariant.base in
    c.index.ensures
    ∙ same_element here.frames.items c.args.f c.index.result.now None (omega (arith, c.requires, rooms, ap (λ (b : Base). b.sizes.frames) c.self.view_is))
    ∙ ap (λ (b : Base). get_or b.frames c.args.f None) c.self.view_is
