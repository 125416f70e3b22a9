use Rattle.std.proofs.Common.{sym, ap, ◌∙◌}
use Rattle.hl_model.specs.Bases.{Base, base_of}
use Rattle.hl_laws.proofs.base.Base.copied.Goals as goal

pub renew-requires-clause-sizes : goal.renew-requires-clause-sizes
unfolding base_of
renew-requires-clause-sizes c =
    sym (ap (λ (b : Base). b.sizes) c.self.view_is) ∙ sym (ap (λ (b : Base). b.sizes) c.in_ok-base.ensures.ok)
