use Rattle.std.proofs.Common.{◌≡◌, ◌*◌, sym, ap, ◌∙◌, subst₂}
use Rattle.hl_domain.specs.Domains.{DomainState, IsHeld}
use Rattle.hl_domain.proofs.DomainLaws.{ending_of}
use Rattle.hl_domain.proofs.domain.Domain.end.Goals as goal

pub returns-in-Ok-clause-ending : goal.returns-in-Ok-clause-ending
returns-in-Ok-clause-ending g c =
    let parts = c.into_parts-keeper.result in
    let p = c.into_parts-keeper.ensures in
    let held = subst₂ (λ k A. IsHeld (record { sizes = g.L.Realm.sizes; stamp = g.L.Realm.stamp; limit = g.L.Realm.limit }) (record { keeper = k; list = A })) (sym p.0) (sym p.1) p.2 in
    let h = c.in-Ok.ensures in
    let left = h.ending in
    let sizes : g.L.Realm.sizes ≡ c.args.self.sizes = sym c.self.invariant.0 ∙ ap (λ (z : DomainState). z.sizes) c.self.view_is in
    ending_of c.args.self.sizes c.args.riders.items parts.1 parts.0 c.in-Ok.ending held.at.stands (held.at.sizes_are ∙ sizes) left.kept.0 left.kept.1 left.kept.2 left.kept.3 left.quantities left.sum h.list held.noted (rw left.cells left.words) h.tied (left.cells ∙ c.self.invariant.2 ∙ ap (λ (z : DomainState). z.sizes.frames * z.sizes.page_size) c.self.view_is)
