use Rattle.hl.proofs.ActLaws.{kept, kept_current, kept_fresh}
use Rattle.hl.proofs.session.Session.keep_up.Goals as goal

-- its rider has a trace
pub invariant_of-self : goal.invariant_of-self
invariant_of-self g c = kept g.row.F.Denot c.self.inside.log.now c.self.inside.pass _ c.keep_up.result c.keep_up.ensures.kept c.keep_up.ensures.refreshed c.self.invariant

pub returns-clause-did : goal.returns-clause-did
returns-clause-did g c =
    let old = c.self.inside.pass in
    rw (← c.self.view_is) (
      λ e. (kept_current g.row.F.Denot c.self.inside.log.now old _ (c.keep_up.ensures.kept e).1 c.self.invariant).1,
      λ e. let m = kept_fresh g.row.F.Denot c.self.inside.log.now old _ c.keep_up.result (c.keep_up.ensures.refreshed e) c.self.invariant in (m.0, m.1.1),
    )
