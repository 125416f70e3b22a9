use Rattle.std.proofs.Common.{arith}
use Rattle.hl_domain.proofs.DomainLaws.{cut_held, may_ask, met_held, noted_with, quiet_left}
use Rattle.hl_domain.proofs.domain.Domain.cut.Goals as goal

pub note_quiet-requires : goal.note_quiet-requires
note_quiet-requires g c = let e = c.cut-answer.ensures in may_ask (cut_held c.deref_mut-2.invariant e.core e.stamp e.limit e.standing (omega (arith, e.cut)) e.counts.1)

pub invariant_of-deref_mut : goal.invariant_of-deref_mut
invariant_of-deref_mut g c =
    let e = c.cut-answer.ensures in
    noted_with (cut_held c.deref_mut-2.invariant e.core e.stamp e.limit e.standing (omega (arith, e.cut)) e.counts.1) c.note_quiet.ensures.keeper c.note_quiet.ensures.list

pub returns : goal.returns
returns g c =
    let e = c.cut-answer.ensures in
    let m = cut_held (met_held c.lock-guard.ensures c.deref_mut.ensures.value c.deref_mut-2.view_is) e.core e.stamp e.limit e.standing (omega (arith, e.cut)) e.counts.1 in
    record { met = quiet_left m e.rider c.note_quiet.ensures.rider c.note_quiet.ensures.rises (e.count, e.journal, e.cut, e.core, e.limit, e.standing) }
