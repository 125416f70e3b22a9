use Rattle.std.proofs.Common.{refl}
use Rattle.hl_domain.proofs.DomainLaws.{may_ask, met_held, noted_with, only_asked, quiet_left}
use Rattle.hl_domain.proofs.domain.Domain.holders_by.Goals as goal

pub note_quiet-requires : goal.note_quiet-requires
note_quiet-requires g c = may_ask (only_asked c.deref_mut-2.invariant)

pub invariant_of-deref_mut : goal.invariant_of-deref_mut
invariant_of-deref_mut g c = noted_with (only_asked c.deref_mut-2.invariant) c.note_quiet.ensures.keeper c.note_quiet.ensures.list

pub returns : goal.returns
returns g c = record { met = quiet_left (only_asked (met_held c.lock-guard.ensures c.deref_mut.ensures.value c.deref_mut-2.view_is)) refl c.note_quiet.ensures.rider c.note_quiet.ensures.rises (refl, λ A stands. (c.holders-answer.ensures.ticket A stands, c.holders-answer.ensures.row A stands)) }
