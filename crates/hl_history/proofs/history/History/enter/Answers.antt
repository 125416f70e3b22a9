use Rattle.std.proofs.Common.{sym, ap, ◌∙◌, arith}
use Rattle.hl_history.specs.States.{record_of}
use Rattle.hl_history.proofs.Steps.{joins, looks}
use Rattle.hl_history.proofs.Joined.{of_badge, with_one, saw_one, after_look}
use Rattle.hl_history.proofs.history.History.enter.Goals as goal

pub join_seat-requires : goal.join_seat-requires
join_seat-requires g c =
    let h = c.self.invariant in
    let s = c.recorder.invariant in
    let d = c.calls.invariant in
    let was = c.replace.ensures.value in
    let its = c.into_seat-seat.ensures in
    let w = of_badge c.calls.inside.badge.views c.into_seat-seat.result.me.0 d.0 (sym (ap (λ b. b.views) was) ∙ its.2) in
    (s.1 ∙ sym h.1, its.0 ∙ ap (λ b. b.table_id) was ∙ d.1 ∙ sym h.1, its.3, omega (arith, h.0.words_are), joins c.self.inside.table.shared.key c.recorder.inside.seat.id c.recorder.inside.seat.me.0 c.into_seat-seat.result.id c.into_seat-seat.result.me.0 (record_of c.calls.inside.badge.views) s.0.first w)

pub load-requires : goal.load-requires
load-requires g c =
    let h = c.self.invariant in
    let list = c.recorder.inside.seat.me.0.list in
    let d = record_of c.calls.inside.badge.views in
    let w = of_badge c.calls.inside.badge.views c.into_seat-seat.result.me.0 c.calls.invariant.0 (sym (ap (λ b. b.views) c.replace.ensures.value) ∙ c.into_seat-seat.ensures.2) in
    let e = c.join_seat.ensures in
    let is = with_one list d c.recorder.inside.seat.id c.join_seat.new.seat.id c.recorder.inside.seat.me c.join_seat.new.seat.me c.into_seat-seat.result.me.0 c.recorder.invariant.0 w e.1 e.2 in
    (e.0 ∙ c.recorder.invariant.1 ∙ sym h.1, omega (arith, h.0.words_are), looks c.self.inside.table.shared.key c.self.inside.table.shared.table_id.slots c.join_seat.new.seat.id c.join_seat.new.seat.me list _ is)

pub enter_as-requires-clause-seat : goal.enter_as-requires-clause-seat
enter_as-requires-clause-seat g c =
    let list = c.recorder.inside.seat.me.0.list in
    let d = record_of c.calls.inside.badge.views in
    let w = of_badge c.calls.inside.badge.views c.into_seat-seat.result.me.0 c.calls.invariant.0 (sym (ap (λ b. b.views) c.replace.ensures.value) ∙ c.into_seat-seat.ensures.2) in
    let e = c.join_seat.ensures in
    let is = with_one list d c.recorder.inside.seat.id c.join_seat.new.seat.id c.recorder.inside.seat.me c.join_seat.new.seat.me c.into_seat-seat.result.me.0 c.recorder.invariant.0 w e.1 e.2 in
    (list, d, after_look list _ c.join_seat.new.seat.id c.load.new.seat.id c.join_seat.new.seat.me c.load.new.seat.me is c.load.ensures.1 c.load.ensures.2.0)

pub returns-clause-rises : goal.returns-clause-rises
returns-clause-rises g c =
    let list = c.recorder.inside.seat.me.0.list in
    let d = record_of c.calls.inside.badge.views in
    let w = of_badge c.calls.inside.badge.views c.into_seat-seat.result.me.0 c.calls.invariant.0 (sym (ap (λ b. b.views) c.replace.ensures.value) ∙ c.into_seat-seat.ensures.2) in
    let e = c.join_seat.ensures in
    let is = with_one list d c.recorder.inside.seat.id c.join_seat.new.seat.id c.recorder.inside.seat.me c.join_seat.new.seat.me c.into_seat-seat.result.me.0 c.recorder.invariant.0 w e.1 e.2 in
    let met = saw_one list d c.join_seat.new.seat.id c.join_seat.new.seat.me is c.load.ensures.2.1 in
    rw (← c.recorder.view_is, ← c.calls.view_is) met
