use Rattle.std.proofs.Common.{true, false, sym, ◌∙◌}
use Rattle.std.proofs.lemmas.Result.{err_from_is_err_and}
use Rattle.hl_core.proofs.AllocateStands.{entered_at, may_allocate_slot, may_allocate_size, may_allocate_told, enters_old, enters_new}
use Rattle.hl_core.proofs.state.Core.may_allocate.Goals as goal
use Rattle.hl_core.proofs.state.Core.may_allocate.Goals.{then-is_entered_at, else-is_entered_at}

pub returns-in_err-seen : goal.returns-in_err-seen
returns-in_err-seen g c =
    let p = err_from_is_err_and c.from_residual.result c.from_residual.ensures.1 in
    rw (p.1, p.2) (may_allocate_slot g.J.Tagged.tag c.args.self.now c.args.t c.args.n c.in_err-seen.field-0.0 c.in_err-seen.ensures)

pub returns-in_err-address : goal.returns-in_err-address
returns-in_err-address g c =
    let p = err_from_is_err_and c.from_residual-in_err-address.result c.from_residual-in_err-address.ensures.1 in
    rw (p.1, p.2, sym c.self.view_is) (may_allocate_size g.J.Tagged.tag _ c.args.t c.args.n c.in_ok-seen.field-0 c.in_err-address.field-0.0 (rw (sym c.self.view_is) at c.in_ok-seen.ensures) c.in_err-address.ensures.answer)

pub returns-then-may_enter : goal.returns-then-may_enter
returns-then-may_enter g c =
    rw (sym c.self.view_is)
    (may_allocate_told g.J.Tagged.tag _ c.args.t c.args.n c.in_ok-address.address c.page_size.result c.in_ok-seen.field-0 true (rw (sym c.self.view_is) at c.in_ok-seen.ensures) c.in_ok-address.ensures.answer c.page_size.ensures.value
    (elim c.if-is_entered_at.branch [
      | then-is_entered_at w ↦ enters_old g.J.Tagged.tag _ _ c.is_entered_at.result true (sym w.if-is_entered_at.true ∙ (sym w.value-is ∙ c.if-may_enter.true)) w.if-is_entered_at.true (entered_at g.J.Tagged.tag _ c.in_ok-address.address c.page_size.result _ c.page_size.ensures.value (rw (sym c.self.view_is) at c.is_entered_at.ensures))
      | else-is_entered_at w ↦ enters_new g.J.Tagged.tag _ _ c.is_entered_at.result w.may_enter.result true (sym w.value-is ∙ c.if-may_enter.true) w.if-is_entered_at.false (entered_at g.J.Tagged.tag _ c.in_ok-address.address c.page_size.result _ c.page_size.ensures.value (rw (sym c.self.view_is) at c.is_entered_at.ensures)) w.may_enter.ensures.free
    ]))

pub returns-else-may_enter : goal.returns-else-may_enter
returns-else-may_enter g c =
    rw (sym c.self.view_is)
    (may_allocate_told g.J.Tagged.tag _ c.args.t c.args.n c.in_ok-address.address c.page_size.result c.in_ok-seen.field-0 false (rw (sym c.self.view_is) at c.in_ok-seen.ensures) c.in_ok-address.ensures.answer c.page_size.ensures.value
    (elim c.if-is_entered_at.branch [
      | then-is_entered_at w ↦ enters_old g.J.Tagged.tag _ _ c.is_entered_at.result false (sym w.if-is_entered_at.true ∙ (sym w.value-is ∙ c.if-may_enter.false)) w.if-is_entered_at.true (entered_at g.J.Tagged.tag _ c.in_ok-address.address c.page_size.result _ c.page_size.ensures.value (rw (sym c.self.view_is) at c.is_entered_at.ensures))
      | else-is_entered_at w ↦ enters_new g.J.Tagged.tag _ _ c.is_entered_at.result w.may_enter.result false (sym w.value-is ∙ c.if-may_enter.false) w.if-is_entered_at.false (entered_at g.J.Tagged.tag _ c.in_ok-address.address c.page_size.result _ c.page_size.ensures.value (rw (sym c.self.view_is) at c.is_entered_at.ensures)) w.may_enter.ensures.free
    ]))
