use Rattle.std.proofs.Common.{rules, sym, arith}
use Rattle.std.proofs.lemmas.Result.{err_from_is_err_and}
use Rattle.hl_core.proofs.SlotStands.{still_stands}
use Rattle.hl_core.proofs.AllocateStands.{entered_at, slot_refused, size_refused, enter_next, enter_fits, enter_refused, seen_fits, entered_as, entered_before, entered_now, allocate_ok}
use Rattle.hl_core.proofs.state.Core.allocate.Goals as goal
use Rattle.hl_core.proofs.state.Core.allocate.Goals.{then-not-is_entered_at+in_ok-enter, else-not-is_entered_at}

pub returns-in_err-seen-clause-made : goal.returns-in_err-seen-clause-made
returns-in_err-seen-clause-made g c =
    let p = err_from_is_err_and c.from_residual.result c.from_residual.ensures.1 in
    rw (p.1, p.2) (slot_refused g.J.Tagged.tag c.args.self.now c.args.t c.args.n c.in_err-seen.field-0.0 c.in_err-seen.ensures)

pub returns-in_err-address-clause-made : goal.returns-in_err-address-clause-made
returns-in_err-address-clause-made g c =
    let p = err_from_is_err_and c.from_residual-in_err-address.result c.from_residual-in_err-address.ensures.1 in
    rw (p.1, p.2, sym c.self.view_is) (size_refused g.J.Tagged.tag _ c.args.t c.args.n c.in_ok-seen.seen c.in_err-address.field-0.0 (rw (sym c.self.view_is) at c.in_ok-seen.ensures) c.in_err-address.ensures.answer)

pub enter-requires-clause-next : goal.enter-requires-clause-next
enter-requires-clause-next g c =
    enter_next g.J.Tagged.tag _ c.args.n c.in_ok-address.address c.page_size.result c.self.invariant c.in_ok-address.ensures.answer c.page_size.ensures.value (entered_as g.J.Tagged.tag _ _ _ _ c.if-not-is_entered_at.true (entered_at g.J.Tagged.tag _ c.in_ok-address.address c.page_size.result _ c.page_size.ensures.value (rw (sym c.self.view_is) at c.is_entered_at.ensures)))

pub enter-requires-clause-within_space : goal.enter-requires-clause-within_space
enter-requires-clause-within_space g c =
    enter_fits g.J.Tagged.tag _ c.args.n c.in_ok-address.address c.page_size.result c.self.invariant c.in_ok-address.ensures.answer c.page_size.ensures.value

pub returns-in_err-enter-clause-made : goal.returns-in_err-enter-clause-made
returns-in_err-enter-clause-made g c =
    let p = err_from_is_err_and c.from_residual-in_err-enter.result c.from_residual-in_err-enter.ensures.1 in
    rw (p.1, p.2, sym c.self.view_is)
    (enter_refused g.J.Tagged.tag _ c.args.t c.args.n c.in_ok-address.address c.page_size.result c.in_ok-seen.seen c.in_err-enter.field-0.0 c.enter.new.self.pages (rw (sym c.self.view_is) at c.in_ok-seen.ensures) c.in_ok-address.ensures.answer c.page_size.ensures.value (entered_as g.J.Tagged.tag _ _ _ _ c.if-not-is_entered_at.true (entered_at g.J.Tagged.tag _ c.in_ok-address.address c.page_size.result _ c.page_size.ensures.value (rw (sym c.self.view_is) at c.is_entered_at.ensures))) c.in_err-enter.ensures.answer c.in_err-enter.ensures.pages)

pub allocate_at-requires : goal.allocate_at-requires
allocate_at-requires g c =
    elim c.if-not-is_entered_at.branch [
      | then-not-is_entered_at+in_ok-enter w ↦ rw w.self-inside-is c.in_ok-address.ensures.answer
      | else-not-is_entered_at w ↦ rw w.self-inside-is c.in_ok-address.ensures.answer
    ]

pub set-requires : goal.set-requires
set-requires g c =
    elim c.if-not-is_entered_at.branch [
      | then-not-is_entered_at+in_ok-enter w ↦ rw w.self-inside-is (seen_fits g.J.Tagged.tag _ c.args.t c.in_ok-seen.seen c.self.invariant (rw (sym c.self.view_is) at c.in_ok-seen.ensures))
      | else-not-is_entered_at w ↦ rw w.self-inside-is (seen_fits g.J.Tagged.tag _ c.args.t c.in_ok-seen.seen c.self.invariant (rw (sym c.self.view_is) at c.in_ok-seen.ensures))
    ]

pub invariant_of-self-2 : goal.invariant_of-self-2
invariant_of-self-2 g c =
    elim c.if-not-is_entered_at.branch [
      | then-not-is_entered_at+in_ok-enter w ↦
          rw (c.set.ensures, w.self-inside-is)
          (still_stands g.J.Tagged.tag _ _ _ _ c.self.invariant
          (allocate_ok g.J.Tagged.tag _ c.args.t c.args.n c.in_ok-address.address c.tail-tail.result c.in_ok-seen.seen c.allocate_at.new.self w.enter.new.self.pages (rw (sym c.self.view_is) at c.in_ok-seen.ensures) c.in_ok-address.ensures.answer (rw w.self-inside-is at c.allocate_at.ensures.effect) c.tail-tail.ensures.value
          (entered_now g.J.Tagged.tag _ c.args.t c.args.n c.in_ok-address.address c.page_size.result w.enter.new.self.pages c.in_ok-address.ensures.answer c.page_size.ensures.value (entered_as g.J.Tagged.tag _ _ _ _ w.if-not-is_entered_at.true (entered_at g.J.Tagged.tag _ c.in_ok-address.address c.page_size.result _ c.page_size.ensures.value (rw (sym c.self.view_is) at c.is_entered_at.ensures))) w.in_ok-enter.ensures.answer w.in_ok-enter.ensures.pages)))
      | else-not-is_entered_at w ↦
          rw (c.set.ensures, w.self-inside-is)
          (still_stands g.J.Tagged.tag _ _ _ _ c.self.invariant
          (allocate_ok g.J.Tagged.tag _ c.args.t c.args.n c.in_ok-address.address c.tail-tail.result c.in_ok-seen.seen c.allocate_at.new.self _ (rw (sym c.self.view_is) at c.in_ok-seen.ensures) c.in_ok-address.ensures.answer (rw w.self-inside-is at c.allocate_at.ensures.effect) c.tail-tail.ensures.value
          (entered_before g.J.Tagged.tag _ c.args.t c.args.n c.in_ok-address.address c.page_size.result c.in_ok-address.ensures.answer c.page_size.ensures.value (entered_as g.J.Tagged.tag _ _ _ _ w.if-not-is_entered_at.false (entered_at g.J.Tagged.tag _ c.in_ok-address.address c.page_size.result _ c.page_size.ensures.value (rw (sym c.self.view_is) at c.is_entered_at.ensures))))))
    ]

pub returns-clause-made : goal.returns-clause-made
returns-clause-made g c =
    elim c.if-not-is_entered_at.branch [
      | then-not-is_entered_at+in_ok-enter w ↦
          rw (c.set.ensures, w.self-inside-is, sym c.self.view_is)
          (allocate_ok g.J.Tagged.tag _ c.args.t c.args.n c.in_ok-address.address c.tail-tail.result c.in_ok-seen.seen c.allocate_at.new.self w.enter.new.self.pages (rw (sym c.self.view_is) at c.in_ok-seen.ensures) c.in_ok-address.ensures.answer (rw w.self-inside-is at c.allocate_at.ensures.effect) c.tail-tail.ensures.value
          (entered_now g.J.Tagged.tag _ c.args.t c.args.n c.in_ok-address.address c.page_size.result w.enter.new.self.pages c.in_ok-address.ensures.answer c.page_size.ensures.value (entered_as g.J.Tagged.tag _ _ _ _ w.if-not-is_entered_at.true (entered_at g.J.Tagged.tag _ c.in_ok-address.address c.page_size.result _ c.page_size.ensures.value (rw (sym c.self.view_is) at c.is_entered_at.ensures))) w.in_ok-enter.ensures.answer w.in_ok-enter.ensures.pages))
      | else-not-is_entered_at w ↦
          rw (c.set.ensures, w.self-inside-is, sym c.self.view_is)
          (allocate_ok g.J.Tagged.tag _ c.args.t c.args.n c.in_ok-address.address c.tail-tail.result c.in_ok-seen.seen c.allocate_at.new.self _ (rw (sym c.self.view_is) at c.in_ok-seen.ensures) c.in_ok-address.ensures.answer (rw w.self-inside-is at c.allocate_at.ensures.effect) c.tail-tail.ensures.value
          (entered_before g.J.Tagged.tag _ c.args.t c.args.n c.in_ok-address.address c.page_size.result c.in_ok-address.ensures.answer c.page_size.ensures.value (entered_as g.J.Tagged.tag _ _ _ _ w.if-not-is_entered_at.false (entered_at g.J.Tagged.tag _ c.in_ok-address.address c.page_size.result _ c.page_size.ensures.value (rw (sym c.self.view_is) at c.is_entered_at.ensures)))))
    ]
