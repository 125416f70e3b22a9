use Rattle.std.proofs.Common.{[], refl, ◌∙◌}
use Rattle.hl_core.proofs.StartStands.{stands_start}
use Rattle.hl_core.proofs.state.Core.of_sizes.Goals as goal

pub invariant_of-result : goal.invariant_of-result
invariant_of-result g c = ([], stands_start g.J.Tagged.tag c.args.params c.slots-slots.result c.drain.result (g.E.Epochs.table c.in_ok-table.table) c.in_ok-views.views c.in_ok-drain.drain c.new.result c.in_ok-frames.frames.pages c.slots-slots.ensures.valid c.slots-slots.ensures.value c.drain.ensures.value c.in_ok-table.ensures.ok c.in_ok-views.ensures.ok c.in_ok-drain.ensures.ok c.new.ensures.value c.in_ok-frames.ensures.ok)

pub returns-clause-ok : goal.returns-clause-ok
returns-clause-ok g c = (stands_start g.J.Tagged.tag c.args.params c.slots-slots.result c.drain.result (g.E.Epochs.table c.in_ok-table.table) c.in_ok-views.views c.in_ok-drain.drain c.new.result c.in_ok-frames.frames.pages c.slots-slots.ensures.valid c.slots-slots.ensures.value c.drain.ensures.value c.in_ok-table.ensures.ok c.in_ok-views.ensures.ok c.in_ok-drain.ensures.ok c.new.ensures.value c.in_ok-frames.ensures.ok, refl)
