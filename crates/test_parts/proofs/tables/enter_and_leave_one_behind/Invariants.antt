use Rattle.std.proofs.Common.{◌≡◌}
use Rattle.test_parts.proofs.tables.enter_and_leave_one_behind.Given as goal

-- the window stays two
abbrev pub invariant-loop-t : goal.invariant-loop-t
invariant-loop-t g l = l.table.table.window ≡ 2

abbrev pub invariant-loop-t-2 : goal.invariant-loop-t-2
invariant-loop-t-2 g l = l.table.table.window ≡ 2
