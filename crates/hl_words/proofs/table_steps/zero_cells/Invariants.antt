use Rattle.std.proofs.Common.{◌≡◌}
use Rattle.hl_words.specs.Rows.{StandsFor}
use Rattle.hl_words.specs.States.{first_rider}
use Rattle.hl_words.specs.Views.{zeroed}
use Rattle.hl_words.proofs.table_steps.zero_cells.Given as goal

abbrev pub invariant-loop-k : goal.invariant-loop-k
invariant-loop-k l = (l.seat.table_id ≡ l.fn.seat.table_id) × StandsFor (zeroed l.first l.k (first_rider l.fn.seat.me.0)) l.seat.me
