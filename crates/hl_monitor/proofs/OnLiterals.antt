-- What unfolds so that the text of a report computes on numbers that are written out.
use Rattle.std.specs.Prelude.{⊤}
use Rattle.std.specs.Fmt.{digits}
use Rattle.hl_monitor.specs.Reports.{line_of}

unfoldable pub on_literals : ⊤
unfolding line_of digits
on_literals = tt
