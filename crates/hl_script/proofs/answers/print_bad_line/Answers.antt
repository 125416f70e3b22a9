use Rattle.std.proofs.Common.{rules}
use Rattle.hl_script.proofs.answers.print_bad_line.Goals as goal

pub returns : goal.returns
returns c = search rules
