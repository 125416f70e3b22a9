use Rattle.std.proofs.Common.{rules}
use Rattle.std.proofs.lemmas.Bool.Decides.{nat_tests}
use Rattle.hl.proofs.session.flush.Due.at.Goals as goal

pub returns-then-six-end : goal.returns-then-six-end
returns-then-six-end c = search (rules, nat_tests)

pub returns-then-six-end-2 : goal.returns-then-six-end-2
returns-then-six-end-2 c = search (rules, nat_tests)

pub returns-then-not-asked : goal.returns-then-not-asked
returns-then-not-asked c = search (rules, nat_tests)

pub returns-else-six-end-3 : goal.returns-else-six-end-3
returns-else-six-end-3 c = search (rules, nat_tests)
