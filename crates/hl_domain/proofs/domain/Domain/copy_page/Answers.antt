use Rattle.std.proofs.Common.{rules}
use Rattle.hl_domain.proofs.domain.Domain.copy_page.Goals as goal

pub returns-clause-answer : goal.returns-clause-answer
returns-clause-answer g c = search rules
