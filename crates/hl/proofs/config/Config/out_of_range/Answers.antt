use Rattle.std.proofs.Common.{rules}
use Rattle.hl.specs.Configs.{all_fit}
use Rattle.hl.proofs.config.Config.out_of_range.Goals as goal

-- none was found out of its range
pub returns-else-not-fits-8-clause-none : goal.returns-else-not-fits-8-clause-none
unfolding all_fit
returns-else-not-fits-8-clause-none c = search rules
