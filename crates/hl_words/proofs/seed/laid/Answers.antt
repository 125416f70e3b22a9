use Rattle.std.proofs.Common.{rules}
use Rattle.hl_words.proofs.Seatings.{begins}
use Rattle.hl_words.proofs.seed.laid.Goals as goal

pub of_words-requires : goal.of_words-requires
of_words-requires c = begins c.args.room _ (search rules)

pub returns-clause-table : goal.returns-clause-table
returns-clause-table c = search rules
