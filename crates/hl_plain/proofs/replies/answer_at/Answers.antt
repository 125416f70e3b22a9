use Rattle.std.proofs.Common.{rules}
use Rattle.hl_plain.proofs.replies.answer_at.Goals as goal

pub returns-in-Take : goal.returns-in-Take
returns-in-Take c = search rules
