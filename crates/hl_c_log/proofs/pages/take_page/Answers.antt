use Rattle.std.proofs.Common.{rules}
use Rattle.hl_c_log.proofs.PageCalls.{gives_by}
use Rattle.hl_c_log.proofs.pages.take_page.Goals as goal

pub returns-in-Some : goal.returns-in-Some
returns-in-Some c = gives_by c.args.cleans _ _ _ _ c.in-Some.held.value _ c.taken-brief.new.log _ c.in-Some.ensures.value (search rules) (search rules) (search rules) c.taken-brief.ensures
