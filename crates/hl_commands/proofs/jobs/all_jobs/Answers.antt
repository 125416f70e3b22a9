use Rattle.std.proofs.Common.{sym, subst}
use Rattle.hl_commands.proofs.JobLaws.{IsFilled, new_filled}
use Rattle.hl_commands.proofs.jobs.all_jobs.Goals as goal

pub loop-tag-init : goal.loop-tag-init
loop-tag-init g c = subst (λ shelf. IsFilled 1000 shelf 0) (sym c.in_ok-shelf.ensures.free) (new_filled 1000)
