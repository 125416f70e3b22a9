use Rattle.hl_commands.proofs.JobLaws.{IsFilled}
use Rattle.hl_commands.proofs.jobs.all_jobs.Given as goal

-- a job was put under each tag so far
abbrev pub invariant-loop-tag : goal.invariant-loop-tag
invariant-loop-tag g l = IsFilled 1000 l.shelf l.tag
