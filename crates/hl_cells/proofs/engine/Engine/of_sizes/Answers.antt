use Rattle.std.proofs.Common.{◌*◌, ap, ap₂, []}
use Rattle.hl_cells.proofs.EngineMoves.{engine_opens}
use Rattle.hl_cells.specs.TakenActions.{Row}
use Rattle.hl_cells.proofs.JobLaws.{no_jobs}
use Rattle.hl_cells.proofs.engine.Engine.of_sizes.Goals as goal

pub invariant_of-result : goal.invariant_of-result
invariant_of-result g c = ([], engine_opens c.args.params c.in_ok-core.core c.in_ok-words.words c.in_ok-held.held _ c.drain.result c.in_ok-core.ensures.ok c.in_ok-words.ensures.ok (ap₂ (λ a b. a * b) c.frames.ensures.value c.page_size.ensures.value) c.in_ok-held.ensures.ok c.drain.ensures.value)

pub returns-clause-ok : goal.returns-clause-ok
returns-clause-ok g c = (engine_opens c.args.params c.in_ok-core.core c.in_ok-words.words c.in_ok-held.held _ c.drain.result c.in_ok-core.ensures.ok c.in_ok-words.ensures.ok (ap₂ (λ a b. a * b) c.frames.ensures.value c.page_size.ensures.value) c.in_ok-held.ensures.ok c.drain.ensures.value, c.in_ok-core.ensures.ok.1)

pub returns-clause-jobs : goal.returns-clause-jobs
returns-clause-jobs g c = no_jobs _ (returns-clause-ok g c).0 (ap (λ (z : Row g.row.F.Denot). z.actions) c.in_ok-held.ensures.ok)
