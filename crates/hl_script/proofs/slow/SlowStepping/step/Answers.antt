use Rattle.std.proofs.Common.{[], sym, ◌∙◌}
use Rattle.hl_script.proofs.SlowLaws.{slow_accepts, slow_refuses, slow_sum_fits}
use Rattle.hl_script.proofs.slow.SlowStepping.step.Goals as goal

pub shown-requires : goal.shown-requires
shown-requires c =
    let opened = c.requires.3.opened in
    slow_sum_fits c.args.self.now.tags c.args.self.now.plain c.step.new.self c.requires.0 c.requires.1 c.requires.2 c.args.step.now c.in-Ok.reply c.requires.3 (c.in-Ok.ensures.follows [] opened) (c.in-Ok.ensures.behind [] opened)

pub returns-in-Ok : goal.returns-in-Ok
returns-in-Ok c = λ has sizes A standing.
    slow_accepts c.args.self.now.tags c.args.self.now.plain c.step.new.self has sizes A c.args.step.now c.in-Ok.reply c.shown.result standing (sym c.lacks_job.ensures ∙ c.if-lacks_job.false) (c.in-Ok.ensures.behind [] standing.opened) (c.in-Ok.ensures.follows [] standing.opened) c.shown.ensures

pub returns-in_default : goal.returns-in_default
returns-in_default c = λ has sizes A standing.
    slow_refuses c.args.self.now.tags c.args.self.now.plain c.step.new.self has sizes A c.args.step.now c.in-Err.fault standing (sym c.lacks_job.ensures ∙ c.if-lacks_job.false) (c.in-Err.ensures.behind [] standing.opened) (c.in-Err.ensures.follows [] standing.opened) c.in_default.not-OutOfMemory
