use Rattle.std.proofs.Common.{rules}
use Rattle.hl_plain.proofs.TailLaws.{TailFits-take}
use Rattle.hl_plain.proofs.views.own_tail.Goals as goal

pub tail-requires : goal.tail-requires
tail-requires c = TailFits-take c.args.base.now c.args.steps.now _ c.requires

pub returns-then-has_allocated : goal.returns-then-has_allocated
returns-then-has_allocated c = search rules
