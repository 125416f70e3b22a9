use Rattle.std.proofs.Common.{sym}
use Rattle.hl_script.proofs.FastLaws.{fast_bumps, fast_lacks, fast_refuses}
use Rattle.hl_script.proofs.fast.Fast.bump.Goals as goal

pub returns-in_default : goal.returns-in_default
returns-in_default g c = λ has sizes A standing.
    fast_lacks c.args.self.now.shelf c.take.new.self c.args.self.now.engine has sizes A c.args.tag standing (sym c.in_default.ensures.value) c.in_default.ensures.after

pub returns-in-Ok : goal.returns-in-Ok
returns-in-Ok g c = λ has sizes A standing.
    fast_bumps c.args.self.now.shelf c.take.new.self c.args.self.now.engine c.bump.new.self has sizes A c.args.tag c.in-Ok.ticket c.in-Some.kept standing (sym c.in-Some.ensures.value) c.in-Some.ensures.own_tag c.take.ensures.after (c.in-Ok.ensures.moved A standing.standing)

pub returns-in-Err : goal.returns-in-Err
returns-in-Err g c = λ has sizes A standing.
    fast_refuses c.args.self.now.shelf c.put.new.self c.args.self.now.engine c.bump.new.self has sizes A c.args.tag c.in-Err.fault c.in-Some.kept c.in-Err.kept standing (sym c.in-Some.ensures.value) c.in-Some.ensures.own_tag c.in-Err.ensures.refused.0 (rw c.take.ensures.after at c.put.ensures.after) (c.in-Err.ensures.moved A standing.standing)
