use Rattle.std.proofs.Common.{ap, ◌∙◌, length}
use Rattle.hl_keeper.specs.Passes.{PassRecord}
use Rattle.hl_keeper.proofs.TouchedLaws.{no_touches, call_acts, called_alone}
use Rattle.hl_keeper.proofs.keeper.Keeper.call.Goals as goal

pub one-requires : goal.one-requires
one-requires g c = let call = call_acts c.args.step.now c.requires.kind in record { acted = call.0; unstamped = call.1 }

pub returns-then-touches-eq0-clause-made : goal.returns-then-touches-eq0-clause-made
returns-then-touches-eq0-clause-made g c =
    let none = no_touches c.args.pass.now.touches c.len-touches.result (c.len-touches.ensures.value ∙ ap (λ (q : PassRecord). length q.touches) c.pass.view_is) c.if-touches-eq0.true in
    called_alone c.args.self.now c.one.new.self c.args.pass.now c.args.step.now c.one.result none c.one.ensures.made
