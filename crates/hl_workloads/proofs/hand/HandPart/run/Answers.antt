use Rattle.std.proofs.lemmas.List.Elements.{All-from_recursion, All-pop}
use Rattle.hl_traces.specs.Traces.{RiderTraces}
use Rattle.hl_workloads.proofs.hand.HandPart.run.Goals as goal

-- the rider behind the flusher's is one of those that were given
pub enter-requires : goal.enter-requires
enter-requires g c =
    let Enters = RiderTraces c.args.log.now.sizes in
    let all = All-from_recursion Enters c.args.riders.items c.requires.enter in
    let one = All-pop Enters c.args.riders.items c.pop.new.self.items c.pop.result c.pop.ensures.items all in
    let two = All-pop Enters c.pop.new.self.items c.pop-2.new.self.items c.pop-2.result c.pop-2.ensures.items one.0 in
    rw c.in-Some-Some.is-1 at two.1
