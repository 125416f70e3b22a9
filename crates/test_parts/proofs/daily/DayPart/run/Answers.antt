use Rattle.std.proofs.lemmas.List.Elements.{All-from_recursion, All-pop}
use Rattle.hl_traces.specs.Traces.{RiderTraces}
use Rattle.test_parts.proofs.daily.DayPart.run.Goals as goal

-- both riders are of those that were given
pub enter-requires : goal.enter-requires
enter-requires g c =
    let Enters = RiderTraces c.args.log.now.sizes in
    let one = All-pop Enters c.args.riders.items c.pop.new.self.items c.pop.result c.pop.ensures.items (All-from_recursion Enters c.args.riders.items c.requires.enter) in
    rw c.in-Some-Some.is-0 at one.1

pub enter-requires-2 : goal.enter-requires-2
enter-requires-2 g c =
    let Enters = RiderTraces c.args.log.now.sizes in
    let one = All-pop Enters c.args.riders.items c.pop.new.self.items c.pop.result c.pop.ensures.items (All-from_recursion Enters c.args.riders.items c.requires.enter) in
    let two = All-pop Enters c.pop.new.self.items c.pop-2.new.self.items c.pop-2.result c.pop-2.ensures.items one.0 in
    rw c.in-Some-Some.is-1 at two.1
