use Rattle.std.proofs.Common.{[], ◌∷◌}
use Rattle.hl.specs.Traces.{acts}
use Rattle.example_counters.proofs.AddLaws.{none_added, still}
use Rattle.example_counters.proofs.adder.add_all.Goals as goal

pub loop-add-init : goal.loop-add-init
loop-add-init g c = λ fresh. still (0 ∷ 0 ∷ 0 ∷ 0 ∷ []) (acts c.args.session.now) (acts c.place.new.session) c.place.ensures (none_added c.args.session.now fresh)
