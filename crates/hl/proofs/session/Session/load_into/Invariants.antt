use Rattle.std.proofs.Common.{◌≡◌, length, take}
use Rattle.hl.specs.Records.{with_loads}
use Rattle.hl.specs.Sessions.{with_pass}
use Rattle.hl_traces.specs.Records.{loads_from}
use Rattle.hl.specs.Traces.{acts}
use Rattle.hl.proofs.session.Session.load_into.Given as goal

abbrev pub invariant-loop-k : goal.invariant-loop-k
invariant-loop-k g l =
    (l.self ≡ with_pass (with_loads l.fn.self.log.sizes l.address (take l.k l.words) l.fn.self.pass) l.fn.self)
    × (length l.words ≡ length l.fn.words)
    × (acts l.self ≡ loads_from l.address (take l.k l.words) (acts l.fn.self))
