use Rattle.std.proofs.Common.{◌≡◌, ◌≤◌, take}
use Rattle.hl.specs.Records.{AreStored}
use Rattle.hl.specs.Sessions.{tail_seen}
use Rattle.hl.specs.Traces.{Stores}
use Rattle.hl.proofs.session.Session.store_all.Given as goal

abbrev pub invariant-loop-k : goal.invariant-loop-k
invariant-loop-k g l =
    (l.self.log ≡ l.fn.self.log) × (l.self.beside ≡ l.fn.self.beside)
    × AreStored l.fn.self.log.sizes l.address (take l.k l.words) l.fn.self.pass l.self.pass
    × Stores l.address (take l.k l.words) l.fn.self l.self
    × (tail_seen l.fn.self ≤ tail_seen l.self)
