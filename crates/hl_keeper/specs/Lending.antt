-- What a pass lends.
use Rattle.std.specs.Borrow.{Lends, MutBor, Fml, RattleType}
use Rattle.std.specs.declared.sync.ledger.Ledger.{Ghosts as LedgerGhosts}
use Rattle.hl_words.specs.declared.seed.Realm.{Ghosts}
use Rattle.hl_words.specs.contracts.rider.Rider.{the_row as rider_row}
use Rattle.hl_words.specs.States.{RiderState}
use Rattle.hl_keeper.specs.contracts.pass.Pass.{the_row}
use Rattle.hl_keeper.specs.Passes.{PassRecord, with_rider}

-- a pass that lent its rider has it back as the caller left it, and all else as it was
abbrev pub LendsRider : (L : RattleType) → Ghosts L.Denot → LedgerGhosts L.Denot
    → MutBor PassRecord → MutBor RiderState → Fml
LendsRider L realm ledger pass rider =
    Lends (the_row L realm ledger) (rider_row L realm ledger) pass rider (λ r. with_rider r pass.now)
