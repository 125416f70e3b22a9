-- What a call left under the lock, said by less.
use Rattle.std.proofs.Common.{◌≡◌, ℕ, ◌+◌, [], ◌∷◌, refl, ap, ◌∙◌, arith}
use Rattle.hl_history.specs.Lists.{entry}
use Rattle.hl_words.specs.States.{RiderState, with_call}
use Rattle.hl_keeper.specs.Keepers.{KeeperState}
use Rattle.hl_domain.specs.Domains.{DomainState, Call, LeavesUnderLock, no_step}
use Rattle.hl_crew.specs.Waits.{Waits}

-- a call left what is said by less
pub leaves : {F : Type 0} {domain : DomainState} {call : Call} {H K : KeeperState F → KeeperState F → Type 0} → ((before after : KeeperState F) → H before after → K before after) → LeavesUnderLock F domain call H → LeavesUnderLock F domain call K
leaves f left = record {
  list = left.list;
  before = left.before;
  after = left.after;
  met = left.met;
  left = left.left;
  entered = left.entered;
  rises = left.rises;
  holds = f left.before left.after left.holds;
}

-- a rider that made no call
pub waits_same : {old new : RiderState} → new ≡ old → Waits old new
waits_same same = record { more = []; empty = tt; is = same }

-- a rider that made one
pub waits_one : {F : Type 0} {domain : DomainState} {H : KeeperState F → KeeperState F → Type 0} {old new : RiderState} → LeavesUnderLock F domain (no_step old new) H → Waits old new
waits_one {old} left =
    let same : old.share + 0 ≡ old.share = omega arith in
    record {
      more = record { was = left.before.cut; now = left.after.cut; call = entry left.list [] } ∷ [];
      empty = (refl, tt);
      is = left.entered ∙ ap (λ (n : ℕ). with_call left.before.cut left.after.cut (entry left.list []) (record { view = old.view; share = n; calls = old.calls })) same;
    }
