-- A session keeps up, with room for some touches.
use Rattle.std.specs.Prelude.{◌≡◌, true, false, Result, Ok}
use Rattle.hl_model.specs.declared.fault.Fault.{Fault}
use Rattle.hl_model.specs.declared.view.View.{View}
use Rattle.hl_keeper.specs.Passes.{PassRecord, seen}
use Rattle.hl_domain.specs.Domains.{DomainState, after_news, stays_current, Refreshed}

-- a pass that had nothing new to see and room for a touch stayed as it was; another was refreshed, and answered so
pub record KeepsUp (F : Type 0) (log : DomainState) (old new : PassRecord) (result : Result View Fault)
    : Type 0 where
  pub kept : stays_current old new ≡ true → (result ≡ Ok (seen old)) × (new ≡ after_news old new)
  pub refreshed : stays_current old new ≡ false → Refreshed F log (after_news old new) new result
