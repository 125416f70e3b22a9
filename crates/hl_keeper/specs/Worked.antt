-- A worked example: the stamp of a slot, and the refusal of a pass that has another.
use Rattle.std.specs.Prelude.{◌≡◌, Some, List, [], ◌∷◌}
use Rattle.hl_model.specs.declared.fault.Fault.TheVariants.{Stranger}
use Rattle.hl_model.specs.declared.step.Step.{Step}
use Rattle.hl_model.specs.declared.step.Step.TheVariants.{Acquire}
use Rattle.hl_keeper.specs.Passes.{PassRecord}
use Rattle.hl_keeper.specs.Keepers.{KeeperState, KeeperStands}
use Rattle.hl_keeper.specs.Calls.{stamp_at, call_fault, refresh_fault}

-- slot 0 was acquired, and nothing else was done
abbrev pub one_acquire : List Step
one_acquire = Acquire 0 ∷ []

-- a keeper of stamp 1000 that stands there, whatever else it keeps, has given slot 0 the stamp 1001; a pass
-- of that slot with the stamp 1002, whatever it saw and did, is refused a refresh and each other call, and is
-- told the slot's stamp
pub record AnotherStamp (F : Type 0) : Type 0 where
  pub stamp : (keeper : KeeperState F) → keeper.stamp ≡ 1000 → KeeperStands keeper one_acquire
      → stamp_at keeper one_acquire 0 ≡ 1001
  pub refresh : (keeper : KeeperState F) (p : PassRecord)
      → keeper.stamp ≡ 1000 → KeeperStands keeper one_acquire → p.slot ≡ 0 → p.stamp ≡ 1002
      → refresh_fault keeper one_acquire p ≡ Some (Stranger 1001)
  pub call : (keeper : KeeperState F) (p : PassRecord) (s : Step)
      → keeper.stamp ≡ 1000 → KeeperStands keeper one_acquire → p.slot ≡ 0 → p.stamp ≡ 1002
      → call_fault keeper one_acquire p s ≡ Some (Stranger 1001)
