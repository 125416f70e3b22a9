-- That jobs stay at the places of their tags.
use Rattle.std.proofs.Common.{◌≡◌, ℕ, List, set, arith}
use Rattle.std.proofs.lemmas.Grind.{common_steps}
use Rattle.std.specs.Prelude.{Option}
use Rattle.std.specs.Option.{ForSome}
use Rattle.hl_action.specs.Jobs.{KeptRecord}
use Rattle.hl_action.specs.Shelves.{AreAtTheirTags}

-- where the job that is put at a place has its tag, or none is put there
pub tags_set : {F : Type 0} (places : List (Option (KeptRecord F))) (at : ℕ) (put : Option (KeptRecord F)) → AreAtTheirTags places → ForSome put (λ (kept : KeptRecord F). kept.tag ≡ at) → AreAtTheirTags (set places at put)
tags_set places at put all own tag kept is = grind (arith, common_steps, all tag kept, own kept)
