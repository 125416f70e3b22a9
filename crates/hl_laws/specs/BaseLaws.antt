-- What joins the quantities of a base and the steps since with those of the whole list.
use Rattle.std.specs.Prelude.{◌≡◌, ℕ, ◌≤◌, true, Some, List, [], ◌∷◌, ◌++◌}
use Rattle.std.specs.List.{list_any}
use Rattle.hl_model.specs.declared.slot.Slot.{Slot}
use Rattle.hl_model.specs.declared.step.Step.{Step}
use Rattle.hl_model.specs.declared.step.Step.TheVariants.{Take}
use Rattle.hl_model.specs.Sizes.{Sizes}
use Rattle.hl_model.specs.Actions.{first_ticket}
use Rattle.hl_model.specs.Headline.{moves_on}
use Rattle.hl_model.specs.Replies.{fault_of, reply_of, good, IsAccepted, replies_after}
use Rattle.hl_model.specs.Pages.{next_to_flush, next_to_clean}
use Rattle.hl_model.specs.Bases.{base_of, slot_in}
use Rattle.hl_model.specs.AfterActions.{waiting_after}
use Rattle.hl_model.specs.AfterPages.{flushing_after, cleaning_after, next_after}
use Rattle.hl_model.specs.AfterReplies.{base_after, fault_after, reply_after, good_from, replies_from}

-- an accepted list may be cut to its base
pub record IsCut (sizes : Sizes) (A L : List Step) : Type 0 where
  -- the replies to the steps of L from the base are those after the list
  pub replies : replies_from (base_of sizes A) L ≡ replies_after sizes A L
  -- what is accepted from the base is what is accepted behind the list
  pub accepted : good sizes (A ++ L) ≡ A ++ good_from (base_of sizes A) L
  -- the base of both together is that of the whole list
  pub together : base_after (base_of sizes A) (good_from (base_of sizes A) L)
      ≡ base_of sizes (good sizes (A ++ L))

-- so may each accepted list, whatever steps follow
abbrev pub ListsMayBeCut : Type 0
ListsMayBeCut = (sizes : Sizes) (A L : List Step) → IsAccepted sizes A → IsCut sizes A L

-- what a step more meets: where A and then L is an accepted list
pub record IsCutHere (sizes : Sizes) (A L : List Step) : Type 0 where
  pub base : base_after (base_of sizes A) L ≡ base_of sizes (A ++ L)
  pub fault : (s : Step) → fault_after (base_of sizes A) L s ≡ fault_of sizes (A ++ L) s
  pub reply : (s : Step) → reply_after (base_of sizes A) L s ≡ reply_of sizes (A ++ L) s
  -- the pages that takes name, by which the marks since the base are counted, are those of the whole list
  pub to_flush : next_after (flushing_after (base_of sizes A)) L ≡ next_to_flush sizes (A ++ L)
  pub to_clean : next_after (cleaning_after (base_of sizes A)) L ≡ next_to_clean sizes (A ++ L)

-- so at each place of an accepted list
abbrev pub CutsAnywhere : Type 0
CutsAnywhere = (sizes : Sizes) (A L : List Step) → IsAccepted sizes (A ++ L) → IsCutHere sizes A L

-- an action is taken after every slot that was protected in a base, at its ticket or before, has refreshed or
-- left since
abbrev pub TakenAfterAllMovedSince : Type 0
TakenAfterAllMovedSince =
    (sizes : Sizes) (A X : List Step) (t : ℕ) (slot : Slot) → IsAccepted sizes ((A ++ X) ++ Take ∷ [])
    → slot_in (base_of sizes A) t ≡ Some slot → slot.epoch ≤ first_ticket (waiting_after (base_of sizes A) X)
    → list_any (moves_on t) X ≡ true
