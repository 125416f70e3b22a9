-- Who holds the oldest action up, and the least free slot.
use Rattle.std.specs.Prelude.{ℕ, nat_le, nat_lt, Bool, true, ◌&&◌, not, if◌then◌else◌, is_none, unwrap_or, Option, Some, None, List, [], ◌∷◌, map}
use Rattle.std.specs.List.{filter_map, position, range_with_len}
use Rattle.hl_model.specs.declared.action.Waiting.{Waiting}
use Rattle.hl_model.specs.declared.step.Step.{Step}
use Rattle.hl_model.specs.Sizes.{Sizes}
use Rattle.hl_model.specs.Epochs.{slot_epoch}
use Rattle.hl_model.specs.Actions.{pending, is_taken}
use Rattle.hl_model.specs.Views.{slot_views}
use Rattle.hl_core.specs.declared.holders.Holder.{Holder}

-- slot t with its epoch, if it is protected at one that isn't above c
abbrev pub holding : ℕ → ℕ → Option ℕ → Option Holder
holding c t None = None
holding c t (Some epoch) = if nat_le epoch c then Some (record { slot = t; epoch = epoch }) else None

-- those of n slots that hold up the action of ticket c, least first: it is safe where there is none
unfoldable pub holders_of : ℕ → ℕ → List Step → List Holder
holders_of n c A =
    filter_map (λ holder. holder) (map (λ t. holding c t (slot_epoch t A)) (range_with_len 0 n))

-- the ticket of the first of these actions, if there is one
abbrev pub oldest_of : List Waiting → Option ℕ
oldest_of [] = None
oldest_of (w ∷ ws) = Some w.ticket

-- those that hold up the first of these actions; none where there is no action
abbrev pub first_holders : ℕ → List Step → List Waiting → List Holder
first_holders n A [] = []
first_holders n A (w ∷ ws) = holders_of n w.ticket A

-- the ticket of the oldest pending action, if there is one
unfoldable pub oldest : List Step → Option ℕ
oldest A = oldest_of (pending A)

-- those of n slots that hold it up
unfoldable pub holders : ℕ → List Step → List Holder
holders n A = first_holders n A (pending A)

-- ticket c is below this one, if there is one
abbrev pub is_before : ℕ → Option ℕ → Bool
is_before c None = true
is_before c (Some front) = nat_lt c front

-- the action of ticket c is over: no action up to c is pending, and c is that of none that is taken and not done
unfoldable pub is_over : ℕ → List Step → Bool
is_over c A = is_before c (oldest A) && not (is_taken c A)

-- the least slot that isn't protected; S where all are
unfoldable pub least_free : Sizes → List Step → ℕ
least_free sizes A = unwrap_or (position is_none (slot_views sizes A)) sizes.slots
