-- What a protected slot knows, of a base and the steps since.
use Rattle.std.specs.Prelude.{ℕ, if◌then◌else◌, Option, Some, None, option_map, List, take}
use Rattle.std.specs.List.{list_any}
use Rattle.hl_model.specs.declared.slot.Slot.{Slot}
use Rattle.hl_model.specs.declared.step.Step.{Step}
use Rattle.hl_model.specs.declared.view.View.{View}
use Rattle.hl_model.specs.Lists.{until_last, last_given}
use Rattle.hl_model.specs.Epochs.{up_to_mark, is_protected}
use Rattle.hl_model.specs.Views.{since_mark, looked_read_only, looked_head, allocates}
use Rattle.hl_model.specs.Bases.{Base, slot_in}
use Rattle.hl_model.specs.AfterEpochs.{epoch_after, has_moved}
use Rattle.hl_model.specs.AfterOffsets.{read_only_after, head_after, tail_after}

-- the offsets after the steps
abbrev pub present_after : Base → List Step → View
present_after b L =
    record { read_only = read_only_after b L; head = head_after b L; tail = tail_after b L }

-- the tail up to slot t's own last allocation after its mark, or that of a view where there is none
abbrev pub own_tail : Base → ℕ → ℕ → List Step → ℕ
own_tail b t tail L =
    if list_any (allocates t) (since_mark t L) then tail_after b (take (until_last (allocates t) L) L)
    else tail

-- the view of slot t, told the view that it had at its mark: then its own looks and allocations
abbrev pub seen_since : Base → ℕ → View → List Step → View
seen_since b t view L = record {
  read_only = last_given (looked_read_only t) view.read_only (since_mark t L);
  head = last_given (looked_head t) view.head (since_mark t L);
  tail = own_tail b t view.tail L;
}

-- slot t's epoch and view, if it is protected: by its mark where it moved since the base, else as in the
-- base, but for its own looks and allocations
unfoldable pub slot_after : Base → ℕ → List Step → Option Slot
slot_after b t L =
    if has_moved t L
    then (if is_protected t L
    then Some (record {
      epoch = epoch_after b (up_to_mark t L);
      view = seen_since b t (present_after b (up_to_mark t L)) L;
    })
    else None)
    else option_map (λ slot. record { epoch = slot.epoch; view = seen_since b t slot.view L }) (slot_in b t)
