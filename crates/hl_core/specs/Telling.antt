-- A core's quantities as a base, told by its parts.
use Rattle.std.specs.Prelude.{ℕ, Option, Some, None, map, slice_index_or}
use Rattle.std.specs.List.{range_with_len}
use Rattle.hl_model.specs.declared.slot.Slot.{Slot}
use Rattle.hl_model.specs.declared.view.View.{View}
use Rattle.hl_model.specs.Bases.{Base}
use Rattle.hl_epoch.specs.Table.{epoch_at}
use Rattle.hl_drain.specs.Actions.{waiting_of}
use Rattle.hl_frames.specs.Pages.{flushed_offset}
use Rattle.hl_offsets.specs.Log.{six_of}
use Rattle.hl_core.specs.Standing.{State}

-- a slot with both its epoch and its view
abbrev pub slot_with : Option ℕ → Option View → Option Slot
slot_with (Some epoch) (Some view) = Some (record { epoch = epoch; view = view })
slot_with (Some epoch) None = None
slot_with None view = None

module _ {J : Type 0} where
  -- what slot t has
  abbrev pub slot_told : State J → ℕ → Option Slot
  slot_told core t = slot_with (epoch_at t core.table) (slice_index_or core.views t None)

  -- the quantities of a core
  unfoldable pub told : (J → ℕ) → State J → Base
  told tag core = record {
    sizes = core.sizes;
    epoch = core.table.current;
    slots = map (slot_told core) (range_with_len 0 core.sizes.slots);
    waiting = map (waiting_of tag) core.drain.pending;
    taken = core.drain.taken;
    six = six_of core.offsets (flushed_offset core.pages);
    frames = core.pages.frames;
  }
