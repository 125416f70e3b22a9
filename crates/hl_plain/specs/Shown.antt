-- What is shown of a base: all quantities at once, and what each frame is at.
use Rattle.std.specs.Prelude.{ℕ, ◌+◌, ◌*◌, nat_le, is_some, if◌then◌else◌, Option, Some, None, length, map, count_by, slice_index_or}
use Rattle.hl_model.specs.declared.frame.FrameState.{FrameState}
use Rattle.hl_model.specs.declared.frame.FrameState.TheVariants.{Opened, Sealed, Flushed, Closed, Free}
use Rattle.hl_model.specs.declared.frame.Held.{Held}
use Rattle.hl_model.specs.declared.snapshot.Snapshot.{Snapshot}
use Rattle.hl_model.specs.Snapshots.{state_counts}
use Rattle.hl_model.specs.Bases.{Base, safe_in}

-- what a frame is at, told what it holds, and its page where it isn't free
abbrev pub state_at : Base → Option Held → FrameState × Option ℕ
state_at b None = (Free, None)
state_at b (Some held) =
    if held.freed then (Free, None)
    else if nat_le ((held.page + 1) * b.sizes.page_size) b.six.closed then (Closed, Some held.page)
    else if held.flushed then (Flushed, Some held.page)
    else if nat_le ((held.page + 1) * b.sizes.page_size) b.six.safe_read_only then (Sealed, Some held.page)
    else (Opened, Some held.page)

-- what frame f is at, and its last entered page where it isn't free
abbrev pub frame_at : Base → ℕ → FrameState × Option ℕ
frame_at b f = state_at b (slice_index_or b.frames f None)

-- all quantities
abbrev pub snapshot_at : Base → Snapshot
snapshot_at b = record {
  epoch = b.epoch;
  safe = safe_in b;
  protected = count_by is_some b.slots;
  pending = length b.waiting;
  taken = length b.taken;
  six = b.six;
  frames = state_counts (map (λ held. (state_at b held).0) b.frames);
}
