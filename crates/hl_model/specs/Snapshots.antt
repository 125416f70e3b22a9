-- The six offsets, and all quantities at once.
use Rattle.std.specs.Prelude.{◌≡◌, ℕ, ◌%◌, ◌^◌, ◌≤◌, Bool, true, false, List, [], ◌∷◌, length, map, count_by, is_some}
use Rattle.std.specs.List.{range_with_len}
use Rattle.hl_model.specs.declared.frame.FrameState.{FrameState}
use Rattle.hl_model.specs.declared.frame.FrameState.TheVariants.{Opened, Sealed, Flushed, Closed, Free}
use Rattle.hl_model.specs.declared.snapshot.Snapshot.{Snapshot}
use Rattle.hl_model.specs.declared.step.Step.{Step}
use Rattle.hl_model.specs.declared.view.Six.{Six}
use Rattle.hl_model.specs.Sizes.{Sizes}
use Rattle.hl_model.specs.Epochs.{current_epoch, safe_epoch, slot_epochs}
use Rattle.hl_model.specs.Actions.{pending, taken}
use Rattle.hl_model.specs.Offsets.{read_only, head, tail}
use Rattle.hl_model.specs.Settled.{safe_read_only, closed}
use Rattle.hl_model.specs.Pages.{flushed}
use Rattle.hl_model.specs.Frames.{frame_of}

-- the six offsets
abbrev pub six : Sizes → List Step → Six
six sizes A = record {
  closed = closed A;
  head = head A;
  flushed = flushed sizes A;
  safe_read_only = safe_read_only A;
  read_only = read_only A;
  tail = tail sizes A;
}

-- six offsets are in order, where a page has this many words: closed ≤ head ≤ flushed ≤ safe read-only ≤
-- read-only ≤ tail ≤ 2^48, the first three being multiples of P
pub record AreInOrder (page_size : ℕ) (six : Six) : Type 0 where
  pub closed_whole : six.closed % page_size ≡ 0
  pub head_whole : six.head % page_size ≡ 0
  pub flushed_whole : six.flushed % page_size ≡ 0
  pub closed_most : six.closed ≤ six.head
  pub head_most : six.head ≤ six.flushed
  pub flushed_most : six.flushed ≤ six.safe_read_only
  pub safe_read_only_most : six.safe_read_only ≤ six.read_only
  pub read_only_most : six.read_only ≤ six.tail
  pub tail_most : six.tail ≤ 2 ^ 48

-- a frame is at a state
abbrev pub is_opened : FrameState → Bool
is_opened Opened = true
is_opened _ = false

abbrev pub is_at_sealed : FrameState → Bool
is_at_sealed Sealed = true
is_at_sealed _ = false

abbrev pub is_at_flushed : FrameState → Bool
is_at_flushed Flushed = true
is_at_flushed _ = false

abbrev pub is_at_closed : FrameState → Bool
is_at_closed Closed = true
is_at_closed _ = false

abbrev pub is_free : FrameState → Bool
is_free Free = true
is_free _ = false

-- how many of some frames are open, sealed, flushed, closed and free
abbrev pub state_counts : List FrameState → List ℕ
state_counts states =
    count_by is_opened states ∷ count_by is_at_sealed states ∷ count_by is_at_flushed states
    ∷ count_by is_at_closed states ∷ count_by is_free states ∷ []

-- what each frame is at
unfoldable pub frame_states : Sizes → List Step → List FrameState
frame_states sizes A = map (λ f. (frame_of sizes f A).0) (range_with_len 0 sizes.frames)

-- all quantities
abbrev pub snapshot_of : Sizes → List Step → Snapshot
snapshot_of sizes A = record {
  epoch = current_epoch A;
  safe = safe_epoch sizes.slots A;
  protected = count_by is_some (slot_epochs sizes.slots A);
  pending = length (pending A);
  taken = length (taken A);
  six = six sizes A;
  frames = state_counts (frame_states sizes A);
}
