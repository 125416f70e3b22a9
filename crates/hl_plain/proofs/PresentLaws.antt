-- The rows of what is present.
use Rattle.std.proofs.Common.{◌≡◌, ◌<◌, ◌≤◌, ℕ, List, length, map, get_or, refl, sym, arith}
use Rattle.std.specs.Prelude.{None, Option, slice_index_or}
use Rattle.std.specs.List.{range_with_len}
use Rattle.std.proofs.lemmas.List.{get_or_past}
use Rattle.std.proofs.lemmas.List.FromFn.{length-map-range_with_len}
use Rattle.hl_model.specs.declared.step.Step.{Step}
use Rattle.hl_model.specs.Bases.{Base, slot_in}
use Rattle.hl_model.specs.AfterOffsets.{tail_after}
use Rattle.hl_model.specs.AfterViews.{slot_after}
use Rattle.hl_model.specs.AfterPages.{held_after}
use Rattle.hl_model.specs.AfterReplies.{base_after}
use Rattle.hl_laws.proofs.RowLaws.{row_at}

row_past : {X : Type 0} (f : ℕ → Option X) (n t : ℕ) → n ≤ t → get_or (map f (range_with_len 0 n)) t None ≡ None
row_past f n t h = get_or_past (map f (range_with_len 0 n)) t None (omega (arith, h, length-map-range_with_len f 0 n))

-- as many as there are slots, and frames
pub slots-length : (b : Base) (L : List Step) → length (base_after b L).slots ≡ (base_after b L).sizes.slots
unfolding base_after
slots-length b L = length-map-range_with_len (λ t. slot_after b t L) 0 b.sizes.slots

pub frames-length : (b : Base) (L : List Step) → length (base_after b L).frames ≡ (base_after b L).sizes.frames
unfolding base_after
frames-length b L = length-map-range_with_len (held_after b L) 0 b.sizes.frames

-- the tail is that after the steps
pub tail-at : (b : Base) (L : List Step) → (base_after b L).six.tail ≡ tail_after b L
unfolding base_after
tail-at b L = refl

-- what a slot has, and what a frame holds
pub slot-at : (b : Base) (L : List Step) (t : ℕ) → t < b.sizes.slots → slot_after b t L ≡ slot_in (base_after b L) t
unfolding base_after
slot-at b L t h = sym (row_at (λ t. slot_after b t L) b.sizes.slots t None h)

pub slot-past : (b : Base) (L : List Step) (t : ℕ) → b.sizes.slots ≤ t → None ≡ slot_in (base_after b L) t
unfolding base_after
slot-past b L t h = sym (row_past (λ t. slot_after b t L) b.sizes.slots t h)

pub held-at : (b : Base) (L : List Step) (f : ℕ) → f < b.sizes.frames → held_after b L f ≡ slice_index_or (base_after b L).frames f None
unfolding base_after
held-at b L f h = sym (row_at (held_after b L) b.sizes.frames f None h)

pub held-past : (b : Base) (L : List Step) (f : ℕ) → b.sizes.frames ≤ f → None ≡ slice_index_or (base_after b L).frames f None
unfolding base_after
held-past b L f h = sym (row_past (held_after b L) b.sizes.frames f h)
