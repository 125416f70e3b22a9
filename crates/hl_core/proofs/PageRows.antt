-- What the frames of a list hold.
use Rattle.std.proofs.Common.{◌≡◌, ℕ, ◌%◌, ◌<◌, Bool, List, length, get_or, refl, ap, ◌∙◌}
use Rattle.std.specs.Prelude.{Option, Some, None}
use Rattle.std.proofs.Math.Nat.{mod-lt}
use Rattle.std.proofs.lemmas.List.FromFn.{length-map-range_with_len}
use Rattle.hl_model.specs.declared.frame.Held.{Held}
use Rattle.hl_model.specs.declared.step.Step.{Step}
use Rattle.hl_model.specs.Sizes.{Sizes}
use Rattle.hl_model.specs.Bases.{base_of, held_of, completed_in, marked_in, held_in}
use Rattle.hl_laws.proofs.RowLaws.{row_at}
use Rattle.hl_frames.specs.Pages.{held_for, left_or_marked, is_marked}
use Rattle.hl_core.specs.Standing.{pages_of}

-- there is a place for each frame
pub length-frames : (sizes : Sizes) (A : List Step) → length (pages_of sizes A).frames ≡ sizes.frames
length-frames sizes A = length-map-range_with_len (held_of sizes A) 0 sizes.frames

-- what a frame holds
pub frame_holds : (sizes : Sizes) (A : List Step) (f : ℕ) → f < sizes.frames → get_or (pages_of sizes A).frames f None ≡ held_of sizes A f
frame_holds sizes A f h = row_at (held_of sizes A) sizes.frames f None h

-- what a page's frame holds is what it holds in the base
held_for-base : (sizes : Sizes) (A : List Step) (q : ℕ) → held_for q (pages_of sizes A) ≡ held_in (base_of sizes A) q
unfolding base_of
held_for-base sizes A q = ap (λ n. get_or (pages_of sizes A).frames (q % n) None) (length-frames sizes A)

-- and that is its frame's last page
pub held_for-is : (sizes : Sizes) (A : List Step) (q : ℕ) → 0 < sizes.frames → held_for q (pages_of sizes A) ≡ held_of sizes A (q % sizes.frames)
unfolding base_of
held_for-is sizes A q some = held_for-base sizes A q ∙ frame_holds sizes A (q % sizes.frames) (mod-lt q some)

completed_core : (mark : Held → Bool) (q : ℕ) (o : Option Held) → left_or_marked mark q o ≡ completed_in mark q o
completed_core mark q None = refl
completed_core mark q (Some held) = refl

marked_core : (mark : Held → Bool) (q : ℕ) (o : Option Held) → is_marked mark q o ≡ marked_in mark q o
marked_core mark q None = refl
marked_core mark q (Some held) = refl

-- a mark that stays when the page leaves its frame, as the base tells it
pub left_or_marked-is : (sizes : Sizes) (A : List Step) (q : ℕ) (mark : Held → Bool) → left_or_marked mark q (held_for q (pages_of sizes A)) ≡ completed_in mark q (held_in (base_of sizes A) q)
left_or_marked-is sizes A q mark = ap (left_or_marked mark q) (held_for-base sizes A q) ∙ completed_core mark q (held_in (base_of sizes A) q)

-- a mark that is gone then
pub is_marked-is : (sizes : Sizes) (A : List Step) (q : ℕ) (mark : Held → Bool) → is_marked mark q (held_for q (pages_of sizes A)) ≡ marked_in mark q (held_in (base_of sizes A) q)
is_marked-is sizes A q mark = ap (is_marked mark q) (held_for-base sizes A q) ∙ marked_core mark q (held_in (base_of sizes A) q)
