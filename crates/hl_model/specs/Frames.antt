-- What each frame is at. Page p lies in frame p mod F (FASTER, HybridLog: a circular buffer of page frames).
use Rattle.std.specs.Prelude.{ℕ, ◌+◌, ◌-◌, ◌/◌, ◌%◌, ◌==◌, nat_lt, Bool, true, ◌&&◌, if◌then◌else◌, Option, Some, None, List}
use Rattle.hl_model.specs.declared.frame.FrameState.{FrameState}
use Rattle.hl_model.specs.declared.frame.FrameState.TheVariants.{Opened, Sealed, Flushed, Closed, Free}
use Rattle.hl_model.specs.declared.step.Step.{Step}
use Rattle.hl_model.specs.Lists.{greatest_below}
use Rattle.hl_model.specs.Sizes.{Sizes}
use Rattle.hl_model.specs.Offsets.{tail, is_entered}
use Rattle.hl_model.specs.Settled.{is_sealed, is_closed}
use Rattle.hl_model.specs.Pages.{is_flushed, is_freed}

-- the greatest entered page of frame f, if there is one
unfoldable pub last_entered : Sizes → ℕ → List Step → Option ℕ
last_entered sizes f A =
    greatest_below (λ p. is_entered sizes p A && p % sizes.frames == f) (tail sizes A / sizes.page_size + 1)

-- page q may be entered: its frame was never used, or the page that was there last is freed
abbrev pub may_enter : Sizes → ℕ → List Step → Bool
may_enter sizes q A = if nat_lt q sizes.frames then true else is_freed sizes (q - sizes.frames) A

-- what a frame is at, told its last entered page, and that page where it isn't free
abbrev pub state_of_page : Sizes → List Step → Option ℕ → FrameState × Option ℕ
state_of_page sizes A None = (Free, None)
state_of_page sizes A (Some p) =
    if is_freed sizes p A then (Free, None)
    else if is_closed sizes p A then (Closed, Some p)
    else if is_flushed sizes p A then (Flushed, Some p)
    else if is_sealed sizes p A then (Sealed, Some p)
    else (Opened, Some p)

-- what frame f is at, and its last entered page where it isn't free
abbrev pub frame_of : Sizes → ℕ → List Step → FrameState × Option ℕ
frame_of sizes f A = state_of_page sizes A (last_entered sizes f A)
