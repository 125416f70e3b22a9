-- The pages that frames hold, with the marks of each. A page that left its frame was flushed and freed there.
use Rattle.std.specs.Prelude.{ℕ, ◌*◌, ◌/◌, ◌%◌, ◌-◌, ◌==◌, ◌&&◌, ◌||◌, nat_lt, not, Bool, true, false, if◌then◌else◌, Option, Some, None, List, length, find, slice_index_or}
use Rattle.std.specs.List.{range_with_len, prefix_len}
use Rattle.hl_model.specs.declared.frame.Held.{Held}

-- how many words a page has; what each frame holds, None where nothing was entered; how many pages were
-- entered, 0 and on
pub record Pages : Type 0 where
  pub page_size : ℕ
  pub frames : List (Option Held)
  pub entered : ℕ

-- what the frame of page q holds
abbrev pub held_for : ℕ → Pages → Option Held
held_for q T = slice_index_or T.frames (q % length T.frames) None

-- page q left the frame, or the frame holds it with this mark
abbrev pub left_or_marked : (Held → Bool) → ℕ → Option Held → Bool
left_or_marked mark q None = false
left_or_marked mark q (Some held) = nat_lt q held.page || (q == held.page && mark held)

-- the frame holds page q with this mark
abbrev pub is_marked : (Held → Bool) → ℕ → Option Held → Bool
is_marked mark q None = false
is_marked mark q (Some held) = q == held.page && mark held

-- page q is flushed
abbrev pub is_flushed : ℕ → Pages → Bool
is_flushed q T = left_or_marked (λ held. held.flushed) q (held_for q T)

-- page q is being flushed
abbrev pub is_in_flight : ℕ → Pages → Bool
is_in_flight q T = is_marked (λ held. held.in_flight) q (held_for q T)

-- page q is freed
abbrev pub is_freed : ℕ → Pages → Bool
is_freed q T = left_or_marked (λ held. held.freed) q (held_for q T)

-- page q is being cleaned
abbrev pub is_cleaning : ℕ → Pages → Bool
is_cleaning q T = is_marked (λ held. held.cleaning) q (held_for q T)

-- page q's frame is free: no page was entered in it, or the one before q is freed
abbrev pub may_enter : ℕ → Pages → Bool
may_enter q T = if nat_lt q (length T.frames) then true else is_freed (q - length T.frames) T

-- how many pages end at or below an offset: those below this number
abbrev pub pages_below : ℕ → Pages → ℕ
pages_below offset T = offset / T.page_size

-- page q waits to be flushed, once it is sealed
abbrev pub is_unflushed : Pages → ℕ → Bool
is_unflushed T q = not (is_flushed q T || is_in_flight q T)

-- the least sealed page that is neither flushed nor in flight
abbrev pub next_to_flush : ℕ → Pages → Option ℕ
next_to_flush sro T = find (is_unflushed T) (range_with_len 0 (pages_below sro T))

-- page q waits to be cleaned, once it is closed
abbrev pub is_uncleaned : Pages → ℕ → Bool
is_uncleaned T q = not (is_freed q T || is_cleaning q T)

-- the least closed page that is neither freed nor being cleaned
abbrev pub next_to_clean : ℕ → Pages → Option ℕ
next_to_clean closed T = find (is_uncleaned T) (range_with_len 0 (pages_below closed T))

-- how many pages from page 0 on are flushed, none left out
abbrev pub flushed_run : Pages → ℕ
flushed_run T = prefix_len (λ q. is_flushed q T) (range_with_len 0 T.entered)

-- the flushed offset
abbrev pub flushed_offset : Pages → ℕ
flushed_offset T = flushed_run T * T.page_size
