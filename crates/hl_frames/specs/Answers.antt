-- What each call answers, and what it makes of the pages.
use Rattle.std.specs.Prelude.{ℕ, ◌+◌, ◌%◌, nat_lt, Bool, true, false, if◌then◌else◌, Option, Some, None, Result, Ok, Err, List, length, map, replicate, slice_index_or, slice_set}
use Rattle.std.specs.List.{range_with_len}
use Rattle.std.specs.Option.{option_map}
use Rattle.hl_model.specs.declared.fault.Fault.{Fault}
use Rattle.hl_model.specs.declared.fault.Fault.TheVariants.{Busy, NotInFlight, NotCleaning}
use Rattle.hl_model.specs.declared.frame.Held.{Held}
use Rattle.hl_model.specs.declared.frame.FrameState.{FrameState}
use Rattle.hl_model.specs.declared.frame.FrameState.TheVariants.{Opened, Sealed, Flushed, Closed, Free}
use Rattle.hl_model.specs.Snapshots.{state_counts}
use Rattle.hl_frames.specs.Pages.{Pages, held_for, may_enter, is_in_flight, is_cleaning, pages_below, flushed_offset}

-- no page was entered
abbrev pub opened : ℕ → ℕ → Pages
opened page_size frames = record { page_size = page_size; frames = replicate frames None; entered = 0 }

-- a page with no mark
abbrev pub unmarked : ℕ → Held
unmarked q = record { page = q; flushed = false; in_flight = false; freed = false; cleaning = false }

-- what page q's frame holds is changed
abbrev pub changed : ℕ → (Held → Held) → Pages → Pages
changed q change T =
    record T { frames = slice_set T.frames (q % length T.frames) (option_map change (held_for q T)) }

-- page q is entered
abbrev pub entered : ℕ → Pages → Pages
entered q T =
    record T { frames = slice_set T.frames (q % length T.frames) (Some (unmarked q)); entered = q + 1 }

-- page q is in flight
abbrev pub flush_begun : ℕ → Pages → Pages
flush_begun q T = changed q (λ held. record held { in_flight = true }) T

-- page q is in flight no longer, and flushed where that is ok
abbrev pub flush_ended : ℕ → Bool → Pages → Pages
flush_ended q ok T = changed q (λ held. record held { in_flight = false; flushed = ok }) T

-- page q is being cleaned
abbrev pub clean_begun : ℕ → Pages → Pages
clean_begun q T = changed q (λ held. record held { cleaning = true }) T

-- page q is being cleaned no longer, and freed
abbrev pub clean_ended : ℕ → Pages → Pages
clean_ended q T = changed q (λ held. record held { cleaning = false; freed = true }) T

-- a page, or this fault where there is none
abbrev pub page_or : Fault → Option ℕ → Result ℕ Fault
page_or fault None = Err fault
page_or fault (Some q) = Ok q

-- the pages after a take of this page, if any
abbrev pub after_take : (ℕ → Pages → Pages) → Option ℕ → Pages → Pages
after_take begun None T = T
after_take begun (Some q) T = begun q T

-- what an enter answers: a page whose frame isn't free is refused
abbrev pub enter_answer : ℕ → Pages → Result Unit Fault
enter_answer q T = if may_enter q T then Ok tt else Err (Busy q)

-- the pages after an enter
abbrev pub after_enter : ℕ → Pages → Pages
after_enter q T = if may_enter q T then entered q T else T

-- what a flush done answers: the flushed offset after it, where the page is in flight
abbrev pub flush_done_answer : ℕ → Bool → Pages → Result ℕ Fault
flush_done_answer q ok T =
    if is_in_flight q T then Ok (flushed_offset (flush_ended q ok T)) else Err NotInFlight

-- the pages after a flush done
abbrev pub after_flush_done : ℕ → Bool → Pages → Pages
after_flush_done q ok T = if is_in_flight q T then flush_ended q ok T else T

-- what a clean done answers
abbrev pub clean_done_answer : ℕ → Pages → Result Unit Fault
clean_done_answer q T = if is_cleaning q T then Ok tt else Err NotCleaning

-- the pages after a clean done
abbrev pub after_clean_done : ℕ → Pages → Pages
after_clean_done q T = if is_cleaning q T then clean_ended q T else T

-- the state of a frame that holds this, where so many pages are sealed, and so many closed
abbrev pub state_in : ℕ → ℕ → Option Held → FrameState × Option ℕ
state_in sealed closed None = (Free, None)
state_in sealed closed (Some held) =
    if held.freed then (Free, None) else (
    if nat_lt held.page closed then (Closed, Some held.page) else (
    if held.flushed then (Flushed, Some held.page) else (
    if nat_lt held.page sealed then (Sealed, Some held.page) else (Opened, Some held.page))))

-- the state of frame f, and its last entered page where it isn't free
abbrev pub state_of : ℕ → ℕ → ℕ → Pages → FrameState × Option ℕ
state_of f sro closed T = state_in (pages_below sro T) (pages_below closed T) (slice_index_or T.frames f None)

-- what each frame is at
unfoldable pub states : ℕ → ℕ → Pages → List FrameState
states sro closed T = map (λ f. (state_of f sro closed T).0) (range_with_len 0 (length T.frames))

-- how many frames are open, sealed, flushed, closed and free
abbrev pub counts_of : ℕ → ℕ → Pages → List ℕ
counts_of sro closed T = state_counts (states sro closed T)
