-- The pages with the turns: how many frames of the row each call visited.
use Rattle.std.specs.Prelude.{ℕ, ◌+◌, ◌-◌, nat_lt, Bool, if◌then◌else◌}
use Rattle.hl_frames.specs.declared.turns.Turns.{Turns}
use Rattle.hl_frames.specs.Pages.{Pages, may_enter, is_in_flight, is_cleaning, flushed_run}
use Rattle.hl_frames.specs.Answers.{flush_ended}

-- the pages, and the turns of the last accepted call of each kind
pub record Counted : Type 0 where
  pub pages : Pages
  pub turns : Turns

-- before the first call
abbrev pub none_yet : Turns
none_yet = record { enter = 0; flush_done = 0; clean_done = 0 }

-- the turns after an enter: an accepted one takes one, at the page's frame
abbrev pub enter_turns : ℕ → Counted → Turns
enter_turns q C = if may_enter q C.pages then (record C.turns { enter = 1 }) else C.turns

-- the frames that a walk over the flushed pages visits, from the run of some pages to that of others: those
-- of the pages that the run is moved over, and that of the page at which it stops, unless none is entered
-- there
abbrev pub walked : Pages → Pages → ℕ
walked T U = (flushed_run U - flushed_run T) + (if nat_lt (flushed_run U) T.entered then 1 else 0)

-- the turns after a flush done: an accepted one takes one at the page's frame, and those of the walk
abbrev pub flush_done_turns : ℕ → Bool → Counted → Turns
flush_done_turns q ok C =
    if is_in_flight q C.pages
    then (record C.turns { flush_done = 1 + walked C.pages (flush_ended q ok C.pages) })
    else C.turns

-- the turns after a clean done: an accepted one takes one, at the page's frame
abbrev pub clean_done_turns : ℕ → Counted → Turns
clean_done_turns q C = if is_cleaning q C.pages then (record C.turns { clean_done = 1 }) else C.turns
