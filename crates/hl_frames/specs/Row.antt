-- What a row of frames tells alone: its pages, and which frame is a page's.
use Rattle.std.specs.Prelude.{◌≡◌, ◌%◌, Option, List, length}
use Rattle.hl_model.specs.declared.frame.Held.{Held}
use Rattle.hl_frames.specs.declared.placed.Placed.{Placed}
use Rattle.hl_frames.specs.Pages.{Pages}

-- these frames, with nothing said of how many words a page has or how many pages were entered
abbrev pub pages_in : List (Option Held) → Pages
pages_in frames = record { page_size = 0; frames = frames; entered = 0 }

-- the frame that is kept beside a page is the page's
abbrev pub HasFrame : Placed → List (Option Held) → Type 0
HasFrame at frames = at.frame ≡ at.page % length frames
