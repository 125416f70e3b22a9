-- What the fields keep beside the row of frames.
use Rattle.std.specs.Prelude.{◌≡◌, ℕ, ◌+◌, ◌<◌, ◌≤◌, Bool, true, false, length, vec_capacity}
use Rattle.std.specs.List.{range_with_len, count_by}
use Rattle.hl_frames.specs.declared.turns.Turns.{Turns}
use Rattle.hl_frames.specs.declared.frames.Frames.TheInside.{Inside}
use Rattle.hl_frames.specs.Pages.{Pages, is_flushed, is_freed, is_unflushed, is_uncleaned, flushed_run}
use Rattle.hl_frames.specs.Counted.{Counted}
use Rattle.hl_frames.specs.IsFrames.{IsFrames}
use Rattle.hl_frames.specs.Row.{HasFrame}

-- the pages of these fields
abbrev pub pages_of : Inside → Pages
pages_of a = record { page_size = a.page_size; frames = a.held.items; entered = a.entered }

-- the pages and the turns of these fields
abbrev pub counted_of : Inside → Counted
counted_of a = record { pages = pages_of a; turns = a.turns }

-- how many entered pages are flushed, with those that left their frames
abbrev pub count_flushed : Pages → ℕ
count_flushed T = count_by (λ q. is_flushed q T) (range_with_len 0 T.entered)

-- how many are freed, likewise
abbrev pub count_freed : Pages → ℕ
count_freed T = count_by (λ q. is_freed q T) (range_with_len 0 T.entered)

-- the stored counts of pages
pub record AreCounts (T : Pages) (flushed freed : ℕ) : Type 0 where
  pub of_flushed : flushed ≡ count_flushed T
  pub of_freed : freed ≡ count_freed T

-- page q is the least that waits
pub record IsLeast (waits : ℕ → Bool) (q : ℕ) : Type 0 where
  pub before : (k : ℕ) → k < q → waits k ≡ false
  pub here : waits q ≡ true

-- the pages that wait are q and those above it
pub record IsFirst (waits : ℕ → Bool) (q : ℕ) : Type 0 where
  pub before : (k : ℕ) → k < q → waits k ≡ false
  pub behind : (k : ℕ) → q ≤ k → waits k ≡ true

-- the stored pages: where the flushed run ends, and which page waits next
pub record AreStored (T : Pages) (run to_flush to_clean : ℕ) : Type 0 where
  pub flushed : run ≡ flushed_run T
  pub unflushed : IsLeast (is_unflushed T) to_flush
  pub uncleaned : IsFirst (is_uncleaned T) to_clean

-- the bounds of each call, where there are so many frames
pub record AreTurns (turns : Turns) (frames : ℕ) : Type 0 where
  pub enter : turns.enter ≤ 1
  pub flush_done : turns.flush_done ≤ frames + 2
  pub clean_done : turns.clean_done ≤ 1

-- what is true of the fields
pub record IsKept (a : Inside) : Type 0 where
  pub pages : IsFrames (pages_of a)
  pub stored : AreStored (pages_of a) a.run.page a.to_flush.page a.to_clean.page
  pub counts : AreCounts (pages_of a) a.flushed a.freed
  pub run_placed : HasFrame a.run a.held.items
  pub to_flush_placed : HasFrame a.to_flush a.held.items
  pub to_clean_placed : HasFrame a.to_clean a.held.items
  -- the row has room for its frames, and for no more
  pub room : vec_capacity a.held ≡ length a.held.items
  pub turns : AreTurns a.turns (length a.held.items)
