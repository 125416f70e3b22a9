-- What is true of all frames.
use Rattle.std.specs.Prelude.{◌≡◌, ℕ, ◌+◌, ◌*◌, ◌^◌, ◌<◌, ◌≤◌, ◌↔◌, true, false, Option, Some, None, length, slice_index_or}
use Rattle.std.specs.Option.{option_map}
use Rattle.hl_model.specs.declared.frame.Held.{Held}
use Rattle.hl_frames.specs.Pages.{Pages, held_for, pages_below}

-- what is true of the marks of a page that a frame holds
pub record AreMarks (held : Held) : Type 0 where
  pub in_flight_unflushed : held.in_flight ≡ true → held.flushed ≡ false
  pub cleaning_flushed : held.cleaning ≡ true → held.flushed ≡ true
  pub cleaning_unfreed : held.cleaning ≡ true → held.freed ≡ false
  pub freed_flushed : held.freed ≡ true → held.flushed ≡ true

-- the page that a frame holds
abbrev pub page_in : Option Held → Option ℕ
page_in o = option_map (λ (held : Held). held.page) o

-- page q left a frame that holds this
abbrev pub HasLeft : ℕ → Option Held → Type 0
HasLeft q None = ⊥
HasLeft q (Some held) = q < held.page

-- what is true of all frames
pub record IsFrames (T : Pages) : Type 0 where
  pub page_size_least : 4 ≤ T.page_size
  pub page_size_most : T.page_size ≤ 2 ^ 20
  pub frames_least : 2 ≤ length T.frames
  pub frames_most : length T.frames ≤ 2 ^ 16
  pub within_space : T.entered * T.page_size ≤ 2 ^ 48
  -- the pages that end at or below an offset are those below their number
  pub ends : (q offset : ℕ) → (q < pages_below offset T) ↔ ((q + 1) * T.page_size ≤ offset)
  -- each of the last F pages lies in its frame
  pub held : (q : ℕ) → q < T.entered → T.entered ≤ q + length T.frames → page_in (held_for q T) ≡ Some q
  -- each entered page before these left it
  pub left : (q : ℕ) → q + length T.frames < T.entered → HasLeft q (held_for q T)
  -- no page lies in a frame that none was entered in
  pub empty : (f : ℕ) → T.entered ≤ f → slice_index_or T.frames f None ≡ None
  pub marks : (f : ℕ) (held : Held) → slice_index_or T.frames f None ≡ Some held → AreMarks held
