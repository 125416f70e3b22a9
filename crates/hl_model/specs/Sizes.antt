-- The sizes of an allocator, and their ranges.
use Rattle.std.specs.Prelude.{ℕ, ◌≤◌, ◌^◌, IsTrue}
use Rattle.std.specs.Int.{is_power_of_two}

-- how many words a page has, frames, thread slots, places of the drain list
pub record Sizes : Type 0 where
  pub page_size : ℕ
  pub frames : ℕ
  pub slots : ℕ
  pub drain : ℕ

-- what an allocator may have: so at most 2^36 words in its frames
pub record AreInRange (s : Sizes) : Type 0 where
  pub page_size_least : 4 ≤ s.page_size
  pub page_size_most : s.page_size ≤ 2 ^ 20
  pub page_size_power : IsTrue (is_power_of_two s.page_size)
  pub frames_least : 2 ≤ s.frames
  pub frames_most : s.frames ≤ 2 ^ 16
  pub slots_least : 1 ≤ s.slots
  pub slots_most : s.slots ≤ 1024
  pub drain_least : 1 ≤ s.drain
  pub drain_most : s.drain ≤ 4096

-- what a script may ask for: a line of its answers has room for all actions and all frames
pub record AreNarrow (s : Sizes) : Type 0 where
  pub in_range : AreInRange s
  pub page_size_few : s.page_size ≤ 4096
  pub frames_few : s.frames ≤ 256
  pub slots_few : s.slots ≤ 64
  pub drain_few : s.drain ≤ 64
