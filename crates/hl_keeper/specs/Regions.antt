-- In which region an address is to a pass.
use Rattle.std.specs.Prelude.{◌≡◌, ℕ, ◌<◌, ◌≤◌}
use Rattle.hl_words.specs.declared.which.Which.TheVariants.{SafeReadOnly}
use Rattle.hl_words.specs.States.{with_view}
use Rattle.hl_words.specs.Views.{offset_of, greatest_of, looked, with_loaded}
use Rattle.hl_pass.specs.declared.region.Region.{Region}
use Rattle.hl_pass.specs.declared.region.Region.TheVariants.{Mutable, Fuzzy, ReadOnly, Evicted}
use Rattle.hl_keeper.specs.Passes.{PassRecord, seen, with_rider}

-- the last safe read-only offset that its rider loaded
abbrev pub last_safe_read_only : PassRecord → ℕ
last_safe_read_only p = offset_of SafeReadOnly (looked p.rider.view.touches)

-- the pass loaded the safe read-only offset anew, for its rider alone, and not below any that its rider had loaded
pub record LoadsSafe (old new : PassRecord) : Type 0 where
  pub pass : new ≡ with_rider
      (with_view (with_loaded SafeReadOnly (last_safe_read_only new) old.rider.view) old.rider) old
  pub rises : greatest_of SafeReadOnly (looked old.rider.view.touches) ≤ last_safe_read_only new

-- what address a is to a pass that is told this region, by what it saw, and by the safe read-only offset that it then
-- loaded; no two regions have one address
abbrev pub IsRegion : PassRecord → PassRecord → ℕ → Region → Type 0
IsRegion old new a Evicted = (a < (seen old).head) × (new ≡ old)
IsRegion old new a Mutable =
    ((seen old).head ≤ a) × ((seen old).read_only ≤ a) × (a < (seen old).tail) × (new ≡ old)
IsRegion old new a Fuzzy = ((seen old).head ≤ a) × (a < (seen old).read_only) × (a < (seen old).tail)
    × (last_safe_read_only new ≤ a) × LoadsSafe old new
IsRegion old new a ReadOnly = ((seen old).head ≤ a) × (a < (seen old).read_only) × (a < (seen old).tail)
    × (a < last_safe_read_only new) × LoadsSafe old new
