-- A ring of counts: how many slots stand at each epoch. The place of an epoch is the epoch modulo the ring's
-- length.
use Rattle.std.specs.Prelude.{◌≡◌, ℕ, ◌+◌, ◌-◌, ◌%◌, ◌<◌, ◌==◌, nat_lt, Bool, false, if◌then◌else◌, Option, Some, None, List, length, count_by, slice_index, slice_set}
use Rattle.hl_counts.specs.declared.placed.Placed.{Placed}

-- what a ring knows: the count of each place, and the turns: how many places were visited
pub record RingRecord : Type 0 where
  pub counts : List ℕ
  pub turns : ℕ

-- the place that is kept beside an epoch is the epoch's
abbrev pub HasPlace : Placed → List ℕ → Type 0
HasPlace at counts = at.place ≡ at.epoch % length counts

-- the count at an epoch's place
abbrev pub count_at : ℕ → List ℕ → ℕ
count_at epoch counts = slice_index counts (epoch % length counts)

-- the counts, with this one at an epoch's place
abbrev pub with_count : ℕ → ℕ → List ℕ → List ℕ
with_count epoch count counts = slice_set counts (epoch % length counts) count

-- one slot more is counted at an epoch
abbrev pub added : ℕ → List ℕ → List ℕ
added epoch counts = with_count epoch (count_at epoch counts + 1) counts

-- one slot less is counted at an epoch
abbrev pub removed : ℕ → List ℕ → List ℕ
removed epoch counts = with_count epoch (count_at epoch counts - 1) counts

-- a slot is counted at this place of n: it has an epoch, and the place is that epoch's
abbrev pub is_counted : ℕ → ℕ → Option ℕ → Bool
is_counted n place None = false
is_counted n place (Some epoch) = epoch % n == place

-- each place holds how many slots are counted there
pub record IsTally (epochs : List (Option ℕ)) (counts : List ℕ) : Type 0 where
  pub some : 0 < length counts
  pub each : (place : ℕ) → place < length counts →
      slice_index counts place ≡ count_by (is_counted (length counts) place) epochs

-- how many places a climb visits, from one epoch up to another, at most the current one: those of the epochs
-- that it passes, and that of the epoch at which it stops, unless that is the current one
abbrev pub visited : ℕ → ℕ → ℕ → ℕ
visited from risen current = (risen - from) + (if nat_lt risen current then 1 else 0)
