-- How a crew rests that has nothing to do.
use Rattle.std.specs.Prelude.{ℕ, ◌^◌, min, Bool, true, false}
use Rattle.hl_crew.specs.Counting.{one_more}

-- how long, after so many turns in a row that got nowhere: a millisecond, doubled for each of them up to eight times,
-- and 160 at most
abbrev pub nap_of : ℕ → ℕ
nap_of vain = min 160 (2 ^ min vain 8)

-- how many turns in a row got nowhere after one more, which got somewhere or not
abbrev pub vain_after : Bool → ℕ → ℕ
vain_after true vain = 0
vain_after false vain = one_more vain
