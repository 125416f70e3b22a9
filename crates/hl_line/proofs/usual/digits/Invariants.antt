use Rattle.std.proofs.Common.{◌≡◌, ◌-◌, ◌<◌, ◌≤◌, ◌^◌, length, take, decimal}
use Rattle.hl_line.proofs.usual.digits.Given as goal

-- the number of the first digits
abbrev pub invariant-loop-count : goal.invariant-loop-count
invariant-loop-count l = record {
  some : 0 < l.number;
  fits : l.number < 2 ^ 64;
  within : l.count ≤ length l.bytes;
  value : decimal l.number ≡ take l.count l.bytes;
}

abbrev pub decreases-loop-count : goal.decreases-loop-count
decreases-loop-count l = length l.bytes - l.count
