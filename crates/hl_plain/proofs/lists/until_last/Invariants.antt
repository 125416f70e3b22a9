use Rattle.std.proofs.Common.{◌≡◌, ◌≤◌, Bool, take}
use Rattle.std.specs.Fn.{FnReturnsAt}
use Rattle.hl_model.specs.Lists.{until_last}
use Rattle.hl_plain.proofs.lists.until_last.Given as goal

abbrev pub invariant-loop-i : goal.invariant-loop-i
invariant-loop-i g l = record {
  place : (p : _ → Bool) → ((x : _) (r : Bool) → FnReturnsAt g.F.Fn l.passes x r → r ≡ p x) → l.last ≡ until_last p (take l.i l.row);
  within : l.last ≤ l.i;
}
