use Rattle.std.proofs.Common.{◌≡◌, ◌≤◌, take}
use Rattle.std.specs.List.{count_by}
use Rattle.hl_model.specs.Actions.{stores}
use Rattle.hl_plain.proofs.actions.stored_at.Given as goal

abbrev pub invariant-loop-k : goal.invariant-loop-k
invariant-loop-k l = record {
  count : l.count ≡ count_by stores (take l.k l.steps);
  most : l.count ≤ l.behind;
  within : l.count ≤ l.k;
}
