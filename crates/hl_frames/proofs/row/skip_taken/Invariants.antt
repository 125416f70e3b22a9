use Rattle.std.proofs.Common.{◌≡◌, ℕ, ◌-◌, ◌<◌, ◌≤◌, false}
use Rattle.hl_frames.specs.Pages.{is_unflushed}
use Rattle.hl_frames.specs.Row.{pages_in, HasFrame}
use Rattle.hl_frames.proofs.row.skip_taken.Given as goal

abbrev pub invariant-loop-at : goal.invariant-loop-at
invariant-loop-at l = record {
  placed : HasFrame l.at l.row;
  least : l.fn.from.page ≤ l.at.page;
  most : l.at.page ≤ l.end;
  taken : (q : ℕ) → l.fn.from.page ≤ q → q < l.at.page → is_unflushed (pages_in l.row) q ≡ false;
}

abbrev pub decreases-loop-at : goal.decreases-loop-at
decreases-loop-at l = l.end - l.at.page
