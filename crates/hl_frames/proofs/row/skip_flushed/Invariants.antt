use Rattle.std.proofs.Common.{◌≡◌, ℕ, ◌+◌, ◌-◌, ◌<◌, ◌≤◌, true}
use Rattle.hl_frames.specs.Pages.{is_flushed}
use Rattle.hl_frames.specs.Row.{pages_in, HasFrame}
use Rattle.hl_frames.proofs.row.skip_flushed.Given as goal

abbrev pub invariant-loop-at : goal.invariant-loop-at
invariant-loop-at l = record {
  placed : HasFrame l.at l.row;
  most : l.at.page ≤ l.end;
  flushed : (q : ℕ) → l.fn.from.page ≤ q → q < l.at.page → is_flushed q (pages_in l.row) ≡ true;
  turns : l.turns + l.fn.from.page ≡ l.at.page;
}

abbrev pub decreases-loop-at : goal.decreases-loop-at
decreases-loop-at l = l.end - l.at.page
