use Rattle.std.proofs.Common.{◌≡◌, ℕ, ◌+◌, ◌-◌, ◌≤◌, ◌<◌, false, List, [], ◌++◌, length}
use Rattle.std.specs.Prelude.{Option}
use Rattle.std.specs.List.{list_any}
use Rattle.std.specs.Io.KnownBytes.{Keeps}
use Rattle.hl_script.specs.Interpreter.{is_end}
use Rattle.hl_script.specs.Input.{HasRead, budget}
use Rattle.hl_script.proofs.input.Input.take_line.Given as goal

-- the bytes of the line were taken, and none of them is its LF
abbrev pub invariant-loop-self : goal.invariant-loop-self
invariant-loop-self g l = record {
  kept : Keeps (g.W.Write.contents l.fn.out) (g.W.Write.contents l.out);
  spent : budget l.self + length l.bytes.items ≤ budget l.fn.self;
  some : l.bytes.items ≡ [] → 0 < length l.self.shown;
  no_end : list_any is_end l.bytes.items ≡ false;
  taken : (reads : ℕ) (given : Option (List ℕ)) (done : List ℕ) → HasRead reads given (g.R.Read.remaining l.fn.reader) l.fn.self done
      → HasRead reads given (g.R.Read.remaining l.reader) l.self (done ++ l.bytes.items);
}

abbrev pub decreases-loop-self : goal.decreases-loop-self
decreases-loop-self g l = 81 - length l.bytes.items
