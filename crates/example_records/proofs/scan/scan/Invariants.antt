use Rattle.std.proofs.Common.{ℕ, ◌-◌, List, length}
use Rattle.hl_traces.specs.Records.{Appended}
use Rattle.hl.specs.Scans.{AreBelow, CanScan}
use Rattle.example_records.specs.Records.{is_framed, rows_of}
use Rattle.example_records.proofs.scan.scan.Given as goal

-- the records below the place were found
abbrev pub invariant-loop-at : goal.invariant-loop-at
invariant-loop-at l = (records : ℕ → List Appended) → CanScan is_framed l.words records → AreBelow records l.at (rows_of l.found.items)

abbrev pub decreases-loop-at : goal.decreases-loop-at
decreases-loop-at l = length l.words - l.at
