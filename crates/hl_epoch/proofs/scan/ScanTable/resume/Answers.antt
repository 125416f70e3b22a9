use Rattle.std.proofs.Common.{rules, sym, ◌∙◌}
use Rattle.hl_epoch.proofs.Tables.{IsTable-opened}
use Rattle.hl_epoch.proofs.scan.ScanTable.resume.Goals as goal

pub invariant_of-result : goal.invariant_of-result
invariant_of-result c =
    let r = c.requires in
    let row = c.in_ok-filled.ensures in
    (rw row.items (IsTable-opened _ _ _ r.slots_least r.slots_most r.window_least r.window_most r.current_least r.current_most), row.exact ∙ sym row.len)

pub returns-clause-valid : goal.returns-clause-valid
returns-clause-valid c = (invariant_of-result c).0

pub returns-clause-ok : goal.returns-clause-ok
returns-clause-ok c = search rules
