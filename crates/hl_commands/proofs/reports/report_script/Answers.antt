use Rattle.std.proofs.Common.{◌∙◌, ap}
use Rattle.hl_model.specs.Snapshots.{snapshot_of}
use Rattle.hl_script.specs.Answers.{accepted}
use Rattle.hl_script.specs.Lines.{script}
use Rattle.hl_script.specs.Text.{tags_on}
use Rattle.hl_commands.proofs.ReportLaws.{report_told, report_written}
use Rattle.hl_commands.proofs.reports.report_script.Goals as goal

pub returns-in-Ok-Some-clause-ok : goal.returns-in-Ok-Some-clause-ok
returns-in-Ok-Some-clause-ok g c =
    let ran = rw c.in-Ok-Some.field-0-is at c.in-Ok-Some.ensures in
    let A = accepted (tags_on c.args.shelf) (script ran.0) in
    let now = c.snapshot.ensures A ran.3.1.standing ∙ ap (λ sizes. snapshot_of sizes A) ran.3.1.sizes in
    let text = report_told (tags_on c.args.shelf) (script ran.0) _ c.snapshot.result ran.3.0 now in
    report_written _ _ _ _ _ _ _ c.report.result ran.1 text c.report.ensures.ok
