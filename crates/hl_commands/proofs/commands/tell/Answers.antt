use Rattle.std.proofs.Common.{◌∙◌, ap}
use Rattle.std.specs.Prelude.{Err}
use Rattle.std.proofs.lemmas.Result.{err_from_is_err_and}
use Rattle.hl_commands.proofs.StatusLaws.{lacked_report, report_ended}
use Rattle.hl_commands.proofs.commands.tell.Goals as goal

pub returns-in_err-shelf : goal.returns-in_err-shelf
returns-in_err-shelf g c =
    let p = err_from_is_err_and c.from_residual.result c.from_residual.ensures.1 in
    lacked_report _ _ _ _ c.in_err-shelf.field-0.0 _ c.in_err-shelf.ensures.memory (p.1 ∙ ap Err p.2)

pub returns : goal.returns
returns g c = report_ended _ _ _ _ _ _ c.in_ok-shelf.ensures.tags c.report_script.ensures.ok c.report_script.ensures.bad_line c.report_script.ensures.told c.report_script.ensures.faults
