use Rattle.std.proofs.Common.{◌∙◌, ap}
use Rattle.std.specs.Prelude.{Err}
use Rattle.std.proofs.lemmas.Result.{err_from_is_err_and}
use Rattle.hl_script.specs.Answers.{accepted}
use Rattle.hl_script.specs.Lines.{script}
use Rattle.hl_script.specs.Text.{tags_on}
use Rattle.hl_commands.proofs.StatusLaws.{lacked_text, text_stopped, text_alone, text_read, wanted_faults, no_pages, no_images, its_images}
use Rattle.hl_commands.proofs.commands.serve.Goals as goal

pub returns-in_err-shelf : goal.returns-in_err-shelf
returns-in_err-shelf g c =
    let p = err_from_is_err_and c.from_residual.result c.from_residual.ensures.1 in
    lacked_text _ _ _ _ _ c.in_err-shelf.field-0.0 _ c.in_err-shelf.ensures.memory (p.1 ∙ ap Err p.2)

pub returns-in_err-ended : goal.returns-in_err-ended
returns-in_err-ended g c =
    let p = err_from_is_err_and c.from_residual-in_err-ended.result c.from_residual-in_err-ended.ensures.1 in
    text_stopped _ _ _ _ _ _ _ c.in_err-ended.field-0.0 _ c.in_ok-shelf.ensures.tags c.in_err-ended.ensures (p.1 ∙ ap Err p.2)

-- there was no line
pub returns-in_default : goal.returns-in_default
returns-in_default g c =
    let ran = c.in_ok-ended.ensures in
    text_alone _ _ _ _ _ _ ran.0 c.in_ok-shelf.ensures.tags ran.1 ran.2 (no_pages _ _ _ (rw c.in_default.is at ran.3.0))

pub returns-then-flush : goal.returns-then-flush
returns-then-flush g c =
    let ran = c.in_ok-ended.ensures in
    let left = rw c.in-Some.is at ran.3.1 in
    let A = accepted (tags_on c.in_ok-shelf.shelf) (script ran.0) in
    text_read _ _ _ _ _ _ _ ran.0 _ _ c.in_ok-shelf.ensures.tags ran.1 ran.2 (c.write_images.ensures.images A left.standing)
    (its_images _ _ ran.0 _ c.if-flush.true left.sizes) (wanted_faults _ _ c.if-flush.true c.write_images.ensures.faults)

pub returns-else-flush : goal.returns-else-flush
returns-else-flush g c =
    let ran = c.in_ok-ended.ensures in
    text_alone _ _ _ _ _ _ ran.0 c.in_ok-shelf.ensures.tags ran.1 ran.2 (no_images _ _ _ c.if-flush.false)
