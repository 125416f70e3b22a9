use Rattle.std.proofs.Common.{◌∙◌, ap, inl, inr}
use Rattle.std.specs.Prelude.{Err}
use Rattle.std.proofs.lemmas.Result.{err_from_is_err_and}
use Rattle.hl_commands.proofs.StatusLaws.{judge_failed, stream_failed}
use Rattle.hl_commands.proofs.judges.judge_and_tell.Goals as goal

pub returns-in_err-shelf : goal.returns-in_err-shelf
returns-in_err-shelf g c =
    let p = err_from_is_err_and c.from_residual.result c.from_residual.ensures.1 in
    judge_failed _ _ _ c.in_err-shelf.field-0.0 _ (inl c.in_err-shelf.ensures.memory) (p.1 ∙ ap Err p.2)

pub returns-in_err-verdict : goal.returns-in_err-verdict
returns-in_err-verdict g c =
    let p = err_from_is_err_and c.from_residual-in_err-verdict.result c.from_residual-in_err-verdict.ensures.1 in
    judge_failed _ _ _ c.in_err-verdict.field-0.0 _ (inr c.in_err-verdict.ensures.faults) (p.1 ∙ ap Err p.2)

pub returns-in_err-tell : goal.returns-in_err-tell
returns-in_err-tell g c =
    let p = err_from_is_err_and c.from_residual-in_err-tell.result c.from_residual-in_err-tell.ensures.1 in
    judge_failed _ _ _ c.in_err-tell.field-0.0 _ (inr (stream_failed _ c.in_err-tell.ensures.err)) (p.1 ∙ ap Err p.2)

pub returns : goal.returns
returns g c = (_, c.in_ok-shelf.ensures.tags, (c.in_ok-verdict.ensures.judges, c.in_ok-tell.ensures.text))
