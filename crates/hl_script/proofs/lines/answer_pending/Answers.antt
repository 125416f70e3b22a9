use Rattle.std.proofs.Common.{◌∙◌, ap}
use Rattle.std.proofs.lemmas.Result.{err_from_is_err_and}
use Rattle.hl_model.specs.Actions.{pending}
use Rattle.hl_script.specs.Answers.{pending_text}
use Rattle.hl_script.proofs.AnswerLaws.{query_answered, query_broken}
use Rattle.hl_script.proofs.lines.answer_pending.Goals as goal

pub returns-in_err-put_line : goal.returns-in_err-put_line
returns-in_err-put_line g c = λ has sizes A standing.
    let p = err_from_is_err_and c.from_residual.result c.from_residual.ensures.1 in
    rw (p.1, p.2) (query_broken c.as_str.result.now (pending_text (pending A)) (g.W.Write.contents c.args.out.now) (g.W.Write.contents c.put_line.new.out) c.in_err-put_line.field-0.0
    (c.as_str.ensures.value ∙ c.print_pending.ensures ∙ ap pending_text (c.as_slice.ensures.value ∙ c.pending.ensures has sizes A standing)) c.in_err-put_line.ensures.err c.in_err-put_line.ensures.left)

pub returns : goal.returns
returns g c = λ has sizes A standing.
    query_answered c.as_str.result.now (pending_text (pending A)) (g.W.Write.contents c.args.out.now) (g.W.Write.contents c.put_line.new.out)
    (c.as_str.ensures.value ∙ c.print_pending.ensures ∙ ap pending_text (c.as_slice.ensures.value ∙ c.pending.ensures has sizes A standing)) c.in_ok-put_line.ensures.ok
