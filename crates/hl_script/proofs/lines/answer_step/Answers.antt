use Rattle.std.proofs.Common.{refl}
use Rattle.std.proofs.lemmas.Result.{err_from_is_err_and}
use Rattle.hl_script.specs.Answers.{result_text}
use Rattle.hl_script.proofs.AnswerLaws.{step_answered, step_broken}
use Rattle.hl_script.proofs.lines.answer_step.Goals as goal

pub returns-in_err-put_result : goal.returns-in_err-put_result
returns-in_err-put_result g c = λ has sizes A standing.
    let p = err_from_is_err_and c.from_residual.result c.from_residual.ensures.1 in
    rw (p.1, p.2) (step_broken (g.S.Stepping.stands c.step.new.self) g.S.Stepping.may_lack has sizes A c.args.step.now c.in-Some.result (result_text c.in-Some.result) (g.W.Write.contents c.args.out.now) (g.W.Write.contents c.put_result.new.out) c.in_err-put_result.field-0.0
    (c.in-Some.ensures has sizes A standing) refl c.in_err-put_result.ensures.err c.in_err-put_result.ensures.left)

pub returns : goal.returns
returns g c = λ has sizes A standing.
    step_answered (g.S.Stepping.stands c.step.new.self) g.S.Stepping.may_lack has sizes A c.args.step.now c.in-Some.result (g.W.Write.contents c.args.out.now) (g.W.Write.contents c.put_result.new.out) c.is_ok.result
    (c.in-Some.ensures has sizes A standing) c.in_ok-put_result.ensures.ok c.is_ok.ensures.value
