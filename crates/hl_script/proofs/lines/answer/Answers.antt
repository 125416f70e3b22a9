use Rattle.std.proofs.Common.{Ok}
use Rattle.hl_model.specs.Actions.{pending}
use Rattle.hl_script.specs.Lines.{takes_memory}
use Rattle.hl_script.specs.Answers.{status_text, pending_text, frames_text}
use Rattle.hl_script.proofs.StandsLaws.{step_answers, query_answers, is_status, is_pending, is_frames}
use Rattle.hl_script.proofs.lines.answer.Goals as goal

pub returns-in_ok-answer_step-in-Step-clause-answers : goal.returns-in_ok-answer_step-in-Step-clause-answers
returns-in_ok-answer_step-in-Step-clause-answers g c = λ has before stands.
    let ok = c.in_ok-answer_step-in-Step in
    step_answers (g.S.Stepping.stands c.args.stepping.now) (g.S.Stepping.stands c.answer_step.new.stepping) g.S.Stepping.may_lack has before c.args.line.now c.in-Step.step (g.W.Write.contents c.args.out.now) (g.W.Write.contents c.answer_step.new.out) (Ok ok.field-0)
    c.in-Step.is stands ok.ensures

pub returns-in_ok-answer_status-in-Status-clause-answers : goal.returns-in_ok-answer_status-in-Status-clause-answers
returns-in_ok-answer_status-in-Status-clause-answers g c = λ has before stands.
    let ok = c.in_ok-answer_status-in-Status in
    query_answers (g.S.Stepping.stands c.args.stepping.now) (takes_memory g.S.Stepping.may_lack) has before c.args.line.now status_text (g.W.Write.contents c.args.out.now) (g.W.Write.contents c.answer_status.new.out) (Ok ok.field-0)
    (is_status c.args.line.now c.in-Status.is) stands ok.ensures

pub returns-in_ok-answer_pending-in-Pending-clause-answers : goal.returns-in_ok-answer_pending-in-Pending-clause-answers
returns-in_ok-answer_pending-in-Pending-clause-answers g c = λ has before stands.
    let ok = c.in_ok-answer_pending-in-Pending in
    query_answers (g.S.Stepping.stands c.args.stepping.now) (takes_memory g.S.Stepping.may_lack) has before c.args.line.now (λ sizes A. pending_text (pending A)) (g.W.Write.contents c.args.out.now) (g.W.Write.contents c.answer_pending.new.out) (Ok ok.field-0)
    (is_pending c.args.line.now c.in-Pending.is) stands ok.ensures

pub returns-in_ok-answer_frames-in-Frames-clause-answers : goal.returns-in_ok-answer_frames-in-Frames-clause-answers
returns-in_ok-answer_frames-in-Frames-clause-answers g c = λ has before stands.
    let ok = c.in_ok-answer_frames-in-Frames in
    query_answers (g.S.Stepping.stands c.args.stepping.now) (takes_memory g.S.Stepping.may_lack) has before c.args.line.now frames_text (g.W.Write.contents c.args.out.now) (g.W.Write.contents c.answer_frames.new.out) (Ok ok.field-0)
    (is_frames c.args.line.now c.in-Frames.is) stands ok.ensures
