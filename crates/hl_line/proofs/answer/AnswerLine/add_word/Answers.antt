use Rattle.std.proofs.Common.{rules, drop, arith}
use Rattle.std.proofs.lemmas.Grind.{common_steps}
use Rattle.hl_line.proofs.Texts.{text_before}
use Rattle.hl_line.proofs.answer.AnswerLine.add_word.Goals as goal

pub invariant_of-self : goal.invariant_of-self
invariant_of-self c =
    let rest = drop c.self.inside.from c.self.inside.bytes in
    (search rules, grind (arith, common_steps), text_before c.args.word.now rest _ (grind (arith, common_steps)) c.utf8.word c.self.invariant.2)
