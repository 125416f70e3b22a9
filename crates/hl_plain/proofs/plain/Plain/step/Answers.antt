use Rattle.hl_plain.proofs.BehindLaws.{answers_are, follows_stay}
use Rattle.hl_plain.proofs.plain.Plain.step.Goals as goal

pub returns-clause-behind : goal.returns-clause-behind
returns-clause-behind c = λ A f. answers_are c.args.self.now A c.args.step.now c.make.result c.make.new.self f c.make.ensures.answer

pub returns-clause-follows : goal.returns-clause-follows
returns-clause-follows c = λ A f. follows_stay c.args.self.now A c.args.step.now c.make.result c.make.new.self f c.make.ensures.answer
