use Rattle.std.proofs.Common.{◌≡◌, [], ◌∷◌, ◌++◌, true, false, cond, ap, ◌∙◌, rules}
use Rattle.std.specs.Prelude.{Some, None}
use Rattle.std.specs.Vec.{vec_len}
use Rattle.hl_script.specs.Lines.{is_config, takes_memory}
use Rattle.hl_script.specs.Fast.{IsFast, FastStands}
use Rattle.hl_script.specs.Answers.{reply_line}
use Rattle.hl_script.proofs.StandsLaws.{stands_behind, is_not}
use Rattle.hl_judge.proofs.TraceLaws.{answered_none, answered_some, popped, entry_agrees, entry_deviates}
use Rattle.hl_judge.proofs.run.judge_line.Goals as goal

pub returns-in-Ok-None-clause-found : goal.returns-in-Ok-None-clause-found
returns-in-Ok-None-clause-found g c = λ has before standing.
    let fast = c.args.answering.now.fast in
    let line = c.in-Some.line in
    let stands = FastStands c.answer.new.self.fast.shelf c.answer.new.self.fast.engine in
    let none = answered_none stands (takes_memory false) has before line (Some c.clear.new.self.items) (Some c.answer.new.out.items) _ c.in-Ok-None.field-0-is (c.in-Ok-None.ensures.answers has before standing) in
    let may = stands_behind (IsFast fast.shelf fast.engine) has before line true standing none in
    c.in-Some.ensures.exact before ∙ ap (λ b. cond b (Some (record { line = line; reply = c.in-Some.reply.now })) None) may

pub returns-then-eq-clause-found : goal.returns-then-eq-clause-found
returns-then-eq-clause-found g c = λ has before standing.
    let fast = c.args.answering.now.fast in
    let line = c.in-Some.line in
    let stands = FastStands c.answer.new.self.fast.shelf c.answer.new.self.fast.engine in
    let answered = answered_some stands (takes_memory false) has before line (Some c.clear.new.self.items) (Some c.answer.new.out.items) _ _ c.in-Ok-Some.field-0-is (c.in-Ok-Some.ensures.answers has before standing) in
    let behind : is_config line ≡ false = is_not (is_config line) (λ is. (let never = c.in-Ok-Some.ensures.config is in cc)) in
    let may = stands_behind (IsFast fast.shelf fast.engine) has before line false standing behind in
    let reply = reply_line has before line in
    let wrote : c.answer.new.out.items ≡ reply ++ 10 ∷ [] = answered.wrote ∙ ap (λ z. z ++ (reply ++ 10 ∷ [])) c.clear.ensures.items in
    let told : c.pop.new.self.items ≡ reply = popped reply c.answer.new.out.items c.pop.new.self.items (vec_len c.answer.new.out) wrote c.pop.ensures.rest (search rules) in
    entry_agrees stands has before c.args.bytes.now c.in-Some.reply.now c.pop.new.self.items line (c.in-Some.ensures.exact before) may told (search rules) answered.standing

pub returns-else-eq-clause-found : goal.returns-else-eq-clause-found
returns-else-eq-clause-found g c = λ has before standing.
    let fast = c.args.answering.now.fast in
    let line = c.in-Some.line in
    let stands = FastStands c.answer.new.self.fast.shelf c.answer.new.self.fast.engine in
    let answered = answered_some stands (takes_memory false) has before line (Some c.clear.new.self.items) (Some c.answer.new.out.items) _ _ c.in-Ok-Some.field-0-is (c.in-Ok-Some.ensures.answers has before standing) in
    let behind : is_config line ≡ false = is_not (is_config line) (λ is. (let never = c.in-Ok-Some.ensures.config is in cc)) in
    let may = stands_behind (IsFast fast.shelf fast.engine) has before line false standing behind in
    let reply = reply_line has before line in
    let wrote : c.answer.new.out.items ≡ reply ++ 10 ∷ [] = answered.wrote ∙ ap (λ z. z ++ (reply ++ 10 ∷ [])) c.clear.ensures.items in
    let told : c.pop.new.self.items ≡ reply = popped reply c.answer.new.out.items c.pop.new.self.items (vec_len c.answer.new.out) wrote c.pop.ensures.rest (search rules) in
    entry_deviates has before c.args.bytes.now c.in-Some.reply.now c.pop.new.self.items line (c.in-Some.ensures.exact before) may told (search rules)
