use Rattle.std.proofs.Common.{rules, [], ◌∷◌, ◌++◌, refl}
use Rattle.std.specs.Io.KnownBytes.{Appends}
use Rattle.hl_script.proofs.KnownLaws.{Appends-more, front-more, front-longer}
use Rattle.hl_script.proofs.answers.put_line.Goals as goal

pub returns-in_err-put-clause-left : goal.returns-in_err-put-clause-left
returns-in_err-put-clause-left g c =
    let text = c.args.text.now in
    search (rules, front-longer _ _ text (10 ∷ []) (text ++ 10 ∷ []) (rw c.as_bytes.ensures.value at c.in_err-put.ensures.left) refl)

pub returns-clause-ok : goal.returns-clause-ok
returns-clause-ok g c =
    let text = c.args.text.now in
    let front : Appends (g.W.Write.contents c.args.out.now) (g.W.Write.contents c.put.new.writer) text = rw c.as_bytes.ensures.value at c.in_ok-put.ensures.ok in
    search (rules, Appends-more _ _ (g.W.Write.contents c.put-2.new.writer) text (10 ∷ []) front)

pub returns-clause-left : goal.returns-clause-left
returns-clause-left g c =
    let text = c.args.text.now in
    let front : Appends (g.W.Write.contents c.args.out.now) (g.W.Write.contents c.put.new.writer) text = rw c.as_bytes.ensures.value at c.in_ok-put.ensures.ok in
    search (rules, front-more _ _ (g.W.Write.contents c.put-2.new.writer) text (10 ∷ []) front)
