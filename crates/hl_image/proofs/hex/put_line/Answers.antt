use Rattle.std.proofs.Common.{arith, rules, ◌≡◌, [], ◌∷◌, ◌++◌, refl}
use Rattle.std.proofs.lemmas.Grind.{common_steps}
use Rattle.hl_image.specs.Lines.{hex, line_of}
use Rattle.hl_line.proofs.Growing.{Grows-start, Grows-part, BreaksOff-part}
use Rattle.hl_image.proofs.Digits.{hex-split}
use Rattle.hl_image.proofs.hex.put_line.Goals as goal

pub returns-in_err-put-clause-left : goal.returns-in_err-put-clause-left
returns-in_err-put-clause-left g c =
    let line = line_of c.args.bytes.now in
    search (rules, BreaksOff-part _ _ _ line line _ (hex c.args.bytes.now ++ 10 ∷ []) (Grows-start _ line) refl c.in_err-put.ensures.left)

pub returns-in_err-put-2-clause-left : goal.returns-in_err-put-2-clause-left
returns-in_err-put-2-clause-left g c =
    let digits_are : c.deref.result.now ≡ hex c.split_at.result.0.now = search rules in
    let joined = hex-split _ c.loop-rest.rest.now _ _ _ c.split_at.ensures.front c.split_at.ensures.back digits_are in
    search (rules, BreaksOff-part _ _ _ (line_of c.args.bytes.now) _ _ _ c.loop-rest.invariant joined c.in_err-put-2.ensures.left)

pub loop-rest-preserved : goal.loop-rest-preserved
loop-rest-preserved g c =
    let digits_are : c.deref.result.now ≡ hex c.split_at.result.0.now = search rules in
    let joined = hex-split _ c.loop-rest.rest.now _ _ _ c.split_at.ensures.front c.split_at.ensures.back digits_are in
    Grows-part _ _ _ (line_of c.args.bytes.now) _ _ _ c.loop-rest.invariant c.in_ok-put-2.ensures.ok joined

pub returns-clause-ok : goal.returns-clause-ok
returns-clause-ok g c = grind (arith, common_steps)
