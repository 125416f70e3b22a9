use Rattle.std.proofs.Common.{◌≡◌, ◌+◌, ◌++◌, ◌∷◌, [], length, take, sym, ap, ◌∙◌}
use Rattle.hl_line.specs.Lines.{spelling}
use Rattle.std.proofs.lemmas.List.{length_push}
use Rattle.hl_judge.proofs.SpellingLaws.{usual_line}
use Rattle.hl_judge.proofs.line.usual.Goals as goal

pub returns-then-length-len : goal.returns-then-length-len
returns-then-length-len c =
    let bytes = c.args.bytes.now in
    let front = c.in_ok-length.ensures.line in
    let text : c.as_slice.result.now ≡ bytes ++ 10 ∷ [] = c.as_slice.ensures.value ∙ c.push.ensures.items ∙ ap (λ z. z ++ 10 ∷ []) (c.in-Ok.ensures.ok ∙ ap (λ z. z ++ bytes) c.new-text.ensures) in
    let all : c.in_ok-length.length ≡ length bytes + 1 = c.if-length-len.true ∙ c.len.ensures.value ∙ ap length (sym c.as_slice.ensures.value ∙ text) ∙ length_push bytes 10 in
    (front.0, usual_line bytes (spelling c.read_front.new.line) c.in_ok-length.length all (front.1 ∙ ap (take c.in_ok-length.length) text))
