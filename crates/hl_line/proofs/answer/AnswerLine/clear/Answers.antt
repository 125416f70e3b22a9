use Rattle.std.proofs.Common.{arith, [], ◌∷◌, ap, ◌∙◌}
use Rattle.std.specs.Str.{is_utf8}
use Rattle.std.proofs.lemmas.List.{length-drop, drop_all}
use Rattle.std.proofs.lemmas.Str.{IsUtf8-nil, is_utf8-from_IsUtf8}
use Rattle.hl_line.proofs.answer.AnswerLine.clear.Goals as goal

pub invariant_of-self : goal.invariant_of-self
invariant_of-self c =
    let none = drop_all 160 c.self.inside.bytes (omega (arith, c.self.invariant.1)) in
    (omega arith, c.self.invariant.1, ap is_utf8 none ∙ is_utf8-from_IsUtf8 [] IsUtf8-nil)

pub add_word-requires : goal.add_word-requires
add_word-requires c = omega (arith, length-drop 160 c.self.inside.bytes, c.self.invariant.1)

pub returns : goal.returns
returns c =
    let bytes = c.self.inside.bytes in
    c.add_word.ensures ∙ ap (λ z. 10 ∷ z) (drop_all 160 bytes (omega (arith, c.self.invariant.1)))
