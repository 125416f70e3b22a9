use Rattle.std.proofs.Common.{rules, arith, length, decimal, ap, length-append}
use Rattle.std.proofs.Math.ListN.{drop}
use Rattle.std.proofs.lemmas.Fmt.{IsAscii-decimal}
use Rattle.std.proofs.lemmas.List.{length-drop}
use Rattle.std.proofs.lemmas.Str.{IsUtf8-from_ascii}
use Rattle.hl_line.proofs.Texts.{decimal_short, text_before}
use Rattle.hl_line.proofs.answer.AnswerLine.add_number.Goals as goal

pub write_digits-self-inside-requires : goal.write_digits-self-inside-requires
write_digits-self-inside-requires c =
    let inside = c.self.inside in
    let short = decimal_short c.args.number c.ranges.number.fits in (
      omega (arith, short, c.requires, ap length c.self.view_is, length-drop inside.from inside.bytes, c.self.invariant.1),
      omega (arith, c.self.invariant.0, c.self.invariant.1),
    )

pub invariant_of-self : goal.invariant_of-self
invariant_of-self c =
    let inside = c.self.inside in
    let number = decimal c.args.number in
    let digits = IsUtf8-from_ascii number (IsAscii-decimal c.args.number c.ranges.number.fits) in (
      omega (arith, c.self.invariant.0, c.write_digits-self-inside.ensures.start),
      search rules,
      text_before number (drop inside.from inside.bytes) _ c.write_digits-self-inside.ensures.written digits c.self.invariant.2,
    )

pub add_word-requires : goal.add_word-requires
add_word-requires c =
    let inside = c.self.inside in
    let written = c.write_digits-self-inside.ensures.written in
    let short = decimal_short c.args.number c.ranges.number.fits in
    let long = length-append (decimal c.args.number) (drop inside.from inside.bytes) in
    omega (arith, short, c.requires, ap length c.self.view_is, ap length written, long)

pub returns-clause-short : goal.returns-clause-short
returns-clause-short c =
    let inside = c.self.inside in
    let written = c.write_digits-self-inside.ensures.written in
    let short = decimal_short c.args.number c.ranges.number.fits in
    let long = length-append (decimal c.args.number) (drop inside.from inside.bytes) in
    omega (arith, short, ap length c.add_word.ensures, ap length c.self.view_is, ap length written, long)
