use Rattle.std.proofs.Common.{rules, codes, ◌∷◌, ap, ◌∙◌}
use Rattle.hl_line.specs.Lines.{worded}
use Rattle.hl_line.specs.Usual.{LacksThree}
use Rattle.hl_line.proofs.Fronts.{three_in_line}
use Rattle.hl_line.proofs.Whole.{behind_lacks, behind_found}
use Rattle.hl_line.proofs.usual.write.Goals as goal

pub returns-clause-some : goal.returns-clause-some
unfolding worded
returns-clause-some c =
    let found = c.in_ok-t in
    let fit = found.ensures.fit in (
      (fit.0, (fit.1, fit.2)),
      ap (λ z. 119 ∷ 114 ∷ 105 ∷ 116 ∷ 101 ∷ 32 ∷ z) (three_in_line found.t found.a found.v found.rest.now ∙ found.ensures.bytes) ∙ c.in_ok-words.ensures.some,
    )

pub returns-in_err-words-clause-none : goal.returns-in_err-words-clause-none
returns-in_err-words-clause-none c =
    search (rules, behind_lacks (codes "write ") c.args.bytes.now LacksThree c.in_err-words.ensures.none)

pub returns-in_err-t-clause-none : goal.returns-in_err-t-clause-none
returns-in_err-t-clause-none c =
    search (rules, behind_found (codes "write ") _ c.args.bytes.now LacksThree c.in_ok-words.ensures.some c.in_err-t.ensures.none)
