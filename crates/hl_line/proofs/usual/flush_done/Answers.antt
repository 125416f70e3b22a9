use Rattle.std.proofs.Common.{rules, codes, ◌∷◌, ◌++◌, decimal, ap, ◌∙◌}
use Rattle.hl_line.specs.Lines.{worded}
use Rattle.hl_line.specs.Usual.{LacksFlush}
use Rattle.hl_line.proofs.Fronts.{flush_in_line}
use Rattle.hl_line.proofs.Whole.{behind_lacks, behind_found, no_page, no_ok}
use Rattle.hl_line.proofs.usual.flush_done.Goals as goal

pub returns-clause-some : goal.returns-clause-some
unfolding worded
returns-clause-some c =
    let found = c.in_ok-page in
    let page = found.page in (
      found.ensures.some.0,
      ap (λ z. 102 ∷ 108 ∷ 117 ∷ 115 ∷ 104 ∷ 32 ∷ 100 ∷ 111 ∷ 110 ∷ 101 ∷ 32 ∷ z) (flush_in_line page c.in_ok-rest.rest.now ∙ ap (λ z. decimal page ++ (32 ∷ z)) c.in_ok-rest.ensures.some ∙ found.ensures.some.1) ∙ c.in_ok-words.ensures.some,
    )

pub returns-in_err-words-clause-none : goal.returns-in_err-words-clause-none
returns-in_err-words-clause-none c =
    search (rules, behind_lacks (codes "flush done ") c.args.bytes.now LacksFlush c.in_err-words.ensures.none)

pub returns-in_err-page-clause-none : goal.returns-in_err-page-clause-none
returns-in_err-page-clause-none c =
    search (rules, behind_found (codes "flush done ") _ c.args.bytes.now LacksFlush c.in_ok-words.ensures.some (no_page _ c.in_err-page.ensures.none))

pub returns-in_err-rest-clause-none : goal.returns-in_err-rest-clause-none
returns-in_err-rest-clause-none c =
    let found = c.in_ok-page in
    search (rules, behind_found (codes "flush done ") _ c.args.bytes.now LacksFlush c.in_ok-words.ensures.some (no_ok found.page _ _ found.ensures.some.0 found.ensures.some.1 c.in_err-rest.ensures.none))
