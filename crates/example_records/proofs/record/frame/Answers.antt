use Rattle.std.proofs.Common.{rules, ◌≡◌, true, [], ◌++◌, sym, ap, ◌∙◌, subst}
use Rattle.example_records.specs.Records.{framed, is_framed}
use Rattle.example_records.proofs.ScanLaws.{framed_is}
use Rattle.example_records.proofs.record.frame.Goals as goal

pub returns-in-Ok-clause-framed : goal.returns-in-Ok-clause-framed
returns-in-Ok-clause-framed c =
    let none : c.new-words.result.items ≡ [] = search rules in
    subst (λ row. is_framed row ≡ true) (sym (c.in-Ok.ensures ∙ ap (λ l. l ++ framed c.args.contents.now) none)) (framed_is c.args.contents.now)
