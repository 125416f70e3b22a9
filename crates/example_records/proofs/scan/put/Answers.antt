use Rattle.std.proofs.Common.{rules, ◌≡◌, ◌-◌, if◌then◌else◌, ne_eqb, [], ◌∷◌, ◌++◌, get_or, length, sym, ap, ◌∙◌}
use Rattle.std.proofs.lemmas.List.{map_push}
use Rattle.example_records.specs.declared.storing.Entry.{Entry}
use Rattle.example_records.specs.Records.{rows_of}
use Rattle.example_records.proofs.scan.put.Goals as goal

pub returns-clause-put : goal.returns-clause-put
returns-clause-put c =
    let row = c.args.row.now in
    let found = c.args.found.now.items in
    let entry : Entry = record { address = c.args.at; words = c.extend_from_slice.new.self } in
    let are : c.extend_from_slice.new.self.items ≡ row = search rules in
    let is : c.push.new.self.items ≡ found ++ entry ∷ [] = search rules in
    ap rows_of is ∙ map_push (λ (e : Entry). (e.address, e.words.items)) found entry ∙ ap (λ words. rows_of found ++ (c.args.at, words) ∷ []) are
    ∙ sym (ap (λ b. if b then rows_of found else (rows_of found ++ (c.args.at, row) ∷ [])) (ne_eqb (get_or row (length row - 1) 0) 0 c.if-row-eq0.false))
