use Rattle.std.proofs.Common.{◌≡◌, [], ◌∷◌, ◌++◌, refl, sym, ap, ◌∙◌, subst}
use Rattle.hl.specs.Traces.{acts}
use Rattle.example_records.specs.declared.storing.Entry.{Entry}
use Rattle.example_records.specs.Records.{AreTold}
use Rattle.example_records.proofs.storing.Storing.append_one.Goals as goal

pub returns-in-Some-append : goal.returns-in-Some-append
returns-in-Some-append g c = λ told.
    let report = c.args.report.now in
    let entry : Entry = record { address = c.in-Some-append.address; words = c.in-Ok.words } in
    let are : c.push_reserved.new.self.items ≡ report.appended.items ++ entry ∷ [] = c.push_reserved.ensures.items ∙ ap (λ l. l ++ entry ∷ []) c.reserve.ensures.items in
    subst (λ appended. AreTold (acts c.append.new.session) appended report.read.items) (sym are)
    (c.in-Some-append.ensures.told entry refl (sym c.deref-2.ensures.value) report.appended.items report.read.items told)

pub returns-in_default-append : goal.returns-in_default-append
returns-in_default-append g c = λ told.
    let report = c.args.report.now in
    subst (λ appended. AreTold (acts c.append.new.session) appended report.read.items) (sym c.reserve.ensures.items)
    (c.in_default-append.ensures.kept report.appended.items report.read.items told)
