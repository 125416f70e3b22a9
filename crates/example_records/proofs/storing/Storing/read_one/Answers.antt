use Rattle.std.proofs.Common.{[], ◌∷◌, ◌++◌, ◌-◌, is_ok, sym, subst}
use Rattle.hl.specs.Traces.{acts}
use Rattle.example_records.specs.declared.storing.Entry.{Entry}
use Rattle.example_records.specs.Records.{AreTold}
use Rattle.example_records.proofs.TellLaws.{either, loads_after, loads_keep, read_told}
use Rattle.example_records.proofs.storing.Storing.read_one.Goals as goal

pub returns-in-Ok : goal.returns-in-Ok
returns-in-Ok g c = λ told.
    let report = c.args.report.now in
    let own = acts c.read.new.session in
    let entry : Entry = record { address = c.load-next.result - 1; words = c.in-Ok.words } in
    let since = loads_after (acts c.args.session.now) (acts c.keep_up.new.session) own c.keep_up.ensures c.in-Ok.ensures.loaded in
    let still = loads_keep (acts c.args.session.now) own since report.appended.items report.read.items told in
    subst (λ read. AreTold own report.appended.items read) (sym c.push.ensures.items)
    (either (λ read. AreTold own report.appended.items read) (is_ok c.push.result) (report.read.items ++ entry ∷ []) report.read.items
    (read_told entry own report.appended.items report.read.items c.in-Ok.ensures.read still) still)

pub returns-in-Err : goal.returns-in-Err
returns-in-Err g c = loads_keep _ _ (loads_after (acts c.args.session.now) (acts c.keep_up.new.session) (acts c.read.new.session) c.keep_up.ensures c.read.ensures.loaded) _ _
