use Rattle.std.proofs.Common.{ap, refl}
use Rattle.hl.specs.Sessions.{SessionState}
use Rattle.hl.proofs.ActLaws.{meets_then, meets_one}
use Rattle.hl.proofs.ReportLaws.{both_told, first_breaks}
use Rattle.hl.proofs.session.Session.report.Goals as goal

pub returns-in-Ok-clause-reports : goal.returns-in-Ok-clause-reports
returns-in-Ok-clause-reports g c =
    let log = ap (λ (s : SessionState). s.log) c.snapshot-told.ensures.kept in (
      _,
      record {
        told = c.snapshot-told.result;
        mid = c.snapshot-told.new.self.pass.rider;
        met = c.snapshot-told.ensures.met;
        ticket = c.holders-oldest.result;
        holding = c.holders-oldest.new.row.items;
        held = rw log at c.holders-oldest.ensures.met;
        refused = c.refused_writes-refused.result;
        text_is = refl;
      },
      both_told c.put_refused.result _ _ _ _ _ (rw c.as_slice.ensures.value at c.in-Ok.ensures) c.put_refused.ensures.ok c.put_refused.ensures.err c.put_refused.ensures.left,
    )

pub returns-in-Err-clause-reports : goal.returns-in-Err-clause-reports
returns-in-Err-clause-reports g c =
    let log = ap (λ (s : SessionState). s.log) c.snapshot-told.ensures.kept in
    let broke = rw c.as_slice.ensures.value at c.in-Err.ensures in (
      _,
      record {
        told = c.snapshot-told.result;
        mid = c.snapshot-told.new.self.pass.rider;
        met = c.snapshot-told.ensures.met;
        ticket = c.holders-oldest.result;
        holding = c.holders-oldest.new.row.items;
        held = rw log at c.holders-oldest.ensures.met;
        refused = c.refused_writes-refused.result;
        text_is = refl;
      },
      (broke.0, first_breaks _ _ _ _ broke.1),
    )

pub returns-in-Ok-clause-did : goal.returns-in-Ok-clause-did
returns-in-Ok-clause-did g c =
    meets_then c.args.self.now c.snapshot-told.new.self c.holders-oldest.new.self (meets_one c.args.self.now c.snapshot-told.new.self c.snapshot-told.ensures.did)
    (meets_one c.snapshot-told.new.self c.holders-oldest.new.self c.holders-oldest.ensures.did)

pub returns-in-Err-clause-did : goal.returns-in-Err-clause-did
returns-in-Err-clause-did g c =
    meets_then c.args.self.now c.snapshot-told.new.self c.holders-oldest.new.self (meets_one c.args.self.now c.snapshot-told.new.self c.snapshot-told.ensures.did)
    (meets_one c.snapshot-told.new.self c.holders-oldest.new.self c.holders-oldest.ensures.did)
