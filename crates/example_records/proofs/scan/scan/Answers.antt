use Rattle.std.proofs.Common.{arith, ℕ, Some, sym, ap, ◌∙◌, subst}
use Rattle.std.proofs.lemmas.Option.{slice_get-get_or}
use Rattle.hl.specs.Scans.{AreBelow}
use Rattle.example_records.specs.Records.{rows_of}
use Rattle.example_records.proofs.ScanLaws.{broken, stepped}
use Rattle.example_records.proofs.scan.scan.Goals.{else-loop-at-test, then-loop-at-test+else-count-eq0+then-words-at}
use Rattle.example_records.proofs.scan.scan.Goals as goal

pub loop-at-init : goal.loop-at-init
loop-at-init c = λ records can. subst (AreBelow records 0) (sym (ap rows_of c.new-found.ensures.items)) can.start

pub loop-at-preserved-then-count-eq0 : goal.loop-at-preserved-then-count-eq0
loop-at-preserved-then-count-eq0 c = λ records can.
    can.pass c.loop-at.at (rows_of c.loop-at.found.items) (c.loop-at.invariant records can)
    (slice_get-get_or c.args.words.now c.loop-at.at 0 c.loop-at-test.true ∙ ap (λ (n : ℕ). Some n) c.if-count-eq0.true)

pub loop-at-preserved : goal.loop-at-preserved
loop-at-preserved c = λ records can.
    stepped c.args.words.now records can c.loop-at.at (rows_of c.loop-at.found.items) (c.loop-at.invariant records can)
    (slice_get-get_or c.args.words.now c.loop-at.at 0 c.loop-at-test.true) c.if-count-eq0.false (omega (arith, c.if-words-at.false, c.loop-at-test.true)) c.in_ok-put.ensures.put

pub returns-clause-scanned : goal.returns-clause-scanned
returns-clause-scanned c = λ records can.
    elim c.loop-at-test.branch [
      | else-loop-at-test w ↦ can.end c.loop-at.at (rows_of c.loop-at.found.items) (c.loop-at.invariant records can) w.loop-at-test.false
      | then-loop-at-test+else-count-eq0+then-words-at w ↦ broken c.args.words.now records can c.loop-at.at (rows_of c.loop-at.found.items) (c.loop-at.invariant records can)
          (slice_get-get_or c.args.words.now c.loop-at.at 0 w.loop-at-test.true) w.if-count-eq0.false (omega (arith, w.if-words-at.true, w.loop-at-test.true))
    ]
