use Rattle.std.proofs.Common.{rules, arith, Err, refl, subst, subst₂, ap, ◌∙◌}
use Rattle.hl_model.specs.declared.fault.Fault.TheVariants.{Below, JournalFull}
use Rattle.hl_crew.proofs.GoesLaws.{followed_more}
use Rattle.hl.specs.Records.{Places, PlacesNext}
use Rattle.hl.specs.Traces.{PlacesBy}
use Rattle.hl.proofs.RecordActs.{none_tried, tried_again, appended}
use Rattle.hl.proofs.session.Session.append.Goals as goal

pub loop-init : goal.loop-init
loop-init g c = (refl, refl, refl, none_tried c.args.words.now c.args.self.now, omega arith)

pub loop-preserved : goal.loop-preserved
loop-preserved g c =
    let F = g.row.F.Denot in
    let words = c.args.words.now in
    let m = c.loop.self.pass in
    let q = c.place.new.self.pass in
    let met = c.loop.invariant in (
      c.place.ensures.log ∙ met.0,
      c.place.ensures.beside ∙ met.1,
      followed_more (PlacesNext F c.args.self.now.log words) c.loop.counter c.args.self.now.pass m q met.2 (
        c.in-Err-Below.field-0-0,
        subst₂ (λ l r. Places F l words m q r) met.0 (c.in-Err-Below.is ∙ ap Err c.in-Err-Below.field-0-is) c.place.ensures.places,
      ),
      tried_again c.loop.counter words (Below c.in-Err-Below.field-0-0) c.args.self.now c.loop.self c.place.new.self met.3 (subst (λ r. PlacesBy words r c.loop.self c.place.new.self) (c.in-Err-Below.is ∙ ap Err c.in-Err-Below.field-0-is) c.place.ensures.did),
      omega (arith, met.4, c.place.ensures.rises),
    )

-- a fault, whichever it is
pub returns-in_default : goal.returns-in_default
returns-in_default g c = record {
  appended = search rules;
  did = appended c.loop.counter 63 c.args.words.now (Err JournalFull) c.args.self.now c.loop.self c.place.new.self (omega (arith, c.loop-test.true, c.loop.auto.counter-end)) c.loop.invariant.3 c.in_default.ensures.did;
  above = search rules;
  sees = search rules;
  within = search rules;
  one_page = search rules;
  log = search rules;
  beside = search rules;
}

pub returns-in_default-2-clause-did : goal.returns-in_default-2-clause-did
returns-in_default-2-clause-did g c = appended c.loop.counter 63 c.args.words.now c.place.result c.args.self.now c.loop.self c.place.new.self (omega (arith, c.loop-test.true, c.loop.auto.counter-end)) c.loop.invariant.3 c.place.ensures.did

pub returns-clause-did : goal.returns-clause-did
returns-clause-did g c = appended c.loop.counter 63 c.args.words.now c.place-2.result c.args.self.now c.loop.self c.place-2.new.self (omega (arith, c.loop-test.false, c.loop.auto.counter-end)) c.loop.invariant.3 c.place-2.ensures.did
