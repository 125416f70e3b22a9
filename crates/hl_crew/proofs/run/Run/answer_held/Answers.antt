use Rattle.std.proofs.Common.{Ok, Err, refl, ap}
use Rattle.hl_crew.proofs.run.Run.answer_held.Goals as goal

pub returns-in-Ok-clause-held : goal.returns-in-Ok-clause-held
returns-in-Ok-clause-held g c = λ at found. record {
  at = at;
  place = found;
  answer = Ok c.in-Ok.field-0;
  answers = c.in-Ok.ensures.held at found;
  counts = (refl, ap (λ counts. record c.args.own.now { rider = c.answer.new.rider; counts = counts }) c.count.ensures);
}

pub returns-in-Err-clause-held : goal.returns-in-Err-clause-held
returns-in-Err-clause-held g c = λ at found. record {
  at = at;
  place = found;
  answer = Err c.in-Err.fault;
  answers = c.in-Err.ensures.held at found;
  counts = (ap (λ over. Err over) c.of.ensures, refl);
}
