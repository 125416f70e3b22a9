use Rattle.std.proofs.Common.{◌≡◌, ◌∙◌, ap, sym, subst}
use Rattle.std.specs.Prelude.{Result, Ok, Err, OnOk}
use Rattle.std.specs.Result.{result_and}
use Rattle.hl_crew.specs.declared.messages.Over.{Over}
use Rattle.hl_crew.specs.Flushes.{hold_of}
use Rattle.hl_crew.specs.Turns.{send_of}
use Rattle.hl_crew.proofs.run.Run.flush_by.Goals as goal

-- where all parts ended well, so did the last
last_part : (P : Type 0) (first last result : Result (Unit {0}) Over) → result ≡ result_and first last → OnOk last P → OnOk result P
last_part P (Ok done) last result is holds = subst (λ (r : Result (Unit {0}) Over). OnOk r P) (sym is) holds
last_part P (Err over) last result is holds = subst (λ (r : Result (Unit {0}) Over). OnOk r P) (sym is) tt

pub returns-clause-none : goal.returns-clause-none
returns-clause-none g c = last_part _ _ _ _ c.and-2.ensures c.answer_others-answered.ensures.none

pub returns-clause-flushes : goal.returns-clause-flushes
returns-clause-flushes g c = record {
  sent = c.send_pages-all_sent.result;
  sender = send_of c.send_pages-all_sent.new.rider c.send_pages-all_sent.new.pouch c.send_pages-all_sent.new.sent;
  sends = rw c.requires at c.send_pages-all_sent.ensures.sends;
  all_held = c.send_pages-all_sent.ensures.held;
  told = c.answer_acknowledged-received.result;
  mid = hold_of c.answer_acknowledged-received.new.own c.answer_acknowledged-received.new.pouch;
  tells = c.answer_acknowledged-received.ensures;
  failed = c.answer_others-answered.result;
  left = c.answer_others-answered.new.pouch;
  fails = c.answer_others-answered.ensures.fails;
  ends = c.and-2.ensures ∙ ap (λ first. result_and first c.answer_others-answered.result) c.and.ensures;
}
