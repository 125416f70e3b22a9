use Rattle.std.proofs.Common.{of_calls, ◌≡◌, refl, ap, arith, inl, inr, Err, ⊎_elim}
use Rattle.std.specs.Fn.{CalledAtMut}
use Rattle.hl_crew.proofs.GoesLaws.{followed_more}
use Rattle.hl.specs.Attempts.{TriesNext}
use Rattle.hl.proofs.TryLaws.{if_all, last_try}
use Rattle.hl.proofs.session.tries.attempt.Goals as goal

pub returns-in-Ok : goal.returns-in-Ok
returns-in-Ok g c = record {
  attempted = last_try (CalledAtMut g.O.FnMut) g.X.Curable.cures g.X.Curable.tells g.S.Helping.helps c.args.again c.loop.counter _ _ c.args.operation c.loop.operation c.operation.new.self c.args.session.now c.loop.session _
      (omega (arith, c.loop-test.true, c.loop.auto.counter-end)) c.loop.invariant.1 (record { shown = _; shows = refl; left = _; called = record { met = c.in-Ok.ensures.met }; leaves = refl }) tt (inl refl);
}

pub returns-in-None : goal.returns-in-None
returns-in-None g c = record {
  attempted = last_try (CalledAtMut g.O.FnMut) g.X.Curable.cures g.X.Curable.tells g.S.Helping.helps c.args.again c.loop.counter _ _ c.args.operation c.loop.operation c.operation.new.self c.args.session.now c.loop.session _
      (omega (arith, c.loop-test.true, c.loop.auto.counter-end)) c.loop.invariant.1 (record { shown = _; shows = refl; left = _; called = record { met = c.in-Err.ensures.met }; leaves = refl })
      (inl c.in-None.ensures) (inl refl);
}

pub loop-preserved : goal.loop-preserved
loop-preserved g c = (
  search of_calls,
  followed_more (TriesNext (CalledAtMut g.O.FnMut) g.X.Curable.cures g.X.Curable.tells g.S.Helping.helps) c.loop.counter (c.args.operation, c.args.session.now) (c.loop.operation, c.loop.session) (c.operation.new.self, c.help_by.new.self) c.loop.invariant.1 (record {
    error = c.in-Err.error;
    cure = c.in-Some.cure;
    curable = c.in-Some.ensures;
    refused = c.operation.new.arg2;
    tries = record { shown = _; shows = refl; left = _; called = record { met = c.in-Err.ensures.met }; leaves = refl };
    help = c.help_by.result;
    helps = c.help_by.ensures;
  }),
)

-- the last try
pub returns-in-Ok-operation : goal.returns-in-Ok-operation
returns-in-Ok-operation g c = record {
  attempted = last_try (CalledAtMut g.O.FnMut) g.X.Curable.cures g.X.Curable.tells g.S.Helping.helps c.args.again c.loop.counter _ _ c.args.operation c.loop.operation c.operation-2.new.self c.args.session.now c.loop.session _
      (omega (arith, c.loop-test.false, c.loop.auto.counter-end)) c.loop.invariant.1 (record { shown = _; shows = refl; left = _; called = record { met = c.in-Ok-operation.ensures.met }; leaves = refl }) tt (inl refl);
}

pub returns-then-is_refused : goal.returns-then-is_refused
returns-then-is_refused g c = record {
  attempted = last_try (CalledAtMut g.O.FnMut) g.X.Curable.cures g.X.Curable.tells g.S.Helping.helps c.args.again c.loop.counter _ _ c.args.operation c.loop.operation c.operation-2.new.self c.args.session.now c.loop.session _
      (omega (arith, c.loop-test.false, c.loop.auto.counter-end)) c.loop.invariant.1 (record { shown = _; shows = refl; left = _; called = record { met = c.in-Err-operation.ensures.met }; leaves = refl })
      (inr (omega (arith, c.loop-test.false, c.loop.auto.counter-end)))
      (⊎_elim (λ (same : c.if_refused.result ≡ c.in-Err-operation.error). inl (ap Err same)) (λ (told : g.X.Curable.tells c.in-Err-operation.error c.if_refused.result). inr (c.in-Err-operation.error, c.if_refused.result, refl, refl, told)) c.if_refused.ensures);
}

pub returns : goal.returns
returns g c = record {
  attempted = last_try (CalledAtMut g.O.FnMut) g.X.Curable.cures g.X.Curable.tells g.S.Helping.helps c.args.again c.loop.counter _ _ c.args.operation c.loop.operation c.operation-2.new.self c.args.session.now c.loop.session _
      (omega (arith, c.loop-test.false, c.loop.auto.counter-end)) c.loop.invariant.1 (record { shown = _; shows = refl; left = _; called = record { met = c.in-Err-operation.ensures.met }; leaves = refl })
      (inr (omega (arith, c.loop-test.false, c.loop.auto.counter-end))) (inl refl);
}
