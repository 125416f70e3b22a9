use Rattle.std.proofs.Common.{arith, ◌≡◌, ◌≤◌, ◌+◌, ◌-◌, ◌∙◌, cond, get_or, length, sym, ap, take}
use Rattle.std.specs.List.{count_by}
use Rattle.std.proofs.lemmas.List.{take_all}
use Rattle.hl_model.specs.declared.step.Step.TheVariants.{Acquire}
use Rattle.hl_model.specs.Actions.{stores}
use Rattle.hl_plain.proofs.StoredLaws.{stored_length, stored-front, stored-hit, stored-none, stores-next, stores-most}
use Rattle.hl_model.specs.declared.step.Step.{Step}
use Rattle.hl_model.proofs.ListLaws.{one_where, none_where}
use Rattle.hl_plain.proofs.actions.stored_at.Goals.{then-stores, else-stores, then-count-behind+in_default, else-count-behind}
use Rattle.hl_plain.proofs.actions.stored_at.Goals as goal

pub returns-then-i-waiting : goal.returns-then-i-waiting
returns-then-i-waiting c = λ w.
    rw c.waiting-waiting.ensures (stored-front c.args.base.now c.args.steps.now c.args.i _ w (omega (arith, c.if-i-waiting.true, ap length c.waiting-waiting.ensures)))

pub returns-in-Some : goal.returns-in-Some
returns-in-Some c = λ w.
    let long = ap length c.waiting-waiting.ensures in
    sym (stored-hit c.args.base.now c.args.steps.now c.loop-k.k c.args.i (Acquire 0) c.in-Some.action w c.loop-k-test.true c.in-Some.ensures (omega (arith, long, c.if-i-waiting.false))
    (omega (arith, long, c.loop-k.invariant.count, c.if-count-behind.true)))

pub loop-k-preserved : goal.loop-k-preserved
loop-k-preserved c =
    let L = c.args.steps.now in
    let k = c.loop-k.k in
    let step : Step = get_or L k (Acquire 0) in
    let moved : c.if-stores.count ≡ c.loop-k.count + cond (stores step) 1 0 =
    elim c.if-stores.branch [
      | then-stores w ↦ omega (arith, w.count-is, one_where (stores step) (sym c.stores.ensures ∙ w.if-stores.true))
      | else-stores w ↦ omega (arith, w.count-is, none_where (stores step) (sym c.stores.ensures ∙ w.if-stores.false))
    ] in
    let room : c.loop-k.count + cond (stores step) 1 0 ≤ c.args.i - length c.waiting-waiting.result.now =
    elim c.if-count-behind.branch [
      | then-count-behind+in_default w ↦ omega (arith, c.loop-k.invariant.most, stored-none c.args.base.now L k (Acquire 0) w.in_default.ensures)
      | else-count-behind w ↦ omega (arith, c.loop-k.invariant.most, w.if-count-behind.false, stores-most L k (Acquire 0))
    ] in
    record {
      count = omega (arith, moved, c.loop-k.invariant.count, stores-next L k (Acquire 0) c.loop-k-test.true);
      most = omega (arith, moved, room);
      within = omega (arith, moved, c.loop-k.invariant.within, stores-most L k (Acquire 0));
    }

pub unreachable-requires : goal.unreachable-requires
unreachable-requires c =
    let L = c.args.steps.now in
    let all : count_by stores (take c.loop-k.k L) ≡ count_by stores L = ap (count_by stores) (take_all c.loop-k.k L c.loop-k-test.false) in
    omega (arith, all, c.loop-k.invariant.count, c.loop-k.invariant.most, c.requires.within, stored_length c.args.base.now L, ap length c.waiting-waiting.ensures, c.if-i-waiting.false)
