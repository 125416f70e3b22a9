-- What the calls of a pass come to.
use Rattle.std.proofs.Common.{◌≡◌, ℕ, List, Bool, true, false, cond, nat_eq, sym, ap, ap₂, ◌∙◌, subst}
use lib.Dec.{T}
use Rattle.std.specs.Prelude.{Option, Some, None, Result, Ok, unwrap_or}
use Rattle.hl_model.specs.declared.fault.Fault.{Fault}
use Rattle.hl_model.specs.declared.step.Reply.{Reply}
use Rattle.hl_model.specs.declared.step.Step.{Step}
use Rattle.hl_model.specs.declared.step.Step.TheVariants.{Acquire}
use Rattle.hl_model.specs.Replies.{fault_of, extended}
use Rattle.hl_model.specs.Views.{slot_view}
use Rattle.hl_answers.specs.declared.outcome.Outcome.{Outcome}
use Rattle.hl_answers.specs.Outcomes.{outcome_of, no_core}
use Rattle.hl_pass.specs.Passes.{rested_in, stamped}
use Rattle.hl_pass.specs.Stamps.{next_stamp}
use Rattle.hl_log.specs.Calls.{by_slot, Calls, KnownAt}
use Rattle.hl_log.specs.Logs.{StandsAt, Stepped, Makes, DealsOne, one_dealt, IsStamped}
use Rattle.hl_log.specs.Passes.{with_own, epoch_told, IsRisen, IsVacant}
use Rattle.hl_c_log.specs.Passes.{CallsBy, Acquires, AcquiresOf, stays, leaves}
use Rattle.hl_c_log.specs.Rows.{LogRow, PassRow}

-- a log and a pass that were taken out, made the step and were put back
pub calls_by : (kept : Outcome → PassRow.Denot → Option PassRow.Denot) (step : Step) (v w : Option LogRow.Denot) (q r : Option PassRow.Denot)
    (old lent new : LogRow.Denot) (p lent_pass left : PassRow.Denot) (outcome : Outcome) (result : Result Reply Fault)
    → v ≡ Some old → q ≡ Some p → w ≡ Some new → r ≡ kept outcome left → lent ≡ old → lent_pass ≡ p
    → IsRisen lent_pass → Calls lent lent_pass (by_slot lent_pass.own.slot step) new left result → outcome ≡ outcome_of result → CallsBy kept step v q w r outcome
calls_by kept step v w q r old lent new p lent_pass left outcome result was had is stays_ same same_pass risen made told =
    let here : Calls old p (by_slot p.own.slot step) new left result =
    subst (λ (l : LogRow.Denot). Calls l p (by_slot p.own.slot step) new left result) same (subst (λ (o : PassRow.Denot). Calls lent o (by_slot o.own.slot step) new left result) same_pass made) in
    subst (λ (u : Option LogRow.Denot). CallsBy kept step u q w r outcome) (sym was)
    (subst (λ (u : Option PassRow.Denot). CallsBy kept step (Some old) u w r outcome) (sym had) (
      new,
      left,
      is,
      stays_,
      here.beside,
      λ A stands. let c = here.called A stands in record {
        told = told ∙ ap outcome_of c.reply;
        sizes = c.sizes;
        standing = c.standing;
        pass = c.pass;
        known = here.known A stands;
        entered = λ known. here.entered A stands known (subst (λ (o : PassRow.Denot). IsRisen o) same_pass risen);
      },
    ))

-- an outcome of no handle isn't that of an accepted call
none_isn't : {X : Type 0} (outcome : Outcome) → outcome ≡ no_core → true ≡ nat_eq outcome.number 0 → X
none_isn't outcome is zero = absurd (subst T (zero ∙ ap (λ (o : Outcome). nat_eq o.number 0) is) tt)

-- an accepted release leaves no pass
pub released : (step : Step) (v w : Option LogRow.Denot) (q r left : Option PassRow.Denot) (outcome : Outcome)
    → CallsBy stays step v q w r outcome → true ≡ nat_eq outcome.number 0 → left ≡ None → CallsBy leaves step v q w left outcome
released step None w q r left outcome calls zero none = none_isn't outcome calls.0 zero
released step (Some log) w None r left outcome calls zero none = none_isn't outcome calls.0 zero
released step (Some log) w (Some p) r left outcome (after, own, is, kept, beside, called) zero none =
    (after, own, is, none ∙ ap (λ (b : Bool). cond b None (Some own)) zero, beside, called)

-- a refused one leaves it
pub not_released : (step : Step) (v w : Option LogRow.Denot) (q r : Option PassRow.Denot) (outcome : Outcome)
    → CallsBy stays step v q w r outcome → false ≡ nat_eq outcome.number 0 → CallsBy leaves step v q w r outcome
not_released step None w q r outcome calls zero = calls
not_released step (Some log) w None r outcome calls zero = calls
not_released step (Some log) w (Some p) r outcome (after, left, is, kept, beside, called) zero =
    (after, left, is, kept ∙ ap (λ (b : Bool). cond b None (Some left)) zero, beside, called)

-- what the acquire of a vacant pass made of a log and of the pass
pub record Protects (old : LogRow.Denot) (p : PassRow.Denot) (new : LogRow.Denot) (q : PassRow.Denot) (reply : Reply) : Type 0 where
  pub made : Makes old (Acquire p.own.slot) new (Ok reply)
  pub stamps : IsStamped old p.own.slot new
  pub pass : (A : List Step) → StandsAt new A → q ≡ with_own (stamped (next_stamp old.stamps) (rested_in (slot_view old.core.sizes p.own.slot A) (epoch_told (Ok reply) p.own.epoch) p.own)) p
  pub known : (A : List Step) → StandsAt old A → KnownAt new (extended old.core.sizes A (Acquire p.own.slot)) q

-- a log dealt the rider of a vacant pass out, and then protected its slot
pub acquired_of : (slot : ℕ) (old mid new : LogRow.Denot) (p q : PassRow.Denot) (reply : Reply) (outcome : Outcome)
    → ((A : List Step) → StandsAt old A → None ≡ fault_of old.core.sizes A (Acquire slot)) → DealsOne old mid → IsVacant old slot p → Protects mid p new q reply → outcome ≡ outcome_of (Ok reply) → AcquiresOf slot old new (Some q) outcome
acquired_of slot old mid new p q reply outcome asked deals vacant made told =
    let here : Protects (one_dealt old) p new q reply = subst (λ (l : LogRow.Denot). Protects l p new q reply) deals.log made in
    let none : (A : List Step) → StandsAt old A → None ≡ fault_of old.core.sizes A (Acquire p.own.slot) = subst (λ (t : ℕ). (A : List Step) → StandsAt old A → None ≡ fault_of old.core.sizes A (Acquire t)) (sym vacant.slot_is) asked in
    subst (λ (t : ℕ). AcquiresOf t old new (Some q) outcome) vacant.slot_is (λ A at.
    let stands : StandsAt (one_dealt old) A = record { standing = at.standing; stored = at.stored } in
    let stepped : Stepped (one_dealt old) A (Acquire p.own.slot) new (Ok reply) = here.made A stands in
    let is = here.pass (extended old.core.sizes A (Acquire p.own.slot)) stepped.standing in record {
      told = told ∙ ap outcome_of stepped.reply;
      accepted = sym (none A at);
      sizes = stepped.sizes;
      standing = stepped.standing;
      left = deals.left;
      stamps = here.stamps;
      slot_is = ap (λ (o : PassRow.Denot). o.own.slot) is;
      stamp_is = ap (λ (o : PassRow.Denot). o.own.stamp) is;
      epoch_is = ap (λ (o : PassRow.Denot). o.own.epoch) is ∙ ap₂ epoch_told stepped.reply vacant.epoch_is;
      held_is = ap (λ (o : PassRow.Denot). o.own.held) is ∙ ap (unwrap_or (slot_view old.core.sizes p.own.slot (extended old.core.sizes A (Acquire p.own.slot)))) vacant.view_is;
      view_is = ap (λ (o : PassRow.Denot). o.own.view) is ∙ sym (ap (λ (o : PassRow.Denot). o.own.held) is);
      shared = ap (λ (o : PassRow.Denot). o.shared) is ∙ vacant.shared;
      did_nothing = ap (λ (o : PassRow.Denot). o.rider.view.touches) is ∙ vacant.did_nothing;
      known = here.known A stands;
    })

-- a log that was taken out, gave a pass or refused it, and was put back
pub acquires_by : (slot : ℕ) (v w : Option LogRow.Denot) (q r : Option PassRow.Denot) (old lent new : LogRow.Denot) (outcome : Outcome)
    → v ≡ Some old → q ≡ None → w ≡ Some new → lent ≡ old → AcquiresOf slot lent new r outcome → Acquires slot v q w r outcome
acquires_by slot v w q r old lent new outcome was none is same acquires = subst (λ (u : Option LogRow.Denot). Acquires slot u q w r outcome) (sym was)
    (subst (λ (u : Option PassRow.Denot). Acquires slot (Some old) u w r outcome) (sym none) (new, is, subst (λ (l : LogRow.Denot). AcquiresOf slot l new r outcome) same acquires))
