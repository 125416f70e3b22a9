-- What the calls on a log's handle come to.
use Rattle.std.proofs.Common.{◌≡◌, ℕ, List, refl, sym, ap, ap₂, ◌∙◌, subst, take, inr}
use Rattle.std.specs.Prelude.{Option, Some, None, Result, IfOk}
use Rattle.hl_model.specs.declared.action.Tag.{Tag}
use Rattle.hl_model.specs.declared.fault.Fault.{Fault}
use Rattle.hl_model.specs.declared.fault.Fault.TheVariants.{OutOfMemory}
use Rattle.hl_model.specs.declared.step.Reply.{Reply}
use Rattle.hl_model.specs.declared.step.Step.{Step}
use Rattle.hl_model.specs.declared.step.Step.TheVariants.{Take}
use Rattle.hl_model.specs.Actions.{pending}
use Rattle.hl_model.specs.Replies.{fault_of}
use Rattle.hl_action.specs.Firings.{FiringRecord}
use Rattle.hl_core.specs.declared.holders.Holder.{Holder}
use Rattle.hl_core.specs.Holding.{holders, oldest}
use Rattle.hl_core.specs.Steps.{take_reply, CameOut}
use Rattle.hl_answers.specs.declared.outcome.Outcome.{Outcome}
use Rattle.hl_answers.specs.Outcomes.{outcome_of, take_outcome, taken_outcome}
use Rattle.hl_answers.proofs.Takes.{taken_is}
use Rattle.hl_log.specs.Logs.{StandsAt, IsBeside, Makes, Moves}
use Rattle.hl_c_log.specs.Holders.{holder_of, holder_told}
use Rattle.hl_c_log.specs.Logs.{Answers, Takes, Refuses, StaysOrDeals}
use Rattle.hl_c_log.specs.Rows.{LogRow}

-- a log that was taken out, made the step and was put back
pub step_answers : (v w : Option LogRow.Denot) (old lent new : LogRow.Denot) (step : Step) (outcome : Outcome) (result : Result Reply Fault)
    → v ≡ Some old → lent ≡ old → Moves lent step new result → w ≡ Some new → outcome ≡ outcome_of result → Answers v step w outcome
step_answers v w old lent new step outcome result was same moves is told = subst (λ (u : Option LogRow.Denot). Answers u step w outcome) (sym was)
    (let here = subst (λ (l : LogRow.Denot). Moves l step new result) same moves in
    (new, is, here.shared, here.stamps, here.left, λ A stands. let m = here.made A stands in record { told = told ∙ ap outcome_of m.reply; sizes = m.sizes; standing = m.standing }))

-- a log that was taken out, gave its oldest action and was put back
pub take_answers : (v w : Option LogRow.Denot) (old new : LogRow.Denot) (outcome : Outcome) (result : Result (FiringRecord × Option Tag) Fault)
    → v ≡ Some old → Makes old Take new (take_reply result) → IfOk result (λ taken. CameOut (λ t. t.0) old.core new.core taken.0.ticket taken.1)
    → IsBeside old new → w ≡ Some new → outcome ≡ taken_outcome result → Takes v w outcome
take_answers v w old new outcome result was made out beside is told = subst (λ (u : Option LogRow.Denot). Takes u w outcome) (sym was) (
  new,
  is,
  beside,
  λ A stands. let m = made A stands in record {
    told = told ∙ taken_is old.core new.core A result stands.standing out ∙ ap (λ (r : Result Reply Fault). take_outcome r (pending A)) m.reply;
    sizes = m.sizes;
    standing = m.standing;
  },
)

-- memory was refused for a step that has no fault
pub lacks_memory : (old new : LogRow.Denot) (step : Step) → ((A : List Step) → StandsAt old A → None ≡ fault_of old.core.sizes A step) → StaysOrDeals old new → Refuses old step OutOfMemory new
lacks_memory old new step asked stays = inr (record { none = λ A at. sym (asked A at); fault_is = refl; stays = stays })

-- a holder is told of the list's
pub holder_is : (slots : ℕ) (A : List Step) (place : ℕ) (row : List Holder) (ticket : Option ℕ) (outcome : Outcome)
    → outcome ≡ holder_of row ticket place → row ≡ take 1024 (holders slots A) → ticket ≡ oldest A → outcome ≡ holder_told slots A place
unfolding holder_told
holder_is slots A place row ticket outcome is r t = is ∙ ap₂ (λ (hs : List Holder) (o : Option ℕ). holder_of hs o place) r t
