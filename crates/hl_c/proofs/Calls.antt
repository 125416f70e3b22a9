-- What an export's calls come to.
use Rattle.std.proofs.Common.{◌≡◌, ℕ, List, length, sym, ap, ap₂, ◌∙◌, subst}
use Rattle.std.specs.Prelude.{Option, Some, Result, IfOk, option_map, slice_get, unwrap_or}
use Rattle.hl_model.specs.declared.action.Tag.{Tag}
use Rattle.hl_model.specs.declared.action.Waiting.{Waiting}
use Rattle.hl_model.specs.declared.step.Step.TheVariants.{Take}
use Rattle.hl_model.specs.Actions.{pending}
use Rattle.hl_action.specs.Firings.{FiringRecord}
use Rattle.hl_model.specs.declared.fault.Fault.{Fault}
use Rattle.hl_model.specs.declared.step.Reply.{Reply}
use Rattle.hl_model.specs.declared.step.Step.{Step}
use Rattle.hl_core.specs.Steps.{Made, take_reply, CameOut}
use Rattle.hl_answers.specs.declared.outcome.Outcome.{Outcome}
use Rattle.hl_answers.specs.Outcomes.{outcome_of, take_outcome, taken_outcome, action_outcome, pending_told, no_core, out_of_range}
use Rattle.hl_answers.proofs.Takes.{taken_is}
use Rattle.hl_c.specs.Doors.{Answers, Takes, Tells, StandsAt}
use Rattle.hl_c.specs.Slots.{DoorRow}

-- a core that was taken out, made the step and was put back
pub step_answers : (v w : Option DoorRow.Denot) (old new : DoorRow.Denot) (step : Step) (outcome : Outcome) (result : Result Reply Fault)
    → v ≡ Some old → Made (λ t. t.0) old step new result → w ≡ Some new → outcome ≡ outcome_of result → Answers v step w outcome
step_answers v w old new step outcome result was made is told = subst (λ (u : Option DoorRow.Denot). Answers u step w outcome) (sym was)
    (new, is, λ A stands. let m = made A stands in record { told = told ∙ ap outcome_of m.reply; sizes = m.sizes; standing = m.standing })

-- a core that was taken out, gave its oldest action and was put back
pub take_answers : (v w : Option DoorRow.Denot) (old new : DoorRow.Denot) (outcome : Outcome) (result : Result (FiringRecord × Option Tag) Fault)
    → v ≡ Some old → Made (λ t. t.0) old Take new (take_reply result) → IfOk result (λ taken. CameOut (λ t. t.0) old new taken.0.ticket taken.1)
    → w ≡ Some new → outcome ≡ taken_outcome result → Takes v w outcome
take_answers v w old new outcome result was made out is told = subst (λ (u : Option DoorRow.Denot). Takes u w outcome) (sym was) (
  new,
  is,
  λ A stands. let m = made A stands in record {
    told = told ∙ taken_is old new A result stands out ∙ ap (λ (r : Result Reply Fault). take_outcome r (pending A)) m.reply;
    sizes = m.sizes;
    standing = m.standing;
  },
)

-- a pending action is told by itself and how many are pending
pending_is : (place count : ℕ) (found : Option Waiting) (ws : List Waiting) → found ≡ slice_get ws place → count ≡ length ws → unwrap_or (option_map (action_outcome count) found) out_of_range ≡ pending_told place ws
unfolding pending_told
pending_is place count found ws f c = ap₂ (λ n o. unwrap_or (option_map (action_outcome n) o) out_of_range) c f

pub pending_tells : (v w : Option DoorRow.Denot) (core : DoorRow.Denot) (outcome : Outcome) (place count : ℕ) (found : Option Waiting)
    → v ≡ Some core → ((A : List Step) → StandsAt core A → found ≡ slice_get (pending A) place) → ((A : List Step) → StandsAt core A → count ≡ length (pending A))
    → w ≡ Some core → outcome ≡ unwrap_or (option_map (action_outcome count) found) out_of_range → Tells v (λ sizes A. pending_told place (pending A)) no_core w outcome
pending_tells v w core outcome place count found was f c is told = subst (λ (u : Option DoorRow.Denot). Tells u (λ sizes A. pending_told place (pending A)) no_core w outcome) (sym was)
    (is, λ A stands. told ∙ pending_is place count found (pending A) (f A stands) (c A stands))
