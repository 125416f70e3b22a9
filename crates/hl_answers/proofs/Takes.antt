-- What a take tells.
use Rattle.std.proofs.Common.{◌≡◌, ℕ, List, ◌∷◌, map, refl, sym, ap, ◌∙◌}
use Rattle.std.specs.Prelude.{Option, Result, Ok, Err, IfOk}
use Rattle.hl_model.specs.declared.action.Tag.{Tag}
use Rattle.hl_model.specs.declared.action.Waiting.{Waiting}
use Rattle.hl_model.specs.declared.fault.Fault.{Fault}
use Rattle.hl_model.specs.declared.step.Reply.TheVariants.{Taken}
use Rattle.hl_model.specs.declared.step.Step.{Step}
use Rattle.hl_model.specs.Actions.{pending}
use Rattle.hl_action.specs.Firings.{FiringRecord}
use Rattle.hl_drain.specs.declared.action.Action.{Action}
use Rattle.hl_drain.specs.declared.action.Action.TheVariants.{Settle, Close, User}
use Rattle.hl_drain.specs.Actions.{waiting_of}
use Rattle.hl_core.specs.Standing.{State, Stands}
use Rattle.hl_core.specs.Steps.{job_in, take_reply, CameOut}
use Rattle.hl_answers.specs.Outcomes.{take_outcome, taken_outcome}

-- an action that came out is told as the first of the pending ones
came : (ticket safe : ℕ) (action : Action Tag) (ws : List Waiting)
    → taken_outcome (Ok (record { ticket = ticket; safe = safe }, job_in action)) ≡ take_outcome (Ok (Taken ticket)) (waiting_of (λ t. t.0) (ticket, action) ∷ ws)
came ticket safe (Settle x) ws = refl
came ticket safe (Close x) ws = refl
came ticket safe (User job) ws = refl

-- what a take answers is told of the pending actions before it
pub taken_is : (old new : State Tag) (A : List Step) (result : Result (FiringRecord × Option Tag) Fault) → Stands (λ t. t.0) old A
    → IfOk result (λ taken. CameOut (λ t. t.0) old new taken.0.ticket taken.1) → taken_outcome result ≡ take_outcome (take_reply result) (pending A)
taken_is old new A (Err fault) stands out = refl
taken_is old new A (Ok taken) stands out = let w = waiting_of (λ (t : Tag). t.0) in
    ap (λ (job : Option Tag). taken_outcome (Ok (taken.0, job))) out.job_is
    ∙ came taken.0.ticket taken.0.safe out.action (map w new.drain.pending)
    ∙ ap (take_outcome (Ok (Taken taken.0.ticket))) (sym (ap (map w) out.oldest) ∙ stands.pending_is)
