-- What a call makes of the handle of a log.
use Rattle.std.specs.Prelude.{◌≡◌, ℕ, ◌^◌, Option, Some, None, List, [], ◌⊎◌}
use Rattle.hl_model.specs.declared.fault.Fault.{Fault}
use Rattle.hl_model.specs.declared.fault.Fault.TheVariants.{OutOfMemory}
use Rattle.hl_model.specs.declared.step.Step.{Step}
use Rattle.hl_model.specs.declared.step.Step.TheVariants.{Take}
use Rattle.hl_model.specs.Actions.{pending}
use Rattle.hl_model.specs.Sizes.{Sizes}
use Rattle.hl_model.specs.Replies.{reply_of, fault_of, extended}
use Rattle.hl_answers.specs.declared.outcome.Brief.{Brief}
use Rattle.hl_answers.specs.declared.outcome.Outcome.{Outcome}
use Rattle.hl_answers.specs.Outcomes.{outcome_of, take_outcome, brief_of, no_core}
use Rattle.hl_log.specs.Logs.{StandsAt, DealsOne, IsBeside}
use Rattle.hl_c_log.specs.Rows.{LogRow}

-- a log that stood at A told this of a step, and stands at the list with the step, where it was accepted
pub record Moved (old : LogRow.Denot) (A : List Step) (step : Step) (new : LogRow.Denot)
    (reply outcome : Outcome)
    : Type 0 where
  pub told : outcome ≡ reply
  pub sizes : new.core.sizes ≡ old.core.sizes
  pub standing : StandsAt new (extended old.core.sizes A step)

-- the log that was open made the step, at whatever list it stood, and is open, with the same words, stamps and number of
-- riders left; its four words were stored as that list with the step tells. Where none was open, none is, and the outcome
-- says so
abbrev pub Answers : Option LogRow.Denot → Step → Option LogRow.Denot → Outcome → Type 0
Answers None step new outcome = (outcome ≡ no_core) × (new ≡ None)
Answers (Some old) step new outcome = (log : LogRow.Denot) × (new ≡ Some log) × (log.shared ≡ old.shared)
    × (log.stamps ≡ old.stamps) × (log.master.left ≡ old.master.left) × ((A : List Step) → StandsAt old A
    → Moved old A step log (outcome_of (reply_of old.core.sizes A step)) outcome)

-- so for a step of which one number is told
abbrev pub AnswersBriefly : Option LogRow.Denot → Step → Option LogRow.Denot → Brief → Type 0
AnswersBriefly old step new brief = (outcome : Outcome) × Answers old step new outcome
    × (brief ≡ brief_of outcome)

-- so for a take, whose outcome besides has the job
abbrev pub Takes : Option LogRow.Denot → Option LogRow.Denot → Outcome → Type 0
Takes None new outcome = (outcome ≡ no_core) × (new ≡ None)
Takes (Some old) new outcome = (log : LogRow.Denot) × (new ≡ Some log) × IsBeside old log
    × ((A : List Step) → StandsAt old A
    → Moved old A Take log (take_outcome (reply_of old.core.sizes A Take) (pending A)) outcome)

-- a log stays, or dealt a rider out
abbrev pub StaysOrDeals : LogRow.Denot → LogRow.Denot → Type 0
StaysOrDeals old new = (new ≡ old) ⊎ DealsOne old new

-- the definitions refuse a step with this fault, at whatever list the log stood, and it stays
pub record HasFault (old : LogRow.Denot) (step : Step) (fault : Fault) (new : LogRow.Denot) : Type 0 where
  pub fault_is : (A : List Step) → StandsAt old A → fault_of old.core.sizes A step ≡ Some fault
  pub stays : new ≡ old

-- they have none for it, but memory was refused: the log stays, or dealt a rider out
pub record HasNoMemory (old : LogRow.Denot) (step : Step) (fault : Fault) (new : LogRow.Denot) : Type 0 where
  pub none : (A : List Step) → StandsAt old A → fault_of old.core.sizes A step ≡ None
  pub fault_is : fault ≡ OutOfMemory
  pub stays : StaysOrDeals old new

-- the fault with which a log refused a step
abbrev pub Refuses : LogRow.Denot → Step → Fault → LogRow.Denot → Type 0
Refuses old step fault new = HasFault old step fault new ⊎ HasNoMemory old step fault new

-- a query: its answer is of whatever list the log stood at, which stays; where none is open, it answers what it
-- does then
abbrev pub Tells : {X : Type 0} → Option LogRow.Denot → (Sizes → List Step → X) → X → Option LogRow.Denot
    → X
    → Type 0
Tells None answer none new outcome = (outcome ≡ none) × (new ≡ None)
Tells (Some log) answer none new outcome = (new ≡ Some log)
    × ((A : List Step) → StandsAt log A → outcome ≡ answer log.core.sizes A)

-- a log of these sizes and this stamp, at the empty list, with 2^62 riders left
pub record IsOpened (sizes : Sizes) (stamp : ℕ) (log : LogRow.Denot) : Type 0 where
  pub sizes_are : log.core.sizes ≡ sizes
  pub shape : log.shared.sizes ≡ sizes
  pub stands : StandsAt log []
  pub own : log.stamps.own ≡ stamp
  pub given : log.stamps.given ≡ 0
  pub left : log.master.left ≡ 2 ^ 62

-- an open of sizes in this range: 255 where a log is open, 254 where a size is out of range, 29 where memory
-- was refused, and nothing is changed; else 0, and such a log is open
abbrev pub Opens : (Sizes → Type 0) → Option LogRow.Denot → Sizes → ℕ → Option LogRow.Denot → ℕ → Type 0
Opens InRange (Some log) sizes stamp new number = (number ≡ 255) × (new ≡ Some log)
Opens InRange None sizes stamp (Some log) number = (number ≡ 0) × InRange sizes × IsOpened sizes stamp log
Opens InRange None sizes stamp None number =
    (InRange sizes × (number ≡ 29)) ⊎ (¬ InRange sizes × (number ≡ 254))

-- the same, told the sizes if they are in range
abbrev pub OpensWith : Option LogRow.Denot → Option Sizes → ℕ → Option LogRow.Denot → ℕ → Type 0
OpensWith (Some log) sizes stamp new number = (number ≡ 255) × (new ≡ Some log)
OpensWith None (Some sizes) stamp (Some log) number = (number ≡ 0) × IsOpened sizes stamp log
OpensWith None (Some sizes) stamp None number = number ≡ 29
OpensWith None None stamp new number = (number ≡ 254) × (new ≡ None)

-- giving one back: 255 where there is none
abbrev pub free_number : {X : Type 0} → Option X → ℕ
free_number None = 255
free_number (Some x) = 0
