-- What a call makes of a handle.
use Rattle.std.specs.Prelude.{◌≡◌, ℕ, Option, Some, None, Result, List, [], ◌⊎◌}
use Rattle.hl_model.specs.declared.fault.Fault.{Fault}
use Rattle.hl_model.specs.declared.step.Reply.{Reply}
use Rattle.hl_model.specs.declared.step.Step.{Step}
use Rattle.hl_model.specs.declared.step.Step.TheVariants.{Take}
use Rattle.hl_model.specs.Actions.{pending}
use Rattle.hl_model.specs.Sizes.{Sizes}
use Rattle.hl_model.specs.Replies.{reply_of, extended}
use Rattle.hl_core.specs.Standing.{Stands}
use Rattle.hl_core.specs.Steps.{Made}
use Rattle.hl_answers.specs.declared.outcome.Brief.{Brief}
use Rattle.hl_answers.specs.declared.outcome.Outcome.{Outcome}
use Rattle.hl_answers.specs.Outcomes.{outcome_of, take_outcome, brief_of, no_core}
use Rattle.hl_c.specs.Slots.{DoorRow}

-- a core stands at these steps
abbrev pub StandsAt : DoorRow.Denot → List Step → Type 0
StandsAt core A = Stands (λ t. t.0) core A

-- a core that stood at A told this of a step, and stands at the list with the step, where it was accepted
pub record Moved (old : DoorRow.Denot) (A : List Step) (step : Step) (new : DoorRow.Denot)
    (reply outcome : Outcome)
    : Type 0 where
  pub told : outcome ≡ reply
  pub sizes : new.sizes ≡ old.sizes
  pub standing : StandsAt new (extended old.sizes A step)

-- the core that was open made the step, at whatever list it stood, and is open; where none was, none is, and
-- the outcome says so
abbrev pub Answers : Option DoorRow.Denot → Step → Option DoorRow.Denot → Outcome → Type 0
Answers None step new outcome = (outcome ≡ no_core) × (new ≡ None)
Answers (Some old) step new outcome = (core : DoorRow.Denot) × (new ≡ Some core)
    × ((A : List Step) → StandsAt old A
    → Moved old A step core (outcome_of (reply_of old.sizes A step)) outcome)

-- a call, as what it answers and leaves of a core, makes this step
abbrev pub MakesStep : (DoorRow.Denot → Result Reply Fault → DoorRow.Denot → Type 0) → Step → Type 0
MakesStep call step = (old new : DoorRow.Denot) (reply : Result Reply Fault) → call old reply new
    → Made (λ t. t.0) old step new reply

-- so for a step of which one number is told
abbrev pub AnswersBriefly : Option DoorRow.Denot → Step → Option DoorRow.Denot → Brief → Type 0
AnswersBriefly old step new brief = (outcome : Outcome) × Answers old step new outcome
    × (brief ≡ brief_of outcome)

-- a query: its answer is of whatever list the core stood at, which stays; where no core is open, it answers
-- what it does then
abbrev pub Tells : {X : Type 0} → Option DoorRow.Denot → (Sizes → List Step → X) → X → Option DoorRow.Denot
    → X
    → Type 0
Tells None answer none new outcome = (outcome ≡ none) × (new ≡ None)
Tells (Some core) answer none new outcome = (new ≡ Some core)
    × ((A : List Step) → StandsAt core A → outcome ≡ answer core.sizes A)

-- an open of sizes in this range: 255 where a core is open, 254 where a size is out of range, 29 where memory
-- was refused, and nothing is changed; else 0, and a core of these sizes is open at the empty list
abbrev pub Opens : (Sizes → Type 0) → Option DoorRow.Denot → Sizes → Option DoorRow.Denot → ℕ → Type 0
Opens InRange (Some core) sizes new number = (number ≡ 255) × (new ≡ Some core)
Opens InRange None sizes (Some core) number =
    (number ≡ 0) × (core.sizes ≡ sizes) × InRange sizes × StandsAt core []
Opens InRange None sizes None number = (InRange sizes × (number ≡ 29)) ⊎ (¬ InRange sizes × (number ≡ 254))

-- the same, told the sizes if they are in range
abbrev pub OpensWith : Option DoorRow.Denot → Option Sizes → Option DoorRow.Denot → ℕ → Type 0
OpensWith (Some core) params new number = (number ≡ 255) × (new ≡ Some core)
OpensWith None (Some sizes) (Some core) number = (number ≡ 0) × (core.sizes ≡ sizes) × StandsAt core []
OpensWith None (Some sizes) None number = number ≡ 29
OpensWith None None new number = (number ≡ 254) × (new ≡ None)

-- giving a core back: 255 where none is open
abbrev pub free_number : Option DoorRow.Denot → ℕ
free_number None = 255
free_number (Some core) = 0

-- so for a take, whose outcome besides has the job
abbrev pub Takes : Option DoorRow.Denot → Option DoorRow.Denot → Outcome → Type 0
Takes None new outcome = (outcome ≡ no_core) × (new ≡ None)
Takes (Some old) new outcome = (core : DoorRow.Denot) × (new ≡ Some core)
    × ((A : List Step) → StandsAt old A
    → Moved old A Take core (take_outcome (reply_of old.sizes A Take) (pending A)) outcome)
