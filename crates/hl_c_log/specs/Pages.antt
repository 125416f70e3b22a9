-- What a call with a page makes of both handles.
use Rattle.std.specs.Prelude.{◌≡◌, ℕ, ◌<◌, ◌==◌, Bool, if◌then◌else◌, is_none, Option, Some, None, IfSome, List, length}
use Rattle.hl_model.specs.declared.fault.Fault.{Fault}
use Rattle.hl_model.specs.declared.step.Reply.TheVariants.{Page}
use Rattle.hl_model.specs.declared.step.Step.{Step}
use Rattle.hl_model.specs.Replies.{reply_of, extended, unless_fault, unless_refused}
use Rattle.hl_answers.specs.declared.outcome.Brief.{Brief}
use Rattle.hl_answers.specs.Outcomes.{outcome_of, fault_outcome, brief_of, no_core}
use Rattle.hl_log.specs.Logs.{StandsAt, IsBeside, one_dealt}
use Rattle.hl_log.specs.Taken.{taking, unless_met, copied, copy_fault, sweep_fault, swept, IsFresh}
use Rattle.hl_c_log.specs.Logs.{Refuses}
use Rattle.hl_c_log.specs.Rows.{LogRow, PageRow}

-- a log that stood at A gave a page, whose number the brief tells
pub record Given (old : LogRow.Denot) (A : List Step) (cleans : Bool) (new : LogRow.Denot)
    (q : PageRow.Denot) (brief : Brief)
    : Type 0 where
  pub told : brief ≡ brief_of (outcome_of (reply_of old.core.sizes A (taking cleans)))
  pub accepted : brief.number ≡ 0
  pub sizes : new.core.sizes ≡ old.core.sizes
  pub standing : StandsAt new (extended old.core.sizes A (taking cleans))
  pub page : q.page ≡ brief.a

-- a log gave a page for this work, with one of the riders that were left; or refused it, and the brief has the fault
abbrev pub GivesOf : Bool → LogRow.Denot → LogRow.Denot → Option PageRow.Denot → Brief → Type 0
GivesOf cleans old new None brief =
    (fault : Fault) × Refuses old (taking cleans) fault new × (brief ≡ brief_of (fault_outcome fault))
GivesOf cleans old new (Some q) brief =
    (0 < old.master.left) × IsBeside (one_dealt old) new × IsFresh old cleans q
    × ((A : List Step) → StandsAt old A → Given old A cleans new q brief)

-- a take of a page: where one is there, or no log is open, nothing is changed, and the brief says so
abbrev pub Gives : Bool → Option LogRow.Denot → Option PageRow.Denot → Option LogRow.Denot
    → Option PageRow.Denot
    → Brief
    → Type 0
Gives cleans log (Some p) new left brief = (brief ≡ brief_of no_core) × (new ≡ log) × (left ≡ Some p)
Gives cleans None None new left brief = (brief ≡ brief_of no_core) × (new ≡ None) × (left ≡ None)
Gives cleans (Some old) None new left brief =
    (log : LogRow.Denot) × (new ≡ Some log) × GivesOf cleans old log left brief

-- a log that stood at A met this fault, and stays, or made the step as the definitions do
pub record Ended (old : LogRow.Denot) (A : List Step) (fault : Option Fault) (step : Step)
    (new : LogRow.Denot) (brief : Brief)
    : Type 0 where
  pub told : brief ≡ brief_of (outcome_of (unless_met fault (reply_of old.core.sizes A step)))
  pub sizes : new.core.sizes ≡ old.core.sizes
  pub standing : StandsAt new (if is_none fault then extended old.core.sizes A step else A)

-- the end of the work on a page, which is given back where it was accepted; where a handle has none, nothing is
-- changed, and the brief says so
abbrev pub Ends : (LogRow.Denot → PageRow.Denot → Option Fault) → (ℕ → Step) → Option LogRow.Denot
    → Option PageRow.Denot
    → Option LogRow.Denot
    → Option PageRow.Denot
    → Brief
    → Type 0
Ends fault step None page new left brief = (brief ≡ brief_of no_core) × (new ≡ None) × (left ≡ page)
Ends fault step (Some log) None new left brief =
    (brief ≡ brief_of no_core) × (new ≡ Some log) × (left ≡ None)
Ends fault step (Some log) (Some p) new left brief = (after : LogRow.Denot) × (new ≡ Some after)
    × (left ≡ (if brief.number == 0 then None else Some p)) × IsBeside log after
    × ((A : List Step) → StandsAt log A → Ended log A (fault log p) (step p.page) after brief)

-- a copy of a page into so many places: its rider loaded these words, or nothing where it was refused
abbrev pub Copies : Option PageRow.Denot → List ℕ → Option PageRow.Denot → List ℕ → Brief → Type 0
Copies None places new words brief = (brief ≡ brief_of no_core) × (new ≡ None) × (words ≡ places)
Copies (Some p) places new words brief = let met = copy_fault p (length places) in
    (new ≡ Some (unless_refused met p (copied words p)))
    × (brief ≡ brief_of (outcome_of (unless_fault met (Page p.page))))
    × (length words ≡ length places) × IfSome met (λ _. words ≡ places)

-- a sweep of a page: its rider stored 0 into each of its cells, or nothing where it was refused
abbrev pub Sweeps : Option PageRow.Denot → Option PageRow.Denot → Brief → Type 0
Sweeps None new brief = (brief ≡ brief_of no_core) × (new ≡ None)
Sweeps (Some p) new brief = (new ≡ Some (unless_refused (sweep_fault p) p (swept p)))
    × (brief ≡ brief_of (outcome_of (unless_fault (sweep_fault p) (Page p.page))))
