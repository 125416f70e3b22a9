-- What an engine keeps, and when it stands at a list of steps.
use Rattle.std.specs.Prelude.{◌≡◌, ℕ, ◌%◌, Some, List}
use Rattle.hl_model.specs.declared.step.Step.{Step}
use Rattle.hl_action.specs.Jobs.{KeptRecord}
use Rattle.hl_core.specs.Standing.{State, Stands}
use Rattle.hl_cells.specs.CellWords.{cell_words, shown_page}
use Rattle.hl_cells.specs.TakenActions.{Row, Holds}

-- what an engine keeps: a core with jobs, F * P words, and the taken actions that aren't done
pub record Whole (F : Type 0) : Type 0 where
  pub core : State (KeptRecord F)
  pub words : List ℕ
  pub held : Row F

-- the tag of a job
abbrev pub job_tag : {F : Type 0} → KeptRecord F → ℕ
job_tag kept = kept.tag

-- an engine stands at the accepted list A: its core does, its cells hold the words of the pages that the
-- frames show, and it holds the actions that are taken and not done
pub record EngineStands {F : Type 0} (engine : Whole F) (A : List Step) : Type 0 where
  pub core_stands : Stands job_tag engine.core A
  pub words_is : engine.words ≡ cell_words engine.core.sizes A
  pub held_is : Holds engine.core.sizes A engine.held

-- an engine stands at some list
abbrev pub IsEngine : {F : Type 0} → Whole F → Type 0
IsEngine engine = (A : List Step) × EngineStands engine A

-- the engine has this page in its frame: the page is the frame's last entered one, and the frame isn't free
abbrev pub Shows : {F : Type 0} → Whole F → ℕ → Type 0
Shows engine page = (A : List Step) × EngineStands engine A
    × (shown_page engine.core.sizes (page % engine.core.sizes.frames) A ≡ Some page)
