-- What one flush does: a page is taken, its image is written, and the flush ends.
use Rattle.std.specs.Prelude.{◌≡◌, ℕ, Bool, true, false, Result, Ok, Err, List, [], ◌∷◌, ◌++◌}
use Rattle.hl_model.specs.declared.fault.Fault.{Fault}
use Rattle.hl_model.specs.declared.fault.Fault.TheVariants.{NoneSealed, Device}
use Rattle.hl_model.specs.declared.step.Reply.TheVariants.{Page}
use Rattle.hl_model.specs.declared.step.Step.{Step}
use Rattle.hl_model.specs.declared.step.Step.TheVariants.{FlushTake, FlushDone}
use Rattle.hl_model.specs.Words.{page_words}
use Rattle.hl_model.specs.Replies.{reply_of}
use Rattle.hl_image.specs.Image.{image}
use Rattle.hl_cells.specs.Engines.{Whole, EngineStands}

-- the flush of a page ended, well or not: a flush take names this page, the write of its image did this to
-- the writer, and the engine stands at the list with the take and the done
pub record EndsFlush {F W : Type 0} (A : List Step) (ok : Bool) (did : W → ℕ → List ℕ → W → Type 0)
    (old new : Whole F) (before after : W) (page : ℕ) : Type 0 where
  pub taken : reply_of old.core.sizes A FlushTake ≡ Ok (Page page)
  pub written : did before page (image page (page_words old.core.sizes page A)) after
  pub standing : EngineStands new (A ++ FlushTake ∷ FlushDone page ok ∷ [])

-- the page that a flush take named is the next that one names
abbrev pub IsNextAgain : {F : Type 0} → List Step → Whole F → ℕ → Type 0
IsNextAgain A old page =
    reply_of old.core.sizes (A ++ FlushTake ∷ FlushDone page false ∷ []) FlushTake ≡ Ok (Page page)

-- what the answer tells of a flush by an engine that stood at A: the page was flushed; the write failed, and
-- the page may be taken again; there is no page to take
abbrev pub Flushes : {F W : Type 0} → List Step → (wrote failed : W → ℕ → List ℕ → W → Type 0)
    → (old new : Whole F) → (before after : W) → Result ℕ Fault → Type 0
Flushes A wrote failed old new before after (Ok page) = EndsFlush A true wrote old new before after page
Flushes A wrote failed old new before after (Err Device) = (page : ℕ)
    × EndsFlush A false failed old new before after page × IsNextAgain A old page
Flushes A wrote failed old new before after (Err NoneSealed) =
    reply_of old.core.sizes A FlushTake ≡ Err NoneSealed
Flushes A wrote failed old new before after (Err fault) = ⊥
