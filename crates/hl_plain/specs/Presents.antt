-- What is present after a base and the steps since, told with the marks of pages that these made.
use Rattle.std.specs.Prelude.{◌≡◌, ℕ, Option, option_map, List, map}
use Rattle.std.specs.List.{filter_map}
use Rattle.hl_model.specs.declared.slot.Slot.{Slot}
use Rattle.hl_plain.specs.declared.present.Present.TheInside.{Inside}
use Rattle.hl_plain.specs.declared.pages.Mark.{Mark as Made}
use Rattle.hl_model.specs.declared.step.Step.{Step}
use Rattle.hl_model.specs.declared.step.Step.TheVariants.{Refresh, Release, Allocate, Look, Write, Read}
use Rattle.hl_model.specs.Bases.{Base}
use Rattle.hl_model.specs.AfterPages.{marks_after, flushing_after, cleaning_after}
use Rattle.hl_model.specs.AfterReplies.{base_after}
use Rattle.hl_plain.specs.Bounds.{AreBounded}
use Rattle.hl_plain.specs.Works.{as_mark}

-- the steps are bounded, and the marks beside them are theirs
pub record ArePresent (b : Base) (L : List Step) (flushes cleans : List Made) : Type 0 where
  pub bounded : AreBounded b L
  pub flushes_are : map as_mark flushes ≡ marks_after (flushing_after b) L
  pub cleans_are : map as_mark cleans ≡ marks_after (cleaning_after b) L

-- the base after the steps
abbrev pub present_of : Inside → Base
present_of a = base_after a.base.now a.steps.now

-- what is inside is present so
abbrev pub IsPresent : Inside → Type 0
IsPresent a = ArePresent a.base.now a.steps.now a.flushes.now a.cleans.now

-- the epochs of the slots that are protected
abbrev pub epochs_in : List (Option Slot) → List ℕ
epochs_in slots = filter_map (λ epoch. epoch) (map (option_map (λ slot. slot.epoch)) slots)

-- a step of slot t's own that wants it protected
abbrev pub IsOwn : ℕ → Step → Type 0
IsOwn t (Refresh u) = u ≡ t
IsOwn t (Release u) = u ≡ t
IsOwn t (Allocate u n) = u ≡ t
IsOwn t (Look u read_only head) = u ≡ t
IsOwn t (Write u a v) = u ≡ t
IsOwn t (Read u a) = u ≡ t
IsOwn t _ = ⊥
