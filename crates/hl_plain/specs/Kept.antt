-- What a history is kept with.
use Rattle.std.specs.Prelude.{◌≡◌, ℕ, ◌+◌, ◌<◌, ◌≤◌, false, List, length, map, take, drop}
use Rattle.std.specs.Vec.{vec_capacity}
use Rattle.hl_plain.specs.declared.near.Near.{Near}
use Rattle.hl_plain.specs.declared.near.TheConstants.{REACH}
use Rattle.hl_plain.specs.declared.plain.Plain.TheInside.{Inside}
use Rattle.hl_plain.specs.declared.pages.Mark.{Mark as Made}
use Rattle.hl_model.specs.declared.step.Step.{Step}
use Rattle.hl_model.specs.Bases.{Base}
use Rattle.hl_model.specs.Sizes.{Sizes}
use Rattle.hl_model.specs.AfterPages.{marks_after, flushing_after, cleaning_after}
use Rattle.hl_model.specs.AfterReplies.{base_after}
use Rattle.hl_plain.specs.Histories.{History, IsHistory}
use Rattle.hl_plain.specs.Works.{as_mark}

-- it is a history, and the marks beside the steps are theirs
pub record AreKept (h : History) (flushes cleans : List Made) : Type 0 where
  pub history : IsHistory h
  pub flushes_are : map as_mark flushes ≡ marks_after (flushing_after h.base) h.steps
  pub cleans_are : map as_mark cleans ≡ marks_after (cleaning_after h.base) h.steps

-- how many slots, frames and places for actions there are, together
abbrev pub entries_of : Sizes → ℕ
entries_of sizes = sizes.slots + sizes.frames + sizes.drain

-- the near base, and those of the steps that lie behind it
abbrev pub behind : Near → List Step → History
behind near L = record { base = near.base; steps = drop near.since L; has_words = false }

-- what is present by it after the steps
abbrev pub present_by : Near → List Step → Base
present_by near L = base_after near.base (drop near.since L)

-- the near base is that after the first of the steps
abbrev pub IsAt : Base → List Step → Near → Type 0
IsAt b L near = near.base ≡ base_after b (take near.since L)

-- the marks beside a near base are those of the steps behind it, in rows that have room for those of as many
-- as may lie there, and the next one has room
pub record IsNear (L : List Step) (near : Near) : Type 0 where
  pub kept : AreKept (behind near L) near.flushes.items near.cleans.items
  pub since_most : near.since ≤ length L
  pub flushes_room : REACH ≤ vec_capacity near.flushes
  pub cleans_room : REACH ≤ vec_capacity near.cleans
  pub same_sizes : near.spare.sizes ≡ near.base.sizes

-- the history
abbrev pub history_of : Inside → History
history_of a = record { base = a.base; steps = a.steps.items; has_words = a.has_words }

-- what is inside is kept so: behind the near base lie fewer steps than may, and the row of steps has room for
-- as many as there are frames
pub record IsKept (a : Inside) : Type 0 where
  pub history : IsHistory (history_of a)
  pub at : IsAt a.base a.steps.items a.near
  pub near : IsNear a.steps.items a.near
  pub few : length a.steps.items < a.near.since + REACH
  pub steps_room : a.base.sizes.frames ≤ vec_capacity a.steps
