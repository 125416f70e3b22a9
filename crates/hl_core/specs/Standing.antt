-- What a core keeps, and when it stands at a list of steps.
use Rattle.std.specs.Prelude.{◌≡◌, ℕ, ◌+◌, ◌-◌, ◌/◌, Option, List, map}
use Rattle.std.specs.List.{range_with_len}
use Rattle.hl_model.specs.declared.step.Step.{Step}
use Rattle.hl_model.specs.declared.view.View.{View}
use Rattle.hl_model.specs.Sizes.{Sizes, AreInRange}
use Rattle.hl_model.specs.Epochs.{Table, table_of}
use Rattle.hl_model.specs.Actions.{pending, taken}
use Rattle.hl_model.specs.Offsets.{read_only, head, tail}
use Rattle.hl_model.specs.Settled.{safe_read_only, closed}
use Rattle.hl_model.specs.Views.{slot_views}
use Rattle.hl_model.specs.Replies.{IsAccepted}
use Rattle.hl_model.specs.Bases.{held_of}
use Rattle.hl_drain.specs.Actions.{waiting_of}
use Rattle.hl_drain.specs.Lists.{Lists, IsDrain}
use Rattle.hl_offsets.specs.Log.{Log}
use Rattle.hl_frames.specs.Pages.{Pages}

-- what a core keeps: its sizes, the table of epochs, each slot's view if it is protected, the drain list,
-- five offsets, the frames with their pages
pub record State (J : Type 0) : Type 0 where
  pub sizes : Sizes
  pub table : Table
  pub views : List (Option View)
  pub drain : Lists J
  pub offsets : Log
  pub pages : Pages

-- the offsets of a list
abbrev pub log_of : Sizes → List Step → Log
log_of sizes A = record {
  page_size = sizes.page_size;
  closed = closed A;
  head = head A;
  safe_read_only = safe_read_only A;
  read_only = read_only A;
  tail = tail sizes A;
}

-- how many pages begin below the tail: those are entered
abbrev pub pages_entered : Sizes → List Step → ℕ
pages_entered sizes A = (tail sizes A + sizes.page_size - 1) / sizes.page_size

-- the pages of a list
abbrev pub pages_of : Sizes → List Step → Pages
pages_of sizes A = record {
  page_size = sizes.page_size;
  frames = map (held_of sizes A) (range_with_len 0 sizes.frames);
  entered = pages_entered sizes A;
}

-- a core stands at the accepted list A: each quantity is that of the list; jobs are named by their tags
pub record Stands {J : Type 0} (tag : J → ℕ) (core : State J) (A : List Step) : Type 0 where
  pub in_range : AreInRange core.sizes
  pub accepted : IsAccepted core.sizes A
  pub table_is : core.table ≡ table_of core.sizes A
  pub views_is : core.views ≡ slot_views core.sizes A
  pub limit_is : core.drain.limit ≡ core.sizes.drain
  pub pending_is : map (waiting_of tag) core.drain.pending ≡ pending A
  pub taken_is : core.drain.taken ≡ taken A
  pub ordered : IsDrain core.drain
  pub offsets_is : core.offsets ≡ log_of core.sizes A
  pub pages_is : core.pages ≡ pages_of core.sizes A

-- a core stands at some list
abbrev pub IsStanding : {J : Type 0} → (J → ℕ) → State J → Type 0
IsStanding tag core = (A : List Step) × Stands tag core A
