-- What contracts see of a log, of a pass and of a page that was taken.
use Rattle.std.specs.Prelude.{ℕ, Bool}
use Rattle.hl_model.specs.declared.action.Tag.{Tag}
use Rattle.hl_words.specs.Rows.{RowMasterState, RowRiderState}
use Rattle.hl_core.specs.Standing.{State}
use Rattle.hl_pass.specs.declared.pass_view.PassView.{PassView}
use Rattle.hl_pass.specs.declared.stamps.Stamps.{Stamps}
use Rattle.hl_log.specs.declared.shared.Shared.{Shared}

-- what a log keeps: a core, the stamp of each slot, the words, and the master: its stores of four of them, and how many
-- riders are left
pub record LogState : Type 0 where
  pub core : State Tag
  pub stamps : Stamps
  pub shared : Shared
  pub master : RowMasterState

-- a pass: the words of its log, what it keeps of its slot, and what it did to words
pub record PassState : Type 0 where
  pub shared : Shared
  pub own : PassView
  pub rider : RowRiderState

-- a page: the words of its log and the log's stamp, its number, whether it is to be cleaned, whether it was swept, and
-- what was done to its words
pub record PageState : Type 0 where
  pub shared : Shared
  pub origin : ℕ
  pub page : ℕ
  pub cleans : Bool
  pub swept : Bool
  pub rider : RowRiderState
