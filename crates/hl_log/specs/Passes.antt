-- What a pass becomes.
use Rattle.std.specs.Prelude.{◌≡◌, ℕ, ◌≤◌, Result, Ok, []}
use Rattle.hl_model.specs.declared.fault.Fault.{Fault}
use Rattle.hl_model.specs.declared.step.Reply.{Reply}
use Rattle.hl_model.specs.declared.step.Reply.TheVariants.{Entered}
use Rattle.hl_words.specs.declared.view.RiderView.{RiderView}
use Rattle.hl_words.specs.declared.which.Which.{Which}
use Rattle.hl_words.specs.declared.which.Which.TheVariants.{ReadOnly, Head}
use Rattle.hl_words.specs.Cells.{cell_at}
use Rattle.hl_words.specs.Rows.{acted}
use Rattle.hl_words.specs.Views.{with_loaded, looked, greatest_of}
use Rattle.hl_pass.specs.declared.pass_view.PassView.{PassView}
use Rattle.hl_pass.specs.Passes.{seeing, IsRisen as HasRisen}
use Rattle.hl_pass.specs.Views.{raised}
use Rattle.hl_log.specs.States.{LogState, PassState}

-- the pass that keeps this of its slot
abbrev pub with_own : PassView → PassState → PassState
with_own own p = record (p) { own = own }

-- the pass after its rider did this
abbrev pub with_act : (RiderView → RiderView) → PassState → PassState
with_act f p = record (p) { rider = acted f p.rider }

-- the cell of an address of the pass's log
abbrev pub cell_of : PassState → ℕ → ℕ
cell_of p a = cell_at p.shared.sizes a

-- the pass that loaded these offsets, and has seen them where they are above its own
abbrev pub with_look : ℕ → ℕ → PassState → PassState
with_look read_only head p = with_own (seeing (raised p.own.view read_only head) p.own)
    (with_act (λ r. with_loaded Head head (with_loaded ReadOnly read_only r)) p)

-- no less than what the pass loaded of this word before
abbrev pub IsLaterLoad : Which → PassState → ℕ → Type 0
IsLaterLoad which p x = greatest_of which (looked p.rider.view.touches) ≤ x

-- the pass saw nothing below what its slot did
abbrev pub IsRisen : PassState → Type 0
IsRisen p = HasRisen p.own

-- the epoch of a slot that entered, else this one
abbrev pub epoch_told : Result Reply Fault → ℕ → ℕ
epoch_told (Ok (Entered epoch view)) e = epoch
epoch_told _ e = e

-- a pass of this log for a slot that it doesn't have yet: it saw nothing
pub record IsVacant (log : LogState) (slot : ℕ) (p : PassState) : Type 0 where
  pub slot_is : p.own.slot ≡ slot
  pub stamp_is : p.own.stamp ≡ 0
  pub epoch_is : p.own.epoch ≡ 0
  pub view_is : p.own.view ≡ record { read_only = 0; head = 0; tail = 0 }
  pub shared : p.shared ≡ log.shared
  pub did_nothing : p.rider.view.touches ≡ []
