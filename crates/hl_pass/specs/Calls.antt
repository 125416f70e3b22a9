-- Who a pass is, under the lock, and what it brings.
use Rattle.std.specs.Prelude.{◌≡◌, ℕ, ◌==◌, Bool, true, false, ◌&&◌, if◌then◌else◌, Option, Some, None, is_some, List}
use Rattle.hl_model.specs.declared.fault.Fault.{Fault}
use Rattle.hl_model.specs.declared.fault.Fault.TheVariants.{Stranger}
use Rattle.hl_model.specs.declared.step.Step.{Step}
use Rattle.hl_model.specs.declared.step.Step.TheVariants.{Refresh, Release, Allocate, Look}
use Rattle.hl_model.specs.Sizes.{Sizes}
use Rattle.hl_model.specs.Views.{slot_view}
use Rattle.hl_model.specs.Replies.{extended}
use Rattle.hl_pass.specs.declared.pass_view.PassView.{PassView}
use Rattle.hl_pass.specs.Passes.{is_up}
use Rattle.hl_pass.specs.Stamps.{stamp_at}
use Rattle.hl_pass.specs.Views.{has_view}

-- the pass is the one to which its slot belongs: its held view is the slot's, and it has the slot's stamp
abbrev pub is_known : Sizes → List ℕ → List Step → PassView → Bool
is_known sizes row A p = has_view (slot_view sizes p.slot A) p.held && stamp_at sizes row A p.slot == p.stamp

-- the pass is so, if its slot is protected
abbrev pub KnownAt : Sizes → List ℕ → List Step → PassView → Type 0
KnownAt sizes row A p = is_some (slot_view sizes p.slot A) ≡ true → is_known sizes row A p ≡ true

-- a step by which a pass's slot itself goes on
abbrev pub is_call : Step → Bool
is_call (Refresh t) = true
is_call (Release t) = true
is_call (Allocate t n) = true
is_call _ = false

-- the fault that tells this stamp, unless the test passes
abbrev pub unless_stranger : Bool → ℕ → Option Fault
unless_stranger test stamp = if test then None else Some (Stranger stamp)

-- the fault of a call of a pass that isn't the slot's
abbrev pub stranger_fault : Sizes → List ℕ → List Step → PassView → Option Fault
stranger_fault sizes row A p = unless_stranger (is_known sizes row A p) (stamp_at sizes row A p.slot)

-- the fault of something of this origin, where a log has this stamp
abbrev pub origin_fault : ℕ → ℕ → Option Fault
origin_fault own origin = unless_stranger (origin == own) own

-- the list with what the pass saw without the lock
abbrev pub looked : Sizes → List Step → PassView → List Step
looked sizes A p = if is_up p then A else extended sizes A (Look p.slot p.view.read_only p.view.head)
