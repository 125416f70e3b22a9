-- What follows from the definitions of a pass.
use Rattle.std.specs.Prelude.{◌≡◌, ℕ, true, None, List}
use Rattle.hl_model.specs.declared.step.Step.{Step}
use Rattle.hl_model.specs.declared.step.Step.TheVariants.{Look}
use Rattle.hl_model.specs.Sizes.{Sizes}
use Rattle.hl_model.specs.Views.{slot_view}
use Rattle.hl_model.specs.Replies.{fault_of, IsAccepted}
use Rattle.hl_pass.specs.declared.pass_view.PassView.{PassView}
use Rattle.hl_pass.specs.Calls.{is_known, KnownAt}
use Rattle.hl_pass.specs.Passes.{rested_in, IsRisen}

-- what a known pass saw is accepted, if it saw nothing below what its slot did
abbrev pub CatchesUp : Type 0
CatchesUp = (sizes : Sizes) (row : List ℕ) (A : List Step) (p : PassView)
    → IsAccepted sizes A → is_known sizes row A p ≡ true → IsRisen p
    → fault_of sizes A (Look p.slot p.view.read_only p.view.head) ≡ None

-- a pass that was known, and then rested in its slot's view, is known
abbrev pub StaysKnown : Type 0
StaysKnown = (sizes : Sizes) (row : List ℕ) (A B : List Step) (epoch : ℕ) (p : PassView)
    → is_known sizes row A p ≡ true → KnownAt sizes row B (rested_in (slot_view sizes p.slot B) epoch p)
