-- What holds of touches and writes once a page is sealed. Each statement is the contract of a function of the module laws.
use Rattle.std.specs.Prelude.{ℕ, ◌≡◌, ◌<◌, ◌≤◌, List, ◌∷◌, ◌++◌, Some}
use Rattle.hl_model.specs.declared.step.Step.{Step}
use Rattle.hl_model.specs.declared.step.Step.TheVariants.{Write}
use Rattle.hl_model.specs.declared.view.View.{View}
use Rattle.hl_model.specs.Sizes.{Sizes}
use Rattle.hl_model.specs.Settled.{safe_read_only}
use Rattle.hl_model.specs.Views.{slot_view}
use Rattle.hl_model.specs.Replies.{IsAccepted}
use Rattle.hl_keeper.specs.Touches.{AreTouches}

-- No touch that has not entered, of a slot with the view that its pass holds, writes below the safe read-only offset
abbrev pub PendingStaysAbove : Type 0
PendingStaysAbove = (sizes : Sizes) (A : List Step) (t : ℕ) (held : View) (front back : List Step) (u a x : ℕ)
    → 0 < sizes.page_size → IsAccepted sizes A → slot_view sizes t A ≡ Some held
    → AreTouches t held (front ++ Write u a x ∷ back) → safe_read_only A ≤ a

-- No write that is accepted later lies below it
abbrev pub LaterStaysAbove : Type 0
LaterStaysAbove = (sizes : Sizes) (A front back : List Step) (t a x : ℕ)
    → 0 < sizes.page_size → IsAccepted sizes (A ++ (front ++ Write t a x ∷ back)) → safe_read_only A ≤ a
