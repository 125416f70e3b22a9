-- What a pass does between two locked calls: looks and stores of its own slot.
use Rattle.std.specs.Prelude.{◌≡◌, ℕ, ◌<◌, ◌≤◌, List, [], ◌∷◌, fold}
use Rattle.hl_model.specs.declared.step.Step.{Step}
use Rattle.hl_model.specs.declared.step.Step.TheVariants.{Look, Write}
use Rattle.hl_model.specs.declared.view.View.{View}
pub use Rattle.hl_pass.specs.Calls.{is_call}

-- the view after a touch: a look brings both offsets
abbrev pub view_past : View → Step → View
view_past v (Look t read_only head) = record { read_only = read_only; head = head; tail = v.tail }
view_past v _ = v

-- the view after these touches
unfoldable pub view_after : View → List Step → View
view_after v xs = fold view_past v xs

-- what slot t may do where it sees the view v: look, not below the view, and write from its read-only offset
-- up to its tail
abbrev pub IsTouch : ℕ → View → Step → Type 0
IsTouch t v (Look u read_only head) = (u ≡ t) × (v.read_only ≤ read_only) × (v.head ≤ head)
IsTouch t v (Write u a x) = (u ≡ t) × (v.read_only ≤ a) × (a < v.tail)
IsTouch t v _ = ⊥

-- each of these is such a touch in the view that stands before it
unfoldable pub AreTouches : ℕ → View → List Step → Type 0
AreTouches t v [] = Unit {0}
AreTouches t v (s ∷ xs) = IsTouch t v s × AreTouches t (view_past v s) xs
