-- The least epoch of the protected slots, one more being read.
use Rattle.std.proofs.Common.{◌≡◌, ℕ, ◌+◌, ◌<◌, min, List, [], ◌∷◌, ◌++◌, length, map, take, get_or, refl, sym, ap, ◌∙◌, arith, append-nil}
use Rattle.std.specs.Prelude.{Option, Some, None, option_map}
use Rattle.std.specs.List.{filter_map}
use Rattle.std.proofs.lemmas.List.{take_more, map-append}
use Rattle.std.proofs.lemmas.List.Elements.{filter_map-append}
use Rattle.hl_model.specs.declared.slot.Slot.{Slot}
use Rattle.hl_model.specs.Lists.{least_or}
use Rattle.hl_plain.specs.Presents.{epochs_in}

-- the least of one number more
least-push : (d : ℕ) (xs : List ℕ) (y : ℕ) → least_or d (xs ++ y ∷ []) ≡ min y (least_or y xs)
unfolding least_or
least-push d [] y = refl
least-push d (x ∷ []) y = omega arith
least-push d (x ∷ z ∷ xs) y = omega (arith, least-push x (z ∷ xs) y)

epochs-next : (slots : List (Option Slot)) (t : ℕ) → t < length slots → epochs_in (take (t + 1) slots) ≡ epochs_in (take t slots) ++ epochs_in (get_or slots t None ∷ [])
epochs-next slots t h =
    ap epochs_in (take_more slots t None h) ∙ ap (filter_map (λ e. e)) (map-append (option_map (λ (slot : Slot). slot.epoch)) (take t slots) (get_or slots t None ∷ []))
    ∙ filter_map-append (λ e. e) (map (option_map (λ (slot : Slot). slot.epoch)) (take t slots)) (map (option_map (λ (slot : Slot). slot.epoch)) (get_or slots t None ∷ []))

-- a slot that is protected
pub least-some : (slots : List (Option Slot)) (t : ℕ) (slot : Slot) (d : ℕ) → t < length slots → Some slot ≡ get_or slots t None → least_or d (epochs_in (take (t + 1) slots)) ≡ min slot.epoch (least_or slot.epoch (epochs_in (take t slots)))
least-some slots t slot d h is =
    ap (least_or d) (epochs-next slots t h ∙ ap (λ o. epochs_in (take t slots) ++ epochs_in (o ∷ [])) (sym is)) ∙ least-push d (epochs_in (take t slots)) slot.epoch

-- or isn't
pub least-none : (slots : List (Option Slot)) (t d : ℕ) → t < length slots → None ≡ get_or slots t None → least_or d (epochs_in (take (t + 1) slots)) ≡ least_or d (epochs_in (take t slots))
least-none slots t d h is =
    ap (least_or d) (epochs-next slots t h ∙ ap (λ o. epochs_in (take t slots) ++ epochs_in (o ∷ [])) (sym is) ∙ append-nil (epochs_in (take t slots)))

pub least-begin : (slots : List (Option Slot)) (d : ℕ) → least_or d (epochs_in (take 0 slots)) ≡ d
unfolding least_or
least-begin slots d = refl
