-- How many slots, actions and frames a base has.
use Rattle.std.proofs.Common.{◌≡◌, ℕ, ◌+◌, ◌<◌, ◌≤◌, length, get_or, sym, ap, ◌∙◌, arith, List}
use Rattle.std.proofs.lemmas.Option.{slice_get-get_or, get_or_from_slice_get}
use Rattle.std.proofs.lemmas.List.FromFn.{length-map-range_with_len}
use Rattle.hl_model.specs.Actions.{pending, taken}
use Rattle.hl_model.specs.Bases.{Base, IsBase, slot_of, held_of, base_of}
use Rattle.hl_laws.proofs.LawProofs.{drain_list_holds_them}

pub length-slots : (b : Base) → IsBase b → length b.slots ≡ b.sizes.slots
unfolding base_of
length-slots b h = ap (λ (x : Base). length x.slots) h.is ∙ length-map-range_with_len (λ t. slot_of b.sizes t h.steps) 0 b.sizes.slots

pub length-frames : (b : Base) → IsBase b → length b.frames ≡ b.sizes.frames
unfolding base_of
length-frames b h = ap (λ (x : Base). length x.frames) h.is ∙ length-map-range_with_len (held_of b.sizes h.steps) 0 b.sizes.frames

-- its actions fit the drain list, both kinds together
pub actions-fit : (b : Base) → IsBase b → length b.waiting + length b.taken ≤ b.sizes.drain
unfolding base_of
actions-fit b h =
    let fit : length (pending h.steps) + length (taken h.steps) ≤ b.sizes.drain = (drain_list_holds_them b.sizes h.steps h.accepted).1 in
    omega (arith, fit, ap (λ (x : Base). length x.waiting) h.is, ap (λ (x : Base). length x.taken) h.is)

-- an element of a list, whatever stands for one that isn't there
pub same_element : {A : Type 0} (xs : List A) (n : ℕ) (x y : A) → n < length xs → get_or xs n x ≡ get_or xs n y
same_element xs n x y within = sym (get_or_from_slice_get xs n (get_or xs n x) y (slice_get-get_or xs n x within))
