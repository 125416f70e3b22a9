-- A word of an image is the sum of all adds at its address, whatever pages had its frame before.
use Rattle.std.proofs.Common.{Bool, true, false, ◌==◌, ◌≢◌, ◌≡◌, ℕ, ◌+◌, ◌*◌, ◌<◌, List, [], ◌∷◌, ◌++◌, length, map, Some, None, slice_get, refl, ap, sym, ◌∙◌, inl, inr, ⊎_elim, subst, arith, append_assoc}
use Rattle.std.specs.Prelude.{Option, if◌then◌else◌}
use Rattle.std.specs.List.{AllByRecursion as Every}
use Rattle.std.proofs.lemmas.Bool.{eqb-false}
use Rattle.std.proofs.lemmas.List.{append-nil, length-map}
use Rattle.std.proofs.lemmas.Option.{slice_get_within}
use Rattle.hl_model.specs.Sizes.{Sizes}
use Rattle.hl_history.specs.declared.view.Entry.{Entry}
use Rattle.hl_words.specs.declared.view.Touch.{Touch}
use Rattle.hl_words.specs.declared.view.Touch.TheVariants.{Stored, Loaded, Changed, Called, Looked, Met}
use Rattle.hl_words.specs.Laws.{AddsUp}
use Rattle.hl_words.specs.Rule.{last_store, left_by as leaves_by, TouchBy, by_rider, held, IsSerial, touches_of}
use Rattle.hl_words.specs.States.{RiderState}
use Rattle.hl_words.proofs.Cut.{every_back, every_weaker}
use Rattle.hl_words.proofs.LawProofs.{adds_since}
use Rattle.hl_words.proofs.Orders.{there}
use Rattle.hl_words.proofs.PastProofs.{touches_both}
use Rattle.hl_images.specs.Writes.{CallsWriteNothing}
use Rattle.hl_memory.specs.Acts.{in_cells}
use Rattle.hl_memory.specs.Images.{ImagesAreSumsAnywhere}
use Rattle.hl_memory.proofs.ActLaws.{cells_both, mapped_own}
use Rattle.hl_memory.proofs.EndLaws.{images_are_memory}
use Rattle.hl_memory.proofs.CutLaws.{IsZeroed}
use Rattle.hl_memory.proofs.ImageLaws.{none_by}
use Rattle.hl_memory.proofs.OpenLaws.{changes_find_memory}
use Rattle.hl_memory.proofs.WrittenLaws.{newest_write, zeroed}

-- a store that leaves nothing at the address is at another one
elsewhere : (c d v : ℕ) (o : Option ℕ) → (if d == c then Some v else o) ≡ None → (d ≢ c) × (o ≡ None)
elsewhere c d v o = by (d == c) refl
  where
    by : (b : Bool) → (d == c) ≡ b → (if b then Some v else o) ≡ None → (d ≢ c) × (o ≡ None)
    by true e none = absurd (cc none)
    by false e none = (eqb-false d c e, none)

-- of an act only what it stores
abbrev stored_of : Touch → Touch
stored_of (Stored d v) = Stored d v
stored_of (Changed d f v) = Changed d f v
stored_of _ = Met 0 0

abbrev all_stored : List TouchBy → List TouchBy
all_stored history = map (λ t. by_rider t.rider (stored_of t.touch)) history

leaves_same : (a w : ℕ) (t : Touch) → leaves_by a (stored_of t) w ≡ leaves_by a t w
leaves_same a w (Stored d v) = refl
leaves_same a w _ = refl

held_same : (a : ℕ) (history : List TouchBy) → held a (all_stored history) ≡ held a history
held_same a [] = refl
held_same a (t ∷ history) = leaves_same a (held a (all_stored history)) t.touch ∙ ap (leaves_by a t.touch) (held_same a history)

adds_same : (a total : ℕ) (ts : List Touch) → AddsUp a total ts → AddsUp a total (map stored_of ts)
adds_same a total [] h = h
adds_same a total (Stored d v ∷ ts) h = (h.0, adds_same a total ts h.1)
adds_same a total (Changed d f v ∷ ts) (inl h) = inl (h.0, adds_same a total ts h.1)
adds_same a total (Changed d f v ∷ ts) (inr h) = inr (h.0, (h.1.0, h.1.1, h.1.2, h.1.3, adds_same a h.1.1 ts h.1.4))
adds_same a total (_ ∷ ts) h = adds_same a total ts h

-- where each change found what the newest store at its address left, these are serial
serial_stored : (history : List TouchBy) → ((newer before : List TouchBy) (i a found v : ℕ) → history ≡ newer ++ by_rider i (Changed a found v) ∷ before → found ≡ held a before) → IsSerial (all_stored history)
serial_stored [] finds = tt
serial_stored (t ∷ history) finds = by t.touch refl (serial_stored history (λ newer before i a found v is. finds (t ∷ newer) before i a found v (ap (λ (l : List TouchBy). t ∷ l) is)))
  where
    by : (u : Touch) → t.touch ≡ u → IsSerial (all_stored history) → IsSerial (by_rider t.rider (stored_of t.touch) ∷ all_stored history)
    by (Changed a found v) is rest =
        let found_is : found ≡ held a (all_stored history) = finds [] history t.rider a found v (ap (λ (u : Touch). by_rider t.rider u ∷ history) is) ∙ sym (held_same a history) in
        subst (λ (u : Touch). IsSerial (by_rider t.rider (stored_of u) ∷ all_stored history)) (sym is) (found_is, rest)
    by (Stored d v) is rest = subst (λ (u : Touch). IsSerial (by_rider t.rider (stored_of u) ∷ all_stored history)) (sym is) (tt, rest)
    by (Loaded d v) is rest = subst (λ (u : Touch). IsSerial (by_rider t.rider (stored_of u) ∷ all_stored history)) (sym is) (tt, rest)
    by (Called m n) is rest = subst (λ (u : Touch). IsSerial (by_rider t.rider (stored_of u) ∷ all_stored history)) (sym is) (tt, rest)
    by (Looked w x) is rest = subst (λ (u : Touch). IsSerial (by_rider t.rider (stored_of u) ∷ all_stored history)) (sym is) (tt, rest)
    by (Met m x) is rest = subst (λ (u : Touch). IsSerial (by_rider t.rider (stored_of u) ∷ all_stored history)) (sym is) (tt, rest)

-- acts behind which nothing but 0s of sweeps is stored have all that is added
adds_before : (calls : List Entry) (a total : ℕ) (xs ys : List Touch) → Every (IsZeroed calls a) xs → AddsUp a total (xs ++ ys) → AddsUp a total ys
adds_before calls a total [] ys zero h = h
adds_before calls a total (Stored d v ∷ xs) ys zero h = adds_before calls a total xs ys zero.1 h.1
adds_before calls a total (Changed d f v ∷ xs) ys zero (inl h) = adds_before calls a total xs ys zero.1 h.1
adds_before calls a total (Changed d f v ∷ xs) ys zero (inr h) =
    let no : Changed d f v ≡ Stored a 0 = (zero.0 v (inr (f, ap (λ (x : ℕ). Changed x f v) h.0))).0 in
    absurd (cc no)
adds_before calls a total (_ ∷ xs) ys zero h = adds_before calls a total xs ys zero.1 h

-- acts that store nothing there add nothing
adds_nothing : (a : ℕ) (ts : List Touch) → last_store a ts ≡ None → AddsUp a 0 ts
adds_nothing a [] e = refl
adds_nothing a (Stored d v ∷ ts) e = let o = elsewhere a d v (last_store a ts) e in (o.0, adds_nothing a ts o.1)
adds_nothing a (Changed d f v ∷ ts) e = let o = elsewhere a d v (last_store a ts) e in inl (o.0, adds_nothing a ts o.1)
adds_nothing a (_ ∷ ts) e = adds_nothing a ts e

theirs_stored : (sizes : Sizes) (n : ℕ) (history : List TouchBy) → Every (λ (t : TouchBy). t.rider < n) (in_cells sizes history) → Every (λ (t : TouchBy). t.rider < n) (all_stored history)
theirs_stored sizes n [] h = tt
theirs_stored sizes n (t ∷ history) h = (h.0, theirs_stored sizes n history h.1)

pub images_are_sums_anywhere : (F : Type 0) → ImagesAreSumsAnywhere F
images_are_sums_anywhere F sizes riders ending page k v image totals i page_some frames_some history its here long each =
    let a = page * sizes.page_size + k in
    let inside : k < sizes.page_size = omega (arith, slice_get_within image k v here, i.places) in
    let m = images_are_memory F sizes riders ending page k v image i page_some frames_some history its here in
    let newer = m.0 in
    let before = m.1 in
    let order = i.ends.ruled.rule.order in
    let views = map (λ (q : RiderState). q.view) riders in
    let in_order = sym its.cells ∙ ap (in_cells sizes) m.2 ∙ cells_both sizes newer before in
    let theirs = theirs_stored sizes (length views) before (every_back (λ (t : TouchBy). t.rider < length views) (in_cells sizes newer) (in_cells sizes before) (subst (Every (λ (t : TouchBy). t.rider < length views)) in_order order.1.theirs)) in
    let serial = serial_stored before (λ front base j b found x is. changes_find_memory F sizes riders ending i.ends page_some frames_some history (newer ++ front) base its j b found x
    (m.2 ∙ ap (λ (l : List TouchBy). newer ++ l) is ∙ sym (append_assoc newer front (by_rider j (Changed b found x) ∷ base)))) in
    let added : (j s : ℕ) → slice_get totals j ≡ Some s → AddsUp a s (touches_of j before) =
    λ j s at.
    let r = there riders j (omega (arith, slice_get_within totals j s at, long)) in
    ⊎_elim
    (λ (adds : AddsUp a s (touches_of j history)).
    adds_before r.0.calls a s (touches_of j newer) (touches_of j before) (zeroed F sizes riders ending page k image i page_some frames_some inside history newer before its m.2 m.4 j r.0 r.1)
    (subst (AddsUp a s) (ap (touches_of j) m.2 ∙ touches_both j newer before) adds))
    (λ (rests : CallsWriteNothing a r.0.calls × (s ≡ 0)).
    let none : last_store a (touches_of j before) ≡ None = newest_write F sizes riders ending page k image i page_some frames_some inside history newer before its m.2 m.4 m.5 j r.0 r.1 ∙ none_by a r.0.calls rests.0 in
    subst (λ (n : ℕ). AddsUp a n (touches_of j before)) (sym rests.1) (adds_nothing a (touches_of j before) none))
    (each j s r.0 r.1 at) in
    let all : all_stored before ++ [] ≡ all_stored before = append-nil (all_stored before) in
    m.3 ∙ sym (held_same a before) ∙ sym (ap (held a) all)
    ∙ adds_since a (all_stored before) [] totals (subst IsSerial (sym all) serial) refl
    (every_weaker (λ (t : TouchBy). t.rider < length views) (λ (t : TouchBy). t.rider < length totals) (all_stored before) (λ t l. omega (arith, l, long, length-map riders (λ (q : RiderState). q.view))) theirs)
    (λ j s at. subst (AddsUp a s) (sym (mapped_own stored_of j before)) (adds_same a s (touches_of j before) (added j s at)))
