-- What a protected slot knows, of a base and the steps since.
use Rattle.std.proofs.Common.{◌≡◌, ℕ, zero, suc, ◌+◌, ◌<◌, ◌≤◌, Bool, true, false, cond, ltb, max, List, [], ◌∷◌, ◌++◌, length, take, drop, refl, sym, ap, ap₂, ◌∙◌, arith, inl, inr, ◌⊎◌}
use Rattle.std.specs.Prelude.{Option, Some, None, option_map}
use Rattle.std.specs.List.{list_any}
use Rattle.std.proofs.Math.Seq.{drop-append-add, take-append-add}
use Rattle.std.proofs.lemmas.Bool.{lt-ltb, le-ltb, ltb-true, or_parts, true_from_ne_false, cases_lt}
use Rattle.std.proofs.lemmas.List.{take-append-le, drop-append-le}
use Rattle.hl_model.specs.declared.slot.Slot.{Slot}
use Rattle.hl_model.specs.declared.step.Step.{Step}
use Rattle.hl_model.specs.Lists.{until_last, last_given}
use Rattle.hl_model.specs.Sizes.{Sizes}
use Rattle.hl_model.specs.Epochs.{enters, leaves, current_epoch, mark, is_protected, up_to_mark, epoch_of}
use Rattle.hl_model.specs.Offsets.{read_only, head, tail}
use Rattle.hl_model.specs.Views.{since_mark, looked_read_only, looked_head, allocates, seen_read_only, seen_head, seen_tail, view_of}
use Rattle.hl_model.specs.Bases.{base_of, slot_of, slot_in}
use Rattle.hl_model.specs.AfterEpochs.{epoch_after, has_moved}
use Rattle.hl_model.specs.AfterOffsets.{tail_after}
use Rattle.hl_model.specs.AfterViews.{present_after, own_tail, seen_since, slot_after}
use Rattle.hl_laws.proofs.AppendLaws.{until_last-none, until_last-some, until_last-append, last_given-append, later-append, list_any-either, ltb-add}
use Rattle.hl_laws.proofs.CutOffsets.{epoch_after-is, read_only_after-is, head_after-is, tail_after-is}
use Rattle.hl_model.proofs.ListLaws.{until_last-le}
use Rattle.hl_laws.proofs.RowLaws.{row_at}
use Rattle.hl_laws.proofs.ViewLaws.{mark-le}

-- what slot t has in a base
pub slot_in-is : (sizes : Sizes) (A : List Step) (t : ℕ) → t < sizes.slots → slot_in (base_of sizes A) t ≡ slot_of sizes t A
unfolding base_of
slot_in-is sizes A t h = row_at (λ u. slot_of sizes u A) sizes.slots t None h

-- whether a slot is protected: the steps since tell where it moved in them
protected-append : (t : ℕ) (A L : List Step) → is_protected t (A ++ L) ≡ cond (has_moved t L) (is_protected t L) (is_protected t A)
unfolding is_protected mark has_moved
protected-append t A L = later-append (enters t) (leaves t) A L

-- a slot that is protected by the steps since entered in them
entered_since : (t : ℕ) (L : List Step) → is_protected t L ≡ true → list_any (enters t) L ≡ true
unfolding is_protected mark
entered_since t L h =
    true_from_ne_false (list_any (enters t) L)
    (λ e. omega (arith, ltb-true (until_last (leaves t) L) (until_last (enters t) L) h, until_last-none (enters t) L e))

-- one that moved in none of them didn't
not_entered_since : (t : ℕ) (L : List Step) → has_moved t L ≡ false → list_any (enters t) L ≡ false
unfolding has_moved
not_entered_since t L h = (or_parts (list_any (enters t) L) (list_any (leaves t) L) (sym (list_any-either (enters t) (leaves t) L) ∙ h)).0

-- its mark, where it entered since
mark-since : (t : ℕ) (A L : List Step) → list_any (enters t) L ≡ true → mark t (A ++ L) ≡ length A + mark t L
unfolding mark
mark-since t A L h = until_last-append (enters t) A L ∙ ap (λ b. cond b (length A + until_last (enters t) L) (until_last (enters t) A)) h

-- and where it didn't
mark-before : (t : ℕ) (A L : List Step) → list_any (enters t) L ≡ false → mark t (A ++ L) ≡ mark t A
unfolding mark
mark-before t A L h = until_last-append (enters t) A L ∙ ap (λ b. cond b (length A + until_last (enters t) L) (until_last (enters t) A)) h

-- the steps up to its mark and after it, where it entered since
up_to-since : (t : ℕ) (A L : List Step) → list_any (enters t) L ≡ true → up_to_mark t (A ++ L) ≡ A ++ up_to_mark t L
unfolding up_to_mark
up_to-since t A L h = ap (λ n. take n (A ++ L)) (mark-since t A L h) ∙ take-append-add A L (mark t L)

after-since : (t : ℕ) (A L : List Step) → list_any (enters t) L ≡ true → since_mark t (A ++ L) ≡ since_mark t L
unfolding since_mark
after-since t A L h = ap (λ n. drop n (A ++ L)) (mark-since t A L h) ∙ drop-append-add A L (mark t L)

-- and where it didn't
up_to-before : (t : ℕ) (A L : List Step) → list_any (enters t) L ≡ false → up_to_mark t (A ++ L) ≡ up_to_mark t A
unfolding up_to_mark
up_to-before t A L h = ap (λ n. take n (A ++ L)) (mark-before t A L h) ∙ take-append-le (mark t A) A L (mark-le t A)

after-before : (t : ℕ) (A L : List Step) → list_any (enters t) L ≡ false → since_mark t (A ++ L) ≡ since_mark t A ++ L
unfolding since_mark
after-before t A L h = ap (λ n. drop n (A ++ L)) (mark-before t A L h) ∙ drop-append-le (mark t A) A L (mark-le t A)

-- all steps since are after its mark then
all_after : (t : ℕ) (L : List Step) → list_any (enters t) L ≡ false → since_mark t L ≡ L
unfolding since_mark mark
all_after t L h = ap (λ n. drop n L) (until_last-none (enters t) L h)

some_core : (b : Bool) (n : ℕ) → (b ≡ true → 1 ≤ n) → (b ≡ false → n ≡ 0) → b ≡ ltb 0 n
some_core true n some none = sym (lt-ltb 0 n (omega (arith, some refl)))
some_core false n some none = sym (le-ltb 0 n (omega (arith, none refl)))

past_core : (any x : Bool) (m n : ℕ) → (any ≡ false → n ≡ 0) → ltb m n ≡ ltb (suc m) (cond any (n + 1) (cond x 1 0))
past_core true x m n none = sym (ap₂ (λ i j. ltb i j) (omega arith) (omega arith) ∙ ltb-add 1 m n)
past_core false true m n none = le-ltb m n (omega (arith, none refl)) ∙ sym (le-ltb (suc m) 1 (omega arith))
past_core false false m n none = le-ltb m n (omega (arith, none refl)) ∙ sym (le-ltb (suc m) 0 (omega arith))

-- one passes behind the first m where the last that passes is there
any-behind : {X : Type 0} (p : X → Bool) (m : ℕ) (xs : List X) → list_any p (drop m xs) ≡ ltb m (until_last p xs)
unfolding until_last
any-behind p zero xs = some_core (list_any p xs) (until_last p xs) (until_last-some p xs) (until_last-none p xs)
any-behind p (suc m) [] = sym (le-ltb (suc m) 0 (omega arith))
any-behind p (suc m) (x ∷ xs) =
    any-behind p m xs ∙ past_core (list_any p xs) (p x) m (until_last p xs) (until_last-none p xs)

-- the tail that a slot saw, where it entered since
tail-since : (sizes : Sizes) (t : ℕ) (A L : List Step) → list_any (enters t) L ≡ true → own_tail (base_of sizes A) t (tail_after (base_of sizes A) (up_to_mark t L)) L ≡ seen_tail sizes t (A ++ L)
unfolding seen_tail since_mark up_to_mark
tail-since sizes t A L h =
    ap (λ b. cond b (tail_after (base_of sizes A) (take own L)) (tail_after (base_of sizes A) (take (mark t L) L))) (any-behind (allocates t) (mark t L) L)
    ∙ by_order (cases_lt (mark t L) own)
    ∙ sym (ap₂ (λ m n. tail sizes (take (max m n) (A ++ L))) (mark-since t A L h) (until_last-append (allocates t) A L))
  where
    own : ℕ
    own = until_last (allocates t) L

    place : (b : Bool) → ℕ
    place b = max (length A + mark t L) (cond b (length A + own) (until_last (allocates t) A))

    far : (b : Bool) → list_any (allocates t) L ≡ b → mark t L < own → place b ≡ length A + own
    far true e lt = omega (arith, lt)
    far false e lt = absurd (omega (arith, lt, until_last-none (allocates t) L e))

    near : (b : Bool) → own ≤ mark t L → place b ≡ length A + mark t L
    near true le = omega (arith, le)
    near false le = omega (arith, until_last-le (allocates t) A)

    at : (m : ℕ) → place (list_any (allocates t) L) ≡ length A + m → tail_after (base_of sizes A) (take m L) ≡ tail sizes (take (place (list_any (allocates t) L)) (A ++ L))
    at m e = tail_after-is sizes A (take m L) ∙ sym (ap (λ n. tail sizes (take n (A ++ L))) e ∙ ap (tail sizes) (take-append-add A L m))

    by_order : ((mark t L < own) ⊎ (own ≤ mark t L)) → cond (ltb (mark t L) own) (tail_after (base_of sizes A) (take own L)) (tail_after (base_of sizes A) (take (mark t L) L)) ≡ tail sizes (take (place (list_any (allocates t) L)) (A ++ L))
    by_order (inl lt) = rw (lt-ltb (mark t L) own lt) (at own (far (list_any (allocates t) L) refl lt))
    by_order (inr le) = rw (le-ltb (mark t L) own le) (at (mark t L) (near (list_any (allocates t) L) le))

-- and where it didn't
tail-before : (sizes : Sizes) (t : ℕ) (A L : List Step) → list_any (enters t) L ≡ false → own_tail (base_of sizes A) t (seen_tail sizes t A) L ≡ seen_tail sizes t (A ++ L)
unfolding seen_tail
tail-before sizes t A L h =
    ap (λ l. cond (list_any (allocates t) l) (tail_after (base_of sizes A) (take own L)) old) (all_after t L h)
    ∙ by_test (list_any (allocates t) L)
    ∙ sym (ap₂ (λ m n. tail sizes (take (max m n) (A ++ L))) (mark-before t A L h) (until_last-append (allocates t) A L))
  where
    own : ℕ
    own = until_last (allocates t) L

    old : ℕ
    old = tail sizes (take (max (mark t A) (until_last (allocates t) A)) A)

    by_test : (b : Bool) → cond b (tail_after (base_of sizes A) (take own L)) old ≡ tail sizes (take (max (mark t A) (cond b (length A + own) (until_last (allocates t) A))) (A ++ L))
    by_test true =
        let place : max (mark t A) (length A + own) ≡ length A + own = omega (arith, mark-le t A) in
        tail_after-is sizes A (take own L) ∙ sym (ap (λ n. tail sizes (take n (A ++ L))) place ∙ ap (tail sizes) (take-append-add A L own))
    by_test false =
        sym (ap (tail sizes) (take-append-le (max (mark t A) (until_last (allocates t) A)) A L (omega (arith, mark-le t A, until_last-le (allocates t) A))))

-- a slot's epoch and view, from their parts
same_slot : (e f r x h y t z : ℕ) → e ≡ f → r ≡ x → h ≡ y → t ≡ z → ◌≡◌ {A = Option Slot} (Some (record { epoch = e; view = record { read_only = r; head = h; tail = t } })) (Some (record { epoch = f; view = record { read_only = x; head = y; tail = z } }))
same_slot e f r x h y t z a b c d = rw (a, b, c, d) refl

-- what a slot has that entered since
slot-since : (sizes : Sizes) (t : ℕ) (A L : List Step) → list_any (enters t) L ≡ true → ◌≡◌ {A = Option Slot} (Some (record { epoch = epoch_after (base_of sizes A) (up_to_mark t L); view = seen_since (base_of sizes A) t (present_after (base_of sizes A) (up_to_mark t L)) L })) (Some (record { epoch = epoch_of t (A ++ L); view = view_of sizes t (A ++ L) }))
unfolding epoch_of seen_read_only seen_head
slot-since sizes t A L h =
    same_slot _ _ _ _ _ _ _ _
    (epoch_after-is sizes A (up_to_mark t L) ∙ ap current_epoch (sym (up_to-since t A L h)))
    (ap₂ (λ d l. last_given (looked_read_only t) d l) (read_only_after-is sizes A (up_to_mark t L) ∙ ap read_only (sym (up_to-since t A L h))) (sym (after-since t A L h)))
    (ap₂ (λ d l. last_given (looked_head t) d l) (head_after-is sizes A (up_to_mark t L) ∙ ap head (sym (up_to-since t A L h))) (sym (after-since t A L h)))
    (tail-since sizes t A L h)

-- an offset that a slot saw that didn't
seen-before : (looked : ℕ → Step → Option ℕ) (offset : List Step → ℕ) (t : ℕ) (A L : List Step) → list_any (enters t) L ≡ false → last_given (looked t) (last_given (looked t) (offset (up_to_mark t A)) (since_mark t A)) (since_mark t L) ≡ last_given (looked t) (offset (up_to_mark t (A ++ L))) (since_mark t (A ++ L))
seen-before looked offset t A L h =
    ap (last_given (looked t) (last_given (looked t) (offset (up_to_mark t A)) (since_mark t A))) (all_after t L h)
    ∙ sym (last_given-append (looked t) (offset (up_to_mark t A)) (since_mark t A) L)
    ∙ ap₂ (λ l m. last_given (looked t) (offset l) m) (sym (up_to-before t A L h)) (sym (after-before t A L h))

-- what such a slot has
slot-before : (sizes : Sizes) (t : ℕ) (A L : List Step) → list_any (enters t) L ≡ false → ◌≡◌ {A = Option Slot} (Some (record { epoch = epoch_of t A; view = seen_since (base_of sizes A) t (view_of sizes t A) L })) (Some (record { epoch = epoch_of t (A ++ L); view = view_of sizes t (A ++ L) }))
unfolding epoch_of seen_read_only seen_head
slot-before sizes t A L h =
    same_slot _ _ _ _ _ _ _ _
    (ap current_epoch (sym (up_to-before t A L h)))
    (seen-before looked_read_only read_only t A L h)
    (seen-before looked_head head t A L h)
    (tail-before sizes t A L h)

-- what slot t has
pub slot_after-is : (sizes : Sizes) (t : ℕ) (A L : List Step) → t < sizes.slots → slot_after (base_of sizes A) t L ≡ slot_of sizes t (A ++ L)
unfolding slot_after slot_of
slot_after-is sizes t A L lt =
    ap (λ o. cond (has_moved t L) moved (option_map still o)) (slot_in-is sizes A t lt)
    ∙ by_move (has_moved t L) refl
    ∙ sym (ap (λ b. cond b (Some whole) None) (protected-append t A L))
  where
    whole : Slot
    whole = record { epoch = epoch_of t (A ++ L); view = view_of sizes t (A ++ L) }

    moved : Option Slot
    moved = cond (is_protected t L) (Some (record { epoch = epoch_after (base_of sizes A) (up_to_mark t L); view = seen_since (base_of sizes A) t (present_after (base_of sizes A) (up_to_mark t L)) L })) None

    still : Slot → Slot
    still slot = record { epoch = slot.epoch; view = seen_since (base_of sizes A) t slot.view L }

    in_new : (b : Bool) → is_protected t L ≡ b → cond b (Some (record { epoch = epoch_after (base_of sizes A) (up_to_mark t L); view = seen_since (base_of sizes A) t (present_after (base_of sizes A) (up_to_mark t L)) L })) None ≡ cond b (Some whole) None
    in_new true e = slot-since sizes t A L (entered_since t L e)
    in_new false e = refl

    in_old : (b : Bool) → has_moved t L ≡ false → option_map still (cond b (Some (record { epoch = epoch_of t A; view = view_of sizes t A })) None) ≡ cond b (Some whole) None
    in_old true e = slot-before sizes t A L (not_entered_since t L e)
    in_old false e = refl

    by_move : (b : Bool) → has_moved t L ≡ b → cond b moved (option_map still (cond (is_protected t A) (Some (record { epoch = epoch_of t A; view = view_of sizes t A })) None)) ≡ cond (cond b (is_protected t L) (is_protected t A)) (Some whole) None
    by_move true e = in_new (is_protected t L) refl
    by_move false e = in_old (is_protected t A) e
