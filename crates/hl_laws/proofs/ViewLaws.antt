-- What the views become when one step is put behind the list.
use Rattle.std.proofs.Common.{◌≡◌, ◌≢◌, ℕ, ◌+◌, ◌<◌, ◌≤◌, Bool, true, false, cond, max, is_some, List, [], ◌∷◌, ◌++◌, length, take, drop, get_or, set, refl, sym, ap, ap₂, ◌∙◌, arith, take_all, eq-eqb, ne_eqb}
use Rattle.std.specs.Prelude.{◌==◌, Option, Some, None, unwrap_or}
use Rattle.std.proofs.lemmas.Bool.{cond-true, cond-false}
use Rattle.std.proofs.lemmas.List.{length_push, take-append-le, drop-append-le, drop_all}
use Rattle.std.proofs.lemmas.List.FromFn.{length-map-range_with_len}
use Rattle.hl_model.specs.declared.step.Step.{Step}
use Rattle.hl_model.specs.declared.step.Step.TheVariants.{Acquire, Refresh, Release, Raise, Shift, Allocate, Look}
use Rattle.hl_model.specs.declared.view.View.{View}
use Rattle.hl_model.specs.Lists.{until_last, last_given}
use Rattle.hl_model.specs.Sizes.{Sizes}
use Rattle.hl_model.specs.Epochs.{enters, leaves, current_epoch, mark, is_protected, up_to_mark, slot_epoch}
use Rattle.hl_model.specs.Offsets.{raised_to, shifted_to, read_only, head, tail_past, tail}
use Rattle.hl_model.specs.Views.{since_mark, looked_read_only, looked_head, allocates, seen_read_only, seen_head, seen_tail, view_of, slot_view, slot_views}
use Rattle.hl_model.proofs.ListLaws.{until_last-push, until_last-le, last_given-push}
use Rattle.hl_laws.proofs.RowLaws.{row_at, rows_same, rows_set}
use Rattle.hl_laws.proofs.EpochLaws.{slot_epoch-push, is_protected-slot_epoch}
use Rattle.hl_laws.proofs.OffsetLaws.{read_only-stay, head-stay, tail-push}

protected_parts : (b c : Bool) (e : ℕ) (o : Option ℕ) → is_some (cond b (Some e) (cond c None o)) ≡ cond b true (cond c false (is_some o))
protected_parts true c e o = refl
protected_parts false true e o = refl
protected_parts false false e o = refl

-- what one step does to the protection of one slot
pub is_protected-push : (t : ℕ) (A : List Step) (s : Step) → is_protected t (A ++ s ∷ []) ≡ cond (enters t s) true (cond (leaves t s) false (is_protected t A))
is_protected-push t A s =
    is_protected-slot_epoch t (A ++ s ∷ []) ∙ ap is_some (slot_epoch-push t A s) ∙ protected_parts (enters t s) (leaves t s) (current_epoch A) (slot_epoch t A)
    ∙ ap (λ b. cond (enters t s) true (cond (leaves t s) false b)) (sym (is_protected-slot_epoch t A))

-- a step that moves no slot leaves it protected or not
is_protected-stay : (t : ℕ) (A : List Step) (s : Step) → enters t s ≡ false → leaves t s ≡ false → is_protected t (A ++ s ∷ []) ≡ is_protected t A
is_protected-stay t A s e l = is_protected-push t A s ∙ rw (e, l) refl

mark-enters : (t : ℕ) (A : List Step) (s : Step) → enters t s ≡ true → mark t (A ++ s ∷ []) ≡ length A + 1
unfolding mark
mark-enters t A s h = until_last-push (enters t) A s ∙ cond-true (enters t s) (length A + 1) (until_last (enters t) A) h

mark-stay : (t : ℕ) (A : List Step) (s : Step) → enters t s ≡ false → mark t (A ++ s ∷ []) ≡ mark t A
unfolding mark
mark-stay t A s h = until_last-push (enters t) A s ∙ cond-false (enters t s) (length A + 1) (until_last (enters t) A) h

-- the mark is within the list
pub mark-le : (t : ℕ) (A : List Step) → mark t A ≤ length A
unfolding mark
mark-le t A = until_last-le (enters t) A

-- what slot t saw of an offset: what its last look after its mark brought, or the offset of the list up to its mark
abbrev pub seen : (ℕ → Step → Option ℕ) → (List Step → ℕ) → ℕ → List Step → ℕ
seen looked offset t A = last_given (looked t) (offset (up_to_mark t A)) (since_mark t A)

-- a step that enters sees the offset itself
pub seen-enters : (looked : ℕ → Step → Option ℕ) (offset : List Step → ℕ) (t : ℕ) (A : List Step) (s : Step) → enters t s ≡ true → seen looked offset t (A ++ s ∷ []) ≡ offset (A ++ s ∷ [])
unfolding up_to_mark since_mark last_given
seen-enters looked offset t A s h =
    let all : take (length A + 1) (A ++ s ∷ []) ≡ A ++ s ∷ [] = take_all (length A + 1) (A ++ s ∷ []) (omega (arith, length_push A s)) in
    let rest : drop (length A + 1) (A ++ s ∷ []) ≡ [] = drop_all (length A + 1) (A ++ s ∷ []) (omega (arith, length_push A s)) in
    rw (mark-enters t A s h, all, rest) refl

-- any other step sees what it looks at, if it does
pub seen-push : (looked : ℕ → Step → Option ℕ) (offset : List Step → ℕ) (t : ℕ) (A : List Step) (s : Step) → enters t s ≡ false → seen looked offset t (A ++ s ∷ []) ≡ unwrap_or (looked t s) (seen looked offset t A)
unfolding up_to_mark since_mark
seen-push looked offset t A s h =
    let front : take (mark t A) (A ++ s ∷ []) ≡ take (mark t A) A = take-append-le (mark t A) A (s ∷ []) (mark-le t A) in
    let rest : drop (mark t A) (A ++ s ∷ []) ≡ drop (mark t A) A ++ s ∷ [] = drop-append-le (mark t A) A (s ∷ []) (mark-le t A) in
    rw (mark-stay t A s h, front, rest) (last_given-push (looked t) (offset (take (mark t A) A)) (drop (mark t A) A) s)

-- a step that enters moves no offset
enters-raised_to : (t : ℕ) (s : Step) → enters t s ≡ true → raised_to s ≡ 0
enters-raised_to t (Raise x) h = cc
enters-raised_to t _ h = refl

enters-shifted_to : (t : ℕ) (s : Step) → enters t s ≡ true → shifted_to s ≡ 0
enters-shifted_to t (Shift x) h = cc
enters-shifted_to t _ h = refl

enters-tail_past : (page_size tail t : ℕ) (s : Step) → enters t s ≡ true → tail_past page_size tail s ≡ tail
enters-tail_past page_size tail t (Allocate u n) h = cc
enters-tail_past page_size tail t _ h = refl

-- the read-only offset that a slot saw, with one step more
pub seen_read_only-enters : (t : ℕ) (A : List Step) (s : Step) → enters t s ≡ true → seen_read_only t (A ++ s ∷ []) ≡ read_only A
unfolding seen_read_only
seen_read_only-enters t A s h = seen-enters looked_read_only read_only t A s h ∙ read_only-stay A s (enters-raised_to t s h)

pub seen_read_only-push : (t : ℕ) (A : List Step) (s : Step) → enters t s ≡ false → seen_read_only t (A ++ s ∷ []) ≡ unwrap_or (looked_read_only t s) (seen_read_only t A)
unfolding seen_read_only
seen_read_only-push t A s h = seen-push looked_read_only read_only t A s h

-- the head that a slot saw
pub seen_head-enters : (t : ℕ) (A : List Step) (s : Step) → enters t s ≡ true → seen_head t (A ++ s ∷ []) ≡ head A
unfolding seen_head
seen_head-enters t A s h = seen-enters looked_head head t A s h ∙ head-stay A s (enters-shifted_to t s h)

pub seen_head-push : (t : ℕ) (A : List Step) (s : Step) → enters t s ≡ false → seen_head t (A ++ s ∷ []) ≡ unwrap_or (looked_head t s) (seen_head t A)
unfolding seen_head
seen_head-push t A s h = seen-push looked_head head t A s h

allocated-le : (t : ℕ) (A : List Step) → until_last (allocates t) A ≤ length A
allocated-le t A = until_last-le (allocates t) A

-- a step by which a slot enters or allocates sees the tail itself
tail_seen : (sizes : Sizes) (t : ℕ) (A : List Step) (s : Step) → length A + 1 ≤ max (mark t (A ++ s ∷ [])) (until_last (allocates t) (A ++ s ∷ [])) → seen_tail sizes t (A ++ s ∷ []) ≡ tail sizes (A ++ s ∷ [])
unfolding seen_tail
tail_seen sizes t A s h =
    ap (tail sizes) (take_all (max (mark t (A ++ s ∷ [])) (until_last (allocates t) (A ++ s ∷ []))) (A ++ s ∷ []) (omega (arith, length_push A s, h)))

-- the tail that a slot saw, with one step more
pub seen_tail-enters : (sizes : Sizes) (t : ℕ) (A : List Step) (s : Step) → enters t s ≡ true → seen_tail sizes t (A ++ s ∷ []) ≡ tail sizes A
seen_tail-enters sizes t A s h =
    tail_seen sizes t A s (omega (arith, mark-enters t A s h)) ∙ tail-push sizes A s ∙ enters-tail_past sizes.page_size (tail sizes A) t s h

pub seen_tail-allocates : (sizes : Sizes) (t : ℕ) (A : List Step) (s : Step) → allocates t s ≡ true → seen_tail sizes t (A ++ s ∷ []) ≡ tail sizes (A ++ s ∷ [])
seen_tail-allocates sizes t A s h =
    let place : until_last (allocates t) (A ++ s ∷ []) ≡ length A + 1 = until_last-push (allocates t) A s ∙ cond-true (allocates t s) (length A + 1) (until_last (allocates t) A) h in
    tail_seen sizes t A s (omega (arith, place))

pub seen_tail-stay : (sizes : Sizes) (t : ℕ) (A : List Step) (s : Step) → enters t s ≡ false → allocates t s ≡ false → seen_tail sizes t (A ++ s ∷ []) ≡ seen_tail sizes t A
unfolding seen_tail
seen_tail-stay sizes t A s e a =
    let place : until_last (allocates t) (A ++ s ∷ []) ≡ until_last (allocates t) A = until_last-push (allocates t) A s ∙ cond-false (allocates t s) (length A + 1) (until_last (allocates t) A) a in
    rw (mark-stay t A s e, place) (ap (tail sizes) (take-append-le (max (mark t A) (until_last (allocates t) A)) A (s ∷ []) (omega (arith, mark-le t A, allocated-le t A))))

-- the view of a protected slot
pub slot_view-protected : (sizes : Sizes) (t : ℕ) (A : List Step) → is_protected t A ≡ true → slot_view sizes t A ≡ Some (view_of sizes t A)
unfolding slot_view
slot_view-protected sizes t A h = ap (λ b. cond b (Some (view_of sizes t A)) None) h

-- no other slot has one
pub slot_view-unprotected : (sizes : Sizes) (t : ℕ) (A : List Step) → is_protected t A ≡ false → slot_view sizes t A ≡ None
unfolding slot_view
slot_view-unprotected sizes t A h = ap (λ b. cond b (Some (view_of sizes t A)) None) h

-- a slot has a view exactly where it is protected
pub is_protected-slot_view : (sizes : Sizes) (t : ℕ) (A : List Step) → is_protected t A ≡ is_some (slot_view sizes t A)
unfolding slot_view
is_protected-slot_view sizes t A = elim (is_protected t A) as (λ b. b ≡ is_some (cond b (Some (view_of sizes t A)) None)) [ true ↦ refl | false ↦ refl ]

-- and it is what the slot saw
pub view_of-slot_view : (sizes : Sizes) (t : ℕ) (A : List Step) (v : View) → slot_view sizes t A ≡ Some v → view_of sizes t A ≡ v
unfolding slot_view
view_of-slot_view sizes t A v = elim (is_protected t A) as (λ b. cond b (Some (view_of sizes t A)) None ≡ Some v → view_of sizes t A ≡ v) [ true ↦ (λ h. cc) | false ↦ (λ h. cc) ]

-- three offsets that are those of a view
same_view : (r h t x y z : ℕ) → r ≡ x → h ≡ y → t ≡ z → ◌≡◌ {A = Option View} (Some (record { read_only = r; head = h; tail = t })) (Some (record { read_only = x; head = y; tail = z }))
same_view r h t x y z a b c = rw (a, b, c) refl

-- a step that enters sees the offsets themselves
pub slot_view-enters : (sizes : Sizes) (t : ℕ) (A : List Step) (s : Step) → enters t s ≡ true → slot_view sizes t (A ++ s ∷ []) ≡ Some (record { read_only = read_only A; head = head A; tail = tail sizes A })
slot_view-enters sizes t A s h =
    slot_view-protected sizes t (A ++ s ∷ []) (is_protected-push t A s ∙ ap (λ b. cond b true (cond (leaves t s) false (is_protected t A))) h)
    ∙ same_view (seen_read_only t (A ++ s ∷ [])) (seen_head t (A ++ s ∷ [])) (seen_tail sizes t (A ++ s ∷ [])) (read_only A) (head A) (tail sizes A)
    (seen_read_only-enters t A s h) (seen_head-enters t A s h) (seen_tail-enters sizes t A s h)

-- a step that leaves ends the view
pub slot_view-leaves : (sizes : Sizes) (t : ℕ) (A : List Step) (s : Step) → leaves t s ≡ true → enters t s ≡ false → slot_view sizes t (A ++ s ∷ []) ≡ None
slot_view-leaves sizes t A s l e = slot_view-unprotected sizes t (A ++ s ∷ []) (is_protected-push t A s ∙ rw (e, l) refl)

-- any other step leaves the protection, and the offsets but for those that it brings
pub slot_view-moves : (sizes : Sizes) (t : ℕ) (A : List Step) (s : Step) (x y z : ℕ) → enters t s ≡ false → leaves t s ≡ false → seen_read_only t (A ++ s ∷ []) ≡ x → seen_head t (A ++ s ∷ []) ≡ y → seen_tail sizes t (A ++ s ∷ []) ≡ z → slot_view sizes t (A ++ s ∷ []) ≡ cond (is_protected t A) (Some (record { read_only = x; head = y; tail = z })) None
unfolding slot_view
slot_view-moves sizes t A s x y z e l a b c =
    ap₂ (λ p v. cond p v None) (is_protected-stay t A s e l) (same_view (seen_read_only t (A ++ s ∷ [])) (seen_head t (A ++ s ∷ [])) (seen_tail sizes t (A ++ s ∷ [])) x y z a b c)

-- and a step that brings none leaves the view
pub slot_view-stay : (sizes : Sizes) (t : ℕ) (A : List Step) (s : Step) → enters t s ≡ false → leaves t s ≡ false → allocates t s ≡ false → looked_read_only t s ≡ None → looked_head t s ≡ None → slot_view sizes t (A ++ s ∷ []) ≡ slot_view sizes t A
unfolding slot_view
slot_view-stay sizes t A s e l a r h =
    slot_view-moves sizes t A s (seen_read_only t A) (seen_head t A) (seen_tail sizes t A) e l
    (seen_read_only-push t A s e ∙ ap (λ o. unwrap_or o (seen_read_only t A)) r) (seen_head-push t A s e ∙ ap (λ o. unwrap_or o (seen_head t A)) h) (seen_tail-stay sizes t A s e a)

-- a step that touches no slot leaves the row
pub slot_views-stay : (sizes : Sizes) (A : List Step) (s : Step) → ((t : ℕ) → enters t s ≡ false) → ((t : ℕ) → leaves t s ≡ false) → ((t : ℕ) → allocates t s ≡ false) → ((t : ℕ) → looked_read_only t s ≡ None) → ((t : ℕ) → looked_head t s ≡ None) → slot_views sizes (A ++ s ∷ []) ≡ slot_views sizes A
unfolding slot_views
slot_views-stay sizes A s e l a r h =
    rows_same (λ t. slot_view sizes t (A ++ s ∷ [])) (λ t. slot_view sizes t A) sizes.slots (λ t. slot_view-stay sizes t A s (e t) (l t) (a t) (r t) (h t))

-- another slot's number is no match
pub eqb-other : (i t : ℕ) → t ≢ i → (i == t) ≡ false
eqb-other i t ne = ne_eqb i t (λ e. ne (sym e))

-- a step by which slot i alone has another view sets its place
slot_views-set : (sizes : Sizes) (A : List Step) (s : Step) (i : ℕ) (v : Option View) → slot_view sizes i (A ++ s ∷ []) ≡ v → ((t : ℕ) → t ≢ i → slot_view sizes t (A ++ s ∷ []) ≡ slot_view sizes t A) → slot_views sizes (A ++ s ∷ []) ≡ set (slot_views sizes A) i v
unfolding slot_views
slot_views-set sizes A s i v at others = rows_set (λ t. slot_view sizes t (A ++ s ∷ [])) (λ t. slot_view sizes t A) sizes.slots i v at others

-- an acquire
pub slot_views-acquire : (sizes : Sizes) (A : List Step) (i : ℕ) → slot_views sizes (A ++ Acquire i ∷ []) ≡ set (slot_views sizes A) i (Some (record { read_only = read_only A; head = head A; tail = tail sizes A }))
slot_views-acquire sizes A i =
    slot_views-set sizes A (Acquire i) i (Some (record { read_only = read_only A; head = head A; tail = tail sizes A }))
    (slot_view-enters sizes i A (Acquire i) (eq-eqb i i refl))
    (λ t ne. slot_view-stay sizes t A (Acquire i) (eqb-other i t ne) refl refl refl refl)

-- a refresh
pub slot_views-refresh : (sizes : Sizes) (A : List Step) (i : ℕ) → slot_views sizes (A ++ Refresh i ∷ []) ≡ set (slot_views sizes A) i (Some (record { read_only = read_only A; head = head A; tail = tail sizes A }))
slot_views-refresh sizes A i =
    slot_views-set sizes A (Refresh i) i (Some (record { read_only = read_only A; head = head A; tail = tail sizes A }))
    (slot_view-enters sizes i A (Refresh i) (eq-eqb i i refl))
    (λ t ne. slot_view-stay sizes t A (Refresh i) (eqb-other i t ne) refl refl refl refl)

-- a release
pub slot_views-release : (sizes : Sizes) (A : List Step) (i : ℕ) → slot_views sizes (A ++ Release i ∷ []) ≡ set (slot_views sizes A) i None
slot_views-release sizes A i =
    slot_views-set sizes A (Release i) i None (slot_view-leaves sizes i A (Release i) (eq-eqb i i refl) refl)
    (λ t ne. slot_view-stay sizes t A (Release i) refl (eqb-other i t ne) refl refl refl)

-- an allocation
pub slot_views-allocate : (sizes : Sizes) (A : List Step) (i n : ℕ) → is_protected i A ≡ true → slot_views sizes (A ++ Allocate i n ∷ []) ≡ set (slot_views sizes A) i (Some (record { read_only = seen_read_only i A; head = seen_head i A; tail = tail sizes (A ++ Allocate i n ∷ []) }))
slot_views-allocate sizes A i n h =
    slot_views-set sizes A (Allocate i n) i (Some (record { read_only = seen_read_only i A; head = seen_head i A; tail = tail sizes (A ++ Allocate i n ∷ []) }))
    (slot_view-moves sizes i A (Allocate i n) (seen_read_only i A) (seen_head i A) (tail sizes (A ++ Allocate i n ∷ [])) refl refl
    (seen_read_only-push i A (Allocate i n) refl) (seen_head-push i A (Allocate i n) refl) (seen_tail-allocates sizes i A (Allocate i n) (eq-eqb i i refl))
    ∙ cond-true (is_protected i A) (Some (record { read_only = seen_read_only i A; head = seen_head i A; tail = tail sizes (A ++ Allocate i n ∷ []) })) None h)
    (λ t ne. slot_view-stay sizes t A (Allocate i n) refl refl (eqb-other i t ne) refl refl)

-- a look of slot i alone brings offsets
looked-same : (i x : ℕ) → cond (i == i) (Some x) None ≡ Some x
looked-same i x = ap (λ b. cond b (Some x) None) (eq-eqb i i refl)

looked-other : (i t x : ℕ) → t ≢ i → cond (i == t) (Some x) None ≡ None
looked-other i t x ne = ap (λ b. cond b (Some x) None) (eqb-other i t ne)

-- a look
pub slot_views-look : (sizes : Sizes) (A : List Step) (i r h : ℕ) → is_protected i A ≡ true → slot_views sizes (A ++ Look i r h ∷ []) ≡ set (slot_views sizes A) i (Some (record { read_only = r; head = h; tail = seen_tail sizes i A }))
slot_views-look sizes A i r h p =
    slot_views-set sizes A (Look i r h) i (Some (record { read_only = r; head = h; tail = seen_tail sizes i A }))
    (slot_view-moves sizes i A (Look i r h) r h (seen_tail sizes i A) refl refl
    (seen_read_only-push i A (Look i r h) refl ∙ ap (λ o. unwrap_or o (seen_read_only i A)) (looked-same i r))
    (seen_head-push i A (Look i r h) refl ∙ ap (λ o. unwrap_or o (seen_head i A)) (looked-same i h))
    (seen_tail-stay sizes i A (Look i r h) refl refl)
    ∙ cond-true (is_protected i A) (Some (record { read_only = r; head = h; tail = seen_tail sizes i A })) None p)
    (λ t ne. slot_view-stay sizes t A (Look i r h) refl refl refl (looked-other i t r ne) (looked-other i t h ne))

-- the row at slot t
pub slot_views-at : (sizes : Sizes) (A : List Step) (t : ℕ) (d : Option View) → t < sizes.slots → get_or (slot_views sizes A) t d ≡ slot_view sizes t A
unfolding slot_views
slot_views-at sizes A t d h = row_at (λ u. slot_view sizes u A) sizes.slots t d h

-- there is a place for each slot
pub length-slot_views : (sizes : Sizes) (A : List Step) → length (slot_views sizes A) ≡ sizes.slots
unfolding slot_views
length-slot_views sizes A = length-map-range_with_len (λ t. slot_view sizes t A) 0 sizes.slots
