-- Entered pages, and the last of each frame.
use Rattle.std.proofs.Common.{◌≡◌, ℕ, ◌+◌, ◌*◌, ◌/◌, ◌%◌, ◌<◌, ◌≤◌, Bool, true, false, cond, ◌&&◌, ◌||◌, ltb, leb, List, [], ◌∷◌, ◌++◌, refl, sym, ap, ◌∙◌, arith, inl, inr, ◌⊎◌}
use Rattle.std.specs.Prelude.{◌==◌, ◌^◌, Option, Some, None}
use Rattle.std.proofs.Math.Nat.{mul-le-mul_left, mul-le-mul_right, mod-eq_of_lt, add-mod_right, div-add-mod, mul-div_cancel}
use Rattle.std.proofs.lemmas.Nat.{mod_below}
use Rattle.std.proofs.lemmas.Bool.{eqb-true, eq-eqb, ne_eqb, ltb-true, lt-ltb, le-ltb, leb-false, and_parts, and_from, and_left, and_right, or_left, or_right, or_from, both_ways, cases_lt, cases_eq, cases_order, cases_Bool, false_from_ne_true}
use Rattle.std.proofs.Math.Bool.{or-false}
use Rattle.hl_model.specs.declared.step.Step.{Step}
use Rattle.hl_model.specs.declared.step.Step.TheVariants.{Allocate}
use Rattle.hl_model.specs.Lists.{greatest_below}
use Rattle.hl_model.specs.Sizes.{Sizes}
use Rattle.hl_model.specs.Offsets.{tail, tail_past, place_of, is_entered}
use Rattle.hl_model.specs.declared.fault.Fault.TheVariants.{Busy}
use Rattle.hl_model.specs.Frames.{last_entered, may_enter}
use Rattle.hl_model.specs.Replies.{fault_of, protected_fault, size_fault, page_fault}
use Rattle.hl_model.proofs.ListLaws.{greatest_below-passes, greatest_below-most, greatest_below-none, greatest_below-is, greatest_below-nothing}
use Rattle.hl_laws.proofs.NoFaultLaws.{met_fault, size-none, allocate-none}
use Rattle.hl_model.proofs.Remainders.{mod-apart}
use Rattle.hl_laws.proofs.OffsetLaws.{tail-push, place_of-le, place_of-fits}

-- page p was entered, in frame f
abbrev pub is_entered_in : Sizes → ℕ → List Step → ℕ → Bool
is_entered_in sizes f A p = is_entered sizes p A && p % sizes.frames == f

-- the first page of frame f is page f
first_of_frame : (p f frames : ℕ) → p % frames ≡ f → f ≤ p
first_of_frame p f frames same = omega (arith, div-add-mod p frames)

page_below : (p a page_size : ℕ) → 0 < page_size → p * page_size < a → p < a / page_size + 1
page_below p a page_size some lt = by_order (cases_lt p (a / page_size + 1))
  where
    by_order : ((p < a / page_size + 1) ⊎ (a / page_size + 1 ≤ p)) → p < a / page_size + 1
    by_order (inl less) = less
    by_order (inr le) =
        let past : (a / page_size + 1) * page_size ≤ p * page_size = mul-le-mul_right page_size le in
        let more : (a / page_size + 1) * page_size ≡ page_size * (a / page_size) + page_size = omega arith in
        absurd (omega (arith, div-add-mod a page_size, mod_below a page_size some))

-- below an entered page all are entered
pub entered_below : (sizes : Sizes) (q p : ℕ) (A : List Step) → is_entered sizes q A ≡ true → p ≤ q → is_entered sizes p A ≡ true
entered_below sizes q p A e le =
    let lower : p * sizes.page_size ≤ q * sizes.page_size = mul-le-mul_right sizes.page_size le in
    lt-ltb (p * sizes.page_size) (tail sizes A) (omega (arith, ltb-true (q * sizes.page_size) (tail sizes A) e))

-- above a page that isn't entered none is
pub unentered_above : (sizes : Sizes) (p q : ℕ) (A : List Step) → is_entered sizes p A ≡ false → p ≤ q → is_entered sizes q A ≡ false
unentered_above sizes p q A e le = false_from_ne_true (is_entered sizes q A) (λ t. both_ways (is_entered sizes p A) e (entered_below sizes q p A t le))

-- an entered page is among those looked at
pub entered_within : (sizes : Sizes) (p : ℕ) (A : List Step) → 0 < sizes.page_size → is_entered sizes p A ≡ true → p < tail sizes A / sizes.page_size + 1
entered_within sizes p A some e = page_below p (tail sizes A) sizes.page_size some (ltb-true (p * sizes.page_size) (tail sizes A) e)

-- an entered page whose frame's next one isn't entered is the frame's last
pub last_entered-is : (sizes : Sizes) (f p : ℕ) (A : List Step) → 0 < sizes.page_size → 0 < sizes.frames → is_entered sizes p A ≡ true → p % sizes.frames ≡ f → is_entered sizes (p + sizes.frames) A ≡ false → last_entered sizes f A ≡ Some p
unfolding last_entered
last_entered-is sizes f p A page_size frames e same next =
    greatest_below-is (is_entered_in sizes f A) (tail sizes A / sizes.page_size + 1) p (entered_within sizes p A page_size e)
    (and_from (is_entered sizes p A) (p % sizes.frames == f) e (eq-eqb (p % sizes.frames) f same))
    (λ m lt within. later m lt (cases_eq (m % sizes.frames) f))
  where
    later : (m : ℕ) → p < m → ((m % sizes.frames ≡ f) ⊎ (m % sizes.frames ≡ f → ⊥)) → (is_entered sizes m A && m % sizes.frames == f) ≡ false
    later m lt (inl there) =
        and_left (is_entered sizes m A) (m % sizes.frames == f)
        (unentered_above sizes (p + sizes.frames) m A next (mod-apart p m sizes.frames (same ∙ sym there) lt))
    later m lt (inr ne) = and_right (is_entered sizes m A) (m % sizes.frames == f) (ne_eqb (m % sizes.frames) f ne)

-- a frame whose first page isn't entered has none
pub last_entered-none : (sizes : Sizes) (f : ℕ) (A : List Step) → 0 < sizes.page_size → f < sizes.frames → is_entered sizes f A ≡ false → last_entered sizes f A ≡ None
unfolding last_entered
last_entered-none sizes f A page_size within e =
    greatest_below-nothing (is_entered_in sizes f A) (tail sizes A / sizes.page_size + 1) (λ m lt. nothing m (cases_eq (m % sizes.frames) f))
  where
    nothing : (m : ℕ) → ((m % sizes.frames ≡ f) ⊎ (m % sizes.frames ≡ f → ⊥)) → (is_entered sizes m A && m % sizes.frames == f) ≡ false
    nothing m (inl there) = and_left (is_entered sizes m A) (m % sizes.frames == f) (unentered_above sizes f m A e (first_of_frame m f sizes.frames there))
    nothing m (inr ne) = and_right (is_entered sizes m A) (m % sizes.frames == f) (ne_eqb (m % sizes.frames) f ne)

-- a page of frame f is entered, and the frame's next one isn't
pub record IsLastOf (sizes : Sizes) (f p : ℕ) (A : List Step) : Type 0 where
  pub of_frame : p % sizes.frames ≡ f
  pub entered : is_entered sizes p A ≡ true
  pub next_not : is_entered sizes (p + sizes.frames) A ≡ false

-- what the last entered page of a frame is
pub last_entered-some : (sizes : Sizes) (f p : ℕ) (A : List Step) → 0 < sizes.page_size → 0 < sizes.frames → last_entered sizes f A ≡ Some p → IsLastOf sizes f p A
unfolding last_entered
last_entered-some sizes f p A page_size frames h = record { of_frame = there; entered = parts.0; next_not = false_from_ne_true (is_entered sizes (p + sizes.frames) A) no_later }
  where
    parts : (is_entered sizes p A ≡ true) × ((p % sizes.frames == f) ≡ true)
    parts = and_parts (is_entered sizes p A) (p % sizes.frames == f) (greatest_below-passes (is_entered_in sizes f A) (tail sizes A / sizes.page_size + 1) p h).0

    there : p % sizes.frames ≡ f
    there = eqb-true (p % sizes.frames) f parts.1

    no_later : is_entered sizes (p + sizes.frames) A ≡ true → ⊥
    no_later t =
        let same : (p + sizes.frames) % sizes.frames ≡ f = add-mod_right p sizes.frames ∙ there in
        let most : p + sizes.frames ≤ p = greatest_below-most (is_entered_in sizes f A) (tail sizes A / sizes.page_size + 1) p (p + sizes.frames) h (entered_within sizes (p + sizes.frames) A page_size t) (and_from (is_entered sizes (p + sizes.frames) A) ((p + sizes.frames) % sizes.frames == f) t (eq-eqb ((p + sizes.frames) % sizes.frames) f same)) in
        omega arith

unentered_none : (sizes : Sizes) (f : ℕ) (A : List Step) → 0 < sizes.page_size → f < sizes.frames → last_entered sizes f A ≡ None → is_entered sizes f A ≡ false
unfolding last_entered
unentered_none sizes f A page_size within h = false_from_ne_true (is_entered sizes f A) no_first
  where
    no_first : is_entered sizes f A ≡ true → ⊥
    no_first t =
        both_ways (is_entered sizes f A && f % sizes.frames == f)
        (greatest_below-none (is_entered_in sizes f A) (tail sizes A / sizes.page_size + 1) f h (entered_within sizes f A page_size t))
        (and_from (is_entered sizes f A) (f % sizes.frames == f) t (eq-eqb (f % sizes.frames) f (mod-eq_of_lt within)))

-- a frame has no entered page, or a last one
pub last_entered-cases : (sizes : Sizes) (f : ℕ) (A : List Step) → 0 < sizes.page_size → f < sizes.frames → (is_entered sizes f A ≡ false) ⊎ ((p : ℕ) × IsLastOf sizes f p A)
last_entered-cases sizes f A page_size within = by_result (last_entered sizes f A) refl (cases_Bool (is_entered sizes f A))
  where
    by_result : (o : Option ℕ) → last_entered sizes f A ≡ o → ((is_entered sizes f A ≡ true) ⊎ (is_entered sizes f A ≡ false)) → (is_entered sizes f A ≡ false) ⊎ ((p : ℕ) × IsLastOf sizes f p A)
    by_result (Some p) h e = inr (p, last_entered-some sizes f p A page_size (omega arith) h)
    by_result None h (inr e) = inl e
    by_result None h (inl e) = absurd (both_ways (is_entered sizes f A) (unentered_none sizes f A page_size within h) e)

before_core : (page_size end n p : ℕ) → 0 < page_size → n ≤ page_size → (b : Bool) → leb (end % page_size + n) page_size ≡ b → p < cond b end ((end / page_size + 1) * page_size) / page_size → p * page_size < end
before_core page_size end n p some most true e lt =
    let upper : p + 1 ≤ end / page_size = omega arith in
    let step : page_size * (p + 1) ≤ page_size * (end / page_size) = mul-le-mul_left page_size upper in
    let more : page_size * (p + 1) ≡ p * page_size + page_size = omega arith in
    omega (arith, div-add-mod end page_size)
before_core page_size end n p some most false e lt =
    let next : (end / page_size + 1) * page_size / page_size ≡ end / page_size + 1 = mul-div_cancel (end / page_size + 1) some in
    let upper : p ≤ end / page_size = omega arith in
    let step : page_size * p ≤ page_size * (end / page_size) = mul-le-mul_left page_size upper in
    let more : page_size * p ≡ p * page_size = omega arith in
    omega (arith, div-add-mod end page_size, leb-false (end % page_size + n) page_size e)

-- pages before the one of a new record were entered
before_place : (page_size end n p : ℕ) → 0 < page_size → n ≤ page_size → p < place_of page_size end n / page_size → p * page_size < end
before_place page_size end n p some most lt = before_core page_size end n p some most (leb (end % page_size + n) page_size) refl lt

-- pages up to an address begin at or below it, and those above it behind its page
page_start : (page_size a p : ℕ) → p ≤ a / page_size → p * page_size ≤ a
page_start page_size a p le =
    let step : page_size * p ≤ page_size * (a / page_size) = mul-le-mul_left page_size le in
    let more : page_size * p ≡ p * page_size = omega arith in
    omega (arith, div-add-mod a page_size)

page_behind : (page_size a p n : ℕ) → a % page_size + n ≤ page_size → a / page_size < p → a + n ≤ p * page_size
page_behind page_size a p n fits lt =
    let upper : a / page_size + 1 ≤ p = omega arith in
    let step : page_size * (a / page_size + 1) ≤ page_size * p = mul-le-mul_left page_size upper in
    let more : page_size * (a / page_size + 1) ≡ page_size * (a / page_size) + page_size = omega arith in
    let swap : page_size * p ≡ p * page_size = omega arith in
    omega (arith, div-add-mod a page_size)

enters_core : (page_size end n p : ℕ) → 0 < page_size → 1 ≤ n → n ≤ page_size → ltb (p * page_size) (place_of page_size end n + n) ≡ (ltb (p * page_size) end || p == place_of page_size end n / page_size)
enters_core page_size end n p some least most = by_order (cases_order p (place_of page_size end n / page_size))
  where
    by_order : ((p ≡ place_of page_size end n / page_size) ⊎ ((p < place_of page_size end n / page_size) ⊎ (place_of page_size end n / page_size < p))) → ltb (p * page_size) (place_of page_size end n + n) ≡ (ltb (p * page_size) end || p == place_of page_size end n / page_size)
    by_order (inl same) =
        let start : p * page_size ≤ place_of page_size end n = page_start page_size (place_of page_size end n) p (omega arith) in
        lt-ltb (p * page_size) (place_of page_size end n + n) (omega (arith, start, least))
        ∙ sym (or_right (ltb (p * page_size) end) (p == place_of page_size end n / page_size) (eq-eqb p (place_of page_size end n / page_size) same))
    by_order (inr (inl lt)) =
        let start : p * page_size ≤ place_of page_size end n = page_start page_size (place_of page_size end n) p (omega arith) in
        lt-ltb (p * page_size) (place_of page_size end n + n) (omega (arith, start, least))
        ∙ sym (or_left (ltb (p * page_size) end) (p == place_of page_size end n / page_size) (lt-ltb (p * page_size) end (before_place page_size end n p some most lt)))
    by_order (inr (inr gt)) =
        let behind : place_of page_size end n + n ≤ p * page_size = page_behind page_size (place_of page_size end n) p n (place_of-fits page_size end n some most) gt in
        le-ltb (p * page_size) (place_of page_size end n + n) behind
        ∙ sym (or_from (ltb (p * page_size) end) (p == place_of page_size end n / page_size) (le-ltb (p * page_size) end (omega (arith, behind, place_of-le page_size end n some))) (ne_eqb p (place_of page_size end n / page_size) (λ e. omega (arith, gt, e))))

-- an allocation enters its record's page
pub is_entered-allocate : (sizes : Sizes) (p : ℕ) (A : List Step) (t n : ℕ) → 0 < sizes.page_size → 1 ≤ n → n ≤ sizes.page_size → is_entered sizes p (A ++ Allocate t n ∷ []) ≡ (is_entered sizes p A || p == place_of sizes.page_size (tail sizes A) n / sizes.page_size)
is_entered-allocate sizes p A t n some least most =
    ap (λ a. ltb (p * sizes.page_size) a) (tail-push sizes A (Allocate t n)) ∙ enters_core sizes.page_size (tail sizes A) n p some least most

-- a step that leaves the tail enters none
pub is_entered-stay : (sizes : Sizes) (p : ℕ) (A : List Step) (s : Step) → tail_past sizes.page_size (tail sizes A) s ≡ tail sizes A → is_entered sizes p (A ++ s ∷ []) ≡ is_entered sizes p A
is_entered-stay sizes p A s same = ap (λ a. ltb (p * sizes.page_size) a) (tail-push sizes A s ∙ same)

-- what a frame's last entered page was is what it is, where the same pages are entered
pub last_entered-stay : (sizes : Sizes) (f : ℕ) (A : List Step) (s : Step) → tail_past sizes.page_size (tail sizes A) s ≡ tail sizes A → last_entered sizes f (A ++ s ∷ []) ≡ last_entered sizes f A
unfolding last_entered
last_entered-stay sizes f A s same = ap (λ a. greatest_below (λ p. ltb (p * sizes.page_size) a && p % sizes.frames == f) (a / sizes.page_size + 1)) (tail-push sizes A s ∙ same)

-- what an allocation without a fault has
pub record HasRoom (sizes : Sizes) (A : List Step) (n : ℕ) : Type 0 where
  pub least : 1 ≤ n
  pub most : n ≤ sizes.page_size
  pub within : place_of sizes.page_size (tail sizes A) n + n ≤ 2 ^ 48
  pub enters : (is_entered sizes (place_of sizes.page_size (tail sizes A) n / sizes.page_size) A || may_enter sizes (place_of sizes.page_size (tail sizes A) n / sizes.page_size) A) ≡ true

-- so has each that is accepted
pub allocate-room : (sizes : Sizes) (A : List Step) (t n : ℕ) → fault_of sizes A (Allocate t n) ≡ None → HasRoom sizes A n
allocate-room sizes A t n h =
    let parts : (protected_fault sizes A t ≡ None) × (size_fault sizes.page_size (tail sizes A) n ≡ None) × (page_fault sizes A (place_of sizes.page_size (tail sizes A) n / sizes.page_size) ≡ None) = allocate-none sizes A t n h in
    let size : (0 < n) × (n ≤ sizes.page_size) × (place_of sizes.page_size (tail sizes A) n + n ≤ 2 ^ 48) = size-none sizes.page_size (tail sizes A) n parts.1 in
    record {
      least = omega (arith, size.0);
      most = size.1;
      within = size.2;
      enters = (met_fault (is_entered sizes (place_of sizes.page_size (tail sizes A) n / sizes.page_size) A || may_enter sizes (place_of sizes.page_size (tail sizes A) n / sizes.page_size) A) (Busy (place_of sizes.page_size (tail sizes A) n / sizes.page_size)) None parts.2).0;
    }

-- the pages before the one of a new record are entered
pub entered_before : (sizes : Sizes) (p : ℕ) (A : List Step) (n : ℕ) → 0 < sizes.page_size → n ≤ sizes.page_size → p < place_of sizes.page_size (tail sizes A) n / sizes.page_size → is_entered sizes p A ≡ true
entered_before sizes p A n some most lt = lt-ltb (p * sizes.page_size) (tail sizes A) (before_place sizes.page_size (tail sizes A) n p some most lt)

-- an allocation that enters a page makes it the last of its frame
pub last_entered-enter : (sizes : Sizes) (A : List Step) (t n : ℕ) → 0 < sizes.page_size → 0 < sizes.frames → HasRoom sizes A n → is_entered sizes (place_of sizes.page_size (tail sizes A) n / sizes.page_size) A ≡ false → last_entered sizes (place_of sizes.page_size (tail sizes A) n / sizes.page_size % sizes.frames) (A ++ Allocate t n ∷ []) ≡ Some (place_of sizes.page_size (tail sizes A) n / sizes.page_size)
last_entered-enter sizes A t n page_size frames room fresh = last_entered-is sizes (q % sizes.frames) q (A ++ Allocate t n ∷ []) page_size frames here refl later
  where
    q : ℕ
    q = place_of sizes.page_size (tail sizes A) n / sizes.page_size

    here : is_entered sizes q (A ++ Allocate t n ∷ []) ≡ true
    here = is_entered-allocate sizes q A t n page_size room.least room.most ∙ or_right (is_entered sizes q A) (q == q) (eq-eqb q q refl)

    later : is_entered sizes (q + sizes.frames) (A ++ Allocate t n ∷ []) ≡ false
    later =
        is_entered-allocate sizes (q + sizes.frames) A t n page_size room.least room.most
        ∙ or_from (is_entered sizes (q + sizes.frames) A) (q + sizes.frames == q) (unentered_above sizes q (q + sizes.frames) A fresh (omega arith)) (ne_eqb (q + sizes.frames) q (λ e. omega arith))

-- and leaves the last pages of other frames
pub last_entered-other : (sizes : Sizes) (f : ℕ) (A : List Step) (t n : ℕ) → 0 < sizes.page_size → f < sizes.frames → HasRoom sizes A n → (place_of sizes.page_size (tail sizes A) n / sizes.page_size % sizes.frames ≡ f → ⊥) → last_entered sizes f (A ++ Allocate t n ∷ []) ≡ last_entered sizes f A
last_entered-other sizes f A t n page_size within room ne = by_case (last_entered-cases sizes f A page_size within)
  where
    q : ℕ
    q = place_of sizes.page_size (tail sizes A) n / sizes.page_size

    same : (p : ℕ) → p % sizes.frames ≡ f → is_entered sizes p (A ++ Allocate t n ∷ []) ≡ is_entered sizes p A
    same p there =
        is_entered-allocate sizes p A t n page_size room.least room.most
        ∙ ap (λ b. is_entered sizes p A || b) (ne_eqb p q (λ e. ne (ap (λ x. x % sizes.frames) (sym e) ∙ there)))
        ∙ or-false (is_entered sizes p A)

    by_case : ((is_entered sizes f A ≡ false) ⊎ ((p : ℕ) × IsLastOf sizes f p A)) → last_entered sizes f (A ++ Allocate t n ∷ []) ≡ last_entered sizes f A
    by_case (inl unused) =
        last_entered-none sizes f (A ++ Allocate t n ∷ []) page_size within (same f (mod-eq_of_lt within) ∙ unused)
        ∙ sym (last_entered-none sizes f A page_size within unused)
    by_case (inr last) =
        last_entered-is sizes f last.0 (A ++ Allocate t n ∷ []) page_size (omega arith) (same last.0 last.1.of_frame ∙ last.1.entered) last.1.of_frame (same (last.0 + sizes.frames) (add-mod_right last.0 sizes.frames ∙ last.1.of_frame) ∙ last.1.next_not)
        ∙ sym (last_entered-is sizes f last.0 A page_size (omega arith) last.1.entered last.1.of_frame last.1.next_not)
