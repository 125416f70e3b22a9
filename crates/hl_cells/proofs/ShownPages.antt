-- Which page each frame shows, with one step more.
use Rattle.std.proofs.Common.{◌≡◌, ◌≢◌, ℕ, ◌+◌, ◌-◌, ◌*◌, ◌/◌, ◌%◌, ◌<◌, ◌≤◌, ◌⊎◌, inl, inr, Bool, true, false, cond, ◌||◌, List, [], ◌∷◌, ◌++◌, refl, sym, ap, ◌∙◌, arith}
use Rattle.std.specs.Prelude.{◌==◌, Option, Some, None}
use Rattle.std.proofs.Math.Nat.{mod-eq_of_lt, add-mod_right, lt-div-mul-add}
use Rattle.std.proofs.lemmas.Nat.{div-add-mod'}
use Rattle.std.proofs.lemmas.Bool.{lt-ltb, eq-eqb, ne_eqb, cases_eq, cases_lt}
use Rattle.std.proofs.Math.Bool.{or-false}
use Rattle.hl_model.specs.declared.frame.FrameState.{FrameState}
use Rattle.hl_model.specs.declared.frame.FrameState.TheVariants.{Opened, Sealed, Flushed, Closed, Free}
use Rattle.hl_model.specs.declared.step.Step.{Step}
use Rattle.hl_model.specs.declared.step.Step.TheVariants.{Allocate, Write, Read, CleanDone}
use Rattle.hl_model.specs.Sizes.{Sizes}
use Rattle.hl_model.specs.Offsets.{tail, place_of, is_entered}
use Rattle.hl_model.specs.Settled.{safe_read_only, closed, is_closed, is_sealed}
use Rattle.hl_model.specs.Views.{seen_read_only, seen_head, seen_tail}
use Rattle.hl_model.specs.Pages.{is_flushed, is_freed, frees}
use Rattle.hl_model.specs.Frames.{last_entered, may_enter, state_of_page}
use Rattle.hl_model.specs.Replies.{fault_of, protected_fault, IsAccepted}
use Rattle.hl_laws.proofs.BoundLaws.{closed-le-head, views_are_bounded}
use Rattle.hl_laws.proofs.FrameFacts.{unfreed_last, cleaning_last}
use Rattle.hl_laws.proofs.FrameLaws.{IsLastOf, HasRoom, allocate-room, entered_before, last_entered-is, last_entered-none, last_entered-some, last_entered-cases, last_entered-stay, last_entered-enter, last_entered-other, is_entered-allocate}
use Rattle.hl_laws.proofs.NoFaultLaws.{protected-none, write-none, read-none}
use Rattle.hl_laws.proofs.PageFacts.{may_enter-freed, freed_closed, head-le-flushed, flushed-le-safe_read_only}
use Rattle.hl_laws.proofs.WordLaws.{seen_tail-le}
use Rattle.hl_laws.proofs.WorkLaws.{is_freed-push, clean_done-none, is_freed-stay}
use Rattle.hl_cells.specs.CellWords.{shown_page}

-- a page, unless it is freed
abbrev pub unless_freed : Sizes → List Step → Option ℕ → Option ℕ
unless_freed sizes A None = None
unless_freed sizes A (Some p) = cond (is_freed sizes p A) None (Some p)

state_page : (sizes : Sizes) (A : List Step) (p : ℕ) (freed is_closed_ is_flushed_ is_sealed_ : Bool) → (cond {A = FrameState × Option ℕ} freed (Free, None) (cond is_closed_ (Closed, Some p) (cond is_flushed_ (Flushed, Some p) (cond is_sealed_ (Sealed, Some p) (Opened, Some p))))).1 ≡ cond freed None (Some p)
state_page sizes A p true c f s = refl
state_page sizes A p false true f s = refl
state_page sizes A p false false true s = refl
state_page sizes A p false false false true = refl
state_page sizes A p false false false false = refl

state_unless : (sizes : Sizes) (A : List Step) (o : Option ℕ) → (state_of_page sizes A o).1 ≡ unless_freed sizes A o
state_unless sizes A None = refl
state_unless sizes A (Some p) = state_page sizes A p (is_freed sizes p A) (is_closed sizes p A) (is_flushed sizes p A) (is_sealed sizes p A)

-- a frame shows its last entered page, unless that is freed
pub shown-is : (sizes : Sizes) (f : ℕ) (A : List Step) → shown_page sizes f A ≡ unless_freed sizes A (last_entered sizes f A)
shown-is sizes f A = state_unless sizes A (last_entered sizes f A)

-- a frame whose last entered page isn't freed shows it
pub shown-last : (sizes : Sizes) (f p : ℕ) (A : List Step) → last_entered sizes f A ≡ Some p → is_freed sizes p A ≡ false → shown_page sizes f A ≡ Some p
shown-last sizes f p A l free = shown-is sizes f A ∙ ap (unless_freed sizes A) l ∙ ap (λ b. cond b None (Some p)) free

-- and none where it is freed
pub shown-freed : (sizes : Sizes) (f p : ℕ) (A : List Step) → last_entered sizes f A ≡ Some p → is_freed sizes p A ≡ true → shown_page sizes f A ≡ None
shown-freed sizes f p A l free = shown-is sizes f A ∙ ap (unless_freed sizes A) l ∙ ap (λ b. cond b None (Some p)) free

-- a frame of which no page was entered shows none
pub shown-none : (sizes : Sizes) (f : ℕ) (A : List Step) → last_entered sizes f A ≡ None → shown_page sizes f A ≡ None
shown-none sizes f A l = shown-is sizes f A ∙ ap (unless_freed sizes A) l

-- the page that a frame shows is its last entered one, and isn't freed
pub shown-some : (sizes : Sizes) (f p : ℕ) (A : List Step) → shown_page sizes f A ≡ Some p → (last_entered sizes f A ≡ Some p) × (is_freed sizes p A ≡ false)
shown-some sizes f p A h = by_last (last_entered sizes f A) refl
  where
    by_test : (q : ℕ) → last_entered sizes f A ≡ Some q → (b : Bool) → is_freed sizes q A ≡ b → (last_entered sizes f A ≡ Some p) × (is_freed sizes p A ≡ false)
    by_test q l true e = let e2 : Some p ≡ None = sym h ∙ shown-freed sizes f q A l e in cc
    by_test q l false e =
        let e2 : Some p ≡ Some q = sym h ∙ shown-last sizes f q A l e in
        let same : p ≡ q = cc in (l ∙ sym e2, ap (λ z. is_freed sizes z A) same ∙ e)

    by_last : (o : Option ℕ) → last_entered sizes f A ≡ o → (last_entered sizes f A ≡ Some p) × (is_freed sizes p A ≡ false)
    by_last None l = let e2 : Some p ≡ None = sym h ∙ shown-none sizes f A l in cc
    by_last (Some q) l = by_test q l (is_freed sizes q A) refl

-- a frame of a shown page is the page's
pub shown-frame : (sizes : Sizes) (f p : ℕ) (A : List Step) → 0 < sizes.page_size → 0 < sizes.frames → shown_page sizes f A ≡ Some p → p % sizes.frames ≡ f
shown-frame sizes f p A page_size frames h =
    let last : IsLastOf sizes f p A = last_entered-some sizes f p A page_size frames (shown-some sizes f p A h).0 in last.of_frame

unless_freed-same : (sizes : Sizes) (A B : List Step) (o : Option ℕ) → ((p : ℕ) → o ≡ Some p → is_freed sizes p B ≡ is_freed sizes p A) → unless_freed sizes B o ≡ unless_freed sizes A o
unless_freed-same sizes A B None h = refl
unless_freed-same sizes A B (Some p) h = ap (λ b. cond b None (Some p)) (h p refl)

-- a frame with the same last entered page shows the same, where the step doesn't free it
pub shown-same : (sizes : Sizes) (f : ℕ) (A : List Step) (s : Step) → last_entered sizes f (A ++ s ∷ []) ≡ last_entered sizes f A → ((p : ℕ) → last_entered sizes f A ≡ Some p → frees p s ≡ false) → shown_page sizes f (A ++ s ∷ []) ≡ shown_page sizes f A
shown-same sizes f A s l h =
    shown-is sizes f (A ++ s ∷ []) ∙ ap (unless_freed sizes (A ++ s ∷ [])) l
    ∙ unless_freed-same sizes A (A ++ s ∷ []) (last_entered sizes f A) (λ p e. is_freed-stay sizes A s p (h p e))
    ∙ sym (shown-is sizes f A)

-- an allocation in an entered page leaves the last entered pages
last_entered-within : (sizes : Sizes) (f : ℕ) (A : List Step) (t n : ℕ) → 0 < sizes.page_size → 0 < sizes.frames → f < sizes.frames → HasRoom sizes A n → is_entered sizes (place_of sizes.page_size (tail sizes A) n / sizes.page_size) A ≡ true → last_entered sizes f (A ++ Allocate t n ∷ []) ≡ last_entered sizes f A
last_entered-within sizes f A t n page_size frames below room entered = by_cases (last_entered-cases sizes f A page_size below)
  where
    q : ℕ
    q = place_of sizes.page_size (tail sizes A) n / sizes.page_size

    same : (p : ℕ) → is_entered sizes p (A ++ Allocate t n ∷ []) ≡ is_entered sizes p A
    same p = is_entered-allocate sizes p A t n page_size room.least room.most ∙ by_eq (cases_eq p q)
      where
        by_eq : (p ≡ q) ⊎ (p ≢ q) → (is_entered sizes p A || p == q) ≡ is_entered sizes p A
        by_eq (inl e) = let at : is_entered sizes p A ≡ true = ap (λ z. is_entered sizes z A) e ∙ entered in ap (λ b. b || p == q) at ∙ sym at
        by_eq (inr ne) = ap (λ b. is_entered sizes p A || b) (ne_eqb p q ne) ∙ or-false (is_entered sizes p A)

    by_cases : (is_entered sizes f A ≡ false) ⊎ ((p : ℕ) × IsLastOf sizes f p A) → last_entered sizes f (A ++ Allocate t n ∷ []) ≡ last_entered sizes f A
    by_cases (inl unused) = last_entered-none sizes f (A ++ Allocate t n ∷ []) page_size below (same f ∙ unused) ∙ sym (last_entered-none sizes f A page_size below unused)
    by_cases (inr found) =
        let last : IsLastOf sizes f found.0 A = found.1 in
        last_entered-is sizes f found.0 (A ++ Allocate t n ∷ []) page_size frames (same found.0 ∙ last.entered) last.of_frame (same (found.0 + sizes.frames) ∙ last.next_not)
        ∙ sym (last_entered-is sizes f found.0 A page_size frames last.entered last.of_frame last.next_not)

-- what an allocation makes of a frame that is f: it shows what it showed; or it showed none, and shows a page that wasn't entered
pub record Enters (sizes : Sizes) (f : ℕ) (A : List Step) (s : Step) : Type 0 where
  pub page : ℕ
  pub unentered : is_entered sizes page A ≡ false
  pub before : shown_page sizes f A ≡ None
  pub after : last_entered sizes f (A ++ s ∷ []) ≡ Some page

-- one of the two
pub shown-allocate : (sizes : Sizes) (f : ℕ) (A : List Step) (t n : ℕ) → 0 < sizes.page_size → 0 < sizes.frames → f < sizes.frames → fault_of sizes A (Allocate t n) ≡ None → (shown_page sizes f (A ++ Allocate t n ∷ []) ≡ shown_page sizes f A) ⊎ Enters sizes f A (Allocate t n)
shown-allocate sizes f A t n page_size frames below free = by_entered (is_entered sizes q A) refl
  where
    q : ℕ
    q = place_of sizes.page_size (tail sizes A) n / sizes.page_size

    room : HasRoom sizes A n
    room = allocate-room sizes A t n free

    same : last_entered sizes f (A ++ Allocate t n ∷ []) ≡ last_entered sizes f A → shown_page sizes f (A ++ Allocate t n ∷ []) ≡ shown_page sizes f A
    same l = shown-same sizes f A (Allocate t n) l (λ p e. refl)

    free_before : is_entered sizes q A ≡ false → q % sizes.frames ≡ f → shown_page sizes f A ≡ None
    free_before new of_f = by_round (cases_lt q sizes.frames)
      where
        by_round : (q < sizes.frames) ⊎ (sizes.frames ≤ q) → shown_page sizes f A ≡ None
        by_round (inl first) = shown-none sizes f A (last_entered-none sizes f A page_size below (ap (λ z. is_entered sizes z A) (sym of_f ∙ mod-eq_of_lt first) ∙ new))
        by_round (inr later) =
            let back : (q - sizes.frames) + sizes.frames ≡ q = omega (arith, later) in
            let allowed : may_enter sizes q A ≡ true = sym (ap (λ b. b || may_enter sizes q A) new) ∙ room.enters in
            let freed : is_freed sizes (q - sizes.frames) A ≡ true = may_enter-freed sizes q A later allowed in
            shown-freed sizes f (q - sizes.frames) A
            (last_entered-is sizes f (q - sizes.frames) A page_size frames
            (entered_before sizes (q - sizes.frames) A n page_size room.most (omega (arith, frames, later)))
            (sym (add-mod_right (q - sizes.frames) sizes.frames) ∙ ap (λ z. z % sizes.frames) back ∙ of_f)
            (ap (λ z. is_entered sizes z A) back ∙ new)) freed

    by_frame : is_entered sizes q A ≡ false → (q % sizes.frames ≡ f) ⊎ (q % sizes.frames ≢ f) → (shown_page sizes f (A ++ Allocate t n ∷ []) ≡ shown_page sizes f A) ⊎ Enters sizes f A (Allocate t n)
    by_frame new (inl of_f) = inr (record {
      page = q;
      unentered = new;
      before = free_before new of_f;
      after = ap (λ z. last_entered sizes z (A ++ Allocate t n ∷ [])) (sym of_f) ∙ last_entered-enter sizes A t n page_size frames room new;
    })
    by_frame new (inr other) = inl (same (last_entered-other sizes f A t n page_size below room other))

    by_entered : (b : Bool) → is_entered sizes q A ≡ b → (shown_page sizes f (A ++ Allocate t n ∷ []) ≡ shown_page sizes f A) ⊎ Enters sizes f A (Allocate t n)
    by_entered true e = inl (same (last_entered-within sizes f A t n page_size frames below room e))
    by_entered false e = by_frame e (cases_eq (q % sizes.frames) f)

-- an address from the closed offset up to the tail is on a page that its frame shows
pub shown-within : (sizes : Sizes) (A : List Step) (a : ℕ) → 0 < sizes.page_size → 0 < sizes.frames → IsAccepted sizes A → closed A ≤ a → a < tail sizes A → shown_page sizes (a / sizes.page_size % sizes.frames) A ≡ Some (a / sizes.page_size)
shown-within sizes A a page_size frames acc least below = by_freed (is_freed sizes (a / sizes.page_size) A) refl
  where
    start : a / sizes.page_size * sizes.page_size ≤ a
    start = omega (arith, div-add-mod' a sizes.page_size)

    entered : is_entered sizes (a / sizes.page_size) A ≡ true
    entered = lt-ltb (a / sizes.page_size * sizes.page_size) (tail sizes A) (omega (arith, start, below))

    by_freed : (b : Bool) → is_freed sizes (a / sizes.page_size) A ≡ b → shown_page sizes (a / sizes.page_size % sizes.frames) A ≡ Some (a / sizes.page_size)
    by_freed true e =
        let ends : (a / sizes.page_size + 1) * sizes.page_size ≤ closed A = freed_closed sizes A (a / sizes.page_size) page_size acc e in
        let more : (a / sizes.page_size + 1) * sizes.page_size ≡ a / sizes.page_size * sizes.page_size + sizes.page_size = omega arith in
        let within : a < a / sizes.page_size * sizes.page_size + sizes.page_size = lt-div-mul-add page_size in
        absurd (omega (arith, ends, more, within, least))
    by_freed false e = shown-last sizes (a / sizes.page_size % sizes.frames) (a / sizes.page_size) A (unfreed_last sizes A (a / sizes.page_size) page_size frames acc entered e) e

-- so is what may be written
pub shown-written : (sizes : Sizes) (A : List Step) (t a v : ℕ) → 0 < sizes.page_size → 0 < sizes.frames → IsAccepted sizes A → fault_of sizes A (Write t a v) ≡ None → shown_page sizes (a / sizes.page_size % sizes.frames) A ≡ Some (a / sizes.page_size)
shown-written sizes A t a v page_size frames acc free =
    let parts : (protected_fault sizes A t ≡ None) × (seen_read_only t A ≤ a) × (a < seen_tail sizes t A) = write-none sizes A t a v free in
    let bounds : (safe_read_only A ≤ seen_read_only t A) × (closed A ≤ seen_head t A) = views_are_bounded sizes A t acc (protected-none sizes A t parts.0).1 in
    shown-within sizes A a page_size frames acc
    (omega (arith, closed-le-head sizes A acc, head-le-flushed sizes A acc, flushed-le-safe_read_only sizes A page_size acc, bounds.0, parts.1))
    (omega (arith, seen_tail-le sizes t A page_size, parts.2))

-- and what may be read
pub shown-read : (sizes : Sizes) (A : List Step) (t a : ℕ) → 0 < sizes.page_size → 0 < sizes.frames → IsAccepted sizes A → fault_of sizes A (Read t a) ≡ None → shown_page sizes (a / sizes.page_size % sizes.frames) A ≡ Some (a / sizes.page_size)
shown-read sizes A t a page_size frames acc free =
    let parts : (protected_fault sizes A t ≡ None) × (seen_head t A ≤ a) × (a < seen_tail sizes t A) = read-none sizes A t a free in
    let bounds : (safe_read_only A ≤ seen_read_only t A) × (closed A ≤ seen_head t A) = views_are_bounded sizes A t acc (protected-none sizes A t parts.0).1 in
    shown-within sizes A a page_size frames acc (omega (arith, bounds.1, parts.1)) (omega (arith, seen_tail-le sizes t A page_size, parts.2))

-- a page's cleaning ends: its frame shows none
pub shown-cleaned : (sizes : Sizes) (A : List Step) (p : ℕ) → 0 < sizes.page_size → 0 < sizes.frames → IsAccepted sizes A → fault_of sizes A (CleanDone p) ≡ None → shown_page sizes (p % sizes.frames) (A ++ CleanDone p ∷ []) ≡ None
shown-cleaned sizes A p page_size frames acc free =
    shown-freed sizes (p % sizes.frames) p (A ++ CleanDone p ∷ [])
    (last_entered-stay sizes (p % sizes.frames) A (CleanDone p) refl ∙ cleaning_last sizes A p page_size frames acc (clean_done-none sizes A p free))
    (is_freed-push sizes p A (CleanDone p) ∙ ap (λ b. is_freed sizes p A || b) (eq-eqb p p refl) ∙ or_true (is_freed sizes p A))
  where
    or_true : (b : Bool) → (b || true) ≡ true
    or_true true = refl
    or_true false = refl

-- and other frames what they showed
pub shown-elsewhere : (sizes : Sizes) (A : List Step) (p f : ℕ) → 0 < sizes.page_size → 0 < sizes.frames → p % sizes.frames ≢ f → shown_page sizes f (A ++ CleanDone p ∷ []) ≡ shown_page sizes f A
shown-elsewhere sizes A p f page_size frames other =
    shown-same sizes f A (CleanDone p) (last_entered-stay sizes f A (CleanDone p) refl)
    (λ q l. let last : IsLastOf sizes f q A = last_entered-some sizes f q A page_size frames l in ne_eqb p q (λ e. other (ap (λ z. z % sizes.frames) e ∙ last.of_frame)))
