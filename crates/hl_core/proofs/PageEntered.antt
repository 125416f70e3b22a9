-- What an allocation makes of the frames of an accepted list.
use Rattle.std.proofs.Common.{◌≡◌, ℕ, ◌+◌, ◌*◌, ◌/◌, ◌%◌, ◌<◌, ◌≤◌, ◌≢◌, Bool, true, false, ◌||◌, List, [], ◌∷◌, ◌++◌, set, refl, sym, ap, ap₂, ◌∙◌, arith, inl, inr, ◌⊎◌}
use Rattle.std.specs.Prelude.{◌==◌, ◌^◌, Option, Some, None, option_map}
use Rattle.std.proofs.Math.Nat.{add-mod_right, div-lt_iff_lt-mul}
use Rattle.std.proofs.lemmas.Bool.{eq-eqb, ne_eqb, eqb-true, or_cases, or_from, or_right}
use Rattle.hl_model.specs.declared.step.Step.{Step}
use Rattle.hl_model.specs.declared.step.Step.TheVariants.{Allocate}
use Rattle.hl_model.specs.Sizes.{Sizes, AreInRange}
use Rattle.hl_model.specs.Offsets.{tail, place_of, is_entered}
use Rattle.hl_model.specs.Frames.{last_entered}
use Rattle.hl_model.specs.Replies.{size_fault, IsAccepted}
use Rattle.hl_laws.proofs.RowLaws.{rows_same, rows_set}
use Rattle.hl_laws.proofs.NoFaultLaws.{size-none}
use Rattle.hl_laws.proofs.FrameLaws.{IsLastOf, last_entered-is, last_entered-some, is_entered-allocate, entered_below, unentered_above}
use Rattle.hl_frames.specs.Answers.{unmarked, entered}
use Rattle.hl_model.specs.Bases.{marked, held_of}
use Rattle.hl_core.specs.Standing.{pages_entered, pages_of}
use Rattle.hl_core.proofs.PageRows.{length-frames}
use Rattle.hl_core.proofs.PageMarks.{page_size_some, frames_some, ahead_unflushed, ahead_unflown, ahead_unfreed, ahead_uncleaned}
use Rattle.hl_core.proofs.PageOffsets.{below_entered, unentered_end, pages_entered-is}
use Rattle.hl_core.proofs.Space.{whole_pages}
use Rattle.hl_core.proofs.PageMoves.{pages_with, marked-stay, marked-with}

-- where two lists agree on a frame's pages, they agree on its last one
last_entered-agree : (sizes : Sizes) (f : ℕ) (A B : List Step) → AreInRange sizes → ((p : ℕ) → p % sizes.frames ≡ f → is_entered sizes p B ≡ is_entered sizes p A) → last_entered sizes f B ≡ last_entered sizes f A
last_entered-agree sizes f A B range agree = by_first (last_entered sizes f A) refl
  where
    page_size : 0 < sizes.page_size
    page_size = page_size_some sizes range

    frames : 0 < sizes.frames
    frames = frames_some sizes range

    there : (p : ℕ) → last_entered sizes f A ≡ Some p → last_entered sizes f B ≡ Some p
    there p h =
        let last : IsLastOf sizes f p A = last_entered-some sizes f p A page_size frames h in
        last_entered-is sizes f p B page_size frames (agree p last.of_frame ∙ last.entered) last.of_frame (agree (p + sizes.frames) (add-mod_right p sizes.frames ∙ last.of_frame) ∙ last.next_not)

    back : (p : ℕ) → last_entered sizes f B ≡ Some p → last_entered sizes f A ≡ Some p
    back p h =
        let last : IsLastOf sizes f p B = last_entered-some sizes f p B page_size frames h in
        last_entered-is sizes f p A page_size frames (sym (agree p last.of_frame) ∙ last.entered) last.of_frame (sym (agree (p + sizes.frames) (add-mod_right p sizes.frames ∙ last.of_frame)) ∙ last.next_not)

    by_second : (o : Option ℕ) → last_entered sizes f B ≡ o → last_entered sizes f A ≡ None → last_entered sizes f B ≡ last_entered sizes f A
    by_second None h none = h ∙ sym none
    by_second (Some p) h none = h ∙ sym (back p h)

    by_first : (o : Option ℕ) → last_entered sizes f A ≡ o → last_entered sizes f B ≡ last_entered sizes f A
    by_first (Some p) h = there p h ∙ sym h
    by_first None h = by_second (last_entered sizes f B) refl h

-- an allocation leaves each page's marks
marked-allocate : (sizes : Sizes) (A : List Step) (t n p : ℕ) → marked sizes (A ++ Allocate t n ∷ []) p ≡ marked sizes A p
marked-allocate sizes A t n p = marked-stay sizes A (Allocate t n) p refl refl refl refl refl refl

-- also those of what a frame holds
marked-allocate_in : (sizes : Sizes) (A : List Step) (t n : ℕ) (o : Option ℕ) → option_map (marked sizes (A ++ Allocate t n ∷ [])) o ≡ option_map (marked sizes A) o
marked-allocate_in sizes A t n None = refl
marked-allocate_in sizes A t n (Some p) = ap Some (marked-allocate sizes A t n p)

-- a frame of which no page is entered stays
held_of-allocate : (sizes : Sizes) (A : List Step) (t n f : ℕ) → AreInRange sizes → ((p : ℕ) → p % sizes.frames ≡ f → is_entered sizes p (A ++ Allocate t n ∷ []) ≡ is_entered sizes p A) → held_of sizes (A ++ Allocate t n ∷ []) f ≡ held_of sizes A f
held_of-allocate sizes A t n f range agree =
    ap (option_map (marked sizes (A ++ Allocate t n ∷ []))) (last_entered-agree sizes f A (A ++ Allocate t n ∷ []) range agree)
    ∙ marked-allocate_in sizes A t n (last_entered sizes f A)

-- which pages are entered with an accepted record in page q
enters : (sizes : Sizes) (A : List Step) (t n p : ℕ) → AreInRange sizes → size_fault sizes.page_size (tail sizes A) n ≡ None → is_entered sizes p (A ++ Allocate t n ∷ []) ≡ (is_entered sizes p A || p == place_of sizes.page_size (tail sizes A) n / sizes.page_size)
enters sizes A t n p range h = let size : (0 < n) × (n ≤ sizes.page_size) × (place_of sizes.page_size (tail sizes A) n + n ≤ 2 ^ 48) = size-none sizes.page_size (tail sizes A) n h in is_entered-allocate sizes p A t n (page_size_some sizes range) (omega (arith, size.0)) size.1

-- a test that adds nothing
or_stays : (a b : Bool) → (b ≡ true → a ≡ true) → (a || b) ≡ a
or_stays true b h = refl
or_stays false true h = let no : false ≡ true = h refl in cc
or_stays false false h = refl

-- a record in a page that is entered leaves the frames
pub allocated_within : (sizes : Sizes) (A : List Step) (t n : ℕ) → AreInRange sizes → size_fault sizes.page_size (tail sizes A) n ≡ None → is_entered sizes (place_of sizes.page_size (tail sizes A) n / sizes.page_size) A ≡ true → pages_of sizes (A ++ Allocate t n ∷ []) ≡ pages_of sizes A
allocated_within sizes A t n range h e =
    ap₂ (pages_with sizes)
    (rows_same (held_of sizes (A ++ Allocate t n ∷ [])) (held_of sizes A) sizes.frames (λ f. held_of-allocate sizes A t n f range (λ p there. agree p)))
    (pages_entered-is sizes (A ++ Allocate t n ∷ []) (pages_entered sizes A) (page_size_some sizes range)
    (λ p lt. agree p ∙ below_entered sizes A p (page_size_some sizes range) lt)
    (agree (pages_entered sizes A) ∙ unentered_end sizes A (page_size_some sizes range)))
  where
    agree : (p : ℕ) → is_entered sizes p (A ++ Allocate t n ∷ []) ≡ is_entered sizes p A
    agree p =
        enters sizes A t n p range h
        ∙ or_stays (is_entered sizes p A) (p == place_of sizes.page_size (tail sizes A) n / sizes.page_size)
        (λ same. ap (λ r. is_entered sizes r A) (eqb-true p (place_of sizes.page_size (tail sizes A) n / sizes.page_size) same) ∙ e)

-- a page that an accepted record enters
module _ (sizes : Sizes) (A : List Step) (t n q : ℕ) (range : AreInRange sizes) (a : IsAccepted sizes A) (h : size_fault sizes.page_size (tail sizes A) n ≡ None) (is : place_of sizes.page_size (tail sizes A) n / sizes.page_size ≡ q) (new : is_entered sizes q A ≡ false) where
  -- the pages entered with the record
  now : (p : ℕ) → is_entered sizes p (A ++ Allocate t n ∷ []) ≡ (is_entered sizes p A || p == q)
  now p = enters sizes A t n p range h ∙ ap (λ r. is_entered sizes p A || p == r) is

  -- its page is one
  now_entered : is_entered sizes q (A ++ Allocate t n ∷ []) ≡ true
  now_entered = now q ∙ or_right (is_entered sizes q A) (q == q) (eq-eqb q q refl)

  -- none above it is
  now_above : (p : ℕ) → q < p → is_entered sizes p (A ++ Allocate t n ∷ []) ≡ false
  now_above p lt = now p ∙ or_from (is_entered sizes p A) (p == q) (unentered_above sizes q p A new (omega arith)) (ne_eqb p q (λ same. omega (arith, lt, same)))

  -- those below it were entered before
  was_below : (p : ℕ) → p < q → is_entered sizes p A ≡ true
  was_below p lt = by_part (or_cases (is_entered sizes p A) (p == q) (sym (now p) ∙ entered_below sizes q p (A ++ Allocate t n ∷ []) now_entered (omega arith)))
    where
      by_part : ((is_entered sizes p A ≡ true) ⊎ ((p == q) ≡ true)) → is_entered sizes p A ≡ true
      by_part (inl old) = old
      by_part (inr same) = absurd (omega (arith, lt, eqb-true p q same))

  -- it is the next page
  pub new_is_next : pages_entered sizes A ≡ q
  new_is_next = pages_entered-is sizes A q (page_size_some sizes range) was_below new

  -- its frame then holds it, with no mark, and the other frames stay
  pub entered-is : pages_of sizes (A ++ Allocate t n ∷ []) ≡ entered q (pages_of sizes A)
  entered-is =
      ap₂ (pages_with sizes)
      (rows_set (held_of sizes (A ++ Allocate t n ∷ [])) (held_of sizes A) sizes.frames (q % sizes.frames) (Some (unmarked q)) at each
      ∙ ap (λ f. set (pages_of sizes A).frames (q % f) (Some (unmarked q))) (sym (length-frames sizes A)))
      (pages_entered-is sizes (A ++ Allocate t n ∷ []) (q + 1) (page_size_some sizes range)
      (λ p lt. entered_below sizes q p (A ++ Allocate t n ∷ []) now_entered (omega (arith, lt)))
      (now_above (q + 1) (omega arith)))
    where
      at : held_of sizes (A ++ Allocate t n ∷ []) (q % sizes.frames) ≡ Some (unmarked q)
      at =
          ap (option_map (marked sizes (A ++ Allocate t n ∷ [])))
          (last_entered-is sizes (q % sizes.frames) q (A ++ Allocate t n ∷ []) (page_size_some sizes range) (frames_some sizes range) now_entered refl (now_above (q + sizes.frames) (omega (arith, frames_some sizes range))))
          ∙ ap Some (marked-allocate sizes A t n q
          ∙ marked-with sizes A q false false false false (ahead_unflushed sizes A q range a new) (ahead_unflown sizes A q range a new) (ahead_unfreed sizes A q range a new) (ahead_uncleaned sizes A q range a new))

      each : (f : ℕ) → (f ≢ (q % sizes.frames)) → held_of sizes (A ++ Allocate t n ∷ []) f ≡ held_of sizes A f
      each f ne =
          held_of-allocate sizes A t n f range
          (λ p there. now p ∙ or_stays (is_entered sizes p A) (p == q) (λ same. absurd (ne (sym there ∙ ap (λ r. r % sizes.frames) (eqb-true p q same)))))

-- a record that ends at or below 2^48 is in a page below it
pub new_within_space : (sizes : Sizes) (A : List Step) (n : ℕ) → AreInRange sizes → size_fault sizes.page_size (tail sizes A) n ≡ None → place_of sizes.page_size (tail sizes A) n / sizes.page_size < 2 ^ 48 / sizes.page_size
new_within_space sizes A n range h =
    let size : (0 < n) × (n ≤ sizes.page_size) × (place_of sizes.page_size (tail sizes A) n + n ≤ 2 ^ 48) = size-none sizes.page_size (tail sizes A) n h in
    let whole : 2 ^ 48 / sizes.page_size * sizes.page_size ≡ 2 ^ 48 = whole_pages sizes.page_size (page_size_some sizes range) range.page_size_most range.page_size_power in
    (div-lt_iff_lt-mul (page_size_some sizes range)).1 (omega (arith, size.0, size.2, whole))
