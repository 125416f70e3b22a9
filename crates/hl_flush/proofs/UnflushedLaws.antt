-- The pages that wait to be flushed: a flush takes the first of them, and leaves the others.
use Rattle.std.proofs.Common.{◌≡◌, ℕ, zero, suc, ◌+◌, ◌<◌, ◌≤◌, ◌⊎◌, inl, inr, Bool, true, false, cond, not, ◌&&◌, ◌||◌, List, [], ◌∷◌, ◌++◌, length, refl, sym, ap, ap₂, ◌∙◌, arith}
use Rattle.std.specs.Prelude.{Option, Some, None, filter, find, flat_map}
use Rattle.std.specs.List.{range_with_len}
use Rattle.std.proofs.Math.Bool.{or-false}
use Rattle.std.proofs.Math.Nat.{zero-div}
use Rattle.std.proofs.lemmas.Bool.{eq-eqb, ne_eqb, both_ways, false_from_ne_true, cases_lt}
use Rattle.std.proofs.lemmas.List.Filters.{length-filter_both}
use Rattle.std.proofs.lemmas.List.FromFn.{length-range_with_len}
use Rattle.hl_model.specs.declared.step.Step.{Step}
use Rattle.hl_model.specs.declared.step.Step.TheVariants.{FlushTake, FlushDone}
use Rattle.hl_model.specs.Sizes.{Sizes}
use Rattle.hl_model.specs.Offsets.{is_entered}
use Rattle.hl_model.specs.Settled.{safe_read_only, settles, pages_below}
use Rattle.hl_model.specs.Pages.{flushing, marks, is_flushed, is_in_flight, is_freed, next_page, next_to_flush}
use Rattle.hl_model.specs.Words.{page_words}
use Rattle.hl_model.specs.Replies.{IsAccepted}
use Rattle.hl_laws.proofs.SettledLaws.{done_greatest-nil}
use Rattle.hl_laws.proofs.PageFacts.{ends_below}
use Rattle.hl_laws.proofs.FrameFacts.{sealed_entered, freed_flushed, unfreed_next}
use Rattle.hl_laws.proofs.WordLaws.{page_words-stay}
use Rattle.hl_laws.proofs.WorkLaws.{next_page-parts}
use Rattle.hl_image.specs.Image.{image}
use Rattle.hl_image.specs.Lines.{line_of}
use Rattle.hl_flush.specs.Unflushed.{unflushed, image_lines}
use Rattle.hl_flush.proofs.FlushLaws.{with_flush, with_flush-is, with_flush-flushed, with_flush-other, with_flush-settled, take-words}

same_first : (a : ℕ) (b c : Bool) (xs ys : List ℕ) → b ≡ c → xs ≡ ys → cond b (a ∷ xs) xs ≡ cond c (a ∷ ys) ys
same_first a b c xs ys e f = rw (e, f) refl

-- two tests that agree from a on pass the same of n numbers from a on
filter-same_from : (f g : ℕ → Bool) (a n : ℕ) → ((p : ℕ) → a ≤ p → f p ≡ g p) → filter f (range_with_len a n) ≡ filter g (range_with_len a n)
filter-same_from f g a zero same = refl
filter-same_from f g a (suc n) same =
    same_first a (f a) (g a) (filter f (range_with_len (a + 1) n)) (filter g (range_with_len (a + 1) n)) (same a (omega arith))
    (filter-same_from f g (a + 1) n (λ p le. same p (omega (arith, le))))

found_first : (f g : ℕ → Bool) (a n q : ℕ) (b c : Bool) → f a ≡ b → g a ≡ c → g q ≡ false → ((p : ℕ) → (q ≡ p → ⊥) → f p ≡ g p)
    → (find f (range_with_len (a + 1) n) ≡ Some q → filter f (range_with_len (a + 1) n) ≡ q ∷ filter g (range_with_len (a + 1) n))
    → cond b (Some a) (find f (range_with_len (a + 1) n)) ≡ Some q
    → cond b (a ∷ filter f (range_with_len (a + 1) n)) (filter f (range_with_len (a + 1) n)) ≡ q ∷ cond c (a ∷ filter g (range_with_len (a + 1) n)) (filter g (range_with_len (a + 1) n))
found_first f g a n q true c fa ga gone same later h =
    let first : a ≡ q = cc in
    let left : c ≡ false = sym ga ∙ ap g first ∙ gone in
    let rest : filter f (range_with_len (a + 1) n) ≡ filter g (range_with_len (a + 1) n) = filter-same_from f g (a + 1) n (λ p le. same p (λ e. omega (arith, le, e, first))) in
    rw left (ap₂ (λ x xs. x ∷ xs) first rest)
found_first f g a n q false true fa ga gone same later h =
    let other : q ≡ a → ⊥ = λ e. both_ways (g a) (ap g (sym e) ∙ gone) ga in
    absurd (both_ways (g a) (sym (same a other) ∙ fa) ga)
found_first f g a n q false false fa ga gone same later h = later h

-- where a test finds q first among n numbers from a on, and another gives false there and the same elsewhere, what passes
-- the first is q and then what passes the other
filter-found : (f g : ℕ → Bool) (a n q : ℕ) → find f (range_with_len a n) ≡ Some q → g q ≡ false → ((p : ℕ) → (q ≡ p → ⊥) → f p ≡ g p) → filter f (range_with_len a n) ≡ q ∷ filter g (range_with_len a n)
filter-found f g a zero q h gone same = cc
filter-found f g a (suc n) q h gone same = found_first f g a n q (f a) (g a) refl refl gone same (λ found. filter-found f g (a + 1) n q found gone same) h

none_first : {X : Type 0} (a : X) (b : Bool) (found : Option X) (xs : List X) → (found ≡ None → xs ≡ []) → cond b (Some a) found ≡ None → cond b (a ∷ xs) xs ≡ []
none_first a true found xs later h = cc
none_first a false found xs later h = later h

-- where nothing is found, nothing passes
filter-none : {X : Type 0} (f : X → Bool) (xs : List X) → find f xs ≡ None → filter f xs ≡ []
filter-none f [] h = refl
filter-none f (x ∷ xs) h = none_first x (f x) (find f xs) (filter f xs) (filter-none f xs) h

few_first : (f : ℕ → Bool) (a n q : ℕ) (b : Bool) → (find f (range_with_len (a + 1) n) ≡ Some q → length (filter f (range_with_len (a + 1) n)) + q ≤ (a + 1) + n)
    → cond b (Some a) (find f (range_with_len (a + 1) n)) ≡ Some q
    → length (cond b (a ∷ filter f (range_with_len (a + 1) n)) (filter f (range_with_len (a + 1) n))) + q ≤ a + suc n
few_first f a n q true later h =
    let first : a ≡ q = cc in
    let numbers = range_with_len (a + 1) n in
    omega (arith, length-filter_both f (λ p. not (f p)) (λ p. refl) numbers, length-range_with_len (a + 1) n)
few_first f a n q false later h = omega (arith, later h)

-- what passes among n numbers from a on lies between the first that passes and their end
filter-few : (f : ℕ → Bool) (a n q : ℕ) → find f (range_with_len a n) ≡ Some q → length (filter f (range_with_len a n)) + q ≤ a + n
filter-few f a zero q h = cc
filter-few f a (suc n) q h = few_first f a n q (f a) (filter-few f (a + 1) n q) h

-- whether a page waits, were it sealed
abbrev waits : Sizes → List Step → ℕ → Bool
waits sizes A p = not (is_flushed sizes p A || is_in_flight sizes p A)

-- a page that was flushed waits no longer
waits-page : (sizes : Sizes) (A : List Step) (page : ℕ) → waits sizes (with_flush A page true) page ≡ false
waits-page sizes A page =
    ap (λ b. not (b || is_in_flight sizes page (with_flush A page true)))
    (with_flush-flushed sizes A page true page ∙ ap (λ b. is_flushed sizes page A || (b && true)) (eq-eqb page page refl) ∙ or_true (is_flushed sizes page A))
  where
    or_true : (b : Bool) → (b || true) ≡ true
    or_true true = refl
    or_true false = refl

-- the others wait as before
waits-other : (sizes : Sizes) (A : List Step) (page p : ℕ) → next_to_flush sizes A ≡ Some page → (page ≡ p → ⊥) → waits sizes A p ≡ waits sizes (with_flush A page true) p
waits-other sizes A page p next ne =
    sym (ap₂ (λ b c. not (b || c))
    (with_flush-flushed sizes A page true p ∙ ap (λ b. is_flushed sizes p A || (b && true)) (ne_eqb page p ne) ∙ or-false (is_flushed sizes p A))
    (with_flush-other sizes A page true p next ne))

-- the page that a take names is the first that waits, and its flush leaves the others
pub unflushed-next : (sizes : Sizes) (A : List Step) (page : ℕ) → IsAccepted sizes A → next_to_flush sizes A ≡ Some page → unflushed sizes A ≡ page ∷ unflushed sizes (A ++ FlushTake ∷ FlushDone page true ∷ [])
unfolding next_page unflushed
unflushed-next sizes A page a next =
    filter-found (waits sizes A) (waits sizes (with_flush A page true)) 0 (pages_below sizes (safe_read_only A)) page next (waits-page sizes A page) (λ p ne. waits-other sizes A page p next ne)
    ∙ ap (λ x. page ∷ filter (waits sizes (with_flush A page true)) (range_with_len 0 (pages_below sizes x))) (sym (with_flush-settled sizes A page true a next))
    ∙ ap (λ B. page ∷ unflushed sizes B) (with_flush-is A page true)

-- where a take names no page, none waits
pub unflushed-none : (sizes : Sizes) (A : List Step) → next_to_flush sizes A ≡ None → unflushed sizes A ≡ []
unfolding next_page unflushed
unflushed-none sizes A next = filter-none (waits sizes A) (range_with_len 0 (pages_below sizes (safe_read_only A))) next

-- no more pages wait than there are frames: the first still lies in its frame, so the next page of that frame isn't
-- entered, nor is any above it
pub unflushed-few : (sizes : Sizes) (A : List Step) → 0 < sizes.page_size → IsAccepted sizes A → length (unflushed sizes A) ≤ sizes.frames
unfolding next_page unflushed
unflushed-few sizes A some a = by_next (next_to_flush sizes A) refl
  where
    by_next : (next : Option ℕ) → next_to_flush sizes A ≡ next → length (unflushed sizes A) ≤ sizes.frames
    by_next None none = omega (arith, ap length (unflushed-none sizes A none))
    by_next (Some page) next =
        let parts : (page < pages_below sizes (safe_read_only A)) × (is_flushed sizes page A ≡ false) × (is_in_flight sizes page A ≡ false) = next_page-parts (flushing sizes) A (marks (flushing sizes) A) page next in
        let unfreed : is_freed sizes page A ≡ false = false_from_ne_true (is_freed sizes page A) (λ e. both_ways (is_flushed sizes page A) parts.1 (freed_flushed sizes A page some a e)) in
        let above : is_entered sizes (page + sizes.frames) A ≡ false = unfreed_next sizes A page some a unfreed in
        by_order above (cases_lt (page + sizes.frames) (pages_below sizes (safe_read_only A)))
      where
        by_order : is_entered sizes (page + sizes.frames) A ≡ false → ((page + sizes.frames < pages_below sizes (safe_read_only A)) ⊎ (pages_below sizes (safe_read_only A) ≤ page + sizes.frames)) → length (unflushed sizes A) ≤ sizes.frames
        by_order above (inl lt) = absurd (both_ways (is_entered sizes (page + sizes.frames) A) above (sealed_entered sizes A (page + sizes.frames) some a (ends_below sizes.page_size (safe_read_only A) (page + sizes.frames) lt)))
        by_order above (inr le) = omega (arith, le, filter-few (waits sizes A) 0 (pages_below sizes (safe_read_only A)) page next)

-- of no steps none waits
pub unflushed-nil : (sizes : Sizes) → unflushed sizes [] ≡ []
unfolding unflushed
unflushed-nil sizes =
    ap (λ n. filter (waits sizes []) (range_with_len 0 n))
    (ap (pages_below sizes) (done_greatest-nil settles) ∙ zero-div sizes.page_size)

-- a flush changes no word
page_words-flush : (sizes : Sizes) (A : List Step) (page p : ℕ) → page_words sizes p (A ++ FlushTake ∷ FlushDone page true ∷ []) ≡ page_words sizes p A
page_words-flush sizes A page p =
    ap (page_words sizes p) (sym (with_flush-is A page true))
    ∙ page_words-stay sizes p (A ++ FlushTake ∷ []) (FlushDone page true) (λ a. refl)
    ∙ take-words sizes A p

lines-same : (f g : ℕ → List ℕ) (ps : List ℕ) → ((p : ℕ) → f p ≡ g p) → flat_map f ps ≡ flat_map g ps
lines-same f g [] same = refl
lines-same f g (p ∷ ps) same = ap₂ (λ xs ys. xs ++ ys) (same p) (lines-same f g ps same)

-- the line of a page's image
abbrev line : Sizes → List Step → ℕ → List ℕ
line sizes A p = line_of (image p (page_words sizes p A))

-- the lines begin with that of the first page, and go on with those that are left once it is flushed
pub image_lines-next : (sizes : Sizes) (A : List Step) (page : ℕ) → IsAccepted sizes A → next_to_flush sizes A ≡ Some page → image_lines sizes A ≡ line_of (image page (page_words sizes page A)) ++ image_lines sizes (A ++ FlushTake ∷ FlushDone page true ∷ [])
unfolding image_lines
image_lines-next sizes A page a next =
    let B : List Step = A ++ FlushTake ∷ FlushDone page true ∷ [] in
    ap (flat_map (line sizes A)) (unflushed-next sizes A page a next)
    ∙ ap (λ ls. line sizes A page ++ ls) (lines-same (line sizes A) (line sizes B) (unflushed sizes B) (λ p. ap (λ ws. line_of (image p ws)) (sym (page_words-flush sizes A page p))))

-- where no page waits there is no line
pub image_lines-none : (sizes : Sizes) (A : List Step) → unflushed sizes A ≡ [] → image_lines sizes A ≡ []
unfolding image_lines
image_lines-none sizes A none = ap (flat_map (line sizes A)) none
