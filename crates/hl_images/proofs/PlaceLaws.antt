-- Where a page's steps stand in the one list, and those of the pages that have its frame before and after it.
use Rattle.std.proofs.Common.{◌≡◌, ℕ, ◌+◌, ◌-◌, ◌*◌, ◌/◌, ◌%◌, ◌<◌, ◌≤◌, ◌||◌, ◌⊎◌, Bool, true, false, List, [], ◌∷◌, ◌++◌, length, Some, refl, ap, sym, ◌∙◌, inl, inr, ⊎_elim, subst, arith, append_assoc, length-append, append-nil}
use Rattle.std.specs.List.{AllByRecursion as Every, list_any}
use Rattle.std.proofs.lemmas.Bool.{both_ways, cases_lt}
use Rattle.std.proofs.lemmas.List.Folds.{list_any-append}
use Rattle.std.proofs.Math.Nat.{div-add-mod, mul-le-mul_right, mul-le-mul_left}
use Rattle.hl_model.specs.declared.step.Step.{Step}
use Rattle.hl_model.specs.declared.step.Step.TheVariants.{Write, FlushDone}
use Rattle.hl_model.specs.Offsets.{is_entered}
use Rattle.hl_model.specs.Pages.{is_complete, is_flushed, is_freed, cleaning, frees, flushes, marks, next_to_clean}
use Rattle.hl_model.specs.Replies.{IsAccepted}
use Rattle.hl_model.specs.Settled.{safe_read_only, closed}
use Rattle.hl_model.specs.Sizes.{Sizes}
use Rattle.hl_history.specs.declared.view.Entry.{Entry}
use Rattle.hl_history.specs.Lists.{Begins, left_by}
use Rattle.hl_keeper.specs.Touches.{is_call}
use Rattle.hl_laws.proofs.FrameLaws.{entered_below}
use Rattle.hl_laws.proofs.LawProofs.{beginnings_are_accepted, accepted_meets_no_fault}
use Rattle.hl_laws.proofs.PageFacts.{ends_below, flush_was_out, in_flight_unflushed, closed_flushed, round_freed}
use Rattle.hl_laws.proofs.WorkLaws.{next_page-parts}
use Rattle.hl_images.specs.Entered.{is_touch, IsOneCall}
use Rattle.hl_images.proofs.SealedLaws.{later_stays_above}

module _ {X : Type 0} where
  -- of two beginnings of one list the longer begins with the shorter
  pub begins_both : (xs ys xr yr : List X) → xs ++ xr ≡ ys ++ yr → length xs ≤ length ys → (rest : List X) × (ys ≡ xs ++ rest)
  begins_both [] ys xr yr e le = (ys, refl)
  begins_both (x ∷ xs) [] xr yr e le = absurd (omega (arith, le))
  begins_both (x ∷ xs) (y ∷ ys) xr yr e le =
      let head : x ≡ y = cc e in
      let tail : xs ++ xr ≡ ys ++ yr = cc e in
      let more = begins_both xs ys xr yr tail (omega (arith, le)) in
      (more.0, ap (λ z. z ∷ ys) (sym head) ∙ ap (λ l. x ∷ l) more.1)

  -- the same end behind the same list
  pub same_end : (xs ys zs : List X) → xs ++ ys ≡ xs ++ zs → ys ≡ zs
  same_end [] ys zs e = e
  same_end (x ∷ xs) ys zs e = let tail : xs ++ ys ≡ xs ++ zs = cc e in same_end xs ys zs tail

  -- the same beginning before the same end
  pub same_begin : (xs ys zs : List X) → xs ++ zs ≡ ys ++ zs → xs ≡ ys
  same_begin [] [] zs e = refl
  same_begin [] (y ∷ ys) zs e = absurd (omega (arith, ap length e, length-append ys zs))
  same_begin (x ∷ xs) [] zs e = absurd (omega (arith, ap length e, length-append xs zs))
  same_begin (x ∷ xs) (y ∷ ys) zs e =
      let head : x ≡ y = cc e in
      let tail : xs ++ zs ≡ ys ++ zs = cc e in
      ap (λ z. z ∷ xs) head ∙ ap (λ l. y ∷ l) (same_begin xs ys zs tail)

  -- an element of these: one of the first, or the one behind them
  pub place_cases : (f : List X) (x : X) (r ts : List X) (s : X) → f ++ x ∷ r ≡ ts ++ s ∷ [] → ((rest : List X) × (ts ≡ f ++ x ∷ rest)) ⊎ ((f ≡ ts) × (x ≡ s))
  place_cases [] x r [] s e = let head : x ≡ s = cc e in inr (refl, head)
  place_cases [] x r (t ∷ ts) s e = let head : x ≡ t = cc e in inl (ts, ap (λ z. z ∷ ts) (sym head))
  place_cases (y ∷ []) x r [] s e = absurd cc
  place_cases (y ∷ (z ∷ f)) x r [] s e = absurd cc
  place_cases (y ∷ f) x r (t ∷ ts) s e =
      let head : y ≡ t = cc e in
      let tail : f ++ x ∷ r ≡ ts ++ s ∷ [] = cc e in
      ⊎_elim
      (λ (h : (rest : List X) × (ts ≡ f ++ x ∷ rest)). inl (h.0, ap (λ z. z ∷ ts) (sym head) ∙ ap (λ l. y ∷ l) h.1))
      (λ (h : (f ≡ ts) × (x ≡ s)). inr (ap (λ z. z ∷ f) head ∙ ap (λ l. t ∷ l) h.0, h.1))
      (place_cases f x r ts s tail)

  pub every_in : (P : X → Type 0) (xs : List X) (x : X) (ys : List X) → Every P (xs ++ x ∷ ys) → P x
  every_in P [] x ys h = h.0
  every_in P (y ∷ xs) x ys h = every_in P xs x ys h.1

  -- what holds of each element at its place holds of each
  pub every_place : (P : X → Type 0) (front xs : List X) → ((f : List X) (x : X) (r : List X) → front ++ xs ≡ f ++ x ∷ r → P x) → Every P xs
  every_place P front [] h = tt
  every_place P front (x ∷ xs) h = (h front x xs refl, every_place P (front ++ x ∷ []) xs (λ f y r e. h f y r (sym (append_assoc front (x ∷ []) xs) ∙ e)))

  -- two facts of each
  pub every_both : (P Q : X → Type 0) (xs : List X) → Every P xs → Every Q xs → Every (λ x. P x × Q x) xs
  every_both P Q [] p q = tt
  every_both P Q (x ∷ xs) p q = ((p.0, q.0), every_both P Q xs p.1 q.1)

or_left : (a b : Bool) → a ≡ true → (a || b) ≡ true
or_left a b h = ap (λ x. x || b) h

-- what was complete stays so
pub freed_more : (sizes : Sizes) (p : ℕ) (A B : List Step) → is_freed sizes p A ≡ true → is_freed sizes p (A ++ B) ≡ true
unfolding is_complete
freed_more sizes p A B h = list_any-append (frees p) A B ∙ or_left (list_any (frees p) A) (list_any (frees p) B) h

pub flushed_more : (sizes : Sizes) (p : ℕ) (A B : List Step) → is_flushed sizes p A ≡ true → is_flushed sizes p (A ++ B) ≡ true
unfolding is_complete
flushed_more sizes p A B h = list_any-append (flushes p) A B ∙ or_left (list_any (flushes p) A) (list_any (flushes p) B) h

-- of two pages of a frame the later one is a round ahead at least
pub round_ahead : (frames p q : ℕ) → 0 < frames → q < p → q % frames ≡ p % frames → q + frames ≤ p
round_ahead frames p q some less same =
    ⊎_elim
    (λ (lt : q / frames < p / frames).
    let step : frames * (q / frames + 1) ≤ frames * (p / frames) = mul-le-mul_left frames (omega (arith, lt)) in
    let more : frames * (q / frames + 1) ≡ frames * (q / frames) + frames = omega arith in
    omega (arith, step, more, div-add-mod p frames, div-add-mod q frames, same))
    (λ (le : p / frames ≤ q / frames).
    let step : frames * (p / frames) ≤ frames * (q / frames) = mul-le-mul_left frames le in
    absurd (omega (arith, step, div-add-mod p frames, div-add-mod q frames, same, less)))
    (cases_lt (q / frames) (p / frames))

module _ (sizes : Sizes) (whole : List Step) (page_some : 0 < sizes.page_size) (frames_some : 0 < sizes.frames) (accepted : IsAccepted sizes whole) where
  -- each beginning of the one list is accepted
  pub begun : (A : List Step) → Begins A whole → IsAccepted sizes A
  begun A b = beginnings_are_accepted sizes A b.0 (subst (IsAccepted sizes) b.1 accepted)

  -- a beginning of a beginning
  pub shorter : (A B : List Step) → Begins (A ++ B) whole → Begins A whole
  shorter A B b = (B ++ b.0, b.1 ∙ append_assoc A B b.0)

  -- two beginnings
  pub both : (A B : List Step) → Begins A whole → Begins B whole → length A ≤ length B → (rest : List Step) × (B ≡ A ++ rest)
  both A B a b le = begins_both A B a.0 b.0 (sym a.1 ∙ b.1) le

  -- a step that no pass makes is a call of its own
  pub own_call : (list : List Step) (s : Step) → is_touch s ≡ false → is_call s ≡ false → Begins (list ++ s ∷ []) whole → (e : Entry) → Begins (left_by e) whole → IsOneCall e.steps → length e.before ≤ length list → length list < length (left_by e)
      → (e.steps ≡ s ∷ []) × (list ≡ e.before)
  own_call list s no_touch no_call next e b one low high =
      let f = both e.before list (shorter e.before e.steps b) (shorter list (s ∷ []) next) low in
      let r = both (list ++ s ∷ []) (left_by e) next b (omega (arith, high, length-append list (s ∷ []))) in
      let left : e.before ++ e.steps ≡ e.before ++ (f.0 ++ s ∷ r.0) = r.1 ∙ append_assoc list (s ∷ []) r.0 ∙ ap (λ (l : List Step). l ++ s ∷ r.0) f.1 ∙ append_assoc e.before f.0 (s ∷ r.0) in
      shape f.0 r.0 f.1 (same_end e.before e.steps (f.0 ++ s ∷ r.0) left) one
    where
      empty : (f r : List Step) → f ++ s ∷ r ≡ [] → ⊥
      empty [] r e = absurd cc
      empty (z ∷ f) r e = absurd cc

      shape : (f r : List Step) → list ≡ e.before ++ f → e.steps ≡ f ++ s ∷ r → IsOneCall e.steps → (e.steps ≡ s ∷ []) × (list ≡ e.before)
      shape f r own at (inl none) = absurd (empty f r (sym at ∙ none))
      shape f r own at (inr c) =
          ⊎_elim
          (λ (h : (more : List Step) × (c.0 ≡ f ++ s ∷ more)).
          let touch : is_touch s ≡ true = every_in (λ (t : Step). is_touch t ≡ true) f s h.0 (subst (Every (λ (t : Step). is_touch t ≡ true)) h.1 c.3) in
          absurd (both_ways (is_touch s) no_touch touch))
          (λ (h : (f ≡ c.0) × (s ≡ c.1)).
          ⊎_elim
          (λ (none : c.0 ≡ []).
          (c.2 ∙ ap (λ (l : List Step). l ++ c.1 ∷ []) none ∙ ap (λ (z : Step). z ∷ []) (sym h.1), own ∙ ap (λ (l : List Step). e.before ++ l) (h.0 ∙ none) ∙ append-nil e.before))
          (λ (passed : is_call c.1 ≡ true). absurd (both_ways (is_call s) no_call (ap is_call h.1 ∙ passed)))
          c.4)
          (place_cases f s r c.0 c.1 (sym at ∙ c.2))

  -- so it is the last step of its call
  pub low_last : (list : List Step) (s : Step) → is_touch s ≡ false → is_call s ≡ false → Begins (list ++ s ∷ []) whole → (e : Entry) → Begins (left_by e) whole → IsOneCall e.steps → length e.before ≤ length list → length (left_by e) ≤ length list + 1
  low_last list s no_touch no_call next e b one low =
      ⊎_elim
      (λ (lt : length list < length (left_by e)).
      let own = own_call list s no_touch no_call next e b one low lt in
      omega (arith, length-append e.before e.steps, ap length own.0, ap length own.1))
      (λ (ge : length (left_by e) ≤ length list). omega (arith, ge))
      (cases_lt (length list) (length (left_by e)))

  -- A call that wrote below the safe read-only offset of a list left no longer one, where the next step was none that a pass
  -- makes
  pub low_write : (list : List Step) (s : Step) → is_touch s ≡ false → is_call s ≡ false → Begins (list ++ s ∷ []) whole → (e : Entry) (slot a v : ℕ) (first rest : List Step) → a < safe_read_only list → Begins (left_by e) whole → IsOneCall e.steps
      → e.steps ≡ first ++ Write slot a v ∷ rest → length (left_by e) ≤ length list
  low_write list s no_touch no_call next e slot a v first rest sealed b one is =
      ⊎_elim
      (λ (lt : length list < length (left_by e)).
      absurd
      (⊎_elim
      (λ (less : length (e.before ++ first) < length list).
      let own = own_call list s no_touch no_call next e b one (omega (arith, less, length-append e.before first)) lt in
      omega (arith, less, length-append e.before first, ap length own.1))
      before
      (cases_lt (length (e.before ++ first)) (length list))))
      (λ (ge : length (left_by e) ≤ length list). ge)
      (cases_lt (length list) (length (left_by e)))
    where
      parts : whole ≡ (e.before ++ first) ++ Write slot a v ∷ (rest ++ b.0)
      parts =
          b.1 ∙ ap (λ (l : List Step). (e.before ++ l) ++ b.0) is ∙ ap (λ (l : List Step). l ++ b.0) (sym (append_assoc e.before first (Write slot a v ∷ rest))) ∙ append_assoc (e.before ++ first) (Write slot a v ∷ rest) b.0

      before : length list ≤ length (e.before ++ first) → ⊥
      before le =
          let front = both list (e.before ++ first) (shorter list (s ∷ []) next) (Write slot a v ∷ (rest ++ b.0), parts) le in
          let all : whole ≡ list ++ (front.0 ++ Write slot a v ∷ (rest ++ b.0)) = parts ∙ ap (λ (l : List Step). l ++ Write slot a v ∷ (rest ++ b.0)) front.1 ∙ append_assoc list front.0 (Write slot a v ∷ (rest ++ b.0)) in
          let above = later_stays_above sizes list front.0 (rest ++ b.0) slot a v page_some (subst (IsAccepted sizes) all accepted) in
          omega (arith, above, sealed)

  -- a closed page is flushed
  pub reached : (A : List Step) (p q : ℕ) → Begins A whole → p ≤ q → (q + 1) * sizes.page_size ≤ closed A → is_flushed sizes p A ≡ true
  reached A p q b le h =
      let less : (p + 1) * sizes.page_size ≤ (q + 1) * sizes.page_size = mul-le-mul_right sizes.page_size (omega (arith, le)) in
      closed_flushed sizes A p page_some (begun A b) (omega (arith, less, h))

  module _ (p : ℕ) where
    -- where the page is entered, an earlier page of its frame is freed
    pub freed_in : (q : ℕ) → q < p → q % sizes.frames ≡ p % sizes.frames → (A : List Step) → Begins A whole → is_entered sizes p A ≡ true → is_freed sizes q A ≡ true
    freed_in q less same A b e =
        let ahead = round_ahead sizes.frames p q frames_some less same in
        let back : (q + sizes.frames) - sizes.frames ≡ q = omega arith in
        ap (λ z. is_freed sizes z A) (sym back) ∙ round_freed sizes (q + sizes.frames) page_some (omega arith) A (begun A b) (entered_below sizes p (q + sizes.frames) A e ahead)

    module _ (later : List Step) (done : Begins (later ++ FlushDone p true ∷ []) whole) where
      pub ends : whole ≡ later ++ FlushDone p true ∷ done.0
      ends = done.1 ∙ append_assoc later (FlushDone p true ∷ []) done.0

      pub at_later : Begins later whole
      at_later = (FlushDone p true ∷ done.0, ends)

      pub not_yet : is_flushed sizes p later ≡ false
      not_yet =
          in_flight_unflushed sizes later p page_some (begun later at_later)
          (flush_was_out sizes later (FlushDone p true) p (accepted_meets_no_fault sizes later (FlushDone p true) done.0 (subst (IsAccepted sizes) ends accepted)) refl)

      -- where the page is flushed, the list is longer
      pub flushed_later : (A : List Step) → Begins A whole → is_flushed sizes p A ≡ true → length later < length A
      flushed_later A b h =
          ⊎_elim
          (λ (lt : length later < length A). lt)
          (λ (le : length A ≤ length later).
          let rest = both A later b at_later le in
          absurd (both_ways (is_flushed sizes p later) not_yet (subst (λ (l : List Step). is_flushed sizes p l ≡ true) (sym rest.1) (flushed_more sizes p A rest.0 h))))
          (cases_lt (length later) (length A))

      -- a call that took a page of the frame to clean, no earlier one, met a longer list
      pub cleans_later : (q : ℕ) (list : List Step) → Begins list whole → next_to_clean sizes list ≡ Some q → p ≤ q → length later < length list
      cleans_later q list b next le =
          let due = (next_page-parts (cleaning sizes) list (marks (cleaning sizes) list) q next).0 in
          flushed_later list b (reached list p q b le (ends_below sizes.page_size (closed list) q due))
