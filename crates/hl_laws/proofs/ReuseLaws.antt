-- No frame is used again while its old page is reached, and the words of a page that was taken to be flushed stay.
use Rattle.std.proofs.Common.{◌≡◌, ℕ, ◌+◌, ◌-◌, ◌*◌, ◌/◌, ◌<◌, ◌≤◌, true, cond, ◌||◌, false, List, [], ◌∷◌, ◌++◌, refl, sym, ap, ◌∙◌, subst, arith, append_assoc, append-nil, inl, inr, ◌⊎◌}
use Rattle.std.specs.Prelude.{Some, None}
use Rattle.std.proofs.lemmas.Bool.{ne_eqb}
use Rattle.hl_model.specs.declared.step.Step.{Step}
use Rattle.hl_model.specs.declared.step.Step.TheVariants.{Allocate, Write, Read}
use Rattle.hl_model.specs.Sizes.{Sizes}
use Rattle.hl_model.specs.Offsets.{is_entered}
use Rattle.hl_model.specs.Reach.{Reaches}
use Rattle.hl_model.specs.Settled.{safe_read_only, closed}
use Rattle.hl_model.specs.Views.{seen_read_only, seen_head, seen_tail}
use Rattle.hl_model.specs.Pages.{is_flushed, is_in_flight, is_freed}
use Rattle.hl_model.specs.Frames.{may_enter}
use Rattle.hl_model.specs.Words.{written_at, word}
use Rattle.hl_model.specs.Replies.{fault_of, protected_fault, IsAccepted}
use Rattle.hl_model.specs.Headline.{placed}
use Rattle.hl_model.proofs.ListLaws.{by_pushing}
use Rattle.hl_laws.proofs.AcceptedLaws.{IsAccepted-front, IsAccepted-parts}
use Rattle.hl_laws.proofs.PageFacts.{may_enter-freed, flushed_sealed, in_flight_sealed, freed_closed, head-le-flushed, flushed-le-safe_read_only}
use Rattle.hl_laws.proofs.WordLaws.{word-stay}
use Rattle.hl_laws.proofs.NoFaultLaws.{protected-none, write-none, read-none}
use Rattle.hl_laws.proofs.FrameLaws.{HasRoom, allocate-room}
use Rattle.hl_laws.proofs.BoundLaws.{safe_read_only-append, closed-le-head, views_are_bounded, writes_are_above_safe_read_only}
use Rattle.hl_laws.proofs.OffsetLaws.{next_page-above}

-- what a slot reaches isn't below the closed offset
reached_above : (sizes : Sizes) (X : List Step) (u a v : ℕ) → 0 < sizes.page_size → IsAccepted sizes X → ((fault_of sizes X (Read u a) ≡ None) ⊎ (fault_of sizes X (Write u a v) ≡ None)) → closed X ≤ a
reached_above sizes X u a v some acc (inl reads) =
    let parts : (protected_fault sizes X u ≡ None) × (seen_head u X ≤ a) × (a < seen_tail sizes u X) = read-none sizes X u a reads in
    let bounds : (safe_read_only X ≤ seen_read_only u X) × (closed X ≤ seen_head u X) = views_are_bounded sizes X u acc (protected-none sizes X u parts.0).1 in
    omega (arith, bounds.1, parts.1)
reached_above sizes X u a v some acc (inr writes) =
    let parts : (protected_fault sizes X u ≡ None) × (seen_read_only u X ≤ a) × (a < seen_tail sizes u X) = write-none sizes X u a v writes in
    let bounds : (safe_read_only X ≤ seen_read_only u X) × (closed X ≤ seen_head u X) = views_are_bounded sizes X u acc (protected-none sizes X u parts.0).1 in
    omega (arith, bounds.0, parts.1, closed-le-head sizes X acc, head-le-flushed sizes X acc, flushed-le-safe_read_only sizes X some acc)

-- the old page is freed, so it lies below the closed offset, and what is reached doesn't
pub no_frame_is_reused_while_reached : (sizes : Sizes) (X : List Step) (t n : ℕ) (Y : List Step) (u : ℕ) → 0 < sizes.page_size → IsAccepted sizes (X ++ Allocate t n ∷ Y) → is_entered sizes (placed sizes X n / sizes.page_size) X ≡ false → sizes.frames ≤ placed sizes X n / sizes.page_size → Reaches sizes u (placed sizes X n / sizes.page_size - sizes.frames) X → ⊥
no_frame_is_reused_while_reached sizes X t n Y u some a fresh used reach =
    let whole : (X ++ Allocate t n ∷ []) ++ Y ≡ X ++ Allocate t n ∷ Y = append_assoc X (Allocate t n ∷ []) Y in
    let parts : IsAccepted sizes X × (fault_of sizes X (Allocate t n) ≡ None) = IsAccepted-parts sizes X (Allocate t n) (IsAccepted-front sizes (X ++ Allocate t n ∷ []) Y (subst (IsAccepted sizes) (sym whole) a)) in
    let room : HasRoom sizes X n = allocate-room sizes X t n parts.1 in
    let may : may_enter sizes (placed sizes X n / sizes.page_size) X ≡ true = sym (ap (λ b. b || may_enter sizes (placed sizes X n / sizes.page_size) X) fresh) ∙ room.enters in
    let freed : is_freed sizes (placed sizes X n / sizes.page_size - sizes.frames) X ≡ true = may_enter-freed sizes (placed sizes X n / sizes.page_size) X used may in
    let gone : (placed sizes X n / sizes.page_size - sizes.frames + 1) * sizes.page_size ≤ closed X = freed_closed sizes X (placed sizes X n / sizes.page_size - sizes.frames) some parts.0 freed in
    let below : reach.address < (reach.address / sizes.page_size + 1) * sizes.page_size = next_page-above sizes.page_size reach.address some in
    let same : (reach.address / sizes.page_size + 1) * sizes.page_size ≡ (placed sizes X n / sizes.page_size - sizes.frames + 1) * sizes.page_size = ap (λ q. (q + 1) * sizes.page_size) reach.within in
    let above : closed X ≤ reach.address = reached_above sizes X u reach.address reach.value some parts.0 reach.lawful in
    omega (arith, gone, below, same, above)

-- no accepted step writes below the safe read-only offset
unwritten : (sizes : Sizes) (X : List Step) (a : ℕ) (s : Step) → IsAccepted sizes (X ++ s ∷ []) → a < safe_read_only X → written_at a s ≡ None
unwritten sizes X a (Write t b v) acc lt =
    ap (λ c. cond c (Some v) None) (ne_eqb b a (λ same. omega (arith, same, writes_are_above_safe_read_only sizes X t b v [] acc)))
unwritten sizes X a _ acc lt = refl

-- words below the safe read-only offset stay
pub sealed_words_stay : (sizes : Sizes) (A : List Step) (a : ℕ) → a < safe_read_only A → (B : List Step) → IsAccepted sizes (A ++ B) → word a (A ++ B) ≡ word a A
sealed_words_stay sizes A a lt = by_pushing (λ B. IsAccepted sizes (A ++ B) → word a (A ++ B) ≡ word a A) (λ acc. ap (word a) (append-nil A)) step
  where
    step : (B : List Step) (s : Step) → (IsAccepted sizes (A ++ B) → word a (A ++ B) ≡ word a A) → IsAccepted sizes (A ++ (B ++ s ∷ [])) → word a (A ++ (B ++ s ∷ [])) ≡ word a A
    step B s before acc =
        let whole : (A ++ B) ++ s ∷ [] ≡ A ++ (B ++ s ∷ []) = append_assoc A B (s ∷ []) in
        let all : IsAccepted sizes ((A ++ B) ++ s ∷ []) = subst (IsAccepted sizes) (sym whole) acc in
        let parts : IsAccepted sizes (A ++ B) × (fault_of sizes (A ++ B) s ≡ None) = IsAccepted-parts sizes (A ++ B) s all in
        let low : a < safe_read_only (A ++ B) = omega (arith, safe_read_only-append sizes A B parts.0) in
        ap (word a) (sym whole) ∙ word-stay a (A ++ B) s (unwritten sizes (A ++ B) a s all low) ∙ before parts.0

-- a page in flight or flushed is sealed
taken_sealed : (sizes : Sizes) (A : List Step) (p : ℕ) → 0 < sizes.page_size → IsAccepted sizes A → ((is_in_flight sizes p A ≡ true) ⊎ (is_flushed sizes p A ≡ true)) → (p + 1) * sizes.page_size ≤ safe_read_only A
taken_sealed sizes A p some acc (inl h) = in_flight_sealed sizes A p some acc h
taken_sealed sizes A p some acc (inr h) = flushed_sealed sizes A p some acc h

-- what was taken is sealed
pub taken_words_stay : (sizes : Sizes) (A B : List Step) (a : ℕ) → 0 < sizes.page_size → IsAccepted sizes (A ++ B) → (is_in_flight sizes (a / sizes.page_size) A ≡ true) ⊎ (is_flushed sizes (a / sizes.page_size) A ≡ true) → word a (A ++ B) ≡ word a A
taken_words_stay sizes A B a some acc h =
    sealed_words_stay sizes A a (omega (arith, next_page-above sizes.page_size a some, taken_sealed sizes A (a / sizes.page_size) some (IsAccepted-front sizes A B acc) h)) B acc
