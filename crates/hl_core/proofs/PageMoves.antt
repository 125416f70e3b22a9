-- What each step makes of the frames of an accepted list.
use Rattle.std.proofs.Common.{◌≡◌, ℕ, ◌+◌, ◌-◌, ◌*◌, ◌/◌, ◌%◌, ◌<◌, ◌≢◌, Bool, true, false, not, ◌&&◌, ◌||◌, ltb, List, [], ◌∷◌, ◌++◌, set, refl, sym, ap, ap₂, ◌∙◌}
use Rattle.std.specs.Prelude.{◌==◌, Option, Some, None, option_map}
use Rattle.std.proofs.lemmas.Bool.{eq-eqb, or_left, or_right, both_ways, false_from_ne_true}
use Rattle.hl_model.specs.declared.step.Step.{Step}
use Rattle.hl_model.specs.declared.step.Step.TheVariants.{FlushTake, FlushDone, CleanTake, CleanDone}
use Rattle.hl_model.specs.Lists.{greatest_below}
use Rattle.hl_model.specs.Sizes.{Sizes, AreInRange}
use Rattle.hl_model.specs.Offsets.{tail, is_entered}
use Rattle.hl_model.specs.Settled.{safe_read_only, closed}
use Rattle.hl_model.specs.Pages.{flushing, cleaning, marks, takes_to_flush, flush_of, flushes, takes_to_clean, clean_of, frees, is_flushed, is_in_flight, is_freed, is_cleaning, next_to_flush, next_to_clean}
use Rattle.hl_model.specs.Frames.{last_entered}
use Rattle.hl_model.specs.Replies.{IsAccepted}
use Rattle.hl_laws.proofs.RowLaws.{rows_same, rows_set}
use Rattle.hl_laws.proofs.OffsetLaws.{tail-push}
use Rattle.hl_laws.proofs.WorkLaws.{is_flushed-push, is_freed-push, is_in_flight-take, is_in_flight-done, is_in_flight-stay, is_cleaning-take, is_cleaning-done, is_cleaning-stay, next_page-parts, is_flushed-stay, is_freed-stay}
use Rattle.hl_laws.proofs.FrameLaws.{last_entered-some}
use Rattle.hl_laws.proofs.FrameFacts.{sealed_entered, unfreed_last}
use Rattle.hl_laws.proofs.PageFacts.{ends_below}
use Rattle.hl_laws.proofs.ViewLaws.{eqb-other}
use Rattle.hl_model.specs.declared.frame.Held.{Held}
use Rattle.hl_frames.specs.Pages.{Pages, held_for}
use Rattle.hl_frames.specs.Answers.{changed, entered, flush_begun, flush_ended, clean_begun, clean_ended}
use Rattle.hl_model.specs.Bases.{marked, held_of}
use Rattle.hl_core.specs.Standing.{pages_of}
use Rattle.hl_core.proofs.PageRows.{length-frames, held_for-is}
use Rattle.hl_core.proofs.PageMarks.{page_size_some, frames_some, kept, closed_sealed}

-- a page with these marks
abbrev pub held_with : ℕ → Bool → Bool → Bool → Bool → Held
held_with p a b c d = record { page = p; flushed = a; in_flight = b; freed = c; cleaning = d }

-- equal marks are one page
held_same : (p : ℕ) (a b c d a' b' c' d' : Bool) → a ≡ a' → b ≡ b' → c ≡ c' → d ≡ d' → held_with p a b c d ≡ held_with p a' b' c' d'
held_same p a b c d a' b' c' d' ha hb hc hd = ap₂ (λ x y. held_with p x y c d) ha hb ∙ ap₂ (λ x y. held_with p a' b' x y) hc hd

-- a page's marks, told one by one
pub marked-with : (sizes : Sizes) (B : List Step) (p : ℕ) (a b c d : Bool) → is_flushed sizes p B ≡ a → is_in_flight sizes p B ≡ b → is_freed sizes p B ≡ c → is_cleaning sizes p B ≡ d → marked sizes B p ≡ held_with p a b c d
marked-with sizes B p a b c d ha hb hc hd = held_same p (is_flushed sizes p B) (is_in_flight sizes p B) (is_freed sizes p B) (is_cleaning sizes p B) a b c d ha hb hc hd

-- a step that touches no page leaves each page's marks
pub marked-stay : (sizes : Sizes) (A : List Step) (s : Step) (p : ℕ) → takes_to_flush s ≡ false → flush_of s ≡ None → flushes p s ≡ false → takes_to_clean s ≡ false → clean_of s ≡ None → frees p s ≡ false → marked sizes (A ++ s ∷ []) p ≡ marked sizes A p
marked-stay sizes A s p tf ff fl tc fc fr =
    marked-with sizes (A ++ s ∷ []) p (is_flushed sizes p A) (is_in_flight sizes p A) (is_freed sizes p A) (is_cleaning sizes p A)
    (is_flushed-stay sizes A s p fl) (is_in_flight-stay sizes A s p tf ff) (is_freed-stay sizes A s p fr) (is_cleaning-stay sizes A s p tc fc)

-- where the tail stays, so do each frame's last page and the number of pages
last_entered-same : (sizes : Sizes) (f : ℕ) (A B : List Step) → tail sizes B ≡ tail sizes A → last_entered sizes f B ≡ last_entered sizes f A
unfolding last_entered
last_entered-same sizes f A B same = ap (λ a. greatest_below (λ p. ltb (p * sizes.page_size) a && p % sizes.frames == f) (a / sizes.page_size + 1)) same

-- the pages of these frames
abbrev pub pages_with : Sizes → List (Option Held) → ℕ → Pages
pages_with sizes frames entered = record { page_size = sizes.page_size; frames = frames; entered = entered }

-- a step that leaves the tail and touches no page leaves the frames
pub pages_of-quiet : (sizes : Sizes) (A : List Step) (s : Step) → tail sizes (A ++ s ∷ []) ≡ tail sizes A → takes_to_flush s ≡ false → flush_of s ≡ None → ((p : ℕ) → flushes p s ≡ false) → takes_to_clean s ≡ false → clean_of s ≡ None → ((p : ℕ) → frees p s ≡ false) → pages_of sizes (A ++ s ∷ []) ≡ pages_of sizes A
pages_of-quiet sizes A s same tf ff fl tc fc fr =
    ap₂ (pages_with sizes) (rows_same (held_of sizes (A ++ s ∷ [])) (held_of sizes A) sizes.frames each) (ap (λ a. (a + sizes.page_size - 1) / sizes.page_size) same)
  where
    of_page : (o : Option ℕ) → option_map (marked sizes (A ++ s ∷ [])) o ≡ option_map (marked sizes A) o
    of_page None = refl
    of_page (Some p) = ap Some (marked-stay sizes A s p tf ff (fl p) tc fc (fr p))

    each : (f : ℕ) → held_of sizes (A ++ s ∷ []) f ≡ held_of sizes A f
    each f = ap (option_map (marked sizes (A ++ s ∷ []))) (last_entered-same sizes f A (A ++ s ∷ []) same) ∙ of_page (last_entered sizes f A)

-- where one page's marks change, so does its frame, and no other
changed-is : (sizes : Sizes) (A : List Step) (s : Step) (q : ℕ) (change : Held → Held) → AreInRange sizes → tail sizes (A ++ s ∷ []) ≡ tail sizes A → last_entered sizes (q % sizes.frames) A ≡ Some q → marked sizes (A ++ s ∷ []) q ≡ change (marked sizes A q) → ((p : ℕ) → (p ≢ q) → marked sizes (A ++ s ∷ []) p ≡ marked sizes A p) → pages_of sizes (A ++ s ∷ []) ≡ changed q change (pages_of sizes A)
changed-is sizes A s q change range same last here others =
    ap₂ (pages_with sizes)
    (rows_set (held_of sizes (A ++ s ∷ [])) (held_of sizes A) sizes.frames (q % sizes.frames) (option_map change (held_for q (pages_of sizes A))) at each
    ∙ ap (λ n. set (pages_of sizes A).frames (q % n) (option_map change (held_for q (pages_of sizes A)))) (sym (length-frames sizes A)))
    (ap (λ a. (a + sizes.page_size - 1) / sizes.page_size) same)
  where
    at : held_of sizes (A ++ s ∷ []) (q % sizes.frames) ≡ option_map change (held_for q (pages_of sizes A))
    at =
        ap (option_map (marked sizes (A ++ s ∷ []))) (last_entered-same sizes (q % sizes.frames) A (A ++ s ∷ []) same ∙ last)
        ∙ ap Some here
        ∙ sym (ap (λ o. option_map change (option_map (marked sizes A) o)) last)
        ∙ sym (ap (option_map change) (held_for-is sizes A q (frames_some sizes range)))

    of_page : (f : ℕ) → (f ≢ (q % sizes.frames)) → (o : Option ℕ) → last_entered sizes f A ≡ o → option_map (marked sizes (A ++ s ∷ [])) o ≡ option_map (marked sizes A) o
    of_page f ne None is = refl
    of_page f ne (Some p) is =
        ap Some (others p (λ one. ne (sym (last_entered-some sizes f p A (page_size_some sizes range) (frames_some sizes range) is).of_frame ∙ ap (λ r. r % sizes.frames) one)))

    each : (f : ℕ) → (f ≢ (q % sizes.frames)) → held_of sizes (A ++ s ∷ []) f ≡ held_of sizes A f
    each f ne = ap (option_map (marked sizes (A ++ s ∷ []))) (last_entered-same sizes f A (A ++ s ∷ []) same) ∙ of_page f ne (last_entered sizes f A) refl

-- an entered page that isn't flushed is the last of its frame: a freed one is
unflushed_last : (sizes : Sizes) (A : List Step) (q : ℕ) → AreInRange sizes → IsAccepted sizes A → is_entered sizes q A ≡ true → is_flushed sizes q A ≡ false → last_entered sizes (q % sizes.frames) A ≡ Some q
unflushed_last sizes A q range a e f =
    unfreed_last sizes A q (page_size_some sizes range) (frames_some sizes range) a e
    (false_from_ne_true (is_freed sizes q A) (λ t. both_ways (is_flushed sizes q A) f ((kept sizes A range a).closed_flushed q ((kept sizes A range a).freed_closed q t))))

-- a take leaves another page
kept_when : (b c : Bool) → b ≡ false → (b || c) ≡ c
kept_when true c h = cc
kept_when false c h = refl

-- so does an end
left_when : (b c : Bool) → b ≡ false → (not b && c) ≡ c
left_when true c h = cc
left_when false c h = refl

-- an end ends its own page
gone_when : (b c : Bool) → b ≡ true → (not b && c) ≡ false
gone_when true c h = refl
gone_when false c h = cc

-- a flush take
pub flush_begun-is : (sizes : Sizes) (A : List Step) (q : ℕ) → AreInRange sizes → IsAccepted sizes A → next_to_flush sizes A ≡ Some q → pages_of sizes (A ++ FlushTake ∷ []) ≡ flush_begun q (pages_of sizes A)
flush_begun-is sizes A q range a h = changed-is sizes A FlushTake q (λ held. record held { in_flight = true }) range (tail-push sizes A FlushTake) last here others
  where
    parts : (q < safe_read_only A / sizes.page_size) × (is_flushed sizes q A ≡ false) × (is_in_flight sizes q A ≡ false)
    parts = next_page-parts (flushing sizes) A (marks (flushing sizes) A) q h

    last : last_entered sizes (q % sizes.frames) A ≡ Some q
    last = unflushed_last sizes A q range a (sealed_entered sizes A q (page_size_some sizes range) a (ends_below sizes.page_size (safe_read_only A) q parts.0)) parts.1

    here : marked sizes (A ++ FlushTake ∷ []) q ≡ held_with q (is_flushed sizes q A) true (is_freed sizes q A) (is_cleaning sizes q A)
    here =
        marked-with sizes (A ++ FlushTake ∷ []) q (is_flushed sizes q A) true (is_freed sizes q A) (is_cleaning sizes q A)
        (is_flushed-stay sizes A FlushTake q refl)
        (is_in_flight-take sizes A q q h ∙ or_left (q == q) (is_in_flight sizes q A) (eq-eqb q q refl))
        (is_freed-stay sizes A FlushTake q refl) (is_cleaning-stay sizes A FlushTake q refl refl)

    others : (p : ℕ) → (p ≢ q) → marked sizes (A ++ FlushTake ∷ []) p ≡ marked sizes A p
    others p ne =
        marked-with sizes (A ++ FlushTake ∷ []) p (is_flushed sizes p A) (is_in_flight sizes p A) (is_freed sizes p A) (is_cleaning sizes p A)
        (is_flushed-stay sizes A FlushTake p refl)
        (is_in_flight-take sizes A q p h ∙ kept_when (q == p) (is_in_flight sizes p A) (eqb-other q p ne))
        (is_freed-stay sizes A FlushTake p refl) (is_cleaning-stay sizes A FlushTake p refl refl)

-- the end of a flush
pub flush_ended-is : (sizes : Sizes) (A : List Step) (q : ℕ) (ok : Bool) → AreInRange sizes → IsAccepted sizes A → is_in_flight sizes q A ≡ true → pages_of sizes (A ++ FlushDone q ok ∷ []) ≡ flush_ended q ok (pages_of sizes A)
flush_ended-is sizes A q ok range a h = changed-is sizes A (FlushDone q ok) q (λ held. record held { in_flight = false; flushed = ok }) range (tail-push sizes A (FlushDone q ok)) last here others
  where
    unflushed : is_flushed sizes q A ≡ false
    unflushed = (kept sizes A range a).in_flight_unflushed q h

    last : last_entered sizes (q % sizes.frames) A ≡ Some q
    last = unflushed_last sizes A q range a (sealed_entered sizes A q (page_size_some sizes range) a ((kept sizes A range a).in_flight_sealed q h)) unflushed

    here : marked sizes (A ++ FlushDone q ok ∷ []) q ≡ held_with q ok false (is_freed sizes q A) (is_cleaning sizes q A)
    here =
        marked-with sizes (A ++ FlushDone q ok ∷ []) q ok false (is_freed sizes q A) (is_cleaning sizes q A)
        (is_flushed-push sizes q A (FlushDone q ok) ∙ kept_when (is_flushed sizes q A) (q == q && ok) unflushed ∙ ap (λ b. b && ok) (eq-eqb q q refl))
        (is_in_flight-done sizes A q ok q ∙ gone_when (q == q) (is_in_flight sizes q A) (eq-eqb q q refl))
        (is_freed-stay sizes A (FlushDone q ok) q refl) (is_cleaning-stay sizes A (FlushDone q ok) q refl refl)

    others : (p : ℕ) → (p ≢ q) → marked sizes (A ++ FlushDone q ok ∷ []) p ≡ marked sizes A p
    others p ne =
        marked-with sizes (A ++ FlushDone q ok ∷ []) p (is_flushed sizes p A) (is_in_flight sizes p A) (is_freed sizes p A) (is_cleaning sizes p A)
        (is_flushed-stay sizes A (FlushDone q ok) p (ap (λ b. b && ok) (eqb-other q p ne)))
        (is_in_flight-done sizes A q ok p ∙ left_when (q == p) (is_in_flight sizes p A) (eqb-other q p ne))
        (is_freed-stay sizes A (FlushDone q ok) p refl) (is_cleaning-stay sizes A (FlushDone q ok) p refl refl)

-- a clean take
pub clean_begun-is : (sizes : Sizes) (A : List Step) (q : ℕ) → AreInRange sizes → IsAccepted sizes A → next_to_clean sizes A ≡ Some q → pages_of sizes (A ++ CleanTake ∷ []) ≡ clean_begun q (pages_of sizes A)
clean_begun-is sizes A q range a h = changed-is sizes A CleanTake q (λ held. record held { cleaning = true }) range (tail-push sizes A CleanTake) last here others
  where
    parts : (q < closed A / sizes.page_size) × (is_freed sizes q A ≡ false) × (is_cleaning sizes q A ≡ false)
    parts = next_page-parts (cleaning sizes) A (marks (cleaning sizes) A) q h

    last : last_entered sizes (q % sizes.frames) A ≡ Some q
    last = unfreed_last sizes A q (page_size_some sizes range) (frames_some sizes range) a (sealed_entered sizes A q (page_size_some sizes range) a (closed_sealed sizes A q range a (ends_below sizes.page_size (closed A) q parts.0))) parts.1

    here : marked sizes (A ++ CleanTake ∷ []) q ≡ held_with q (is_flushed sizes q A) (is_in_flight sizes q A) (is_freed sizes q A) true
    here =
        marked-with sizes (A ++ CleanTake ∷ []) q (is_flushed sizes q A) (is_in_flight sizes q A) (is_freed sizes q A) true
        (is_flushed-stay sizes A CleanTake q refl) (is_in_flight-stay sizes A CleanTake q refl refl)
        (is_freed-stay sizes A CleanTake q refl)
        (is_cleaning-take sizes A q q h ∙ or_left (q == q) (is_cleaning sizes q A) (eq-eqb q q refl))

    others : (p : ℕ) → (p ≢ q) → marked sizes (A ++ CleanTake ∷ []) p ≡ marked sizes A p
    others p ne =
        marked-with sizes (A ++ CleanTake ∷ []) p (is_flushed sizes p A) (is_in_flight sizes p A) (is_freed sizes p A) (is_cleaning sizes p A)
        (is_flushed-stay sizes A CleanTake p refl) (is_in_flight-stay sizes A CleanTake p refl refl)
        (is_freed-stay sizes A CleanTake p refl)
        (is_cleaning-take sizes A q p h ∙ kept_when (q == p) (is_cleaning sizes p A) (eqb-other q p ne))

-- the end of a cleaning
pub clean_ended-is : (sizes : Sizes) (A : List Step) (q : ℕ) → AreInRange sizes → IsAccepted sizes A → is_cleaning sizes q A ≡ true → pages_of sizes (A ++ CleanDone q ∷ []) ≡ clean_ended q (pages_of sizes A)
clean_ended-is sizes A q range a h = changed-is sizes A (CleanDone q) q (λ held. record held { cleaning = false; freed = true }) range (tail-push sizes A (CleanDone q)) last here others
  where
    last : last_entered sizes (q % sizes.frames) A ≡ Some q
    last = unfreed_last sizes A q (page_size_some sizes range) (frames_some sizes range) a (sealed_entered sizes A q (page_size_some sizes range) a (closed_sealed sizes A q range a ((kept sizes A range a).cleaning_closed q h))) ((kept sizes A range a).cleaning_unfreed q h)

    here : marked sizes (A ++ CleanDone q ∷ []) q ≡ held_with q (is_flushed sizes q A) (is_in_flight sizes q A) true false
    here =
        marked-with sizes (A ++ CleanDone q ∷ []) q (is_flushed sizes q A) (is_in_flight sizes q A) true false
        (is_flushed-stay sizes A (CleanDone q) q refl) (is_in_flight-stay sizes A (CleanDone q) q refl refl)
        (is_freed-push sizes q A (CleanDone q) ∙ or_right (is_freed sizes q A) (q == q) (eq-eqb q q refl))
        (is_cleaning-done sizes A q q ∙ gone_when (q == q) (is_cleaning sizes q A) (eq-eqb q q refl))

    others : (p : ℕ) → (p ≢ q) → marked sizes (A ++ CleanDone q ∷ []) p ≡ marked sizes A p
    others p ne =
        marked-with sizes (A ++ CleanDone q ∷ []) p (is_flushed sizes p A) (is_in_flight sizes p A) (is_freed sizes p A) (is_cleaning sizes p A)
        (is_flushed-stay sizes A (CleanDone q) p refl) (is_in_flight-stay sizes A (CleanDone q) p refl refl)
        (is_freed-stay sizes A (CleanDone q) p (eqb-other q p ne))
        (is_cleaning-done sizes A q p ∙ left_when (q == p) (is_cleaning sizes p A) (eqb-other q p ne))
