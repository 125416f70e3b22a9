-- Where pages of one frame stand in the one list: freed, entered and taken to be cleaned.
use Rattle.std.proofs.Common.{◌≡◌, ℕ, ◌+◌, ◌-◌, ◌*◌, ◌/◌, ◌%◌, ◌<◌, ◌≤◌, ◌||◌, Bool, true, false, List, [], ◌∷◌, ◌++◌, length, map, Some, slice_get, refl, ap, sym, ◌∙◌, ⊎_elim, subst, arith, append_assoc, length-append}
use Rattle.std.specs.List.{AllByRecursion as Every, list_any}
use Rattle.std.proofs.lemmas.Bool.{cases_lt, lt-ltb}
use Rattle.std.proofs.Math.Nat.{lt-div-mul-add, div-mul-le_self, mul-le-mul_right}
use Rattle.hl_model.specs.declared.step.Step.{Step}
use Rattle.hl_model.specs.declared.step.Step.TheVariants.{Write, CleanTake, CleanDone}
use Rattle.hl_model.specs.Offsets.{tail, is_entered}
use Rattle.hl_model.specs.Pages.{is_complete, is_freed, cleaning, marks, frees, clean_of, next_to_clean}
use Rattle.hl_model.specs.Replies.{IsAccepted}
use Rattle.hl_model.specs.Settled.{safe_read_only, closed}
use Rattle.hl_model.specs.Sizes.{Sizes}
use Rattle.hl_history.specs.declared.view.Entry.{Entry}
use Rattle.hl_history.specs.Lists.{Begins, left_by, IsOf, IsOneList}
use Rattle.hl_words.specs.States.{RiderState}
use Rattle.hl_words.proofs.Cut.{every_at}
use Rattle.hl_words.proofs.Orders.{at_place}
use Rattle.hl_laws.proofs.BoundLaws.{closed-append, closed-le-head}
use Rattle.hl_laws.proofs.PageFacts.{ends_below, frees_clean_of, freed_closed, head-le-flushed, flushed-le-safe_read_only, round_freed}
use Rattle.hl_laws.proofs.WorkLaws.{next_page-parts}
use Rattle.hl_images.specs.Entered.{IsOneCall}
use Rattle.hl_images.proofs.PlaceLaws.{begun, both, shorter, freed_in, low_write, own_call, round_ahead}
use Rattle.hl_images.proofs.WordLaws.{calls_at, entered_call, whose_calls}

-- where a page is freed, a step freed it
freeing : (q : ℕ) (A : List Step) → list_any (frees q) A ≡ true → (X Y : List Step) × (A ≡ X ++ CleanDone q ∷ Y)
freeing q [] h = absurd cc
freeing q (s ∷ A) h = by (frees q s) refl (freeing q A)
  where
    is_done : (s : Step) → clean_of s ≡ Some q → s ≡ CleanDone q
    is_done (CleanDone r) e = let same : r ≡ q = cc e in ap (λ (z : ℕ). CleanDone z) same
    is_done _ e = absurd (cc e)

    by : (b : Bool) → frees q s ≡ b → (list_any (frees q) A ≡ true → (X Y : List Step) × (A ≡ X ++ CleanDone q ∷ Y)) → (X Y : List Step) × (s ∷ A ≡ X ++ CleanDone q ∷ Y)
    by true e rest = ([], A, ap (λ (z : Step). z ∷ A) (is_done s (frees_clean_of s q e)))
    by false e rest =
        let r = rest (sym (ap (λ (b : Bool). b || list_any (frees q) A) e) ∙ h) in
        (s ∷ r.0, r.1, ap (λ (l : List Step). s ∷ l) r.2)

-- the call that freed a page
pub record Freeing (whole : List Step) (riders : List RiderState) (q n : ℕ) : Type 0 where
  pub s : ℕ
  pub r : RiderState
  pub at : slice_get riders s ≡ Some r
  pub call : Entry
  pub number : ℕ
  pub call_at : slice_get r.calls number ≡ Some call
  pub steps : call.steps ≡ CleanDone q ∷ []
  pub begins : Begins (left_by call) whole
  pub low : length call.before + 1 ≤ n

module _ (sizes : Sizes) (whole : List Step) (page_some : 0 < sizes.page_size) (frames_some : 0 < sizes.frames) (accepted : IsAccepted sizes whole) where
  -- an earlier page of the frame is freed where the address is in the log
  pub freed_below : (a : ℕ) → (X : List Step) → Begins X whole → a < tail sizes X → (q : ℕ) → q < a / sizes.page_size → q % sizes.frames ≡ a / sizes.page_size % sizes.frames → is_freed sizes q X ≡ true
  freed_below a X b low q less same = freed_in sizes whole page_some frames_some accepted (a / sizes.page_size) q less same X b (lt-ltb (a / sizes.page_size * sizes.page_size) (tail sizes X) (omega (arith, low, div-mul-le_self a sizes.page_size)))

  -- where a page was taken to clean, a call that wrote in it left no longer list
  pub low_cleaned : (list : List Step) (q : ℕ) → next_to_clean sizes list ≡ Some q → Begins (list ++ CleanTake ∷ []) whole → (e : Entry) (slot x v : ℕ) (first rest : List Step) → x / sizes.page_size ≡ q → Begins (left_by e) whole → IsOneCall e.steps
      → e.steps ≡ first ++ Write slot x v ∷ rest → length (left_by e) ≤ length list
  low_cleaned list q next take e slot x v first rest page be one_call is =
      let at = shorter sizes whole page_some frames_some accepted list (CleanTake ∷ []) take in
      let ok = begun sizes whole page_some frames_some accepted list at in
      let due : (q + 1) * sizes.page_size ≤ closed list = ends_below sizes.page_size (closed list) q (next_page-parts (cleaning sizes) list (marks (cleaning sizes) list) q next).0 in
      let low : x < safe_read_only list =
      omega (arith, due, lt-div-mul-add {a = x} page_some, ap (λ (z : ℕ). (z + 1) * sizes.page_size) page, closed-le-head sizes list ok, head-le-flushed sizes list ok, flushed-le-safe_read_only sizes list page_some ok) in
      low_write sizes whole page_some frames_some accepted list CleanTake refl refl take e slot x v first rest low be one_call is

  module _ (riders : List RiderState) (one : IsOneList whole (map (λ (q : RiderState). q.calls) riders)) (singles : (l : ℕ) (q : RiderState) → slice_get riders l ≡ Some q → Every (λ (e : Entry). IsOneCall e.steps) q.calls) where
    pub freeing_call : (q : ℕ) (X : List Step) → Begins X whole → is_freed sizes q X ≡ true → Freeing whole riders q (length X)
    unfolding is_complete
    freeing_call q X bX freed =
        let f = freeing q X freed in
        let Y = f.0 in
        let all : whole ≡ Y ++ CleanDone q ∷ (f.1 ++ bX.0) = bX.1 ∙ ap (λ (l : List Step). l ++ bX.0) f.2 ∙ append_assoc Y (CleanDone q ∷ f.1) bX.0 in
        let here : slice_get whole (length Y) ≡ Some (CleanDone q) = ap (λ (l : List Step). slice_get l (length Y)) all ∙ at_place Y (CleanDone q) (f.1 ++ bX.0) in
        let e = entered_call whole (map (λ (z : RiderState). z.calls) riders) one (length Y) (CleanDone q) here in
        let r = whose_calls riders e.whose e.calls e.record_at in
        let own : slice_get r.0.calls e.number ≡ Some e.call = subst (λ (l : List Entry). slice_get l e.number ≡ Some e.call) (sym r.2) e.call_at in
        let one_call : IsOneCall e.call.steps = every_at (λ (x : Entry). IsOneCall x.steps) r.0.calls (singles e.whose r.0 r.1) e.number e.call own in
        let begins : Begins (left_by e.call) whole = every_at (λ (x : Entry). Begins (left_by x) whole) r.0.calls (every_at (IsOf whole) (map (λ (z : RiderState). z.calls) riders) one.each e.whose r.0.calls (calls_at riders e.whose r.0 r.1)).begins e.number e.call own in
        let next : Begins (Y ++ CleanDone q ∷ []) whole = (f.1 ++ bX.0, all ∙ sym (append_assoc Y (CleanDone q ∷ []) (f.1 ++ bX.0))) in
        let alone = own_call sizes whole page_some frames_some accepted Y (CleanDone q) refl refl next e.call begins one_call e.low (omega (arith, e.high, length-append e.call.before e.call.steps)) in
        record {
          s = e.whose;
          r = r.0;
          at = r.1;
          call = e.call;
          number = e.number;
          call_at = own;
          steps = alone.0;
          begins = begins;
          low = omega (arith, ap length alone.1, ap length f.2, length-append Y (CleanDone q ∷ f.1));
        }

  -- an address that isn't closed in a list
  module _ (a : ℕ) (later : List Step) (bl : Begins later whole) (open_there : closed later ≤ a) where
    -- the end of the page
    page_end : a < (a / sizes.page_size + 1) * sizes.page_size
    page_end = omega (arith, lt-div-mul-add {a = a} page_some)

    -- where the page is closed, the list is longer
    closed_later : (X : List Step) → Begins X whole → (a / sizes.page_size + 1) * sizes.page_size ≤ closed X → length later < length X
    closed_later X b end =
        ⊎_elim
        (λ (lt : length later < length X). lt)
        (λ (le : length X ≤ length later).
        let rest = both sizes whole page_some frames_some accepted X later b bl le in
        let more = closed-append sizes X rest.0 (subst (IsAccepted sizes) rest.1 (begun sizes whole page_some frames_some accepted later bl)) in
        let same : closed later ≡ closed (X ++ rest.0) = ap closed rest.1 in
        absurd (omega (arith, end, more, same, open_there, page_end)))
        (cases_lt (length later) (length X))

    -- where a later page of the frame is entered, too
    pub page_later : (X : List Step) (x : ℕ) → Begins X whole → x < tail sizes X → a / sizes.page_size < x / sizes.page_size → a / sizes.page_size % sizes.frames ≡ x / sizes.page_size % sizes.frames → length later < length X
    page_later X x b low less same =
        let q = x / sizes.page_size in
        let ahead = round_ahead sizes.frames q (a / sizes.page_size) frames_some less same in
        let entered : is_entered sizes q X ≡ true = lt-ltb (q * sizes.page_size) (tail sizes X) (omega (arith, low, div-mul-le_self x sizes.page_size)) in
        let ok = begun sizes whole page_some frames_some accepted X b in
        let freed = round_freed sizes q page_some (omega (arith, ahead)) X ok entered in
        let gone : (q - sizes.frames + 1) * sizes.page_size ≤ closed X = freed_closed sizes X (q - sizes.frames) page_some ok freed in
        let more : (a / sizes.page_size + 1) * sizes.page_size ≤ (q - sizes.frames + 1) * sizes.page_size = mul-le-mul_right sizes.page_size (omega (arith, ahead)) in
        closed_later X b (omega (arith, gone, more))

    -- so it is where such a page, or this one, was taken to be cleaned
    pub sweep_later : (list : List Step) (q : ℕ) → Begins (list ++ CleanTake ∷ []) whole → next_to_clean sizes list ≡ Some q → a / sizes.page_size ≤ q → length later < length (list ++ CleanTake ∷ [])
    sweep_later list q b next le =
        let at = shorter sizes whole page_some frames_some accepted list (CleanTake ∷ []) b in
        let due : (q + 1) * sizes.page_size ≤ closed list = ends_below sizes.page_size (closed list) q (next_page-parts (cleaning sizes) list (marks (cleaning sizes) list) q next).0 in
        let more : (a / sizes.page_size + 1) * sizes.page_size ≤ (q + 1) * sizes.page_size = mul-le-mul_right sizes.page_size (omega (arith, le)) in
        omega (arith, closed_later list at (omega (arith, due, more)), length-append list (CleanTake ∷ []))
