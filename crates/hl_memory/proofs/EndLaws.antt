-- What words and images hold at the end is in that memory.
use Rattle.std.proofs.Common.{◌≡◌, ℕ, ◌+◌, ◌*◌, ◌/◌, ◌<◌, ◌≤◌, true, List, [], ◌∷◌, ◌++◌, length, map, Some, slice_get, refl, ap, sym, ◌∙◌, ⊎_elim, subst, arith, append_assoc, length-append}
use Rattle.std.proofs.lemmas.Bool.{both_ways, cases_lt}
use Rattle.std.proofs.lemmas.List.{append-nil}
use Rattle.std.proofs.lemmas.Nat.{div-add-mod'}
use Rattle.std.proofs.Math.Nat.{mul-le-mul_right}
use Rattle.std.proofs.lemmas.Option.{slice_get_within}
use Rattle.hl_model.specs.declared.step.Step.{Step}
use Rattle.hl_model.specs.declared.step.Step.TheVariants.{FlushTake, FlushDone}
use Rattle.hl_model.specs.declared.view.Six.{Six}
use Rattle.hl_model.specs.Offsets.{tail}
use Rattle.hl_model.specs.Replies.{IsAccepted}
use Rattle.hl_model.specs.Settled.{closed}
use Rattle.hl_model.specs.Sizes.{Sizes}
use Rattle.hl_history.specs.declared.view.Entry.{Entry}
use Rattle.hl_history.specs.Lists.{Begins, left_by, IsOf}
use Rattle.hl_laws.proofs.BoundLaws.{closed-whole, read_only-le-tail, safe_read_only-le-read_only}
use Rattle.hl_laws.proofs.FollowLaws.{offsets_follow}
use Rattle.hl_laws.proofs.PageFacts.{closed_flushed}
use Rattle.hl_words.specs.declared.view.RiderView.{RiderView}
use Rattle.hl_words.specs.declared.view.Touch.{Touch}
use Rattle.hl_words.specs.declared.view.Touch.TheVariants.{Loaded, Called}
use Rattle.hl_words.specs.Rule.{TouchBy, by_rider, held, touches_of}
use Rattle.hl_words.specs.Past.{HasCalls, HasNoCalls}
use Rattle.hl_words.specs.States.{RiderState, AreTied}
use Rattle.hl_keeper.specs.Endings.{EndingState}
use Rattle.hl_keeper.specs.Passes.{cell_at}
use Rattle.hl_keeper.specs.Pages.{first_cell}
use Rattle.hl_domain.specs.Domains.{IsEnding}
use Rattle.hl_images.specs.Entered.{IsOneCall}
use Rattle.hl_images.specs.Images.{IsImaged}
use Rattle.hl_images.proofs.CellLaws.{cell_low, cell_of_place}
use Rattle.hl_images.proofs.PlaceLaws.{every_both, begun, shorter, low_last, at_later, not_yet}
use Rattle.hl_images.proofs.TakenLaws.{sealed}
use Rattle.hl_images.proofs.WordLaws.{whose_view}
use Rattle.hl_memory.specs.Acts.{in_cells, IsHistory}
use Rattle.hl_memory.specs.Images.{ImagesAreMemory}
use Rattle.hl_memory.specs.Memory.{HasNoneLeft, WordsAreMemory}
use Rattle.hl_memory.proofs.ActLaws.{call_at, of_one_list, tied_of}
use Rattle.hl_memory.proofs.LoadLaws.{OpenThere, open_cell}
use Rattle.hl_memory.proofs.OpenLaws.{none_at_end}

-- an address that isn't closed at the end is open there
pub open_at_end : (F : Type 0) (sizes : Sizes) (riders : List RiderState) (ending : EndingState F) (ends : IsEnding sizes riders ending) (history : List TouchBy) → IsHistory sizes (ends.steps_cut ++ ending.journal) riders ends.ruled.rule.order.0 history → (a : ℕ) → a < tail sizes (ends.steps_cut ++ ending.journal) → closed (ends.steps_cut ++ ending.journal) ≤ a
    → OpenThere sizes (ends.steps_cut ++ ending.journal) (map (λ (q : RiderState). q.view) riders) a history
open_at_end F sizes riders ending ends history its a below unclosed =
    let whole = ends.steps_cut ++ ending.journal in
    let all : Begins whole whole = ([], sym (append-nil whole)) in
    record {
      list = whole;
      later = whole;
      begins = all;
      ends = all;
      below = below;
      unclosed = unclosed;
      grown = λ j met left q later past at is grew few. (later, ap (touches_of j) its.cells ∙ sym (ends.ruled.rule.order.1.each j q at) ∙ is);
      none_left = none_at_end F sizes riders ending ends (in_cells sizes history);
    }

pub words_are_memory : (F : Type 0) → WordsAreMemory F
words_are_memory F sizes riders ending ends page_some frames_some history its a below unclosed =
    let less : cell_at sizes a < ending.words.cells = omega (arith, cell_low sizes a page_some frames_some, ends.cells_are) in
    ends.ruled.rule.order.1.last (cell_at sizes a) less ∙ ap (held (cell_at sizes a)) (sym its.cells)
    ∙ open_cell F sizes riders ending ends page_some frames_some history [] history its refl a (open_at_end F sizes riders ending ends history its a below unclosed)

-- acts cut where their touches are
cells_cut : (sizes : Sizes) (xs ys history : List TouchBy) → in_cells sizes history ≡ xs ++ ys → (front : List TouchBy) × (back : List TouchBy) × (history ≡ front ++ back) × (in_cells sizes back ≡ ys)
cells_cut sizes [] ys history e = ([], history, refl, e)
cells_cut sizes (x ∷ xs) ys [] e = absurd (cc e)
cells_cut sizes (x ∷ xs) ys (t ∷ history) e =
    let rest : in_cells sizes history ≡ xs ++ ys = cc e in
    let r = cells_cut sizes xs ys history rest in
    (t ∷ r.0, r.1, ap (λ (l : List TouchBy). t ∷ l) r.2, r.3)

-- a page that isn't flushed is not closed
not_closed : (sizes : Sizes) (A : List Step) (p : ℕ) → 0 < sizes.page_size → IsAccepted sizes A → (((p + 1) * sizes.page_size ≤ closed A) → ⊥) → closed A ≤ p * sizes.page_size
not_closed sizes A p page_some ok unflushed =
    let is : closed A ≡ closed A / sizes.page_size * sizes.page_size = omega (arith, div-add-mod' (closed A) sizes.page_size, closed-whole sizes A ok) in
    ⊎_elim
    (λ (lt : p < closed A / sizes.page_size).
    let more : (p + 1) * sizes.page_size ≤ closed A / sizes.page_size * sizes.page_size = mul-le-mul_right sizes.page_size (omega (arith, lt)) in
    absurd (unflushed (omega (arith, more, is))))
    (λ (ge : closed A / sizes.page_size ≤ p). let more : closed A / sizes.page_size * sizes.page_size ≤ p * sizes.page_size = mul-le-mul_right sizes.page_size ge in omega (arith, more, is))
    (cases_lt p (closed A / sizes.page_size))

-- Where a word of an image was loaded: its address is open there
pub record IsLoadedAt {F : Type 0} (sizes : Sizes) (riders : List RiderState) (ending : EndingState F) (page k v : ℕ) (image : List ℕ) (i : IsImaged sizes riders ending page image) (history : List TouchBy) : Type 0 where
  pub newer : List TouchBy
  pub before : List TouchBy
  pub parts : history ≡ newer ++ before
  pub finds : v ≡ held (cell_at sizes (page * sizes.page_size + k)) (in_cells sizes before)
  pub calls : HasCalls (map (λ (q : RiderState). q.view) riders) (length i.list + 1) (in_cells sizes before)
  pub no_calls : HasNoCalls (map (λ (q : RiderState). q.view) riders) (length i.later) (in_cells sizes before)
  pub is_open : OpenThere sizes (i.ends.steps_cut ++ ending.journal) (map (λ (q : RiderState). q.view) riders) (page * sizes.page_size + k) before

pub loaded_at : (F : Type 0) (sizes : Sizes) (riders : List RiderState) (ending : EndingState F) (page k v : ℕ) (image : List ℕ) (i : IsImaged sizes riders ending page image) → 0 < sizes.page_size → 0 < sizes.frames → (history : List TouchBy)
    → IsHistory sizes (i.ends.steps_cut ++ ending.journal) riders i.ends.ruled.rule.order.0 history → slice_get image k ≡ Some v → IsLoadedAt sizes riders ending page k v image i history
loaded_at F sizes riders ending page k v image i page_some frames_some history its there_is =
    let whole = i.ends.steps_cut ++ ending.journal in
    let views = map (λ (q : RiderState). q.view) riders in
    let inside : k < sizes.page_size = omega (arith, slice_get_within image k v there_is, i.places) in
    let a = page * sizes.page_size + k in
    let cell = first_cell sizes page + k in
    let accepted = i.ends.accepted in
    let m = i.words k v there_is in
    let load = by_rider i.copier (Loaded cell v) in
    let parts = its.cells ∙ m.1.whole ∙ sym (append_assoc m.1.newer (load ∷ []) m.0) in
    let s = cells_cut sizes (m.1.newer ++ load ∷ []) m.0 history parts in
    let calls = subst (HasCalls views (length i.list + 1)) (sym s.3) m.2 in
    let no_calls = subst (HasNoCalls views (length i.later)) (sym s.3) m.3 in
    let bA : Begins i.list whole = shorter sizes whole page_some frames_some accepted i.list (FlushTake ∷ []) i.take in
    let okA = begun sizes whole page_some frames_some accepted i.list bA in
    let at_take = sealed sizes whole page_some frames_some accepted page k inside i.list i.later i.taken i.take i.done in
    let end : (page + 1) * sizes.page_size ≡ page * sizes.page_size + sizes.page_size = omega arith in
    let below : a < tail sizes i.list = omega (arith, at_take, end, inside, safe_read_only-le-read_only sizes i.list okA, read_only-le-tail sizes i.list page_some okA) in
    let bl = at_later sizes whole page_some frames_some accepted page i.later i.done in
    let ok_later = begun sizes whole page_some frames_some accepted i.later bl in
    let later2 = i.later ++ FlushDone page true ∷ [] in
    let same : closed later2 ≡ closed i.later = ap (λ (x : Six). x.closed) ((offsets_follow sizes i.later ok_later).flush_done page true) in
    let low = not_closed sizes i.later page page_some ok_later
    (λ e. both_ways _ (not_yet sizes whole page_some frames_some accepted page i.later i.done) (closed_flushed sizes i.later page page_some ok_later e)) in
    let open_there : closed later2 ≤ a = omega (arith, same, low) in
    let none : HasNoneLeft views (length later2) (in_cells sizes s.1) =
    λ j met left q newer past at is more.
    let w = whose_view riders j q at in
    let of : IsOf whole w.0.calls = of_one_list whole riders i.ends.one_list j w.0 w.1 in
    let tied : AreTied (newer ++ Called met left ∷ past) w.0.calls = subst (λ (l : List Touch). AreTied l w.0.calls) (ap (λ (z : RiderView). z.touches) w.2 ∙ is) (tied_of riders i.ends.tied j w.0 w.1) in
    let c = call_at (λ (e : Entry). Begins (left_by e) whole × IsOneCall e.steps) newer met left past w.0.calls tied (every_both (λ (e : Entry). Begins (left_by e) whole) (λ (e : Entry). IsOneCall e.steps) w.0.calls of.begins (its.each j w.0 w.1).calls) in
    no_calls j met left q newer past at is
    (⊎_elim
    (λ (lt : length i.later < length c.0.before). omega (arith, lt, c.1))
    (λ (ge : length c.0.before ≤ length i.later).
    let short = low_last sizes whole page_some frames_some accepted i.later (FlushDone page true) refl refl i.done c.0 c.3.0 c.3.1 ge in
    absurd (omega (arith, short, more, c.2, length-append i.later (FlushDone page true ∷ []))))
    (cases_lt (length i.later) (length c.0.before))) in
    record {
      newer = s.0;
      before = s.1;
      parts = s.2;
      finds = m.1.finds ∙ ap (held cell) (sym s.3) ∙ ap (λ (d : ℕ). held d (in_cells sizes s.1)) (sym (cell_of_place sizes page k inside));
      calls = calls;
      no_calls = no_calls;
      is_open = record {
        list = i.list;
        later = later2;
        begins = bA;
        ends = i.done;
        below = below;
        unclosed = open_there;
        grown = λ j met left q newer past at is grew few. calls j met left q newer past at is (omega (arith, few));
        none_left = none;
      };
    }

pub images_are_memory : (F : Type 0) → ImagesAreMemory F
images_are_memory F sizes riders ending page k v image i page_some frames_some history its there_is =
    let l = loaded_at F sizes riders ending page k v image i page_some frames_some history its there_is in
    (l.newer, l.before, l.parts, l.finds ∙ open_cell F sizes riders ending i.ends page_some frames_some history l.newer l.before its l.parts (page * sizes.page_size + k) l.is_open, l.calls, l.no_calls)
