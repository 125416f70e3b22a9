-- What the words of an image are.
use Rattle.std.proofs.Common.{◌≡◌, ◌≢◌, ℕ, ◌+◌, ◌*◌, ◌<◌, ◌⊎◌, List, [], ◌∷◌, ◌++◌, map, Some, None, slice_get, ap, sym, ◌∙◌, inl, inr, ⊎_elim, subst, arith, append_assoc}
use Rattle.std.proofs.lemmas.Bool.{cases_eq}
use Rattle.std.proofs.lemmas.List.{append-nil}
use Rattle.std.proofs.lemmas.Option.{slice_get_within}
use Rattle.hl_model.specs.Sizes.{Sizes}
use Rattle.hl_history.specs.declared.view.Entry.{Entry}
use Rattle.hl_words.specs.Rule.{last_store, TouchBy, by_rider, touches_of}
use Rattle.hl_words.specs.States.{RiderState}
use Rattle.hl_words.proofs.Cut.{every_at}
use Rattle.hl_keeper.specs.Endings.{EndingState}
use Rattle.hl_images.specs.Images.{IsImaged}
use Rattle.hl_images.specs.Writes.{CallsWriteNothing, LastWrites}
use Rattle.hl_images.proofs.WordLaws.{calls_at, whose_calls}
use Rattle.hl_memory.specs.Acts.{IsHistory}
use Rattle.hl_memory.specs.Images.{ImagesAreWords, ImagesAreZero, ImagesAreWrites}
use Rattle.hl_memory.proofs.ActLaws.{HasNoneAt, HasAt, has_at}
use Rattle.hl_memory.proofs.EndLaws.{images_are_memory}
use Rattle.hl_memory.proofs.OpenLaws.{whose_act}
use Rattle.hl_memory.proofs.WordLaws.{newest_call, newest_word, none_wrote}
use Rattle.hl_memory.proofs.WrittenLaws.{written_by, silent_calls, last_calls, newest_write}

some_none : (v : ℕ) → Some v ≡ None → ⊥
some_none v e = absurd (cc e)

some_same : (v w : ℕ) → Some v ≡ Some w → v ≡ w
some_same v w e = cc e

-- calls that write nothing at an address, and others
pub none_by : (a : ℕ) (calls : List Entry) → CallsWriteNothing a calls → written_by a calls ≡ None
none_by a calls none = sym (ap (written_by a) (append-nil calls)) ∙ silent_calls a calls [] none

by_none : (a : ℕ) (calls : List Entry) → written_by a calls ≡ None → CallsWriteNothing a calls
by_none a calls e =
    ⊎_elim (λ (none : CallsWriteNothing a calls). none) (λ (l : (v : ℕ) × LastWrites a v calls). absurd (some_none l.0 (sym (last_calls a l.0 calls l.1) ∙ e))) (newest_call a calls)

by_some : (a v : ℕ) (calls : List Entry) → written_by a calls ≡ Some v → LastWrites a v calls
by_some a v calls e =
    ⊎_elim
    (λ (none : CallsWriteNothing a calls). absurd (some_none v (sym e ∙ none_by a calls none)))
    (λ (l : (w : ℕ) × LastWrites a w calls). subst (λ (w : ℕ). LastWrites a w calls) (some_same l.0 v (sym (last_calls a l.0 calls l.1) ∙ e)) l.1)
    (newest_call a calls)

-- a word of an image is 0 where no rider wrote there, or some rider's newest write
abbrev IsWritten : List RiderState → ℕ → ℕ → Type 0
IsWritten riders a v = ((v ≡ 0) × ((l : ℕ) (q : RiderState) → slice_get riders l ≡ Some q → CallsWriteNothing a q.calls))
    ⊎ ((l : ℕ) × (q : RiderState) × (slice_get riders l ≡ Some q) × LastWrites a v q.calls)

is_written : (F : Type 0) (sizes : Sizes) (riders : List RiderState) (ending : EndingState F) (page k v : ℕ) (image : List ℕ) (i : IsImaged sizes riders ending page image) → 0 < sizes.page_size → 0 < sizes.frames → (history : List TouchBy)
    → IsHistory sizes (i.ends.steps_cut ++ ending.journal) riders i.ends.ruled.rule.order.0 history → slice_get image k ≡ Some v → IsWritten riders (page * sizes.page_size + k) v
is_written F sizes riders ending page k v image i page_some frames_some history its here =
    let a = page * sizes.page_size + k in
    let inside : k < sizes.page_size = omega (arith, slice_get_within image k v here, i.places) in
    let m = images_are_memory F sizes riders ending page k v image i page_some frames_some history its here in
    let before = m.1 in
    let wrote : (j : ℕ) (r : RiderState) → slice_get riders j ≡ Some r → last_store a (touches_of j before) ≡ written_by a r.calls =
    newest_write F sizes riders ending page k image i page_some frames_some inside history m.0 before its m.2 m.4 m.5 in
    ⊎_elim
    (λ (none : HasNoneAt a before). inl (m.3 ∙ none.0, λ l q at. by_none a q.calls (sym (wrote l q at) ∙ none.1 l)))
    (λ (h : HasAt a before).
    let all : history ≡ (m.0 ++ h.front) ++ by_rider h.rider h.act ∷ h.base = m.2 ∙ ap (λ (l : List TouchBy). m.0 ++ l) h.whole ∙ sym (append_assoc m.0 h.front (by_rider h.rider h.act ∷ h.base)) in
    let r = whose_act F sizes riders ending i.ends page_some frames_some history its h.rider (m.0 ++ h.front) h.base h.act all in
    let value : h.value ≡ v = sym h.held_is ∙ sym m.3 in
    inr (h.rider, r.0, r.1, by_some a v r.0.calls (sym (wrote h.rider r.0 r.1) ∙ h.last_is ∙ ap (λ (x : ℕ). Some x) value)))
    (has_at a before)

pub images_are_zero : (F : Type 0) → ImagesAreZero F
images_are_zero F sizes riders ending page k v image i page_some frames_some history its silent here =
    let a = page * sizes.page_size + k in
    ⊎_elim
    (λ (none : (v ≡ 0) × ((l : ℕ) (q : RiderState) → slice_get riders l ≡ Some q → CallsWriteNothing a q.calls)). none.0)
    (λ (w : (l : ℕ) × (q : RiderState) × (slice_get riders l ≡ Some q) × LastWrites a v q.calls).
    absurd (some_none v (sym (last_calls a v w.1.calls w.3) ∙ none_by a w.1.calls (every_at (λ (q : RiderState). CallsWriteNothing a q.calls) riders silent w.0 w.1 w.2))))
    (is_written F sizes riders ending page k v image i page_some frames_some history its here)

pub images_are_writes : (F : Type 0) → ImagesAreWrites F
images_are_writes F sizes riders ending page k v j image r i page_some frames_some history its at wrote here =
    let a = page * sizes.page_size + k in
    ⊎_elim
    (λ (none : (v ≡ 0) × ((l : ℕ) (q : RiderState) → slice_get riders l ≡ Some q → CallsWriteNothing a q.calls)). absurd (wrote (none.1 j r at)))
    (λ (w : (l : ℕ) × (q : RiderState) × (slice_get riders l ≡ Some q) × LastWrites a v q.calls). w)
    (is_written F sizes riders ending page k v image i page_some frames_some history its here)

pub images_are_words : (F : Type 0) → ImagesAreWords F
images_are_words F sizes riders ending page k v j image i page_some frames_some history its others here =
    let whole = i.ends.steps_cut ++ ending.journal in
    let a = page * sizes.page_size + k in
    ⊎_elim
    (λ (none : (v ≡ 0) × ((l : ℕ) (q : RiderState) → slice_get riders l ≡ Some q → CallsWriteNothing a q.calls)). none.0 ∙ sym (none_wrote a whole riders i.ends.one_list none.1))
    (λ (w : (l : ℕ) × (q : RiderState) × (slice_get riders l ≡ Some q) × LastWrites a v q.calls).
    let e = w.3 in
    let is_one : (l : ℕ) (q : RiderState) → slice_get riders l ≡ Some q → l ≢ w.0 → CallsWriteNothing a q.calls =
    λ l q at apart. others l q at (λ same.
    ⊎_elim
    (λ (own : w.0 ≡ j). apart (same ∙ sym own))
    (λ (other : w.0 ≢ j). some_none v (sym (last_calls a v w.1.calls e) ∙ none_by a w.1.calls (others w.0 w.1 w.2 other)))
    (cases_eq w.0 j)) in
    let nobody : (l : ℕ) (q : List Entry) → slice_get (map (λ (z : RiderState). z.calls) riders) l ≡ Some q → l ≢ w.0 → CallsWriteNothing a q =
    λ l q at apart. let x = whose_calls riders l q at in subst (CallsWriteNothing a) x.2 (is_one l x.0 x.1 apart) in
    sym (newest_word a v e.slot w.0 whole (map (λ (z : RiderState). z.calls) riders) w.1.calls e.newer e.call e.earlier e.first e.rest i.ends.one_list (calls_at riders w.0 w.1 w.2) e.calls_are e.none e.steps e.silent nobody))
    (is_written F sizes riders ending page k v image i page_some frames_some history its here)
