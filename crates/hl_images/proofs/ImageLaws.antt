-- What a rider flushed is an image.
use Rattle.std.proofs.Common.{◌≡◌, ℕ, ◌+◌, true, List, [], ◌∷◌, ◌++◌, map, Some, slice_get, refl, ap, sym, ◌∙◌, subst, append_assoc}
use Rattle.std.specs.List.{AllByRecursion as Every}
use Rattle.hl_model.specs.declared.step.Step.{Step}
use Rattle.hl_model.specs.declared.step.Step.TheVariants.{FlushTake, FlushDone}
use Rattle.hl_model.specs.Sizes.{Sizes}
use Rattle.hl_history.specs.declared.view.Entry.{Entry}
use Rattle.hl_history.specs.Lists.{Begins, entry, left_by, IsOf, IsOneList}
use Rattle.hl_words.specs.declared.view.Touch.{Touch}
use Rattle.hl_words.specs.declared.view.Touch.TheVariants.{Loaded, Called}
use Rattle.hl_words.specs.declared.view.RiderView.{RiderView}
use Rattle.hl_words.specs.States.{RiderState, with_view, extent_met, extent_left}
use Rattle.hl_words.proofs.Cut.{every_at, every_back}
use Rattle.hl_words.proofs.PastProofs.{loads_between_own}
use Rattle.hl_keeper.specs.Pages.{first_cell, loaded_all}
use Rattle.hl_keeper.specs.Endings.{EndingState}
use Rattle.hl_domain.specs.Domains.{IsEnding, with_entry}
use Rattle.hl_images.specs.Flushes.{HasFlushed, CopiedStays, FlushedStays, FlushedIsImaged}
use Rattle.hl_images.specs.Images.{IsImaged}
use Rattle.hl_images.specs.Later.{IsLater}
use Rattle.hl_images.proofs.LaterLaws.{has_load, still, loads, call}
use Rattle.hl_images.proofs.WordLaws.{calls_at, view_at}

-- the one list begins with what a call of a rider left
pub begins_by : (whole : List Step) (riders : List RiderState) (i : ℕ) (r old : RiderState) (was now : ℕ) (list steps : List Step) → IsOneList whole (map (λ (q : RiderState). q.calls) riders) → slice_get riders i ≡ Some r
    → IsLater (with_entry was now list steps old) r → Begins (list ++ steps) whole
begins_by whole riders i r old was now list steps one at later =
    let of : IsOf whole r.calls = every_at (IsOf whole) (map (λ (q : RiderState). q.calls) riders) one.each i r.calls (calls_at riders i r at) in
    let all = subst (Every (λ (e : Entry). Begins (left_by e) whole)) later.calls of.begins in
    (every_back (λ (e : Entry). Begins (left_by e) whole) later.more (entry list steps ∷ old.calls) all).0

pub copied_stays : CopiedStays
copied_stays sizes page image list old new h more =
    record {
      taken = h.taken;
      places = h.places;
      before = h.before;
      was = h.was;
      now = h.now;
      copying = h.copying;
      take = h.take;
      copy = still (with_view (loaded_all (first_cell sizes page) image h.copying.view) h.copying) old new h.copy more;
    }

pub flushed_stays : FlushedStays
flushed_stays sizes page image old new h more =
    record {
      list = h.list;
      later = h.later;
      answering = h.answering;
      had = h.had;
      has = h.has;
      copied = h.copied;
      done = still (with_entry h.had h.has h.later (FlushDone page true ∷ []) h.answering) old new h.done more;
    }

-- one load of a rider's copy among its touches, with one touch that stands before the copy
pub copy_touches : (cell n v : ℕ) (image : List ℕ) (t : Touch) (before copying answering : RiderView) (since rest newer between : List Touch) → copying.touches ≡ since ++ t ∷ before.touches
    → answering.touches ≡ rest ++ (loaded_all cell image copying).touches → (loaded_all cell image copying).touches ≡ newer ++ Loaded (cell + n) v ∷ (between ++ copying.touches)
    → answering.touches ≡ (rest ++ newer) ++ Loaded (cell + n) v ∷ ((between ++ since) ++ t ∷ before.touches)
copy_touches cell n v image t before copying answering since rest newer between a b l =
    let own : between ++ copying.touches ≡ (between ++ since) ++ t ∷ before.touches = ap (λ (x : List Touch). between ++ x) a ∙ sym (append_assoc between since (t ∷ before.touches)) in
    let made : (loaded_all cell image copying).touches ≡ newer ++ Loaded (cell + n) v ∷ ((between ++ since) ++ t ∷ before.touches) = l ∙ ap (λ (x : List Touch). newer ++ Loaded (cell + n) v ∷ x) own in
    b ∙ ap (λ (x : List Touch). rest ++ x) made ∙ sym (append_assoc rest newer (Loaded (cell + n) v ∷ ((between ++ since) ++ t ∷ before.touches)))

-- the image of a page that a rider flushed, by this ending
pub flushed_by : (F : Type 0) (sizes : Sizes) (riders : List RiderState) (ending : EndingState F) (i page : ℕ) (image : List ℕ) (r : RiderState) (ends : IsEnding sizes riders ending) → slice_get riders i ≡ Some r → HasFlushed sizes page image r → (imaged : IsImaged sizes riders ending page image) × (imaged.ends ≡ ends)
flushed_by F sizes riders ending i page image r ends at h =
    let c = h.copied in
    let whole = ends.steps_cut ++ ending.journal in
    let views = map (λ (q : RiderState). q.view) riders in
    let cell = first_cell sizes page in
    let take = entry h.list (FlushTake ∷ []) in
    let done = entry h.later (FlushDone page true ∷ []) in
    let first = with_entry c.was c.now h.list (FlushTake ∷ []) c.before in
    let copied = with_view (loaded_all cell image c.copying.view) c.copying in
    let last = with_entry h.had h.has h.later (FlushDone page true ∷ []) h.answering in
    let since_copy = still copied h.answering last c.copy (call h.had h.has h.later (FlushDone page true ∷ []) h.answering) in
    let since_take : IsLater first copied = still first c.copying copied c.take (loads cell image c.copying) in (
      record {
        ends = ends;
        list = h.list;
        later = h.later;
        taken = c.taken;
        take = begins_by whole riders i r c.before c.was c.now h.list (FlushTake ∷ []) ends.one_list at (still first copied r since_take (still copied last r since_copy h.done));
        done = begins_by whole riders i r h.answering h.had h.has h.later (FlushDone page true ∷ []) ends.one_list at h.done;
        copier = i;
        places = c.places;
        words = λ n v there.
            let l = has_load cell image c.copying.view n v there in
            loads_between_own _ _ _ views i (cell + n) v (extent_met c.was take) (extent_left c.now take) (extent_met h.had done) (extent_left h.has done) r.view h.done.touches.0 (c.copy.touches.0 ++ l.newer) (l.between ++ c.take.touches.0) c.before.view.touches
            ends.ruled.rule (view_at riders i r at)
            (h.done.touches.1 ∙ ap (λ (x : List Touch). h.done.touches.0 ++ Called (extent_met h.had done) (extent_left h.has done) ∷ x)
            (copy_touches cell n v image (Called (extent_met c.was take) (extent_left c.now take)) c.before.view c.copying.view h.answering.view c.take.touches.0 c.copy.touches.0 l.newer l.between c.take.touches.1 c.copy.touches.1 l.touches));
      },
      refl,
    )

pub flushed_is_imaged : (F : Type 0) → FlushedIsImaged F
flushed_is_imaged F sizes riders ending i page image r ends at h = (flushed_by F sizes riders ending i page image r ends at h).0
