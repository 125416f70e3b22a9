-- What two riders flushed is an image.
use Rattle.std.proofs.Common.{◌≡◌, ℕ, ◌+◌, true, List, [], ◌∷◌, ◌++◌, length, map, ap, sym, ◌∙◌}
use Rattle.hl_model.specs.declared.step.Step.TheVariants.{FlushTake, FlushDone}
use Rattle.hl_history.specs.Lists.{entry}
use Rattle.hl_words.specs.declared.view.Touch.{Touch}
use Rattle.hl_words.specs.declared.view.Touch.TheVariants.{Loaded, Called, Met}
use Rattle.hl_words.specs.declared.view.RiderView.{RiderView}
use Rattle.hl_words.specs.States.{RiderState, with_view, extent_met, extent_left}
use Rattle.hl_words.specs.Views.{past_of, told}
use Rattle.hl_words.proofs.PastProofs.{loads_between}
use Rattle.hl_keeper.specs.Pages.{first_cell, loaded_all}
use Rattle.hl_domain.specs.Domains.{with_entry}
use Rattle.hl_images.specs.Later.{IsLater}
use Rattle.hl_images.specs.Pairs.{FlushedByTwoStays, FlushedByTwoIsImaged}
use Rattle.hl_images.proofs.ImageLaws.{begins_by, copy_touches}
use Rattle.hl_images.proofs.WordLaws.{view_at}
use Rattle.hl_images.proofs.LaterLaws.{has_load, still, touch, call}

pub flushed_by_two_stays : FlushedByTwoStays
flushed_by_two_stays sizes page image flusher copier f c h mine theirs =
    record {
      list = h.list;
      later = h.later;
      taking = h.taking;
      take = h.take;
      telling = h.telling;
      copy = h.copy;
      since = still h.telling copier c h.since theirs;
      waiting = h.waiting;
      wait = h.wait;
      answering = h.answering;
      tell = h.tell;
      had = h.had;
      has = h.has;
      done = still (with_entry h.had h.has h.later (FlushDone page true ∷ []) h.answering) flusher f h.done mine;
    }

-- one load of the copy, with what the copier was told before it
copier_touches : (cell n v : ℕ) (image : List ℕ) (t f : RiderView) (asked copying telling : RiderView) (since rest newer between : List Touch) → f.name ≡ t.name
    → copying.touches ≡ since ++ (told (past_of t) asked).touches → telling.touches ≡ rest ++ (loaded_all cell image copying).touches
    → (loaded_all cell image copying).touches ≡ newer ++ Loaded (cell + n) v ∷ (between ++ copying.touches)
    → telling.touches ≡ (rest ++ newer) ++ Loaded (cell + n) v ∷ ((between ++ since) ++ Met f.name (length t.touches) ∷ asked.touches)
copier_touches cell n v image t f asked copying telling since rest newer between name a b l =
    copy_touches cell n v image (Met f.name (length t.touches)) asked copying telling since rest newer between (a ∙ ap (λ (x : ℕ). since ++ Met x (length t.touches) ∷ asked.touches) (sym name)) b l

-- the flusher's touches round what it was told
flusher_touches : (t a w f copied c : RiderView) (d begun : Touch) (first oldest more middle newest own : List Touch) → c.name ≡ copied.name → copied.touches ≡ own → t.touches ≡ first ++ begun ∷ oldest
    → w.touches ≡ more ++ t.touches → a.touches ≡ middle ++ (told (past_of copied) w).touches → f.touches ≡ newest ++ d ∷ a.touches
    → f.touches ≡ newest ++ d ∷ (middle ++ Met c.name (length own) ∷ (more ++ (first ++ begun ∷ oldest)))
flusher_touches t a w f copied c d begun first oldest more middle newest own name is starts waits tells done =
    let met : Met copied.name (length copied.touches) ≡ Met c.name (length own) = ap (λ (x : ℕ). Met x (length copied.touches)) (sym name) ∙ ap (λ (x : List Touch). Met c.name (length x)) is in
    let rest : w.touches ≡ more ++ (first ++ begun ∷ oldest) = waits ∙ ap (λ (x : List Touch). more ++ x) starts in
    done ∙ ap (λ (x : List Touch). newest ++ d ∷ x) tells ∙ ap (λ (x : Touch). newest ++ d ∷ (middle ++ x ∷ w.touches)) met
    ∙ ap (λ (x : List Touch). newest ++ d ∷ (middle ++ Met c.name (length own) ∷ x)) rest

pub flushed_by_two_is_imaged : (F : Type 0) → FlushedByTwoIsImaged F
flushed_by_two_is_imaged F sizes riders ending i k page image flusher copier ends ati atk h =
    let t = h.take in
    let c = h.copy in
    let whole = ends.steps_cut ++ ending.journal in
    let views = map (λ (q : RiderState). q.view) riders in
    let cell = first_cell sizes page in
    let take = entry h.list (FlushTake ∷ []) in
    let done = entry h.later (FlushDone page true ∷ []) in
    let first = with_entry t.was t.now h.list (FlushTake ∷ []) t.before in
    let begun = Called (extent_met t.was take) (extent_left t.now take) in
    let ended = Called (extent_met h.had done) (extent_left h.has done) in
    let asked = with_view (told (past_of h.taking.view) c.asked.view) c.asked in
    let back = with_view (told (past_of h.telling.view) h.waiting.view) h.waiting in
    let last = with_entry h.had h.has h.later (FlushDone page true ∷ []) h.answering in
    let copied = with_view (loaded_all cell image c.copying.view) c.copying in
    let since_take : IsLater h.taking flusher = still h.taking h.waiting flusher h.wait (still h.waiting back flusher (touch (Met h.telling.view.name (length h.telling.view.touches)) h.waiting)
    (still back h.answering flusher h.tell (still h.answering last flusher (call h.had h.has h.later (FlushDone page true ∷ []) h.answering) h.done))) in
    let told_name : flusher.view.name ≡ h.taking.view.name = since_take.name in
    record {
      ends = ends;
      list = h.list;
      later = h.later;
      taken = t.taken;
      take = begins_by whole riders k flusher t.before t.was t.now h.list (FlushTake ∷ []) ends.one_list atk (still first h.taking flusher t.take since_take);
      done = begins_by whole riders k flusher h.answering h.had h.has h.later (FlushDone page true ∷ []) ends.one_list atk h.done;
      copier = i;
      places = c.places;
      words = λ n v there.
          let l = has_load cell image c.copying.view n v there in
          let newer = c.copy.touches.0 ++ l.newer in
          let between = l.between ++ c.tell.touches.0 in
          let taken = t.take.touches.0 ++ begun ∷ t.before.view.touches in
          let own = newer ++ Loaded (cell + n) v ∷ (between ++ Met flusher.view.name (length taken) ∷ c.asked.view.touches) in
          let at_load : h.telling.view.touches ≡ newer ++ Loaded (cell + n) v ∷ (between ++ Met flusher.view.name (length h.taking.view.touches) ∷ c.asked.view.touches) =
          copier_touches cell n v image h.taking.view flusher.view c.asked.view c.copying.view h.telling.view c.tell.touches.0 c.copy.touches.0 l.newer l.between told_name c.tell.touches.1 c.copy.touches.1 l.touches in
          let is : h.telling.view.touches ≡ own = at_load ∙ ap (λ (x : List Touch). newer ++ Loaded (cell + n) v ∷ (between ++ Met flusher.view.name (length x) ∷ c.asked.view.touches)) t.take.touches.1 in
          loads_between _ _ _ views i k (cell + n) v (extent_met t.was take) (extent_left t.now take) (extent_met h.had done) (extent_left h.has done) copier.view flusher.view h.since.touches.0 between c.asked.view.touches newer t.take.touches.0 h.done.touches.0 h.tell.touches.0 h.wait.touches.0 t.before.view.touches
          ends.ruled.rule (view_at riders i copier ati) (view_at riders k flusher atk)
          (h.since.touches.1 ∙ ap (λ (x : List Touch). h.since.touches.0 ++ x) is)
          (flusher_touches h.taking.view h.answering.view h.waiting.view flusher.view h.telling.view copier.view ended begun t.take.touches.0 t.before.view.touches h.wait.touches.0 h.tell.touches.0 h.done.touches.0 own h.since.name is t.take.touches.1 h.wait.touches.1 h.tell.touches.1 h.done.touches.1);
    }
