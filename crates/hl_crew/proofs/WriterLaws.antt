-- What a writer's calls do leaves it so that each page that its rider flushed is imaged.
use Rattle.std.proofs.Common.{◌≡◌, ◌≢◌, ℕ, zero, suc, Bool, true, false, List, [], ◌∷◌, ◌++◌, Some, refl, sym, ap, ◌∙◌, subst, inl, inr}
use Rattle.std.specs.Prelude.{Result, Ok, Err, ◌&&◌, ◌||◌, ◌==◌}
use Rattle.std.specs.List.{AllByRecursion, list_any}
use Rattle.std.proofs.lemmas.List.Folds.{list_any-append}
use Rattle.std.proofs.lemmas.Bool.{eqb-true}
use Rattle.hl_model.specs.declared.fault.Fault.{Fault}
use Rattle.hl_model.specs.declared.fault.Fault.TheVariants.{NoneSealed}
use Rattle.hl_model.specs.declared.step.Step.{Step}
use Rattle.hl_model.specs.declared.step.Step.TheVariants.{FlushTake, FlushDone}
use Rattle.hl_model.specs.Pages.{flushes, flushing, marks, is_complete, next_to_flush}
use Rattle.hl_model.specs.Sizes.{Sizes}
use Rattle.hl_laws.proofs.WorkLaws.{next_page-parts}
use Rattle.hl_history.specs.declared.view.Entry.{Entry}
use Rattle.hl_history.specs.Lists.{Begins, left_by}
use Rattle.hl_image.specs.Image.{image}
use Rattle.hl_words.specs.States.{RiderState}
use Rattle.hl_keeper.specs.Calls.{step_fault, room_fault}
use Rattle.hl_keeper.specs.declared.load.PageJob.{PageJob}
use Rattle.hl_domain.specs.Domains.{DomainState, with_entry}
use Rattle.hl_images.specs.Flushes.{HasCopied, HasFlushed}
use Rattle.hl_images.specs.Later.{IsLater}
use Rattle.hl_images.proofs.CopyLaws.{copied, answered_is_flushed}
use Rattle.hl_images.proofs.ImageLaws.{copied_stays, flushed_stays}
use Rattle.hl_images.proofs.LaterLaws.{same as is_same, still, call as later_call}
use Rattle.hl_crew.specs.declared.ends.Accepted.{Accepted}
use Rattle.hl_crew.specs.declared.messages.Over.{Over}
use Rattle.hl_crew.specs.declared.limits.Cuts.{Cuts}
use Rattle.hl_crew.specs.declared.limits.Limits.{Limits}
use Rattle.hl_crew.specs.declared.writer.WriterState.{WriterState}
use Rattle.hl_crew.specs.Overs.{makes_room}
use Rattle.hl_crew.specs.Pages.{Copies, CutsByRider, FlushesPage, Flushes, FlushesOne, Passes, FindsPage}
use Rattle.hl_crew.specs.Riders.{has_flushed, HasImages, KeepsOthers, WritesPage, FailsPage, WorksOn, WritesOn}
use Rattle.hl_crew.specs.Tries.{EndsFlush, TriesFor}
use Rattle.hl_crew.specs.Turns.{Loads}
use Rattle.hl_crew.specs.Works.{CopiesSent, LooksOn, WritesBy}
use Rattle.hl_crew.specs.Writes.{IsWritten, IsNotWritten}
use Rattle.hl_crew.proofs.RepeatLaws.{finds_hold, followed_holds, looks_hold}
use Rattle.hl_crew.proofs.RiderLaws.{failed_quiet, named, no_more, then, step_works, none_works, cut_works, loads_work, again_work, tries_work, room_cuts}

-- what holds of none of a list holds of none of a part
part_none : (f : Step → Bool) (xs ys zs : List Step) → list_any f ((xs ++ ys) ++ zs) ≡ false → list_any f ys ≡ false
part_none f xs ys zs none =
    by (list_any f xs) (list_any f ys) _ (sym (list_any-append f (xs ++ ys) zs ∙ ap (λ b. b || list_any f zs) (list_any-append f xs ys)) ∙ none)
  where
    by : (a b c : Bool) → ((a || b) || c) ≡ false → b ≡ false
    by true b c e = absurd cc
    by false true c e = absurd cc
    by false false c e = refl

-- a page that isn't flushed in a list was flushed by no call of it
none_flushed : (p : ℕ) (list : List Step) (calls : List Entry) → list_any (flushes p) list ≡ false → AllByRecursion (λ e. Begins (left_by e) list) calls → has_flushed p calls ≡ false
none_flushed p list [] none all = refl
none_flushed p list (e ∷ calls) none all =
    ap (λ b. b || has_flushed p calls) (part_none (flushes p) e.before e.steps all.0.0 (ap (list_any (flushes p)) (sym all.0.1) ∙ none)) ∙ none_flushed p list calls none all.1

-- a page that a rider takes was flushed by no call of its own
fresh_page : {F : Type 0} {domain : DomainState} (load : PageJob) (old taker : RiderState) → Loads F domain (Ok load) old taker → has_flushed load.page old.calls ≡ false
unfolding step_fault is_complete
fresh_page {domain = domain} load old taker t =
    let sizes = t.before.core.sizes in
    let next : next_to_flush sizes t.list ≡ Some load.page = named NoneSealed (λ p. record { stamp = t.before.stamp; page = p }) (λ (j : PageJob). j.page) (λ p. refl) (room_fault t.before 1) (next_to_flush sizes t.list) load (t.holds.0 t.list t.met.stands).reply in
    none_flushed load.page t.list old.calls (next_page-parts (flushing sizes) t.list (marks (flushing sizes) t.list) load.page next).1 t.rises.begins

-- the images of a rider that flushed a page more
more_images : {W : Type 0} (has : W → ℕ → List ℕ → Type 0) (sizes : Sizes) (page had now : ℕ) (words : List ℕ) (list later : List Step) (mid new : RiderState) (pages : W)
    → HasImages has sizes mid pages → HasCopied sizes page words list mid → has pages page (image page words) → new ≡ with_entry had now later (FlushDone page true ∷ []) mid → HasImages has sizes new pages
more_images has sizes page had now words list later mid new pages was copy there is p flushed =
    by (page == p) refl (ap (λ (r : RiderState). has_flushed p r.calls) (sym is) ∙ flushed)
  where
    late : IsLater mid new
    late = subst (λ (r : RiderState). IsLater mid r) (sym is) (later_call had now later (FlushDone page true ∷ []) mid)

    by : (b : Bool) → (page == p) ≡ b → (((b && true) || false) || has_flushed p mid.calls) ≡ true → (ws : List ℕ) × has pages p (image p ws) × HasFlushed sizes p ws new
    by true same e = subst (λ (q : ℕ). (ws : List ℕ) × has pages q (image q ws) × HasFlushed sizes q ws new) (eqb-true page p same) (words, there, answered_is_flushed sizes page had now words list later mid new copy is)
    by false apart e = let one = was p e in (one.0, one.1, flushed_stays sizes p one.0 mid new one.2 late)

module _ {L W : Type 0} (has : W → ℕ → List ℕ → Type 0) (cuts : Cuts) (serves : Bool) (sizes : Sizes) where
  pub writer_same : (old new : WriterState L W) → new ≡ old → WritesOn has cuts serves sizes old new
  writer_same old new same = subst (λ (s : WriterState L W). WritesOn has cuts serves sizes old s) (sym same) (record { later = is_same old.rider; sweeps = λ s. s; enters = λ h. h; makes = λ m. m; keeps = λ never c. c; images = λ serving is. is })

  pub writer_then : (old mid new : WriterState L W) → WritesOn has cuts serves sizes old mid → WritesOn has cuts serves sizes mid new → WritesOn has cuts serves sizes old new
  writer_then old mid new a b = record {
    later = still old.rider mid.rider new.rider a.later b.later;
    sweeps = λ s. b.sweeps (a.sweeps s);
    enters = λ h. b.enters (a.enters h);
    makes = λ m. b.makes (a.makes m);
    keeps = λ never c. b.keeps never (a.keeps never c);
    images = λ serving is. b.images serving (a.images serving is);
  }

  -- a rider that flushed no page, and what its writer has of pages but one, which it hadn't flushed before
  others_write : (q : ℕ) (old new : WriterState L W) → has_flushed q old.rider.calls ≡ false → WorksOn cuts serves sizes old.rider new.rider → KeepsOthers has q old.pages new.pages → WritesOn has cuts serves sizes old new
  others_write q old new fresh works others = record {
    later = works.later;
    sweeps = works.sweeps;
    enters = works.enters;
    makes = works.makes;
    keeps = works.keeps;
    images = λ serving is p flushed.
        let before : has_flushed p old.rider.calls ≡ true = sym (works.flushes serving p) ∙ flushed in
        let one = is p before in
        let apart : p ≢ q = λ same. absurd (let contrary : false ≡ true = sym fresh ∙ ap (λ (r : ℕ). has_flushed r old.rider.calls) (sym same) ∙ before in cc) in (
          one.0,
          others p (image p one.0) apart one.1,
          flushed_stays sizes p one.0 old.rider new.rider one.2 works.later,
        );
  }

  -- a rider that flushed no page, and a writer that is the same
  pub rider_writes : (old new : WriterState L W) → WorksOn cuts serves sizes old.rider new.rider → new.pages ≡ old.pages → WritesOn has cuts serves sizes old new
  rider_writes old new works pages = record {
    later = works.later;
    sweeps = works.sweeps;
    enters = works.enters;
    makes = works.makes;
    keeps = works.keeps;
    images = λ serving is p flushed.
        let one = is p (sym (works.flushes serving p) ∙ flushed) in (
          one.0,
          subst (λ (w : W). has w p (image p one.0)) (sym pages) one.1,
          flushed_stays sizes p one.0 old.rider new.rider one.2 works.later,
        );
  }

module _ {W : Type 0} (has : W → ℕ → List ℕ → Type 0) (cuts : Cuts) (serves : Bool) (sizes : Sizes) where
  -- what a writer did to a page that it tells as written, or as failed
  written_works : (wrote : W → ℕ → List ℕ → W → Type 0) (job : PageJob) (old new : RiderState) (before after : W) → IsWritten wrote sizes job old new before after → WorksOn cuts serves sizes old new
  written_works wrote job old new before after is = loads_work cuts serves sizes job.page is.words old new is.places is.loaded

  unwritten_works : (failed : W → ℕ → List ℕ → W → Type 0) (failures : W → ℕ) (job : PageJob) (old new : RiderState) (before after : W) → IsNotWritten (FailsPage has failed) failures sizes job old new before after
      → WorksOn cuts serves sizes old new × KeepsOthers has job.page before after
  unwritten_works failed failures job old new before after (inl (same, pages)) = (no_more cuts serves sizes old new same, λ other bytes apart there. subst (λ (w : W). has w other bytes) (sym pages) there)
  unwritten_works failed failures job old new before after (inr (more, is)) = (written_works (FailsPage has failed) job old new before after is, is.written.1)

  copies_work : (wrote failed : W → ℕ → List ℕ → W → Type 0) (failures : W → ℕ) (lets : ℕ → Type 0) (ok : Bool) (job : PageJob) (old new : RiderState) (before after : W) → Copies lets (WritesPage has wrote) (FailsPage has failed) failures sizes ok job old new before after
      → WorksOn cuts serves sizes old new × KeepsOthers has job.page before after
  copies_work wrote failed failures lets true job old new before after (let_in, is) = (written_works (WritesPage has wrote) job old new before after is, is.written.2)
  copies_work wrote failed failures lets false job old new before after is = unwritten_works failed failures job old new before after is

-- a writer that takes its pages itself
module _ {L W : Type 0} (has : W → ℕ → List ℕ → Type 0) (cuts : Cuts) (serves : Bool) (F : Type 0) (domain : DomainState) (limits : Limits) (lets : ℕ → Type 0)
    (wrote failed : W → ℕ → List ℕ → W → Type 0) (failures : W → ℕ) where
  abbrev Works : WriterState L W → WriterState L W → Type 0
  Works old new = WritesOn has cuts serves domain.sizes old new

  -- a page that was answered as flushed
  done_works : (page stamp : ℕ) (words : List ℕ) (list : List Step) (result : Result Accepted Over) (old new : WriterState L W) → HasCopied domain.sizes page words list old.rider → has old.pages page (image page words) → new.pages ≡ old.pages
      → TriesFor F domain (makes_room cuts) (EndsFlush F domain page true stamp) result old.rider new.rider → Works old new
  done_works page stamp words list result old new copy there pages (answer, told, tries) =
      writer_then has cuts serves domain.sizes old mid new (rider_writes has cuts serves domain.sizes old mid again refl) (by answer tries.answered)
    where
      mid : WriterState L W
      mid = record old { rider = tries.last }

      again : WorksOn cuts serves domain.sizes old.rider tries.last
      again = again_work cuts serves domain.sizes F domain (makes_room cuts) (room_cuts cuts) (EndsFlush F domain page true stamp) (λ (a b : RiderState) refused. none_works cuts serves domain.sizes a b refused (λ never. refused.holds.1.0.cut)) tries.before old.rider tries.last tries.again

      ends : (answer : Result ℕ Fault) → EndsFlush F domain page true stamp answer tries.last new.rider → WorksOn cuts false domain.sizes tries.last new.rider
      ends answer done = step_works cuts false domain.sizes (FlushDone page true) answer tries.last new.rider done done.holds.1.0.cut (refl, refl, refl) (λ serving. absurd cc)

      by : (answer : Result ℕ Fault) → EndsFlush F domain page true stamp answer tries.last new.rider → Works mid new
      by (Err fault) done = rider_writes has cuts serves domain.sizes mid new (none_works cuts serves domain.sizes tries.last new.rider done (λ never. done.holds.1.0.cut)) pages
      by (Ok x) done = record {
        later = (ends (Ok x) done).later;
        sweeps = (ends (Ok x) done).sweeps;
        enters = (ends (Ok x) done).enters;
        makes = (ends (Ok x) done).makes;
        keeps = (ends (Ok x) done).keeps;
        images = λ serving is. subst (HasImages has domain.sizes new.rider) (sym pages)
            (more_images has domain.sizes page done.before.cut done.after.cut words list done.list tries.last new.rider old.pages is (copied_stays domain.sizes page words list old.rider tries.last copy again.later) there done.entered);
      }

  -- a page that was taken and copied
  copy_works : (load : PageJob) (taker : RiderState) (ok : Bool) (old copier : WriterState L W) → Loads F domain (Ok load) old.rider taker → Copies lets (WritesPage has wrote) (FailsPage has failed) failures domain.sizes ok load taker copier.rider old.pages copier.pages → Works old copier
  copy_works load taker ok old copier taken copies =
      let takes = step_works cuts serves domain.sizes FlushTake (Ok load) old.rider taker taken taken.holds.1.0.cut (refl, refl, refl) (λ serving p. refl) in
      let did = copies_work has cuts serves domain.sizes wrote failed failures lets ok load taker copier.rider old.pages copier.pages copies in
      others_write has cuts serves domain.sizes load.page old copier (fresh_page load old.rider taker taken) (then cuts serves domain.sizes old.rider taker copier.rider takes did.0) did.1

  flushes_page : (Behind : Result Bool Over → WriterState L W → WriterState L W → Type 0) → ((passed : Result Bool Over) (old new : WriterState L W) → Behind passed old new → Works old new)
      → (ok : Bool) (passed : Result Bool Over) (result : Result Accepted Over) (old new : WriterState L W) → FlushesPage F domain cuts lets (WritesPage has wrote) (FailsPage has failed) failures Behind ok passed result old new → Works old new
  flushes_page Behind behind true passed result old new one =
      let is = one.copies.1 in
      let page = one.load.page in
      let copy = copied old.rider one.taker one.load is.words one.copier.rider one.taken is.places is.loaded in
      let same : one.last ≡ one.copier = one.passes.1 in
      writer_then has cuts serves domain.sizes old one.copier new (copy_works one.load one.taker true old one.copier one.taken one.copies)
      (done_works page one.load.stamp is.words copy.0 result one.copier new copy.1 is.written.1 (one.pages ∙ ap (λ (s : WriterState L W). s.pages) same)
      (subst (λ (s : WriterState L W). TriesFor F domain (makes_room cuts) (EndsFlush F domain page true one.load.stamp) result s.rider new.rider) same one.done))
  flushes_page Behind behind false passed result old new one =
      let page = one.load.page in
      let done = tries_work cuts serves domain.sizes F domain (makes_room cuts) (room_cuts cuts) (EndsFlush F domain page false one.load.stamp) (λ answer a b done. step_works cuts serves domain.sizes (FlushDone page false) answer a b done done.holds.1.0.cut (refl, refl, refl) (λ serving p. failed_quiet page p)) _ one.last.rider new.rider one.done.2 in
      writer_then has cuts serves domain.sizes old one.copier new (copy_works one.load one.taker false old one.copier one.taken one.copies)
      (writer_then has cuts serves domain.sizes one.copier one.last new (behind passed one.copier one.last one.passes) (rider_writes has cuts serves domain.sizes one.last new done one.pages))

  refuses_works : (fault : Fault) (old new : WriterState L W) → Loads F domain (Err fault) old.rider new.rider → new ≡ record old { rider = new.rider } → Works old new
  refuses_works fault old new taken same = rider_writes has cuts serves domain.sizes old new (step_works cuts serves domain.sizes {F = F} {X = PageJob} FlushTake (Err fault) old.rider new.rider taken taken.holds.1.0.cut (refl, refl, refl) (λ serving p. refl)) (ap (λ (s : WriterState L W). s.pages) same)

  flushes_one : (Behind : Result Bool Over → WriterState L W → WriterState L W → Type 0) → ((passed : Result Bool Over) (old new : WriterState L W) → Behind passed old new → Works old new)
      → (result : Result Bool Over) (old new : WriterState L W) → FlushesOne F domain cuts lets (WritesPage has wrote) (FailsPage has failed) failures Behind result old new → Works old new
  flushes_one Behind behind result old new (inl (is, (taken, same))) = refuses_works NoneSealed old new taken same
  flushes_one Behind behind result old new (inr (inl (fault, other, is, (taken, same)))) = refuses_works fault old new taken same
  flushes_one Behind behind result old new (inr (inr (ok, passed, ended, one, is))) = flushes_page Behind behind ok passed ended old new one

  passes_work : (n : ℕ) (passed : Result Bool Over) (old new : WriterState L W) → Passes F domain cuts lets (WritesPage has wrote) (FailsPage has failed) failures n passed old new → Works old new
  passes_work zero passed old new (is, same) = writer_same has cuts serves domain.sizes old new same
  passes_work (suc n) passed old new one = flushes_one (Passes F domain cuts lets (WritesPage has wrote) (FailsPage has failed) failures n) (passes_work n) passed old new one

  finds_page : (result : Result Bool Over) (old new : WriterState L W) → FindsPage F domain cuts lets (WritesPage has wrote) (FailsPage has failed) failures result old new → Works old new
  finds_page = finds_hold Works (writer_same has cuts serves domain.sizes) (writer_then has cuts serves domain.sizes) (Flushes F domain cuts lets (WritesPage has wrote) (FailsPage has failed) failures 3) (CutsByRider F domain) cuts
      (flushes_one (Passes F domain cuts lets (WritesPage has wrote) (FailsPage has failed) failures 3) (passes_work 3)) cut_by_works
    where
      cut_by_works : makes_room cuts ≡ true → (old new : WriterState L W) → CutsByRider F domain old new → Works old new
      cut_by_works room old new (cut, same) = rider_writes has cuts serves domain.sizes old new (cut_works cuts serves domain.sizes old.rider new.rider (room_cuts cuts room) cut) (ap (λ (s : WriterState L W). s.pages) same)

  -- a page that was sent
  sent_works : (i : ℕ) (result : Result Bool Over) (old new : WriterState L W) → CopiesSent F domain limits lets (WritesPage has wrote) (FailsPage has failed) failures i result old new → WritesOn has cuts false domain.sizes old new
  sent_works i (Ok true) old new (job, ok, copies, counts) =
      let works = (copies_work has cuts false domain.sizes wrote failed failures lets ok job old.rider new.rider old.pages new.pages copies).0 in
      record { later = works.later; sweeps = works.sweeps; enters = works.enters; makes = works.makes; keeps = works.keeps; images = λ serving. absurd cc }
  sent_works i (Ok false) old new none = absurd none
  sent_works i (Err over) old new none = absurd none

  -- all its looks
  pub writer_looks : (most : ℕ) (old new : WriterState L W) → LooksOn most (FindsPage F domain cuts lets (WritesPage has wrote) (FailsPage has failed) failures) old new → Works old new
  writer_looks most old new (result, looks) =
      looks_hold Works (writer_same has cuts serves domain.sizes) (writer_then has cuts serves domain.sizes) (FindsPage F domain cuts lets (WritesPage has wrote) (FailsPage has failed) failures) finds_page most result old new looks

-- all that a writer does
pub writer_works : {L W : Type 0} (has : W → ℕ → List ℕ → Type 0) (F : Type 0) (domain : DomainState) (limits : Limits) (lets : ℕ → Type 0) (wrote failed : W → ℕ → List ℕ → W → Type 0) (failures : W → ℕ) (serves : Bool) (old new : WriterState L W)
    → WritesBy F domain limits lets (WritesPage has wrote) (FailsPage has failed) failures serves old new → WritesOn has limits.cuts serves domain.sizes old new
writer_works has F domain limits lets wrote failed failures true old new looks = writer_looks has limits.cuts true F domain limits lets wrote failed failures _ old new looks
writer_works has F domain limits lets wrote failed failures false old new (pages, sent) =
    followed_holds (WritesOn has limits.cuts false domain.sizes) (writer_same has limits.cuts false domain.sizes) (writer_then has limits.cuts false domain.sizes) (CopiesSent F domain limits lets (WritesPage has wrote) (FailsPage has failed) failures)
    (sent_works has limits.cuts false F domain limits lets wrote failed failures) pages old new sent
