-- What an engine and a shelf make of one step of a script.
use Rattle.std.proofs.Common.{◌≡◌, ◌⊎◌, ℕ, ◌+◌, Bool, true, false, cond, not, ◌||◌, is_none, is_some, inl, inr, List, [], ◌∷◌, ◌++◌, refl, sym, ap, ◌∙◌, subst, set}
use Rattle.std.specs.Prelude.{Option, Some, None, Result, Ok, Err, find, IsSomeAnd}
use Rattle.std.proofs.lemmas.Bool.{eqb-true}
use Rattle.hl_action.specs.Firings.{FiringRecord}
use Rattle.hl_action.specs.Jobs.{KeptRecord}
use Rattle.hl_action.specs.Shelves.{job_of, has_place}
use Rattle.hl_model.specs.declared.fault.Fault.{Fault}
use Rattle.hl_model.specs.declared.fault.Fault.TheVariants.{NoJob}
use Rattle.hl_model.specs.declared.step.Reply.{Reply}
use Rattle.hl_model.specs.declared.step.Reply.TheVariants.{Ran, Answer, Ticket}
use Rattle.hl_model.specs.declared.step.Step.{Step}
use Rattle.hl_model.specs.declared.step.Step.TheVariants.{Bump, Done}
use Rattle.hl_model.specs.Sizes.{Sizes, AreNarrow}
use Rattle.hl_model.specs.Replies.{fault_of, answer_of, unless_fault, extended, with_word, word_reply_of}
use Rattle.hl_line.specs.declared.line.Line.TheVariants.{Step as Makes}
use Rattle.hl_cells.specs.TakenActions.{is_of, firings, firing_at}
use Rattle.hl_cells.specs.Engines.{Whole, EngineStands}
use Rattle.hl_cells.specs.EngineSteps.{fired, Told, Moved, is_job_bump}
use Rattle.hl_script.specs.Answers.{bears, lacks_job, line_fault, shown, line_answer, line_reply, with_line}
use Rattle.hl_script.specs.Text.{tags_on}
use Rattle.hl_script.specs.Fast.{adds, AreLeft, IsFast}
use Rattle.hl_script.proofs.AnswerLaws.{fault_kept}
use Rattle.hl_script.proofs.ShelfLaws.{left_stays, left_bumped, left_missed, left_back}
use Rattle.hl_laws.proofs.NoFaultLaws.{unless_err, unless_ok}

-- what is found passes the test
found_passes : {X : Type 0} (test : X → Bool) (xs : List X) (x : X) → find test xs ≡ Some x → test x ≡ true
found_passes test [] x h = cc
found_passes test (y ∷ ys) x h = by_test (found_passes test ys x) (test y) refl h
  where
    by_test : (find test ys ≡ Some x → test x ≡ true) → (b : Bool) → test y ≡ b → cond b (Some y) (find test ys) ≡ Some x → test x ≡ true
    by_test later true is k = let same : y ≡ x = cc in ap test (sym same) ∙ is
    by_test later false is k = later k

-- a job's answer is the tag + the ticket of its done
sum_told : (o : Option FiringRecord) (c tag answer : ℕ) → ((f : FiringRecord) → o ≡ Some f → f.ticket ≡ c) → IsSomeAnd o (λ f. adds tag f answer) → answer ≡ tag + c
sum_told None c tag answer known h = absurd h
sum_told (Some f) c tag answer known h = h ∙ ap (λ n. tag + n) (known f refl)

-- the firing of the action of a ticket has it
firing_ticket : (sizes : Sizes) (A : List Step) (c : ℕ) (f : FiringRecord) → firing_at sizes c A ≡ Some f → f.ticket ≡ c
unfolding firing_at
firing_ticket sizes A c f h = eqb-true f.ticket c (found_passes (is_of c) (firings sizes A) f h)

-- a reply is a job's, or none is
ran_or_not : (r : Reply) → ((tag : ℕ) × (r ≡ Ran tag)) ⊎ ((tag : ℕ) → r ≡ Ran tag → ⊥)
ran_or_not (Ran tag) = inl (tag, refl)
ran_or_not r = inr (λ tag e. cc)

-- a script shows each other reply as it is
shown_plain : (step : Step) (r : Reply) → ((tag : ℕ) → r ≡ Ran tag → ⊥) → shown step r ≡ r
shown_plain (Done c) (Ran tag) other = absurd (other tag refl)
shown_plain (Done c) r other = refl
shown_plain step r other = refl

-- and so does an engine
told_plain : (firing : Option FiringRecord) (r : Reply) (result : Result Reply Fault) → ((tag : ℕ) → r ≡ Ran tag → ⊥) → Told adds firing (Ok r) result → result ≡ Ok r
told_plain firing (Ran tag) result other h = absurd (other tag refl)
told_plain firing r result other h = h

-- a job is run at a done alone
told_ran : (sizes : Sizes) (A : List Step) (step : Step) (tag : ℕ) (result : Result Reply Fault) → Told adds (fired sizes A step) (Ok (Ran tag)) result → result ≡ Ok (shown step (Ran tag))
told_ran sizes A (Done c) tag result h = h.1 ∙ ap (λ n. Ok (Answer n)) (sum_told (firing_at sizes c A) c tag h.0 (firing_ticket sizes A c) h.2)
told_ran sizes A step tag result h = absurd h.2

told_ok : (sizes : Sizes) (A : List Step) (step : Step) (r : Reply) (result : Result Reply Fault) → Told adds (fired sizes A step) (Ok r) result → result ≡ Ok (shown step r)
told_ok sizes A step r result h = by_reply (ran_or_not r)
  where
    by_reply : ((tag : ℕ) × (r ≡ Ran tag)) ⊎ ((tag : ℕ) → r ≡ Ran tag → ⊥) → result ≡ Ok (shown step r)
    by_reply (inl ran) =
        told_ran sizes A step ran.0 result (subst (λ z. Told adds (fired sizes A step) (Ok z) result) ran.1 h) ∙ ap (λ z. Ok (shown step z)) (sym ran.1)
    by_reply (inr other) = told_plain (fired sizes A step) r result other h ∙ ap (λ z. Ok z) (sym (shown_plain step r other))

-- what an engine tells is what a script shows
told_shown : (sizes : Sizes) (A : List Step) (step : Step) (o : Option Fault) (r : Reply) (result : Result Reply Fault) → Told adds (fired sizes A step) (unless_fault o r) result → result ≡ unless_fault o (shown step r)
told_shown sizes A step None r result h = told_ok sizes A step r result h
told_shown sizes A step (Some f) r result h = h

-- a step whose tag has a job, if it bears one
pub fast_made : {F : Type 0} (shelf after : List (Option (KeptRecord F))) (old new : Whole F) (has : ℕ → Bool) (sizes : Sizes) (A : List Step) (step : Step) (result : Result Reply Fault) → IsFast shelf old has sizes A → lacks_job has A step ≡ false → Moved adds old A step new result → AreLeft has (with_line has sizes A (Makes step)) after → (result ≡ line_reply has sizes A step) × IsFast after new has sizes (with_line has sizes A (Makes step))
fast_made shelf after old new has sizes A step result sh lacks moved left = (
  reply_is ∙ sym (ap (λ o. unless_fault o (line_answer sizes A step)) same),
  record {
    sizes_is = moved.sizes ∙ sh.sizes_is;
    narrow = sh.narrow;
    standing = subst (EngineStands new) (ap (λ z. extended z A step) sh.sizes_is ∙ sym (ap (λ o. cond (is_none o) (A ++ step ∷ []) A) same)) moved.standing;
    left = left;
  },
)
  where
    same : line_fault has sizes A step ≡ fault_of sizes A step
    same = fault_kept has sizes A step lacks

    reply_is : result ≡ unless_fault (fault_of sizes A step) (line_answer sizes A step)
    reply_is = told_shown sizes A step (fault_of sizes A step) (with_word A step (answer_of sizes A (A ++ step ∷ []) step)) result
        (subst (λ z. Told adds (fired z A step) (word_reply_of z A step) result) sh.sizes_is moved.told)

bares : (step : Step) → is_job_bump step ≡ false → (tag : ℕ) → bears tag step ≡ false
bares (Bump borne) h tag = cc
bares step h tag = refl

lacks_none : (has : ℕ → Bool) (A : List Step) (step : Step) → is_job_bump step ≡ false → lacks_job has A step ≡ false
lacks_none has A (Bump borne) h = cc
lacks_none has A step h = refl

-- the jobs that are left after a step that bears no tag
left_with_line : {F : Type 0} (has : ℕ → Bool) (sizes : Sizes) (A : List Step) (step : Step) (shelf : List (Option (KeptRecord F))) → AreLeft has A shelf → ((tag : ℕ) → bears tag step ≡ false) → AreLeft has (with_line has sizes A (Makes step)) shelf
left_with_line has sizes A step shelf left bare =
    elim (is_none (line_fault has sizes A step)) as (λ b. AreLeft has (cond b (A ++ step ∷ []) A) shelf) [ true ↦ left_stays has A step shelf left bare | false ↦ left ]

-- a step that is no job's bump
pub fast_steps : {F : Type 0} (shelf : List (Option (KeptRecord F))) (old new : Whole F) (has : ℕ → Bool) (sizes : Sizes) (A : List Step) (step : Step) (result : Result Reply Fault) → IsFast shelf old has sizes A → is_job_bump step ≡ false → Moved adds old A step new result → (result ≡ line_reply has sizes A step) × IsFast shelf new has sizes (with_line has sizes A (Makes step))
fast_steps shelf old new has sizes A step result sh no_bump moved =
    fast_made shelf shelf old new has sizes A step result sh (lacks_none has A step no_bump) moved (left_with_line has sizes A step shelf sh.left (bares step no_bump))

not_back : (a b : Bool) → a ≡ not b → (a ≡ true → b ≡ false) × (a ≡ false → b ≡ true)
not_back a true h = ((λ e. cc), (λ e. refl))
not_back a false h = ((λ e. refl), (λ e. cc))

-- a bump of a tag whose job isn't on the shelf
pub fast_lacks : {F : Type 0} (shelf after : List (Option (KeptRecord F))) (now : Whole F) (has : ℕ → Bool) (sizes : Sizes) (A : List Step) (tag : ℕ) → IsFast shelf now has sizes A → job_of shelf tag ≡ None → after ≡ set shelf tag None → (Err NoJob ≡ line_reply has sizes A (Bump tag)) × IsFast after now has sizes (with_line has sizes A (Makes (Bump tag)))
fast_lacks shelf after now has sizes A tag sh none e = (
  sym (ap (λ o. unless_fault o (line_answer sizes A (Bump tag))) fault_is),
  record {
    sizes_is = sh.sizes_is;
    narrow = sh.narrow;
    standing = subst (EngineStands now) (sym stays) sh.standing;
    left = subst (λ B. AreLeft has B after) (sym stays) (λ t. ap (λ z. tags_on z t) e ∙ left_missed tag shelf none t ∙ sh.left t);
  },
)
  where
    fault_is : line_fault has sizes A (Bump tag) ≡ Some NoJob
    fault_is = ap (λ b. cond b (Some NoJob) (fault_of sizes A (Bump tag))) ((not_back (tags_on shelf tag) (lacks_job has A (Bump tag)) (sh.left tag)).1 (ap is_some none))

    stays : with_line has sizes A (Makes (Bump tag)) ≡ A
    stays = ap (λ o. cond (is_none o) (A ++ Bump tag ∷ []) A) fault_is

-- the tag of a job on the shelf has one
has_job : {F : Type 0} (shelf : List (Option (KeptRecord F))) (has : ℕ → Bool) (A : List Step) (tag : ℕ) (kept : KeptRecord F) → AreLeft has A shelf → job_of shelf tag ≡ Some kept → lacks_job has A (Bump tag) ≡ false
has_job shelf has A tag kept left there = (not_back (tags_on shelf tag) (lacks_job has A (Bump tag)) (left tag)).0 (ap is_some there)

-- an accepted bump: its job leaves the shelf
pub fast_bumps : {F : Type 0} (shelf after : List (Option (KeptRecord F))) (old new : Whole F) (has : ℕ → Bool) (sizes : Sizes) (A : List Step) (tag ticket : ℕ) (kept : KeptRecord F) → IsFast shelf old has sizes A → job_of shelf tag ≡ Some kept → kept.tag ≡ tag → after ≡ set shelf tag None → Moved adds old A (Bump kept.tag) new (Ok (Ticket ticket)) → (Ok (Ticket ticket) ≡ line_reply has sizes A (Bump tag)) × IsFast after new has sizes (with_line has sizes A (Makes (Bump tag)))
fast_bumps shelf after old new has sizes A tag ticket kept sh there own e moved =
    fast_made shelf after old new has sizes A (Bump tag) (Ok (Ticket ticket)) sh lacks here
    (subst (λ B. AreLeft has B after) (sym (ap (λ o. cond (is_none o) (A ++ Bump tag ∷ []) A) free)) (λ t. ap (λ z. tags_on z t) e ∙ left_bumped has A tag shelf sh.left t))
  where
    here : Moved adds old A (Bump tag) new (Ok (Ticket ticket))
    here = subst (λ n. Moved adds old A (Bump n) new (Ok (Ticket ticket))) own moved

    lacks : lacks_job has A (Bump tag) ≡ false
    lacks = has_job shelf has A tag kept sh.left there

    free : line_fault has sizes A (Bump tag) ≡ None
    free = (unless_ok (line_fault has sizes A (Bump tag)) (Ticket ticket) (line_answer sizes A (Bump tag))
        (told_shown sizes A (Bump tag) (fault_of sizes A (Bump tag)) (with_word A (Bump tag) (answer_of sizes A (A ++ Bump tag ∷ []) (Bump tag))) (Ok (Ticket ticket))
        (subst (λ z. Told adds (fired z A (Bump tag)) (word_reply_of z A (Bump tag)) (Ok (Ticket ticket))) sh.sizes_is here.told)
        ∙ sym (ap (λ o. unless_fault o (line_answer sizes A (Bump tag))) (fault_kept has sizes A (Bump tag) lacks)))).0

-- a refused bump: its job is put back
pub fast_refuses : {F : Type 0} (shelf after : List (Option (KeptRecord F))) (old new : Whole F) (has : ℕ → Bool) (sizes : Sizes) (A : List Step) (tag : ℕ) (f : Fault) (kept back : KeptRecord F) → IsFast shelf old has sizes A → job_of shelf tag ≡ Some kept → kept.tag ≡ tag → back ≡ kept → after ≡ (cond (has_place (set shelf tag None) back.tag) (set (set shelf tag None) back.tag (Some back)) (set shelf tag None)) → Moved adds old A (Bump kept.tag) new (Err f) → (Err f ≡ line_reply has sizes A (Bump tag)) × IsFast after new has sizes (with_line has sizes A (Makes (Bump tag)))
fast_refuses shelf after old new has sizes A tag f kept back sh there own same e moved =
    fast_made shelf after old new has sizes A (Bump tag) (Err f) sh lacks here
    (subst (λ B. AreLeft has B after) (sym (ap (λ o. cond (is_none o) (A ++ Bump tag ∷ []) A) fault_is)) (λ t. ap (λ z. tags_on z t) e
    ∙ left_back tag back shelf (there ∙ ap (λ z. Some z) (sym same)) (ap (λ (z : KeptRecord _). z.tag) same ∙ own) t ∙ sh.left t))
  where
    here : Moved adds old A (Bump tag) new (Err f)
    here = subst (λ n. Moved adds old A (Bump n) new (Err f)) own moved

    lacks : lacks_job has A (Bump tag) ≡ false
    lacks = has_job shelf has A tag kept sh.left there

    fault_is : line_fault has sizes A (Bump tag) ≡ Some f
    fault_is = unless_err (line_fault has sizes A (Bump tag)) f (line_answer sizes A (Bump tag))
        (told_shown sizes A (Bump tag) (fault_of sizes A (Bump tag)) (with_word A (Bump tag) (answer_of sizes A (A ++ Bump tag ∷ []) (Bump tag))) (Err f)
        (subst (λ z. Told adds (fired z A (Bump tag)) (word_reply_of z A (Bump tag)) (Err f)) sh.sizes_is here.told)
        ∙ sym (ap (λ o. unless_fault o (line_answer sizes A (Bump tag))) (fault_kept has sizes A (Bump tag) lacks)))

-- all jobs are on the shelf before the first step
pub fast_begins : {F : Type 0} (shelf : List (Option (KeptRecord F))) (now : Whole F) (has : ℕ → Bool) (sizes : Sizes) → has ≡ tags_on shelf → EngineStands now [] → now.core.sizes ≡ sizes → AreNarrow sizes → IsFast shelf now has sizes []
fast_begins shelf now has sizes known standing e narrow = record {
  sizes_is = e;
  narrow = narrow;
  standing = standing;
  left = λ tag. sym (ap (λ f. f tag) known) ∙ by_test (has tag);
}
  where
    by_test : (b : Bool) → b ≡ not (not b || false)
    by_test true = refl
    by_test false = refl
