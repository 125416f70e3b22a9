-- A log that made a step stands at the list with it, and its words were stored as that list tells.
use Rattle.std.proofs.Common.{◌≡◌, ℕ, List, Bool, true, false, cond, [], ◌∷◌, ◌++◌, length, refl, sym, ap, ◌∙◌, subst}
use Rattle.std.specs.Prelude.{Option, Some, None, Result, Ok}
use Rattle.hl_model.specs.declared.fault.Fault.{Fault}
use Rattle.hl_model.specs.declared.step.Reply.{Reply}
use Rattle.hl_model.specs.declared.step.Step.{Step}
use Rattle.hl_model.specs.declared.step.Step.TheVariants.{Refresh, Release, Allocate, Look}
use Rattle.hl_model.specs.Sizes.{Sizes}
use Rattle.hl_model.specs.Epochs.{is_bump}
use Rattle.hl_model.specs.Actions.{is_done}
use Rattle.hl_model.specs.Offsets.{raised_to, shifted_to}
use Rattle.hl_model.specs.Replies.{fault_of, answer_of, extended}
use Rattle.hl_laws.proofs.AcceptedLaws.{extended-none, extended-some}
use Rattle.hl_laws.proofs.NoFaultLaws.{unless_ok}
use Rattle.hl_words.specs.declared.view.OffsetWords.{OffsetWords}
use Rattle.hl_words.specs.Rows.{RowMasterState}
use Rattle.hl_core.specs.Standing.{State, Stands}
use Rattle.hl_core.specs.Steps.{Made, Stepped as CoreStepped}
use Rattle.hl_pass.specs.declared.pass_view.PassView.{PassView}
use Rattle.hl_pass.specs.declared.stamps.Stamps.{Stamps}
use Rattle.hl_pass.specs.Calls.{is_call, looked}
use Rattle.hl_pass.specs.Passes.{is_up}
use Rattle.hl_pass.specs.Stores.{stores_of, with_told, IsAbove}
use Rattle.hl_pass.proofs.StoreLaws.{stores-stay, stores-told, stores-rise}
use Rattle.hl_log.specs.Calls.{by_slot}
use Rattle.hl_log.specs.Logs.{StandsAt, IsLog, IsBeside, Stepped, Makes}
use Rattle.hl_log.specs.States.{LogState, PageState}
use Rattle.hl_log.specs.Taken.{origin_fault, unswept_fault, Ends}

-- a step that moves no offset, and ends no epoch and no action
pub record IsQuiet (s : Step) : Type 0 where
  pub raises : raised_to s ≡ 0
  pub shifts : shifted_to s ≡ 0
  pub bumps : is_bump s ≡ false
  pub ends : is_done s ≡ false

-- such a step stores nothing, accepted or not
pub stores-quiet : (sizes : Sizes) (A : List Step) (s : Step) → IsQuiet s → stores_of (extended sizes A s) ≡ stores_of A
stores-quiet sizes A s q = by_fault (fault_of sizes A s) refl
  where
    by_fault : (o : Option Fault) → fault_of sizes A s ≡ o → stores_of (extended sizes A s) ≡ stores_of A
    by_fault None h = ap stores_of (extended-none sizes A s h) ∙ stores-stay A s q.raises q.shifts q.bumps q.ends
    by_fault (Some f) h = ap stores_of (extended-some sizes A s f h)

-- nor does what a pass saw
pub stores-looked : (sizes : Sizes) (A : List Step) (p : PassView) → stores_of (looked sizes A p) ≡ stores_of A
stores-looked sizes A p = by_up (is_up p)
  where
    by_up : (b : Bool) → stores_of (cond b A (extended sizes A (Look p.slot p.view.read_only p.view.head))) ≡ stores_of A
    by_up true = refl
    by_up false = stores-quiet sizes A (Look p.slot p.view.read_only p.view.head) (record { raises = refl; shifts = refl; bumps = refl; ends = refl })

-- the steps of a slot are quiet
pub call_quiet : (s : Step) → is_call s ≡ true → IsQuiet s
call_quiet (Refresh t) h = record { raises = refl; shifts = refl; bumps = refl; ends = refl }
call_quiet (Release t) h = record { raises = refl; shifts = refl; bumps = refl; ends = refl }
call_quiet (Allocate t n) h = record { raises = refl; shifts = refl; bumps = refl; ends = refl }
call_quiet _ h = cc

pub by_slot_call : (t : ℕ) (s : Step) → is_call s ≡ true → is_call (by_slot t s) ≡ true
by_slot_call t (Refresh u) h = refl
by_slot_call t (Release u) h = refl
by_slot_call t (Allocate u n) h = refl
by_slot_call t _ h = cc

-- the log stands where its core does, if the same was stored
pub stands_with : (old new : LogState) (A B : List Step) → StandsAt old A → Stands (λ t. t.0) new.core B → new.master ≡ old.master → stores_of B ≡ stores_of A → StandsAt new B
stands_with old new A B at core master same = record { standing = core; stored = ap (λ (m : RowMasterState). m.offsets) master ∙ at.stored ∙ sym same }

-- a log made a quiet step
pub makes_quiet : (old new : LogState) (s : Step) (result : Result Reply Fault) → IsQuiet s → Made (λ t. t.0) old.core s new.core result → new.master ≡ old.master → Makes old s new result
makes_quiet old new s result q made master A at =
    let stepped : CoreStepped (λ t. t.0) old.core A s new.core result = made A at.standing in record {
      reply = stepped.reply;
      sizes = stepped.sizes;
      standing = stands_with old new A (extended old.core.sizes A s) at stepped.standing master (stores-quiet old.core.sizes A s q);
    }

-- a log's core made a step that was accepted
told_by : (old : LogState) (core : State _) (A : List Step) (s : Step) (reply : Reply) → StandsAt old A → CoreStepped (λ t. t.0) old.core A s core (Ok reply)
    → (fault_of old.core.sizes A s ≡ None) × (stores_of (extended old.core.sizes A s) ≡ with_told reply old.master.offsets)
told_by old core A s reply at stepped =
    let sizes = old.core.sizes in
    let both = unless_ok (fault_of sizes A s) reply (answer_of sizes A (A ++ s ∷ []) s) stepped.reply in
    (both.0, ap stores_of (extended-none sizes A s both.0) ∙ stores-told sizes A s both.0 ∙ ap (λ (r : Reply). with_told r (stores_of A)) (sym both.1) ∙ ap (with_told reply) (sym at.stored))

-- and stored what the answer tells
pub makes_told : (old new : LogState) (s : Step) (reply : Reply) → Made (λ t. t.0) old.core s new.core (Ok reply) → new.master.offsets ≡ with_told reply old.master.offsets → Makes old s new (Ok reply)
makes_told old new s reply made stored A at =
    let stepped : CoreStepped (λ t. t.0) old.core A s new.core (Ok reply) = made A at.standing in record {
      reply = stepped.reply;
      sizes = stepped.sizes;
      standing = record { standing = stepped.standing; stored = stored ∙ sym (told_by old new.core A s reply at stepped).1 };
    }

-- what the answer tells is not below what was stored
pub told_rises : (old : LogState) (core : State _) (s : Step) (reply : Reply) → IsLog old → Made (λ t. t.0) old.core s core (Ok reply) → IsAbove old.master.offsets (with_told reply old.master.offsets)
told_rises old core s reply log made =
    let A : List Step = log.stands.0 in
    let at : StandsAt old A = log.stands.1 in
    let stepped : CoreStepped (λ t. t.0) old.core A s core (Ok reply) = made A at.standing in
    let told = told_by old core A s reply at stepped in
    subst (λ (o : OffsetWords). IsAbove o (with_told reply old.master.offsets)) (sym at.stored)
    (subst (λ (o : OffsetWords). IsAbove (stores_of A) o) (ap stores_of (sym (extended-none old.core.sizes A s told.0)) ∙ told.1) (stores-rise old.core.sizes A s at.standing.accepted told.0))

-- the same of a log, a step and a result that are these
pub makes_at : (old now new : LogState) (s t : Step) (result told : Result Reply Fault) → old ≡ now → s ≡ t → result ≡ told → Makes old s new result → Makes now t new told
makes_at old now new s t result told log step is makes =
    subst (λ (l : LogState). Makes l t new told) log (subst (λ (u : Step). Makes old u new told) step (subst (λ (r : Result Reply Fault). Makes old s new r) is makes))

-- a log's core was brought what a pass saw
pub stands_looked : (old now new : LogState) (p : PassView) → old ≡ now → ((A : List Step) → Stands (λ t. t.0) old.core A → Stands (λ t. t.0) new.core (looked old.core.sizes A p)) → new.master ≡ old.master
    → (A : List Step) → StandsAt now A → StandsAt new (looked now.core.sizes A p)
stands_looked old now new p is catches master A at =
    let here : StandsAt old A = subst (λ (l : LogState). StandsAt l A) (sym is) at in
    subst (λ (l : LogState). StandsAt new (looked l.core.sizes A p)) is (stands_with old new A (looked old.core.sizes A p) here (catches A here.standing) master (stores-looked old.core.sizes A p))

pub log_looked : (old new : LogState) (p : PassView) → IsLog old → ((A : List Step) → Stands (λ t. t.0) old.core A → Stands (λ t. t.0) new.core (looked old.core.sizes A p)) → new.core.sizes ≡ old.core.sizes → IsBeside old new → IsLog new
log_looked old new p log catches sizes beside = record {
  stands = (looked old.core.sizes log.stands.0 p, stands_looked old old new p refl catches beside.master log.stands.0 log.stands.1);
  room = ap (λ (s : Stamps). length s.row.items) beside.stamps ∙ log.room ∙ ap (λ (z : Sizes). z.slots) (sym sizes);
  there = ap (λ (m : RowMasterState). m.table) beside.master ∙ log.there ∙ ap (λ w. w.words.table) (sym beside.shared);
  shape = ap (λ w. w.sizes) beside.shared ∙ log.shape ∙ sym sizes;
}

-- so it is a log still
pub log_after : (old new : LogState) (s : Step) (result : Result Reply Fault) → IsLog old → Makes old s new result → length new.stamps.row.items ≡ length old.stamps.row.items → new.master.table ≡ old.master.table → new.shared ≡ old.shared → IsLog new
log_after old new s result log makes row table shared =
    let stepped : Stepped old log.stands.0 s new result = makes log.stands.0 log.stands.1 in record {
      stands = (extended old.core.sizes log.stands.0 s, stepped.standing);
      room = row ∙ log.room ∙ ap (λ (z : Sizes). z.slots) (sym stepped.sizes);
      there = table ∙ log.there ∙ ap (λ w. w.words.table) (sym shared);
      shape = ap (λ w. w.sizes) shared ∙ log.shape ∙ sym stepped.sizes;
    }

-- the same with all beside the core as it was
pub log_beside : (old new : LogState) (s : Step) (result : Result Reply Fault) → IsLog old → Makes old s new result → IsBeside old new → IsLog new
log_beside old new s result log makes beside =
    log_after old new s result log makes (ap (λ (s : Stamps). length s.row.items) beside.stamps) (ap (λ (m : RowMasterState). m.table) beside.master) beside.shared

-- a page's work was ended, if no fault came before the step
pub ends_with : (old now new : LogState) (fault : Option Fault) (s t : Step) (result : Result Reply Fault) → old ≡ now → s ≡ t → fault ≡ None → Makes old s new result → IsBeside old new → Ends now fault t new result
ends_with old now new fault s t result log step none makes beside =
    subst (λ (l : LogState). Ends l fault t new result) log (subst (λ (u : Step). Ends old fault u new result) step (subst (λ (o : Option Fault). Ends old o s new result) (sym none)
    (record {
      ended = λ A at. let stepped : Stepped old A s new result = makes A at in record { reply = stepped.reply; sizes = stepped.sizes; standing = stepped.standing };
      beside = beside;
    })))

-- a swept page of the log
pub unswept_none : (log : LogState) (page : PageState) → origin_fault log page ≡ None → page.swept ≡ true → unswept_fault log page ≡ None
unswept_none log page origin swept = rw (origin, swept) refl
