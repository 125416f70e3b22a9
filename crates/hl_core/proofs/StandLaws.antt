-- Where a core stands after a refused step and after an accepted one.
use Rattle.std.proofs.Common.{◌≡◌, ℕ, false, cond, is_none, List, [], ◌∷◌, ◌++◌, refl, sym, ap, ◌∙◌, subst, append-nil}
use Rattle.std.specs.Prelude.{Option, Some, None, Ok, Err}
use Rattle.hl_model.specs.declared.fault.Fault.{Fault}
use Rattle.hl_model.specs.declared.step.Reply.{Reply}
use Rattle.hl_model.specs.declared.step.Step.{Step}
use Rattle.hl_model.specs.declared.view.View.{View}
use Rattle.hl_model.specs.Epochs.{Table, table_of}
use Rattle.hl_model.specs.Actions.{is_take, finishes, action_of, pending}
use Rattle.hl_model.specs.Views.{slot_views}
use Rattle.hl_model.specs.Replies.{fault_of, answer_of, unless_fault, unless_refused}
use Rattle.hl_laws.proofs.AcceptedLaws.{IsAccepted-push}
use Rattle.hl_laws.proofs.ActionLaws.{pending-stores, taken-stores}
use Rattle.hl_laws.proofs.DrainLaws.{takes-le-actions}
use Rattle.hl_offsets.specs.Log.{Log}
use Rattle.hl_frames.specs.Pages.{Pages}
use Rattle.hl_core.specs.Standing.{State, Stands, log_of, pages_of}
use Rattle.hl_core.specs.Steps.{Stepped, Made}
use Rattle.hl_core.proofs.Refusals.{call_refuses}

module _ {J : Type 0} (tag : J → ℕ) where
  -- a refused step leaves where a core stands
  pub refused_step : (core : State J) (A : List Step) (s : Step) (f : Fault) → Stands tag core A → fault_of core.sizes A s ≡ Some f → Stepped tag core A s core (Err f)
  refused_step core A s f st h = record {
    reply = sym (ap (λ o. unless_fault o (answer_of core.sizes A (A ++ s ∷ []) s)) h);
    sizes = refl;
    standing = subst (λ (B : List Step). Stands tag core B) (sym (ap (λ o. cond (is_none o) (A ++ s ∷ []) A) h)) st;
  }

  -- a step that the table of epochs refuses
  pub table_refused : {X : Type 0} (core : State J) (s : Step) (f : Fault) (o : Option Fault) (x : X) (moved table : Table) → Err f ≡ unless_fault o x → table ≡ unless_refused o core.table moved → ((A : List Step) → Stands tag core A → fault_of core.sizes A s ≡ o) → Made tag core s (record { sizes = core.sizes; table = table; views = core.views; drain = core.drain; offsets = core.offsets; pages = core.pages }) (Err f)
  table_refused core s f o x moved table h e told A st =
      let both = call_refuses o f x core.table moved table h e in
      subst (λ (z : Table). Stepped tag core A s (record { sizes = core.sizes; table = z; views = core.views; drain = core.drain; offsets = core.offsets; pages = core.pages }) (Err f)) (sym both.1)
      (refused_step core A s f st (told A st ∙ both.0))

  -- an accepted step
  pub accepted_step : (old new : State J) (A : List Step) (s : Step) (r : Reply) → fault_of old.sizes A s ≡ None → new.sizes ≡ old.sizes → answer_of old.sizes A (A ++ s ∷ []) s ≡ r → Stands tag new (A ++ s ∷ []) → Stepped tag old A s new (Ok r)
  accepted_step old new A s r h same e st = record {
    reply = ap (λ z. Ok z) (sym e) ∙ sym (ap (λ o. unless_fault o (answer_of old.sizes A (A ++ s ∷ []) s)) h);
    sizes = same;
    standing = subst (λ (B : List Step). Stands tag new B) (sym (ap (λ o. cond (is_none o) (A ++ s ∷ []) A) h)) st;
  }

  -- the parts of a drain list that an accepted step leaves: it stores, takes and finishes nothing
  pub record DrainStays (A : List Step) (s : Step) : Type 0 where
    pub takes_none : is_take s ≡ false
    pub ends_none : (c : ℕ) → finishes c s ≡ false
    pub stores_none : action_of A s ≡ []

  -- a core whose drain list stays, and whose other parts are those of the list with the step
  pub quiet_drain : (core : State J) (A : List Step) (s : Step) (table : Table) (views : List (Option View)) (offsets : Log) (pages : Pages) → Stands tag core A → fault_of core.sizes A s ≡ None → DrainStays A s → table ≡ table_of core.sizes (A ++ s ∷ []) → views ≡ slot_views core.sizes (A ++ s ∷ []) → offsets ≡ log_of core.sizes (A ++ s ∷ []) → pages ≡ pages_of core.sizes (A ++ s ∷ []) → Stands tag (record { sizes = core.sizes; table = table; views = views; drain = core.drain; offsets = offsets; pages = pages }) (A ++ s ∷ [])
  quiet_drain core A s table views offsets pages st h quiet t v o p = record {
    in_range = st.in_range;
    accepted = IsAccepted-push core.sizes A s st.accepted h;
    table_is = t;
    views_is = v;
    limit_is = st.limit_is;
    pending_is = st.pending_is ∙ sym (pending-stores A s (takes-le-actions core.sizes A st.accepted) quiet.takes_none ∙ ap (λ z. pending A ++ z) quiet.stores_none ∙ append-nil (pending A));
    taken_is = st.taken_is ∙ sym (taken-stores A s (takes-le-actions core.sizes A st.accepted) quiet.takes_none quiet.ends_none);
    ordered = st.ordered;
    offsets_is = o;
    pages_is = p;
  }
