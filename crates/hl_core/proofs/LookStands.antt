-- Where a core stands after a look, a write and a read.
use Rattle.std.proofs.Common.{◌≡◌, ℕ, ◌<◌, true, false, cond, List, [], ◌∷◌, ◌++◌, length, set, refl, sym, ap, ap₂, ◌∙◌, arith, eq-eqb}
use Rattle.std.specs.Prelude.{Option, Some, None, unwrap_or, Result, Ok, Err}
use Rattle.hl_model.specs.declared.fault.Fault.{Fault}
use Rattle.hl_model.specs.declared.step.Reply.{Reply}
use Rattle.hl_model.specs.declared.step.Reply.TheVariants.{Looked, Written, Readable}
use Rattle.hl_model.specs.declared.step.Step.{Step}
use Rattle.hl_model.specs.declared.step.Step.TheVariants.{Look, Write, Read}
use Rattle.hl_model.specs.declared.view.View.{View}
use Rattle.hl_model.specs.Sizes.{Sizes}
use Rattle.hl_model.specs.Epochs.{is_bump, enters, leaves, is_protected}
use Rattle.hl_model.specs.Views.{view_of, slot_views, seen_read_only, seen_head, seen_tail, allocates, looked_read_only, looked_head}
use Rattle.hl_model.specs.Replies.{fault_of, answer_of, unless_fault}
use Rattle.hl_laws.proofs.NoFaultLaws.{look-none, protected-none, unless_err, unless_ok}
use Rattle.hl_laws.proofs.ViewLaws.{slot_views-look, slot_views-stay, length-slot_views, seen_read_only-push, seen_head-push, seen_tail-stay}
use Rattle.hl_core.specs.Standing.{State, Stands, IsStanding}
use Rattle.hl_core.specs.Steps.{Stepped, Made, as_reply}
use Rattle.hl_core.proofs.TableLaws.{table_stays}
use Rattle.hl_core.proofs.QuietLaws.{OffsetsStay, PagesStay, log-stays, pages-stay}
use Rattle.hl_core.proofs.StandLaws.{DrainStays, refused_step, accepted_step, quiet_drain}

-- the view of slot t after its look
view-look : (sizes : Sizes) (A : List Step) (t r h : ℕ) → view_of sizes t (A ++ Look t r h ∷ []) ≡ record { read_only = r; head = h; tail = seen_tail sizes t A }
view-look sizes A t r h =
    let read_only : seen_read_only t (A ++ Look t r h ∷ []) ≡ r = seen_read_only-push t A (Look t r h) refl ∙ ap (λ b. unwrap_or (cond b (Some r) None) (seen_read_only t A)) (eq-eqb t t refl) in
    let head : seen_head t (A ++ Look t r h ∷ []) ≡ h = seen_head-push t A (Look t r h) refl ∙ ap (λ b. unwrap_or (cond b (Some h) None) (seen_head t A)) (eq-eqb t t refl) in
    rw (read_only, head, seen_tail-stay sizes t A (Look t r h) refl refl) refl

module _ {J : Type 0} (tag : J → ℕ) where
  -- a step whose test refuses it
  pub refused_by : {X : Type 0} (core : State J) (s : Step) (f : Fault) (value : List Step → X) → ((A : List Step) → Stands tag core A → Err f ≡ unless_fault (fault_of core.sizes A s) (value A)) → Made tag core s core (Err f)
  refused_by core s f value h A st = refused_step tag core A s f st (unless_err (fault_of core.sizes A s) f (value A) (h A st))

  -- a step that moves nothing but what slots know
  views_moved : (core : State J) (A : List Step) (s : Step) (views : List (Option View)) → Stands tag core A → fault_of core.sizes A s ≡ None → DrainStays tag A s → OffsetsStay s → PagesStay s → is_bump s ≡ false → ((t : ℕ) → enters t s ≡ false) → ((t : ℕ) → leaves t s ≡ false) → views ≡ slot_views core.sizes (A ++ s ∷ []) → Stands tag (record { sizes = core.sizes; table = core.table; views = views; drain = core.drain; offsets = core.offsets; pages = core.pages }) (A ++ s ∷ [])
  views_moved core A s views st h d o p no_bump e l v =
      quiet_drain tag core A s core.table views core.offsets core.pages st h d (table_stays core.sizes A s core.table st.table_is no_bump e l) v (st.offsets_is ∙ sym (log-stays core.sizes A s st.accepted o)) (st.pages_is ∙ sym (pages-stay core.sizes A s o.allocated p))

  -- an accepted look
  pub look_ok : (core : State J) (t r h : ℕ) (seen : View) → ((A : List Step) → Stands tag core A → Ok seen ≡ unless_fault (fault_of core.sizes A (Look t r h)) (view_of core.sizes t A)) → Made tag core (Look t r h) (record { sizes = core.sizes; table = core.table; views = set core.views t (Some (record { read_only = r; head = h; tail = seen.tail })); drain = core.drain; offsets = core.offsets; pages = core.pages }) (Ok (Looked (record { read_only = r; head = h; tail = seen.tail })))
  look_ok core t r h seen told A st =
      let both : (fault_of core.sizes A (Look t r h) ≡ None) × (seen ≡ view_of core.sizes t A) = unless_ok (fault_of core.sizes A (Look t r h)) seen (view_of core.sizes t A) (told A st) in
      let seated : is_protected t A ≡ true = (protected-none core.sizes A t (look-none core.sizes A t r h both.0).0).1 in
      let tail : seen_tail core.sizes t A ≡ seen.tail = sym (ap (λ (v : View). v.tail) both.1) in
      let new : View = record { read_only = r; head = h; tail = seen.tail } in
      let views : set core.views t (Some new) ≡ slot_views core.sizes (A ++ Look t r h ∷ []) =
      ap₂ (λ xs (n : ℕ). set xs t (Some (record { read_only = r; head = h; tail = n }))) st.views_is (sym tail) ∙ sym (slot_views-look core.sizes A t r h seated) in
      accepted_step tag core (record { sizes = core.sizes; table = core.table; views = set core.views t (Some new); drain = core.drain; offsets = core.offsets; pages = core.pages }) A (Look t r h) (Looked new) both.0 refl
      (ap (λ v. Looked v) (view-look core.sizes A t r h ∙ ap (λ (n : ℕ). record { read_only = r; head = h; tail = n }) tail))
      (views_moved core A (Look t r h) (set core.views t (Some new)) st both.0 (record { takes_none = refl; ends_none = λ c. refl; stores_none = refl }) (record { done = refl; raised = refl; shifted = refl; allocated = λ a b. refl })
      (record { flush_taken = refl; flush_ended = refl; flushed = λ a. refl; clean_taken = refl; clean_ended = refl; freed = λ a. refl }) refl (λ a. refl) (λ a. refl) views)

  -- its slot has a place in the row
  pub look_fits : (core : State J) (t r h : ℕ) (seen : View) → IsStanding tag core → ((A : List Step) → Stands tag core A → Ok seen ≡ unless_fault (fault_of core.sizes A (Look t r h)) (view_of core.sizes t A)) → t < length core.views
  look_fits core t r h seen at told =
      let A = at.0 in
      let st : Stands tag core A = at.1 in
      let free : fault_of core.sizes A (Look t r h) ≡ None = (unless_ok (fault_of core.sizes A (Look t r h)) seen (view_of core.sizes t A) (told A st)).0 in
      omega (arith, (protected-none core.sizes A t (look-none core.sizes A t r h free).0).0, ap length st.views_is, length-slot_views core.sizes A)

  -- an accepted step that moves nothing
  nothing_moves : (core : State J) (A : List Step) (s : Step) (r : Reply) → Stands tag core A → fault_of core.sizes A s ≡ None → DrainStays tag A s → OffsetsStay s → PagesStay s → is_bump s ≡ false → ((t : ℕ) → enters t s ≡ false) → ((t : ℕ) → leaves t s ≡ false) → ((t : ℕ) → allocates t s ≡ false) → ((t : ℕ) → looked_read_only t s ≡ None) → ((t : ℕ) → looked_head t s ≡ None) → answer_of core.sizes A (A ++ s ∷ []) s ≡ r → Stepped tag core A s core (Ok r)
  nothing_moves core A s r st free d o p no_bump e l a x y reply =
      accepted_step tag core core A s r free refl reply (views_moved core A s core.views st free d o p no_bump e l (st.views_is ∙ sym (slot_views-stay core.sizes A s e l a x y)))

  -- an accepted write and an accepted read
  pub write_ok : (core : State J) (A : List Step) (t a v : ℕ) → Stands tag core A → fault_of core.sizes A (Write t a v) ≡ None → Stepped tag core A (Write t a v) core (Ok Written)
  write_ok core A t a v st free =
      nothing_moves core A (Write t a v) Written st free (record { takes_none = refl; ends_none = λ c. refl; stores_none = refl }) (record { done = refl; raised = refl; shifted = refl; allocated = λ x y. refl })
      (record { flush_taken = refl; flush_ended = refl; flushed = λ x. refl; clean_taken = refl; clean_ended = refl; freed = λ x. refl }) refl (λ x. refl) (λ x. refl) (λ x. refl) (λ x. refl) (λ x. refl) refl

  pub read_ok : (core : State J) (A : List Step) (t a : ℕ) → Stands tag core A → fault_of core.sizes A (Read t a) ≡ None → Stepped tag core A (Read t a) core (Ok Readable)
  read_ok core A t a st free =
      nothing_moves core A (Read t a) Readable st free (record { takes_none = refl; ends_none = λ c. refl; stores_none = refl }) (record { done = refl; raised = refl; shifted = refl; allocated = λ x y. refl })
      (record { flush_taken = refl; flush_ended = refl; flushed = λ x. refl; clean_taken = refl; clean_ended = refl; freed = λ x. refl }) refl (λ x. refl) (λ x. refl) (λ x. refl) (λ x. refl) (λ x. refl) refl

  -- a write and a read, accepted or not
  pub write_made : (core : State J) (t a v : ℕ) (result : Result (Unit {0}) Fault) → ((A : List Step) → Stands tag core A → result ≡ unless_fault (fault_of core.sizes A (Write t a v)) (tt {0})) → Made tag core (Write t a v) core (as_reply (λ _. Written) result)
  write_made core t a v (Ok u) h A st = write_ok core A t a v st (unless_ok (fault_of core.sizes A (Write t a v)) (tt {0}) (tt {0}) (h A st)).0
  write_made core t a v (Err f) h A st = refused_by core (Write t a v) f (λ B. tt {0}) h A st

  pub read_made : (core : State J) (t a : ℕ) (result : Result (Unit {0}) Fault) → ((A : List Step) → Stands tag core A → result ≡ unless_fault (fault_of core.sizes A (Read t a)) (tt {0})) → Made tag core (Read t a) core (as_reply (λ _. Readable) result)
  read_made core t a (Ok u) h A st = read_ok core A t a st (unless_ok (fault_of core.sizes A (Read t a)) (tt {0}) (tt {0}) (h A st)).0
  read_made core t a (Err f) h A st = refused_by core (Read t a) f (λ B. tt {0}) h A st
