-- Where a core stands after an allocation.
use Rattle.std.proofs.Common.{◌≡◌, ℕ, ◌/◌, ◌^◌, ◌<◌, Bool, true, false, cond, ◌||◌, List, [], ◌∷◌, ◌++◌, length, set, refl, sym, ap, ap₂, ◌∙◌, subst, arith}
use Rattle.std.specs.Prelude.{Option, Some, None, Result, Ok, Err}
use Rattle.std.proofs.lemmas.Bool.{or_left, or_right, or_from}
use Rattle.hl_model.specs.declared.fault.Fault.{Fault}
use Rattle.hl_model.specs.declared.fault.Fault.TheVariants.{Busy}
use Rattle.hl_model.specs.declared.step.Reply.TheVariants.{At}
use Rattle.hl_model.specs.declared.step.Step.{Step}
use Rattle.hl_model.specs.declared.step.Step.TheVariants.{Allocate}
use Rattle.hl_model.specs.declared.view.View.{View}
use Rattle.hl_model.specs.Sizes.{Sizes}
use Rattle.hl_model.specs.Offsets.{tail, place_of, is_entered}
use Rattle.hl_model.specs.Views.{view_of, slot_views}
use Rattle.hl_model.specs.Frames.{may_enter}
use Rattle.hl_model.specs.Replies.{fault_of, protected_fault, size_fault, page_fault, allocate_fault, or_fault, unless_fault, IsAccepted}
use Rattle.hl_laws.proofs.OffsetLaws.{read_only-stay, head-stay, tail-push}
use Rattle.hl_laws.proofs.NoFaultLaws.{protected-none, unless_err, unless_ok}
use Rattle.hl_laws.proofs.ViewLaws.{slot_views-allocate, length-slot_views}
use Rattle.hl_offsets.specs.Log.{Log, allocated}
use Rattle.hl_frames.specs.Pages.{Pages, may_enter as MAY_ENTER}
use Rattle.hl_frames.specs.Answers.{entered, enter_answer, after_enter}
use Rattle.hl_core.specs.Standing.{State, Stands, IsStanding, log_of, pages_of}
use Rattle.hl_core.specs.Steps.{Stepped, Made}
use Rattle.hl_core.proofs.PageEntered.{allocated_within, new_is_next, entered-is, new_within_space}
use Rattle.hl_core.proofs.PageFound.{enter_found}
use Rattle.hl_core.proofs.QuietLaws.{safe_read_only-quiet, closed-quiet}
use Rattle.hl_core.proofs.Refusals.{refused_by_test, passed_by_test}
use Rattle.hl_core.proofs.StandLaws.{refused_step, accepted_step, quiet_drain}
use Rattle.hl_core.proofs.TableLaws.{table_stays}

-- the offsets after an allocation
log-allocate : (sizes : Sizes) (A : List Step) (t n : ℕ) → IsAccepted sizes A → log_of sizes (A ++ Allocate t n ∷ []) ≡ allocated n (log_of sizes A)
log-allocate sizes A t n a =
    rw (closed-quiet sizes A (Allocate t n) a refl, head-stay A (Allocate t n) refl, safe_read_only-quiet sizes A (Allocate t n) a refl, read_only-stay A (Allocate t n) refl, tail-push sizes A (Allocate t n)) refl

-- a view whose tail moved
abbrev pub seen_with : View → ℕ → View
seen_with view end = record { read_only = view.read_only; head = view.head; tail = end }

module _ {J : Type 0} (tag : J → ℕ) (core : State J) where
  -- a slot's view is told, or its fault
  abbrev pub SeenAs : ℕ → Result View Fault → Type 0
  SeenAs t told = (A : List Step) → Stands tag core A → told ≡ unless_fault (protected_fault core.sizes A t) (view_of core.sizes t A)

  -- it is told whether a page is entered
  abbrev pub EnteredAs : ℕ → Bool → Type 0
  EnteredAs q told = (A : List Step) → Stands tag core A → told ≡ is_entered core.sizes q A

  -- the place of a record is told, or its fault
  abbrev pub PlacedAs : ℕ → Result ℕ Fault → Type 0
  PlacedAs n told = told ≡ unless_fault (size_fault core.offsets.page_size core.offsets.tail n) (place_of core.offsets.page_size core.offsets.tail n)

  -- a slot with a view is protected
  seen_none : (A : List Step) (t : ℕ) (view : View) → Stands tag core A → SeenAs t (Ok view) → (protected_fault core.sizes A t ≡ None) × (view ≡ view_of core.sizes t A)
  seen_none A t view st seen = unless_ok (protected_fault core.sizes A t) view (view_of core.sizes t A) (seen A st)

  -- the size is judged by the list's page and tail
  size_same : (A : List Step) (n : ℕ) → Stands tag core A → size_fault core.offsets.page_size core.offsets.tail n ≡ size_fault core.sizes.page_size (tail core.sizes A) n
  size_same A n st = ap (λ log. size_fault log.page_size log.tail n) st.offsets_is

  -- and so is the place
  place_same : (A : List Step) (n : ℕ) → Stands tag core A → place_of core.offsets.page_size core.offsets.tail n ≡ place_of core.sizes.page_size (tail core.sizes A) n
  place_same A n st = ap (λ log. place_of log.page_size log.tail n) st.offsets_is

  -- a record that is placed has no fault of its size, and lies there
  placed_ok : (A : List Step) (n place : ℕ) → Stands tag core A → PlacedAs n (Ok place) → (size_fault core.sizes.page_size (tail core.sizes A) n ≡ None) × (place ≡ place_of core.sizes.page_size (tail core.sizes A) n)
  placed_ok A n place st h =
      let told = unless_ok (size_fault core.offsets.page_size core.offsets.tail n) place (place_of core.offsets.page_size core.offsets.tail n) h in
      (sym (size_same A n st) ∙ told.0, told.1 ∙ place_same A n st)

  -- the fault of an allocation by a protected slot
  fault_is : (A : List Step) (t n : ℕ) (o : Option Fault) → protected_fault core.sizes A t ≡ None → size_fault core.sizes.page_size (tail core.sizes A) n ≡ o → fault_of core.sizes A (Allocate t n) ≡ or_fault o (page_fault core.sizes A (place_of core.sizes.page_size (tail core.sizes A) n / core.sizes.page_size))
  fault_is A t n o seated size =
      ap (λ f. or_fault f (allocate_fault core.sizes A n)) seated
      ∙ ap (λ f. or_fault f (page_fault core.sizes A (place_of core.sizes.page_size (tail core.sizes A) n / core.sizes.page_size))) size

  -- the page of a place that was told
  page_is : (A : List Step) (n place page_size : ℕ) → Stands tag core A → PlacedAs n (Ok place) → page_size ≡ core.sizes.page_size → place / page_size ≡ place_of core.sizes.page_size (tail core.sizes A) n / core.sizes.page_size
  page_is A n place page_size st h is = ap₂ (λ a b. a / b) (placed_ok A n place st h).1 is

  -- what an allocation would be answered
  pub may_allocate_told : (t n place page_size : ℕ) (view : View) (b : Bool) → SeenAs t (Ok view) → PlacedAs n (Ok place) → page_size ≡ core.sizes.page_size → ((A : List Step) → Stands tag core A → (is_entered core.sizes (place / page_size) A || may_enter core.sizes (place / page_size) A) ≡ b) → (A : List Step) → Stands tag core A → unless_fault (cond b None (Some (Busy (place / page_size)))) place ≡ unless_fault (fault_of core.sizes A (Allocate t n)) (place_of core.sizes.page_size (tail core.sizes A) n)
  may_allocate_told t n place page_size view b seen placed at enters A st =
      let told = placed_ok A n place st placed in
      let there : place / page_size ≡ place_of core.sizes.page_size (tail core.sizes A) n / core.sizes.page_size = page_is A n place page_size st placed at in
      ap₂ unless_fault
      (ap (λ e. cond e None (Some (Busy (place / page_size)))) (sym (enters A st))
      ∙ ap (page_fault core.sizes A) there
      ∙ sym (fault_is A t n None (seen_none A t view st seen).0 told.0))
      told.1

  -- what an allocation would be answered, where its slot has no view
  pub may_allocate_slot : (t n : ℕ) (f : Fault) → SeenAs t (Err f) → (A : List Step) → Stands tag core A → Err f ≡ unless_fault (fault_of core.sizes A (Allocate t n)) (place_of core.sizes.page_size (tail core.sizes A) n)
  may_allocate_slot t n f seen A st =
      let protected : protected_fault core.sizes A t ≡ Some f = unless_err (protected_fault core.sizes A t) f (view_of core.sizes t A) (seen A st) in
      sym (ap (λ o. unless_fault (or_fault o (allocate_fault core.sizes A n)) (place_of core.sizes.page_size (tail core.sizes A) n)) protected)

  -- what one of a bad size would be answered
  pub may_allocate_size : (t n : ℕ) (view : View) (f : Fault) → SeenAs t (Ok view) → PlacedAs n (Err f) → (A : List Step) → Stands tag core A → Err f ≡ unless_fault (fault_of core.sizes A (Allocate t n)) (place_of core.sizes.page_size (tail core.sizes A) n)
  may_allocate_size t n view f seen placed A st =
      let size : size_fault core.sizes.page_size (tail core.sizes A) n ≡ Some f = sym (size_same A n st) ∙ unless_err (size_fault core.offsets.page_size core.offsets.tail n) f (place_of core.offsets.page_size core.offsets.tail n) placed in
      sym (ap (λ o. unless_fault o (place_of core.sizes.page_size (tail core.sizes A) n)) (fault_is A t n (Some f) (seen_none A t view st seen).0 size))

  -- an allocation of a slot that isn't protected
  pub slot_refused : (t n : ℕ) (f : Fault) → SeenAs t (Err f) → Made tag core (Allocate t n) core (Err f)
  slot_refused t n f seen A st =
      refused_step tag core A (Allocate t n) f st (ap (λ o. or_fault o (allocate_fault core.sizes A n)) (unless_err (protected_fault core.sizes A t) f (view_of core.sizes t A) (seen A st)))

  -- an allocation of a bad size
  pub size_refused : (t n : ℕ) (view : View) (f : Fault) → SeenAs t (Ok view) → PlacedAs n (Err f) → Made tag core (Allocate t n) core (Err f)
  size_refused t n view f seen placed A st =
      let size : size_fault core.sizes.page_size (tail core.sizes A) n ≡ Some f = sym (size_same A n st) ∙ unless_err (size_fault core.offsets.page_size core.offsets.tail n) f (place_of core.offsets.page_size core.offsets.tail n) placed in
      refused_step tag core A (Allocate t n) f st (fault_is A t n (Some f) (seen_none A t view st seen).0 size)

  -- a page that is entered is the next one
  pub enter_next : (n place page_size : ℕ) → IsStanding tag core → PlacedAs n (Ok place) → page_size ≡ core.sizes.page_size → EnteredAs (place / page_size) false → place / page_size ≡ core.pages.entered
  enter_next n place page_size (A, st) placed at unentered =
      let told = placed_ok A n place st placed in
      let there : place / page_size ≡ place_of core.sizes.page_size (tail core.sizes A) n / core.sizes.page_size = page_is A n place page_size st placed at in
      sym (ap (λ (pages : Pages). pages.entered) st.pages_is
      ∙ new_is_next core.sizes A 0 n (place / page_size) st.in_range st.accepted told.0 (sym there) (sym (unentered A st)))

  -- and lies below the last address
  pub enter_fits : (n place page_size : ℕ) → IsStanding tag core → PlacedAs n (Ok place) → page_size ≡ core.sizes.page_size → place / page_size < 2 ^ 48 / core.pages.page_size
  enter_fits n place page_size (A, st) placed at =
      let told = placed_ok A n place st placed in
      let there : place / page_size ≡ place_of core.sizes.page_size (tail core.sizes A) n / core.sizes.page_size = page_is A n place page_size st placed at in
      subst (λ (q : ℕ). q < 2 ^ 48 / core.pages.page_size) (sym there)
      (subst (λ (words : ℕ). place_of core.sizes.page_size (tail core.sizes A) n / core.sizes.page_size < 2 ^ 48 / words) (sym (ap (λ (pages : Pages). pages.page_size) st.pages_is)) (new_within_space core.sizes A n st.in_range told.0))

  -- an allocation into a page whose frame isn't free
  pub enter_refused : (t n place page_size : ℕ) (view : View) (f : Fault) (pages : Pages) → SeenAs t (Ok view) → PlacedAs n (Ok place) → page_size ≡ core.sizes.page_size → EnteredAs (place / page_size) false → Err f ≡ enter_answer (place / page_size) core.pages → pages ≡ after_enter (place / page_size) core.pages → Made tag core (Allocate t n) (record { sizes = core.sizes; table = core.table; views = core.views; drain = core.drain; offsets = core.offsets; pages = pages }) (Err f)
  enter_refused t n place page_size view f pages seen placed at unentered h e A st =
      let told = placed_ok A n place st placed in
      let there : place / page_size ≡ place_of core.sizes.page_size (tail core.sizes A) n / core.sizes.page_size = page_is A n place page_size st placed at in
      let busy = refused_by_test (Busy (place / page_size)) f (MAY_ENTER (place / page_size) core.pages) (tt {0}) h in
      let shut : may_enter core.sizes (place / page_size) A ≡ false = sym (enter_found tag core A (place / page_size) st) ∙ busy.0 in
      let no_page : page_fault core.sizes A (place / page_size) ≡ Some f = ap (λ b. cond b None (Some (Busy (place / page_size)))) (or_from (is_entered core.sizes (place / page_size) A) (may_enter core.sizes (place / page_size) A) (sym (unentered A st)) shut) ∙ ap Some (sym busy.1) in
      let fault : fault_of core.sizes A (Allocate t n) ≡ Some f = fault_is A t n None (seen_none A t view st seen).0 told.0 ∙ sym (ap (page_fault core.sizes A) there) ∙ no_page in
      let same : pages ≡ core.pages = e ∙ ap (λ b. cond b (entered (place / page_size) core.pages) core.pages) busy.0 in
      subst (λ (z : Pages). Stepped tag core A (Allocate t n) (record { sizes = core.sizes; table = core.table; views = core.views; drain = core.drain; offsets = core.offsets; pages = z }) (Err f)) (sym same) (refused_step tag core A (Allocate t n) f st fault)

  -- the frames are those of the list with the record, whose page is entered or may be
  abbrev pub EnteredBy : ℕ → ℕ → Pages → Type 0
  EnteredBy t n pages = (A : List Step) → Stands tag core A → (page_fault core.sizes A (place_of core.sizes.page_size (tail core.sizes A) n / core.sizes.page_size) ≡ None) × (pages ≡ pages_of core.sizes (A ++ Allocate t n ∷ []))

  -- so they are where the page was entered
  pub entered_before : (t n place page_size : ℕ) → PlacedAs n (Ok place) → page_size ≡ core.sizes.page_size → EnteredAs (place / page_size) true → EnteredBy t n core.pages
  entered_before t n place page_size placed at was A st =
      let told = placed_ok A n place st placed in
      let there : place / page_size ≡ place_of core.sizes.page_size (tail core.sizes A) n / core.sizes.page_size = page_is A n place page_size st placed at in
      let old : is_entered core.sizes (place_of core.sizes.page_size (tail core.sizes A) n / core.sizes.page_size) A ≡ true = sym (was A st ∙ ap (λ q. is_entered core.sizes q A) there) in (
        ap (λ b. cond b None (Some (Busy (place_of core.sizes.page_size (tail core.sizes A) n / core.sizes.page_size)))) (or_left (is_entered core.sizes (place_of core.sizes.page_size (tail core.sizes A) n / core.sizes.page_size) A) (may_enter core.sizes (place_of core.sizes.page_size (tail core.sizes A) n / core.sizes.page_size) A) old),
        st.pages_is ∙ sym (allocated_within core.sizes A t n st.in_range told.0 old),
      )

  -- and where it is entered now
  pub entered_now : (t n place page_size : ℕ) (pages : Pages) → PlacedAs n (Ok place) → page_size ≡ core.sizes.page_size → EnteredAs (place / page_size) false → Ok (tt {0}) ≡ enter_answer (place / page_size) core.pages → pages ≡ after_enter (place / page_size) core.pages → EnteredBy t n pages
  entered_now t n place page_size pages placed at unentered h e A st =
      let told = placed_ok A n place st placed in
      let there : place / page_size ≡ place_of core.sizes.page_size (tail core.sizes A) n / core.sizes.page_size = page_is A n place page_size st placed at in
      let free : MAY_ENTER (place / page_size) core.pages ≡ true = (passed_by_test (Busy (place / page_size)) (MAY_ENTER (place / page_size) core.pages) (tt {0}) (tt {0}) h).0 in
      let may : may_enter core.sizes (place / page_size) A ≡ true = sym (enter_found tag core A (place / page_size) st) ∙ free in
      let none : page_fault core.sizes A (place / page_size) ≡ None = ap (λ b. cond b None (Some (Busy (place / page_size)))) (or_right (is_entered core.sizes (place / page_size) A) (may_enter core.sizes (place / page_size) A) may) in (
        sym (ap (page_fault core.sizes A) there) ∙ none,
        e ∙ ap (λ b. cond b (entered (place / page_size) core.pages) core.pages) free ∙ ap (entered (place / page_size)) st.pages_is
            ∙ sym (entered-is core.sizes A t n (place / page_size) st.in_range st.accepted told.0 (sym there) (sym (unentered A st))),
      )

  -- a slot that saw something has a view's place
  pub seen_fits : (t : ℕ) (view : View) → IsStanding tag core → SeenAs t (Ok view) → t < length core.views
  seen_fits t view (A, st) seen = omega (arith, (protected-none core.sizes A t (seen_none A t view st seen).0).0, ap (λ (xs : List (Option View)). length xs) st.views_is, length-slot_views core.sizes A)

  -- an accepted allocation
  pub allocate_ok : (t n place end : ℕ) (view : View) (log : Log) (pages : Pages) → SeenAs t (Ok view) → PlacedAs n (Ok place) → log ≡ allocated n core.offsets → end ≡ log.tail → EnteredBy t n pages → Made tag core (Allocate t n) (record { sizes = core.sizes; table = core.table; views = set core.views t (Some (record { read_only = view.read_only; head = view.head; tail = end })); drain = core.drain; offsets = log; pages = pages }) (Ok (At place))
  allocate_ok t n place end view log pages seen placed moved end_is enters A st =
      let told = placed_ok A n place st placed in
      let seated = seen_none A t view st seen in
      let paged = enters A st in
      let none : fault_of core.sizes A (Allocate t n) ≡ None = fault_is A t n None seated.0 told.0 ∙ paged.0 in
      let log_is : log ≡ log_of core.sizes (A ++ Allocate t n ∷ []) =
      moved ∙ ap (allocated n) st.offsets_is ∙ sym (log-allocate core.sizes A t n st.accepted) in
      let tail_is : end ≡ tail core.sizes (A ++ Allocate t n ∷ []) = end_is ∙ ap (λ (l : Log). l.tail) log_is in
      let view_is : seen_with view end ≡ seen_with (view_of core.sizes t A) (tail core.sizes (A ++ Allocate t n ∷ [])) = ap₂ seen_with seated.1 tail_is in
      let rows : set core.views t (Some (seen_with view end)) ≡ slot_views core.sizes (A ++ Allocate t n ∷ []) =
      ap₂ (λ xs (v : View). set xs t (Some v)) st.views_is view_is ∙ sym (slot_views-allocate core.sizes A t n (protected-none core.sizes A t seated.0).1) in
      accepted_step tag core (record { sizes = core.sizes; table = core.table; views = set core.views t (Some (seen_with view end)); drain = core.drain; offsets = log; pages = pages }) A (Allocate t n) (At place) none refl (ap At (sym told.1))
      (quiet_drain tag core A (Allocate t n) core.table (set core.views t (Some (seen_with view end))) log pages st none
      (record { takes_none = refl; ends_none = λ c. refl; stores_none = refl })
      (table_stays core.sizes A (Allocate t n) core.table st.table_is refl (λ u. refl) (λ u. refl)) rows log_is paged.1)

  -- where a page is entered, it is entered or may be
  pub enters_old : (q : ℕ) (r b : Bool) → true ≡ b → r ≡ true → EnteredAs q r → (A : List Step) → Stands tag core A → (is_entered core.sizes q A || may_enter core.sizes q A) ≡ b
  enters_old q r b is t told A st = or_left (is_entered core.sizes q A) (may_enter core.sizes q A) (sym (told A st) ∙ t) ∙ is

  -- where it isn't, the frames tell whether it may be
  pub enters_new : (q : ℕ) (r may b : Bool) → may ≡ b → r ≡ false → EnteredAs q r → may ≡ MAY_ENTER q core.pages → (A : List Step) → Stands tag core A → (is_entered core.sizes q A || may_enter core.sizes q A) ≡ b
  enters_new q r may b is f told free A st =
      ap (λ e. e || may_enter core.sizes q A) (sym (told A st) ∙ f) ∙ sym (enter_found tag core A q st) ∙ sym free ∙ is

  -- what is told of an address's page, by the words of a page
  pub entered_at : (place page_size : ℕ) (r : Bool) → page_size ≡ core.sizes.page_size → EnteredAs (place / core.sizes.page_size) r → EnteredAs (place / page_size) r
  entered_at place page_size r is told = subst (λ (w : ℕ). EnteredAs (place / w) r) (sym is) told

  -- what is told of a page, by its answer
  pub entered_as : (q : ℕ) (r b : Bool) → r ≡ b → EnteredAs q r → EnteredAs q b
  entered_as q r b is told A st = sym is ∙ told A st
