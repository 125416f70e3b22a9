-- Where a core stands after a raise and a shift, and its six offsets.
use Rattle.std.proofs.Common.{◌≡◌, ℕ, ◌%◌, ◌<◌, ◌≤◌, List, [], ◌∷◌, ◌++◌, refl, sym, ap, ap₂, ◌∙◌, subst, arith, eq-eqb}
use Rattle.std.specs.Prelude.{Some, None, Ok, Err}
use Rattle.std.proofs.lemmas.Bool.{lt-leb, lt-ltb}
use Rattle.hl_model.specs.declared.fault.Fault.{Fault}
use Rattle.hl_model.specs.declared.fault.Fault.TheVariants.{AboveFlushed}
use Rattle.hl_model.specs.declared.step.Reply.TheVariants.{Raised, Shifted}
use Rattle.hl_model.specs.declared.step.Step.{Step}
use Rattle.hl_model.specs.declared.step.Step.TheVariants.{Raise, Shift}
use Rattle.hl_model.specs.declared.view.Six.{Six}
use Rattle.hl_model.specs.Sizes.{Sizes}
use Rattle.hl_model.specs.Offsets.{head}
use Rattle.hl_model.specs.Pages.{flushed}
use Rattle.hl_model.specs.Snapshots.{six, AreInOrder}
use Rattle.hl_model.specs.Replies.{fault_of, raise_fault, shift_fault, unless_fault, unless_refused, IsAccepted}
use Rattle.hl_laws.proofs.OffsetLaws.{read_only-stay, head-stay, read_only-raise, head-shift}
use Rattle.hl_laws.proofs.OrderLaws.{offsets_are_in_order}
use Rattle.hl_laws.proofs.PageFacts.{flushed-le-safe_read_only}
use Rattle.hl_laws.proofs.ViewLaws.{slot_views-stay}
use Rattle.hl_frames.specs.Pages.{flushed_offset}
use Rattle.hl_offsets.specs.Log.{Log, raised, shifted, six_of}
use Rattle.hl_core.specs.Standing.{State, Stands, IsStanding, log_of}
use Rattle.hl_core.specs.Steps.{Stepped, Made}
use Rattle.hl_core.proofs.PageOffsets.{pages_of-flushed}
use Rattle.hl_core.proofs.TableLaws.{table_stays}
use Rattle.hl_core.proofs.Refusals.{call_refuses, call_accepts}
use Rattle.hl_core.proofs.QuietLaws.{safe_read_only-quiet, closed-quiet, tail-stays, pages-stay}
use Rattle.hl_core.proofs.StandLaws.{refused_step, accepted_step, quiet_drain}
use Rattle.hl_laws.proofs.NoFaultLaws.{shift_lawful}

-- the offsets after a raise and a shift
log-raise : (sizes : Sizes) (A : List Step) (x : ℕ) → IsAccepted sizes A → fault_of sizes A (Raise x) ≡ None → log_of sizes (A ++ Raise x ∷ []) ≡ raised x (log_of sizes A)
log-raise sizes A x acc h = rw (closed-quiet sizes A (Raise x) acc refl, head-stay A (Raise x) refl, safe_read_only-quiet sizes A (Raise x) acc refl, read_only-raise sizes A x h, tail-stays sizes A (Raise x) (λ p t. refl)) refl

log-shift : (sizes : Sizes) (A : List Step) (x : ℕ) → IsAccepted sizes A → fault_of sizes A (Shift x) ≡ None → log_of sizes (A ++ Shift x ∷ []) ≡ shifted x (log_of sizes A)
log-shift sizes A x acc h = rw (closed-quiet sizes A (Shift x) acc refl, head-shift sizes A x h, safe_read_only-quiet sizes A (Shift x) acc refl, read_only-stay A (Shift x) refl, tail-stays sizes A (Shift x) (λ p t. refl)) refl

-- the fault of a shift that is above the head, at a page's start, and above the flushed offset or not
shift_above : (page_size head flushed x : ℕ) → head < x → x % page_size ≡ 0 → flushed < x → shift_fault page_size head flushed x ≡ Some AboveFlushed
shift_above page_size head flushed x h w f = rw (lt-leb x head h, eq-eqb (x % page_size) 0 w, lt-ltb flushed x f) refl

module _ {J : Type 0} (tag : J → ℕ) where
  -- a refused raise
  pub raise_err : (core : State J) (x : ℕ) (f : Fault) (offsets : Log) → Err f ≡ unless_fault (raise_fault core.offsets.read_only core.offsets.tail x) (tt {0}) → offsets ≡ unless_refused (raise_fault core.offsets.read_only core.offsets.tail x) core.offsets (raised x core.offsets) → Made tag core (Raise x) (record { sizes = core.sizes; table = core.table; views = core.views; drain = core.drain; offsets = offsets; pages = core.pages }) (Err f)
  raise_err core x f offsets a e A st =
      let both = call_refuses (raise_fault core.offsets.read_only core.offsets.tail x) f (tt {0}) core.offsets (raised x core.offsets) offsets a e in
      subst (λ (z : Log). Stepped tag core A (Raise x) (record { sizes = core.sizes; table = core.table; views = core.views; drain = core.drain; offsets = z; pages = core.pages }) (Err f)) (sym both.1)
      (refused_step tag core A (Raise x) f st (sym (ap (λ (z : Log). raise_fault z.read_only z.tail x) st.offsets_is) ∙ both.0))

  -- an accepted raise
  pub raise_ok : (core : State J) (x : ℕ) (offsets : Log) → Ok (tt {0}) ≡ unless_fault (raise_fault core.offsets.read_only core.offsets.tail x) (tt {0}) → offsets ≡ unless_refused (raise_fault core.offsets.read_only core.offsets.tail x) core.offsets (raised x core.offsets) → Made tag core (Raise x) (record { sizes = core.sizes; table = core.table; views = core.views; drain = core.drain; offsets = offsets; pages = core.pages }) (Ok (Raised x))
  raise_ok core x offsets a e A st =
      let both = call_accepts (raise_fault core.offsets.read_only core.offsets.tail x) (tt {0}) (tt {0}) core.offsets (raised x core.offsets) offsets a e in
      let free : fault_of core.sizes A (Raise x) ≡ None = sym (ap (λ (z : Log). raise_fault z.read_only z.tail x) st.offsets_is) ∙ both.0 in
      accepted_step tag core (record { sizes = core.sizes; table = core.table; views = core.views; drain = core.drain; offsets = offsets; pages = core.pages }) A (Raise x) (Raised x) free refl
      (ap (λ n. Raised n) (read_only-raise core.sizes A x free))
      (quiet_drain tag core A (Raise x) core.table core.views offsets core.pages st free (record { takes_none = refl; ends_none = λ c. refl; stores_none = refl })
      (table_stays core.sizes A (Raise x) core.table st.table_is refl (λ t. refl) (λ t. refl))
      (st.views_is ∙ sym (slot_views-stay core.sizes A (Raise x) (λ t. refl) (λ t. refl) (λ t. refl) (λ t. refl) (λ t. refl)))
      (both.1 ∙ ap (raised x) st.offsets_is ∙ sym (log-raise core.sizes A x st.accepted free))
      (st.pages_is ∙ sym (pages-stay core.sizes A (Raise x) (λ p t. refl) (record { flush_taken = refl; flush_ended = refl; flushed = λ p. refl; clean_taken = refl; clean_ended = refl; freed = λ p. refl }))))

  -- the flushed offset that the frames tell
  pub flushed_is : (core : State J) (A : List Step) → Stands tag core A → flushed_offset core.pages ≡ flushed core.sizes A
  flushed_is core A st = ap flushed_offset st.pages_is ∙ pages_of-flushed core.sizes A st.in_range st.accepted

  shift_fault-is : (core : State J) (A : List Step) (x told : ℕ) → Stands tag core A → told ≡ flushed_offset core.pages → shift_fault core.offsets.page_size core.offsets.head told x ≡ fault_of core.sizes A (Shift x)
  shift_fault-is core A x told st t = ap₂ (λ (z : Log) (n : ℕ). shift_fault z.page_size z.head n x) st.offsets_is (t ∙ flushed_is core A st)

  -- it is at most the safe read-only offset
  pub flushed_fits : (core : State J) (told : ℕ) → IsStanding tag core → told ≡ flushed_offset core.pages → told ≤ core.offsets.safe_read_only
  flushed_fits core told at t =
      let A = at.0 in
      let st : Stands tag core A = at.1 in
      let least : 0 < core.sizes.page_size = omega (arith, st.in_range.page_size_least) in
      omega (arith, t, flushed_is core A st, flushed-le-safe_read_only core.sizes A least st.accepted, ap (λ (z : Log). z.safe_read_only) st.offsets_is)

  -- a refused shift
  pub shift_err : (core : State J) (x told : ℕ) (f : Fault) (offsets : Log) → told ≡ flushed_offset core.pages → Err f ≡ unless_fault (shift_fault core.offsets.page_size core.offsets.head told x) (tt {0}) → offsets ≡ unless_refused (shift_fault core.offsets.page_size core.offsets.head told x) core.offsets (shifted x core.offsets) → Made tag core (Shift x) (record { sizes = core.sizes; table = core.table; views = core.views; drain = core.drain; offsets = offsets; pages = core.pages }) (Err f)
  shift_err core x told f offsets t a e A st =
      let both = call_refuses (shift_fault core.offsets.page_size core.offsets.head told x) f (tt {0}) core.offsets (shifted x core.offsets) offsets a e in
      subst (λ (z : Log). Stepped tag core A (Shift x) (record { sizes = core.sizes; table = core.table; views = core.views; drain = core.drain; offsets = z; pages = core.pages }) (Err f)) (sym both.1)
      (refused_step tag core A (Shift x) f st (sym (shift_fault-is core A x told st t) ∙ both.0))

  -- an accepted shift
  pub shift_ok : (core : State J) (x told : ℕ) (offsets : Log) → told ≡ flushed_offset core.pages → Ok (tt {0}) ≡ unless_fault (shift_fault core.offsets.page_size core.offsets.head told x) (tt {0}) → offsets ≡ unless_refused (shift_fault core.offsets.page_size core.offsets.head told x) core.offsets (shifted x core.offsets) → Made tag core (Shift x) (record { sizes = core.sizes; table = core.table; views = core.views; drain = core.drain; offsets = offsets; pages = core.pages }) (Ok (Shifted x))
  shift_ok core x told offsets t a e A st =
      let both = call_accepts (shift_fault core.offsets.page_size core.offsets.head told x) (tt {0}) (tt {0}) core.offsets (shifted x core.offsets) offsets a e in
      let free : fault_of core.sizes A (Shift x) ≡ None = sym (shift_fault-is core A x told st t) ∙ both.0 in
      accepted_step tag core (record { sizes = core.sizes; table = core.table; views = core.views; drain = core.drain; offsets = offsets; pages = core.pages }) A (Shift x) (Shifted x) free refl
      (ap (λ n. Shifted n) (head-shift core.sizes A x free))
      (quiet_drain tag core A (Shift x) core.table core.views offsets core.pages st free (record { takes_none = refl; ends_none = λ c. refl; stores_none = refl })
      (table_stays core.sizes A (Shift x) core.table st.table_is refl (λ t. refl) (λ t. refl))
      (st.views_is ∙ sym (slot_views-stay core.sizes A (Shift x) (λ t. refl) (λ t. refl) (λ t. refl) (λ t. refl) (λ t. refl)))
      (both.1 ∙ ap (shifted x) st.offsets_is ∙ sym (log-shift core.sizes A x st.accepted free))
      (st.pages_is ∙ sym (pages-stay core.sizes A (Shift x) (λ p t. refl) (record { flush_taken = refl; flush_ended = refl; flushed = λ p. refl; clean_taken = refl; clean_ended = refl; freed = λ p. refl }))))

  -- whether a shift may be
  pub shift_told : (core : State J) (x told : ℕ) → told ≡ flushed_offset core.pages → core.offsets.head < x → x % core.sizes.page_size ≡ 0 → told < x → (A : List Step) → Stands tag core A → Err AboveFlushed ≡ unless_fault (fault_of core.sizes A (Shift x)) (tt {0})
  shift_told core x told t h w f A st =
      sym (ap (λ o. unless_fault o (tt {0})) (shift_above core.sizes.page_size (head A) (flushed core.sizes A) x (omega (arith, h, ap (λ (z : Log). z.head) st.offsets_is)) w (omega (arith, f, t, flushed_is core A st))))

  pub shift_free : (core : State J) (x told : ℕ) → told ≡ flushed_offset core.pages → core.offsets.head < x → x % core.sizes.page_size ≡ 0 → x ≤ told → (A : List Step) → Stands tag core A → Ok (tt {0}) ≡ unless_fault (fault_of core.sizes A (Shift x)) (tt {0})
  shift_free core x told t h w f A st =
      sym (ap (λ o. unless_fault o (tt {0})) (shift_lawful core.sizes.page_size (head A) (flushed core.sizes A) x (omega (arith, h, ap (λ (z : Log). z.head) st.offsets_is)) w (omega (arith, f, t, flushed_is core A st))))

  -- the six offsets
  pub six_is : (core : State J) (told : ℕ) (s : Six) → told ≡ flushed_offset core.pages → s ≡ six_of core.offsets told → (A : List Step) → Stands tag core A → s ≡ six core.sizes A
  six_is core told s t e A st = e ∙ ap₂ six_of st.offsets_is (t ∙ flushed_is core A st)

  pub six_in_order : (core : State J) (told : ℕ) (s : Six) → IsStanding tag core → told ≡ flushed_offset core.pages → s ≡ six_of core.offsets told → AreInOrder core.sizes.page_size s
  six_in_order core told s at t e =
      let A = at.0 in
      let st : Stands tag core A = at.1 in
      subst (λ (z : Six). AreInOrder core.sizes.page_size z) (sym (six_is core told s t e A st)) (offsets_are_in_order core.sizes A (omega (arith, st.in_range.page_size_least)) st.accepted)
