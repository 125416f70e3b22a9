-- Where a core stands after a take.
use Rattle.std.proofs.Common.{◌≡◌, ℕ, ◌<◌, ◌≤◌, Bool, true, false, cond, eqb, leb, ltb, List, [], ◌∷◌, ◌++◌, length, map, drop, get_or, refl, sym, ap, ap₂, ◌∙◌, subst, arith, eq-eqb, ne_eqb}
use Rattle.std.specs.Prelude.{Some, None, Ok, Err, option_map, slice_get}
use Rattle.std.proofs.lemmas.Bool.{leb-true, leb-false, le-ltb, lt-ltb}
use Rattle.hl_model.specs.declared.action.Waiting.{Waiting}
use Rattle.hl_model.specs.declared.fault.Fault.{Fault}
use Rattle.hl_model.specs.declared.fault.Fault.TheVariants.{Empty, NotReady}
use Rattle.hl_model.specs.declared.step.Reply.TheVariants.{Taken}
use Rattle.hl_model.specs.declared.step.Step.{Step}
use Rattle.hl_model.specs.declared.step.Step.TheVariants.{Take}
use Rattle.hl_model.specs.Epochs.{safe_epoch}
use Rattle.hl_model.specs.Actions.{pending, front}
use Rattle.hl_model.specs.Replies.{take_fault, unless_fault}
use Rattle.hl_laws.proofs.AcceptedLaws.{IsAccepted-push}
use Rattle.hl_laws.proofs.ActionLaws.{pending-take, ticket-front}
use Rattle.hl_laws.proofs.DrainLaws.{taken-next}
use Rattle.hl_laws.proofs.ViewLaws.{slot_views-stay}
use Rattle.hl_epoch.specs.Table.{safe_of}
use Rattle.hl_drain.specs.declared.action.Action.{Action}
use Rattle.hl_drain.specs.Actions.{waiting_of}
use Rattle.hl_drain.specs.Lists.{Lists, IsDrain, taken_from, after_take}
use Rattle.hl_core.specs.Standing.{State, Stands}
use Rattle.hl_core.specs.Steps.{Stepped, Made}
use Rattle.hl_core.proofs.TableLaws.{table_stays}
use Rattle.hl_core.proofs.QuietLaws.{log-stays, pages-stay}
use Rattle.hl_core.proofs.StandLaws.{refused_step, accepted_step}

-- the fault of a take of an empty list, of one whose front isn't safe, and of one whose front is
fault_empty : (n front safe : ℕ) → n ≡ 0 → cond (eqb n 0) (Some Empty) (cond (ltb safe front) (Some (NotReady front safe)) None) ≡ Some Empty
fault_empty n front safe h = ap (λ b. cond b (Some Empty) (cond (ltb safe front) (Some (NotReady front safe)) None)) (eq-eqb n 0 h)

fault_early : (n front safe : ℕ) → 0 < n → safe < front → cond (eqb n 0) (Some Empty) (cond (ltb safe front) (Some (NotReady front safe)) None) ≡ Some (NotReady front safe)
fault_early n front safe some early =
    ap₂ (λ b d. cond b (Some Empty) (cond d (Some (NotReady front safe)) None)) (ne_eqb n 0 (λ z. absurd (omega (arith, z, some)))) (lt-ltb safe front early)

fault_ready : (n front safe : ℕ) → 0 < n → front ≤ safe → cond (eqb n 0) (Some Empty) (cond (ltb safe front) (Some (NotReady front safe)) None) ≡ None
fault_ready n front safe some ready =
    ap₂ (λ b d. cond b (Some Empty) (cond d (Some (NotReady front safe)) None)) (ne_eqb n 0 (λ z. absurd (omega (arith, z, some)))) (le-ltb safe front ready)

-- a list from its first element
pub first_of : {X : Type 0} (xs : List X) (x : X) → 0 < length xs → x ≡ get_or xs 0 x → xs ≡ x ∷ drop 1 xs
first_of [] x lt h = absurd (omega (arith, lt))
first_of (y ∷ ys) x lt h = ap (λ z. z ∷ ys) (sym h)

module _ {J : Type 0} (tag : J → ℕ) where
  -- the safe epoch that the table tells
  pub safe_is : (core : State J) (A : List Step) → Stands tag core A → safe_of core.table ≡ safe_epoch core.sizes.slots A
  unfolding safe_epoch
  safe_is core A st = ap safe_of st.table_is

  -- the fault of a take, by the pending actions and the safe epoch
  pub take_empty : (core : State J) (A : List Step) → Stands tag core A → core.drain.pending ≡ [] → take_fault core.sizes A ≡ Some Empty
  take_empty core A st p = fault_empty (length (pending A)) (front A) (safe_epoch core.sizes.slots A) (sym (ap length st.pending_is) ∙ ap (λ z. length (map (waiting_of tag) z)) p)

  first_is : (core : State J) (A : List Step) (oldest : ℕ × Action J) (later : List (ℕ × Action J)) → Stands tag core A → core.drain.pending ≡ oldest ∷ later → pending A ≡ waiting_of tag oldest ∷ map (waiting_of tag) later
  first_is core A oldest later st p = sym st.pending_is ∙ ap (map (waiting_of tag)) p

  pub take_early : (core : State J) (A : List Step) (oldest : ℕ × Action J) (later : List (ℕ × Action J)) → Stands tag core A → core.drain.pending ≡ oldest ∷ later → safe_of core.table < oldest.0 → take_fault core.sizes A ≡ Some (NotReady oldest.0 (safe_of core.table))
  take_early core A oldest later st p early =
      let first : pending A ≡ waiting_of tag oldest ∷ map (waiting_of tag) later = first_is core A oldest later st p in
      let named : oldest.0 ≡ front A = ticket-front A (waiting_of tag oldest) (map (waiting_of tag) later) first in
      let safe : safe_of core.table ≡ safe_epoch core.sizes.slots A = safe_is core A st in
      fault_early (length (pending A)) (front A) (safe_epoch core.sizes.slots A) (omega (arith, ap length first)) (omega (arith, early, named, safe))
      ∙ ap₂ (λ n m. Some (NotReady n m)) (sym named) (sym safe)

  pub take_ready : (core : State J) (A : List Step) (oldest : ℕ × Action J) (later : List (ℕ × Action J)) → Stands tag core A → core.drain.pending ≡ oldest ∷ later → oldest.0 ≤ safe_of core.table → take_fault core.sizes A ≡ None
  take_ready core A oldest later st p ready =
      let first : pending A ≡ waiting_of tag oldest ∷ map (waiting_of tag) later = first_is core A oldest later st p in
      let named : oldest.0 ≡ front A = ticket-front A (waiting_of tag oldest) (map (waiting_of tag) later) first in
      fault_ready (length (pending A)) (front A) (safe_epoch core.sizes.slots A) (omega (arith, ap length first)) (omega (arith, ready, named, safe_is core A st))

  -- the list from which an entry was taken, and its ticket is safe
  record TakenFrom (entries : List (ℕ × Action J)) (safe : ℕ) (entry : ℕ × Action J) : Type 0 where
    later : List (ℕ × Action J)
    first : entries ≡ entry ∷ later
    ready : entry.0 ≤ safe

  taken_parts : (entries : List (ℕ × Action J)) (safe : ℕ) (entry : ℕ × Action J) → Ok entry ≡ taken_from entries safe → TakenFrom entries safe entry
  taken_parts [] safe entry h = cc
  taken_parts (oldest ∷ later) safe entry h = by_test (leb oldest.0 safe) refl h
    where
      by_test : (b : Bool) → leb oldest.0 safe ≡ b → Ok entry ≡ cond b (Ok oldest) (Err (NotReady oldest.0 safe)) → TakenFrom (oldest ∷ later) safe entry
      by_test true e k =
          let same : entry ≡ oldest = cc in
          subst (λ (z : ℕ × Action J). TakenFrom (oldest ∷ later) safe z) (sym same) (record { later = later; first = refl; ready = leb-true oldest.0 safe e })
      by_test false e k = cc

  -- a refused take
  pub take_err : (core : State J) (safe : ℕ) (f : Fault) (drain : Lists J) → safe ≡ safe_of core.table → Err f ≡ taken_from core.drain.pending safe → drain ≡ core.drain → Made tag core Take (record { sizes = core.sizes; table = core.table; views = core.views; drain = drain; offsets = core.offsets; pages = core.pages }) (Err f)
  take_err core safe f drain s a e A st = by_entries core.drain.pending refl a
    where
      Goal : Type 0
      Goal = Stepped tag core A Take (record { sizes = core.sizes; table = core.table; views = core.views; drain = drain; offsets = core.offsets; pages = core.pages }) (Err f)

      refuse : take_fault core.sizes A ≡ Some f → Goal
      refuse h = subst (λ (z : Lists J). Stepped tag core A Take (record { sizes = core.sizes; table = core.table; views = core.views; drain = z; offsets = core.offsets; pages = core.pages }) (Err f)) (sym e) (refused_step tag core A Take f st h)

      by_test : (b : Bool) (oldest : ℕ × Action J) (later : List (ℕ × Action J)) → leb oldest.0 safe ≡ b → core.drain.pending ≡ oldest ∷ later → Err f ≡ cond b (Ok oldest) (Err (NotReady oldest.0 safe)) → Goal
      by_test true oldest later h p q = cc
      by_test false oldest later h p q =
          let same : NotReady oldest.0 safe ≡ f = cc in
          refuse (take_early core A oldest later st p (omega (arith, leb-false oldest.0 safe h, s)) ∙ ap (λ n. Some (NotReady oldest.0 n)) (sym s) ∙ ap (λ z. Some z) same)

      by_entries : (entries : List (ℕ × Action J)) → core.drain.pending ≡ entries → Err f ≡ taken_from entries safe → Goal
      by_entries [] p q = let same : Empty ≡ f = cc in refuse (take_empty core A st p ∙ ap (λ z. Some z) same)
      by_entries (oldest ∷ later) p q = by_test (leb oldest.0 safe) oldest later refl p q

  -- an accepted take
  pub take_ok : (core : State J) (safe : ℕ) (entry : ℕ × Action J) (drain : Lists J) → safe ≡ safe_of core.table → Ok entry ≡ taken_from core.drain.pending safe → drain ≡ after_take tag (Ok entry) core.drain → IsDrain drain → Made tag core Take (record { sizes = core.sizes; table = core.table; views = core.views; drain = drain; offsets = core.offsets; pages = core.pages }) (Ok (Taken entry.0))
  take_ok core safe entry drain s a e known A st =
      accepted_step tag core (record { sizes = core.sizes; table = core.table; views = core.views; drain = drain; offsets = core.offsets; pages = core.pages }) A Take (Taken entry.0) free refl reply (record {
        in_range = st.in_range;
        accepted = IsAccepted-push core.sizes A Take st.accepted free;
        table_is = table_stays core.sizes A Take core.table st.table_is refl (λ t. refl) (λ t. refl);
        views_is = st.views_is ∙ sym (slot_views-stay core.sizes A Take (λ t. refl) (λ t. refl) (λ t. refl) (λ t. refl) (λ t. refl));
        limit_is = ap (λ (z : Lists J). z.limit) e ∙ st.limit_is;
        pending_is = ap (λ (z : Lists J). map (waiting_of tag) z.pending) e ∙ ap (λ z. map (waiting_of tag) (drop 1 z)) parts.first ∙ sym (pending-take A (waiting_of tag entry) (map (waiting_of tag) parts.later) first);
        taken_is = ap (λ (z : Lists J). z.taken) e ∙ ap (λ xs. xs ++ waiting_of tag entry ∷ []) st.taken_is ∙ sym (taken-next core.sizes A (waiting_of tag entry) (map (waiting_of tag) parts.later) st.accepted first);
        ordered = known;
        offsets_is = st.offsets_is ∙ sym (log-stays core.sizes A Take st.accepted (record { done = refl; raised = refl; shifted = refl; allocated = λ x y. refl }));
        pages_is = st.pages_is ∙ sym (pages-stay core.sizes A Take (λ x y. refl) (record { flush_taken = refl; flush_ended = refl; flushed = λ x. refl; clean_taken = refl; clean_ended = refl; freed = λ x. refl }));
      })
    where
      parts : TakenFrom core.drain.pending safe entry
      parts = taken_parts core.drain.pending safe entry a

      first : pending A ≡ waiting_of tag entry ∷ map (waiting_of tag) parts.later
      first = first_is core A entry parts.later st parts.first

      free : take_fault core.sizes A ≡ None
      free = take_ready core A entry parts.later st parts.first (omega (arith, parts.ready, s))

      reply : Taken (front A) ≡ Taken entry.0
      reply = ap (λ n. Taken n) (sym (ticket-front A (waiting_of tag entry) (map (waiting_of tag) parts.later) first))

  -- whether the oldest pending action may be taken
  pub early_told : (core : State J) (ws rest : List Waiting) (w : Waiting) (safe : ℕ) → ws ≡ map (waiting_of tag) core.drain.pending → ws ≡ w ∷ rest → safe ≡ safe_of core.table → safe < w.ticket → (A : List Step) → Stands tag core A → Err (NotReady w.ticket safe) ≡ unless_fault (take_fault core.sizes A) (tt {0})
  early_told core ws rest w safe e some s early A st =
      let first : pending A ≡ w ∷ rest = sym st.pending_is ∙ sym e ∙ some in
      let named : w.ticket ≡ front A = ticket-front A w rest first in
      let same : safe ≡ safe_epoch core.sizes.slots A = s ∙ safe_is core A st in
      ap₂ (λ n m. Err (NotReady n m)) named same
      ∙ sym (ap (λ o. unless_fault o (tt {0})) (fault_early (length (pending A)) (front A) (safe_epoch core.sizes.slots A) (omega (arith, ap length first)) (omega (arith, early, named, same))))

  pub ready_reply : (core : State J) (ws rest : List Waiting) (w : Waiting) (safe : ℕ) → ws ≡ map (waiting_of tag) core.drain.pending → ws ≡ w ∷ rest → safe ≡ safe_of core.table → w.ticket ≤ safe → (A : List Step) → Stands tag core A → Ok (tt {0}) ≡ unless_fault (take_fault core.sizes A) (tt {0})
  ready_reply core ws rest w safe e some s ready A st =
      let first : pending A ≡ w ∷ rest = sym st.pending_is ∙ sym e ∙ some in
      let named : w.ticket ≡ front A = ticket-front A w rest first in
      let same : safe ≡ safe_epoch core.sizes.slots A = s ∙ safe_is core A st in
      sym (ap (λ o. unless_fault o (tt {0})) (fault_ready (length (pending A)) (front A) (safe_epoch core.sizes.slots A) (omega (arith, ap length first)) (omega (arith, ready, named, same))))

  -- the first of some actions, told its ticket
  pub first_front : (ps : List (ℕ × Action J)) (n : ℕ) → Some n ≡ option_map (λ entry. entry.0) (slice_get ps 0) → (w : Waiting) × (rest : List Waiting) × (map (waiting_of tag) ps ≡ w ∷ rest) × (n ≡ w.ticket)
  first_front [] n h = absurd cc
  first_front (p ∷ ps) n h = (waiting_of tag p, map (waiting_of tag) ps, refl, cc)

  -- what a take finds, told the front by the drain list
  pub early_front : (core : State J) (n safe : ℕ) → Some n ≡ option_map (λ entry. entry.0) (slice_get core.drain.pending 0) → safe ≡ safe_of core.table → safe < n → (A : List Step) → Stands tag core A → Err (NotReady n safe) ≡ unless_fault (take_fault core.sizes A) (tt {0})
  early_front core n safe h s early A st =
      let first = first_front core.drain.pending n h in
      ap (λ m. Err (NotReady m safe)) first.3 ∙ early_told core (map (waiting_of tag) core.drain.pending) first.1 first.0 safe refl first.2 s (omega (arith, early, first.3)) A st

  pub ready_front : (core : State J) (n safe : ℕ) → Some n ≡ option_map (λ entry. entry.0) (slice_get core.drain.pending 0) → safe ≡ safe_of core.table → n ≤ safe → (A : List Step) → Stands tag core A → Ok (tt {0}) ≡ unless_fault (take_fault core.sizes A) (tt {0})
  ready_front core n safe h s ready A st =
      let first = first_front core.drain.pending n h in
      ready_reply core (map (waiting_of tag) core.drain.pending) first.1 first.0 safe refl first.2 s (omega (arith, ready, first.3)) A st
