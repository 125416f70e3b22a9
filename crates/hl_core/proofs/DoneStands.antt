-- Where a core stands after a done.
use Rattle.std.proofs.Common.{◌≡◌, ℕ, ◌%◌, ◌≤◌, Bool, true, false, cond, not, eqb, is_some, List, [], ◌∷◌, ◌++◌, map, refl, sym, ap, ap₂, ◌∙◌, subst, arith, eq-eqb, ne_eqb}
use Rattle.std.specs.Prelude.{Option, Some, None, Ok, Err, max, ◌==◌}
use Rattle.std.specs.List.{list_any, filter, find, AllByRecursion}
use Rattle.std.proofs.Math.Nat.{max-zero}
use Rattle.std.proofs.lemmas.Bool.{eqb-true, eqb-false}
use Rattle.std.proofs.lemmas.List.Elements.{filter_agree}
use Rattle.hl_model.specs.declared.action.Kind.{Kind}
use Rattle.hl_model.specs.declared.action.Kind.TheVariants.{User, Settle, Close}
use Rattle.hl_model.specs.declared.action.Waiting.{Waiting}
use Rattle.hl_model.specs.declared.fault.Fault.{Fault}
use Rattle.hl_model.specs.declared.fault.Fault.TheVariants.{NotTaken}
use Rattle.hl_model.specs.declared.step.Reply.{Reply}
use Rattle.hl_model.specs.declared.step.Reply.TheVariants.{Ran, Settled, Closed}
use Rattle.hl_model.specs.declared.step.Step.{Step}
use Rattle.hl_model.specs.declared.step.Step.TheVariants.{Done}
use Rattle.hl_model.specs.Sizes.{Sizes}
use Rattle.hl_model.specs.Actions.{actions, taken, is_taken, action_at}
use Rattle.hl_model.specs.Offsets.{read_only, head, tail}
use Rattle.hl_model.specs.Settled.{safe_read_only, closed, settles, closes}
use Rattle.hl_model.specs.Replies.{unless_fault, fault_of, done_answer, kind_or_job_0, IsAccepted}
use Rattle.hl_laws.proofs.AcceptedLaws.{IsAccepted-push}
use Rattle.hl_laws.proofs.ActionLaws.{pending-done, taken-done}
use Rattle.hl_laws.proofs.BoundLaws.{closes-whole}
use Rattle.hl_laws.proofs.DrainLaws.{of_ticket-taken, is_taken-found}
use Rattle.hl_laws.proofs.LawProofs.{taken_are_those_listed}
use Rattle.hl_laws.proofs.OffsetLaws.{read_only-stay, head-stay}
use Rattle.hl_laws.proofs.SettledLaws.{done_greatest-done, action_at-done, action_at-has, settles-le, closes-le}
use Rattle.hl_laws.proofs.ViewLaws.{slot_views-stay}
use Rattle.hl_drain.specs.Actions.{waiting_of}
use Rattle.hl_drain.specs.Lists.{Lists, IsDrain, has_ticket, kind_or_fault, after_done}
use Rattle.hl_offsets.specs.Log.{Log, settled, closed_up_to}
use Rattle.hl_core.specs.Standing.{State, Stands, IsStanding, log_of}
use Rattle.hl_core.specs.Steps.{Stepped, Made}
use Rattle.hl_core.proofs.TableLaws.{table_stays}
use Rattle.hl_core.proofs.QuietLaws.{tail-stays, pages-stay}
use Rattle.hl_core.proofs.StandLaws.{refused_step, accepted_step}

eqb_turned : (a b : ℕ) → eqb a b ≡ eqb b a
eqb_turned a b = by_test (eqb a b) refl
  where
    by_test : (t : Bool) → eqb a b ≡ t → eqb a b ≡ eqb b a
    by_test true h = h ∙ sym (eq-eqb b a (sym (eqb-true a b h)))
    by_test false h = h ∙ sym (ne_eqb b a (λ e. eqb-false a b h (sym e)))

-- the taken action that a done finds
found_parts : (A : List Step) (c : ℕ) (w : Waiting) (ws : List Waiting) → ws ≡ taken A → find (has_ticket c) ws ≡ Some w → (is_taken c A ≡ true) × (action_at c A ≡ Some w)
found_parts A c w ws t h = by_test (is_taken c A) refl (sym (of_ticket-taken c A) ∙ ap (find (has_ticket c)) (sym t) ∙ h)
  where
    by_test : (b : Bool) → is_taken c A ≡ b → cond b (action_at c A) None ≡ Some w → (is_taken c A ≡ true) × (action_at c A ≡ Some w)
    by_test true e k = (e, k)
    by_test false e k = cc

found_kind : (o : Option Waiting) (kind : Kind) → Ok kind ≡ kind_or_fault o → (w : Waiting) × (o ≡ Some w) × (kind ≡ w.kind)
found_kind None kind h = cc
found_kind (Some w) kind h = (w, refl, cc)

found_none : (o : Option Waiting) (f : Fault) → Err f ≡ kind_or_fault o → (o ≡ None) × (f ≡ NotTaken)
found_none None f h = (refl, cc)
found_none (Some w) f h = cc

-- the settled offsets after an accepted done of an action of this kind
log-done : (sizes : Sizes) (A : List Step) (c : ℕ) (w : Waiting) → IsAccepted sizes A → fault_of sizes A (Done c) ≡ None → action_at c A ≡ Some w → log_of sizes (A ++ Done c ∷ []) ≡ record { page_size = sizes.page_size; closed = max (closed A) (closes w.kind); head = head A; safe_read_only = max (safe_read_only A) (settles w.kind); read_only = read_only A; tail = tail sizes A }
log-done sizes A c w acc h found =
    let closed_is : closed (A ++ Done c ∷ []) ≡ max (closed A) (closes w.kind) = done_greatest-done sizes closes A c w acc h found in
    let safe_is : safe_read_only (A ++ Done c ∷ []) ≡ max (safe_read_only A) (settles w.kind) = done_greatest-done sizes settles A c w acc h found in
    rw (closed_is, head-stay A (Done c) refl, safe_is, read_only-stay A (Done c) refl, tail-stays sizes A (Done c) (λ p t. refl)) refl

-- the offsets after a done of each kind
log-user : (log : Log) (n : ℕ) → record { page_size = log.page_size; closed = max log.closed (closes (User n)); head = log.head; safe_read_only = max log.safe_read_only (settles (User n)); read_only = log.read_only; tail = log.tail } ≡ log
log-user log n = rw (max-zero log.closed, max-zero log.safe_read_only) refl

log-settle : (log : Log) (x : ℕ) → record { page_size = log.page_size; closed = max log.closed (closes (Settle x)); head = log.head; safe_read_only = max log.safe_read_only (settles (Settle x)); read_only = log.read_only; tail = log.tail } ≡ settled x log
log-settle log x = rw (max-zero log.closed) refl

log-close : (log : Log) (x : ℕ) → record { page_size = log.page_size; closed = max log.closed (closes (Close x)); head = log.head; safe_read_only = max log.safe_read_only (settles (Close x)); read_only = log.read_only; tail = log.tail } ≡ closed_up_to x log
log-close log x = rw (max-zero log.safe_read_only) refl

module _ {J : Type 0} (tag : J → ℕ) where
  -- a taken action's ticket, and the action
  record Found (core : State J) (A : List Step) (c : ℕ) (kind : Kind) : Type 0 where
    waiting : Waiting
    kind_is : kind ≡ waiting.kind
    free : fault_of core.sizes A (Done c) ≡ None
    action : action_at c A ≡ Some waiting
    log : log_of core.sizes (A ++ Done c ∷ []) ≡ record { page_size = core.sizes.page_size; closed = max (closed A) (closes kind); head = head A; safe_read_only = max (safe_read_only A) (settles kind); read_only = read_only A; tail = tail core.sizes A }

  found_at : (core : State J) (A : List Step) (c : ℕ) (kind : Kind) → Stands tag core A → Ok kind ≡ kind_or_fault (find (has_ticket c) core.drain.taken) → Found core A c kind
  found_at core A c kind st a =
      let found : (w : Waiting) × (find (has_ticket c) core.drain.taken ≡ Some w) × (kind ≡ w.kind) = found_kind (find (has_ticket c) core.drain.taken) kind a in
      let parts : (is_taken c A ≡ true) × (action_at c A ≡ Some found.0) = found_parts A c found.0 core.drain.taken st.taken_is found.1 in
      let free : fault_of core.sizes A (Done c) ≡ None = ap (λ b. cond b None (Some NotTaken)) parts.0 in
      record {
        waiting = found.0;
        kind_is = found.2;
        free = free;
        action = parts.1;
        log = log-done core.sizes A c found.0 st.accepted free parts.1 ∙ ap (λ (k : Kind). record { page_size = core.sizes.page_size; closed = max (closed A) (closes k); head = head A; safe_read_only = max (safe_read_only A) (settles k); read_only = read_only A; tail = tail core.sizes A }) (sym found.2);
      }

  -- an accepted done
  done_step : (core : State J) (A : List Step) (c : ℕ) (kind : Kind) (drain : Lists J) (offsets : Log) (r : Reply) → Stands tag core A → Found core A c kind → drain ≡ after_done core.drain c → IsDrain drain → offsets ≡ log_of core.sizes (A ++ Done c ∷ []) → done_answer (A ++ Done c ∷ []) kind ≡ r → Stepped tag core A (Done c) (record { sizes = core.sizes; table = core.table; views = core.views; drain = drain; offsets = offsets; pages = core.pages }) (Ok r)
  done_step core A c kind drain offsets r st f e known o reply =
      accepted_step tag core (record { sizes = core.sizes; table = core.table; views = core.views; drain = drain; offsets = offsets; pages = core.pages }) A (Done c) r f.free refl
      (ap (λ z. done_answer (A ++ Done c ∷ []) (kind_or_job_0 z)) (action_at-done c A ∙ f.action) ∙ ap (done_answer (A ++ Done c ∷ [])) (sym f.kind_is) ∙ reply)
      (record {
        in_range = st.in_range;
        accepted = IsAccepted-push core.sizes A (Done c) st.accepted f.free;
        table_is = table_stays core.sizes A (Done c) core.table st.table_is refl (λ t. refl) (λ t. refl);
        views_is = st.views_is ∙ sym (slot_views-stay core.sizes A (Done c) (λ t. refl) (λ t. refl) (λ t. refl) (λ t. refl) (λ t. refl));
        limit_is = ap (λ (z : Lists J). z.limit) e ∙ st.limit_is;
        pending_is = ap (λ (z : Lists J). map (waiting_of tag) z.pending) e ∙ st.pending_is ∙ sym (pending-done A c);
        taken_is = ap (λ (z : Lists J). z.taken) e
            ∙ filter_agree (λ w. not (eqb w.ticket c)) (λ w. not (eqb c w.ticket)) (λ w. ap not (eqb_turned w.ticket c)) core.drain.taken
            ∙ ap (filter (λ w. not (eqb c w.ticket))) st.taken_is ∙ sym (taken-done A c);
        ordered = known;
        offsets_is = o;
        pages_is = st.pages_is ∙ sym (pages-stay core.sizes A (Done c) (λ x y. refl) (record { flush_taken = refl; flush_ended = refl; flushed = λ x. refl; clean_taken = refl; clean_ended = refl; freed = λ x. refl }));
      })

  -- a done of a job
  pub done_user : (core : State J) (c n : ℕ) (kind : Kind) (drain : Lists J) → kind ≡ User n → Ok kind ≡ kind_or_fault (find (has_ticket c) core.drain.taken) → drain ≡ after_done core.drain c → IsDrain drain → Made tag core (Done c) (record { sizes = core.sizes; table = core.table; views = core.views; drain = drain; offsets = core.offsets; pages = core.pages }) (Ok (Ran n))
  done_user core c n kind drain is a e known A st =
      let f : Found core A c (User n) = subst (λ (k : Kind). Found core A c k) is (found_at core A c kind st a) in
      done_step core A c (User n) drain core.offsets (Ran n) st f e known (st.offsets_is ∙ sym (f.log ∙ log-user (log_of core.sizes A) n)) refl

  -- a done of a settle
  pub done_settle : (core : State J) (c x : ℕ) (kind : Kind) (drain : Lists J) (offsets : Log) (told : ℕ) → kind ≡ Settle x → Ok kind ≡ kind_or_fault (find (has_ticket c) core.drain.taken) → drain ≡ after_done core.drain c → IsDrain drain → offsets ≡ settled x core.offsets → told ≡ max core.offsets.safe_read_only x → Made tag core (Done c) (record { sizes = core.sizes; table = core.table; views = core.views; drain = drain; offsets = offsets; pages = core.pages }) (Ok (Settled told))
  done_settle core c x kind drain offsets told is a e known moved t A st =
      let f : Found core A c (Settle x) = subst (λ (k : Kind). Found core A c k) is (found_at core A c kind st a) in
      let log : log_of core.sizes (A ++ Done c ∷ []) ≡ settled x (log_of core.sizes A) = f.log ∙ log-settle (log_of core.sizes A) x in
      done_step core A c (Settle x) drain offsets (Settled told) st f e known (moved ∙ ap (settled x) st.offsets_is ∙ sym log)
      (ap (λ (z : Log). Settled z.safe_read_only) (log ∙ sym (ap (settled x) st.offsets_is)) ∙ ap (λ n. Settled n) (sym t))

  -- a done of a close
  pub done_close : (core : State J) (c x : ℕ) (kind : Kind) (drain : Lists J) (offsets : Log) (told : ℕ) → kind ≡ Close x → Ok kind ≡ kind_or_fault (find (has_ticket c) core.drain.taken) → drain ≡ after_done core.drain c → IsDrain drain → offsets ≡ closed_up_to x core.offsets → told ≡ max core.offsets.closed x → Made tag core (Done c) (record { sizes = core.sizes; table = core.table; views = core.views; drain = drain; offsets = offsets; pages = core.pages }) (Ok (Closed told))
  done_close core c x kind drain offsets told is a e known moved t A st =
      let f : Found core A c (Close x) = subst (λ (k : Kind). Found core A c k) is (found_at core A c kind st a) in
      let log : log_of core.sizes (A ++ Done c ∷ []) ≡ closed_up_to x (log_of core.sizes A) = f.log ∙ log-close (log_of core.sizes A) x in
      done_step core A c (Close x) drain offsets (Closed told) st f e known (moved ∙ ap (closed_up_to x) st.offsets_is ∙ sym log)
      (ap (λ (z : Log). Closed z.closed) (log ∙ sym (ap (closed_up_to x) st.offsets_is)) ∙ ap (λ n. Closed n) (sym t))

  -- what holds of each stored action of the list holds of a taken one
  kind_has : (P : Kind → Type 0) (core : State J) (A : List Step) (c : ℕ) (kind : Kind) → Stands tag core A → Ok kind ≡ kind_or_fault (find (has_ticket c) core.drain.taken) → AllByRecursion (λ w. P w.kind) (actions A) → P kind
  kind_has P core A c kind st a each =
      let f : Found core A c kind = found_at core A c kind st a in
      subst P (sym f.kind_is) (action_at-has (λ w. P w.kind) c A f.waiting each f.action)

  -- what a taken settle stored is at most the read-only offset
  pub settle_fits : (core : State J) (c x : ℕ) (kind : Kind) → IsStanding tag core → kind ≡ Settle x → Ok kind ≡ kind_or_fault (find (has_ticket c) core.drain.taken) → x ≤ core.offsets.read_only
  settle_fits core c x kind (A, st) is a =
      let stored : settles kind ≤ read_only A = kind_has (λ k. settles k ≤ read_only A) core A c kind st a (settles-le A) in
      omega (arith, stored, ap settles is, ap (λ (z : Log). z.read_only) st.offsets_is)

  -- what a taken close stored is at most the head, and begins a page
  pub close_fits : (core : State J) (c x : ℕ) (kind : Kind) → IsStanding tag core → kind ≡ Close x → Ok kind ≡ kind_or_fault (find (has_ticket c) core.drain.taken) → x ≤ core.offsets.head
  close_fits core c x kind (A, st) is a =
      let stored : closes kind ≤ head A = kind_has (λ k. closes k ≤ head A) core A c kind st a (closes-le A) in
      omega (arith, stored, ap closes is, ap (λ (z : Log). z.head) st.offsets_is)

  pub close_whole : (core : State J) (c x : ℕ) (kind : Kind) → IsStanding tag core → kind ≡ Close x → Ok kind ≡ kind_or_fault (find (has_ticket c) core.drain.taken) → x % core.offsets.page_size ≡ 0
  close_whole core c x kind (A, st) is a =
      ap₂ (λ (n m : ℕ). n % m) (sym (ap closes is)) (ap (λ (z : Log). z.page_size) st.offsets_is)
      ∙ kind_has (λ k. closes k % core.sizes.page_size ≡ 0) core A c kind st a (closes-whole core.sizes A st.accepted)

  -- a ticket that the list's taken actions lack
  not_taken : (core : State J) (A : List Step) (c : ℕ) → Stands tag core A → find (has_ticket c) core.drain.taken ≡ None → is_taken c A ≡ false
  not_taken core A c st h = sym (is_taken-found c A) ∙ ap (λ ws. is_some (find (has_ticket c) ws)) (sym st.taken_is) ∙ ap is_some h

  -- a refused done
  pub done_err : (core : State J) (c : ℕ) (f : Fault) (drain : Lists J) → Err f ≡ kind_or_fault (find (has_ticket c) core.drain.taken) → drain ≡ core.drain → Made tag core (Done c) (record { sizes = core.sizes; table = core.table; views = core.views; drain = drain; offsets = core.offsets; pages = core.pages }) (Err f)
  done_err core c f drain a e A st =
      subst (λ (z : Lists J). Stepped tag core A (Done c) (record { sizes = core.sizes; table = core.table; views = core.views; drain = z; offsets = core.offsets; pages = core.pages }) (Err f)) (sym e)
      (refused_step tag core A (Done c) f st (ap (λ b. cond b None (Some NotTaken)) (not_taken core A c st none.0) ∙ ap (λ z. Some z) (sym none.1)))
    where
      none : (find (has_ticket c) core.drain.taken ≡ None) × (f ≡ NotTaken)
      none = found_none (find (has_ticket c) core.drain.taken) f a

  -- whether an action of this ticket is taken
  pub taken_told : (core : State J) (c : ℕ) (ws : List Waiting) → ws ≡ core.drain.taken → list_any (λ w. w.ticket == c) ws ≡ true → (A : List Step) → Stands tag core A → Ok (tt {0}) ≡ unless_fault (fault_of core.sizes A (Done c)) (tt {0})
  taken_told core c ws e h A st = sym (ap (λ b. unless_fault (cond b None (Some NotTaken)) (tt {0})) (taken_are_those_listed core.sizes A c st.accepted ∙ ap (list_any (λ w. w.ticket == c)) (sym (e ∙ st.taken_is)) ∙ h))

  pub untaken_told : (core : State J) (c : ℕ) (ws : List Waiting) → ws ≡ core.drain.taken → list_any (λ w. w.ticket == c) ws ≡ false → (A : List Step) → Stands tag core A → Err NotTaken ≡ unless_fault (fault_of core.sizes A (Done c)) (tt {0})
  untaken_told core c ws e h A st = sym (ap (λ b. unless_fault (cond b None (Some NotTaken)) (tt {0})) (taken_are_those_listed core.sizes A c st.accepted ∙ ap (list_any (λ w. w.ticket == c)) (sym (e ∙ st.taken_is)) ∙ h))
