-- Which job lies under which ticket, with one step more.
use Rattle.std.proofs.Common.{◌≡◌, ℕ, ◌<◌, Bool, true, false, cond, eqb, is_some, List, [], ◌∷◌, ◌++◌, map, remove, All, refl, sym, ap, ap₂, ◌∙◌, subst, arith, ne_eqb, one-add}
use Rattle.std.specs.Prelude.{◌==◌, Option, Some, None, Result, Ok, Err, option_and_then, option_map, IfSome, IfOk, OnErr, IsSomeAnd}
use Rattle.std.specs.List.{find, position_or_len}
use Rattle.std.specs.Option.{option_or}
use Rattle.std.proofs.lemmas.Bool.{eqb-true}
use Rattle.std.proofs.lemmas.List.{map-append, append_assoc}
use Rattle.std.proofs.lemmas.List.Elements.{All-head, All-tail}
use Rattle.std.proofs.lemmas.List.Folds.{find-append}
use Rattle.hl_model.specs.declared.action.Waiting.{Waiting}
use Rattle.hl_model.specs.declared.fault.Fault.{Fault}
use Rattle.hl_model.specs.declared.step.Reply.{Reply}
use Rattle.hl_model.specs.declared.step.Reply.TheVariants.{Answer}
use Rattle.hl_model.specs.declared.step.Step.{Step}
use Rattle.hl_model.specs.declared.step.Step.TheVariants.{Done}
use Rattle.hl_laws.proofs.DrainLaws.{done_fault-none}
use Rattle.hl_laws.proofs.ActionLaws.{pending-nil}
use Rattle.hl_action.specs.Firings.{FiringRecord}
use Rattle.hl_action.specs.Jobs.{KeptRecord, ReadyRecord}
use Rattle.hl_drain.specs.declared.action.Action.{Action}
use Rattle.hl_drain.specs.declared.action.Action.TheVariants.{User}
use Rattle.hl_drain.specs.Actions.{waiting_of}
use Rattle.hl_drain.specs.Lists.{tickets}
use Rattle.hl_drain.specs.Taken.{Rises}
use Rattle.hl_drain.proofs.Rising.{rises_head, rises_tail}
use Rattle.hl_core.specs.Standing.{State}
use Rattle.hl_core.specs.Steps.{Stepped, CameOut, job_in}
use Rattle.hl_cells.specs.TakenActions.{Row, fires, firing_at}
use Rattle.hl_cells.specs.Engines.{Whole, EngineStands, job_tag}
use Rattle.hl_cells.specs.Jobs.{of_taken, of_pending, undone_jobs, job_under, JobsStay, JobStored, JobsKept, RunsItsJob}
use Rattle.hl_cells.proofs.EngineMoves.{answer_or, free_of}
use Rattle.hl_cells.proofs.TakenRows.{map_remove}
use Rattle.hl_cells.proofs.HoldLaws.{Found, holds-found, held_tickets, map_twice, find_mapped, place_mapped}

-- A row of values under numbers.
module _ {V : Type 0} where
  abbrev is_at : ℕ → ℕ × V → Bool
  is_at c entry = entry.0 == c

  abbrev keys : List (ℕ × V) → List ℕ
  keys xs = map (λ entry. entry.0) xs

  -- below all numbers there is none
  none_below : (c : ℕ) (xs : List (ℕ × V)) → All (λ k. c < k) (keys xs) → find (is_at c) xs ≡ None
  none_below c [] above = refl
  none_below c (x ∷ xs) above =
      let first : c < x.0 = All-head (λ k. c < k) x.0 (keys xs) above in
      rw (ne_eqb x.0 c (λ e. omega (arith, e, first))) (none_below c xs (All-tail (λ k. c < k) x.0 (keys xs) above))

  -- nor above all
  none_above : (c : ℕ) (xs : List (ℕ × V)) → Rises (keys xs ++ c ∷ []) → find (is_at c) xs ≡ None
  none_above c [] rises = refl
  none_above c (x ∷ xs) rises =
      let first : x.0 < c = last_of (keys xs) (rises_head x.0 (keys xs ++ c ∷ []) rises) in
      rw (ne_eqb x.0 c (λ e. omega (arith, e, first))) (none_above c xs (rises_tail x.0 (keys xs ++ c ∷ []) rises))
    where
      last_of : (ks : List ℕ) → All (λ k. x.0 < k) (ks ++ c ∷ []) → x.0 < c
      last_of [] all = All-head (λ k. x.0 < k) c [] all
      last_of (k ∷ ks) all = last_of ks (All-tail (λ k. x.0 < k) k (ks ++ c ∷ []) all)

  -- where numbers rise, what leaves is there no more
  none_left : (c : ℕ) (xs ys : List (ℕ × V)) (z : ℕ × V) → Rises (keys (xs ++ ys)) → find (is_at c) xs ≡ Some z → find (is_at c) (remove xs (position_or_len (is_at c) xs) ++ ys) ≡ None
  none_left c [] ys z rises found = cc
  none_left c (x ∷ xs) ys z rises found = by_test (none_left c xs ys z (rises_tail x.0 (keys (xs ++ ys)) rises)) (eqb x.0 c) refl
    where
      by_test : (find (is_at c) xs ≡ Some z → find (is_at c) (remove xs (position_or_len (is_at c) xs) ++ ys) ≡ None) → (b : Bool) → eqb x.0 c ≡ b → find (is_at c) (remove (x ∷ xs) (position_or_len (is_at c) (x ∷ xs)) ++ ys) ≡ None
      by_test rest true e =
          let same : x.0 ≡ c = eqb-true x.0 c e in
          rw e (none_below c (xs ++ ys) (subst (λ k. All (λ n. k < n) (keys (xs ++ ys))) same (rises_head x.0 (keys (xs ++ ys)) rises)))
      by_test rest false e = rw (e, one-add, e) (rest (sym (ap (λ b. cond b (Some x) (find (is_at c) xs)) e) ∙ found))

  -- others stay
  others_stay : (c d : ℕ) (xs : List (ℕ × V)) → eqb c d ≡ false → find (is_at d) (remove xs (position_or_len (is_at c) xs)) ≡ find (is_at d) xs
  others_stay c d [] other = refl
  others_stay c d (x ∷ xs) other = by_test (others_stay c d xs other) (eqb x.0 c) refl
    where
      by_test : find (is_at d) (remove xs (position_or_len (is_at c) xs)) ≡ find (is_at d) xs → (b : Bool) → eqb x.0 c ≡ b → find (is_at d) (remove (x ∷ xs) (position_or_len (is_at c) (x ∷ xs))) ≡ find (is_at d) (x ∷ xs)
      by_test rest true e = rw (e, eqb-true x.0 c e, other) refl
      by_test rest false e = rw (e, one-add) (ap (λ o. cond (x.0 == d) (Some x) o) rest)

-- the value under a number
module _ {V : Type 0} where
  abbrev under : List (ℕ × Option V) → ℕ → Option V
  under xs c = option_and_then (λ entry. entry.1) (find (is_at c) xs)

  -- a number with no value changes none
  push_nothing : (xs : List (ℕ × Option V)) (t c : ℕ) → under (xs ++ (t, None) ∷ []) c ≡ under xs c
  push_nothing xs t c = ap (option_and_then (λ entry. entry.1)) (find-append (is_at c) xs ((t, None) ∷ [])) ∙ by_found (find (is_at c) xs) (t == c)
    where
      by_found : (o : Option (ℕ × Option V)) (b : Bool) → option_and_then (λ entry. entry.1) (option_or o (cond b (Some (t, None)) None)) ≡ option_and_then (λ entry. entry.1) o
      by_found (Some entry) b = refl
      by_found None true = refl
      by_found None false = refl

  -- a new number has its value, and the others theirs
  push_value : (xs : List (ℕ × Option V)) (t : ℕ) (v : V) (c : ℕ) → find (is_at t) xs ≡ None → under (xs ++ (t, Some v) ∷ []) c ≡ cond (t == c) (Some v) (under xs c)
  push_value xs t v c none = ap (option_and_then (λ entry. entry.1)) (find-append (is_at c) xs ((t, Some v) ∷ [])) ∙ by_test (t == c) refl
    where
      by_found : (o : Option (ℕ × Option V)) → option_and_then (λ entry. entry.1) (option_or o None) ≡ option_and_then (λ entry. entry.1) o
      by_found (Some entry) = refl
      by_found None = refl

      by_test : (b : Bool) → eqb t c ≡ b → option_and_then (λ entry. entry.1) (option_or (find (is_at c) xs) (cond b (Some (t, Some v)) None)) ≡ cond b (Some v) (under xs c)
      by_test true e =
          let new : find (is_at c) xs ≡ None = subst (λ n. find (is_at n) xs ≡ None) (eqb-true t c e) none in
          ap (λ o. option_and_then (λ entry. entry.1) (option_or o (Some (t, Some v)))) new
      by_test false e = by_found (find (is_at c) xs)

  -- where numbers rise, the value that leaves is gone, and the others stay
  remove_value : (xs ys : List (ℕ × Option V)) (c d : ℕ) (z : ℕ × Option V) → Rises (keys (xs ++ ys)) → find (is_at c) xs ≡ Some z → under (remove xs (position_or_len (is_at c) xs) ++ ys) d ≡ cond (c == d) None (under (xs ++ ys) d)
  remove_value xs ys c d z rises found = by_test (c == d) refl
    where
      by_test : (b : Bool) → eqb c d ≡ b → under (remove xs (position_or_len (is_at c) xs) ++ ys) d ≡ cond b None (under (xs ++ ys) d)
      by_test true e = ap (option_and_then (λ entry. entry.1)) (subst (λ n. find (is_at n) (remove xs (position_or_len (is_at c) xs) ++ ys) ≡ None) (eqb-true c d e) (none_left c xs ys z rises found))
      by_test false e = ap (option_and_then (λ entry. entry.1))
          (find-append (is_at d) (remove xs (position_or_len (is_at c) xs)) ys
          ∙ ap (λ o. option_or o (find (is_at d) ys)) (others_stay c d xs e)
          ∙ sym (find-append (is_at d) xs ys))

module _ {F : Type 0} where
  -- the tickets of the actions that aren't done are those of the drain list
  tickets_undone : (engine : Whole F) (A : List Step) → EngineStands engine A → keys (undone_jobs engine) ≡ tickets engine.core.drain
  tickets_undone engine A st =
      map-append (λ entry. entry.0) (map of_taken engine.held.actions) (map of_pending engine.core.drain.pending)
      ∙ ap₂ (λ a b. a ++ b)
      (map_twice of_taken (λ entry. entry.0) engine.held.actions
      ∙ held_tickets engine.core.sizes A engine.held st.core_stands.accepted st.held_is
      ∙ ap (map (λ (w : Waiting). w.ticket)) (sym st.core_stands.taken_is))
      (map_twice of_pending (λ entry. entry.0) engine.core.drain.pending)

  -- nothing lies under any ticket of an engine without actions
  pub no_jobs : (engine : Whole F) → EngineStands engine [] → engine.held.actions ≡ [] → (c : ℕ) → job_under engine c ≡ None
  unfolding job_under
  no_jobs engine st none c =
      ap₂ (λ xs ys. under (map of_taken xs ++ map of_pending ys) c) none (no_pending engine.core.drain.pending (st.core_stands.pending_is ∙ pending-nil))
    where
      no_pending : (ps : List (ℕ × Action (KeptRecord F))) → map (waiting_of job_tag) ps ≡ [] → ps ≡ []
      no_pending [] e = refl
      no_pending (p ∷ ps) e = cc

  -- a step that leaves both rows
  pub rows_stay : (old new : Whole F) → new.held ≡ old.held → new.core.drain.pending ≡ old.core.drain.pending → JobsStay old new
  unfolding job_under
  rows_stay old new h p c = ap₂ (λ (row : Row F) ys. under (map of_taken row.actions ++ map of_pending ys) c) h p

  -- a step of the core that leaves what is pending
  pub core_stays : (core core_new : State (KeptRecord F)) (words : List ℕ) (held : Row F) → core_new.drain.pending ≡ core.drain.pending → JobsStay (record { core = core; words = words; held = held }) (record { core = core_new; words = words; held = held })
  core_stays core core_new words held p = rows_stay (record { core = core; words = words; held = held }) _ refl p

  -- what is pending with one action more
  pending_more : (old new : Whole F) (t : ℕ) (action : Action (KeptRecord F)) → new.held ≡ old.held → new.core.drain.pending ≡ old.core.drain.pending ++ (t, action) ∷ [] → undone_jobs new ≡ undone_jobs old ++ (t, job_in action) ∷ []
  pending_more old new t action h p =
      ap₂ (λ (row : Row F) ys. map of_taken row.actions ++ map of_pending ys) h p
      ∙ ap (λ ys. map of_taken old.held.actions ++ ys) (map-append of_pending old.core.drain.pending ((t, action) ∷ []))
      ∙ sym (append_assoc (map of_taken old.held.actions) (map of_pending old.core.drain.pending) ((t, job_in action) ∷ []))

  -- an action without a job is stored
  stored_no_job : (old new : Whole F) (t : ℕ) (action : Action (KeptRecord F)) → job_in action ≡ None → new.held ≡ old.held → new.core.drain.pending ≡ old.core.drain.pending ++ (t, action) ∷ [] → JobsStay old new
  unfolding job_under
  stored_no_job old new t action no_job h p c =
      ap (λ xs. under xs c) (pending_more old new t action h p)
      ∙ ap (λ o. under (undone_jobs old ++ (t, o) ∷ []) c) no_job
      ∙ push_nothing (undone_jobs old) t c

  -- an action without a job is stored, or refused
  pub asked_stays : (old : Whole F) (core_new : State (KeptRecord F)) (action : Action (KeptRecord F)) (result : Result ℕ Fault) → job_in action ≡ None → IfOk result (λ ticket. core_new.drain.pending ≡ old.core.drain.pending ++ (ticket, action) ∷ []) → OnErr result (core_new ≡ old.core) → JobsStay old (record { core = core_new; words = old.words; held = old.held })
  asked_stays old core_new action (Ok t) no_job put same = stored_no_job old _ t action no_job refl put
  asked_stays old core_new action (Err fault) no_job put same = rows_stay old _ refl (ap (λ (core : State (KeptRecord F)). core.drain.pending) same)

  -- a job is stored
  pub stored_job : (old new : Whole F) (A : List Step) (t : ℕ) (kept : KeptRecord F) → EngineStands new A → new.held ≡ old.held → new.core.drain.pending ≡ old.core.drain.pending ++ (t, User kept) ∷ [] → JobStored kept old new t
  unfolding job_under
  stored_job old new A t kept st h p c =
      let more = pending_more old new t (User kept) h p in
      let rises : Rises (keys (undone_jobs old) ++ t ∷ []) =
      subst Rises (sym (tickets_undone new A st) ∙ ap keys more ∙ map-append (λ entry. entry.0) (undone_jobs old) ((t, Some kept) ∷ [])) st.core_stands.ordered.rising in
      ap (λ xs. under xs c) more ∙ push_value (undone_jobs old) t kept c (none_above t (undone_jobs old) rises)

  -- an action goes from the pending ones to those taken
  pub taken_job : (old new : Whole F) (firing : FiringRecord) (job : Option (KeptRecord F)) (origin : ℕ) → CameOut job_tag old.core new.core firing.ticket job → new.held ≡ record { room = old.held.room; actions = old.held.actions ++ record { origin = origin; firing = firing; kept = job } ∷ [] } → JobsStay old new
  unfolding job_under
  taken_job old new firing job origin out pushed c = ap (λ xs. under xs c) same
    where
      same : undone_jobs new ≡ undone_jobs old
      same =
          ap (λ (row : Row F). map of_taken row.actions ++ map of_pending new.core.drain.pending) pushed
          ∙ ap (λ xs. xs ++ map of_pending new.core.drain.pending) (map-append of_taken old.held.actions (record { origin = origin; firing = firing; kept = job } ∷ []))
          ∙ append_assoc (map of_taken old.held.actions) ((firing.ticket, job) ∷ []) (map of_pending new.core.drain.pending)
          ∙ ap (λ o. map of_taken old.held.actions ++ (firing.ticket, o) ∷ map of_pending new.core.drain.pending) out.job_is
          ∙ sym (ap (λ ys. map of_taken old.held.actions ++ map of_pending ys) out.oldest)

  -- the job under the ticket of a taken action is that action's
  found_job : (engine : Whole F) (c : ℕ) (ready : ReadyRecord F) → find (fires c) engine.held.actions ≡ Some ready → (find (is_at c) (map of_taken engine.held.actions) ≡ Some (of_taken ready)) × (job_under engine c ≡ ready.kept)
  unfolding job_under
  found_job engine c ready held =
      let there = find_mapped of_taken (is_at c) engine.held.actions ∙ ap (option_map of_taken) held in
      (there, ap (option_and_then (λ entry. entry.1)) (find-append (is_at c) (map of_taken engine.held.actions) (map of_pending engine.core.drain.pending) ∙ ap (λ o. option_or o (find (is_at c) (map of_pending engine.core.drain.pending))) there))

  -- what a done found
  found_at : (engine : Whole F) (A : List Step) (c : ℕ) (core_new : State (KeptRecord F)) (r : Reply) → EngineStands engine A → Stepped job_tag engine.core A (Done c) core_new (Ok r) → Found engine.core.sizes A c engine.held
  found_at engine A c core_new r st moved = holds-found engine.core.sizes A c engine.held st.core_stands.accepted (done_fault-none engine.core.sizes A c (free_of engine A (Done c) core_new r moved).0) st.held_is

  -- whatever a done answered, the job under its ticket is gone
  done_told : (old new : Whole F) (c : ℕ) (r : Reply) (answer : Option ℕ) → ((d : ℕ) → job_under new d ≡ cond (c == d) None (job_under old d)) → JobsKept old (Done c) new (answer_or answer r)
  done_told old new c r (Some n) gone = gone
  done_told old new c r None gone = gone

  -- a done takes its job away
  pub done_job : (old new : Whole F) (A : List Step) (c : ℕ) (r : Reply) (answer : Option ℕ) → EngineStands old A → Stepped job_tag old.core A (Done c) new.core (Ok r) → new.held ≡ record { room = old.held.room; actions = remove old.held.actions (position_or_len (fires c) old.held.actions) } → new.core.drain.pending ≡ old.core.drain.pending → JobsKept old (Done c) new (answer_or answer r)
  unfolding job_under
  done_job old new A c r answer st moved removed same =
      done_told old new c r answer
      (λ d.
      ap₂ (λ (row : Row F) ys. under (map of_taken row.actions ++ map of_pending ys) d) removed same
      ∙ ap (λ xs. under (xs ++ map of_pending old.core.drain.pending) d)
      (map_remove of_taken old.held.actions (position_or_len (fires c) old.held.actions)
      ∙ ap (remove (map of_taken old.held.actions)) (place_mapped of_taken (is_at c) old.held.actions))
      ∙ remove_value (map of_taken old.held.actions) (map of_pending old.core.drain.pending) c d (of_taken found.ready)
      (subst Rises (sym (tickets_undone old A st)) st.core_stands.ordered.rising)
      (found_job old c found.ready found.held_as).0)
    where
      found : Found old.core.sizes A c old.held
      found = found_at old A c new.core r st moved

  answered_by : (gives : F → FiringRecord → ℕ → Type 0) (firing : FiringRecord) (r : Reply) (kept : Option (KeptRecord F)) (answer : Option ℕ) → is_some answer ≡ is_some kept → IfSome kept (λ k. IsSomeAnd answer (gives k.job firing)) → IfSome kept (λ k. IfOk (answer_or answer r) (λ reply. (n : ℕ) × (reply ≡ Answer n) × IsSomeAnd (let o : Option FiringRecord = Some firing in o) (λ f. gives k.job f n)))
  answered_by gives firing r None answer same given = tt
  answered_by gives firing r (Some k) None same given = cc
  answered_by gives firing r (Some k) (Some n) same given = (n, refl, given)

  -- a done is answered by the job under its ticket
  pub done_ran : (gives : F → FiringRecord → ℕ → Type 0) (engine : Whole F) (A : List Step) (c : ℕ) (core_new : State (KeptRecord F)) (r : Reply) (answer : Option ℕ) → EngineStands engine A → Stepped job_tag engine.core A (Done c) core_new (Ok r) → is_some answer ≡ is_some (option_and_then (λ (ready : ReadyRecord F). ready.kept) (find (fires c) engine.held.actions)) → IfSome (find (fires c) engine.held.actions) (λ ready. IfSome ready.kept (λ kept. IsSomeAnd answer (gives kept.job ready.firing))) → RunsItsJob gives engine A (Done c) (answer_or answer r)
  done_ran gives engine A c core_new r answer st moved answered given =
      subst (λ (o : Option (KeptRecord F)). IfSome o (λ kept. IfOk (answer_or answer r) (λ reply. (n : ℕ) × (reply ≡ Answer n) × IsSomeAnd (firing_at engine.core.sizes c A) (λ f. gives kept.job f n)))) (sym (found_job engine c found.ready found.held_as).1)
      (subst (λ (o : Option FiringRecord). IfSome found.ready.kept (λ kept. IfOk (answer_or answer r) (λ reply. (n : ℕ) × (reply ≡ Answer n) × IsSomeAnd o (λ f. gives kept.job f n)))) (sym found.fired_as)
      (answered_by gives found.ready.firing r found.ready.kept answer
      (answered ∙ ap (λ (o : Option (ReadyRecord F)). is_some (option_and_then (λ (ready : ReadyRecord F). ready.kept) o)) found.held_as)
      (subst (λ (o : Option (ReadyRecord F)). IfSome o (λ ready. IfSome ready.kept (λ kept. IsSomeAnd answer (gives kept.job ready.firing)))) found.held_as given)))
    where
      found : Found engine.core.sizes A c engine.held
      found = found_at engine A c core_new r st moved
