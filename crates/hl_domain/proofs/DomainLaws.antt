-- What a call met and left under the lock, and in the calls of its rider.
use Rattle.std.proofs.Common.{◌≡◌, ℕ, ◌+◌, ◌*◌, ◌≤◌, List, [], ◌∷◌, ◌++◌, length, map, drop, refl, sym, ap, ◌∙◌, subst, arith, append_assoc, length-append}
use Rattle.std.specs.Prelude.{if◌then◌else◌, is_none, Result, Ok, Err, Option, Some, None, IfErr, OnErr, MatchResult}
use Rattle.std.specs.List.{AllByRecursion, sum_by}
use Rattle.std.proofs.lemmas.List.{append-nil, drop_at}
use Rattle.hl_model.specs.declared.fault.Fault.{Fault}
use Rattle.hl_model.specs.declared.step.Step.{Step}
use Rattle.hl_model.specs.declared.slot.Slot.{Slot}
use Rattle.hl_model.specs.declared.view.View.{View}
use Rattle.hl_model.specs.Sizes.{Sizes}
use Rattle.hl_model.specs.Actions.{pending, taken}
use Rattle.hl_model.specs.Bases.{base_of}
use Rattle.hl_model.specs.Replies.{IsAccepted, unless_fault}
use Rattle.hl_model.specs.Snapshots.{snapshot_of}
use Rattle.hl_drain.specs.Actions.{waiting_of}
use Rattle.hl_drain.specs.Lists.{Lists}
use Rattle.hl_action.specs.Jobs.{KeptRecord, ReadyRecord}
use Rattle.hl_laws.proofs.NoFaultLaws.{unless_err, unless_ok}
use Rattle.hl_history.specs.Lists.{entry, IsOf, IsOneList}
use Rattle.hl_words.specs.declared.view.OffsetWords.{OffsetWords}
use Rattle.hl_words.specs.declared.view.Extent.{Extent}
use Rattle.hl_words.specs.Rule.{IsRuledAt}
use Rattle.hl_words.specs.States.{RiderState, AreTied, with_call}
use Rattle.hl_core.specs.Standing.{State}
use Rattle.hl_keeper.specs.Keepers.{job_tag, KeeperState, KeeperStands, all_noted}
use Rattle.hl_keeper.specs.Passes.{PassRecord, seen, with_news, rested, new_pass, with_rider, with_share, Shares}
use Rattle.hl_keeper.specs.Taking.{ready_reply}
use Rattle.hl_keeper.specs.Calls.{Replied, Stays, made, entered, without_back}
use Rattle.hl_keeper.specs.Endings.{EndingState}
use Rattle.hl_keeper.specs.Stores.{stores_of}
use Rattle.hl_keeper.proofs.KeeperLaws.{counted}
use Rattle.hl_domain.specs.Domains.{DomainState, Setup, setup_of, IsAt, HeldState, extent_at, IsHeld, Call, LeavesUnderLock, IsEnding, call_of, no_step, answered, steps_if, with_held}

-- the list that a call leaves has the steps of its answer behind the one that it met
list_of : {X : Type 0} (fault : Option Fault) (x : X) (result : Result X Fault) (A steps whole : List Step) → result ≡ unless_fault fault x → whole ≡ A ++ steps → (if is_none fault then whole else A) ≡ A ++ steps_if result steps
list_of None x result A steps whole e is = is ∙ ap (λ z. A ++ steps_if z steps) (sym e)
list_of (Some f) x result A steps whole e is = sym (append-nil A) ∙ ap (λ z. A ++ steps_if z steps) (sym e)

-- a rider that entered nothing has the share that it had
no_share : (r : RiderState) → with_share 0 r ≡ r
no_share r = let same : r.share + 0 ≡ r.share = omega arith in ap (λ (n : ℕ). record { view = r.view; share = n; calls = r.calls }) same

-- a rider whose call was refused
pub stayed : (old mid : RiderState) → mid ≡ old → mid ≡ with_share 0 old
stayed old mid same = same ∙ sym (no_share old)

-- a rider's share grew by the call's steps, where it was accepted
grew : {X : Type 0} (result : Result X Fault) (steps : List Step) (old mid : RiderState) → Shares (length steps) result old mid → mid ≡ with_share (length (steps_if result steps)) old
grew (Ok x) steps old mid shares = shares
grew (Err f) steps old mid shares = stayed old mid shares

-- so it is of the answer alone, where a refusal hands something back
pub shares_alone : {X Y : Type 0} (result : Result X (Fault × Y)) (n : ℕ) (old mid : RiderState) → Shares n result old mid → Shares n (without_back result) old mid
shares_alone (Ok x) n old mid shares = shares
shares_alone (Err back) n old mid shares = shares

-- the rider of a pass entered its touches and the call's step, where it was accepted
pub rested_grew : {X : Type 0} (result : Result X Fault) (epoch : X → ℕ) (view : X → View) (s : Step) (old mid : PassRecord) → MatchResult result (λ x. mid ≡ rested (epoch x) (view x) old) (λ _. mid ≡ old) → mid.rider ≡ with_share (length (steps_if result (old.touches ++ s ∷ []))) old.rider
unfolding rested
rested_grew (Ok x) epoch view s old mid h = ap (λ (p : PassRecord). p.rider) h ∙ ap (λ n. with_share n old.rider) (sym (length-append old.touches (s ∷ [])))
rested_grew (Err f) epoch view s old mid h = stayed old.rider mid.rider (ap (λ (p : PassRecord). p.rider) h)

-- the pass that has its rider back
pub rested_held : {X : Type 0} (result : Result X Fault) (epoch : X → ℕ) (view : X → View) (old mid : PassRecord) (rider : RiderState) → MatchResult result (λ x. mid ≡ rested (epoch x) (view x) old) (λ _. mid ≡ old) → MatchResult result (λ x. with_rider rider mid ≡ with_held (epoch x) (view x) (with_rider rider old)) (λ _. with_rider rider mid ≡ with_rider rider old)
unfolding rested
rested_held (Ok x) epoch view old mid rider h = ap (with_rider rider) h
rested_held (Err f) epoch view old mid rider h = ap (with_rider rider) h

-- loads of the master's words leave what a pass saw
pub seen_news : (read_only head ended : ℕ) (p : PassRecord) → seen (with_news read_only head ended p) ≡ seen p
unfolding with_news
seen_news read_only head ended p = refl

-- a call was accepted, whatever it answers
still_accepted : {X Y : Type 0} (fault : Option Fault) (x z : X) (y : Y) → Ok x ≡ unless_fault fault z → Ok y ≡ unless_fault fault y
still_accepted fault x z y e = sym (ap (λ o. unless_fault o y) (unless_ok fault x z e).0)

module _ {F : Type 0} {fault : Option Fault} {list : List Step} {new : KeeperState F} where
  -- a keeper refused a call, whatever it would have answered
  pub refused_as : {X Y : Type 0} {x : X} {f : Fault} (y : Y) → Replied fault x list new (Err f) → Replied fault y list new (Err f)
  refused_as {x} {f} y r = record { reply = sym (ap (λ o. unless_fault o y) (unless_err fault f x r.reply)); standing = r.standing }

  -- a keeper accepted a call, whatever it answers
  pub accepted_as : {X Y : Type 0} {x z : X} (y : Y) → Replied fault z list new (Ok x) → Replied fault y list new (Ok y)
  accepted_as {x} {z} y r = record { reply = still_accepted fault x z y r.reply; standing = r.standing }

  -- the rider whom an accepted release hands out entered the touches and the call's step
  pub released_grew : {mid : RiderState} (s : Step) (old : PassRecord) → Replied fault (with_share (length old.touches + 1) old.rider) list new (Ok mid) → mid ≡ with_share (length (old.touches ++ s ∷ [])) old.rider
  released_grew {mid} s old r =
      (unless_ok fault mid (with_share (length old.touches + 1) old.rider) r.reply).1 ∙ ap (λ n. with_share n old.rider) (sym (length-append old.touches (s ∷ [])))

  -- the rider of a new pass
  pub acquired_grew : {t stamp : ℕ} {slot : Slot} {mid : PassRecord} {rider : RiderState} → Replied fault (new_pass t stamp slot rider) list new (Ok mid) → mid.rider ≡ rider
  acquired_grew {t} {stamp} {slot} {mid} {rider} r = ap (λ (p : PassRecord). p.rider) (unless_ok fault mid (new_pass t stamp slot rider) r.reply).1

  -- the new pass that has its rider back
  pub reseated : {t stamp : ℕ} {slot : Slot} {mid : PassRecord} {before : RiderState} (after : RiderState) → Replied fault (new_pass t stamp slot before) list new (Ok mid) → Replied fault (new_pass t stamp slot after) list new (Ok (with_rider after mid))
  reseated {t} {stamp} {slot} {mid} {before} after r = record {
    reply =
        ap (λ p. Ok (with_rider after p)) (unless_ok fault mid (new_pass t stamp slot before) r.reply).1
        ∙ still_accepted fault mid (new_pass t stamp slot before) (new_pass t stamp slot after) r.reply;
    standing = r.standing;
  }

-- what is handed back, and what else a refusal keeps
pub handed_back : {X Y Z : Type 0} (result : Result X (Y × Z)) (z : Z) (Kept : Type 0) → IfErr result (λ back. (back.1 ≡ z) × Kept) → IfErr result (λ back. back.1 ≡ z) × OnErr result Kept
handed_back (Ok x) z Kept h = (tt, tt)
handed_back (Err back) z Kept h = h

-- a keeper with this journal, which had noted all calls, went on from the list at which it stood by these steps; maybe it
-- cut some that it had
pub record Moved {F : Type 0} (setup : Setup) (list steps journal : List Step) (old new : KeeperState F) : Type 0 where
  pub met : IsHeld setup (record { keeper = old; list = list })
  pub left : IsAt setup (list ++ steps) new
  pub cuts : old.cut ≤ new.cut
  pub called : new.called ≡ extent_at old.cut list
  pub grows : new.journal ≡ journal ++ steps

module _ {F : Type 0} where
  -- what lies under the lock stands at its list, and noted all calls
  pub met_held : {setup : Setup} {guarded now : HeldState F} {k : KeeperState F} {A : List Step} → IsHeld setup guarded → now ≡ guarded → record { keeper = k; list = A } ≡ now → IsHeld setup (record { keeper = k; list = A })
  met_held {setup} {k} {A} held value view = subst (IsHeld setup) (sym (view ∙ value)) held

  -- the journal of a keeper that cut none has the steps behind it
  journal_grows : {A : List Step} {old new : KeeperState F} (steps : List Step) → KeeperStands old A → KeeperStands new (A ++ steps) → new.cut ≡ old.cut → new.journal ≡ old.journal ++ steps
  journal_grows {A} {old} {new} steps a b cut =
      sym (drop_at b.steps_cut new.journal (length a.steps_cut) (sym b.cut_is ∙ cut ∙ a.cut_is))
      ∙ ap (drop (length a.steps_cut)) (sym b.history ∙ ap (λ z. z ++ steps) a.history ∙ append_assoc a.steps_cut old.journal steps)
      ∙ drop_at a.steps_cut (old.journal ++ steps) (length a.steps_cut) refl

  -- by what a keeper's call answered at each list, and what it kept
  moved : {X : Type 0} {setup : Setup} {A journal : List Step} {old new : KeeperState F} {fault : Option Fault} {x : X} {result : Result X Fault} (steps whole : List Step) → IsHeld setup (record { keeper = old; list = A }) → journal ≡ old.journal → Stays old new
      → Replied fault x (if is_none fault then whole else A) new result → whole ≡ A ++ steps → Moved setup A (steps_if result steps) journal old new
  moved {A} {old} {new} {fault} {x} {result} steps whole held journal stays r is =
      let at = held.at in
      let stands = subst (KeeperStands new) (list_of fault x result A steps whole r.reply is) r.standing in
      record {
        met = held;
        left = record { stands = stands; sizes_are = stays.sizes ∙ at.sizes_are; stamp_is = stays.stamp ∙ at.stamp_is; limit_is = stays.limit ∙ at.limit_is };
        cuts = omega (arith, stays.cut);
        called = stays.called ∙ held.noted;
        grows = journal_grows (steps_if result steps) at.stands stands stays.cut ∙ ap (λ z. z ++ steps_if result steps) (sym journal);
      }

  -- it made one step, where it was accepted
  pub one_step : {X : Type 0} {setup : Setup} {A journal : List Step} {old new : KeeperState F} {fault : List Step → Option Fault} {x : List Step → X} {result : Result X Fault} (s : List Step → Step) → IsHeld setup (record { keeper = old; list = A }) → journal ≡ old.journal → Stays old new
      → ((A : List Step) → KeeperStands old A → Replied (fault A) (x A) (made (fault A) A (s A)) new result) → Moved setup A (steps_if result (s A ∷ [])) journal old new
  one_step {A} s held journal stays makes = moved (s A ∷ []) (A ++ s A ∷ []) held journal stays (makes A held.at.stands) refl

  -- or it entered touches and made one step
  pub touched_step : {X : Type 0} {setup : Setup} {A journal : List Step} {old new : KeeperState F} {fault : List Step → Option Fault} {x : List Step → X} {result : Result X Fault} (touches : List Step) (s : Step) → IsHeld setup (record { keeper = old; list = A }) → journal ≡ old.journal → Stays old new
      → ((A : List Step) → KeeperStands old A → Replied (fault A) (x A) (entered (fault A) A touches s) new result) → Moved setup A (steps_if result (touches ++ s ∷ [])) journal old new
  touched_step {A} touches s held journal stays makes = moved (touches ++ s ∷ []) ((A ++ touches) ++ s ∷ []) held journal stays (makes A held.at.stands) (append_assoc A touches (s ∷ []))

  -- a call that makes no step, and maybe cuts some: its keeper stands where it stood
  pub no_steps : {setup : Setup} {A : List Step} {old new : KeeperState F} → IsHeld setup (record { keeper = old; list = A }) → IsAt setup A new → old.cut ≤ new.cut → new.called ≡ old.called → Moved setup A [] new.journal old new
  no_steps {setup} {A} {new} held at cuts called = record {
    met = held;
    left = subst (λ (z : List Step). IsAt setup z new) (sym (append-nil A)) at;
    cuts = cuts;
    called = called ∙ held.noted;
    grows = sym (append-nil new.journal);
  }

  -- one that only asks
  pub only_asked : {setup : Setup} {A : List Step} {k : KeeperState F} → IsHeld setup (record { keeper = k; list = A }) → Moved setup A [] k.journal k k
  only_asked held = no_steps held held.at (omega arith) refl

  -- one that cut steps
  pub cut_held : {setup : Setup} {A : List Step} {old new : KeeperState F} → IsHeld setup (record { keeper = old; list = A }) → new.core ≡ old.core → new.stamp ≡ old.stamp → new.limit ≡ old.limit → ((A : List Step) → KeeperStands old A → KeeperStands new A) → old.cut ≤ new.cut → new.called ≡ old.called → Moved setup A [] new.journal old new
  cut_held {A} held core stamp limit standing cuts called =
      let at = held.at in
      no_steps held (record { stands = standing A at.stands; sizes_are = ap (λ (z : State _). z.sizes) core ∙ at.sizes_are; stamp_is = stamp ∙ at.stamp_is; limit_is = limit ∙ at.limit_is }) cuts called

module _ {F : Type 0} {setup : Setup} {A steps journal : List Step} {old new : KeeperState F} (m : Moved setup A steps journal old new) where
  -- what the journal has behind the one before
  steps_behind : drop (length journal) new.journal ≡ steps
  steps_behind = ap (drop (length journal)) m.grows ∙ drop_at journal steps (length journal) refl

  -- so the call may be noted
  pub may_note : (length journal ≤ length new.journal) × (new.called.steps ≡ length A) × (new.called.cut ≤ new.cut) × (new.total ≡ length A + length (drop (length journal) new.journal))
  may_note = (omega (arith, ap length m.grows, length-append journal steps), ap (λ e. e.steps) m.called, omega (arith, ap (λ e. e.cut) m.called, m.cuts), omega (arith, m.left.stands.total_is, length-append A steps, ap length steps_behind))

  -- a keeper that noted it lies under the lock at the list behind which the steps were put
  pub noted_with : {last : KeeperState F} {list : List Step} → last ≡ all_noted new → list ≡ A ++ steps → IsHeld setup (record { keeper = last; list = list })
  noted_with same listed =
      let at = m.left in
      let st = at.stands in
      rw (same, listed) (record {
        at = record {
          stands = record {
            core_stands = st.core_stands;
            steps_cut = st.steps_cut;
            history = st.history;
            base_is = st.base_is;
            cut_is = st.cut_is;
            stores_are = st.stores_are;
            read_only_is = st.read_only_is;
            head_is = st.head_is;
            safe_read_only_is = st.safe_read_only_is;
            total_is = st.total_is;
            total_most = st.total_most;
            journal_most = st.journal_most;
            acquired_is = st.acquired_is;
            stamps_are = st.stamps_are;
            stamp_most = st.stamp_most;
          };
          sizes_are = at.sizes_are;
          stamp_is = at.stamp_is;
          limit_is = at.limit_is;
        };
        noted = ap (λ n. record { steps = n; cut = new.cut }) st.total_is;
      })

  pub noted_behind : {last : KeeperState F} {list : List Step} → last ≡ all_noted new → list ≡ A ++ drop (length journal) new.journal → IsHeld setup (record { keeper = last; list = list })
  noted_behind same listed = noted_with same (listed ∙ ap (λ z. A ++ z) steps_behind)

-- a call that made no step may be noted
pub may_ask : {F : Type 0} {setup : Setup} {A journal : List Step} {old new : KeeperState F} → Moved setup A [] journal old new → (new.called.steps ≡ length A) × (new.called.cut ≤ new.cut) × (new.total ≡ length A)
may_ask {A} m = (ap (λ e. e.steps) m.called, omega (arith, ap (λ e. e.cut) m.called, m.cuts), omega (arith, m.left.stands.total_is, length-append A []))

module _ {F : Type 0} {domain : DomainState} {A journal : List Step} {old new : KeeperState F} {mid : RiderState} {Holds : KeeperState F → KeeperState F → Type 0} where
  -- it is a call of a rider: what it met, what it left, and what its calls are then
  pub asked_left : (call : Call) → Moved (setup_of domain) A (call.steps A) journal old new → mid ≡ with_share (length (call.steps A)) call.old
      → call.new ≡ with_call new.called.cut new.cut (entry A (call.steps A)) mid → IsOf A mid.calls → Holds old new → LeavesUnderLock F domain call Holds
  asked_left call m grows noted rises holds = record {
    list = A;
    before = old;
    after = new;
    met = m.met.at;
    left = m.left;
    entered = noted ∙ ap (λ n. with_call n new.cut (entry A (call.steps A)) mid) (ap (λ (e : Extent). e.cut) m.called) ∙ ap (with_call old.cut new.cut (entry A (call.steps A))) grows;
    rises = subst (λ (r : RiderState). IsOf A r.calls) grows rises;
    holds = holds;
  }

  pub call_left : {X : Type 0} (call : Call) (result : Result X Fault) → Moved (setup_of domain) A (steps_if result (call.steps A)) journal old new → mid ≡ with_share (length (steps_if result (call.steps A))) call.old
      → call.new ≡ with_call new.called.cut new.cut (entry A (drop (length journal) new.journal)) mid → IsOf A mid.calls → Holds old new → LeavesUnderLock F domain (answered result call) Holds
  call_left call result m grows noted = asked_left (answered result call) m grows (noted ∙ ap (λ z. with_call new.called.cut new.cut (entry A z) mid) (steps_behind m))

  -- one of a rider that makes one step
  pub rider_left : {X : Type 0} {after : RiderState} (s : Step) (before : RiderState) (result : Result X Fault) → Moved (setup_of domain) A (steps_if result (s ∷ [])) journal old new → Shares 1 result before mid
      → after ≡ with_call new.called.cut new.cut (entry A (drop (length journal) new.journal)) mid → IsOf A mid.calls → Holds old new → LeavesUnderLock F domain (answered result (call_of s before after)) Holds
  rider_left {after} s before result m shares = call_left (call_of s before after) result m (grew result (s ∷ []) before mid shares)

  -- one that makes none
  pub quiet_left : {before after : RiderState} → Moved (setup_of domain) A [] journal old new → mid ≡ before
      → after ≡ with_call new.called.cut new.cut (entry A []) mid → IsOf A mid.calls → Holds old new → LeavesUnderLock F domain (no_step before after) Holds
  quiet_left {before} {after} m same = asked_left (no_step before after) m (stayed before mid same)

-- the steps of a take are those of what it tells
pub told : {F : Type 0} {setup : Setup} {A journal : List Step} {old new : KeeperState F} (result : Result (ReadyRecord F) Fault) (steps : List Step) → Moved setup A (steps_if (ready_reply result) steps) journal old new → Moved setup A (steps_if result steps) journal old new
told (Ok ready) steps m = m
told (Err fault) steps m = m

-- what is left of a keeper that was closed
pub ending_of : {F : Type 0} (sizes : Sizes) (riders : List RiderState) (list : List Step) (k : KeeperState F) (e : EndingState F) → KeeperStands k list → k.core.sizes ≡ sizes → e.base ≡ k.base → e.cut ≡ k.cut → e.journal ≡ k.journal → e.left ≡ k.core.drain → ((A : List Step) → KeeperStands k A → e.snapshot ≡ snapshot_of k.core.sizes A) → k.total ≡ sum_by (λ r. r.share) riders → IsOneList list (map (λ r. r.calls) riders) → k.called ≡ extent_at k.cut list → IsRuledAt e.words.cells e.words.words k.offsets k.called (map (λ r. r.view) riders) → AllByRecursion (λ (r : RiderState). AreTied r.view.touches r.calls) riders → e.words.cells ≡ sizes.frames * sizes.page_size → IsEnding sizes riders e
ending_of {F} sizes riders A k e st same base cut journal left quantities total one called ruled tied cells = record {
  steps_cut = st.steps_cut;
  accepted = subst (λ (z : Sizes). IsAccepted z (st.steps_cut ++ e.journal)) same (subst (λ (z : List Step). IsAccepted k.core.sizes z) list st.core_stands.accepted);
  one_list = subst (λ (z : List Step). IsOneList z (map (λ r. r.calls) riders)) list one;
  base_is = base ∙ st.base_is ∙ ap (λ z. base_of z st.steps_cut) same;
  cut_is = cut ∙ st.cut_is;
  snapshot_is = quantities A st ∙ ap (snapshot_of k.core.sizes) list ∙ ap (λ z. snapshot_of z (st.steps_cut ++ e.journal)) same;
  pending_are = ap (λ (z : Lists (KeptRecord F)). map (waiting_of job_tag) z.pending) left ∙ st.core_stands.pending_is ∙ ap pending list;
  taken_are = ap (λ (z : Lists (KeptRecord F)). z.taken) left ∙ st.core_stands.taken_is ∙ ap taken list;
  ruled = subst (λ (z : Extent). IsRuledAt e.words.cells e.words.words (stores_of (st.steps_cut ++ e.journal)) z (map (λ r. r.view) riders)) (called ∙ ap (extent_at k.cut) list ∙ ap (λ n. extent_at n (st.steps_cut ++ e.journal)) (sym cut))
      (subst (λ (z : OffsetWords). IsRuledAt e.words.cells e.words.words z k.called (map (λ r. r.view) riders)) (st.stores_are ∙ ap stores_of list) ruled);
  tied = tied;
  cells_are = cells;
  sum = omega (arith, cut, ap length journal, counted k A st, total);
}
  where
    list : A ≡ st.steps_cut ++ e.journal
    list = st.history ∙ ap (λ z. st.steps_cut ++ z) (sym journal)
