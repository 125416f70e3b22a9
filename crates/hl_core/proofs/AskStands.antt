-- What a bump, a settle and a close have in common, and where a core stands after one.
use Rattle.std.proofs.Common.{◌≡◌, ℕ, ◌+◌, ◌<◌, ◌≤◌, Bool, true, false, cond, not, List, [], ◌∷◌, ◌++◌, length, map, take, refl, sym, ap, ap₂, ◌∙◌, subst, arith}
use Rattle.std.specs.Prelude.{Some, None, Result, Ok, Err, All}
use Rattle.std.specs.List.{filter, AllByRecursion}
use Rattle.std.proofs.lemmas.Bool.{eq-eqb, ne_eqb}
use Rattle.std.proofs.lemmas.List.{map-append, length-map}
use Rattle.std.proofs.lemmas.List.Elements.{All-from_recursion}
use Rattle.hl_model.specs.declared.action.Waiting.{Waiting}
use Rattle.hl_model.specs.declared.fault.Fault.{Fault}
use Rattle.hl_model.specs.declared.fault.Fault.TheVariants.{DrainFull}
use Rattle.hl_model.specs.declared.step.Reply.TheVariants.{Ticket, Bumped}
use Rattle.hl_model.specs.declared.step.Step.{Step}
use Rattle.hl_model.specs.declared.step.Step.TheVariants.{Bare}
use Rattle.hl_model.specs.Sizes.{Sizes}
use Rattle.hl_model.specs.Epochs.{epoch_window, Table, table_of, is_bump, enters, leaves, current_epoch, safe_epoch}
use Rattle.hl_model.specs.Actions.{is_take, finishes, action_of, actions, pending, ever_taken, taken, takes, bumps, is_finished, is_full}
use Rattle.hl_model.specs.Views.{allocates, looked_read_only, looked_head}
use Rattle.hl_model.specs.Replies.{fault_of, answer_of, bare_fault, bump_fault, unless_fault, unless_refused}
use Rattle.hl_laws.proofs.AcceptedLaws.{IsAccepted-push}
use Rattle.hl_laws.proofs.ActionLaws.{bumps-push, current_epoch-bumps, actions-numbers, pending-stores, taken-stores}
use Rattle.hl_laws.proofs.DrainLaws.{takes-le-actions, length-both, actions-dones, is_full-both}
use Rattle.hl_laws.proofs.EpochLaws.{current_epoch-push, slot_epochs-stay}
use Rattle.hl_laws.proofs.ViewLaws.{slot_views-stay}
use Rattle.hl_epoch.specs.Table.{bumped}
use Rattle.hl_drain.specs.declared.action.Ask.{Ask}
use Rattle.hl_drain.specs.declared.action.Ask.TheVariants.{User as AskUser, Settle as AskSettle, Close as AskClose}
use Rattle.hl_drain.specs.declared.action.Action.{Action}
use Rattle.hl_drain.specs.Actions.{waiting_of}
use Rattle.hl_drain.specs.Lists.{Lists, IsDrain, count_of, tickets, after_put}
use Rattle.hl_core.specs.Standing.{State, Stands, IsStanding, log_of}
use Rattle.hl_core.specs.Rise.{rise_fault}
use Rattle.hl_core.specs.Steps.{Made, asking, stored, as_reply}
use Rattle.hl_core.proofs.TableLaws.{make}
use Rattle.hl_core.proofs.QuietLaws.{OffsetsStay, PagesStay, log-stays, pages-stay}
use Rattle.hl_core.proofs.Refusals.{call_accepts}
use Rattle.hl_core.proofs.StandLaws.{refused_step, table_refused, accepted_step, quiet_drain}
use Rattle.hl_laws.proofs.NoFaultLaws.{unless_ok}
use Rattle.hl_model.proofs.ListLaws.{all-append, all-drop, all-follows, all-take}

-- a step that stores an action
record Stores (s : Step) : Type 0 where
  fault : (sizes : Sizes) (A : List Step) → fault_of sizes A s ≡ bump_fault sizes A
  reply : (sizes : Sizes) (A B : List Step) → answer_of sizes A B s ≡ Ticket (bumps B)
  bump : is_bump s ≡ true
  takes_none : is_take s ≡ false
  ends_none : (c : ℕ) → finishes c s ≡ false
  enters_none : (t : ℕ) → enters t s ≡ false
  leaves_none : (t : ℕ) → leaves t s ≡ false
  allocates_none : (t : ℕ) → allocates t s ≡ false
  looks_none : (t : ℕ) → looked_read_only t s ≡ None
  sees_none : (t : ℕ) → looked_head t s ≡ None
  offsets : OffsetsStay s
  pages : PagesStay s

module _ {J : Type 0} (tag : J → ℕ) where
  stores : (ask : Ask J) → Stores (asking tag ask)
  stores AskSettle = record {
    fault = λ z A. refl;
    reply = λ z A B. refl;
    bump = refl;
    takes_none = refl;
    ends_none = λ c. refl;
    enters_none = λ t. refl;
    leaves_none = λ t. refl;
    allocates_none = λ t. refl;
    looks_none = λ t. refl;
    sees_none = λ t. refl;
    offsets = record { done = refl; raised = refl; shifted = refl; allocated = λ a b. refl };
    pages = record { flush_taken = refl; flush_ended = refl; flushed = λ a. refl; clean_taken = refl; clean_ended = refl; freed = λ a. refl };
  }
  stores AskClose = record {
    fault = λ z A. refl;
    reply = λ z A B. refl;
    bump = refl;
    takes_none = refl;
    ends_none = λ c. refl;
    enters_none = λ t. refl;
    leaves_none = λ t. refl;
    allocates_none = λ t. refl;
    looks_none = λ t. refl;
    sees_none = λ t. refl;
    offsets = record { done = refl; raised = refl; shifted = refl; allocated = λ a b. refl };
    pages = record { flush_taken = refl; flush_ended = refl; flushed = λ a. refl; clean_taken = refl; clean_ended = refl; freed = λ a. refl };
  }
  stores (AskUser job) = record {
    fault = λ z A. refl;
    reply = λ z A B. refl;
    bump = refl;
    takes_none = refl;
    ends_none = λ c. refl;
    enters_none = λ t. refl;
    leaves_none = λ t. refl;
    allocates_none = λ t. refl;
    looks_none = λ t. refl;
    sees_none = λ t. refl;
    offsets = record { done = refl; raised = refl; shifted = refl; allocated = λ a b. refl };
    pages = record { flush_taken = refl; flush_ended = refl; flushed = λ a. refl; clean_taken = refl; clean_ended = refl; freed = λ a. refl };
  }

  -- what it stores
  action-stored : (sizes : Sizes) (A : List Step) (ask : Ask J) → action_of A (asking tag ask) ≡ waiting_of tag (current_epoch A, stored (log_of sizes A) ask) ∷ []
  action-stored sizes A AskSettle = refl
  action-stored sizes A AskClose = refl
  action-stored sizes A (AskUser job) = refl

-- what holds of each holds of those that pass, of the first and of the others
all_filter : {X : Type 0} (P : X → Type 0) (p : X → Bool) (xs : List X) → AllByRecursion P xs → AllByRecursion P (filter p xs)
all_filter P p [] h = tt
all_filter P p (x ∷ xs) h = elim (p x) as (λ b. AllByRecursion P (cond b (x ∷ filter p xs) (filter p xs))) [ true ↦ (h.0, all_filter P p xs h.1) | false ↦ all_filter P p xs h.1 ]

all_tickets : (c : ℕ) (ws : List Waiting) → AllByRecursion (λ w. w.ticket < c) ws → AllByRecursion (λ t. t < c) (map (λ w. w.ticket) ws)
all_tickets c [] h = tt
all_tickets c (w ∷ ws) h = (h.0, all_tickets c ws h.1)

-- every ticket is below the current epoch
tickets_below : (A : List Step) → AllByRecursion (λ w. w.ticket < current_epoch A) (actions A)
tickets_below A =
    all-follows (λ w. (1 ≤ w.ticket) × (w.ticket ≤ bumps A)) (λ w. w.ticket < current_epoch A) (actions A)
    (λ w known. omega (arith, known.1, current_epoch-bumps A)) (actions-numbers A)

pending_below : (A : List Step) → AllByRecursion (λ w. w.ticket < current_epoch A) (pending A)
unfolding pending
pending_below A = all-drop (λ w. w.ticket < current_epoch A) (takes A) (actions A) (tickets_below A)

taken_below : (A : List Step) → AllByRecursion (λ w. w.ticket < current_epoch A) (taken A)
unfolding taken ever_taken
taken_below A = all_filter (λ w. w.ticket < current_epoch A) (λ w. not (is_finished w.ticket A)) (take (takes A) (actions A)) (all-take (λ w. w.ticket < current_epoch A) (takes A) (actions A) (tickets_below A))

module _ {J : Type 0} (tag : J → ℕ) where
  waiting_tickets : (entries : List (ℕ × Action J)) → map (λ w. w.ticket) (map (waiting_of tag) entries) ≡ map (λ e. e.0) entries
  waiting_tickets [] = refl
  waiting_tickets (e ∷ es) = ap (λ z. e.0 ∷ z) (waiting_tickets es)

  -- an action may be stored under the current epoch
  pub put_fits : (core : State J) (ticket : ℕ) → IsStanding tag core → Ok ticket ≡ unless_fault (rise_fault core.table) core.table.current → All (λ earlier. earlier < ticket) (tickets core.drain)
  put_fits core ticket at a =
      let A = at.0 in
      let st : Stands tag core A = at.1 in
      let now : current_epoch A ≡ ticket = sym ((unless_ok (rise_fault core.table) ticket core.table.current a).1 ∙ ap (λ (z : Table). z.current) st.table_is) in
      let held : AllByRecursion (λ t. t < current_epoch A) (map (λ w. w.ticket) core.drain.taken) = subst (λ ws. AllByRecursion (λ t. t < current_epoch A) (map (λ w. w.ticket) ws)) (sym st.taken_is) (all_tickets (current_epoch A) (taken A) (taken_below A)) in
      let waits : AllByRecursion (λ t. t < current_epoch A) (map (λ e. e.0) core.drain.pending) =
      subst (AllByRecursion (λ t. t < current_epoch A)) (sym (ap (map (λ w. w.ticket)) st.pending_is) ∙ waiting_tickets core.drain.pending) (all_tickets (current_epoch A) (pending A) (pending_below A)) in
      subst (λ (n : ℕ). All (λ earlier. earlier < n) (tickets core.drain)) now
      (All-from_recursion (λ earlier. earlier < current_epoch A) (tickets core.drain) (all-append (λ t. t < current_epoch A) (map (λ w. w.ticket) core.drain.taken) (map (λ e. e.0) core.drain.pending) held waits))

  -- how many actions there are
  count_is : (core : State J) (A : List Step) → Stands tag core A → (length core.drain.pending ≡ length (pending A)) × (length core.drain.taken ≡ length (taken A))
  count_is core A st = (sym (length-map core.drain.pending (waiting_of tag)) ∙ ap length st.pending_is, ap length st.taken_is)

  -- a full list is full by the definitions
  pub is_full-list : (core : State J) (A : List Step) → Stands tag core A → core.drain.limit ≤ count_of core.drain → is_full core.sizes.drain A ≡ true
  is_full-list core A st le =
      let counts = count_is core A st in
      is_full-both core.sizes core.sizes.drain A st.accepted ∙ eq-eqb (length (pending A) + length (taken A)) core.sizes.drain (omega (arith, le, st.limit_is, counts.0, counts.1, length-both core.sizes A st.accepted, actions-dones core.sizes A st.accepted))

  -- a list with room isn't
  pub has_room-list : (core : State J) (A : List Step) → Stands tag core A → count_of core.drain < core.drain.limit → is_full core.sizes.drain A ≡ false
  has_room-list core A st room =
      let counts = count_is core A st in
      is_full-both core.sizes core.sizes.drain A st.accepted ∙ ne_eqb (length (pending A) + length (taken A)) core.sizes.drain (λ e. omega (arith, e, room, st.limit_is, counts.0, counts.1))

  -- the table's window is the common one
  pub window_is : (core : State J) → IsStanding tag core → core.table.window ≡ epoch_window
  window_is core (A, st) = ap (λ (z : Table). z.window) st.table_is

  -- the fault of a bare bump
  pub bare_fault-table : (core : State J) (A : List Step) → Stands tag core A → bare_fault core.sizes A ≡ rise_fault core.table
  unfolding safe_epoch
  bare_fault-table core A st = sym (ap rise_fault st.table_is)

  -- the fault of a bump with room
  pub room_fault : (core : State J) (A : List Step) → Stands tag core A → count_of core.drain < core.drain.limit → bump_fault core.sizes A ≡ rise_fault core.table
  room_fault core A st room = ap (λ b. cond b (Some DrainFull) (bare_fault core.sizes A)) (has_room-list core A st room) ∙ bare_fault-table core A st

  -- a bump of a full list
  pub bump_full : (core : State J) (ask : Ask J) → core.drain.limit ≤ count_of core.drain → Made tag core (asking tag ask) core (Err DrainFull)
  bump_full core ask le A st =
      refused_step tag core A (asking tag ask) DrainFull st ((stores tag ask).fault core.sizes A ∙ ap (λ b. cond b (Some DrainFull) (bare_fault core.sizes A)) (is_full-list core A st le))

  -- a refused bare bump
  bare_err : (core : State J) (f : Fault) (table : Table) → Err f ≡ unless_fault (rise_fault core.table) core.table.current → table ≡ unless_refused (rise_fault core.table) core.table (bumped core.table) → Made tag core Bare (record { sizes = core.sizes; table = table; views = core.views; drain = core.drain; offsets = core.offsets; pages = core.pages }) (Err f)
  bare_err core f table a e =
      table_refused tag core Bare f (rise_fault core.table) core.table.current (bumped core.table) table a e (bare_fault-table core)

  -- an accepted bare bump
  bare_ok : (core : State J) (ended : ℕ) (table : Table) → Ok ended ≡ unless_fault (rise_fault core.table) core.table.current → table ≡ unless_refused (rise_fault core.table) core.table (bumped core.table) → Made tag core Bare (record { sizes = core.sizes; table = table; views = core.views; drain = core.drain; offsets = core.offsets; pages = core.pages }) (Ok (Bumped ended))
  bare_ok core ended table a eff A st =
      accepted_step tag core (record { sizes = core.sizes; table = table; views = core.views; drain = core.drain; offsets = core.offsets; pages = core.pages }) A Bare (Bumped ended) free refl reply
      (quiet_drain tag core A Bare table core.views core.offsets core.pages st free (record { takes_none = refl; ends_none = λ c. refl; stores_none = refl }) table_is
      (st.views_is ∙ sym (slot_views-stay core.sizes A Bare (λ t. refl) (λ t. refl) (λ t. refl) (λ t. refl) (λ t. refl)))
      (st.offsets_is ∙ sym (log-stays core.sizes A Bare st.accepted (record { done = refl; raised = refl; shifted = refl; allocated = λ x y. refl })))
      (st.pages_is ∙ sym (pages-stay core.sizes A Bare (λ x y. refl) (record { flush_taken = refl; flush_ended = refl; flushed = λ x. refl; clean_taken = refl; clean_ended = refl; freed = λ x. refl }))))
    where
      both : (rise_fault core.table ≡ None) × (ended ≡ core.table.current)
      both = unless_ok (rise_fault core.table) ended core.table.current a

      free : fault_of core.sizes A Bare ≡ None
      free = bare_fault-table core A st ∙ both.0

      is : ended ≡ current_epoch A
      is = both.1 ∙ ap (λ (z : Table). z.current) st.table_is

      table_is : table ≡ table_of core.sizes (A ++ Bare ∷ [])
      table_is = (call_accepts (rise_fault core.table) ended core.table.current core.table (bumped core.table) table a eff).1 ∙ ap bumped st.table_is
          ∙ ap₂ make (sym (current_epoch-push A Bare)) (sym (slot_epochs-stay core.sizes.slots A Bare (λ t. refl) (λ t. refl)))

      reply : Bumped (bumps (A ++ Bare ∷ [])) ≡ Bumped ended
      reply = ap (λ n. Bumped n) (omega (arith, bumps-push A Bare, is, current_epoch-bumps A))

  -- a bare bump
  pub bare_made : (core : State J) (result : Result ℕ Fault) (table : Table) → result ≡ unless_fault (rise_fault core.table) core.table.current → table ≡ unless_refused (rise_fault core.table) core.table (bumped core.table) → Made tag core Bare (record { sizes = core.sizes; table = table; views = core.views; drain = core.drain; offsets = core.offsets; pages = core.pages }) (as_reply Bumped result)
  bare_made core (Ok ended) table a e = bare_ok core ended table a e
  bare_made core (Err f) table a e = bare_err core f table a e

  -- a bump of a list with room that is refused: the epoch may not rise
  pub bump_spent : (core : State J) (ask : Ask J) (f : Fault) (table : Table) → count_of core.drain < core.drain.limit → Err f ≡ unless_fault (rise_fault core.table) core.table.current → table ≡ unless_refused (rise_fault core.table) core.table (bumped core.table) → Made tag core (asking tag ask) (record { sizes = core.sizes; table = table; views = core.views; drain = core.drain; offsets = core.offsets; pages = core.pages }) (Err f)
  bump_spent core ask f table room a e =
      table_refused tag core (asking tag ask) f (rise_fault core.table) core.table.current (bumped core.table) table a e
      (λ A st. (stores tag ask).fault core.sizes A ∙ room_fault core A st room)

  -- an accepted bump: the action is the last pending one
  pub bump_ok : (core : State J) (ask : Ask J) (ticket : ℕ) (table : Table) (action : Action J) (drain : Lists J) → count_of core.drain < core.drain.limit → Ok ticket ≡ unless_fault (rise_fault core.table) core.table.current → table ≡ unless_refused (rise_fault core.table) core.table (bumped core.table) → action ≡ stored core.offsets ask → drain ≡ after_put core.drain ticket action → IsDrain drain → Made tag core (asking tag ask) (record { sizes = core.sizes; table = table; views = core.views; drain = drain; offsets = core.offsets; pages = core.pages }) (Ok (Ticket ticket))
  bump_ok core ask ticket table action drain room a eff act put known A st =
      accepted_step tag core (record { sizes = core.sizes; table = table; views = core.views; drain = drain; offsets = core.offsets; pages = core.pages }) A s (Ticket ticket) free refl reply (record {
        in_range = st.in_range;
        accepted = IsAccepted-push core.sizes A s st.accepted free;
        table_is = table_is;
        views_is = st.views_is ∙ sym (slot_views-stay core.sizes A s (stores tag ask).enters_none (stores tag ask).leaves_none (stores tag ask).allocates_none (stores tag ask).looks_none (stores tag ask).sees_none);
        limit_is = ap (λ (z : Lists J). z.limit) put_is ∙ st.limit_is;
        pending_is = ap (λ (z : Lists J). map (waiting_of tag) z.pending) put_is ∙ map-append (waiting_of tag) core.drain.pending ((ticket, action) ∷ [])
            ∙ ap₂ (λ xs w. xs ++ w ∷ []) st.pending_is waits
            ∙ sym (ap (λ z. pending A ++ z) (action-stored tag core.sizes A ask))
            ∙ sym (pending-stores A s (takes-le-actions core.sizes A st.accepted) (stores tag ask).takes_none);
        taken_is = ap (λ (z : Lists J). z.taken) put_is ∙ st.taken_is ∙ sym (taken-stores A s (takes-le-actions core.sizes A st.accepted) (stores tag ask).takes_none (stores tag ask).ends_none);
        ordered = known;
        offsets_is = st.offsets_is ∙ sym (log-stays core.sizes A s st.accepted (stores tag ask).offsets);
        pages_is = st.pages_is ∙ sym (pages-stay core.sizes A s (stores tag ask).offsets.allocated (stores tag ask).pages);
      })
    where
      s : Step
      s = asking tag ask

      both : (rise_fault core.table ≡ None) × (ticket ≡ core.table.current)
      both = unless_ok (rise_fault core.table) ticket core.table.current a

      free : fault_of core.sizes A s ≡ None
      free = (stores tag ask).fault core.sizes A ∙ room_fault core A st room ∙ both.0

      is : ticket ≡ current_epoch A
      is = both.1 ∙ ap (λ (z : Table). z.current) st.table_is

      table_is : table ≡ table_of core.sizes (A ++ s ∷ [])
      table_is = (call_accepts (rise_fault core.table) ticket core.table.current core.table (bumped core.table) table a eff).1 ∙ ap bumped st.table_is
          ∙ ap₂ make (sym (current_epoch-push A s ∙ ap (λ b. current_epoch A + cond b 1 0) (stores tag ask).bump)) (sym (slot_epochs-stay core.sizes.slots A s (stores tag ask).enters_none (stores tag ask).leaves_none))

      put_is : drain ≡ (record core.drain { pending = core.drain.pending ++ (ticket, action) ∷ [] })
      put_is = put ∙ ap (λ b. cond b core.drain (record core.drain { pending = core.drain.pending ++ (ticket, action) ∷ [] })) (ne_eqb (count_of core.drain) core.drain.limit (λ q. absurd (omega (arith, q, room))))

      waits : waiting_of tag (ticket, action) ≡ waiting_of tag (current_epoch A, stored (log_of core.sizes A) ask)
      waits = ap₂ (λ (n : ℕ) (x : Action J). waiting_of tag (n, x)) is (act ∙ ap (λ z. stored z ask) st.offsets_is)

      reply : answer_of core.sizes A (A ++ s ∷ []) s ≡ Ticket ticket
      reply = (stores tag ask).reply core.sizes A (A ++ s ∷ []) ∙ ap (λ n. Ticket n) (omega (arith, bumps-push A s ∙ ap (λ b. bumps A + cond b 1 0) (stores tag ask).bump, is, current_epoch-bumps A))

  -- whether an action may be stored
  pub full_told : (core : State J) → core.drain.limit ≤ count_of core.drain → (A : List Step) → Stands tag core A → Err DrainFull ≡ unless_fault (bump_fault core.sizes A) (tt {0})
  full_told core le A st = sym (ap (λ b. unless_fault (cond b (Some DrainFull) (bare_fault core.sizes A)) (tt {0})) (is_full-list core A st le))

  pub room_told : (core : State J) (result : Result Unit Fault) → count_of core.drain < core.drain.limit → (A : List Step) → Stands tag core A → result ≡ unless_fault (bare_fault core.sizes A) (tt {0}) → result ≡ unless_fault (bump_fault core.sizes A) (tt {0})
  room_told core result room A st told = told ∙ sym (ap (λ b. unless_fault (cond b (Some DrainFull) (bare_fault core.sizes A)) (tt {0})) (has_room-list core A st room))

  pub bare_told : (core : State J) (result : Result Unit Fault) → result ≡ unless_fault (rise_fault core.table) (tt {0}) → (A : List Step) → Stands tag core A → result ≡ unless_fault (bare_fault core.sizes A) (tt {0})
  bare_told core result told A st = told ∙ sym (ap (λ o. unless_fault o (tt {0})) (bare_fault-table core A st))
