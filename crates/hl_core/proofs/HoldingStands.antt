-- Who holds an action up, told by a core that stands at a list.
use Rattle.std.proofs.Common.{◌≡◌, ℕ, ◌+◌, ◌<◌, ◌≤◌, Bool, true, false, ◌&&◌, not, cond, is_none, List, [], ◌∷◌, ◌++◌, take, map, refl, sym, ap, ◌∙◌, zero-add}
use Rattle.std.specs.Prelude.{Option, Some, None, Result, is_err, option_map, slice_get, unwrap_or}
use Rattle.std.specs.List.{filter_map, position, range_with_len}
use Rattle.std.proofs.lemmas.Bool.{le-leb, lt-leb}
use Rattle.std.proofs.lemmas.List.{append-nil}
use Rattle.std.proofs.lemmas.List.Elements.{filter_map-append}
use Rattle.std.proofs.lemmas.List.FromFn.{map-range_with_len_more}
use Rattle.hl_model.specs.declared.action.Waiting.{Waiting}
use Rattle.hl_model.specs.declared.fault.Fault.{Fault}
use Rattle.hl_model.specs.declared.fault.Fault.TheVariants.{NotTaken}
use Rattle.hl_model.specs.declared.step.Step.{Step}
use Rattle.hl_model.specs.declared.step.Step.TheVariants.{Done}
use Rattle.hl_model.specs.declared.view.View.{View}
use Rattle.hl_model.specs.Epochs.{slot_epoch}
use Rattle.hl_model.specs.Actions.{pending, is_taken}
use Rattle.hl_model.specs.Replies.{fault_of, unless_fault}
use Rattle.hl_epoch.specs.Table.{epoch_at}
use Rattle.hl_core.specs.declared.holders.Holder.{Holder}
use Rattle.hl_core.specs.Standing.{State, Stands}
use Rattle.hl_core.specs.Holding.{holding, holders_of, oldest, holders, is_before, is_over, least_free}
use Rattle.hl_drain.specs.Actions.{waiting_of}
use Rattle.hl_core.proofs.BaseStands.{epoch_is}
use Rattle.hl_core.proofs.TakeStands.{first_front}

-- of no slots none holds anything up
pub holders_of-none : (c : ℕ) (A : List Step) → [] ≡ holders_of 0 c A
unfolding holders_of
holders_of-none c A = refl

-- one slot more
pub holders_of-next : (n c : ℕ) (A : List Step) → holders_of (n + 1) c A ≡ holders_of n c A ++ filter_map (λ holder. holder) (holding c n (slot_epoch n A) ∷ [])
unfolding holders_of
holders_of-next n c A =
    ap (filter_map (λ holder. holder)) (map-range_with_len_more (λ t. holding c t (slot_epoch t A)) 0 n n (zero-add n))
    ∙ filter_map-append (λ holder. holder) (map (λ t. holding c t (slot_epoch t A)) (range_with_len 0 n)) (holding c n (slot_epoch n A) ∷ [])

-- a list without a first element
nothing_first : {X Y : Type 0} (f : X → Y) (xs : List X) → None ≡ option_map f (slice_get xs 0) → xs ≡ []
nothing_first f [] h = refl
nothing_first f (x ∷ xs) h = cc

-- the oldest action and who holds it up, told the pending actions
none_pending : (n : ℕ) (A : List Step) (ws : List Waiting) → ws ≡ pending A → ws ≡ [] → (None ≡ oldest A) × ([] ≡ holders n A)
unfolding oldest holders
none_pending n A ws is e = rw (sym is ∙ e) (refl, refl)

first_pending : (n : ℕ) (A : List Step) (w : Waiting) (ws vs : List Waiting) → ws ≡ pending A → ws ≡ w ∷ vs → (Some w.ticket ≡ oldest A) × (holders_of n w.ticket A ≡ holders n A)
unfolding oldest holders
first_pending n A w ws vs is e = rw (sym is ∙ e) (refl, refl)

module _ {J : Type 0} (tag : J → ℕ) (core : State J) where
  -- what slot t holds up
  pub holds_none : (c t : ℕ) → t < core.sizes.slots → None ≡ epoch_at t core.table → (A : List Step) → Stands tag core A → None ≡ holding c t (slot_epoch t A)
  holds_none c t lt h A st = ap (holding c t) (h ∙ epoch_is tag core t A st lt)

  pub holds_at : (c t epoch : ℕ) → t < core.sizes.slots → Some epoch ≡ epoch_at t core.table → epoch ≤ c → (A : List Step) → Stands tag core A → Some (record { slot = t; epoch = epoch }) ≡ holding c t (slot_epoch t A)
  holds_at c t epoch lt h le A st =
      let at : Holder = record { slot = t; epoch = epoch } in
      sym (ap (λ b. cond b (Some at) None) (le-leb epoch c le)) ∙ ap (holding c t) (h ∙ epoch_is tag core t A st lt)

  pub holds_past : (c t epoch : ℕ) → t < core.sizes.slots → Some epoch ≡ epoch_at t core.table → c < epoch → (A : List Step) → Stands tag core A → None ≡ holding c t (slot_epoch t A)
  holds_past c t epoch lt h gt A st =
      let at : Holder = record { slot = t; epoch = epoch } in
      sym (ap (λ b. cond b (Some at) None) (lt-leb epoch c gt)) ∙ ap (holding c t) (h ∙ epoch_is tag core t A st lt)

  -- the row of holders with one slot more
  abbrev pub HoldersTo : ℕ → ℕ → List Holder → ℕ → Type 0
  HoldersTo most c row n = (A : List Step) → Stands tag core A → row ≡ take most (holders_of n c A)

  pub holders_more : (most c t : ℕ) (row after : List Holder) (holder : Holder) → HoldersTo most c row t → ((all : List Holder) → row ≡ take most all → after ≡ take most (all ++ holder ∷ [])) → ((A : List Step) → Stands tag core A → Some holder ≡ holding c t (slot_epoch t A)) → HoldersTo most c after (t + 1)
  holders_more most c t row after holder h pushed k A st =
      pushed (holders_of t c A) (h A st) ∙ ap (take most) (ap (λ o. holders_of t c A ++ filter_map (λ holder. holder) (o ∷ [])) (k A st) ∙ sym (holders_of-next t c A))

  pub holders_same : (most c t : ℕ) (row : List Holder) → HoldersTo most c row t → ((A : List Step) → Stands tag core A → None ≡ holding c t (slot_epoch t A)) → HoldersTo most c row (t + 1)
  holders_same most c t row h k A st =
      h A st ∙ ap (take most) (sym (append-nil (holders_of t c A)) ∙ ap (λ o. holders_of t c A ++ filter_map (λ holder. holder) (o ∷ [])) (k A st) ∙ sym (holders_of-next t c A))

  -- the oldest action and who holds it up, told the front by the drain list
  pub oldest_none : None ≡ option_map (λ entry. entry.0) (slice_get core.drain.pending 0) → (A : List Step) → Stands tag core A → (None ≡ oldest A) × ([] ≡ holders core.sizes.slots A)
  oldest_none h A st =
      none_pending core.sizes.slots A (map (waiting_of tag) core.drain.pending) st.pending_is (ap (map (waiting_of tag)) (nothing_first (λ entry. entry.0) core.drain.pending h))

  pub oldest_some : (n : ℕ) → Some n ≡ option_map (λ entry. entry.0) (slice_get core.drain.pending 0) → (A : List Step) → Stands tag core A → (Some n ≡ oldest A) × (holders_of core.sizes.slots n A ≡ holders core.sizes.slots A)
  oldest_some n h A st =
      let first = first_front tag core.drain.pending n h in
      let told = first_pending core.sizes.slots A first.0 (map (waiting_of tag) core.drain.pending) first.1 st.pending_is first.2 in
      (ap (λ m. Some m) first.3 ∙ told.0, ap (λ m. holders_of core.sizes.slots m A) first.3 ∙ told.1)

  -- the oldest action, told either way
  pub oldest_is : (o : Option ℕ) → o ≡ option_map (λ entry. entry.0) (slice_get core.drain.pending 0) → (A : List Step) → Stands tag core A → o ≡ oldest A
  oldest_is None h A st = (oldest_none h A st).0
  oldest_is (Some n) h A st = (oldest_some n h A st).0

  -- an action is over, told what a done of it would be answered; it isn't while one up to it is pending
  pub over_ended : (c : ℕ) (o : Option ℕ) (ended : Result Unit Fault) → o ≡ option_map (λ entry. entry.0) (slice_get core.drain.pending 0) → is_before c o ≡ true → ((A : List Step) → Stands tag core A → ended ≡ unless_fault (fault_of core.sizes A (Done c)) (tt {0})) → (A : List Step) → Stands tag core A → is_err ended ≡ is_over c A
  unfolding is_over
  over_ended c o ended h before e A st =
      ap is_err (e A st) ∙ refused (is_taken c A) ∙ sym (ap (λ b. b && not (is_taken c A)) (ap (is_before c) (sym (oldest_is o h A st)) ∙ before))
    where
      refused : (b : Bool) → is_err (unless_fault (cond b None (Some NotTaken)) (tt {0})) ≡ not b
      refused true = refl
      refused false = refl

  pub over_early : (c : ℕ) (o : Option ℕ) → o ≡ option_map (λ entry. entry.0) (slice_get core.drain.pending 0) → is_before c o ≡ false → (A : List Step) → Stands tag core A → false ≡ is_over c A
  unfolding is_over
  over_early c o h early A st = sym (ap (λ b. b && not (is_taken c A)) (ap (is_before c) (sym (oldest_is o h A st)) ∙ early))

  -- the least free slot
  pub free_told : (views : List (Option View)) (o : Option ℕ) → views ≡ core.views → o ≡ position is_none views → (A : List Step) → Stands tag core A → unwrap_or o core.sizes.slots ≡ least_free core.sizes A
  unfolding least_free
  free_told views o is e A st = ap (λ z. unwrap_or z core.sizes.slots) (e ∙ ap (position is_none) (is ∙ st.views_is))
