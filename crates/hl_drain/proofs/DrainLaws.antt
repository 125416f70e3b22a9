-- What a put, a take and a done keep of the facts of a drain list.
use Rattle.std.proofs.Common.{◌≡◌, ℕ, ◌<◌, not, Bool, true, false, cond, List, [], ◌∷◌, ◌++◌, length, map, filter, All, arith, refl, ap, length-append, append_assoc}
use Rattle.std.proofs.lemmas.List.{map-append}
use Rattle.std.proofs.lemmas.List.Elements.{All-head, All-tail, All-cons}
use Rattle.std.proofs.lemmas.List.Filters.{length-filter_both}
use Rattle.std.proofs.lemmas.List.Kept.{AllPairs-cons}
use Rattle.std.proofs.lemmas.List.Quantifiers.{all_pairs_push}
use Rattle.hl_model.specs.declared.action.Waiting.{Waiting}
use Rattle.hl_drain.specs.declared.action.Action.{Action}
use Rattle.hl_drain.specs.Actions.{waiting_of}
use Rattle.hl_drain.specs.Lists.{Lists, IsDrain, count_of, tickets, has_ticket, after_give_up, after_done}
use Rattle.hl_drain.specs.Taken.{Rises, tickets_of}
use Rattle.hl_drain.proofs.Rising.{rises_head, rises_tail}

-- what is true of the tickets of a list, and of later ones, stays true where some leave the list
all_filter : (P : ℕ → Type 0) (p : Waiting → Bool) (xs : List Waiting) (later : List ℕ) → All P (tickets_of xs ++ later) → All P (tickets_of (filter p xs) ++ later)
all_filter P p [] later h = h
all_filter P p (x ∷ xs) later h =
    let rest : All P (tickets_of (filter p xs) ++ later) = all_filter P p xs later (All-tail P x.ticket (tickets_of xs ++ later) h) in
    let first : P x.ticket = All-head P x.ticket (tickets_of xs ++ later) h in
    elim (p x) as (λ b. All P (tickets_of (cond b (x ∷ filter p xs) (filter p xs)) ++ later)) [
      | true ↦ All-cons P x.ticket (tickets_of (filter p xs) ++ later) first rest
      | false ↦ rest
    ]

-- tickets rise where some leave the list
rises_filter : (p : Waiting → Bool) (xs : List Waiting) (later : List ℕ) → Rises (tickets_of xs ++ later) → Rises (tickets_of (filter p xs) ++ later)
rises_filter p [] later h = h
rises_filter p (x ∷ xs) later h =
    let rest : Rises (tickets_of (filter p xs) ++ later) = rises_filter p xs later (rises_tail x.ticket (tickets_of xs ++ later) h) in
    let above : All (λ y. x.ticket < y) (tickets_of (filter p xs) ++ later) =
    all_filter (λ y. x.ticket < y) p xs later (rises_head x.ticket (tickets_of xs ++ later) h) in
    elim (p x) as (λ b. Rises (tickets_of (cond b (x ∷ filter p xs) (filter p xs)) ++ later)) [
      | true ↦ AllPairs-cons (λ a b. a < b) x.ticket (tickets_of (filter p xs) ++ later) above rest
      | false ↦ rest
    ]

-- what is true of the numbers of a list stays true where one leaves it
all_skip : (P : ℕ → Type 0) (xs : List ℕ) (y : ℕ) (ys : List ℕ) → All P (xs ++ y ∷ ys) → All P (xs ++ ys)
all_skip P [] y ys h = All-tail P y ys h
all_skip P (x ∷ xs) y ys h =
    All-cons P x (xs ++ ys) (All-head P x (xs ++ y ∷ ys) h) (all_skip P xs y ys (All-tail P x (xs ++ y ∷ ys) h))

-- numbers rise where one leaves them
rises_skip : (xs : List ℕ) (y : ℕ) (ys : List ℕ) → Rises (xs ++ y ∷ ys) → Rises (xs ++ ys)
rises_skip [] y ys h = rises_tail y ys h
rises_skip (x ∷ xs) y ys h =
    AllPairs-cons (λ a b. a < b) x (xs ++ ys)
    (all_skip (λ z. x < z) xs y ys (rises_head x (xs ++ y ∷ ys) h)) (rises_skip xs y ys (rises_tail x (xs ++ y ∷ ys) h))

module _ {J : Type 0} where
  -- a put adds its ticket behind all others
  tickets-put : (lists : Lists J) (ticket : ℕ) (action : Action J) → tickets (record lists { pending = lists.pending ++ (ticket, action) ∷ [] }) ≡ tickets lists ++ ticket ∷ []
  tickets-put lists ticket action = simp (map-append, append_assoc)

  -- a take leaves the tickets as they are
  tickets-take : (tag : J → ℕ) (lists : Lists J) (entry : ℕ × Action J) (later : List (ℕ × Action J)) (turns : ℕ) → lists.pending ≡ entry ∷ later → tickets (record lists { pending = later; taken = lists.taken ++ waiting_of tag entry ∷ []; turns = turns }) ≡ tickets lists
  tickets-take tag lists entry later turns front = rw front (simp (map-append, append_assoc))

  -- a drain list with room is one after a put of a ticket above all others
  pub IsDrain-put : (lists : Lists J) (ticket : ℕ) (action : Action J) → IsDrain lists → count_of lists < lists.limit → All (λ earlier. earlier < ticket) (tickets lists) → IsDrain (record lists { pending = lists.pending ++ (ticket, action) ∷ [] })
  IsDrain-put lists ticket action known room above = record {
    limit_least = known.limit_least;
    limit_most = known.limit_most;
    within_limit = simp length-append (omega arith);
    rising = rw (tickets-put lists ticket action) (all_pairs_push (λ a b. a < b) (tickets lists) ticket known.rising above);
  }

  -- a drain list is one after a take of its oldest pending action
  pub IsDrain-take : (tag : J → ℕ) (lists : Lists J) (entry : ℕ × Action J) (later : List (ℕ × Action J)) (turns : ℕ) → lists.pending ≡ entry ∷ later → IsDrain lists → IsDrain (record lists { pending = later; taken = lists.taken ++ waiting_of tag entry ∷ []; turns = turns })
  IsDrain-take tag lists entry later turns front known = record {
    limit_least = known.limit_least;
    limit_most = known.limit_most;
    within_limit = simp length-append (omega (arith, ap length front));
    rising = rw (tickets-take tag lists entry later turns front) known.rising;
  }

  -- a drain list is one after its oldest pending action was given up
  pub IsDrain-give_up : (lists : Lists J) (pending : List (ℕ × Action J)) → lists.pending ≡ pending → IsDrain lists → IsDrain (after_give_up lists)
  IsDrain-give_up lists [] none known = record {
    limit_least = known.limit_least;
    limit_most = known.limit_most;
    within_limit = rw none (rw none at known.within_limit);
    rising = rw none (rw none at known.rising);
  }
  IsDrain-give_up lists (entry ∷ later) front known = record {
    limit_least = known.limit_least;
    limit_most = known.limit_most;
    within_limit = rw front (omega (arith, ap length front));
    rising = rw front (rises_skip (tickets_of lists.taken) entry.0 (map (λ entry. entry.0) later) (rw front at known.rising));
  }

  -- a drain list is one after a done
  pub IsDrain-done : (lists : Lists J) (ticket : ℕ) → IsDrain lists → IsDrain (after_done lists ticket)
  IsDrain-done lists ticket known = record {
    limit_least = known.limit_least;
    limit_most = known.limit_most;
    within_limit = omega (arith, length-filter_both (has_ticket ticket) (λ w. not (has_ticket ticket w)) (λ w. refl) lists.taken);
    rising = rises_filter (λ w. not (has_ticket ticket w)) lists.taken (map (λ entry. entry.0) lists.pending) known.rising;
  }
