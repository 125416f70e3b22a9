-- Calls of one list that made one bump each were answered different tickets.
use Rattle.std.proofs.Common.{◌≡◌, ◌≢◌, ℕ, zero, suc, ◌+◌, ◌<◌, ◌≤◌, Bool, true, false, List, [], ◌∷◌, ◌++◌, map, length, slice_index, slice_index_or, refl, ap, sym, ◌∙◌, subst, arith, append_assoc, length-append, ltb-true, ltb-false, Some, Ok, Err, Result, IfOk, MatchResult, slice_get}
use Rattle.std.specs.Prelude.{nat_lt, ◌&&◌, if◌then◌else◌}
use Rattle.std.specs.List.{AllByRecursion as Every, sum_by}
use Rattle.std.proofs.lemmas.Bool.{lt-ltb, le-leb}
use Rattle.std.proofs.lemmas.List.{get_or-map, length-map}
use Rattle.std.proofs.lemmas.Option.{slice_get_within, get_or_from_slice_get, slice_get-get_or}
use Rattle.std.proofs.lemmas.List.Sums.{sum_by-cons, sum_by-append, get_or-le-sum_by}
use Rattle.hl_model.specs.declared.fault.Fault.{Fault}
use Rattle.hl_model.specs.declared.fault.Fault.TheVariants.{Stranger}
use Rattle.hl_model.specs.declared.step.Step.{Step}
use Rattle.hl_model.specs.declared.step.Step.TheVariants.{Settle, Release}
use Rattle.hl_model.specs.Epochs.{is_bump, current_epoch}
use Rattle.hl_model.specs.Actions.{bumps}
use Rattle.hl_model.specs.Sizes.{Sizes}
use Rattle.hl_laws.proofs.ActionLaws.{bumps-push, current_epoch-bumps}
use Rattle.hl_history.specs.declared.view.Entry.{Entry}
use Rattle.hl_history.specs.Lists.{Begins, entry, left_by, enters_at, entered_at, IsOf, IsOneList}
use Rattle.hl_history.proofs.Calls.{every_back}
use Rattle.hl_words.specs.States.{RiderState, new_rider}
use Rattle.hl_keeper.specs.Endings.{EndingState}
use Rattle.hl_domain.specs.Domains.{DomainState, IsEnding}
use Rattle.hl.specs.declared.open.Closed.{Closed}
use Rattle.hl.specs.declared.opening.Opening.{Opening}
use Rattle.hl.specs.declared.shared.Returned.{Returned}
use Rattle.hl.specs.Openings.{opened_as}
use Rattle.hl.specs.Closings.{rider_at, IsClosed, Stood, Tells, AllReturned, AreAllReturned}
use Rattle.hl.specs.Sessions.{beside_crew}
use Rattle.hl.proofs.LeaveLaws.{left_calls}
use Rattle.example_tickets.specs.Tickets.{bumps_once, AreTickets}
use Rattle.example_tickets.proofs.Numbers.{all_there}

abbrev bump_at : List Step → Entry
bump_at list = entry list (Settle ∷ [])

-- a record of calls one of which made a bump, with this ticket
record Drawn (calls : List Entry) (ticket : ℕ) : Type 0 where
  newer : List Entry
  list : List Step
  earlier : List Entry
  calls_are : calls ≡ newer ++ bump_at list ∷ earlier
  ticket_is : ticket ≡ bumps (list ++ Settle ∷ [])

-- of two beginnings of one list, the shorter begins the longer
shorter_begins : (xs ys list : List Step) → Begins xs list → Begins ys list → length xs ≤ length ys → Begins xs ys
shorter_begins [] ys list h k le = (ys, refl)
shorter_begins (x ∷ xs) [] list h k le = absurd (omega (arith, le))
shorter_begins (x ∷ xs) (y ∷ ys) [] h k le = absurd (let e = h.1 in cc)
shorter_begins (x ∷ xs) (y ∷ ys) (z ∷ zs) h k le =
    let a : zs ≡ xs ++ h.0 = (let e = h.1 in cc) in
    let b : zs ≡ ys ++ k.0 = (let e = k.1 in cc) in
    let same : y ≡ x = (let e = h.1 in let f = k.1 in cc) in
    let r = shorter_begins xs ys zs (h.0, a) (k.0, b) (omega (arith, le)) in
    (r.0, ap (λ (u : Step). u ∷ ys) same ∙ ap (λ l. x ∷ l) r.1)

pub bumps-append : (xs ys : List Step) → bumps (xs ++ ys) ≡ bumps xs + bumps ys
unfolding bumps
bumps-append xs ys = sum_by-append (λ s. if is_bump s then 1 else 0) xs ys

-- one more bump
pub one_more : (list : List Step) → bumps (list ++ Settle ∷ []) ≡ bumps list + 1
one_more list = bumps-push list Settle

-- two places of a sum
sum_two : {X : Type 0} (f : X → ℕ) (xs : List X) (i j : ℕ) (d : X) → i < j → j < length xs → f (slice_index_or xs i d) + f (slice_index_or xs j d) ≤ sum_by f xs
sum_two f [] i j d less within = absurd (omega (arith, within))
sum_two f (x ∷ xs) zero zero d less within = absurd (omega (arith, less))
sum_two f (x ∷ xs) zero (suc j) d less within = omega (arith, sum_by-cons f x xs, get_or-le-sum_by f xs j d (omega (arith, within)))
sum_two f (x ∷ xs) (suc i) zero d less within = absurd (omega (arith, less))
sum_two f (x ∷ xs) (suc i) (suc j) d less within = omega (arith, sum_by-cons f x xs, sum_two f xs i j d (omega (arith, less)) (omega (arith, within)))

pub every_at : {X : Type 0} (P : X → Type 0) (xs : List X) (i : ℕ) (d : X) → Every P xs → i < length xs → P (slice_index_or xs i d)
every_at P [] i d h within = absurd (omega (arith, within))
every_at P (x ∷ xs) zero d h within = h.0
every_at P (x ∷ xs) (suc i) d h within = every_at P xs i d h.1 (omega (arith, within))

-- a call that met a list of this length and made one step entered the step at this place
enters_here : (list : List Step) → enters_at (length list) (bump_at list) ≡ 1
enters_here list =
    let n = length list in
    ap (λ b. if b && nat_lt n (n + 1) then 1 else 0) (le-leb n n (omega arith)) ∙ ap (λ b. if b then 1 else 0) (lt-ltb n (n + 1) (omega arith))

enters_drawn : (calls : List Entry) (ticket : ℕ) (d : Drawn calls ticket) → 1 ≤ entered_at (length d.list) calls
enters_drawn calls ticket d =
    subst (λ c. 1 ≤ entered_at (length d.list) c) (sym d.calls_are)
    (let f = enters_at (length d.list) in omega (arith, sum_by-append f d.newer (bump_at d.list ∷ d.earlier), sum_by-cons f (bump_at d.list) d.earlier, enters_here d.list))

begins_drawn : (A : List Step) (calls : List Entry) (ticket : ℕ) (d : Drawn calls ticket) → IsOf A calls → Begins (d.list ++ Settle ∷ []) A
begins_drawn A calls ticket d h =
    (every_back (λ e. Begins (left_by e) A) d.newer (bump_at d.list ∷ d.earlier) (subst (λ c. IsOf A c) d.calls_are h).begins).0

-- of two calls that met beginnings of one list, the one that met less was answered less
less_first : (A : List Step) (a b : ℕ) (l m : List Step) → a ≡ bumps (l ++ Settle ∷ []) → b ≡ bumps (m ++ Settle ∷ []) → Begins (l ++ Settle ∷ []) A → Begins (m ++ Settle ∷ []) A → length l < length m → a < b
less_first A a b l m e f h k less =
    let behind : Begins m A = ((Settle ∷ []) ++ k.0, k.1 ∙ append_assoc m (Settle ∷ []) k.0) in
    let r = shorter_begins (l ++ Settle ∷ []) m A h behind (omega (arith, length-append l (Settle ∷ []), less)) in
    let n : bumps m ≡ bumps (l ++ Settle ∷ []) + bumps r.0 = ap bumps r.1 ∙ bumps-append (l ++ Settle ∷ []) r.0 in
    omega (arith, e, f, n, one_more m)

-- two records of calls of one list
module _ (A : List Step) (records : List (List Entry)) (one : IsOneList A records) (i j : ℕ) (less : i < j) (within : j < length records) (a b : ℕ) (d : Drawn (slice_index_or records i []) a) (e : Drawn (slice_index_or records j []) b) where
  first_begins : Begins (d.list ++ Settle ∷ []) A
  first_begins = begins_drawn A (slice_index_or records i []) a d (every_at (IsOf A) records i [] one.each (omega (arith, less, within)))

  second_begins : Begins (e.list ++ Settle ∷ []) A
  second_begins = begins_drawn A (slice_index_or records j []) b e (every_at (IsOf A) records j [] one.each within)

  -- the two calls did not meet the same list
  unlike : length d.list ≡ length e.list → ⊥
  unlike same =
      let p = length d.list in
      let h = first_begins in
      let in_list : p < length A = omega (arith, ap length h.1, length-append (d.list ++ Settle ∷ []) h.0, length-append d.list (Settle ∷ [])) in
      let first : 1 ≤ entered_at p (slice_index_or records i []) = enters_drawn (slice_index_or records i []) a d in
      let second : 1 ≤ entered_at p (slice_index_or records j []) = subst (λ q. 1 ≤ entered_at q (slice_index_or records j [])) (sym same) (enters_drawn (slice_index_or records j []) b e) in
      omega (arith, one.once p in_list, sum_two (entered_at p) records i j [] less within, first, second)

  two_apart : a ≡ b → ⊥
  two_apart equal = by_test (nat_lt (length d.list) (length e.list)) (nat_lt (length e.list) (length d.list)) refl refl
    where
      by_test : (x y : Bool) → nat_lt (length d.list) (length e.list) ≡ x → nat_lt (length e.list) (length d.list) ≡ y → ⊥
      by_test true y p q =
          let below = less_first A a b d.list e.list d.ticket_is e.ticket_is first_begins second_begins (ltb-true (length d.list) (length e.list) p) in
          omega (arith, below, equal)
      by_test false true p q =
          let below = less_first A b a e.list d.list e.ticket_is d.ticket_is second_begins first_begins (ltb-true (length e.list) (length d.list) q) in
          omega (arith, below, equal)
      by_test false false p q = unlike (omega (arith, ltb-false (length d.list) (length e.list) p, ltb-false (length e.list) (length d.list) q))

-- a thread's rider drew its ticket
drawn_of : {J : Type 0} (log : DomainState) (may_cut : Bool) (number : ℕ) (old new : RiderState) (ticket : ℕ) → Stood J log beside_crew may_cut (bumps_once number) old (Ok new) (Ok ticket) → Drawn new.calls ticket
drawn_of log may_cut number old new ticket s =
    let left = left_calls may_cut s.last new s.met in
    let leave = entry left.0 (s.last.pass.touches ++ Release s.last.pass.slot ∷ []) in
    record {
      newer = leave ∷ left.1;
      list = s.ran.list;
      earlier = s.first.pass.rider.calls;
      calls_are = left.3 ∙ ap (λ cs. leave ∷ (left.1 ++ cs)) s.ran.calls_are;
      ticket_is = s.ran.ticket_is;
    }

module _ {F J : Type 0} (may_cut : Bool) (Took : ℕ → List ℕ → Type 0) (o : Opening Sizes) (outs : List (Result (Result ℕ Fault) Fault)) (riders : List RiderState) (ending : EndingState F) (all : AllReturned J (opened_as o) may_cut bumps_once Took outs riders) (end : IsEnding o.params riders ending) where
  abbrev calls_of : List (List Entry)
  calls_of = map (λ r. r.calls) riders

  long : length calls_of ≡ length outs + 4
  long = length-map riders (λ r. r.calls) ∙ all.back ∙ sym all.threads

  drawn : (n t : ℕ) → slice_get outs n ≡ Some (Ok (Ok t)) → Drawn (slice_index_or calls_of n []) t
  drawn n t at =
      let within = slice_get_within outs n (Ok (Ok t)) at in
      let told = all.each n (Ok (Ok 0)) within in
      let is : slice_index_or outs n (Ok (Ok 0)) ≡ Ok (Ok t) = get_or_from_slice_get outs n (Ok (Ok t)) (Ok (Ok 0)) at in
      let mine = drawn_of (opened_as o) may_cut n (new_rider n) (rider_at riders n) t (subst (λ (x : Result (Result ℕ Fault) Fault). Tells J (opened_as o) beside_crew may_cut (bumps_once n) (new_rider n) (rider_at riders n) x) is told) in
      subst (λ d. Drawn d t) (sym (get_or-map (λ r. r.calls) riders n (new_rider n) [] (omega (arith, within, all.threads, all.back)))) mine

  apart : (i j a b : ℕ) → i < j → slice_get outs i ≡ Some (Ok (Ok a)) → slice_get outs j ≡ Some (Ok (Ok b)) → a ≢ b
  apart i j a b less first second =
      two_apart (end.steps_cut ++ ending.journal) calls_of end.one_list i j less (omega (arith, long, slice_get_within outs j (Ok (Ok b)) second)) a b (drawn i a first) (drawn j b second)

  within : (i a : ℕ) → slice_get outs i ≡ Some (Ok (Ok a)) → (1 ≤ a) × (a < ending.snapshot.epoch)
  within i a at =
      let A : List Step = end.steps_cut ++ ending.journal in
      let last : ending.snapshot.epoch ≡ current_epoch A = ap (λ s. s.epoch) end.snapshot_is in
      let d = drawn i a at in
      let h = begins_drawn A (slice_index_or calls_of i []) a d (every_at (IsOf A) calls_of i [] end.one_list.each (omega (arith, long, slice_get_within outs i (Ok (Ok a)) at))) in
      let n : bumps A ≡ bumps (d.list ++ Settle ∷ []) + bumps h.0 = ap bumps h.1 ∙ bumps-append (d.list ++ Settle ∷ []) h.0 in
      (omega (arith, d.ticket_is, one_more d.list), omega (arith, d.ticket_is, n, last, current_epoch-bumps A))

  -- a ticket at its place among answers that are all tickets
  ticket_at : (tickets : List ℕ) → outs ≡ map (λ t. Ok (Ok t)) tickets → (i : ℕ) → i < length tickets → slice_get outs i ≡ Some (Ok (Ok (slice_index tickets i)))
  ticket_at tickets are i inside =
      ap (λ l. slice_get l i) are ∙ slice_get-get_or (map (λ t. Ok (Ok t)) tickets) i (Ok (Ok 0)) (omega (arith, inside, length-map {B = Result (Result ℕ Fault) Fault} tickets (λ t. Ok (Ok t)))) ∙ ap Some (get_or-map (λ t. Ok (Ok t)) tickets i 0 (Ok (Ok 0)) inside)

  tickets_of : AreTickets o.riders outs ending.snapshot.epoch
  tickets_of =
      record {
        many = all.threads;
        apart = apart;
        within = within;
        all = λ tickets are exact. all_there tickets (length tickets) refl
            (λ i here. (let w = within i (slice_index tickets i) (ticket_at tickets are i here) in (w.0, omega (arith, w.1, exact))))
            (λ i j less inside. apart i j (slice_index tickets i) (slice_index tickets j) less (ticket_at tickets are i (omega (arith, less, inside))) (ticket_at tickets are j inside));
      }

-- what the threads' log left
pub tickets_left : {F : Type 0} (J : Type 0) (may_cut : Bool) (Took : ℕ → List ℕ → Type 0) (o : Opening Sizes) (result : Result (Closed (Returned (Result ℕ Fault)) F) Fault)
    → IfOk result (IsClosed o (AreAllReturned J (opened_as o) may_cut bumps_once Took))
    → IfOk result (λ drawn. IfOk drawn.ending (λ ending. AreTickets o.riders drawn.out.outs.items ending.snapshot.epoch))
tickets_left {F} J may_cut Took o (Ok closed) told = by_ending closed.ending told.riders told.left told.ending
  where
    by_ending : (ending : Result (EndingState F) Fault) (riders : List RiderState) → AreAllReturned J (opened_as o) may_cut bumps_once Took closed.out riders
        → MatchResult ending (λ ending. (length riders ≡ o.riders) × IsEnding o.params riders ending) (λ fault. (fault ≡ Stranger o.stamp) × (length riders ≢ o.riders))
        → IfOk ending (λ ending. AreTickets o.riders closed.out.outs.items ending.snapshot.epoch)
    by_ending (Ok ending) riders all end = tickets_of may_cut Took o closed.out.outs.items riders ending all end.1
    by_ending (Err fault) riders all end = tt
tickets_left J may_cut Took o (Err fault) told = tt
