-- The place of a ticket among the taken actions, and what a list is without it.
use Rattle.std.proofs.Common.{rules, ◌≡◌, ℕ, Option, Result, drop, ◌<◌, ◌≤◌, not, ltb, cond, Some, None, Ok, Err, List, [], ◌∷◌, ◌++◌, length, map, filter, find, remove, position, get_or, All, arith, suc, one-add, append-nil, inl, inr, sym, ap, ◌∙◌, refl}
use Rattle.std.specs.List.{position_or_len, slice_get}
use Rattle.std.specs.Option.{ok_or}
use Rattle.std.specs.Result.{IsOk, OnOk}
use Rattle.std.proofs.lemmas.Bool.Decides.{eqb_tells}
use Rattle.std.proofs.lemmas.Bool.{ne_eqb, cases_lt, lt-ltb, le-ltb}
use Rattle.std.proofs.lemmas.List.{take_all, drop_all}
use Rattle.std.proofs.lemmas.List.Elements.{All-head, All-tail}
use Rattle.std.proofs.lemmas.List.Folds.{find_at}
use Rattle.std.proofs.lemmas.Option.{slice_get-get_or, slice_get_past}
use Rattle.hl_model.specs.declared.action.Waiting.{Waiting}
use Rattle.hl_model.specs.declared.fault.Fault.TheVariants.{NotTaken}
use Rattle.hl_drain.specs.Lists.{Lists, IsDrain, has_ticket, done_answer, after_done}
use Rattle.hl_drain.specs.Taken.{Rises, tickets_of}
use Rattle.hl_drain.proofs.Rising.{rises_head, rises_tail}

-- the first element of a list, and the list without it, are the list
pub split_front : {X E : Type 0} (xs : List X) (x : X) (e : E) (o : Option X) → ok_or o e ≡ Ok x → o ≡ slice_get xs 0 → xs ≡ x ∷ drop 1 xs
split_front [] x e o found is = let missing = rw is at found in cc
split_front (y ∷ xs) x e o found is = let there = rw is at found in cc

-- what is true where a result has a value is true where it has one
pub ok_of : {X E : Type 0} (r : Result X E) (P : Type 0) → IsOk r → OnOk r P → P
ok_of (Ok x) P ok holds = holds
ok_of (Err e) P ok holds = absurd (search rules)

-- where all tickets are above one, none of them is it
none_have_ticket : (t : ℕ) (xs : List Waiting) (later : List ℕ) → All (λ y. t < y) (tickets_of xs ++ later) → filter (λ w. not (has_ticket t w)) xs ≡ xs
none_have_ticket t [] later above = refl
none_have_ticket t (x ∷ xs) later above =
    let first : t < x.ticket = All-head (λ y. t < y) x.ticket (tickets_of xs ++ later) above in
    let rest = none_have_ticket t xs later (All-tail (λ y. t < y) x.ticket (tickets_of xs ++ later) above) in
    rw (ne_eqb x.ticket t (λ same. omega arith)) (ap (λ ys. x ∷ ys) rest)

-- where tickets rise, the actions of other tickets are all but the first that has the ticket
others_are : (t : ℕ) (xs : List Waiting) (later : List ℕ) → Rises (tickets_of xs ++ later) → filter (λ w. not (has_ticket t w)) xs ≡ remove xs (position_or_len (has_ticket t) xs)
others_are t [] later rises = refl
others_are t (x ∷ xs) later rises =
    let above : All (λ y. x.ticket < y) (tickets_of xs ++ later) = rises_head x.ticket (tickets_of xs ++ later) rises in
    let rest = others_are t xs later (rises_tail x.ticket (tickets_of xs ++ later) rises) in
    elim (eqb_tells x.ticket t) [
      | inl same ↦ rw same.0 (none_have_ticket t xs later (rw (← same.1) above))
      | inr other ↦ rw (other.0, one-add) (ap (λ ys. x ∷ ys) rest)
    ]

-- the place that is found
pub place_some : (n l i : ℕ) → Some i ≡ cond (ltb n l) (Some n) None → (n ≡ i) × (i < l)
place_some n l i found =
    elim (cases_lt n l) [
      | inl below ↦ let e = rw (lt-ltb n l below) at found in let same : i ≡ n = cc in (sym same, rw same below)
      | inr above ↦ let e = rw (le-ltb n l above) at found in cc
    ]

-- no place is found
pub place_none : (n l : ℕ) → None ≡ cond (ltb n l) (Some n) None → l ≤ n
place_none n l missing =
    elim (cases_lt n l) [
      | inl below ↦ let e = rw (lt-ltb n l below) at missing in cc
      | inr above ↦ above
    ]

-- nothing leaves a list past its end
pub remove_past : {X : Type 0} (xs : List X) (n : ℕ) → length xs ≤ n → remove xs n ≡ xs
remove_past xs n past = rw (take_all n xs past, drop_all (suc n) xs (omega arith)) (append-nil xs)

module _ {J : Type 0} where
  -- where no taken action has the ticket, a done is refused and changes nothing
  pub done_missing : (lists : Lists J) (ticket : ℕ) → IsDrain lists → None ≡ position (has_ticket ticket) lists.taken → (done_answer lists ticket ≡ Err NotTaken) × (after_done lists ticket ≡ lists)
  done_missing lists ticket known none =
      let place : ℕ = position_or_len (has_ticket ticket) lists.taken in
      let past : length lists.taken ≤ place = place_none place (length lists.taken) none in
      let absent : find (has_ticket ticket) lists.taken ≡ None = find_at (has_ticket ticket) lists.taken ∙ slice_get_past lists.taken place past in
      let others = others_are ticket lists.taken (map (λ entry. entry.0) lists.pending) known.rising in
      (rw absent refl, rw (others, remove_past lists.taken place past) refl)

  -- where a taken action has the ticket, its kind is the answer, and the lists lose that action
  pub done_found : (lists now : Lists J) (ticket place : ℕ) (waiting : Waiting) → lists ≡ now → IsDrain lists → Some place ≡ position (has_ticket ticket) now.taken → waiting ≡ get_or lists.taken place waiting → (done_answer now ticket ≡ Ok waiting.kind) × (after_done now ticket ≡ (record lists { taken = remove lists.taken place }))
  done_found lists now ticket place waiting same known some is =
      let some' : Some place ≡ position (has_ticket ticket) lists.taken = rw same some in
      let at = place_some (position_or_len (has_ticket ticket) lists.taken) (length lists.taken) place some' in
      let there : find (has_ticket ticket) lists.taken ≡ Some (get_or lists.taken place waiting) =
      find_at (has_ticket ticket) lists.taken ∙ rw at.0 (slice_get-get_or lists.taken place waiting at.1) in
      let others = others_are ticket lists.taken (map (λ entry. entry.0) lists.pending) known.rising in
      (rw (← same, there, ← is) refl, rw (← same, others, at.0) refl)
