-- The safe epoch, found by a climb over empty places.
use Rattle.std.proofs.Common.{◌≡◌, ℕ, ◌+◌, ◌^◌, ◌<◌, ◌≤◌, Some, None, List, length, get_or, get_or-set_other, inl, inr, ap, ◌∙◌, arith}
use Rattle.std.proofs.lemmas.Bool.{cases_lt, cases_eq, ne_eqb}
use Rattle.std.proofs.lemmas.Bool.Decides.{nat_tests}
use Rattle.hl_model.specs.Epochs.{Table}
use Rattle.hl_model.specs.Lists.{least_or}
use Rattle.hl_epoch.specs.Table.{epoch_at, safe_of, entered, IsTable}
use Rattle.hl_epoch.proofs.Least.{protected, least_or-at, least_or-most, least_or-greatest}
use Rattle.hl_epoch.proofs.Tables.{IsTable-entered, safe_of-next, safe_of-entered}
use Rattle.hl_epoch.specs.Faults.{bump_fault}
use Rattle.hl_counts.specs.Tallies.{count_at, visited, IsTally}
use Rattle.hl_counts.proofs.Rings.{count_at-some, slot_of_count}

-- an epoch comes next after the safe one, if it climbed to there from no more than that over empty places, and was stopped
-- by a place that counts somebody or by the current epoch
pub next-climb : (T : Table) (counts : List ℕ) (low r : ℕ) → IsTable T → IsTally T.epochs counts → low ≤ safe_of T + 1 → T.current < low + length counts → low ≤ r → r ≤ T.current → ((e : ℕ) → low ≤ e → e < r → count_at e counts ≡ 0) → (r < T.current → 0 < count_at r counts) → r ≡ safe_of T + 1
next-climb T counts low r is tally least_most near rises stays passed stopped =
    let least : ℕ = least_or T.current (protected T.epochs) in
    let next : safe_of T + 1 ≡ least = safe_of-next T is in
    let above = λ (t e : ℕ) (at : get_or T.epochs t None ≡ Some e). is.above_safe t e at in
    let most : least ≤ r =
    elim (cases_lt r T.current) [
      | inl stops ↦
          let found = slot_of_count T.epochs counts low r tally (λ t e at. (omega (arith, above t e at), omega (arith, is.at_most_current t e at))) (omega arith) (omega arith) (stopped stops) in
          least_or-at T.current T.epochs found.0 r found.1
      | inr last ↦ omega (arith, least_or-most T.current T.epochs is.at_most_current)
    ] in
    let greatest : r ≤ least =
    least_or-greatest r T.current T.epochs stays
    (λ t e at. elim (cases_lt e r) [ inl down ↦ absurd (omega (arith, passed e (omega (arith, above t e at)) down, count_at-some T.epochs counts t e tally at)) | inr up ↦ up ]) in
    omega arith

-- the safe epoch stays where a free slot enters the current epoch
pub safe_of-acquired : (t : ℕ) (T : Table) → IsTable T → epoch_at t T ≡ None → safe_of T ≡ safe_of (entered t T)
safe_of-acquired t T is free =
    let new : Table = entered t T in
    let old_next : safe_of T + 1 ≡ least_or T.current (protected T.epochs) = safe_of-next T is in
    let new_is : IsTable new = IsTable-entered t T is in
    let new_next : safe_of new + 1 ≡ least_or T.current (protected new.epochs) = safe_of-next new new_is in
    let stays : least_or T.current (protected new.epochs) ≤ least_or T.current (protected T.epochs) =
    least_or-greatest (least_or T.current (protected new.epochs)) T.current T.epochs (least_or-most T.current new.epochs new_is.at_most_current)
    (λ u e at. elim (cases_eq u t) [
      | inl same ↦ absurd (cc (ap (λ v. get_or T.epochs v None) same))
      | inr other ↦ least_or-at T.current new.epochs u e (get_or-set_other T.epochs t u (Some T.current) None other ∙ at)
    ]) in
    omega (arith, safe_of-entered t T is)

-- somebody stands at the epoch that comes next after the safe one, unless that is the current one
next_counted : (T : Table) (counts : List ℕ) → IsTable T → IsTally T.epochs counts → safe_of T + 1 < T.current → 0 < count_at (safe_of T + 1) counts
next_counted T counts is tally below =
    let next : ℕ = safe_of T + 1 in
    let nobody = λ (none : count_at next counts ≤ 0).
    least_or-greatest (next + 1) T.current T.epochs (omega arith)
    (λ t e at. elim (cases_eq e next) [
      | inl same ↦ absurd (omega (arith, ap (λ n. count_at n counts) same, count_at-some T.epochs counts t e tally at))
      | inr other ↦ omega (arith, is.above_safe t e at)
    ]) in
    elim (cases_lt 0 (count_at next counts)) [ inl some ↦ some | inr none ↦ absurd (omega (arith, safe_of-next T is, nobody none)) ]

-- after a bump the climb visits one place: it stops at once, or nobody is protected and it passes the epoch that ended
pub visited-bumped : (T : Table) (counts : List ℕ) (low r : ℕ) → IsTable T → IsTally T.epochs counts → low ≡ safe_of T + 1 → low ≤ r → r ≤ T.current + 1 → ((e : ℕ) → low ≤ e → e < r → count_at e counts ≡ 0) → visited low r (T.current + 1) ≡ 1
visited-bumped T counts low r is tally low_is rises stays passed =
    let within : low ≤ T.current = omega (arith, is.safe_most) in
    elim (cases_lt low r) [
      | inl up ↦
          let none : count_at low counts ≡ 0 = passed low (omega arith) up in
          let last : T.current ≤ low =
          elim (cases_lt (safe_of T + 1) T.current) [ inl short ↦ absurd (omega (arith, none, ap (λ n. count_at n counts) low_is, next_counted T counts is tally short)) | inr end ↦ omega arith ] in
          grind (arith, nat_tests)
      | inr same ↦ grind (arith, nat_tests)
    ]

-- the current epoch rises unless it is the last
pub bump_fault-none : (T : Table) → (T.current ≡ 2 ^ 62 → ⊥) → bump_fault T ≡ None
bump_fault-none T below = rw (ne_eqb T.current (2 ^ 62) below)
