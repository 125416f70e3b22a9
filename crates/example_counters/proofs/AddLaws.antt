-- What a session's calls add to its counters.
use Rattle.std.proofs.Common.{◌≡◌, ◌≢◌, ℕ, zero, suc, ◌+◌, ◌%◌, ◌^◌, ◌<◌, Bool, true, false, List, [], ◌∷◌, length, refl, sym, ap, ◌∙◌, subst, inl, inr, ⊎_elim, set}
use Rattle.std.specs.Prelude.{Result, Ok, Err, slice_index}
use Rattle.std.proofs.lemmas.Bool.{cases_eq}
use Rattle.std.proofs.lemmas.List.{get_or-set_same, get_or-set_other}
use Rattle.hl_model.specs.declared.fault.Fault.{Fault}
use Rattle.hl_domain.specs.Domains.{stays_current}
use Rattle.hl_traces.specs.declared.act.Act.{Act}
use Rattle.hl_traces.specs.declared.act.Act.TheVariants.{Placed}
use Rattle.hl_traces.specs.Counters.{AddsAt}
use Rattle.hl.specs.Sessions.{SessionState}
use Rattle.hl.specs.Traces.{acts, if_ok, KeepsUpBy, IsFresh, Meets}
use Rattle.example_counters.specs.Counters.{AddsEach, AddsNothing, AddsOne}

-- what adds nothing leaves the sums
pub still : (sums : List ℕ) (old new : List Act) → AddsNothing old new → AddsEach sums old → AddsEach sums new
still sums old new none adds counter less = none counter (slice_index sums counter) (adds counter less)

-- a record that was placed adds nothing, nor does one that was refused
pub placed : (n : ℕ) (result : Result ℕ Fault) (old new : SessionState) → Meets (if_ok (λ a. Placed a n ∷ []) result) old new → AddsNothing (acts old) (acts new)
placed n (Ok a) old new met b total adds = subst (AddsAt b total) (sym met.1) adds
placed n (Err fault) old new met b total adds = subst (AddsAt b total) (sym met.1) adds

-- nor does a session that was brought up to date
pub kept : (old new : SessionState) → KeepsUpBy old new → AddsNothing (acts old) (acts new)
kept old new keeps b total adds = by (stays_current old.pass new.pass) refl
  where
    by : (t : Bool) → stays_current old.pass new.pass ≡ t → AddsAt b total (acts new)
    by true e = subst (AddsAt b total) (sym (keeps.0 e)) adds
    by false e = subst (AddsAt b total) (sym (keeps.1 e).1) adds

-- nothing was added yet
pub none_added : (s : SessionState) → IsFresh s → AddsEach (0 ∷ 0 ∷ 0 ∷ 0 ∷ []) (acts s)
none_added s fresh counter less = subst (AddsAt counter (slice_index (0 ∷ 0 ∷ 0 ∷ 0 ∷ []) counter)) (sym fresh.1) (zeros counter)
  where
    zeros : (n : ℕ) → slice_index (0 ∷ 0 ∷ 0 ∷ 0 ∷ []) n ≡ 0
    zeros zero = refl
    zeros (suc zero) = refl
    zeros (suc (suc zero)) = refl
    zeros (suc (suc (suc zero))) = refl
    zeros (suc (suc (suc (suc n)))) = refl

-- an add is told in its counter's sum alone
pub one_more : (sums : List ℕ) (to number sum : ℕ) (old new : List Act) → to < length sums → sum ≡ (slice_index sums to + number) % 2 ^ 64 → AddsOne to number true old new → AddsEach sums old → AddsEach (set sums to sum) new
one_more sums to number sum old new within is one adds counter less =
    subst (AddsAt counter (slice_index (set sums to sum) counter)) (sym one.1)
    (⊎_elim
    (λ (same : to ≡ counter).
    let total : slice_index (set sums to sum) counter ≡ (slice_index sums to + number) % 2 ^ 64 = ap (slice_index (set sums to sum)) (sym same) ∙ get_or-set_same sums to sum 0 within ∙ is in
    inr (same, (number, slice_index sums to, total, refl, subst (λ n. AddsAt counter n old) (ap (slice_index sums) (sym same)) (adds counter less))))
    (λ (apart : to ≢ counter). inl (apart, subst (λ n. AddsAt counter n old) (sym (get_or-set_other sums to counter sum 0 (λ e. apart (sym e)))) (adds counter less)))
    (cases_eq to counter))
