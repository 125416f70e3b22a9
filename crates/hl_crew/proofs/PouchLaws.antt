-- The places of a pouch.
use Rattle.std.proofs.Common.{◌≡◌, ℕ, ◌+◌, ◌<◌, ◌≤◌, Bool, true, false, cond, List, [], ◌∷◌, length, get_or, set, refl, sym, ap, ◌∙◌, subst, arith}
use Rattle.std.specs.Prelude.{Option, Some, None, Result, MatchResult, position, is_none, is_some, slice_get, count_by}
use Rattle.std.specs.List.{position_or_len}
use Rattle.std.proofs.lemmas.Bool.{eqb-true}
use Rattle.std.proofs.lemmas.Bool.Decides.{nat_tests}
use Rattle.std.proofs.lemmas.Grind.{common_steps}
use Rattle.std.proofs.lemmas.List.{set-set, set-get_or}
use Rattle.std.proofs.lemmas.List.Quantifiers.{position-Some}
use Rattle.std.proofs.lemmas.List.Sums.{sum_by-set, get_or-le-sum_by}
use Rattle.std.proofs.lemmas.Option.{get_or_from_slice_get}
use Rattle.hl_model.specs.declared.fault.Fault.{Fault}
use Rattle.hl_keeper.specs.declared.load.PageJob.{PageJob}
use Rattle.hl_words.specs.States.{RiderState}
use Rattle.hl_domain.specs.Domains.{DomainState}
use Rattle.hl_crew.specs.Pouches.{is_of, load_count, Answers}
use Rattle.hl_crew.specs.Tries.{EndsFlush}

-- where no place passes a test, none of them does
none_pass : {X : Type 0} (f : X → Bool) (places : List X) → length places ≤ position_or_len f places → count_by f places ≡ 0
none_pass f [] none = refl
none_pass f (x ∷ places) none = by (f x) refl (none_pass f places)
  where
    by : (t : Bool) → f x ≡ t → (length places ≤ position_or_len f places → count_by f places ≡ 0) → count_by f (x ∷ places) ≡ 0
    by t is others = grind (arith, common_steps)

none_at : {X : Type 0} (f : X → Bool) (places : List X) → position f places ≡ None → count_by f places ≡ 0
none_at f places none = none_pass f places (grind (arith, nat_tests))

pub none_held : (places : List (Option PageJob)) → position is_some places ≡ None → load_count places ≡ 0
none_held = none_at is_some

-- each place is free or holds a load
all_places : (places : List (Option PageJob)) → load_count places + count_by is_none places ≡ length places
all_places [] = refl
all_places (None ∷ places) = let others = all_places places in grind (arith, common_steps)
all_places (Some job ∷ places) = let others = all_places places in grind (arith, common_steps)

pub none_free : (places : List (Option PageJob)) → position is_none places ≡ None → load_count places ≡ length places
none_free places none = omega (arith, none_at is_none places none, all_places places)

-- a load was put into a place that held none
pub filled : (places : List (Option PageJob)) (at : ℕ) (job : PageJob) → position is_none places ≡ Some at → load_count (set places at (Some job)) ≡ load_count places + 1
filled places at job is =
    let free = position-Some is_none places at None is in
    by (get_or places at None) free.1 (sum_by-set (λ (x : Option PageJob). cond (is_some x) 1 0) places at (Some job) None free.0)
  where
    by : (was : Option PageJob) → is_none was ≡ true → load_count (set places at (Some job)) + cond (is_some was) 1 0 ≡ load_count places + 1 → load_count (set places at (Some job)) ≡ load_count places + 1
    by None is sums = omega arith
    by (Some other) is sums = absurd cc

-- or it was taken out
pub taken_out : (places : List (Option PageJob)) (at : ℕ) (job : PageJob) → at < length places → slice_get places at ≡ Some (Some job) → load_count (set places at None) + 1 ≡ load_count places
taken_out places at job within held =
    let sums = rw (get_or_from_slice_get places at (Some job) None held) at (sum_by-set (λ (x : Option PageJob). cond (is_some x) 1 0) places at None None within) in omega arith

-- an answer took the load from its place, or put it back
pub held_job : (page at : ℕ) (places : List (Option PageJob)) (job : PageJob) → position (is_of page) places ≡ Some at → slice_get places at ≡ Some (Some job) → job.page ≡ page
held_job page at places job is held =
    let found = position-Some (is_of page) places at None is in
    let same = get_or_from_slice_get places at (Some job) None held in
    eqb-true job.page page (ap (is_of page) (sym same) ∙ found.1)

-- what was taken from a place was put back
pub put_back : (at : ℕ) (job back : PageJob) (old mid new : List (Option PageJob)) → slice_get old at ≡ Some (Some job) → mid ≡ set old at None → back ≡ job → new ≡ set mid at (Some back) → new ≡ old
put_back at job back old mid new held taken same put =
    put ∙ ap (λ (job : PageJob). set mid at (Some job)) same ∙ ap (λ (places : List (Option PageJob)). set places at (Some job)) taken ∙ set-set old at None (Some job)
    ∙ ap (λ (held : Option PageJob). set old at held) (sym (get_or_from_slice_get old at (Some job) None held)) ∙ set-get_or old at None

-- what an answer says of the place that was found
pub told_at : (F : Type 0) (domain : DomainState) (page : ℕ) (ok : Bool) (from to : RiderState) (at other : ℕ) (job : PageJob) (old new : List (Option PageJob)) (result : Result ℕ Fault)
    → position (is_of page) old ≡ Some at → slice_get old at ≡ Some (Some job)
    → EndsFlush F domain job.page ok job.stamp result from to
    → MatchResult result (λ _. new ≡ set old at None) (λ _. new ≡ old)
    → position (is_of page) old ≡ Some other → Answers page other old new result (λ stamp. EndsFlush F domain page ok stamp result from to)
told_at F domain page ok from to at other job old new result is held met left found =
    let same : at ≡ other = cc in
    let page_is = held_job page at old job is held in
    subst (λ at. Answers page at old new result (λ stamp. EndsFlush F domain page ok stamp result from to)) same
    (record {
      job = job;
      held = held;
      page_is = page_is;
      met = subst (λ page. EndsFlush F domain page ok job.stamp result from to) page_is met;
      left = left;
    })

-- the place that was found holds a load
pub not_free : (page at : ℕ) (places : List (Option PageJob)) → position (is_of page) places ≡ Some at → slice_get places at ≡ Some None → ⊥
not_free page at places is free =
    let found = position-Some (is_of page) places at None is in
    let none = get_or_from_slice_get places at None None free in
    let contrary : false ≡ true = ap (is_of page) (sym none) ∙ found.1 in
    cc

-- a place that was found
pub place_found : (found : Option ℕ) → true ≡ is_some found → (at : ℕ) × (found ≡ Some at)
place_found (Some at) is = (at, refl)
place_found None is = absurd cc

-- or not
pub place_missing : (found : Option ℕ) → false ≡ is_some found → found ≡ None
place_missing None is = refl
place_missing (Some at) is = absurd cc

-- where a place holds a load of a page, some load is held
pub some_held : (page at : ℕ) (places : List (Option PageJob)) → position (is_of page) places ≡ Some at → 1 ≤ load_count places
some_held page at places found =
    let there = position-Some (is_of page) places at None found in
    by (get_or places at None) there.1 (get_or-le-sum_by (λ (x : Option PageJob). cond (is_some x) 1 0) places at None there.0)
  where
    by : (was : Option PageJob) → is_of page was ≡ true → cond (is_some was) 1 0 ≤ load_count places → 1 ≤ load_count places
    by None is some = absurd cc
    by (Some job) is some = some
