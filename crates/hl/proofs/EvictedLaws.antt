-- The page of an address below the head was flushed by somebody.
use Rattle.std.proofs.Common.{◌≡◌, ℕ, zero, suc, ◌*◌, ◌/◌, ◌<◌, Bool, true, false, List, [], ◌∷◌, ◌++◌, Some, slice_get, map, refl, sym, ap, ◌∙◌, subst, arith}
use Rattle.std.specs.Prelude.{◌||◌}
use Rattle.std.specs.Option.{option_map}
use Rattle.std.specs.List.{list_any}
use Rattle.std.proofs.Math.Nat.{div-lt_iff_lt-mul}
use Rattle.std.proofs.lemmas.Map.Keys.{any_passes_from_place}
use Rattle.std.proofs.lemmas.Option.{slice_get-map}
use Rattle.hl_model.specs.declared.step.Step.{Step}
use Rattle.hl_model.specs.Lists.{greatest}
use Rattle.hl_model.specs.Pages.{flushes, flushes_below, flushed_run, is_complete, is_flushed}
use Rattle.hl_model.specs.Sizes.{Sizes}
use Rattle.hl_laws.proofs.PageFacts.{head-le-flushed}
use Rattle.hl_laws.proofs.RunLaws.{run_passes}
use Rattle.hl_history.specs.declared.view.Entry.{Entry}
use Rattle.hl_history.specs.Lists.{IsOneList}
use Rattle.hl_words.specs.States.{RiderState}
use Rattle.hl_pass.proofs.StoreLaws.{newest-head}
use Rattle.hl_crew.specs.Riders.{has_flushed}
use Rattle.hl_images.proofs.WordLaws.{entered_call, whose_calls}
use Rattle.hl.specs.Evictions.{EvictedWereFlushed, LoadedEvictedWereFlushed}

-- the place of an element that passes
passes_at : {X : Type 0} (p : X → Bool) (xs : List X) → list_any p xs ≡ true → (k : ℕ) × (x : X) × (slice_get xs k ≡ Some x) × (p x ≡ true)
passes_at p [] none = absurd cc
passes_at {X} p (x ∷ xs) some = by (p x) refl (λ any. passes_at p xs any) some
  where
    by : (b : Bool) → p x ≡ b → (list_any p xs ≡ true → (k : ℕ) × (y : X) × (slice_get xs k ≡ Some y) × (p y ≡ true)) → (b || list_any p xs) ≡ true → (k : ℕ) × (y : X) × (slice_get (x ∷ xs) k ≡ Some y) × (p y ≡ true)
    by true is later any = (0, x, refl, is)
    by false is later any = let l = later any in (suc l.0, l.1, l.2, l.3)

-- an address below a number of whole pages is on one of them
page_within : (a size count : ℕ) → a < size * count → a / size < count
page_within a zero count less = absurd (omega (arith, less))
page_within a (suc n) count less = (div-lt_iff_lt-mul {k = suc n} {x = a} {y = count} (omega arith)).1 (omega (arith, less))

flushed_early : (sizes : Sizes) (list : List Step) (p : ℕ) → p < flushed_run sizes list → list_any (flushes p) list ≡ true
unfolding flushed_run is_complete
flushed_early sizes list p early = run_passes (λ q. is_flushed sizes q list) (greatest flushes_below list) p early

-- a page among those that are flushed from the first on was answered as flushed by one of the riders
pub flushed_by_one : (sizes : Sizes) (list : List Step) (riders : List RiderState) (page : ℕ) → IsOneList list (map (λ r. r.calls) riders) → page < flushed_run sizes list
    → (i : ℕ) × (r : RiderState) × (slice_get riders i ≡ Some r) × (has_flushed page r.calls ≡ true)
flushed_by_one sizes list riders page one early =
    let step = passes_at (flushes page) list (flushed_early sizes list page early) in
    let call = entered_call list (map (λ (r : RiderState). r.calls) riders) one step.0 step.1 step.2 in
    let rider = whose_calls riders call.whose call.calls call.record_at in
    let inside : list_any (flushes page) call.call.steps ≡ true = any_passes_from_place (flushes page) call.call.steps call.step step.1 call.step_at step.3 in
    let told : has_flushed page call.calls ≡ true = any_passes_from_place (λ (e : Entry). list_any (flushes page) e.steps) call.calls call.number call.call call.call_at inside in
    (call.whose, rider.0, rider.1, subst (λ calls. has_flushed page calls ≡ true) (sym rider.2) told)

pub evicted_were_flushed : EvictedWereFlushed
evicted_were_flushed sizes list riders a accepted one less =
    flushed_by_one sizes list riders (a / sizes.page_size) one (page_within a sizes.page_size (flushed_run sizes list) (omega (arith, less, head-le-flushed sizes list accepted)))

-- no load of the head is above it
pub loaded_evicted_were_flushed : (F : Type 0) → LoadedEvictedWereFlushed F
loaded_evicted_were_flushed F sizes riders ending j q a end at less =
    let list : List Step = end.steps_cut ++ ending.journal in
    let view = slice_get-map (λ (r : RiderState). r.view) riders j ∙ ap (option_map (λ (r : RiderState). r.view)) at in
    let most = (end.ruled.rule.offset j q.view view).1.0 in
    evicted_were_flushed sizes list riders a end.accepted end.one_list (omega (arith, less, most, newest-head sizes list end.accepted))
