-- What the second rider found is what the first one stored.
use Rattle.std.proofs.Common.{◌≡◌, ◌≢◌, ℕ, zero, suc, Bool, List, [], ◌∷◌, Some, None, map, refl, ap, ◌∙◌, subst}
use Rattle.std.specs.Prelude.{if◌then◌else◌, unwrap_or}
use Rattle.std.proofs.lemmas.Bool.{eq-eqb}
use Rattle.hl_words.specs.declared.view.Extent.{Extent}
use Rattle.hl_words.specs.declared.view.Touch.TheVariants.{Stored}
use Rattle.hl_words.specs.declared.view.OffsetWords.{OffsetWords}
use Rattle.hl_words.specs.declared.view.RiderView.{RiderView}
use Rattle.hl_words.specs.States.{RiderState}
use Rattle.hl_words.specs.Rule.{EachRider, last_store, IsRuledAt}
use Rattle.hl_words.specs.Past.{LoadsOfTold}
use Rattle.example_passing.specs.declared.Passed.{Passed}
use Rattle.example_passing.specs.Passes.{storer, loader, IsPassed}

-- by the law of a load of whoever was told
pub passes : LoadsOfTold → (cells : ℕ) (stores : OffsetWords) (called : Extent) (c value : ℕ) (passed : Passed) (riders : List RiderView) → riders ≡ storer c value ∷ loader c passed.found ∷ [] → IsRuledAt cells passed.last.words stores called riders → IsPassed cells c value passed
passes law cells stores called c value passed riders are rules = record {
  stores = stores;
  called = called;
  ruled = ruled;
  found_is = law cells passed.last.words stores both 1 0 c found (loader c found) (storer c value) [] [] [] [] (Stored c value ∷ []) ruled.rule refl refl others refl refl refl
      ∙ ap (λ (b : Bool). unwrap_or (if b then Some value else None) 0) (eq-eqb c c refl);
}
  where
    found : ℕ
    found = passed.found

    both : List RiderView
    both = storer c value ∷ loader c found ∷ []

    ruled : IsRuledAt cells passed.last.words stores called both
    ruled = subst (λ l. IsRuledAt cells passed.last.words stores called l) are rules

    others : EachRider (λ k r. k ≢ 0 → last_store c r.touches ≡ None) both
    others zero r at apart = absurd (apart refl)
    others (suc zero) r at apart = let is : loader c found ≡ r = cc at in subst (λ (x : RiderView). last_store c x.touches ≡ None) is refl
    others (suc (suc i)) r at apart = absurd cc

-- both riders at the end
pub both_are : (items : List RiderState) (one two : RiderState) (c value found : ℕ) → items ≡ one ∷ two ∷ [] → one.view ≡ storer c value → two.view ≡ loader c found → map (λ (r : RiderState). r.view) items ≡ storer c value ∷ loader c found ∷ []
both_are items one two c value found e a b = ap (map (λ (r : RiderState). r.view)) e ∙ ap (λ v. v ∷ two.view ∷ []) a ∙ ap (λ v. storer c value ∷ v ∷ []) b
