-- Where a core stands after some steps of a row, and what was answered.
use Rattle.std.proofs.Common.{◌≡◌, ℕ, suc, ◌+◌, ◌<◌, List, [], ◌∷◌, ◌++◌, length, take, get_or, set, length-set, refl, sym, ap, ap₂, ◌∙◌, subst, arith, append-nil, append_assoc}
use Rattle.std.specs.Prelude.{Result}
use Rattle.std.proofs.Math.Seq.{take-suc, take-suc-set}
use Rattle.hl_model.specs.declared.fault.Fault.{Fault}
use Rattle.hl_model.specs.declared.step.Reply.{Reply}
use Rattle.hl_model.specs.declared.step.Step.{Step}
use Rattle.hl_model.specs.Sizes.{Sizes}
use Rattle.hl_model.specs.Lists.{gather, gather_after}
use Rattle.hl_model.specs.Headline.{Headline}
use Rattle.hl_model.specs.Replies.{good, extended, reply_of, replies_after}
use Rattle.hl_laws.proofs.AcceptedLaws.{good-push, IsAccepted-good}
use Rattle.hl_laws.proofs.HeadlineLaws.{headline}
use Rattle.hl_model.proofs.ListLaws.{gather-push}
use Rattle.hl_core.specs.Standing.{State, Stands}
use Rattle.hl_core.specs.Steps.{Stepped, Made}

next_is : (n : ℕ) → n + 1 ≡ suc n
next_is n = omega arith

-- a row up to one more place
take_next : {X : Type 0} (n : ℕ) (xs : List X) (d : X) → n < length xs → take (n + 1) xs ≡ take n xs ++ get_or xs n d ∷ []
take_next n xs d lt = ap (λ (m : ℕ). take m xs) (next_is n) ∙ take-suc xs n d lt

-- a row of which the next place was set
take_set : {X : Type 0} (n : ℕ) (xs : List X) (y : X) → n < length xs → take (n + 1) (set xs n y) ≡ take n xs ++ y ∷ []
take_set n xs y lt = ap (λ (m : ℕ). take m (set xs n y)) (next_is n) ∙ take-suc-set xs n y lt

replies_after-push : (sizes : Sizes) (A L : List Step) (s : Step) → replies_after sizes A (L ++ s ∷ []) ≡ replies_after sizes A L ++ reply_of sizes (good sizes (A ++ L)) s ∷ []
unfolding replies_after
replies_after-push sizes A L s = gather-push (λ before z. reply_of sizes (good sizes (A ++ before)) z ∷ []) L s

replies_after-nil : (sizes : Sizes) (A : List Step) → replies_after sizes A [] ≡ []
unfolding replies_after gather gather_after
replies_after-nil sizes A = refl

module _ {J : Type 0} (tag : J → ℕ) where
  -- the accepted steps keep the headline
  pub ran_headline : (old : State J) (A steps : List Step) → Stands tag old A → Headline old.sizes (good old.sizes (A ++ steps))
  ran_headline old A steps st = headline old.sizes (good old.sizes (A ++ steps)) (omega (arith, st.in_range.page_size_least)) (IsAccepted-good old.sizes (A ++ steps))

  -- from A on the first n steps were made: what they were answered, and where the core stands
  pub record RanFrom (sizes : Sizes) (A steps : List Step) (new : State J) (results : List (Result Reply Fault)) (n : ℕ) : Type 0 where
    pub standing : Stands tag new (good sizes (A ++ take n steps))
    pub replies : take n results ≡ replies_after sizes A (take n steps)

  pub record Ran (old : State J) (steps : List Step) (new : State J) (results : List (Result Reply Fault)) (n : ℕ) : Type 0 where
    pub sizes : new.sizes ≡ old.sizes
    pub length_is : length results ≡ length steps
    pub from : (A : List Step) → Stands tag old A → RanFrom old.sizes A steps new results n

  -- none was made yet
  pub ran_none : (old : State J) (steps : List Step) (results : List (Result Reply Fault)) → length results ≡ length steps → Ran old steps old results 0
  ran_none old steps results h = record {
    sizes = refl;
    length_is = h;
    from = λ A st. record {
      standing = subst (λ (B : List Step). Stands tag old B) (sym (ap (good old.sizes) (append-nil A) ∙ st.accepted)) st;
      replies = sym (replies_after-nil old.sizes A);
    };
  }

  -- one more
  pub ran_next : (old : State J) (steps : List Step) (before : State J) (results : List (Result Reply Fault)) (n : ℕ) (s : Step) (after : State J) (r : Result Reply Fault) → after.sizes ≡ before.sizes → Ran old steps before results n → n < length steps → s ≡ get_or steps n s → Made tag before s after r → Ran old steps after (set results n r) (n + 1)
  ran_next old steps before results n s after r same ran lt e made = record {
    sizes = same ∙ ran.sizes;
    length_is = length-set results n r ∙ ran.length_is;
    from = from;
  }
    where
      next : take (n + 1) steps ≡ take n steps ++ s ∷ []
      next = take_next n steps s lt ∙ ap (λ (z : Step). take n steps ++ z ∷ []) (sym e)

      from : (A : List Step) → Stands tag old A → RanFrom old.sizes A steps after (set results n r) (n + 1)
      from A st =
          let was : RanFrom old.sizes A steps before results n = ran.from A st in
          let stepped : Stepped tag before (good old.sizes (A ++ take n steps)) s after r = made (good old.sizes (A ++ take n steps)) was.standing in
          let list : extended before.sizes (good old.sizes (A ++ take n steps)) s ≡ good old.sizes (A ++ take (n + 1) steps) =
          ap (λ z. extended z (good old.sizes (A ++ take n steps)) s) ran.sizes ∙ sym (good-push old.sizes (A ++ take n steps) s) ∙ ap (good old.sizes) (append_assoc A (take n steps) (s ∷ []) ∙ ap (λ z. A ++ z) (sym next)) in
          let told : r ≡ reply_of old.sizes (good old.sizes (A ++ take n steps)) s = stepped.reply ∙ ap (λ z. reply_of z (good old.sizes (A ++ take n steps)) s) ran.sizes in
          record {
            standing = subst (λ (B : List Step). Stands tag after B) list stepped.standing;
            replies = take_set n results r (omega (arith, lt, ran.length_is)) ∙ ap₂ (λ xs z. xs ++ z ∷ []) was.replies told ∙ sym (replies_after-push old.sizes A (take n steps) s) ∙ ap (replies_after old.sizes A) (sym next);
          }
