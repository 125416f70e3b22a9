-- A look for a page, by one try or by two.
use Rattle.std.proofs.Common.{◌≡◌, Bool, true, false, refl, sym, ◌∙◌, inl, inr}
use Rattle.std.specs.Prelude.{Result, Ok, Err, ◌&&◌}
use Rattle.hl_crew.specs.declared.limits.Cuts.{Cuts}
use Rattle.hl_crew.specs.declared.messages.Over.{Over}
use Rattle.hl_crew.specs.declared.messages.Over.TheVariants.{Full, Lost}
use Rattle.hl_crew.specs.Looks.{FindsBy, or_nowhere}
use Rattle.hl_crew.specs.Overs.{is_over_full, makes_room}

-- one of two that hold together
both : (b : Bool) → (b && true) ≡ true → b ≡ true
both true is = refl
both false is = is

neither : (b : Bool) → (b && true) ≡ false → b ≡ false
neither true is = is
neither false is = refl

-- what holds of no two
none : (b : Bool) → (b && false) ≡ true → ⊥
none true is = absurd cc
none false is = absurd cc

module _ {S : Type 0} (Tries : Result Bool Over → S → S → Type 0) (CutsBy : S → S → Type 0) (cuts : Cuts) where
  -- no room was made
  pub looks_once : (found : Result Bool Over) (made : Bool) (old new : S) → Tries found old new → made ≡ (makes_room cuts && is_over_full found) → made ≡ false → FindsBy Tries CutsBy cuts found old new
  looks_once (Err Full) made old new tries is unmade = inl (tries, λ full. neither (makes_room cuts) (sym is ∙ unmade))
  looks_once (Err Lost) made old new tries is unmade = inl (tries, λ full. absurd cc)
  looks_once (Ok b) made old new tries is unmade = inl (tries, λ full. absurd cc)

  -- room was made, and a page was looked for once more
  pub looks_twice : (found again result : Result Bool Over) (made : Bool) (old full mid new : S) → Tries found old full → made ≡ (makes_room cuts && is_over_full found) → made ≡ true → CutsBy full mid
      → Tries again mid new → result ≡ or_nowhere again → FindsBy Tries CutsBy cuts result old new
  looks_twice (Err Full) again result made old full mid new tries is was cut more told =
      inr (record { full = full; refused = tries; room = both (makes_room cuts) (sym is ∙ was); mid = mid; cut = cut; found = again; again = more; is = told })
  looks_twice (Err Lost) again result made old full mid new tries is was cut more told = absurd (none (makes_room cuts) (sym is ∙ was))
  looks_twice (Ok b) again result made old full mid new tries is was cut more told = absurd (none (makes_room cuts) (sym is ∙ was))
