-- What holds of each of some things that are done one after another, holds of all together.
use Rattle.std.proofs.Common.{◌≡◌, ℕ, zero, suc, Bool, true, false, inl, inr, not}
use Rattle.std.specs.Prelude.{Result, Ok, Err, MatchResult}
use Rattle.hl_crew.specs.declared.messages.Over.{Over}
use Rattle.hl_crew.specs.Goes.{Each, Followed, Ended, Then, UpTo}
use Rattle.hl_crew.specs.declared.limits.Cuts.{Cuts}
use Rattle.hl_crew.specs.Looks.{FindsBy, Looks, LooksNext}
use Rattle.hl_crew.specs.Overs.{makes_room}

module _ {S : Type 0} (Holds : S → S → Type 0) (same : (old new : S) → new ≡ old → Holds old new)
    (then : (old mid new : S) → Holds old mid → Holds mid new → Holds old new) where
  module _ {X : Type 0} (One : ℕ → Result Bool X → S → S → Type 0)
      (each : (i : ℕ) (result : Result Bool X) (old new : S) → One i result old new → Holds old new) where
    pub followed_holds : (n : ℕ) (old new : S) → Followed One n old new → Holds old new
    followed_holds zero old new is = same old new is
    followed_holds (suc n) old new (mid, before, one) = then old mid new (followed_holds n old mid before) (each n (Ok true) mid new one)

    ended_holds : (most n : ℕ) (result : Result (Unit {0}) X) (old new : S) → Ended One most n result old new → Holds old new
    ended_holds most n (Ok done) old new (inl (all, is)) = same old new is
    ended_holds most n (Ok done) old new (inr (fewer, one)) = each n (Ok false) old new one
    ended_holds most n (Err error) old new (fewer, one) = each n (Err error) old new one

    pub up_to_holds : (most : ℕ) (result : Result (Unit {0}) X) (old new : S) → UpTo One most result old new → Holds old new
    up_to_holds most result old new goes = then old goes.last new (followed_holds goes.count old goes.last goes.followed) (ended_holds most goes.count result goes.last new goes.ended)

  -- what is done again and again, up to the first that fails
  pub each_hold : {X : Type 0} (One : ℕ → Result (Unit {0}) X → S → S → Type 0) → ((i : ℕ) (result : Result (Unit {0}) X) (old new : S) → One i result old new → Holds old new)
      → (most : ℕ) (result : Result (Unit {0}) X) (old new : S) → UpTo (Each One) most result old new → Holds old new
  each_hold {X} One each = up_to_holds (Each One) by
    where
      by : (i : ℕ) (result : Result Bool X) (old new : S) → Each One i result old new → Holds old new
      by i (Ok true) old new one = each i (Ok tt) old new one
      by i (Ok false) old new none = absurd none
      by i (Err error) old new one = each i (Err error) old new one

  -- one thing and then another
  pub then_holds : {X : Type 0} (First Second : Result (Unit {0}) X → S → S → Type 0) → ((result : Result (Unit {0}) X) (old new : S) → First result old new → Holds old new)
      → ((result : Result (Unit {0}) X) (old new : S) → Second result old new → Holds old new) → (result : Result (Unit {0}) X) (old new : S) → Then First Second result old new → Holds old new
  then_holds {X} First Second first second result old new t = then old t.mid new (first t.first old t.mid t.one) (by t.first t.two)
    where
      by : (done : Result (Unit {0}) X) → MatchResult done (λ _. Second result t.mid new) (λ error. (result ≡ Err error) × (new ≡ t.mid)) → Holds t.mid new
      by (Ok done) two = second result t.mid new two
      by (Err error) (is, still) = same t.mid new still

  -- a look
  pub finds_hold : (Tries : Result Bool Over → S → S → Type 0) (CutsBy : S → S → Type 0) (cuts : Cuts) → ((result : Result Bool Over) (old new : S) → Tries result old new → Holds old new)
      → (makes_room cuts ≡ true → (old new : S) → CutsBy old new → Holds old new) → (result : Result Bool Over) (old new : S) → FindsBy Tries CutsBy cuts result old new → Holds old new
  finds_hold Tries CutsBy cuts each cut result old new (inl (once, room)) = each result old new once
  finds_hold Tries CutsBy cuts each cut result old new (inr two) =
      then old two.full new (each _ old two.full two.refused) (then two.full two.mid new (cut two.room two.full two.mid two.cut) (each two.found two.mid new two.again))

  -- looks
  module _ (Finds : Result Bool Over → S → S → Type 0) (each : (result : Result Bool Over) (old new : S) → Finds result old new → Holds old new) where
    look_holds : (result : Result Bool Over) (old new : S) → Looks Finds result old new → Holds old new
    look_holds (Ok true) old new found = each (Ok false) old new found
    look_holds (Ok false) old new (found, finds) = each (Ok found) old new finds
    look_holds (Err over) old new found = each (Err over) old new found

    next_holds : (i : ℕ) (result : Result Bool Over) (old new : S) → LooksNext Finds i result old new → Holds old new
    next_holds i (Ok next) old new look = look_holds (Ok (not next)) old new look
    next_holds i (Err over) old new look = look_holds (Err over) old new look

    pub looks_hold : (most : ℕ) (result : Result (Unit {0}) Over) (old new : S) → UpTo (LooksNext Finds) most result old new → Holds old new
    looks_hold = up_to_holds (LooksNext Finds) next_holds
