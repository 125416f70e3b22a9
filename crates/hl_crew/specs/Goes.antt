-- What is done again and again, up to so many times or until it ends.
use Rattle.std.specs.Prelude.{◌≡◌, ◌<◌, ℕ, zero, suc, Bool, true, false, ◌⊎◌, Result, Ok, Err, MatchResult}

module _ {S X : Type 0} (One : ℕ → Result Bool X → S → S → Type 0) where
  -- it was done so many times, and each time another may follow
  abbrev pub Followed : ℕ → S → S → Type 0
  Followed zero old new = new ≡ old
  Followed (suc n) old new = (mid : S) × Followed n old mid × One n (Ok true) mid new

  -- the same as a record, so that the search finds what was done
  pub record Going (count : ℕ) (old new : S) : Type 0 where
    pub followed : Followed count old new

  -- after so many: they are all; or once more, and none may follow, or it failed
  abbrev pub Ended : ℕ → ℕ → Result (Unit {0}) X → S → S → Type 0
  Ended most n (Ok done) old new = ((n ≡ most) × (new ≡ old)) ⊎ ((n < most) × One n (Ok false) old new)
  Ended most n (Err error) old new = (n < most) × One n (Err error) old new

  -- it was done at most so many times, up to the first after which none may follow, or which failed
  pub record UpTo (most : ℕ) (result : Result (Unit {0}) X) (old new : S) : Type 0 where
    pub count : ℕ
    pub last : S
    pub followed : Followed count old last
    pub ended : Ended most count result last new

module _ {S X : Type 0} where
  -- another may follow one that was done, and none one that failed
  abbrev pub Each : (ℕ → Result (Unit {0}) X → S → S → Type 0) → ℕ → Result Bool X → S → S → Type 0
  Each One i (Ok true) old new = One i (Ok tt) old new
  Each One i (Ok false) old new = ⊥
  Each One i (Err error) old new = One i (Err error) old new

  -- one thing was done, and then another; where the first failed, no more was done, and the whole failed for that reason
  pub record Then (First Second : Result (Unit {0}) X → S → S → Type 0) (result : Result (Unit {0}) X)
      (old new : S)
      : Type 0 where
    pub first : Result (Unit {0}) X
    pub mid : S
    pub one : First first old mid
    pub two : MatchResult first (λ _. Second result mid new) (λ error. (result ≡ Err error) × (new ≡ mid))
