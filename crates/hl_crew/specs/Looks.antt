-- Looks for pages, one after another.
use Rattle.std.specs.Prelude.{◌≡◌, ◌⊎◌, ℕ, Bool, true, false, not, Result, Ok, Err}
use Rattle.hl_crew.specs.declared.limits.Cuts.{Cuts}
use Rattle.hl_crew.specs.declared.messages.Over.{Over}
use Rattle.hl_crew.specs.declared.messages.Over.TheVariants.{Full}
use Rattle.hl_crew.specs.Overs.{makes_room}

-- what a look came to that was made once more: nowhere, if the journal was full again
abbrev pub or_nowhere : Result Bool Over → Result Bool Over
or_nowhere (Err Full) = Ok false
or_nowhere found = found

module _ {S : Type 0} (Tries : Result Bool Over → S → S → Type 0) (CutsBy : S → S → Type 0) (cuts : Cuts) where
  -- a page was tried to be found, the journal was full, the limits make room, it was cut, and a page was tried to be
  -- found once more
  pub record TwoTries (result : Result Bool Over) (old new : S) : Type 0 where
    pub full : S
    pub refused : Tries (Err Full) old full
    pub room : makes_room cuts ≡ true
    pub mid : S
    pub cut : CutsBy full mid
    pub found : Result Bool Over
    pub again : Tries found mid new
    pub is : result ≡ or_nowhere found

  -- a look: by one try; or by two, if the first one met a full journal that may be cut
  abbrev pub FindsBy : Result Bool Over → S → S → Type 0
  FindsBy result old new =
      (Tries result old new × (result ≡ Err Full → makes_room cuts ≡ false)) ⊎ TwoTries result old new

module _ {S : Type 0} (Finds : Result Bool Over → S → S → Type 0) where
  -- a look for a page: the last one was in vain; or it failed
  abbrev pub Looks : Result Bool Over → S → S → Type 0
  Looks (Ok true) old new = Finds (Ok false) old new
  Looks (Ok false) old new = (found : Bool) × Finds (Ok found) old new
  Looks (Err over) old new = Finds (Err over) old new

  -- another look may follow one that wasn't the last
  abbrev pub LooksNext : ℕ → Result Bool Over → S → S → Type 0
  LooksNext i (Ok next) old new = Looks (Ok (not next)) old new
  LooksNext i (Err over) old new = Looks (Err over) old new
