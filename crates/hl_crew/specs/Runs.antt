-- The flusher's turns.
use Rattle.std.specs.Prelude.{◌≡◌, ℕ, ◌==◌, ◌||◌, not, Bool, true, false, Result, Ok, Err, MatchResult}
use Rattle.std.specs.Result.{result_and}
use Rattle.hl_domain.specs.Domains.{DomainState}
use Rattle.hl_crew.specs.declared.flusher.FlusherState.{FlusherState}
use Rattle.hl_crew.specs.declared.messages.Over.{Over}
use Rattle.hl_crew.specs.declared.limits.Limits.{Limits}
use Rattle.hl_crew.specs.declared.stop.Stopped.{Stopped}
use Rattle.hl_crew.specs.Flushes.{AreFlushed}
use Rattle.hl_crew.specs.Goes.{Each, Followed, Then, UpTo}
use Rattle.hl_crew.specs.Lags.{KeepsLag}
use Rattle.hl_crew.specs.Naps.{vain_after}
use Rattle.hl_crew.specs.Turns.{RunsAction}
use Rattle.hl_crew.specs.Cutting.{EndsTurn, OrCuts}

-- a flusher that serves, and how many of its turns in a row got nowhere
pub record ServeState (L : Type 0) : Type 0 where
  pub own : FlusherState L
  pub vain : ℕ

-- one of these
abbrev pub serve_of : {L : Type 0} → FlusherState L → ℕ → ServeState L
serve_of own vain = record { own = own; vain = vain }

module _ {L : Type 0} (F : Type 0) (domain : DomainState) where
  -- pages were flushed, or none, where the writers take them themselves
  abbrev pub FlushesIf : Bool → Result (Unit {0}) Over → FlusherState L → FlusherState L → Type 0
  FlushesIf false result old new = AreFlushed F domain result old new
  FlushesIf true result old new = (result ≡ Ok tt) × (new ≡ old)

  module _ (limits : Limits) (serves : Bool) where
    -- actions were run, up to four
    abbrev pub Acts : Result (Unit {0}) Over → FlusherState L → FlusherState L → Type 0
    Acts result old new =
        UpTo (RunsAction F domain limits.cuts) 4 result old.rider new.rider
        × (new ≡ record old { rider = new.rider })

    -- the journal was cut as the limits say for a turn's end
    abbrev pub Ends : Result (Unit {0}) Over → FlusherState L → FlusherState L → Type 0
    Ends result old new =
        (result ≡ Ok tt) × EndsTurn F domain limits.cuts old.rider new.rider
        × (new ≡ record old { rider = new.rider })

    -- a turn kept the lag, ran actions, flushed pages, and cut the journal, one after another
    abbrev pub MakesTurn : Result (Unit {0}) Over → FlusherState L → FlusherState L → Type 0
    MakesTurn =
        Then (KeepsLag F domain serves limits.mutable limits.resident)
        (Then Acts (Then (FlushesIf serves) Ends))

    -- a turn of a number of turns
    abbrev pub TurnsNext : ℕ → Result Bool Over → FlusherState L → FlusherState L → Type 0
    TurnsNext = Each (λ i. MakesTurn)

    -- a turn was made, and the result is whether it entered a step; or in place of it the journal was cut
    pub record Serves (result : Result Bool Over) (old new : FlusherState L) : Type 0 where
      pub made : Result (Unit {0}) Over
      pub mid : FlusherState L
      pub turn : MakesTurn made old mid
      pub cuts : OrCuts F domain limits.cuts
          (result_and made (Ok (not (mid.rider.share == old.rider.share)))) result mid.rider new.rider
      pub same : new ≡ record mid { rider = new.rider }

    -- a turn was made, and so many in a row had got nowhere after it; it got somewhere if it entered a step, or if a page
    -- was written meanwhile
    abbrev pub ServesOnce : ℕ → Result ℕ Over → FlusherState L → FlusherState L → Type 0
    ServesOnce vain (Ok after) old new =
        (moved : Bool) × (written : Bool) × Serves (Ok moved) old new
        × (after ≡ vain_after (written || moved) vain)
    ServesOnce vain (Err over) old new = Serves (Err over) old new

    -- a turn before the stop
    abbrev pub ServesNext : ℕ → Result Bool Over → ServeState L → ServeState L → Type 0
    ServesNext i next old new = ServesOnce old.vain (Ok new.vain) old.own new.own

    -- turns were made until the stop was given, or up to one that failed
    pub record ServesUntil (result : Result Stopped Over) (old new : FlusherState L) : Type 0 where
      pub turns : ℕ
      pub last : ServeState L
      pub before : Followed ServesNext turns (serve_of old 0) last
      pub ended : MatchResult result (λ _. new ≡ last.own) (λ over. Serves (Err over) last.own new)

  -- all turns: as many as the limits say, up to one that failed; or, if the crew serves, those until a stop was given
  abbrev pub TurnsBy : Limits → Bool → FlusherState L → FlusherState L → Type 0
  TurnsBy limits false old new =
      (result : Result (Unit {0}) Over) × UpTo (TurnsNext limits false) limits.turns result old new
  TurnsBy limits true old new = (result : Result Stopped Over) × ServesUntil limits true result old new
