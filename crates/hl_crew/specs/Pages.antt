-- What a writer did that takes a page itself.
use Rattle.std.specs.Prelude.{◌≡◌, ◌⊎◌, ℕ, zero, suc, Bool, true, false, Result, Ok, Err, MatchResult, List}
use Rattle.std.specs.Result.{result_and}
use Rattle.hl_model.specs.declared.fault.Fault.{Fault}
use Rattle.hl_model.specs.declared.fault.Fault.TheVariants.{NoneSealed}
use Rattle.hl_model.specs.Sizes.{Sizes}
use Rattle.hl_words.specs.States.{RiderState}
use Rattle.hl_keeper.specs.declared.load.PageJob.{PageJob}
use Rattle.hl_domain.specs.Domains.{DomainState}
use Rattle.hl_crew.specs.declared.ends.Accepted.{Accepted}
use Rattle.hl_crew.specs.declared.messages.Over.{Over}
use Rattle.hl_crew.specs.declared.limits.Cuts.{Cuts}
use Rattle.hl_crew.specs.declared.writer.WriterState.{WriterState}
use Rattle.hl_crew.specs.Counting.{counted}
use Rattle.hl_crew.specs.Cutting.{CutsJournal}
use Rattle.hl_crew.specs.Looks.{FindsBy}
use Rattle.hl_crew.specs.Overs.{over_of, makes_room}
use Rattle.hl_crew.specs.Tries.{EndsFlush, TriesFor}
use Rattle.hl_crew.specs.Turns.{Loads}
use Rattle.hl_crew.specs.Writes.{IsWritten, IsNotWritten}

-- the gate let a page through, its words were loaded, and the image of exactly these was written; or it wasn't
-- written
abbrev pub Copies : {W : Type 0} → (ℕ → Type 0) → (W → ℕ → List ℕ → W → Type 0)
    → (W → ℕ → List ℕ → W → Type 0) → (W → ℕ) → Sizes → Bool → PageJob
    → RiderState → RiderState → W → W → Type 0
Copies lets wrote failed failures sizes true job old new before after =
    lets job.page × IsWritten wrote sizes job old new before after
Copies lets wrote failed failures sizes false job old new before after =
    IsNotWritten failed failures sizes job old new before after

-- a writer's rider cut the journal
abbrev pub CutsByRider : {L W : Type 0} → (F : Type 0) → DomainState → WriterState L W → WriterState L W → Type 0
CutsByRider F domain old new =
    CutsJournal F domain old.rider new.rider × (new ≡ record old { rider = new.rider })

module _ {L W : Type 0} (F : Type 0) (domain : DomainState) (cuts : Cuts) (lets : ℕ → Type 0)
    (wrote failed : W → ℕ → List ℕ → W → Type 0) (failures : W → ℕ) where
  -- a take of a page was refused so
  abbrev pub RefusesPage : Fault → WriterState L W → WriterState L W → Type 0
  RefusesPage fault old new =
      Loads F domain (Err fault) old.rider new.rider × (new ≡ record old { rider = new.rider })

  module _ (Behind : Result Bool Over → WriterState L W → WriterState L W → Type 0) where
    -- where a page was written, nothing more was done; and else the next one behind it was flushed
    abbrev pub PassesIf : Bool → Result Bool Over → WriterState L W → WriterState L W → Type 0
    PassesIf true passed old new = (passed ≡ Ok true) × (new ≡ old)
    PassesIf false passed old new = Behind passed old new

    -- a rider took a page, copied it, and answered it as written; or as failed, once the next one behind it was
    -- flushed. An answer that was accepted was counted
    pub record FlushesPage (ok : Bool) (passed : Result Bool Over) (result : Result Accepted Over)
        (old new : WriterState L W) : Type 0 where
      pub load : PageJob
      pub taker : RiderState
      pub taken : Loads F domain (Ok load) old.rider taker
      pub copier : WriterState L W
      pub copies : Copies lets wrote failed failures domain.sizes ok load taker copier.rider
          old.pages copier.pages
      pub uncounted : copier.counts ≡ old.counts
      pub last : WriterState L W
      pub passes : PassesIf ok passed copier last
      pub done : TriesFor F domain (makes_room cuts)
          (EndsFlush F domain load.page ok load.stamp) result last.rider new.rider
      pub pages : new.pages ≡ last.pages
      pub counts : MatchResult result
          (λ _. new.counts ≡ counted ok last.counts) (λ _. new.counts ≡ last.counts)

    -- none is sealed; or the take was refused otherwise; or a page was flushed
    abbrev pub FlushesOne : Result Bool Over → WriterState L W → WriterState L W → Type 0
    FlushesOne result old new =
        ((result ≡ Ok false) × RefusesPage NoneSealed old new)
        ⊎ ((fault : Fault) × (fault ≡ NoneSealed → ⊥) × (result ≡ Err (over_of fault))
        × RefusesPage fault old new)
        ⊎ ((ok : Bool) × (passed : Result Bool Over) × (ended : Result Accepted Over)
        × FlushesPage ok passed ended old new × (result ≡ result_and ended passed))

  -- what was done behind a page that wasn't written: the next one was flushed, if so many more may fail
  abbrev pub Passes : ℕ → Result Bool Over → WriterState L W → WriterState L W → Type 0
  Passes zero passed old new = (passed ≡ Ok false) × (new ≡ old)
  Passes (suc n) passed old new = FlushesOne (Passes n) passed old new

  -- pages were flushed: the first sealed one, and behind each that wasn't written the next, up to so many; it is
  -- told whether one was written
  abbrev pub Flushes : ℕ → Result Bool Over → WriterState L W → WriterState L W → Type 0
  Flushes n = FlushesOne (Passes n)

  -- a look for pages to be flushed, the first and up to three behind it
  abbrev pub FindsPage : Result Bool Over → WriterState L W → WriterState L W → Type 0
  FindsPage = FindsBy (Flushes 3) (CutsByRider F domain) cuts
