-- What the calls of one page's flush made of their rider.
use Rattle.std.specs.Prelude.{ℕ, ◌≡◌, Option, None, Some, Result, Ok, Err, MatchResult, List, [], ◌∷◌, ◌++◌, true}
use Rattle.hl_model.specs.declared.fault.Fault.{Fault}
use Rattle.hl_model.specs.declared.step.Step.TheVariants.{FlushTake, FlushDone}
use Rattle.hl_model.specs.Pages.{flushed}
use Rattle.hl_words.specs.States.{RiderState, with_view}
use Rattle.hl_keeper.specs.declared.load.PageJob.{PageJob}
use Rattle.hl_keeper.specs.Calls.{Makes, Ends}
use Rattle.hl_keeper.specs.Pages.{first_cell, loaded_all, to_flush}
use Rattle.hl_domain.specs.Domains.{DomainState, call_of, MakesUnderLock}

-- the offset that a flush was answered, or its fault
abbrev pub offset_told : {X : Type 0} → Result (ℕ × ℕ) (Fault × X) → Result ℕ Fault
offset_told (Ok flushed) = Ok flushed.1
offset_told (Err back) = Err back.0

-- A rider made a flush take, and nothing more where that was refused. Else it loaded these words of the page, and made
-- the flush done of the page, which was answered so
pub record FlushesNext (F : Type 0) (domain : DomainState) (old new : RiderState) (before out : List ℕ)
    (result : Result (ℕ × ℕ) (Fault × Option PageJob)) : Type 0 where
  pub mid : RiderState
  pub taken : Result PageJob Fault
  pub take : MakesUnderLock F domain (call_of FlushTake old mid) taken
      (λ keeper. Makes keeper FlushTake (λ A. to_flush keeper.core.sizes keeper.stamp A))
  pub rest : MatchResult taken
      (λ load. let copied = with_view (loaded_all (first_cell domain.sizes load.page) out mid.view) mid
      in let step = FlushDone load.page true
      in MakesUnderLock F domain (call_of step copied new) (offset_told result)
      (λ keeper. Ends keeper load.stamp step (λ A. flushed keeper.core.sizes (A ++ step ∷ [])))
      × MatchResult result (λ told. told.0 ≡ load.page) (λ back. back.1 ≡ Some load))
      (λ fault. (result ≡ Err (fault, None)) × (new ≡ mid) × (out ≡ before))
