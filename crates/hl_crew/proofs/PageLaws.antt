-- What a writer did that takes a page itself.
use Rattle.std.proofs.Common.{◌≡◌, ℕ, zero, suc, Bool, List, refl, subst, arith, inr}
use Rattle.std.specs.Prelude.{◌-◌, Result, Ok, MatchResult}
use Rattle.std.specs.Result.{result_and}
use Rattle.hl_words.specs.States.{RiderState}
use Rattle.hl_keeper.specs.declared.load.PageJob.{PageJob}
use Rattle.hl_domain.specs.Domains.{DomainState}
use Rattle.hl_crew.specs.declared.ends.Accepted.{Accepted}
use Rattle.hl_crew.specs.declared.messages.Over.{Over}
use Rattle.hl_crew.specs.declared.limits.Cuts.{Cuts}
use Rattle.hl_crew.specs.declared.writer.WriterState.{WriterState}
use Rattle.hl_crew.specs.Counting.{counted}
use Rattle.hl_crew.specs.Overs.{makes_room}
use Rattle.hl_crew.specs.Pages.{Copies, Flushes, FlushesOne, Passes, PassesIf}
use Rattle.hl_crew.specs.Tries.{EndsFlush, TriesFor}
use Rattle.hl_crew.specs.Turns.{Loads}

-- a page was taken, copied and answered
pub flushed : {L W : Type 0} (F : Type 0) (domain : DomainState) (cuts : Cuts) (lets : ℕ → Type 0) (wrote failed : W → ℕ → List ℕ → W → Type 0) (failures : W → ℕ) (Behind : Result Bool Over → WriterState L W → WriterState L W → Type 0)
    (ok : Bool) (passed : Result Bool Over) (ended : Result Accepted Over) (load : PageJob) (taker : RiderState) (old copier last new : WriterState L W)
    → Loads F domain (Ok load) old.rider taker → Copies lets wrote failed failures domain.sizes ok load taker copier.rider old.pages copier.pages → copier.counts ≡ old.counts
    → PassesIf F domain cuts lets wrote failed failures Behind ok passed copier last → TriesFor F domain (makes_room cuts) (EndsFlush F domain load.page ok load.stamp) ended last.rider new.rider
    → new.pages ≡ last.pages → MatchResult ended (λ _. new.counts ≡ counted ok last.counts) (λ _. new.counts ≡ last.counts)
    → FlushesOne F domain cuts lets wrote failed failures Behind (result_and ended passed) old new
flushed F domain cuts lets wrote failed failures Behind ok passed ended load taker old copier last new taken copies uncounted passes done pages counts =
    inr (inr (
      ok,
      passed,
      ended,
      record {
        load = load;
        taker = taker;
        taken = taken;
        copier = copier;
        copies = copies;
        uncounted = uncounted;
        last = last;
        passes = passes;
        done = done;
        pages = pages;
        counts = counts;
      },
      refl,
    ))

-- behind a page that wasn't written
pub passes_more : {L W : Type 0} (F : Type 0) (domain : DomainState) (cuts : Cuts) (lets : ℕ → Type 0) (wrote failed : W → ℕ → List ℕ → W → Type 0) (failures : W → ℕ) (n : ℕ) (passed : Result Bool Over) (old new : WriterState L W)
    → (n ≡ 0 → ⊥) → Flushes F domain cuts lets wrote failed failures (n - 1) passed old new → Passes F domain cuts lets wrote failed failures n passed old new
passes_more F domain cuts lets wrote failed failures zero passed old new some one = absurd (some refl)
passes_more F domain cuts lets wrote failed failures (suc n) passed old new some one =
    let same : suc n - 1 ≡ n = omega arith in subst (λ m. Flushes F domain cuts lets wrote failed failures m passed old new) same one
