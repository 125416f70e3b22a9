-- A page that was taken, and what a call with one makes of a log.
use Rattle.std.specs.Prelude.{◌≡◌, ℕ, ◌==◌, Bool, true, false, if◌then◌else◌, Option, Some, None, Result, Err, is_none, List, []}
use Rattle.hl_model.specs.declared.fault.Fault.{Fault}
use Rattle.hl_model.specs.declared.fault.Fault.TheVariants.{NotInFlight, NotCleaning, Size}
use Rattle.hl_model.specs.declared.step.Reply.{Reply}
use Rattle.hl_model.specs.declared.step.Step.{Step}
use Rattle.hl_model.specs.declared.step.Step.TheVariants.{FlushTake, CleanTake}
use Rattle.hl_model.specs.Replies.{or_fault, reply_of, extended}
use Rattle.hl_words.specs.declared.view.RiderView.{RiderView}
use Rattle.hl_words.specs.Cells.{first_cell}
use Rattle.hl_words.specs.Rows.{acted}
use Rattle.hl_words.specs.Views.{zeroed, loaded_all}
use Rattle.hl_pass.specs.Calls.{origin_fault as of_log}
use Rattle.hl_log.specs.Logs.{StandsAt, IsBeside}
use Rattle.hl_log.specs.States.{LogState, PageState}

-- the fault of a copy into so many places
abbrev pub copy_fault : PageState → ℕ → Option Fault
copy_fault page count =
    if page.cleans then Some NotInFlight
    else if count == page.shared.sizes.page_size then None else Some Size

-- the fault of a sweep
abbrev pub sweep_fault : PageState → Option Fault
sweep_fault page = if page.cleans then None else Some NotCleaning

-- the page after its rider did this
abbrev pub page_with_act : (RiderView → RiderView) → PageState → PageState
page_with_act f page = record (page) { rider = acted f page.rider }

-- the first of its cells
abbrev pub first_of : PageState → ℕ
first_of page = first_cell page.shared.sizes page.page

-- the page after a copy that found these words
abbrev pub copied : List ℕ → PageState → PageState
copied words page = page_with_act (loaded_all (first_of page) words) page

-- the page after a sweep, which stored 0 into each of its cells
abbrev pub swept : PageState → PageState
swept page = record (page) {
  swept = true;
  rider = acted (zeroed (first_of page) page.shared.sizes.page_size) page.rider;
}

-- the step that takes a page
abbrev pub taking : Bool → Step
taking cleans = if cleans then CleanTake else FlushTake

-- the page with a number
abbrev pub numbered : ℕ → PageState → PageState
numbered number page = record (page) { page = number }

-- a page of this log, for this work, which has not begun
pub record IsFresh (log : LogState) (cleans : Bool) (page : PageState) : Type 0 where
  pub shared : page.shared ≡ log.shared
  pub origin_is : page.origin ≡ log.stamps.own
  pub cleans_is : page.cleans ≡ cleans
  pub swept_is : page.swept ≡ false
  pub did_nothing : page.rider.view.touches ≡ []

-- the fault of the end of a page's work, before those of its step: the page is of another log
abbrev pub origin_fault : LogState → PageState → Option Fault
origin_fault log page = of_log log.stamps.own page.origin

-- the same for a page that is to be free: it was not swept
abbrev pub unswept_fault : LogState → PageState → Option Fault
unswept_fault log page =
    or_fault (origin_fault log page) (if page.swept then None else Some NotCleaning)

-- a fault if there is one, else the reply
abbrev pub unless_met : Option Fault → Result Reply Fault → Result Reply Fault
unless_met None reply = reply
unless_met (Some fault) reply = Err fault

-- a log that stood at A met this fault, and stays; or made the step as the definitions do
pub record EndedAt (old : LogState) (A : List Step) (fault : Option Fault) (step : Step) (new : LogState)
    (result : Result Reply Fault) : Type 0 where
  pub reply : result ≡ unless_met fault (reply_of old.core.sizes A step)
  pub sizes : new.core.sizes ≡ old.core.sizes
  pub standing : StandsAt new (if is_none fault then extended old.core.sizes A step else A)

-- so at whatever list it stood; all beside its core is as it was
pub record Ends (old : LogState) (fault : Option Fault) (step : Step) (new : LogState)
    (result : Result Reply Fault) : Type 0 where
  pub ended : (A : List Step) → StandsAt old A → EndedAt old A fault step new result
  pub beside : IsBeside old new
