use Rattle.std.proofs.Common.{◌≡◌, rules}
use Rattle.std.specs.Prelude.{Result, Ok, Err, MatchResult, IsOkAnd}
use Rattle.hl_model.specs.declared.fault.Fault.{Fault}
use Rattle.hl_model.specs.declared.step.Reply.{Reply}
use Rattle.hl_model.specs.declared.step.Reply.TheVariants.{Bumped, Raised, Shifted, At, Looked, Written, Page, Flushed, Freed}
use Rattle.hl_model.specs.declared.step.Step.TheVariants.{Write}
use Rattle.hl_core.specs.Steps.{Made, as_reply, entered_reply}
use Rattle.hl_core.proofs.state.Core.act.Goals as goal

-- a call's answer as a reply
told_as : {X : Type 0} (reply : X → Reply) (result : Result X Fault) (mapped : Result Reply Fault) → MatchResult result (λ x. IsOkAnd mapped (λ r. r ≡ reply x)) (λ f. mapped ≡ Err f) → mapped ≡ as_reply reply result
told_as reply (Ok x) (Ok r) h = cc
told_as reply (Ok x) (Err f) h = absurd h
told_as reply (Err f) mapped h = h

pub returns-in-Acquire-clause-made : goal.returns-in-Acquire-clause-made
returns-in-Acquire-clause-made g c = rw (told_as entered_reply c.acquire.result c.map.result c.map.ensures.cases, c.in-Acquire.is) c.acquire.ensures.made

pub returns-in-Refresh-clause-made : goal.returns-in-Refresh-clause-made
returns-in-Refresh-clause-made g c = rw (told_as entered_reply c.refresh.result c.map-in-Refresh.result c.map-in-Refresh.ensures.cases, c.in-Refresh.is) c.refresh.ensures.made

pub returns-in-Bare-clause-made : goal.returns-in-Bare-clause-made
returns-in-Bare-clause-made g c = rw (told_as Bumped c.bare.result c.map-in-Bare.result c.map-in-Bare.ensures.cases, c.in-Bare.is) c.bare.ensures.made

pub returns-in-Raise-clause-made : goal.returns-in-Raise-clause-made
returns-in-Raise-clause-made g c = rw (told_as Raised c.raise.result c.map-in-Raise.result c.map-in-Raise.ensures.cases, c.in-Raise.is) c.raise.ensures.made

pub returns-in-Shift-clause-made : goal.returns-in-Shift-clause-made
returns-in-Shift-clause-made g c = rw (told_as Shifted c.shift.result c.map-in-Shift.result c.map-in-Shift.ensures.cases, c.in-Shift.is) c.shift.ensures.made

pub returns-in-Allocate-clause-made : goal.returns-in-Allocate-clause-made
returns-in-Allocate-clause-made g c = rw (told_as At c.allocate.result c.map-in-Allocate.result c.map-in-Allocate.ensures.cases, c.in-Allocate.is) c.allocate.ensures.made

pub returns-in-Look-clause-made : goal.returns-in-Look-clause-made
returns-in-Look-clause-made g c = rw (told_as Looked c.look.result c.map-in-Look.result c.map-in-Look.ensures.cases, c.in-Look.is) c.look.ensures.made

pub returns-in-FlushTake-clause-made : goal.returns-in-FlushTake-clause-made
returns-in-FlushTake-clause-made g c = rw (told_as Page c.flush_take.result c.map-in-FlushTake.result c.map-in-FlushTake.ensures.cases, c.in-FlushTake.is) c.flush_take.ensures.made

pub returns-in-FlushDone-clause-made : goal.returns-in-FlushDone-clause-made
returns-in-FlushDone-clause-made g c = rw (told_as Flushed c.flush_done.result c.map-in-FlushDone.result c.map-in-FlushDone.ensures.cases, c.in-FlushDone.is) c.flush_done.ensures.made

pub returns-in-CleanTake-clause-made : goal.returns-in-CleanTake-clause-made
returns-in-CleanTake-clause-made g c = rw (told_as Page c.clean_take.result c.map-in-CleanTake.result c.map-in-CleanTake.ensures.cases, c.in-CleanTake.is) c.clean_take.ensures.made

pub returns-in-CleanDone-clause-made : goal.returns-in-CleanDone-clause-made
returns-in-CleanDone-clause-made g c = rw (told_as Freed c.clean_done.result c.map-in-CleanDone.result c.map-in-CleanDone.ensures.cases, c.in-CleanDone.is) c.clean_done.ensures.made

pub returns-in-Write-clause-made : goal.returns-in-Write-clause-made
returns-in-Write-clause-made g c =
    let made : Made g.J.Tagged.tag c.args.self.now (Write c.in-Write.t c.in-Write.a c.in-Write.v) c.args.self.now (as_reply (λ _. Written) c.may_write.result) = c.may_write.ensures.made c.in-Write.v in
    search rules
