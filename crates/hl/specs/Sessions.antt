-- A session, and how its slot was found.
use Rattle.std.specs.Prelude.{◌≡◌, ℕ, Bool, true, false, is_some, Option, Ok, Err, Result}
use Rattle.hl_model.specs.declared.fault.Fault.{Fault}
use Rattle.hl_model.specs.declared.step.Step.TheVariants.{Acquire, Release}
use Rattle.hl_words.specs.States.{RiderState}
use Rattle.hl_keeper.specs.Passes.{PassRecord, seen, with_rider}
use Rattle.hl_core.specs.Holding.{least_free}
use Rattle.hl_keeper.specs.Calls.{call_fault, Makes, MakesAt, MakesTouched, pass_after}
use Rattle.hl_domain.specs.Domains.{DomainState, call_of, pass_call, enter_call, MakesUnderLock}
use Rattle.hl_crew.specs.declared.limits.Cuts.{Cuts}
use Rattle.hl_crew.specs.declared.limits.Cuts.TheVariants.{Never}
use Rattle.hl.specs.declared.refused.Refused.{Refused}

-- who serves the log beside a session: whether a crew that it wakes, and how the session cuts the journal itself, where
-- none does
pub record Beside : Type 0 where
  pub rings : Bool
  pub cuts : Cuts

-- so it is where there is such a bell, or none
abbrev pub beside_of : {B : Type 0} → Option B → Cuts → Beside
beside_of bell cuts = record { rings = is_some bell; cuts = cuts }

-- no crew, and the session never cuts
abbrev pub alone : Beside
alone = record { rings = false; cuts = Never }

-- a crew, and the session never cuts
abbrev pub beside_crew : Beside
beside_crew = record { rings = true; cuts = Never }

-- no crew, and the session cuts so
abbrev pub without_crew : Cuts → Beside
without_crew cuts = record { rings = false; cuts = cuts }

-- a session: its log, its pass there, and who serves the log beside it
pub record SessionState : Type 0 where
  pub log : DomainState
  pub pass : PassRecord
  pub beside : Beside

-- the same session with another pass
abbrev pub with_pass : PassRecord → SessionState → SessionState
with_pass pass s = record s { pass = pass }

-- the tail that a session sees
abbrev pub tail_seen : SessionState → ℕ
tail_seen s = (seen s.pass).tail

-- the answer of a call, without what a refusal hands back
abbrev pub fault_alone : {X Y : Type 0} → Result X (Refused Y) → Result X Fault
fault_alone (Ok x) = Ok x
fault_alone (Err refused) = Err refused.fault

-- the pass of a session, or the fault alone
abbrev pub pass_of : {Y : Type 0} → Result SessionState (Refused Y) → Result PassRecord Fault
pass_of (Ok session) = Ok session.pass
pass_of (Err refused) = Err refused.fault

-- the rider whom a call for a slot leaves: that of the session, or the one handed back
abbrev pub seated : Result SessionState (Refused RiderState) → RiderState
seated (Ok session) = session.pass.rider
seated (Err refused) = refused.back

-- the rider whom the end of a session leaves: the one returned, or that of the session handed back
abbrev pub unseated : Result RiderState (Refused SessionState) → RiderState
unseated (Ok rider) = rider
unseated (Err refused) = refused.back.pass.rider

-- a log was asked for slot t by this rider, and answered as an acquire does
abbrev pub Asked : (F : Type 0) → DomainState → RiderState → ℕ
    → Result SessionState (Refused RiderState) → Type 0
Asked F log rider t result =
    MakesUnderLock F log (call_of (Acquire t) rider (seated result)) (pass_of result)
    (λ old. Makes old (Acquire t) (pass_after old t (seated result)))

-- a log was asked for the least slot that isn't protected, and answered as an acquire of it does
abbrev pub Entered : (F : Type 0) → DomainState → RiderState
    → Result SessionState (Refused RiderState) → Type 0
Entered F log rider result =
    MakesUnderLock F log (enter_call log.sizes rider (seated result)) (pass_of result)
    (λ old. MakesAt old (λ A. Acquire (least_free old.core.sizes A))
    (λ A. pass_after old (least_free old.core.sizes A) (seated result) A))

-- a session that has this rider by now was asked to end, and answered as a release of its slot does; this is its rider then
abbrev pub LeavesWith : (F : Type 0) → SessionState → Result RiderState Fault → RiderState → RiderState
    → Type 0
LeavesWith F session result old new =
    let p = with_rider old session.pass in
    MakesUnderLock F session.log (pass_call p (Release p.slot) new) result
    (λ keeper. MakesTouched keeper p (Release p.slot)
    (λ A. call_fault keeper A p (Release p.slot)) (λ A. new))

-- a session was asked to end, and answered so
abbrev pub Left : (F : Type 0) → SessionState → Result RiderState (Refused SessionState) → Type 0
Left F session result = LeavesWith F session (fault_alone result) session.pass.rider (unseated result)

-- the same session, but for its rider
abbrev pub KeepsAllButRider : SessionState → SessionState → Type 0
KeepsAllButRider old new = new ≡ with_pass (with_rider new.pass.rider old.pass) old
