-- A session is left by tries, where a full journal may be cut.
use Rattle.std.specs.Prelude.{Bool, Result}
use Rattle.hl_words.specs.States.{RiderState}
use Rattle.hl_crew.specs.Tries.{Tries}
use Rattle.hl.specs.declared.refused.Refused.{Refused}
use Rattle.hl.specs.Sessions.{SessionState, fault_alone, unseated, LeavesWith}

-- a session left, and the last of its tries was answered so. At most a thousand came before it, each refused since the
-- journal was full, which may be cut and then was, by the session's rider; and as many did, where even the last one met a
-- full journal that may be cut
abbrev pub LeftByTries : (F : Type 0) → Bool → SessionState → Result RiderState (Refused SessionState)
    → Type 0
LeftByTries F may_cut session result = Tries F session.log may_cut (LeavesWith F session)
    (fault_alone result) session.pass.rider (unseated result)
