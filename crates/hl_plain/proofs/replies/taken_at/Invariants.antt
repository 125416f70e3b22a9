use Rattle.std.proofs.Common.{◌≡◌, take, find}
use Rattle.std.specs.Prelude.{None}
use Rattle.hl_plain.proofs.FindLaws.{has_ticket}
use Rattle.hl_plain.proofs.replies.taken_at.Given as goal

abbrev pub invariant-loop-action : goal.invariant-loop-action
invariant-loop-action l = find (has_ticket l.ticket) (take l.action-index l.present.taken) ≡ None
