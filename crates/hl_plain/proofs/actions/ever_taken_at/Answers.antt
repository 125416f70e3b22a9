use Rattle.std.proofs.Common.{arith, ◌∙◌, length, sym, ap}
use Rattle.hl_plain.proofs.StoredLaws.{ever_taken_length, ever_taken-front, ever_taken-behind}
use Rattle.hl_plain.proofs.actions.ever_taken_at.Goals as goal

pub stored_at-requires-clause-within : goal.stored_at-requires-clause-within
stored_at-requires-clause-within c =
    omega (arith, ap length c.taken-taken.ensures, c.if-i-taken.false, c.requires.within, ever_taken_length c.args.base.now c.args.steps.now)

pub returns-then-i-taken : goal.returns-then-i-taken
returns-then-i-taken c = λ w.
    rw c.taken-taken.ensures (ever_taken-front c.args.base.now c.args.steps.now c.args.i _ w (omega (arith, c.if-i-taken.true, ap length c.taken-taken.ensures)))

pub returns-else-i-taken : goal.returns-else-i-taken
returns-else-i-taken c = λ w.
    let long = ap length c.taken-taken.ensures in
    c.stored_at.ensures w ∙ rw c.taken-taken.ensures (sym (ever_taken-behind c.args.base.now c.args.steps.now c.args.i w (omega (arith, long, c.if-i-taken.false)) c.requires.within))
