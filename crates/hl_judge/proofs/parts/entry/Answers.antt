use Rattle.std.proofs.Common.{sym, arith, refl}
use Rattle.hl_script.specs.Lines.{may_stand}
use Rattle.hl_judge.proofs.PartLaws.{entry_long, entry_unparted, entry_unread, entry_read}
use Rattle.hl_judge.proofs.parts.entry.Goals as goal

pub returns-then-bytes-gt-LONGEST-clause-exact : goal.returns-then-bytes-gt-LONGEST-clause-exact
returns-then-bytes-gt-LONGEST-clause-exact c = λ before. sym (entry_long before c.args.bytes.now (omega arith))

pub returns-in_err-text-clause-exact : goal.returns-in_err-text-clause-exact
returns-in_err-text-clause-exact c = λ before. rw c.from_residual.ensures (sym (entry_unparted before c.args.bytes.now (omega arith) c.in_err-text.ensures.back))

pub returns-in_err-line-clause-exact : goal.returns-in_err-line-clause-exact
returns-in_err-line-clause-exact c = λ before. rw c.from_residual-in_err-line.ensures (sym (entry_unread before c.args.bytes.now c.in_ok-text.text.now (omega arith) c.in_ok-text.ensures.front c.in_err-line.ensures.exact))

pub returns-clause-exact : goal.returns-clause-exact
returns-clause-exact c = λ before.
    sym (entry_read before c.args.bytes.now c.in_ok-text.text.now c.in_ok-text.reply.now c.in_ok-line.line (may_stand before c.in_ok-line.line) (omega arith) c.in_ok-text.ensures.front c.in_ok-text.ensures.back c.in_ok-line.ensures.exact refl)
