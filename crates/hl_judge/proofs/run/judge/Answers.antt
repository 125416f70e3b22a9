use Rattle.std.proofs.Common.{◌≡◌, Bool, true, false, cond, not, Ok, [], ◌∷◌, ◌++◌, refl, sym, ap, ◌∙◌, rules}
use Rattle.std.specs.Prelude.{Some, None, codes, bytes_eq}
use Rattle.std.proofs.lemmas.Bool.{not-true, false≢true}
use Rattle.std.proofs.lemmas.Result.{err_from_is_err_and}
use Rattle.hl_model.specs.declared.fault.Fault.TheVariants.{OutOfMemory}
use Rattle.hl_script.specs.Fast.{FastStands}
use Rattle.hl_script.specs.Text.{tags_on}
use Rattle.hl_script.proofs.KnownLaws.{Consumes-nothing}
use Rattle.hl_judge.proofs.TraceLaws.{come_start, come_first, cut_is_none, entry_agrees, entry_deviates, opened_text, lacked_at_start, lacked_at_line, broken_read, judged_end, judged_last, judged_deviates, judged_no_entry}
use Rattle.hl_judge.proofs.run.judge.Goals as goal

not_false : (b : Bool) → not b ≡ false → b ≡ true
not_false true e = refl
not_false false e = absurd (false≢true (sym e))

pub returns-in_err-bytes : goal.returns-in_err-bytes
returns-in_err-bytes g c =
    let p = err_from_is_err_and c.from_residual.result c.from_residual.ensures.1 in
    let given = g.R.Read.remaining c.args.reader.now in
    rw (p.1, p.2) (lacked_at_start (tags_on c.args.shelf) given c.in_err-bytes.field-0.0 c.in_err-bytes.ensures.refused)

pub returns-in_err-answer : goal.returns-in_err-answer
returns-in_err-answer g c =
    let p = err_from_is_err_and c.from_residual-in_err-answer.result c.from_residual-in_err-answer.ensures.1 in
    let given = g.R.Read.remaining c.args.reader.now in
    rw (p.1, p.2) (lacked_at_start (tags_on c.args.shelf) given c.in_err-answer.field-0.0 c.in_err-answer.ensures.refused)

pub returns-in_err-ending : goal.returns-in_err-ending
returns-in_err-ending g c =
    let p = err_from_is_err_and c.from_residual-in_err-ending.result c.from_residual-in_err-ending.ensures.1 in
    let has = tags_on c.args.shelf in
    let bytes = c.read_line_of.new.bytes.items in
    rw (p.1, p.2) (broken_read has _ _ _ [] [] bytes c.in_err-ending.field-0.0 c.in_err-ending.ensures.faults (Consumes-nothing _) (come_start has) c.in_err-ending.ensures.err)

pub returns-in_default : goal.returns-in_default
returns-in_default g c =
    let has = tags_on c.args.shelf in
    let bytes = c.read_line_of.new.bytes.items in
    judged_end has _ _ _ [] [] bytes 0 refl (Consumes-nothing _) (come_start has) (rw c.in_default.is at c.in_ok-ending.ensures.ok)

pub returns-in_default-entry : goal.returns-in_default-entry
returns-in_default-entry g c =
    let has = tags_on c.args.shelf in
    let bytes = c.read_line_of.new.bytes.items in
    let read = rw c.in-Some.is at c.in_ok-ending.ensures.ok in
    judged_no_entry has _ _ _ [] [] bytes c.in-Some.ending 0 refl (Consumes-nothing _) (come_start has) read (rw c.as_slice.ensures.value at (c.in_default-entry.ensures.exact []))

pub returns-in_err-answering : goal.returns-in_err-answering
returns-in_err-answering g c =
    let p = err_from_is_err_and c.from_residual-in_err-answering.result c.from_residual-in_err-answering.ensures.1 in
    let has = tags_on c.args.shelf in
    let bytes = c.read_line_of.new.bytes.items in
    let read = rw c.in-Some.is at c.in_ok-ending.ensures.ok in
    rw (p.1, p.2) (lacked_at_line has _ _ _ [] [] bytes c.in-Some.ending c.in_err-answering.field-0.0 c.in_err-answering.ensures.refused (Consumes-nothing _) (come_start has) read)

pub returns-in_default-2 : goal.returns-in_default-2
returns-in_default-2 g c =
    let has = tags_on c.args.shelf in
    let bytes = c.read_line_of.new.bytes.items in
    let read = rw c.in-Some.is at c.in_ok-ending.ensures.ok in
    let exact = rw c.as_slice.ensures.value at (c.in-Some-entry.ensures.exact []) in
    let none = c.in_ok-answering.ensures.none (ap Ok c.in_default-2.is) in
    judged_no_entry has _ _ _ [] [] bytes c.in-Some.ending 0 refl (Consumes-nothing _) (come_start has) read
    (exact ∙ ap (λ b. cond b (Some (record { line = c.in-Some-entry.first; reply = c.in-Some-entry.reply.now })) None) none)

pub returns-then-is_err : goal.returns-then-is_err
returns-then-is_err g c =
    let has = tags_on c.args.shelf in
    let bytes = c.read_line_of.new.bytes.items in
    let read = rw c.in-Some.is at c.in_ok-ending.ensures.ok in
    lacked_at_line has _ _ _ [] [] bytes c.in-Some.ending OutOfMemory refl (Consumes-nothing _) (come_start has) read

pub returns-then-ne : goal.returns-then-ne
returns-then-ne g c =
    let has = tags_on c.args.shelf in
    let bytes = c.read_line_of.new.bytes.items in
    let read = rw c.in-Some.is at c.in_ok-ending.ensures.ok in
    let exact = rw c.as_slice.ensures.value at (c.in-Some-entry.ensures.exact []) in
    let some = rw c.in-Some-2.is at c.in_ok-answering.ensures.some in
    let answer = c.extend_from_slice.new.self.items in
    let is : answer ≡ codes "opened" = search rules in
    let other : bytes_eq c.in-Some-entry.reply.now (codes "opened") ≡ false = not-true _ (sym c.if-ne.ensures) in
    judged_deviates has _ _ _ [] [] bytes answer c.in-Some.ending 0 refl (Consumes-nothing _) (come_start has) read
    (entry_deviates has [] bytes c.in-Some-entry.reply.now answer c.in-Some-entry.first exact some.0 (is ∙ opened_text has c.in-Some-entry.first some.0) (ap (bytes_eq c.in-Some-entry.reply.now) is ∙ other))

pub returns-in-Line : goal.returns-in-Line
returns-in-Line g c =
    let has = tags_on c.args.shelf in
    let bytes = c.read_line_of.new.bytes.items in
    let line = rw (c.in-Some.is, c.in-Line.is) at c.in_ok-ending.ensures.ok in
    let exact = rw c.as_slice.ensures.value at (c.in-Some-entry.ensures.exact []) in
    let some = rw c.in-Some-2.is at c.in_ok-answering.ensures.some in
    let same : bytes_eq c.in-Some-entry.reply.now (codes "opened") ≡ true = not_false _ (sym c.if-ne.ensures) in
    let come = come_first (FastStands c.in-Some-2.answering.fast.shelf c.in-Some-2.answering.fast.engine) has bytes c.in-Some-entry.reply.now c.in-Some-entry.first exact some.0 same some.1 line.no_end in
    c.judge_lines.ensures has _ (bytes ++ 10 ∷ []) c.in-Some-entry.first line.consumed
    come some.1

pub judge_lines-requires : goal.judge_lines-requires
judge_lines-requires g c =
    let has = tags_on c.args.shelf in
    let bytes = c.read_line_of.new.bytes.items in
    let line = rw (c.in-Some.is, c.in-Line.is) at c.in_ok-ending.ensures.ok in
    let exact = rw c.as_slice.ensures.value at (c.in-Some-entry.ensures.exact []) in
    let some = rw c.in-Some-2.is at c.in_ok-answering.ensures.some in
    let same : bytes_eq c.in-Some-entry.reply.now (codes "opened") ≡ true = not_false _ (sym c.if-ne.ensures) in
    let come = come_first (FastStands c.in-Some-2.answering.fast.shelf c.in-Some-2.answering.fast.engine) has bytes c.in-Some-entry.reply.now c.in-Some-entry.first exact some.0 same some.1 line.no_end in (
      has,
      g.R.Read.remaining c.args.reader.now,
      bytes ++ 10 ∷ [],
      c.in-Some-entry.first,
      line.consumed,
      come,
      some.1,
    )

pub returns-in-Input : goal.returns-in-Input
returns-in-Input g c =
    let has = tags_on c.args.shelf in
    let bytes = c.read_line_of.new.bytes.items in
    let line = rw (c.in-Some.is, c.in-Input.is) at c.in_ok-ending.ensures.ok in
    let exact = rw c.as_slice.ensures.value at (c.in-Some-entry.ensures.exact []) in
    let some = rw c.in-Some-2.is at c.in_ok-answering.ensures.some in
    let same : bytes_eq c.in-Some-entry.reply.now (codes "opened") ≡ true = not_false _ (sym c.if-ne.ensures) in
    let agrees = entry_agrees (FastStands c.in-Some-2.answering.fast.shelf c.in-Some-2.answering.fast.engine) has [] bytes c.in-Some-entry.reply.now (codes "opened") c.in-Some-entry.first exact some.0 (opened_text has c.in-Some-entry.first some.0) same some.1 in
    judged_last (FastStands c.in-Some-2.answering.fast.shelf c.in-Some-2.answering.fast.engine) has _ _ _ [] [] bytes 0 refl (Consumes-nothing _) (come_start has) line agrees

pub returns-in-Cut : goal.returns-in-Cut
returns-in-Cut g c =
    let has = tags_on c.args.shelf in
    let bytes = c.read_line_of.new.bytes.items in
    let line = rw (c.in-Some.is, c.in-Cut.is) at c.in_ok-ending.ensures.ok in
    let exact = rw c.as_slice.ensures.value at (c.in-Some-entry.ensures.exact []) in
    let some = rw c.in-Some-2.is at c.in_ok-answering.ensures.some in
    let same : bytes_eq c.in-Some-entry.reply.now (codes "opened") ≡ true = not_false _ (sym c.if-ne.ensures) in
    let agrees = entry_agrees (FastStands c.in-Some-2.answering.fast.shelf c.in-Some-2.answering.fast.engine) has [] bytes c.in-Some-entry.reply.now (codes "opened") c.in-Some-entry.first exact some.0 (opened_text has c.in-Some-entry.first some.0) same some.1 in
    absurd (cut_is_none [] bytes agrees.entry line.1 agrees.is_entry)
