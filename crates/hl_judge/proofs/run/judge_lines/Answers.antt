use Rattle.std.proofs.Common.{◌++◌, ◌∷◌, [], refl}
use Rattle.std.proofs.lemmas.Result.{err_from_is_err_and}
use Rattle.hl_script.proofs.KnownLaws.{Consumes-nothing, Consumes-more}
use Rattle.hl_script.specs.Fast.{FastStands}
use Rattle.hl_judge.proofs.TraceLaws.{come_more, cut_is_none, lacked_at_line, broken_read, judged_end, judged_last, judged_deviates, judged_no_entry, stopped, lines_more}
use Rattle.hl_judge.proofs.run.judge_lines.Goals as goal

pub loop-lines-init : goal.loop-lines-init
loop-lines-init g c = λ has given start first read come standing. (start, first ∷ [], read, standing, come, refl)

pub returns-in_err-ending : goal.returns-in_err-ending
returns-in_err-ending g c = λ has given start first read come standing.
    let p = err_from_is_err_and c.from_residual.result c.from_residual.ensures.1 in
    let here = c.loop-lines.invariant has given start first read come standing in
    rw (p.1, p.2) (broken_read has given (g.R.Read.remaining c.loop-lines.reader) (g.R.Read.remaining c.read_line_of.new.reader) here.0 here.1 c.read_line_of.new.bytes.items c.in_err-ending.field-0.0
    c.in_err-ending.ensures.faults here.2 here.4 c.in_err-ending.ensures.err)

pub returns-in_default : goal.returns-in_default
returns-in_default g c = λ has given start first read come standing.
    let here = c.loop-lines.invariant has given start first read come standing in
    judged_end has given (g.R.Read.remaining c.loop-lines.reader) (g.R.Read.remaining c.read_line_of.new.reader) here.0 here.1 c.read_line_of.new.bytes.items c.loop-lines.lines
    here.5 here.2 here.4 (rw c.in_default.is at c.in_ok-ending.ensures.ok)

pub returns-in_err-judge_line : goal.returns-in_err-judge_line
returns-in_err-judge_line g c = λ has given start first read come standing.
    let p = err_from_is_err_and c.from_residual-in_err-judge_line.result c.from_residual-in_err-judge_line.ensures.1 in
    let here = c.loop-lines.invariant has given start first read come standing in
    rw (p.1, p.2) (lacked_at_line has given (g.R.Read.remaining c.loop-lines.reader) (g.R.Read.remaining c.read_line_of.new.reader) here.0 here.1 c.read_line_of.new.bytes.items c.in-Some.ending c.in_err-judge_line.field-0.0
    c.in_err-judge_line.ensures.refused here.2 here.4 (rw c.in-Some.is at c.in_ok-ending.ensures.ok))

pub returns-in-Input : goal.returns-in-Input
returns-in-Input g c = λ has given start first read come standing.
    let here = c.loop-lines.invariant has given start first read come standing in
    let bytes = c.read_line_of.new.bytes.items in
    let line = rw (c.in-Some.is, c.in-Input.is) at c.in_ok-ending.ensures.ok in
    let found = rw (c.in-Agrees.is, c.as_slice.ensures.value) at (c.in_ok-judge_line.ensures.found has here.1 here.3) in
    judged_last (FastStands c.judge_line.new.answering.fast.shelf c.judge_line.new.answering.fast.engine) has given (g.R.Read.remaining c.loop-lines.reader) (g.R.Read.remaining c.read_line_of.new.reader) here.0 here.1 bytes c.loop-lines.lines
    here.5 here.2 here.4 line found

pub returns-in-Cut : goal.returns-in-Cut
returns-in-Cut g c = λ has given start first read come standing.
    let here = c.loop-lines.invariant has given start first read come standing in
    let line = rw (c.in-Some.is, c.in-Cut.is) at c.in_ok-ending.ensures.ok in
    let found = rw (c.in-Agrees.is, c.as_slice.ensures.value) at (c.in_ok-judge_line.ensures.found has here.1 here.3) in
    absurd (cut_is_none here.1 c.read_line_of.new.bytes.items found.entry line.1 found.is_entry)

pub returns-in-Deviates : goal.returns-in-Deviates
returns-in-Deviates g c = λ has given start first read come standing.
    let here = c.loop-lines.invariant has given start first read come standing in
    let bytes = c.read_line_of.new.bytes.items in
    let found = rw (c.in-Deviates.is, c.as_slice.ensures.value) at (c.in_ok-judge_line.ensures.found has here.1 here.3) in
    judged_deviates has given (g.R.Read.remaining c.loop-lines.reader) (g.R.Read.remaining c.read_line_of.new.reader) here.0 here.1 bytes c.judge_line.new.answer.items c.in-Some.ending c.loop-lines.lines
    here.5 here.2 here.4 (rw c.in-Some.is at c.in_ok-ending.ensures.ok) found

pub returns-in-NoEntry : goal.returns-in-NoEntry
returns-in-NoEntry g c = λ has given start first read come standing.
    let here = c.loop-lines.invariant has given start first read come standing in
    let bytes = c.read_line_of.new.bytes.items in
    let found = rw (c.in-NoEntry.is, c.as_slice.ensures.value) at (c.in_ok-judge_line.ensures.found has here.1 here.3) in
    judged_no_entry has given (g.R.Read.remaining c.loop-lines.reader) (g.R.Read.remaining c.read_line_of.new.reader) here.0 here.1 bytes c.in-Some.ending c.loop-lines.lines
    here.5 here.2 here.4 (rw c.in-Some.is at c.in_ok-ending.ensures.ok) found

pub loop-lines-preserved : goal.loop-lines-preserved
loop-lines-preserved g c = λ has given start first read come standing.
    let here = c.loop-lines.invariant has given start first read come standing in
    let bytes = c.read_line_of.new.bytes.items in
    let line = rw (c.in-Some.is, c.in-Line.is) at c.in_ok-ending.ensures.ok in
    let found = rw (c.in-Agrees.is, c.as_slice.ensures.value) at (c.in_ok-judge_line.ensures.found has here.1 here.3) in (
      here.0 ++ (bytes ++ 10 ∷ []),
      here.1 ++ found.entry.line ∷ [],
      Consumes-more given (g.R.Read.remaining c.loop-lines.reader) (g.R.Read.remaining c.read_line_of.new.reader) here.0 (bytes ++ 10 ∷ []) here.2 line.consumed,
      found.standing,
      come_more (FastStands c.judge_line.new.answering.fast.shelf c.judge_line.new.answering.fast.engine) has here.0 here.1 bytes here.4 line.no_end found,
      lines_more c.loop-lines.lines here.1 found.entry.line here.5,
    )

pub returns : goal.returns
returns g c = λ has given start first read come standing.
    let here = c.loop-lines.invariant has given start first read come standing in
    (here.0, [], stopped has given (g.R.Read.remaining c.loop-lines.reader) (g.R.Read.remaining c.loop-lines.reader) here.0 here.1 [] here.2 here.4 (Consumes-nothing (g.R.Read.remaining c.loop-lines.reader)), refl)

pub judge_line-requires : goal.judge_line-requires
judge_line-requires g c =
    let r = c.requires in
    let here = c.loop-lines.invariant r.0 r.1 r.2 r.3 r.4 r.5 r.6 in
    (r.0, here.1, here.3)
