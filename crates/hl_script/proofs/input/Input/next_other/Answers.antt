use Rattle.std.proofs.Common.{sym, ap, ◌∙◌}
use Rattle.std.proofs.lemmas.Result.{err_from_is_err_and}
use Rattle.hl_line.specs.Reading.{line_of}
use Rattle.hl_script.proofs.input.Input.next_other.Goals as goal

pub returns-in_err-take_line-clause-next : goal.returns-in_err-take_line-clause-next
returns-in_err-take_line-clause-next g c = λ reads given done read.
    let p = err_from_is_err_and c.from_residual.result c.from_residual.ensures.1 in
    let taken = c.in_err-take_line.ensures.taken reads given done read in
    rw (p.1, p.2) (taken.0, c.take_line.new.bytes.items, taken.1)

pub returns-in-Some-clause-next : goal.returns-in-Some-clause-next
returns-in-Some-clause-next g c = λ reads given done read.
    let taken = c.in_ok-take_line.ensures.taken reads given done read in
    record {
      raw = c.take_line.new.bytes.items;
      spells = sym (c.read_line.ensures.exact ∙ ap line_of c.as_slice.ensures.value) ∙ c.in-Some.is;
      no_end = taken.0;
      passed = taken.1;
    }

pub returns-in-None-clause-next : goal.returns-in-None-clause-next
returns-in-None-clause-next g c = λ reads given done read.
    let taken = c.in_ok-take_line.ensures.taken reads given done read in
    record {
      raw = c.take_line.new.bytes.items;
      spells = sym (c.read_line.ensures.exact ∙ ap line_of c.as_slice.ensures.value) ∙ c.in-None.is;
      no_end = taken.0;
      passed = taken.1;
    }
