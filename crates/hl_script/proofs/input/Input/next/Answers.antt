use Rattle.std.proofs.Common.{[], ◌∷◌, ◌++◌, take, refl, sym, ap, ◌∙◌, inl, subst}
use Rattle.hl_line.specs.Lines.{spelling}
use Rattle.hl_line.proofs.Reading.{line_of-only}
use Rattle.hl_script.specs.Input.{HasRead}
use Rattle.hl_script.proofs.InputLaws.{HasRead-take, spelling-no_end}
use Rattle.hl_script.proofs.input.Input.next.Goals as goal

pub returns-in-Some-clause-next : goal.returns-in-Some-clause-next
returns-in-Some-clause-next g c = λ reads given done read.
    let line = c.read_front.new.line in
    let raw = spelling line in
    let fits = c.in-Some.ensures.line.0 in
    let left = g.R.Read.remaining c.args.reader.now in
    let front = c.in-Some.ensures.line.1 ∙ ap (take c.in-Some.count) c.shown.ensures.value in
    record {
      raw = raw;
      spells = line_of-only raw line fits refl;
      no_end = spelling-no_end line fits;
      passed = inl (subst (λ input. HasRead reads given left input (done ++ (raw ++ 10 ∷ []))) (sym c.take.ensures)
          (HasRead-take reads given left c.args.self.now done (raw ++ 10 ∷ []) c.in-Some.count read front));
    }
