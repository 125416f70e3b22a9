use Rattle.std.proofs.Common.{◌<◌, ◌∙◌, ◌||◌, ap, length, rules, ne_eqb, get_or}
use Rattle.std.proofs.lemmas.List.Folds.{list_any_more}
use Rattle.hl_script.specs.Interpreter.{is_end}
use Rattle.hl_judge.proofs.reading.line_length.Goals as goal

pub loop-at-preserved : goal.loop-at-preserved
loop-at-preserved c =
    let bytes = c.args.bytes.now in
    let i = c.loop-at.at in
    let within : i < length bytes = search rules in
    list_any_more is_end bytes i 0 within ∙ ap (λ b. b || is_end (get_or bytes i 0)) c.loop-at.invariant ∙ ne_eqb (get_or bytes i 0) 10 c.if-bytes-at-eq10.false
