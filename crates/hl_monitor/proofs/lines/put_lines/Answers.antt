use Rattle.std.proofs.Common.{rules, ◌+◌, ◌++◌, drop, ap, ◌∙◌}
use Rattle.hl_line.proofs.Growing.{Grows-part, BreaksOff-part}
use Rattle.hl_monitor.specs.Reports.{lines_of}
use Rattle.hl_monitor.proofs.Labels.{lines_of-drop, lines_of-some, label_at}
use Rattle.hl_monitor.proofs.lines.put_lines.Goals as goal

pub line-requires : goal.line-requires
line-requires g c = label_at c.args.lines.now c.loop-label.label-index _ c.requires c.loop-label-test.true

pub returns-in_err-put-in-Ok-clause-left : goal.returns-in_err-put-in-Ok-clause-left
returns-in_err-put-in-Ok-clause-left g c =
    let lines = c.args.lines.now in
    let i = c.loop-label.label-index in
    let is = c.as_bytes.ensures.value ∙ c.as_str.ensures.value ∙ c.in-Ok.ensures in
    let joined = ap (λ line. line ++ lines_of (drop (i + 1) lines)) is ∙ lines_of-drop lines i _ c.loop-label-test.true in
    search (rules, BreaksOff-part _ _ _ _ _ _ _ c.loop-label.invariant joined c.in_err-put-in-Ok.ensures.left)

pub returns-in-Err-clause-left : goal.returns-in-Err-clause-left
returns-in-Err-clause-left g c = record {
  written = c.loop-label.invariant.written;
  missing = lines_of (drop c.loop-label.label-index c.args.lines.now);
  is_missing = lines_of-some c.args.lines.now c.loop-label.label-index c.loop-label-test.true;
  both = c.loop-label.invariant.both;
  grown = c.loop-label.invariant.grown;
}

pub loop-label-preserved : goal.loop-label-preserved
loop-label-preserved g c =
    let lines = c.args.lines.now in
    let i = c.loop-label.label-index in
    let is = c.as_bytes.ensures.value ∙ c.as_str.ensures.value ∙ c.in-Ok.ensures in
    let joined = ap (λ line. line ++ lines_of (drop (i + 1) lines)) is ∙ lines_of-drop lines i _ c.loop-label-test.true in
    Grows-part _ _ _ _ _ _ _ c.loop-label.invariant c.in_ok-put-in-Ok.ensures.ok joined
