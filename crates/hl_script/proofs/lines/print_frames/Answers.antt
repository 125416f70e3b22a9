use Rattle.std.proofs.Common.{rules, ◌++◌, sym, ap, ap₂, ◌∙◌, arith}
use Rattle.hl_script.specs.Answers.{frame_text, frames_text}
use Rattle.hl_script.proofs.AnswerLaws.{frames_so_far, frames-more}
use Rattle.hl_script.proofs.lines.print_frames.Goals as goal

pub loop-f-preserved : goal.loop-f-preserved
loop-f-preserved g c = record {
  so_far = λ has sizes A standing.
      c.add_frame.ensures.bytes
      ∙ ap₂ (λ x y. x ++ frame_text y) (c.loop-f.invariant.so_far has sizes A standing) (c.frame-state.ensures has sizes A standing)
      ∙ sym (frames-more sizes A c.loop-f.f);
  end = c.loop-f.invariant.end;
  most = c.loop-f.invariant.most;
  short = omega (arith, c.add_frame.ensures.short, c.loop-f.invariant.short);
}

pub returns : goal.returns
unfolding frames_text
returns g c = λ has sizes A standing.
    c.loop-f.invariant.so_far has sizes A standing
    ∙ ap (frames_so_far sizes A) (omega (arith, c.loop-f-test.false, c.loop-f.invariant.end has sizes A standing))

pub loop-f-init : goal.loop-f-init
loop-f-init g c = search rules
