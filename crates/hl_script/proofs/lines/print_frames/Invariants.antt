use Rattle.std.proofs.Common.{◌≡◌, ℕ, Bool, List, ◌+◌, ◌*◌, ◌≤◌, length}
use Rattle.hl_model.specs.declared.step.Step.{Step}
use Rattle.hl_model.specs.Sizes.{Sizes}
use Rattle.hl_script.proofs.AnswerLaws.{frames_so_far}
use Rattle.hl_script.proofs.lines.print_frames.Given as goal

-- the frames so far are in the text
abbrev pub invariant-loop-f : goal.invariant-loop-f
invariant-loop-f g l = record {
  so_far : (has : ℕ → Bool) (sizes : Sizes) (A : List Step) → g.S.Stepping.stands l.stepping has sizes A → l.text.bytes ≡ frames_so_far sizes A l.f;
  end : (has : ℕ → Bool) (sizes : Sizes) (A : List Step) → g.S.Stepping.stands l.stepping has sizes A → l.f-end ≡ sizes.frames;
  most : l.f-end ≤ 256;
  short : length l.text.bytes ≤ 6 + 29 * l.f;
}
