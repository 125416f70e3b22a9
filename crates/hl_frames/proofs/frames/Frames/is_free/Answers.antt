use Rattle.std.proofs.Common.{◌≡◌, ◌-◌, ◌%◌, length, ap, ◌∙◌, arith}
use Rattle.hl_frames.specs.Pages.{left_or_marked}
use Rattle.hl_frames.specs.Kept.{pages_of}
use Rattle.hl_frames.proofs.PageLaws.{within}
use Rattle.hl_frames.proofs.KeptLaws.{may_enter-read}
use Rattle.hl_frames.proofs.frames.Frames.is_free.Goals as goal

pub returns-else-page-frames-clause-free : goal.returns-else-page-frames-clause-free
returns-else-page-frames-clause-free c =
    let T = pages_of c.self.inside in
    let frame : c.args.frame ≡ c.args.page % length T.frames = rw (← c.self.view_is) at c.requires in
    let there = rw (← frame) at (within T c.args.page c.self.invariant.pages) in
    let free = may_enter-read T c.args.page c.args.frame c.index.result.now frame there c.index.ensures (omega arith) in
    let len : c.len-frames.result ≡ length T.frames = omega (arith, c.len-frames.ensures) in
    rw (← c.self.view_is) (c.is_freed.ensures ∙ ap (λ n. left_or_marked (λ held. held.freed) (c.args.page - n) c.index.result.now) len ∙ free)
