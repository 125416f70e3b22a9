use Rattle.std.proofs.Common.{arith}
use Rattle.hl_frames.specs.Kept.{pages_of}
use Rattle.hl_frames.proofs.PageLaws.{offset_within}
use Rattle.hl_frames.proofs.frames.Frames.flushed_until.Goals as goal

pub overflow_mul-result : goal.overflow_mul-result
overflow_mul-result c =
    let kept = c.self.invariant in
    rw kept.stored.flushed (omega (arith, offset_within (pages_of c.self.inside) kept.pages))
