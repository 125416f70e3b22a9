use Rattle.std.proofs.Common.{arith, ◌∙◌, ◌≤◌}
use Rattle.hl_frames.specs.Pages.{is_uncleaned}
use Rattle.hl_frames.specs.Kept.{pages_of}
use Rattle.hl_frames.proofs.KeptLaws.{least-found, end_fits, number_fits, least-below, first-least}
use Rattle.hl_frames.proofs.MarkLaws.{next-uncleaned}
use Rattle.hl_frames.proofs.frames.Frames.next_to_clean.Goals as goal

-- the stored page is entered, or the next
most : (c : goal.After-self) → c.self.inside.to_clean.page ≤ c.self.inside.entered
most c =
    let kept = c.self.invariant in
    least-below (is_uncleaned (pages_of c.self.inside)) c.self.inside.to_clean.page c.self.inside.entered (next-uncleaned (pages_of c.self.inside) kept.pages) (first-least (is_uncleaned (pages_of c.self.inside)) c.self.inside.to_clean.page kept.stored.uncleaned)

pub overflow_add-end : goal.overflow_add-end
overflow_add-end c = omega (arith, number_fits (pages_of c.self.inside) c.self.inside.to_clean.page c.self.invariant.pages (most c))

pub overflow_mul-end : goal.overflow_mul-end
overflow_mul-end c = omega (arith, end_fits (pages_of c.self.inside) c.self.inside.to_clean.page c.self.invariant.pages (most c))

pub returns-clause-page : goal.returns-clause-page
returns-clause-page c =
    rw (← c.self.view_is)
    (c.then_some.ensures ∙ least-found (pages_of c.self.inside) (is_uncleaned (pages_of c.self.inside)) c.self.inside.to_clean.page c.args.closed c.self.invariant.pages (first-least (is_uncleaned (pages_of c.self.inside)) c.self.inside.to_clean.page c.self.invariant.stored.uncleaned))
