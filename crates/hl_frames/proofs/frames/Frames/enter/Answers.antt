use Rattle.std.proofs.Common.{◌≡◌, ◌∙◌, arith, true, refl, sym, length-set}
use Rattle.std.specs.Prelude.{slice_set}
use Rattle.hl_frames.specs.Pages.{may_enter}
use Rattle.hl_frames.specs.IsFrames.{IsFrames}
use Rattle.hl_frames.specs.Answers.{entered}
use Rattle.hl_frames.specs.Kept.{pages_of}
use Rattle.hl_frames.proofs.PageLaws.{IsFrames-entered}
use Rattle.hl_frames.proofs.KeptLaws.{still-placed, stored-entered}
use Rattle.hl_frames.proofs.CounterLaws.{counts-entered}
use Rattle.hl_frames.proofs.frames.Frames.enter.Goals as goal

-- the page may be entered
free : (c : goal.After-self-3-1) → may_enter c.args.page (pages_of c.self.inside) ≡ true
free c = rw (← c.self.view_is) at (sym c.is_free.ensures.free ∙ c.if-not-is_free.false)

-- the row after the page is entered
row : (c : goal.After-self-3-1) → slice_set c.self.inside.held.items c.frame_of-frame.result c.begin_page.new.held ≡ (entered c.args.page (pages_of c.self.inside)).frames
row c =
    let place = rw (← c.self.view_is) at c.frame_of-frame.ensures.frame in
    rw (c.begin_page.ensures.held, place) refl

-- the pages are those of frames
known : (c : goal.After-self-3-1) → IsFrames (entered c.args.page (pages_of c.self.inside))
known c =
    let next = rw (← c.self.view_is) at c.requires.next in
    let space = rw (← c.self.view_is) at c.requires.within_space in
    IsFrames-entered (pages_of c.self.inside) c.args.page c.self.invariant.pages next space

pub invariant_of-self : goal.invariant_of-self
invariant_of-self c =
    let a = c.self.inside in
    let kept = c.self.invariant in
    let next = rw (← c.self.view_is) at c.requires.next in
    record {
      pages = rw (row c) (known c);
      stored = rw (row c) (stored-entered (pages_of a) c.args.page a.run.page a.to_flush.page a.to_clean.page kept.pages next (free c) (known c) kept.stored);
      counts = rw (row c) (counts-entered (pages_of a) c.args.page a.flushed a.freed kept.pages next (free c) kept.counts);
      run_placed = still-placed a.run a.held.items _ kept.run_placed (length-set _ _ _);
      to_flush_placed = still-placed a.to_flush a.held.items _ kept.to_flush_placed (length-set _ _ _);
      to_clean_placed = still-placed a.to_clean a.held.items _ kept.to_clean_placed (length-set _ _ _);
      room = kept.room ∙ sym (length-set _ _ _);
      turns = rw length-set (record { enter = omega (arith, c.begin_page.ensures.turns); flush_done = kept.turns.flush_done; clean_done = kept.turns.clean_done });
    }

pub returns-clause-valid : goal.returns-clause-valid
returns-clause-valid c = rw (row c) (known c)
