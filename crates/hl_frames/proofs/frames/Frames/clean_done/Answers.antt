use Rattle.std.proofs.Common.{◌≡◌, ◌∙◌, arith, true, false, sym, length-set}
use Rattle.std.specs.Prelude.{slice_set}
use Rattle.std.proofs.lemmas.Grind.{common_steps}
use Rattle.hl_model.specs.declared.frame.Held.{Held}
use Rattle.hl_frames.specs.Pages.{is_cleaning}
use Rattle.hl_frames.specs.IsFrames.{IsFrames}
use Rattle.hl_frames.specs.Answers.{clean_ended}
use Rattle.hl_frames.specs.Kept.{pages_of}
use Rattle.hl_frames.proofs.PageLaws.{IsFrames-clean_ended}
use Rattle.hl_frames.proofs.KeptLaws.{number_fits, held-read, row-changed, still-placed, stored-clean_ended}
use Rattle.hl_frames.proofs.CounterLaws.{counts-fit, counts-clean_ended}
use Rattle.hl_frames.proofs.frames.Frames.clean_done.Goals as goal

-- the page is being cleaned
cleans : (c : goal.After-self-3-1) → is_cleaning c.args.page (pages_of c.self.inside) ≡ true
cleans c =
    let place = rw (← c.self.view_is) at c.frame_of-frame.ensures.frame in
    let within = rw (← c.self.view_is) at c.frame_of-frame.ensures.within in
    rw (held-read (pages_of c.self.inside) c.args.page c.frame_of-frame.result c.index.result.now place within c.index.ensures) at (sym c.is_cleaning.ensures ∙ c.if-not-is_cleaning.false)

-- the row after the done
row : (c : goal.After-self-3-1) → slice_set c.self.inside.held.items c.frame_of-frame.result c.end_cleaning.new.held ≡ (clean_ended c.args.page (pages_of c.self.inside)).frames
row c =
    let change = λ (held : Held). record held { cleaning = false; freed = true } in
    let place = rw (← c.self.view_is) at c.frame_of-frame.ensures.frame in
    let within = rw (← c.self.view_is) at c.frame_of-frame.ensures.within in
    row-changed (pages_of c.self.inside) c.args.page c.frame_of-frame.result c.index_mut.result.now c.end_cleaning.new.held change place within c.index_mut.ensures.value
    c.end_cleaning.ensures.held

-- they are pages of frames
known : (c : goal.After-self-3-1) → IsFrames (clean_ended c.args.page (pages_of c.self.inside))
known c = IsFrames-clean_ended (pages_of c.self.inside) c.args.page c.self.invariant.pages (cleans c)

pub invariant_of-self : goal.invariant_of-self
invariant_of-self c =
    let a = c.self.inside in
    let kept = c.self.invariant in
    record {
      pages = rw (row c) (known c);
      stored = rw (row c) (stored-clean_ended (pages_of a) c.args.page a.run.page a.to_flush.page a.to_clean.page kept.pages (cleans c) kept.stored);
      counts = rw (row c) (counts-clean_ended (pages_of a) c.args.page a.flushed a.freed kept.pages (cleans c) kept.counts);
      run_placed = still-placed a.run a.held.items _ kept.run_placed (length-set _ _ _);
      to_flush_placed = still-placed a.to_flush a.held.items _ kept.to_flush_placed (length-set _ _ _);
      to_clean_placed = still-placed a.to_clean a.held.items _ kept.to_clean_placed (length-set _ _ _);
      room = kept.room ∙ sym (length-set _ _ _);
      turns = rw length-set (record { enter = kept.turns.enter; flush_done = kept.turns.flush_done; clean_done = omega arith });
    }

pub returns-clause-valid : goal.returns-clause-valid
returns-clause-valid c = rw (row c) (known c)

pub returns-clause-answer : goal.returns-clause-answer
returns-clause-answer c = grind (arith, common_steps)

pub returns-clause-pages : goal.returns-clause-pages
returns-clause-pages c = grind (arith, common_steps)

pub overflow_add-self : goal.overflow_add-self
overflow_add-self c =
    let a = c.self.inside in
    let kept = c.self.invariant in
    omega (arith, number_fits (pages_of a) a.freed kept.pages (counts-fit (pages_of a) a.flushed a.freed kept.counts).1)
