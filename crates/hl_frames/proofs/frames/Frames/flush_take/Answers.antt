use Rattle.std.proofs.Common.{◌≡◌, ◌∙◌, ◌%◌, ◌+◌, ◌<◌, ◌≤◌, ap, ℕ, length, arith, true, false, Some, inl, inr, sym, length-set}
use Rattle.std.specs.Prelude.{slice_set}
use Rattle.std.proofs.lemmas.Bool.{cases_lt}
use Rattle.hl_model.specs.declared.frame.Held.{Held}
use Rattle.hl_frames.specs.Pages.{Pages, held_for, is_flushed, is_unflushed, next_to_flush}
use Rattle.hl_frames.specs.IsFrames.{page_in, IsFrames}
use Rattle.hl_frames.specs.Answers.{flush_begun}
use Rattle.hl_frames.specs.Kept.{pages_of, AreStored}
use Rattle.hl_frames.proofs.PageLaws.{within, IsFrames-flush_begun, next_to_flush-found, unflushed-lies}
use Rattle.hl_frames.proofs.MarkLaws.{next-unflushed}
use Rattle.hl_frames.proofs.KeptLaws.{row-changed, still-placed, stored-begun, found-least, number_fits}
use Rattle.hl_frames.proofs.CounterLaws.{counts-begun}
use Rattle.hl_frames.proofs.frames.Frames.flush_take.Goals as goal

-- the page is found
found : (c : goal.After-len) → next_to_flush c.args.sro (pages_of c.self.inside) ≡ Some c.in-Some.page
found c = rw (← c.self.view_is) at (sym c.in-Some.ensures.page)

-- it is entered
entered : (c : goal.After-len) → c.in-Some.page < c.self.inside.entered
entered c =
    let sealed = rw (← c.self.view_is) at c.requires in
    omega (arith, sealed, (next_to_flush-found (pages_of c.self.inside) c.args.sro c.in-Some.page (found c)).1)

-- it isn't flushed
unflushed : (c : goal.After-len) → is_flushed c.in-Some.page (pages_of c.self.inside) ≡ false
unflushed c = (next_to_flush-found (pages_of c.self.inside) c.args.sro c.in-Some.page (found c)).0

-- it lies in its frame
lies : (c : goal.After-len) → page_in (held_for c.in-Some.page (pages_of c.self.inside)) ≡ Some c.in-Some.page
lies c = unflushed-lies (pages_of c.self.inside) c.in-Some.page c.self.invariant.pages (entered c) (unflushed c)

-- it is the stored one
stored-is : (c : goal.After-len) → c.self.inside.to_flush.page ≡ c.in-Some.page
stored-is c =
    let T = pages_of c.self.inside in
    let kept = c.self.invariant in
    found-least T (is_unflushed T) c.self.inside.to_flush.page c.in-Some.page c.args.sro kept.pages kept.stored.unflushed (found c)

-- its frame is kept
placed : (c : goal.After-len) → c.self.inside.to_flush.frame ≡ c.in-Some.page % length c.self.inside.held.items
placed c = rw (stored-is c) at c.self.invariant.to_flush_placed

-- what was known when the next page was asked for
abbrev before_walk : goal.After-deref → goal.After-len
before_walk c = c.before.before.before

pub skip_taken-self-inside-requires-clause-order : goal.skip_taken-self-inside-requires-clause-order
skip_taken-self-inside-requires-clause-order c = omega (arith, entered (before_walk c), stored-is (before_walk c), c.next-next.ensures.page)

pub next-next-requires-clause-room : goal.next-next-requires-clause-room
next-next-requires-clause-room c =
    let below = entered c in
    (omega (arith, stored-is c, number_fits (pages_of c.self.inside) c.in-Some.page c.self.invariant.pages (omega arith)), omega (arith, c.len.ensures, c.self.invariant.pages.frames_most))

-- the row after the take
row : (c : goal.After-len) → slice_set c.self.inside.held.items c.self.inside.to_flush.frame c.begin_flush.new.held ≡ (flush_begun c.in-Some.page (pages_of c.self.inside)).frames
row c =
    let change = λ (held : Held). record held { in_flight = true } in
    let there = rw (← placed c) at (within (pages_of c.self.inside) c.in-Some.page c.self.invariant.pages) in
    row-changed (pages_of c.self.inside) c.in-Some.page c.self.inside.to_flush.frame c.index_mut.result.now c.begin_flush.new.held change (placed c) there c.index_mut.ensures.value
    c.begin_flush.ensures

-- the pages are those of frames
known : (c : goal.After-len) → IsFrames (flush_begun c.in-Some.page (pages_of c.self.inside))
known c = IsFrames-flush_begun (pages_of c.self.inside) c.in-Some.page c.self.invariant.pages (lies c) (unflushed c)

abbrev at_len : goal.After-self-2-1 → goal.After-len
at_len c = before_walk c.before.before

pub invariant_of-self : goal.invariant_of-self
invariant_of-self c =
    let a = c.self.inside in
    let T = pages_of a in
    let kept = c.self.invariant in
    let page = c.in-Some.page in
    let next = c.skip_taken-self-inside.result in
    let walk = c.skip_taken-self-inside.ensures in
    let here = at_len c in
    let row_is = c.deref.ensures.value ∙ row here in
    let from : c.next-next.result.page ≡ page + 1 = omega (arith, c.next-next.ensures.page, stored-is here) in
    let taken = rw row_is at walk.taken in
    let between = λ (k : ℕ) (after : page + 1 ≤ k) (below : k < next.page). taken k (omega arith) below in
    let waits : is_unflushed (flush_begun page T) next.page ≡ true = elim (cases_lt next.page a.entered) [
      | inl below ↦ rw row_is at (walk.stops below)
      | inr past ↦ let last : next.page ≡ a.entered = omega (arith, walk.most) in rw last (next-unflushed (flush_begun page T) (known here))
    ] in
    let first : AreStored T a.run.page page a.to_clean.page = rw (stored-is here) at kept.stored in
    record {
      pages = rw (row here) (known here);
      stored = rw (row here) (stored-begun T a.run.page page next.page a.to_clean.page kept.pages first (lies here) between waits);
      counts = rw (row here) (counts-begun T page a.flushed a.freed kept.pages kept.counts);
      run_placed = still-placed a.run a.held.items _ kept.run_placed (length-set _ _ _);
      to_flush_placed = rw c.deref.ensures.value at walk.placed;
      to_clean_placed = still-placed a.to_clean a.held.items _ kept.to_clean_placed (length-set _ _ _);
      room = kept.room ∙ sym (length-set _ _ _);
      turns = rw length-set kept.turns;
    }

pub returns-clause-valid : goal.returns-clause-valid
returns-clause-valid c = rw (row (at_len c)) (known (at_len c))

pub returns-clause-pages : goal.returns-clause-pages
returns-clause-pages c =
    rw (← c.self.view_is, found (at_len c)) (ap {B = Pages} (λ frames. record { page_size = c.self.inside.page_size; frames = frames; entered = c.self.inside.entered }) (row (at_len c)))
