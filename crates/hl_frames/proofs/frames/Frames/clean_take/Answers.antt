use Rattle.std.proofs.Common.{◌≡◌, ◌∙◌, ◌%◌, ◌+◌, ◌<◌, ap, subst, ℕ, length, arith, true, false, Some, sym, length-set}
use Rattle.std.specs.Prelude.{slice_set}
use Rattle.hl_model.specs.declared.frame.Held.{Held}
use Rattle.hl_frames.specs.Pages.{Pages, held_for, is_flushed, is_freed, is_uncleaned, next_to_clean}
use Rattle.hl_frames.specs.IsFrames.{page_in, IsFrames}
use Rattle.hl_frames.specs.Answers.{clean_begun}
use Rattle.hl_frames.specs.Kept.{pages_of, AreStored}
use Rattle.hl_frames.proofs.PageLaws.{within, IsFrames-clean_begun, next_to_clean-found, closed-flushed, unfreed-lies}
use Rattle.hl_frames.proofs.KeptLaws.{row-changed, still-placed, stored-clean_begun, found-least, first-least, number_fits}
use Rattle.hl_frames.proofs.CounterLaws.{counts-clean_begun}
use Rattle.hl_frames.proofs.frames.Frames.clean_take.Goals as goal

-- the page is found
found : (c : goal.After-len) → next_to_clean c.args.closed (pages_of c.self.inside) ≡ Some c.in-Some.page
found c = rw (← c.self.view_is) at (sym c.in-Some.ensures.page)

-- it is entered and flushed
flushed : (c : goal.After-len) → (is_flushed c.in-Some.page (pages_of c.self.inside) ≡ true) × (c.in-Some.page < c.self.inside.entered)
flushed c =
    let closed = rw (← c.self.view_is) at c.requires in
    closed-flushed (pages_of c.self.inside) c.args.closed c.in-Some.page c.self.invariant.pages closed (next_to_clean-found (pages_of c.self.inside) c.args.closed c.in-Some.page (found c)).1

-- it isn't freed
unfreed : (c : goal.After-len) → is_freed c.in-Some.page (pages_of c.self.inside) ≡ false
unfreed c = (next_to_clean-found (pages_of c.self.inside) c.args.closed c.in-Some.page (found c)).0

-- it lies in its frame
lies : (c : goal.After-len) → page_in (held_for c.in-Some.page (pages_of c.self.inside)) ≡ Some c.in-Some.page
lies c = unfreed-lies (pages_of c.self.inside) c.in-Some.page c.self.invariant.pages (flushed c).1 (unfreed c)

-- it is the stored one
stored-is : (c : goal.After-len) → c.self.inside.to_clean.page ≡ c.in-Some.page
stored-is c =
    let T = pages_of c.self.inside in
    let kept = c.self.invariant in
    found-least T (is_uncleaned T) c.self.inside.to_clean.page c.in-Some.page c.args.closed kept.pages (first-least (is_uncleaned T) c.self.inside.to_clean.page kept.stored.uncleaned) (found c)

-- its frame is kept
placed : (c : goal.After-len) → c.self.inside.to_clean.frame ≡ c.in-Some.page % length c.self.inside.held.items
placed c = rw (stored-is c) at c.self.invariant.to_clean_placed

pub next-self-inside-requires-clause-room : goal.next-self-inside-requires-clause-room
next-self-inside-requires-clause-room c =
    let entered = (flushed c).1 in
    (omega (arith, stored-is c, number_fits (pages_of c.self.inside) c.in-Some.page c.self.invariant.pages (omega arith)), omega (arith, c.len.ensures, c.self.invariant.pages.frames_most))

-- the row after the take
row : (c : goal.After-len) → slice_set c.self.inside.held.items c.self.inside.to_clean.frame c.begin_cleaning.new.held ≡ (clean_begun c.in-Some.page (pages_of c.self.inside)).frames
row c =
    let change = λ (held : Held). record held { cleaning = true } in
    let there = rw (← placed c) at (within (pages_of c.self.inside) c.in-Some.page c.self.invariant.pages) in
    row-changed (pages_of c.self.inside) c.in-Some.page c.self.inside.to_clean.frame c.index_mut.result.now c.begin_cleaning.new.held change (placed c) there c.index_mut.ensures.value
    c.begin_cleaning.ensures

-- the pages are those of frames
known : (c : goal.After-len) → IsFrames (clean_begun c.in-Some.page (pages_of c.self.inside))
known c = IsFrames-clean_begun (pages_of c.self.inside) c.in-Some.page c.self.invariant.pages (lies c) (flushed c).0 (unfreed c)

-- what was known when the next page was asked for
abbrev at_len : goal.After-self-2-1 → goal.After-len
at_len c = c.before.before

pub invariant_of-self : goal.invariant_of-self
invariant_of-self c =
    let a = c.self.inside in
    let kept = c.self.invariant in
    let here = at_len c in
    let next = c.next-self-inside.ensures in
    let first : AreStored (pages_of a) a.run.page a.to_flush.page c.in-Some.page = rw (stored-is here) at kept.stored in
    let begun = stored-clean_begun (pages_of a) a.run.page a.to_flush.page c.in-Some.page kept.pages (known here) first (lies here) in
    let is : c.in-Some.page + 1 ≡ c.next-self-inside.result.page = omega (arith, stored-is here, next.page) in
    let len : c.len.result ≡ length a.held.items = omega (arith, c.len.ensures) in
    record {
      pages = rw (row here) (known here);
      stored = rw (row here) (subst (λ (n : ℕ). AreStored (clean_begun c.in-Some.page (pages_of a)) a.run.page a.to_flush.page n) is begun);
      counts = rw (row here) (counts-clean_begun (pages_of a) c.in-Some.page a.flushed a.freed kept.pages kept.counts);
      run_placed = still-placed a.run a.held.items _ kept.run_placed (length-set _ _ _);
      to_flush_placed = still-placed a.to_flush a.held.items _ kept.to_flush_placed (length-set _ _ _);
      to_clean_placed = still-placed c.next-self-inside.result a.held.items _ (next.frame ∙ ap (λ n. (a.to_clean.page + 1) % n) len ∙ ap (λ q. q % length a.held.items) (sym next.page)) (length-set _ _ _);
      room = kept.room ∙ sym (length-set _ _ _);
      turns = rw length-set kept.turns;
    }

pub returns-clause-valid : goal.returns-clause-valid
returns-clause-valid c = rw (row (at_len c)) (known (at_len c))

pub returns-clause-pages : goal.returns-clause-pages
returns-clause-pages c =
    rw (← c.self.view_is, found (at_len c)) (ap {B = Pages} (λ frames. record { page_size = c.self.inside.page_size; frames = frames; entered = c.self.inside.entered }) (row (at_len c)))
