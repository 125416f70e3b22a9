use mir.Val.{bool_byte}
use Rattle.std.proofs.Common.{rules, refl, Bool, ◌≡◌, ◌∙◌, ◌+◌, ◌-◌, cond, ltb, ap₂, subst, length, ◌*◌, ◌≤◌, ℕ, Ok, arith, true, false, sym, ap, length-set}
use Rattle.std.specs.Prelude.{slice_set}
use Rattle.hl_model.specs.declared.frame.Held.{Held}
use Rattle.hl_frames.specs.Pages.{is_in_flight, flushed_run, flushed_offset}
use Rattle.hl_frames.specs.IsFrames.{IsFrames}
use Rattle.hl_frames.specs.Counted.{walked}
use Rattle.hl_frames.specs.Answers.{flush_ended}
use Rattle.std.specs.Vec.{with_item}
use Rattle.std.proofs.lemmas.Grind.{common_steps}
use Rattle.hl_frames.specs.declared.placed.Placed.{Placed}
use Rattle.hl_frames.specs.Row.{HasFrame}
use Rattle.hl_frames.specs.declared.turns.Turns.{Turns}
use Rattle.hl_frames.specs.Kept.{pages_of, AreStored, IsKept}
use Rattle.hl_frames.proofs.PageLaws.{IsFrames-flush_ended, run_within}
use Rattle.hl_frames.proofs.MarkLaws.{flushed-ended_kept}
use Rattle.hl_frames.proofs.KeptLaws.{number_fits, held-read, still-placed, row-changed, run-walked, run-recent, stored-ended_ok, stored-ended_failed}
use Rattle.hl_frames.proofs.CounterLaws.{counts-fit, counts-ended}
use Rattle.hl_frames.proofs.frames.Frames.flush_done.Goals as goal
use Rattle.hl_frames.proofs.frames.Frames.flush_done.Goals.{then-not-ok, else-not-ok}

pub returns-clause-pages : goal.returns-clause-pages
returns-clause-pages c = grind (arith, common_steps)

-- the page is in flight
flies : (c : goal.After-skip_flushed-arg-1) → is_in_flight c.args.page (pages_of c.self.inside) ≡ true
flies c =
    let place = rw (← c.self.view_is) at c.frame_of-frame.ensures.frame in
    let within = rw (← c.self.view_is) at c.frame_of-frame.ensures.within in
    rw (held-read (pages_of c.self.inside) c.args.page c.frame_of-frame.result c.index.result.now place within c.index.ensures) at (sym c.is_in_flight.ensures ∙ c.if-not-is_in_flight.false)

-- the row after the done
row : (c : goal.After-skip_flushed-arg-1) → slice_set c.self.inside.held.items c.frame_of-frame.result c.end_flush.new.held ≡ (flush_ended c.args.page c.args.ok (pages_of c.self.inside)).frames
row c =
    let change = λ (held : Held). record held { in_flight = false; flushed = c.args.ok } in
    let place = rw (← c.self.view_is) at c.frame_of-frame.ensures.frame in
    let within = rw (← c.self.view_is) at c.frame_of-frame.ensures.within in
    row-changed (pages_of c.self.inside) c.args.page c.frame_of-frame.result c.index_mut.result.now c.end_flush.new.held change place within c.index_mut.ensures.value
    c.end_flush.ensures.held

-- the pages are those of frames
known : (c : goal.After-skip_flushed-arg-1) → IsFrames (flush_ended c.args.page c.args.ok (pages_of c.self.inside))
known c = IsFrames-flush_ended (pages_of c.self.inside) c.args.page c.args.ok c.self.invariant.pages (flies c)

pub skip_flushed-walk-requires-clause-order : goal.skip_flushed-walk-requires-clause-order
skip_flushed-walk-requires-clause-order c = omega (arith, c.self.invariant.stored.flushed, run_within (pages_of c.self.inside))

-- the walk is over the row after the done
row_walked : (c : goal.After-skip_flushed-arg-1) → c.deref.result.now ≡ (flush_ended c.args.page c.args.ok (pages_of c.self.inside)).frames
row_walked c = c.deref.ensures.value ∙ row c

-- what was known when the walk began
abbrev at_deref : goal.Joined-not-ok → goal.After-skip_flushed-arg-1
at_deref c = c.before.before.before.before.before.before

-- the run is moved to where it ends now
moved : (c : goal.Joined-not-ok) → c.skip_flushed-walk.result.at.page ≡ flushed_run (flush_ended c.args.page c.args.ok (pages_of c.self.inside))
moved c =
    let T = pages_of c.self.inside in
    let T' = flush_ended c.args.page c.args.ok T in
    let here = at_deref c in
    let kept = c.self.invariant in
    let walk = c.skip_flushed-walk.ensures in
    run-walked T T' c.self.inside.run.page c.skip_flushed-walk.result.at.page (known here) kept.stored.flushed
    (λ q flushed. flushed-ended_kept T c.args.page q c.args.ok kept.pages (flies here) flushed)
    (rw (row_walked here) at walk.flushed) (rw (row_walked here) at walk.stops) walk.most

-- the walk's turns are those that the pages tell
turns_are : (c : goal.Joined-not-ok) → c.skip_flushed-walk.result.turns ≡ walked (pages_of c.self.inside) (flush_ended c.args.page c.args.ok (pages_of c.self.inside))
turns_are c =
    let at : ℕ = c.skip_flushed-walk.result.at.page in
    let end : ℕ = c.self.inside.entered in
    let walk = c.skip_flushed-walk.ensures in
    let each : c.skip_flushed-walk.result.turns ≡ (at - c.self.inside.run.page) + cond (ltb at end) 1 0 = omega (arith, walk.each_once, walk.least) in
    each ∙ ap₂ (λ (r s : ℕ). (r - s) + cond (ltb r end) 1 0) (moved c) c.self.invariant.stored.flushed

-- a flush that ended well counts once
one-where : (ok : Bool) → bool_byte ok ≡ cond ok 1 0
one-where true = refl
one-where false = refl

at_most : (ok : Bool) → bool_byte ok ≤ 1
at_most true = omega arith
at_most false = omega arith

-- what is true of the fields with this page to be flushed next
kept_with : (c : goal.Joined-not-ok) (to_flush : Placed) → AreStored (flush_ended c.args.page c.args.ok (pages_of c.self.inside)) c.skip_flushed-walk.result.at.page to_flush.page c.self.inside.to_clean.page → HasFrame to_flush c.self.inside.held.items → IsKept (record { page_size = c.self.inside.page_size; entered = c.self.inside.entered; held = with_item c.self.inside.held c.frame_of-frame.result c.end_flush.new.held; run = c.skip_flushed-walk.result.at; to_flush = to_flush; to_clean = c.self.inside.to_clean; flushed = c.self.inside.flushed + c.from.result; freed = c.self.inside.freed; turns = record { enter = c.self.inside.turns.enter; flush_done = c.end_flush.new.turns + c.skip_flushed-walk.result.turns; clean_done = c.self.inside.turns.clean_done } })
kept_with c to_flush stored placed =
    let here = at_deref c in
    let kept = c.self.invariant in
    record {
      pages = rw (row here) (known here);
      stored = rw (row here) stored;
      counts = rw (row here) (counts-ended (pages_of c.self.inside) c.args.page c.args.ok c.self.inside.flushed c.from.result c.self.inside.freed kept.pages (flies here) (c.from.ensures ∙ one-where c.args.ok) kept.counts);
      run_placed = rw here.deref.ensures.value at c.skip_flushed-walk.ensures.placed;
      to_flush_placed = still-placed to_flush c.self.inside.held.items _ placed (length-set _ _ _);
      to_clean_placed = still-placed c.self.inside.to_clean c.self.inside.held.items _ kept.to_clean_placed (length-set _ _ _);
      room = kept.room ∙ sym (length-set _ _ _);
      turns = rw length-set (record { enter = kept.turns.enter; flush_done = omega (arith, c.end_flush.ensures.turns, c.skip_flushed-walk.ensures.turns, kept.stored.flushed, run-recent (pages_of c.self.inside) kept.pages); clean_done = kept.turns.clean_done });
    }

pub returns-clause-answer : goal.returns-clause-answer
returns-clause-answer c =
    let T' = flush_ended c.args.page c.args.ok (pages_of c.self.inside) in
    let offset : c.skip_flushed-walk.result.at.page * c.self.inside.page_size ≡ flushed_offset T' = ap (λ n. n * c.self.inside.page_size) (moved c) in
    let told : c.if-not-ok.self-inside.run.page * c.if-not-ok.self-inside.page_size ≡ flushed_offset T' = elim c.if-not-ok.branch [
      | then-not-ok w ↦ rw w.self-inside-is offset
      | else-not-ok w ↦ rw w.self-inside-is offset
    ] in
    rw (← c.self.view_is) (rw (flies (at_deref c)) (ap (λ (n : ℕ). Ok n) told))

pub invariant_of-self : goal.invariant_of-self
invariant_of-self c =
    let a = c.self.inside in
    let T = pages_of a in
    let here = at_deref c in
    let run = c.skip_flushed-walk.result.at.page in
    let own : HasFrame (record { page = c.args.page; frame = c.frame_of-frame.result }) a.held.items = rw (← c.self.view_is) at c.frame_of-frame.ensures.frame in
    elim c.if-not-ok.branch [
      | then-not-ok w ↦
          let low = w.min-self-inside.ensures in
          let least = stored-ended_failed T c.args.page c.args.ok a.run.page run a.to_flush.page a.to_clean.page c.self.invariant.pages (flies here) w.if-not-ok.true c.self.invariant.stored (moved c) in
          let stored = subst (λ (n : ℕ). AreStored (flush_ended c.args.page c.args.ok T) run n a.to_clean.page) (sym low.page) least in
          rw w.self-inside-is (kept_with c w.min-self-inside.result stored (low.placed (length a.held.items) c.self.invariant.to_flush_placed own))
      | else-not-ok w ↦ rw w.self-inside-is (kept_with c a.to_flush (stored-ended_ok T c.args.page c.args.ok a.run.page run a.to_flush.page a.to_clean.page c.self.invariant.pages (flies here) w.if-not-ok.false c.self.invariant.stored (moved c)) c.self.invariant.to_flush_placed)
    ]

pub returns-clause-valid : goal.returns-clause-valid
returns-clause-valid c =
    let here = at_deref c in
    elim c.if-not-ok.branch [
      | then-not-ok w ↦ rw w.self-inside-is (rw (row here) (known here))
      | else-not-ok w ↦ rw w.self-inside-is (rw (row here) (known here))
    ]

pub overflow_mul-result : goal.overflow_mul-result
overflow_mul-result c = search rules

pub returns-clause-turns : goal.returns-clause-turns
returns-clause-turns c =
    let T = pages_of c.self.inside in
    let before = c.self.inside.turns in
    let told = ap₂ {C = Turns} (λ (m n : ℕ). record { enter = before.enter; flush_done = m + n; clean_done = before.clean_done }) c.end_flush.ensures.turns (turns_are c) in
    rw (← c.self.view_is) (rw (flies (at_deref c)) (elim c.if-not-ok.branch [
      | then-not-ok w ↦ rw w.self-inside-is told
      | else-not-ok w ↦ rw w.self-inside-is told
    ]))

pub overflow_add-self : goal.overflow_add-self
overflow_add-self c =
    let a = c.self.inside in
    let kept = c.self.invariant in
    omega (arith, c.from.ensures, at_most c.args.ok, number_fits (pages_of a) a.flushed kept.pages (counts-fit (pages_of a) a.flushed a.freed kept.counts).0)
