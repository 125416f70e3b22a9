use Rattle.std.proofs.Common.{◌+◌, ◌∙◌, length, ap, sym, subst}
use Rattle.hl_traces.specs.Traces.{RiderTraces}
use Rattle.hl_traces.proofs.TraceLaws.{new_traces}
use Rattle.hl_crew.specs.Limited.{duty_cuts}
use Rattle.hl.proofs.OutLaws.{places_count}
use Rattle.hl.proofs.FinishLaws.{parts_new, threads_left, all_there, refused_thread, has_finished, not_finished, flush_told, flush_many, flusher_traces, not_flushed}
use Rattle.hl.specs.LastSession.{answer_of_flusher, flushed_by, one_or_none}
use Rattle.hl_keeper.specs.Endings.{EndingState}
use Rattle.hl.proofs.FlushLaws.{told_flushed}
use Rattle.hl.proofs.finished.run_in.Goals as goal

pub run_and_flush-returned-requires-clause-new : goal.run_and_flush-returned-requires-clause-new
run_and_flush-returned-requires-clause-new g c κs within = (parts_new c.args.opening.riders _ c.args.rows.last c.args.rows.flusher (sym c.requires.all)).1

pub returns-in-Err-clause-finished : goal.returns-in-Err-clause-finished
returns-in-Err-clause-finished g c =
    let rows = c.args.rows.rows in
    let left = threads_left g.row.P-Job.Denot c.args.opening (g.P.Work.returns c.args.shared.now.work.now) (g.P.Work.took c.args.shared.now.work.now) (length rows.places.items + 4) c.run_and_flush-returned.result.0.1 c.requires.log c.requires.flusher (sym c.requires.all) (sym (places_count rows.places.items rows.crew.riders)) c.run_and_flush-returned.ensures.kind (rw c.requires.cuts at c.run_and_flush-returned.ensures.left) in
    refused_thread left (duty_cuts c.args.shared.now.duty.cut_above) (g.P.Work.finishes c.args.shared.now.work.now) _ c.in-Err.fault c.in-Err.ensures

pub finish_log-requires-clause-all : goal.finish_log-requires-clause-all
finish_log-requires-clause-all g c κs within =
    let rows = c.args.rows.rows in
    let left = threads_left g.row.P-Job.Denot c.args.opening (g.P.Work.returns c.args.shared.now.work.now) (g.P.Work.took c.args.shared.now.work.now) (length rows.places.items + 4) c.run_and_flush-returned.result.0.1 c.requires.log c.requires.flusher (sym c.requires.all) (sym (places_count rows.places.items rows.crew.riders)) c.run_and_flush-returned.ensures.kind (rw c.requires.cuts at c.run_and_flush-returned.ensures.left) in
    all_there left (one_or_none c.part_flusher-answer.result.1) (rw c.part_flusher-answer.ensures.rider (flush_many left _ _ c.in-Ok-flusher_of.flusher (rw c.requires.cuts at c.run_and_flush-returned.ensures.flushed) c.in-Ok-flusher_of.ensures))

pub finish_log-requires-clause-enters : goal.finish_log-requires-clause-enters
finish_log-requires-clause-enters g c κs within =
    let sizes = c.args.log.sizes in
    subst (RiderTraces sizes) (sym (parts_new c.args.opening.riders _ c.args.rows.last c.args.rows.flusher (sym c.requires.all)).2) (new_traces sizes _)

pub returns-in-Ok-finish_log-clause-finished : goal.returns-in-Ok-finish_log-clause-finished
returns-in-Ok-finish_log-clause-finished g c =
    let rows = c.args.rows.rows in
    let left = threads_left g.row.P-Job.Denot c.args.opening (g.P.Work.returns c.args.shared.now.work.now) (g.P.Work.took c.args.shared.now.work.now) (length rows.places.items + 4) c.run_and_flush-returned.result.0.1 c.requires.log c.requires.flusher (sym c.requires.all) (sym (places_count rows.places.items rows.crew.riders)) c.run_and_flush-returned.ensures.kind (rw c.requires.cuts at c.run_and_flush-returned.ensures.left) in
    has_finished left (duty_cuts c.args.shared.now.duty.cut_above) (g.P.Work.finishes c.args.shared.now.work.now) _ c.in-Ok-flusher_of.flusher _ (flush_told left _ _ c.in-Ok-flusher_of.flusher (rw c.requires.cuts at c.run_and_flush-returned.ensures.flushed) c.in-Ok-flusher_of.ensures) c.in-Ok.ensures ((rw c.part_flusher-answer.ensures.answer at c.flushed_by.ensures) ∙ ap (λ (e : EndingState g.row.P-Job.Denot). flushed_by (answer_of_flusher c.in-Ok-flusher_of.flusher) e.snapshot.six) c.ending.view_is) (rw c.part_flusher-answer.ensures.rider at c.in-Ok-finish_log.ensures.closed)

pub returns-clause-finished : goal.returns-clause-finished
returns-clause-finished g c =
    let rows = c.args.rows.rows in
    let left = threads_left g.row.P-Job.Denot c.args.opening (g.P.Work.returns c.args.shared.now.work.now) (g.P.Work.took c.args.shared.now.work.now) (length rows.places.items + 4) c.run_and_flush-returned.result.0.1 c.requires.log c.requires.flusher (sym c.requires.all) (sym (places_count rows.places.items rows.crew.riders)) c.run_and_flush-returned.ensures.kind (rw c.requires.cuts at c.run_and_flush-returned.ensures.left) in
    not_finished left (duty_cuts c.args.shared.now.duty.cut_above) (g.P.Work.finishes c.args.shared.now.work.now) _ c.in-Ok.outs.items c.in-Err-finish_log.fault c.in-Ok.ensures c.in-Err-finish_log.ensures.closed

pub returns-in-Err-flusher_of-clause-finished : goal.returns-in-Err-flusher_of-clause-finished
returns-in-Err-flusher_of-clause-finished g c =
    let rows = c.args.rows.rows in
    let left = threads_left g.row.P-Job.Denot c.args.opening (g.P.Work.returns c.args.shared.now.work.now) (g.P.Work.took c.args.shared.now.work.now) (length rows.places.items + 4) c.run_and_flush-returned.result.0.1 c.requires.log c.requires.flusher (sym c.requires.all) (sym (places_count rows.places.items rows.crew.riders)) c.run_and_flush-returned.ensures.kind (rw c.requires.cuts at c.run_and_flush-returned.ensures.left) in
    not_flushed left (duty_cuts c.args.shared.now.duty.cut_above) (g.P.Work.finishes c.args.shared.now.work.now) _ c.in-Ok.outs.items _ c.in-Err-flusher_of.fault _ c.in-Ok.ensures (rw c.requires.cuts at c.run_and_flush-returned.ensures.flushed) c.in-Err-flusher_of.ensures.1

pub run_and_flush-returned-requires-clause-enters : goal.run_and_flush-returned-requires-clause-enters
run_and_flush-returned-requires-clause-enters g c κs within = flusher_traces c.args.log.sizes c.args.rows.flusher _ (parts_new c.args.opening.riders _ c.args.rows.last c.args.rows.flusher (sym c.requires.all)).3

pub returns-in-Ok-finish_log-clause-flushed : goal.returns-in-Ok-finish_log-clause-flushed
returns-in-Ok-finish_log-clause-flushed g c = told_flushed c.part_flusher-answer.result.0 c.in-Ok-finish_log.ending.snapshot.six c.flushed_by.result (c.flushed_by.ensures ∙ ap (λ (e : EndingState g.row.P-Job.Denot). flushed_by c.part_flusher-answer.result.0 e.snapshot.six) c.ending.view_is)
