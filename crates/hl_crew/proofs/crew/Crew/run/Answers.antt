use Rattle.std.proofs.Common.{◌&&◌, sym, ◌∙◌, subst}
use Rattle.hl_crew.specs.Riders.{AreAsGiven, WritesPage, FailsPage, riders_of}
use Rattle.hl_crew.specs.Rounds.{RoundsIf}
use Rattle.hl_crew.specs.Works.{AreNamed, begun}
use Rattle.hl_crew.proofs.StateLaws.{crew_works, crew_worked, crew_worked_in_part, worked_if, worked_in_part_if}
use Rattle.hl_crew.proofs.crew.Crew.run.Goals as goal

-- the crew's name says what its threads are given and do
pub run_threads-requires-clause-named : goal.run_threads-requires-clause-named
run_threads-requires-clause-named g c κs within = (
  begun c.args.self,
  subst (λ serves. AreNamed {L = g.row.L.Denot} {W = g.row.W.Denot} g.row.F.Denot c.args.domain.now c.args.limits (g.G.Gate.lets c.args.gate.now) (WritesPage g.W.PageWriter.has g.W.PageWriter.wrote) (FailsPage g.W.PageWriter.has g.W.PageWriter.failed) g.W.PageWriter.failures serves g.K.Given.flusher g.K.Given.first g.K.Given.second g.K.Given.cleaner (begun c.args.self))
      (sym c.requires.channels) c.requires.named,
)

-- each thread did its work, and so did the last rounds
pub returns-clause-works : goal.returns-clause-works
returns-clause-works g c =
    let left = c.end-state.result.0 in
    let last = c.end_rounds.new.state in
    let done = c.end-state.result.1 in
    let named = c.requires.named in
    let rounds = subst (λ serves. RoundsIf {L = g.row.L.Denot} {W = g.row.W.Denot} g.row.F.Denot c.args.domain.now c.args.limits (g.G.Gate.lets c.args.gate.now) (WritesPage g.W.PageWriter.has g.W.PageWriter.wrote) (FailsPage g.W.PageWriter.has g.W.PageWriter.failed) g.W.PageWriter.failures (c.all.result && serves) left last)
    c.requires.channels c.end_rounds.ensures in
    worked_if g.row.F.Denot c.args.domain.now c.args.limits (g.G.Gate.lets c.args.gate.now) (WritesPage g.W.PageWriter.has g.W.PageWriter.wrote) (FailsPage g.W.PageWriter.has g.W.PageWriter.failed) g.W.PageWriter.failures _ c.args.self c.into_crew-crew.result.0 c.of-2.result c.into_crew-crew.result.1 c.all-2.result
    c.of-2.ensures.done c.of-2.ensures.counts
    (λ all. crew_worked g.row.F.Denot c.args.domain.now c.args.limits (g.G.Gate.lets c.args.gate.now) (WritesPage g.W.PageWriter.has g.W.PageWriter.wrote) (FailsPage g.W.PageWriter.has g.W.PageWriter.failed) g.W.PageWriter.failures _ c.args.self c.into_crew-crew.result.0 c.into_crew-crew.result.1 left last
    done.flusher done.first done.second done.cleaner c.all.result (sym c.all-2.ensures ∙ all) (c.all.ensures ∙ (sym c.all-2.ensures ∙ all)) ((named.flusher_is _ _).0 c.end-state.ensures.flusher) ((named.first_is _ _).0 c.end-state.ensures.first) ((named.second_is _ _).0 c.end-state.ensures.second) ((named.cleaner_is _ _).0 c.end-state.ensures.cleaner) rounds
    (sym c.into_crew-crew.ensures.crew) (sym c.into_crew-crew.ensures.counts))

-- each thread that was made did its work, and there were no last rounds
pub returns-clause-in_part : goal.returns-clause-in_part
returns-clause-in_part g c =
    let left = c.end-state.result.0 in
    let last = c.end_rounds.new.state in
    let done = c.end-state.result.1 in
    let named = c.requires.named in
    let rounds = subst (λ serves. RoundsIf {L = g.row.L.Denot} {W = g.row.W.Denot} g.row.F.Denot c.args.domain.now c.args.limits (g.G.Gate.lets c.args.gate.now) (WritesPage g.W.PageWriter.has g.W.PageWriter.wrote) (FailsPage g.W.PageWriter.has g.W.PageWriter.failed) g.W.PageWriter.failures (c.all.result && serves) left last)
    c.requires.channels c.end_rounds.ensures in
    worked_in_part_if g.row.F.Denot c.args.domain.now c.args.limits (g.G.Gate.lets c.args.gate.now) (WritesPage g.W.PageWriter.has g.W.PageWriter.wrote) (FailsPage g.W.PageWriter.has g.W.PageWriter.failed) g.W.PageWriter.failures _ c.args.self c.into_crew-crew.result.0 c.of-2.result c.all-2.result c.of-2.ensures.done
    (λ none. crew_worked_in_part g.row.F.Denot c.args.domain.now c.args.limits (g.G.Gate.lets c.args.gate.now) (WritesPage g.W.PageWriter.has g.W.PageWriter.wrote) (FailsPage g.W.PageWriter.has g.W.PageWriter.failed) g.W.PageWriter.failures _ c.args.self c.into_crew-crew.result.0 left last
    done.flusher done.first done.second done.cleaner c.all.result (c.all.ensures ∙ (sym c.all-2.ensures ∙ none)) ((named.flusher_is _ _).0 c.end-state.ensures.flusher) ((named.first_is _ _).0 c.end-state.ensures.first) ((named.second_is _ _).0 c.end-state.ensures.second) ((named.cleaner_is _ _).0 c.end-state.ensures.cleaner) rounds
    (sym c.into_crew-crew.ensures.crew))

-- what riders do that did a crew's work
pub returns-clause-kept : goal.returns-clause-kept
returns-clause-kept g c =
    let left = c.end-state.result.0 in
    let last = c.end_rounds.new.state in
    let done = c.end-state.result.1 in
    let named = c.requires.named in
    let rounds = subst (λ serves. RoundsIf {L = g.row.L.Denot} {W = g.row.W.Denot} g.row.F.Denot c.args.domain.now c.args.limits (g.G.Gate.lets c.args.gate.now) (WritesPage g.W.PageWriter.has g.W.PageWriter.wrote) (FailsPage g.W.PageWriter.has g.W.PageWriter.failed) g.W.PageWriter.failures (c.all.result && serves) left last)
    c.requires.channels c.end_rounds.ensures in
    subst (AreAsGiven g.W.PageWriter.has c.args.limits.cuts _ c.args.domain.now.sizes (riders_of c.args.self.riders)) (sym c.into_crew-crew.ensures.crew)
    (crew_works g.W.PageWriter.has g.row.F.Denot c.args.domain.now c.args.limits (g.G.Gate.lets c.args.gate.now) g.W.PageWriter.wrote g.W.PageWriter.failed g.W.PageWriter.failures c.all.result _ done.flusher done.first done.second done.cleaner c.args.self left last
    ((named.flusher_is _ _).0 c.end-state.ensures.flusher) ((named.first_is _ _).0 c.end-state.ensures.first) ((named.second_is _ _).0 c.end-state.ensures.second) ((named.cleaner_is _ _).0 c.end-state.ensures.cleaner) rounds)
