use Rattle.std.proofs.Common.{◌≡◌, sym, ap, ◌∙◌}
use Rattle.hl_model.specs.declared.step.Step.TheVariants.{Done as DONE}
use Rattle.hl_cells.proofs.EngineMoves.{moved_done, answer_or, stands_after}
use Rattle.hl_cells.proofs.HoldLaws.{holds-rising}
use Rattle.hl_cells.proofs.JobLaws.{done_job, done_ran}
use Rattle.hl_cells.proofs.engine.Engine.done.Goals.{in-Some, in-None, Joined-run}
use Rattle.hl_cells.proofs.engine.Engine.done.Goals as goal

pub run-requires : goal.run-requires
run-requires g c =
    let at = c.self.invariant in
    record { rising = holds-rising c.self.inside.core.sizes at.0 c.self.inside.held at.1.core_stands.accepted at.1.held_is }

pub invariant_of-self-2 : goal.invariant_of-self-2
invariant_of-self-2 g c =
    stands_after g.P.Promise.keeps (record { core = c.self.inside.core; words = c.self.inside.words; held = c.self.inside.held }) _ (DONE c.args.ticket) (answer_or c.run.result c.in_ok-reply.reply) c.self.invariant
    (λ A st. moved_done g.P.Promise.keeps (record { core = c.self.inside.core; words = c.self.inside.words; held = c.self.inside.held }) A c.args.ticket c.done.new.self c.run.new.self c.in_ok-reply.reply c.run.result st (c.in_ok-reply.ensures.made A st.core_stands) c.run.ensures.answered c.run.ensures.keeps c.run.ensures.others)

-- the answer is the job's, where it has one
told : (g : _) (c : Joined-run g) → c.match-run.result ≡ answer_or c.run.result c.in_ok-reply.reply
told g c = elim c.match-run.branch [ in-Some w ↦ w.result-is ∙ sym (ap (λ o. answer_or o c.in_ok-reply.reply) w.in-Some.is) | in-None w ↦ w.result-is ∙ sym (ap (λ o. answer_or o c.in_ok-reply.reply) w.in-None.is) ]

pub returns-clause-moved : goal.returns-clause-moved
returns-clause-moved g c =
    rw (told g c, sym c.self.view_is)
    (λ A st. moved_done g.P.Promise.keeps (record { core = c.self.inside.core; words = c.self.inside.words; held = c.self.inside.held }) A c.args.ticket c.done.new.self c.run.new.self c.in_ok-reply.reply c.run.result st (c.in_ok-reply.ensures.made A st.core_stands) c.run.ensures.answered c.run.ensures.keeps c.run.ensures.others)

pub returns-clause-jobs : goal.returns-clause-jobs
returns-clause-jobs g c =
    let at = c.self.invariant in
    rw (told g c, sym c.self.view_is)
    (done_job (record { core = c.self.inside.core; words = c.self.inside.words; held = c.self.inside.held }) (record { core = c.done.new.self; words = c.self.inside.words; held = c.run.new.self }) at.0 c.args.ticket c.in_ok-reply.reply c.run.result at.1 (c.in_ok-reply.ensures.made at.0 at.1.core_stands) c.run.ensures.others c.in_ok-reply.ensures.jobs)

pub returns-clause-ran : goal.returns-clause-ran
returns-clause-ran g c =
    rw (told g c, sym c.self.view_is)
    (λ A st. done_ran g.F.Task.gives (record { core = c.self.inside.core; words = c.self.inside.words; held = c.self.inside.held }) A c.args.ticket c.done.new.self c.in_ok-reply.reply c.run.result st (c.in_ok-reply.ensures.made A st.core_stands) c.run.ensures.answered c.run.ensures.gives)
