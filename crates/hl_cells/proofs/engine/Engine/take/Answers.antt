use Rattle.std.proofs.Common.{sym, ap, ◌∙◌, ◌++◌, ◌∷◌, []}
use Rattle.std.specs.Prelude.{Ok}
use Rattle.hl_model.specs.declared.step.Step.TheVariants.{Take as TAKE}
use Rattle.hl_model.specs.declared.step.Reply.TheVariants.{Taken}
use Rattle.hl_action.specs.Jobs.{ReadyRecord}
use Rattle.hl_cells.specs.TakenActions.{Row}
use Rattle.std.proofs.lemmas.Result.{err_from_is_err_and}
use Rattle.hl_cells.proofs.EngineMoves.{moved_err, moved_take, take_fits, stands_after}
use Rattle.hl_cells.proofs.JobLaws.{taken_job}
use Rattle.hl_cells.proofs.engine.Engine.take.Goals as goal

pub returns-in_err-firing-clause-moved : goal.returns-in_err-firing-clause-moved
returns-in_err-firing-clause-moved g c =
    let p = err_from_is_err_and c.from_residual.result c.from_residual.ensures.1 in
    rw (p.1, p.2, sym c.self.view_is) (λ A st. moved_err g.P.Promise.keeps (record { core = c.self.inside.core; words = c.self.inside.words; held = c.self.inside.held }) A TAKE c.take.new.self c.in_err-firing.field-0.0 st (c.in_err-firing.ensures.made A st.core_stands))

pub push-requires : goal.push-requires
push-requires g c =
    let at = c.self.invariant in
    take_fits (record { core = c.self.inside.core; words = c.self.inside.words; held = c.self.inside.held }) at.0 c.take.new.self c.in_ok-firing.firing.ticket c.in_ok-firing.kept at.1 c.in_ok-firing.ensures.out

pub invariant_of-self-2 : goal.invariant_of-self-2
invariant_of-self-2 g c =
    stands_after g.P.Promise.keeps (record { core = c.self.inside.core; words = c.self.inside.words; held = c.self.inside.held }) _ TAKE (Ok (Taken c.in_ok-firing.firing.ticket)) c.self.invariant
    (λ A st. moved_take g.P.Promise.keeps (record { core = c.self.inside.core; words = c.self.inside.words; held = c.self.inside.held }) A c.take.new.self c.in_ok-firing.firing c.in_ok-firing.kept 0 c.push.new.self st (c.in_ok-firing.ensures.made A st.core_stands) c.in_ok-firing.ensures.safe c.in_ok-firing.ensures.out
    (c.push.ensures ∙ ap (λ (r : ReadyRecord g.row.F.Denot). row_with c.self.inside.held r) c.of.ensures))
  where
    row_with : {F : Type 0} → Row F → ReadyRecord F → Row F
    row_with held r = record { room = held.room; actions = held.actions ++ r ∷ [] }

pub returns-clause-moved : goal.returns-clause-moved
returns-clause-moved g c =
    rw (c.ticket.ensures.value, sym c.self.view_is)
    (λ A st. moved_take g.P.Promise.keeps (record { core = c.self.inside.core; words = c.self.inside.words; held = c.self.inside.held }) A c.take.new.self c.in_ok-firing.firing c.in_ok-firing.kept 0 c.push.new.self st (c.in_ok-firing.ensures.made A st.core_stands) c.in_ok-firing.ensures.safe c.in_ok-firing.ensures.out
    (c.push.ensures ∙ ap (λ (r : ReadyRecord g.row.F.Denot). row_with c.self.inside.held r) c.of.ensures))
  where
    row_with : {F : Type 0} → Row F → ReadyRecord F → Row F
    row_with held r = record { room = held.room; actions = held.actions ++ r ∷ [] }

pub returns-clause-jobs : goal.returns-clause-jobs
returns-clause-jobs g c =
    rw (sym c.self.view_is)
    (taken_job (record { core = c.self.inside.core; words = c.self.inside.words; held = c.self.inside.held }) (record { core = c.take.new.self; words = c.self.inside.words; held = c.push.new.self }) c.in_ok-firing.firing c.in_ok-firing.kept 0 c.in_ok-firing.ensures.out
    (c.push.ensures ∙ ap (λ (r : ReadyRecord g.row.F.Denot). row_with c.self.inside.held r) c.of.ensures))
  where
    row_with : {F : Type 0} → Row F → ReadyRecord F → Row F
    row_with held r = record { room = held.room; actions = held.actions ++ r ∷ [] }
