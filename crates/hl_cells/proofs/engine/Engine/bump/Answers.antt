use Rattle.std.proofs.Common.{◌≡◌, refl, sym, ap, ◌∙◌}
use Rattle.hl_model.specs.declared.step.Step.TheVariants.{Bump as BUMP}
use Rattle.hl_core.specs.Steps.{bump_reply}
use Rattle.hl_cells.specs.Engines.{Whole}
use Rattle.hl_cells.specs.EngineSteps.{ticket_told}
use Rattle.hl_cells.proofs.EngineMoves.{moved_quiet, stands_after}
use Rattle.hl_cells.proofs.JobLaws.{stored_job}
use Rattle.hl_cells.proofs.engine.Engine.bump.Goals.{in-Ok, in-Err-default-User}
use Rattle.hl_cells.proofs.engine.Engine.bump.Goals as goal

pub invariant_of-self : goal.invariant_of-self
invariant_of-self g c =
    stands_after g.P.Promise.keeps (record { core = c.self.inside.core; words = c.self.inside.words; held = c.self.inside.held }) _ (BUMP c.args.kept.tag) (bump_reply c.bump.result) c.self.invariant
    (λ A st. moved_quiet g.P.Promise.keeps (record { core = c.self.inside.core; words = c.self.inside.words; held = c.self.inside.held }) A (BUMP c.args.kept.tag) c.bump.new.self (bump_reply c.bump.result) refl st (c.bump.ensures.made A st.core_stands))

pub returns-clause-moved : goal.returns-clause-moved
returns-clause-moved g c =
    let told : ticket_told c.match-bump.result ≡ bump_reply c.bump.result = elim c.match-bump.branch [ in-Ok w ↦ ap ticket_told w.result-is ∙ sym (ap bump_reply w.in-Ok.is) | in-Err-default-User w ↦ ap ticket_told w.result-is ∙ sym (ap bump_reply w.in-Err-default-User.is) ] in
    rw (told, sym c.self.view_is) (λ A st. moved_quiet g.P.Promise.keeps (record { core = c.self.inside.core; words = c.self.inside.words; held = c.self.inside.held }) A (BUMP c.args.kept.tag) c.bump.new.self (bump_reply c.bump.result) refl st (c.bump.ensures.made A st.core_stands))

pub returns-clause-jobs : goal.returns-clause-jobs
returns-clause-jobs g c =
    let old : Whole g.row.F.Denot = record { core = c.self.inside.core; words = c.self.inside.words; held = c.self.inside.held } in
    let new : Whole g.row.F.Denot = record { core = c.bump.new.self; words = c.self.inside.words; held = c.self.inside.held } in
    let at = stands_after g.P.Promise.keeps old new (BUMP c.args.kept.tag) (bump_reply c.bump.result) c.self.invariant
    (λ A st. moved_quiet g.P.Promise.keeps old A (BUMP c.args.kept.tag) c.bump.new.self (bump_reply c.bump.result) refl st (c.bump.ensures.made A st.core_stands)) in
    elim c.match-bump.branch [ in-Ok w ↦ rw (w.result-is, sym c.self.view_is) (stored_job old new at.0 w.in-Ok.ticket c.args.kept at.1 refl (rw w.in-Ok.is at c.bump.ensures.jobs)) | in-Err-default-User w ↦ rw w.result-is tt ]
