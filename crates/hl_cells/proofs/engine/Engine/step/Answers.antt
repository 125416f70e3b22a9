use Rattle.std.proofs.Common.{◌≡◌, ℕ, true, false, refl, sym, rules}
use Rattle.std.specs.Prelude.{Result, List}
use Rattle.hl_model.specs.declared.fault.Fault.{Fault}
use Rattle.hl_model.specs.declared.step.Reply.{Reply}
use Rattle.hl_model.specs.declared.step.Reply.TheVariants.{Written, Value}
use Rattle.hl_model.specs.declared.step.Step.{Step}
use Rattle.hl_model.specs.declared.step.Step.TheVariants.{Bump, Settle, Close, Take, Done, Write, Read, CleanDone}
use Rattle.hl_action.specs.Firings.{FiringRecord}
use Rattle.hl_core.specs.Steps.{as_reply, is_acted}
use Rattle.hl_cells.specs.Engines.{Whole}
use Rattle.hl_cells.specs.EngineSteps.{is_job_bump}
use Rattle.hl_cells.specs.Jobs.{JobsStay, JobsKept, RunsItsJob}
use Rattle.hl_cells.proofs.EngineMoves.{is_quiet, quiet_moves, quiet_stands, moved_by_write, moved_by_read}
use Rattle.hl_cells.proofs.JobLaws.{core_stays}
use Rattle.hl_cells.proofs.engine.Engine.step.Goals as goal

-- a step that is left to the core
abbrev LeftToCore : Step → Type 0
LeftToCore s = (is_quiet s ≡ true) × (is_acted s ≡ true)

left_to_core : (s : Step) → is_job_bump s ≡ false → (s ≡ Settle → ⊥) → (s ≡ Close → ⊥) → (s ≡ Take → ⊥) → ((c : ℕ) → s ≡ Done c → ⊥) → ((t a v : ℕ) → s ≡ Write t a v → ⊥) → ((t a : ℕ) → s ≡ Read t a → ⊥) → ((p : ℕ) → s ≡ CleanDone p → ⊥) → LeftToCore s
left_to_core (Bump tag) b s c t d w r z = cc
left_to_core Settle b s c t d w r z = absurd (s refl)
left_to_core Close b s c t d w r z = absurd (c refl)
left_to_core Take b s c t d w r z = absurd (t refl)
left_to_core (Done ticket) b s c t d w r z = absurd (d ticket refl)
left_to_core (Write x a v) b s c t d w r z = absurd (w x a v refl)
left_to_core (Read x a) b s c t d w r z = absurd (r x a refl)
left_to_core (CleanDone page) b s c t d w r z = absurd (z page refl)
left_to_core other b s c t d w r z = (refl, refl)

module _ {F : Type 0} where
  quiet_keeps : (old new : Whole F) (s : Step) (result : Result Reply Fault) → is_quiet s ≡ true → JobsStay old new → JobsKept old s new result
  quiet_keeps old new (Done ticket) result e stay = cc
  quiet_keeps old new s result e stay = stay

  quiet_runs : (gives : F → FiringRecord → ℕ → Type 0) (old : Whole F) (A : List Step) (s : Step) (result : Result Reply Fault) → is_quiet s ≡ true → RunsItsJob gives old A s result
  quiet_runs gives old A (Done ticket) result e = cc
  quiet_runs gives old A s result e = tt

left : (g : _) (c : goal.After-act g) → LeftToCore c.args.step.now
left g c = left_to_core c.args.step.now c.requires c.in_default.not-Settle c.in_default.not-Close c.in_default.not-Take c.in_default.not-Done c.in_default.not-Write c.in_default.not-Read c.in_default.not-CleanDone

pub act-requires : goal.act-requires
act-requires g c = (left_to_core c.args.step.now c.requires c.in_default.not-Settle c.in_default.not-Close c.in_default.not-Take c.in_default.not-Done c.in_default.not-Write c.in_default.not-Read c.in_default.not-CleanDone).1

pub invariant_of-self : goal.invariant_of-self
invariant_of-self g c = quiet_stands g.P.Promise.keeps _ _ _ _ _ _ (left g c).0 c.self.invariant c.act.ensures.made

pub returns-in_default-clause-moved : goal.returns-in_default-clause-moved
returns-in_default-clause-moved g c = rw (sym c.self.view_is) (quiet_moves g.P.Promise.keeps _ _ _ _ _ _ (left g c).0 c.act.ensures.made)

pub returns-in_default-clause-jobs : goal.returns-in_default-clause-jobs
returns-in_default-clause-jobs g c = rw (sym c.self.view_is) (quiet_keeps _ _ _ _ (left g c).0 (core_stays _ _ _ _ c.act.ensures.jobs))

pub returns-in_default-clause-ran : goal.returns-in_default-clause-ran
returns-in_default-clause-ran g c A st = quiet_runs _ _ A _ _ (left g c).0

pub returns-in-Write-clause-moved : goal.returns-in-Write-clause-moved
returns-in-Write-clause-moved g c =
    let reply : c.map-in-Write.result ≡ as_reply (λ _. Written) c.write.result = search rules in
    rw (reply, c.in-Write.is) (λ A st. moved_by_write g.P.Promise.keeps c.args.self.now c.write.new.self A c.in-Write.t c.in-Write.a c.in-Write.v c.write.result (c.write.ensures.result A st) c.write.ensures.sizes (c.write.ensures.standing A st))

pub returns-in-Read-clause-moved : goal.returns-in-Read-clause-moved
returns-in-Read-clause-moved g c =
    let reply : c.map-in-Read.result ≡ as_reply Value c.read.result = search rules in
    rw (reply, c.in-Read.is) (λ A st. moved_by_read g.P.Promise.keeps c.args.self.now A c.in-Read.t c.in-Read.a c.read.result st (c.read.ensures.value A st))
