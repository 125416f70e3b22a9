-- How an engine's results tell the definitions' replies.
use Rattle.std.proofs.Common.{◌≡◌, ℕ, Bool, true, false, List, [], ◌∷◌, ◌++◌, refl, sym, subst}
use Rattle.std.specs.Prelude.{Option, Some, None, Result, Ok, Err}
use Rattle.hl_model.specs.declared.fault.Fault.{Fault}
use Rattle.hl_model.specs.declared.step.Reply.{Reply}
use Rattle.hl_model.specs.declared.step.Reply.TheVariants.{Ran}
use Rattle.hl_model.specs.declared.step.Step.{Step}
use Rattle.hl_model.specs.declared.step.Step.TheVariants.{Done, Read}
use Rattle.hl_model.specs.Sizes.{Sizes}
use Rattle.hl_model.specs.Replies.{fault_of, answer_of, reply_of, word_reply_of, with_word, unless_fault}
use Rattle.hl_action.specs.Firings.{FiringRecord}
use Rattle.hl_cells.specs.EngineSteps.{Told, fired}

-- a result without a value has this fault
abbrev pub Refused : Option Fault → Fault → Type 0
Refused o f = (let r : Result (Unit {0}) Fault = Err f in r) ≡ unless_fault o tt

-- a result without a value has no fault
abbrev pub Accepted : Option Fault → Type 0
Accepted o = (let r : Result (Unit {0}) Fault = Ok tt in r) ≡ unless_fault o tt

-- a reply that names a job by its tag
abbrev pub is_ran : Reply → Bool
is_ran (Ran tag) = true
is_ran _ = false

pub told_ok : (keeps : ℕ → FiringRecord → ℕ → Type 0) (firing : Option FiringRecord) (r : Reply) (result : Result Reply Fault) → is_ran r ≡ false → result ≡ Ok r → Told keeps firing (Ok r) result
told_ok keeps firing (Ran tag) result e h = cc
told_ok keeps firing r result e h = h

pub told_as : (keeps : ℕ → FiringRecord → ℕ → Type 0) (firing : Option FiringRecord) (o : Option Fault) (r : Reply) (result : Result Reply Fault) → is_ran r ≡ false → result ≡ unless_fault o r → Told keeps firing (unless_fault o r) result
told_as keeps firing None r result e h = told_ok keeps firing r result e h
told_as keeps firing (Some f) r result e h = h

-- a step that is neither a done nor a read
abbrev pub is_told_as_is : Step → Bool
is_told_as_is (Done ticket) = false
is_told_as_is (Read t a) = false
is_told_as_is _ = true

-- it is answered as by a core
pub told_same : (keeps : ℕ → FiringRecord → ℕ → Type 0) (sizes : Sizes) (A : List Step) (s : Step) (result : Result Reply Fault) → is_told_as_is s ≡ true → result ≡ reply_of sizes A s → Told keeps (fired sizes A s) (word_reply_of sizes A s) result
told_same keeps sizes A (Done ticket) result e h = cc
told_same keeps sizes A (Read t a) result e h = cc
told_same keeps sizes A s result e h = told_as keeps (fired sizes A s) (fault_of sizes A s) (answer_of sizes A (A ++ s ∷ []) s) result refl h

-- a refusal is told as it is
pub told_refused : (keeps : ℕ → FiringRecord → ℕ → Type 0) (sizes : Sizes) (A : List Step) (s : Step) (f : Fault) → fault_of sizes A s ≡ Some f → Told keeps (fired sizes A s) (word_reply_of sizes A s) (Err f)
told_refused keeps sizes A s f h = subst (λ (o : Option Fault). Told keeps (fired sizes A s) (unless_fault o (with_word A s (answer_of sizes A (A ++ s ∷ []) s))) (Err f)) (sym h) refl
