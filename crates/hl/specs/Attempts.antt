-- An operation of a session that is tried again while there is a cure for what it was refused for.
use Rattle.std.specs.Prelude.{◌≡◌, ◌⊎◌, ℕ, ◌≤◌, Bool, false, is_some, IfErr, Option, Some, None, Result, Err}
use Rattle.hl_model.specs.declared.fault.Fault.{Fault}
use Rattle.hl_model.specs.declared.fault.Fault.TheVariants.{Busy, Beyond, Device, DrainFull, JournalFull, TouchesFull, WindowFull}
use Rattle.hl_action.specs.Firings.{FiringRecord}
use Rattle.hl_crew.specs.Goes.{Followed}
use Rattle.hl.specs.declared.session.tries.Cure.{Cure}
use Rattle.hl.specs.declared.session.tries.Cure.TheVariants.{Refresh, Others}
use Rattle.hl.specs.declared.session.tries.Helped.{Helped}
use Rattle.hl.specs.Helps.{in_vain, Helps}
use Rattle.hl.specs.Sessions.{SessionState}
use Rattle.hl.specs.Traces.{OnlyMeets}

-- what may cure what a call was refused for
abbrev pub cure_of : Fault → Option Cure
cure_of (Beyond tail) = Some Refresh
cure_of TouchesFull = Some Refresh
cure_of (Busy page) = Some Others
cure_of DrainFull = Some Others
cure_of JournalFull = Some Others
cure_of WindowFull = Some Others
cure_of _ = None

-- what is told in a fault's place where the device refuses what the crew writes
abbrev pub told_if_refused : Fault → Fault
told_if_refused (Busy page) = Device
told_if_refused fault = fault

module _ {O S T X : Type 0} (Tries : O → S → Result T X → O → S → Type 0)
    (Cures : X → Option Cure → Type 0) (Tells : X → X → Type 0) (Helps : S → Cure → Helped → S → Type 0) where
  -- a try was refused for a reason that has a cure, and a round of help for that cure came after it, however that was
  -- answered
  pub record TriesInVain (o : O) (old : S) (p : O) (new : S) : Type 0 where
    pub error : X
    pub cure : Cure
    pub curable : Cures error (Some cure)
    pub refused : S
    pub tries : Tries o old (Err error) p refused
    pub help : Helped
    pub helps : Helps refused cure help new

  -- the same of an operation and its session together: another try follows
  abbrev pub TriesNext : ℕ → Result Bool X → O × S → O × S → Type 0
  TriesNext i next old new = TriesInVain old.0 old.1 new.0 new.1

  -- a try was answered so, and this is told: the same, or in an error's place what is told where the device refuses
  abbrev pub AreTold : Result T X → Result T X → Type 0
  AreTold answer told = (told ≡ answer) ⊎ ((error instead : X) × (answer ≡ Err error) × (told ≡ Err instead) × Tells error instead)

  -- the last try was answered, and so this is told. At most so many others came before it, each in vain; and as many did, if
  -- it was refused and not for a reason without a cure
  pub record Attempts (again : ℕ) (result : Result T X) (o : O) (old new : S) : Type 0 where
    pub vain : ℕ
    pub most : vain ≤ again
    pub operation : O
    pub last : S
    pub before : Followed TriesNext vain (o, old) (operation, last)
    pub left : O
    pub answered : Result T X
    pub answer : Tries operation last answered left new
    pub told : AreTold answered result
    pub all_tried : IfErr answered (λ error. Cures error None ⊎ (vain ≡ again))

-- whether a nap follows a round of help for this cure, which was answered so
abbrev pub is_nap_due : Cure → Result Bool Fault → Bool
is_nap_due Refresh answer = false
is_nap_due Others answer = in_vain answer

-- a round of help of a session for a cure, with a nap behind it where others have to act and it was in vain; the session
-- stays one of its log, beside whom it was, and only met
abbrev pub SessionHelps : {F : Type 0} → (F → FiringRecord → ℕ → Type 0) → (ℕ → FiringRecord → ℕ → Type 0)
    → SessionState → Cure → Helped → SessionState → Type 0
SessionHelps {F} gives keeps old cure help new =
    (Helps F old.log old.beside.cuts gives keeps help.answer old.pass new.pass
    × (is_some help.napped ≡ is_nap_due cure help.answer))
    × (new.log ≡ old.log) × (new.beside ≡ old.beside) × OnlyMeets old new
