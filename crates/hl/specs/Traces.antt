-- What a thread did in its session, by address.
use Rattle.std.specs.Prelude.{◌≡◌, ◌⊎◌, ℕ, ◌<◌, ◌≤◌, true, false, Result, Ok, Err, MatchResult, List, [], ◌∷◌, ◌++◌, length, take}
use Rattle.std.specs.List.{AllByRecursion, flat_map}
use Rattle.hl_model.specs.declared.fault.Fault.{Fault}
use Rattle.hl_words.specs.States.{RiderState}
use Rattle.hl_domain.specs.Domains.{DomainState, stays_current}
use Rattle.hl_keeper.specs.Passes.{PassRecord}
use Rattle.hl_traces.specs.declared.act.Act.{Act}
use Rattle.hl_traces.specs.declared.act.Act.TheVariants.{Placed, Loaded, Changed, Met}
use Rattle.hl_traces.specs.Records.{stores_from}
use Rattle.hl_traces.specs.Traces.{trace, PassDoes, RiderDoes}
use Rattle.hl.specs.declared.refused.Refused.{Refused}
use Rattle.hl.specs.Sessions.{SessionState}

-- the trace of a session: all that its rider did, the newest first
abbrev pub acts : SessionState → List Act
acts s = trace s.log.sizes s.pass.rider

-- between the two it did just this more
abbrev pub Does : List Act → SessionState → SessionState → Type 0
Does own old new = acts new ≡ own ++ acts old

-- it did nothing yet but to enter
abbrev pub IsFresh : SessionState → Type 0
IsFresh s = (n : ℕ) × (acts s ≡ Met n ∷ [])

-- So much holds of all that a thread did since it entered, and of what it returned: for the `returns` of a work
abbrev pub Told : {Out : Type 0} → (List Act → Out → Type 0) → SessionState → SessionState → Out → Type 0
Told Holds old new out = IsFresh old → Holds (acts new) out

-- one locked call, and what it placed, if anything
abbrev pub Meets : List Act → SessionState → SessionState → Type 0
Meets placed old new = (n : ℕ) × Does (placed ++ Met n ∷ []) old new

-- locked calls alone
abbrev pub AreMet : List Act → Type 0
AreMet own = AllByRecursion (λ act. (n : ℕ) × (act ≡ Met n)) own

-- some locked calls, and nothing else
abbrev pub OnlyMeets : SessionState → SessionState → Type 0
OnlyMeets old new = (own : List Act) × AreMet own × Does own old new

-- locked calls, and records that were placed and of which nothing was stored, alone
abbrev pub ArePads : List Act → Type 0
ArePads own = AllByRecursion (λ act. ((n : ℕ) × (act ≡ Met n)) ⊎ ((a n : ℕ) × (act ≡ Placed a n))) own

-- some of these, and nothing else
abbrev pub OnlyPads : SessionState → SessionState → Type 0
OnlyPads old new = (own : List Act) × ArePads own × Does own old new

-- what an answer tells, where a refused call does nothing
abbrev pub if_ok : {X E : Type 0} → (X → List Act) → Result X E → List Act
if_ok own (Ok x) = own x
if_ok own (Err e) = []

-- an exchange is a change, or where it found another value a load
abbrev pub exchanged : ℕ → ℕ → Result ℕ ℕ → List Act
exchanged a new (Ok found) = Changed a found new ∷ []
exchanged a new (Err found) = Loaded a found ∷ []

-- acts without the locked calls
abbrev pub without_met : List Act → List Act
without_met [] = []
without_met (Met n ∷ before) = without_met before
without_met (act ∷ before) = act ∷ without_met before

-- the words were stored from an address on, with locked calls between
abbrev pub Stores : ℕ → List ℕ → SessionState → SessionState → Type 0
Stores a words old new = (own : List Act) × (without_met own ≡ stores_from a words []) × Does own old new

-- so were the first of them, but not all
abbrev pub StoresSome : ℕ → List ℕ → SessionState → SessionState → Type 0
StoresSome a words old new = (count : ℕ) × (count < length words) × Stores a (take count words) old new

-- a record of these words was asked for in vain: it wasn't placed; or it was, and not all its words were stored
abbrev pub InVain : List ℕ → List Act → Type 0
InVain words own = (own ≡ [])
    ⊎ ((a count : ℕ) × (count < length words)
    × (own ≡ stores_from a (take count words) (Placed a (length words) ∷ [])))

-- a record of these words was placed and stored, or asked for in vain
abbrev pub PlacesBy : List ℕ → Result ℕ Fault → SessionState → SessionState → Type 0
PlacesBy words result old new = (own : List Act) × Does own old new × MatchResult result
    (λ a. without_met own ≡ stores_from a words (Placed a (length words) ∷ []))
    (λ _. InVain words (without_met own))

-- so it was after so many tries in vain, the newest first
abbrev pub AppendsBy : ℕ → List ℕ → Result ℕ Fault → SessionState → SessionState → Type 0
AppendsBy again words result old new = (own : List Act) × Does own old new
    × (vain : List (List Act)) × AllByRecursion (InVain words) vain × (length vain ≤ again) × MatchResult result
    (λ a. without_met own ≡ stores_from a words (Placed a (length words) ∷ []) ++ flat_map (λ acts. acts) vain)
    (λ _. (last : List Act) × InVain words last × (without_met own ≡ last ++ flat_map (λ acts. acts) vain))

-- some locked calls of a rider without a pass, and of a pass's
abbrev pub RiderMeets : DomainState → RiderState → RiderState → Type 0
RiderMeets log old new = (own : List Act) × AreMet own × RiderDoes log.sizes own old new

abbrev pub PassMeets : DomainState → RiderState → PassRecord → Type 0
PassMeets log old new = (own : List Act) × AreMet own × PassDoes log.sizes own old new

-- one call of a pass's rider, and what it placed
abbrev pub PassMet : DomainState → List Act → RiderState → PassRecord → Type 0
PassMet log placed old new = (n : ℕ) × PassDoes log.sizes (placed ++ Met n ∷ []) old new

-- a session that a rider entered, or the rider that was refused one, made one call more
abbrev pub EntersBy : DomainState → RiderState → Result SessionState (Refused RiderState) → Type 0
EntersBy log rider result = MatchResult result (λ session. (n : ℕ) × (acts session ≡ Met n ∷ trace log.sizes rider))
    (λ refused. (n : ℕ) × RiderDoes log.sizes (Met n ∷ []) rider refused.back)

-- the rider that left a session, or the session that couldn't be left, made one call more
abbrev pub LeavesBy : SessionState → Result RiderState (Refused SessionState) → Type 0
LeavesBy session result = MatchResult result
    (λ rider. (n : ℕ) × RiderDoes session.log.sizes (Met n ∷ []) session.pass.rider rider)
    (λ refused. Meets [] session refused.back)

-- the same with some calls
abbrev pub LeavesByCalls : SessionState → Result RiderState (Refused SessionState) → Type 0
LeavesByCalls session result = MatchResult result (RiderMeets session.log session.pass.rider)
    (λ refused. OnlyMeets session refused.back)

-- a session that was current did nothing; another made one call
abbrev pub KeepsUpBy : SessionState → SessionState → Type 0
KeepsUpBy old new = (stays_current old.pass new.pass ≡ true → Does [] old new)
    × (stays_current old.pass new.pass ≡ false → Meets [] old new)
