-- The lag that a flusher keeps.
use Rattle.std.specs.Prelude.{◌≡◌, ℕ, ◌≤◌, ◌==◌, ◌&&◌, nat_lt, not, Bool, true, false, Some, Result, Ok, Err, List, [], ◌∷◌, ◌++◌, length, slice_get}
use Rattle.hl_model.specs.declared.fault.Fault.{Fault}
use Rattle.hl_model.specs.declared.fault.Fault.TheVariants.{JournalFull}
use Rattle.hl_model.specs.declared.snapshot.Snapshot.{Snapshot}
use Rattle.hl_model.specs.declared.step.Step.{Step}
use Rattle.hl_model.specs.declared.view.Six.{Six}
use Rattle.hl_model.specs.declared.step.Step.TheVariants.{Raise, Settle, Shift, Close}
use Rattle.hl_model.specs.Actions.{bumps}
use Rattle.hl_model.specs.Offsets.{read_only, head}
use Rattle.hl_model.specs.Snapshots.{snapshot_of}
use Rattle.hl_lag.specs.Lag.{lag_of}
use Rattle.hl_words.specs.States.{RiderState}
use Rattle.hl_keeper.specs.Calls.{Makes, Stays}
use Rattle.hl_domain.specs.Domains.{DomainState, call_of, answered, LeavesUnderLock, UnderLock}
use Rattle.hl_crew.specs.declared.flusher.FlusherState.{FlusherState}
use Rattle.hl_crew.specs.declared.flusher.asked.Asked.{Asked}
use Rattle.hl_crew.specs.declared.messages.Over.{Over}
use Rattle.hl_crew.specs.declared.messages.Over.TheVariants.{Full}
use Rattle.hl_crew.specs.Goes.{UpTo}

-- at least one page stays mutable, at least as many stay resident, and no more of these than there are frames
pub record IsLag (frames mutable resident : ℕ) : Type 0 where
  pub least : 1 ≤ mutable
  pub most : mutable ≤ resident
  pub within : resident ≤ frames

-- nothing was asked for
abbrev pub nothing_asked : Asked
nothing_asked = record { read_only = 0; head = 0; safe_read_only = 0; closed = 0 }

-- at the beginning of a turn the read-only offset and the head are where they are
abbrev pub asked_at : Six → Asked → Asked
asked_at six asked = record asked { read_only = six.read_only; head = six.head }

-- what is asked for once this step was made
abbrev pub asked_after : Step → Asked → Asked
asked_after (Raise x) asked = record asked { read_only = x }
asked_after Settle asked = record asked { safe_read_only = asked.read_only }
asked_after (Shift x) asked = record asked { head = x }
asked_after Close asked = record asked { closed = asked.head }
asked_after _ asked = asked

-- a raise and a settle wait until the last settle has taken effect, a shift and a close until the last close has
abbrev pub is_waiting : Six → Asked → Step → Bool
is_waiting six asked (Raise x) = nat_lt six.safe_read_only asked.safe_read_only
is_waiting six asked Settle = nat_lt six.safe_read_only asked.safe_read_only
is_waiting six asked (Shift x) = nat_lt six.closed asked.closed
is_waiting six asked Close = nat_lt six.closed asked.closed
is_waiting six asked _ = false

-- whether a crew wants a step of the lag: one that serves, where that waits for nothing of its own; another,
-- where no action waits and none is taken
abbrev pub is_wanted : Bool → Snapshot → Asked → Step → Bool
is_wanted true now asked step = not (is_waiting now.six asked step)
is_wanted false now asked step = now.pending == 0 && now.taken == 0

-- a step of the lag is one of these four
abbrev pub is_lag_step : Step → Bool
is_lag_step (Raise x) = true
is_lag_step Settle = true
is_lag_step (Shift x) = true
is_lag_step Close = true
is_lag_step _ = false

-- the number that tells its effect: the offset that it moved, or the ticket of its action
abbrev pub effect_of : Step → List Step → ℕ
effect_of (Raise x) A = read_only (A ++ Raise x ∷ [])
effect_of (Shift x) A = head (A ++ Shift x ∷ [])
effect_of step A = bumps (A ++ step ∷ [])

-- a step of the lag was answered as the domain answers it
abbrev pub MakesStep : (F : Type 0) → DomainState → Step → Result ℕ Fault → RiderState → RiderState → Type 0
MakesStep F domain step answer old new =
    LeavesUnderLock F domain (answered answer (call_of step old new))
    (λ before after. Makes before step (effect_of step) after answer × Stays before after)

-- a flusher that made this step
abbrev pub made_by : {L : Type 0} → Step → RiderState → FlusherState L → FlusherState L
made_by step rider own = record own { rider = rider; asked = asked_after step own.asked }

-- a step of the lag was made where it is wanted, and else nothing was done
abbrev pub MakesIf : {L : Type 0} (F : Type 0) → DomainState → Bool → Step → Result (Unit {0}) Fault
    → FlusherState L → FlusherState L → Type 0
MakesIf F domain false step result old new = (result ≡ Ok tt) × (new ≡ old)
MakesIf F domain true step (Ok done) old new =
    (answer : ℕ) × MakesStep F domain step (Ok answer) old.rider new.rider
    × (new ≡ made_by step new.rider old)
MakesIf F domain true step (Err fault) old new =
    MakesStep F domain step (Err fault) old.rider new.rider × (new ≡ record old { rider = new.rider })

-- step i of these was made where it is wanted; where it was refused none may follow
abbrev pub MakesNext : {L : Type 0} (F : Type 0) → DomainState → Bool → Snapshot → List Step
    → ℕ → Result Bool Fault → FlusherState L → FlusherState L → Type 0
MakesNext F domain serves now steps i (Ok true) old new =
    (step : Step) × (slice_get steps i ≡ Some step)
    × MakesIf F domain (is_wanted serves now old.asked step) step (Ok tt) old new
MakesNext F domain serves now steps i (Ok false) old new = ⊥
MakesNext F domain serves now steps i (Err fault) old new =
    (step : Step) × (slice_get steps i ≡ Some step)
    × MakesIf F domain (is_wanted serves now old.asked step) step (Err fault) old new

-- a refused step of the lag ends the turn where the journal is full, and nothing else
abbrev pub lag_end : Result (Unit {0}) Fault → Result (Unit {0}) Over
lag_end (Err JournalFull) = Err Full
lag_end _ = Ok tt

-- of the lag's steps at the quantities of some moment those that are wanted were made in their order, up to
-- the first that was refused
pub record KeepsLag
    {L : Type 0} (F : Type 0) (domain : DomainState) (serves : Bool) (mutable resident : ℕ)
    (result : Result (Unit {0}) Over) (old new : FlusherState L)
    : Type 0 where
  pub now : Snapshot
  pub seen : UnderLock F domain (λ keeper A. now ≡ snapshot_of keeper.core.sizes A)
  pub made : Result (Unit {0}) Fault
  pub steps : let lag = lag_of domain.sizes.page_size now.six mutable resident
      in UpTo (MakesNext F domain serves now lag) (length lag) made
      (record old { asked = asked_at now.six old.asked }) new
  pub ends : result ≡ lag_end made
