-- Why turns are over.
use Rattle.std.specs.Prelude.{Bool, true, false, Result, Ok, Err}
use Rattle.hl_model.specs.declared.fault.Fault.{Fault}
use Rattle.hl_model.specs.declared.fault.Fault.TheVariants.{Empty, JournalFull, NotReady}
use Rattle.hl_crew.specs.declared.ends.Accepted.{Accepted}
use Rattle.hl_crew.specs.declared.messages.Over.{Over}
use Rattle.hl_crew.specs.declared.messages.Over.TheVariants.{Full, Lost}
use Rattle.hl_crew.specs.declared.limits.Cuts.{Cuts}
use Rattle.hl_crew.specs.declared.limits.Cuts.TheVariants.{Above}

-- what a refused call of the domain means for the turns
abbrev pub over_of : Fault → Over
over_of JournalFull = Full
over_of _ = Lost

-- an answer was accepted
abbrev pub accepted : Accepted
accepted = record { made = tt }

-- what the answer to one means for them
abbrev pub over_if_refused : {X : Type 0} → Result X Fault → Result Accepted Over
over_if_refused (Ok x) = Ok accepted
over_if_refused (Err fault) = Err (over_of fault)

-- whether a call was refused since the journal is full
abbrev pub is_full : Fault → Bool
is_full JournalFull = true
is_full _ = false

-- whether something failed since the journal is full
abbrev pub is_over_full : {X : Type 0} → Result X Over → Bool
is_over_full (Err Full) = true
is_over_full _ = false

-- whether a take was refused since no action is ready
abbrev pub is_none_ready : Fault → Bool
is_none_ready Empty = true
is_none_ready (NotReady front safe) = true
is_none_ready _ = false

-- whether a full journal is cut, so that turns go on
abbrev pub makes_room : Cuts → Bool
makes_room (Above steps) = true
makes_room _ = false
