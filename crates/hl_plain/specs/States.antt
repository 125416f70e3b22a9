-- Where the states of frames stand among their counts.
use Rattle.std.specs.Prelude.{ℕ}
use Rattle.hl_model.specs.declared.frame.FrameState.{FrameState}
use Rattle.hl_model.specs.declared.frame.FrameState.TheVariants.{Opened, Sealed, Flushed, Closed, Free}

-- the place of a state's count
abbrev pub count_place : FrameState → ℕ
count_place Opened = 0
count_place Sealed = 1
count_place Flushed = 2
count_place Closed = 3
count_place Free = 4
