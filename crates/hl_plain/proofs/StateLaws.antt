-- The states of the frames that were read.
use Rattle.std.proofs.Common.{ℕ, List, map, take}
use Rattle.hl_model.specs.declared.frame.FrameState.{FrameState}
use Rattle.hl_model.specs.Bases.{Base}
use Rattle.hl_plain.specs.Shown.{state_at}

-- the states of the first n frames
abbrev pub states_below : Base → ℕ → List FrameState
states_below b n = map (λ held. (state_at b held).0) (take n b.frames)
