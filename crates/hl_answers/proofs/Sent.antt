-- A block that a slot owns says the same to every thread.
use mir.Raw.{raw}
use base.Fraction.{full_share}
use base.Shift.{Keyless}
use denote.Memory.{lone}
use denote.RattleType.{RattleType}
use denote.RawPtr.{Ptr, block_ptr, null_ptr}
use denote.Param.Send.{IsSend, part_keyless}
use Rattle.std.specs.declared.option.Option.{Option}
use Rattle.std.specs.declared.option.Option.TheVariants.{None, Some}
use Rattle.std.specs.declared.alloc.Global.{Global}
use Rattle.std.proofs.Crossing.{frees}
use Rattle.hl_answers.specs.Slots.{kept}

pub kept_keyless : (R : RattleType) → IsSend R → (a : Global) (p : Ptr) (v : Option R.Denot) → Keyless (kept R a p v)
kept_keyless R sent a p None = tt
kept_keyless R sent a null_ptr (Some x) = (tt, frees.frees a (raw (lone R.mir)) null_ptr)
kept_keyless R sent a (block_ptr b o) (Some x) = (part_keyless R sent full_share x b o, frees.frees a (raw (lone R.mir)) (block_ptr b o))
