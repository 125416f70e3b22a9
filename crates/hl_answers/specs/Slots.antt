-- What a slot owns.
use Rattle.std.specs.Prelude.{ℕ}
use base.Fml.{Fml, ftrue}
use denote.RattleType.{RattleType}
use denote.RawPtr.{Ptr}
use Rattle.std.specs.declared.option.Option.{Option}
use Rattle.std.specs.declared.option.Option.TheVariants.{None, Some}
use Rattle.std.specs.declared.alloc.Global.{Global}
use Rattle.std.specs.contracts.impls.GlobalAllocator.TheImpl.{ghosts}
use Rattle.std_alloc.specs.Box.Ownership.{box_owns}

-- nothing, or the block of this value of a type
abbrev pub kept : (R : RattleType) → Global → Ptr → Option R.Denot → Fml
kept R a p None = ftrue
kept R a p (Some x) = box_owns (ghosts.dealloc_token a) R p x

-- 1 where there is one, else 0
abbrev pub is_live : {X : Type 0} → Option X → ℕ
is_live None = 0
is_live (Some x) = 1
