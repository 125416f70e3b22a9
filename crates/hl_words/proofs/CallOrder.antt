-- No call of the one order left the one list farther than its newest call.
use Rattle.std.proofs.Common.{ℕ, List, [], ◌∷◌, sym, subst, arith}
use Rattle.std.specs.List.{AllByRecursion as Every}
use Rattle.hl_words.specs.declared.view.Extent.{Extent}
use Rattle.hl_words.specs.declared.view.Touch.{Touch}
use Rattle.hl_words.specs.declared.view.Touch.TheVariants.{Stored, Loaded, Changed, Called, Looked, Met}
use Rattle.hl_words.specs.Rule.{TouchBy, by_rider, called_by, last_called, RisesTo, Finds, IsSerial}
use Rattle.hl_words.proofs.Cut.{every_weaker}

-- no call that left the one list farther than this
abbrev pub IsUpTo : Extent → Touch → Type 0
IsUpTo e (Stored d v) = Unit {0}
IsUpTo e (Loaded d v) = Unit {0}
IsUpTo e (Changed d found v) = Unit {0}
IsUpTo e (Called met left) = RisesTo left e
IsUpTo e (Looked which x) = Unit {0}
IsUpTo e (Met name count) = Unit {0}

-- farther fits as well
up_to_more : (m n : Extent) → RisesTo m n → (t : Touch) → IsUpTo m t → IsUpTo n t
up_to_more m n le (Stored d v) h = tt
up_to_more m n le (Loaded d v) h = tt
up_to_more m n le (Changed d w v) h = tt
up_to_more m n le (Called met left) h = (omega (arith, le.0, h.0), omega (arith, le.1, h.1))
up_to_more m n le (Looked w x) h = tt
up_to_more m n le (Met name count) h = tt

still : (e : Extent) → RisesTo e e
still e = (omega arith, omega arith)

-- the newest touch
newest_up_to : (before : List TouchBy) (t : Touch) → Finds before t → IsUpTo (called_by t (last_called before)) t × RisesTo (last_called before) (called_by t (last_called before))
newest_up_to before (Stored d v) h = (tt, still (last_called before))
newest_up_to before (Loaded d v) h = (tt, still (last_called before))
newest_up_to before (Changed d w v) h = (tt, still (last_called before))
newest_up_to before (Called met left) h = (still left, subst (λ e. RisesTo e left) h.0 h.1)
newest_up_to before (Looked w x) h = (tt, still (last_called before))
newest_up_to before (Met name count) h = (tt, still (last_called before))

calls_up_to : (order : List TouchBy) → IsSerial order → Every (λ (t : TouchBy). IsUpTo (last_called order) t.touch) order
calls_up_to [] h = tt
calls_up_to (t ∷ before) h =
    let one = newest_up_to before t.touch h.0 in (
      one.0,
      every_weaker (λ (s : TouchBy). IsUpTo (last_called before) s.touch) (λ (s : TouchBy). IsUpTo (last_called (t ∷ before)) s.touch) before
          (λ s e. up_to_more (last_called before) (last_called (t ∷ before)) one.1 s.touch e) (calls_up_to before h.1),
    )

-- so a call met all that those before it left
pub met_all : (i : ℕ) (met left : Extent) (before : List TouchBy) → IsSerial (by_rider i (Called met left) ∷ before) → Every (λ (t : TouchBy). IsUpTo met t.touch) before
met_all i met left before h = subst (λ e. Every (λ (t : TouchBy). IsUpTo e t.touch) before) (sym h.0.0) (calls_up_to before h.1)
