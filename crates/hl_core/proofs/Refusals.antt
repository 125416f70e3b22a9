-- What calls with a fault and without one answer, and what they leave.
use Rattle.std.proofs.Common.{◌≡◌, Bool, true, false, cond, refl, ap, ◌∙◌}
use Rattle.std.specs.Prelude.{Option, Some, None, Ok, Err}
use Rattle.hl_model.specs.declared.fault.Fault.{Fault}
use Rattle.hl_model.specs.Replies.{unless_fault, unless_refused}
use Rattle.hl_laws.proofs.NoFaultLaws.{unless_err, unless_ok}

-- a call with a fault leaves the old value
pub call_refuses : {X Y : Type 0} (o : Option Fault) (f : Fault) (x : X) (old good new : Y) → Err f ≡ unless_fault o x → new ≡ unless_refused o old good → (o ≡ Some f) × (new ≡ old)
call_refuses o f x old good new h e = let some : o ≡ Some f = unless_err o f x h in (some, e ∙ ap (λ p. unless_refused p old good) some)

-- and one without the new one
pub call_accepts : {X Y : Type 0} (o : Option Fault) (v x : X) (old good new : Y) → Ok v ≡ unless_fault o x → new ≡ unless_refused o old good → (o ≡ None) × (new ≡ good)
call_accepts o v x old good new h e = let none : o ≡ None = (unless_ok o v x h).0 in (none, e ∙ ap (λ p. unless_refused p old good) none)

-- a test of one fault that refused, and one that passed
pub refused_by_test : {X : Type 0} (fault f : Fault) (b : Bool) (x : X) → Err f ≡ cond b (Ok x) (Err fault) → (b ≡ false) × (f ≡ fault)
refused_by_test fault f true x h = cc
refused_by_test fault f false x h = (refl, cc)

pub passed_by_test : {X : Type 0} (fault : Fault) (b : Bool) (v x : X) → Ok v ≡ cond b (Ok x) (Err fault) → (b ≡ true) × (v ≡ x)
passed_by_test fault true v x h = (refl, cc)
passed_by_test fault false v x h = cc
