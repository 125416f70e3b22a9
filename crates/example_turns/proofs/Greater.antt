-- Two calls of one list, of which the later one's rider was told of the earlier one.
use Rattle.std.proofs.Common.{◌≡◌, ℕ, ◌+◌, ◌<◌, List, [], ◌∷◌, ◌++◌, Some, refl, ap, sym, subst, arith}
use Rattle.std.specs.Prelude.{if◌then◌else◌, Ok, Option, None}
use Rattle.hl_model.specs.declared.fault.Fault.{Fault}
use Rattle.hl_model.specs.Replies.{unless_fault}
use Rattle.std.proofs.lemmas.List.Sums.{sum_by-append}
use Rattle.hl_model.specs.declared.step.Step.{Step}
use Rattle.hl_model.specs.declared.step.Step.TheVariants.{Bare}
use Rattle.hl_model.specs.Sizes.{Sizes}
use Rattle.hl_model.specs.Epochs.{is_bump}
use Rattle.hl_model.specs.Actions.{bumps}
use Rattle.hl_history.specs.declared.view.Entry.{Entry}
use Rattle.hl_history.specs.Lists.{entry, left_by, Begins}
use Rattle.hl_words.specs.States.{RiderState, new_rider}
use Rattle.hl_keeper.specs.Endings.{EndingState}
use Rattle.hl_domain.specs.Domains.{IsEnding, with_entry}
use Rattle.hl_domain.specs.Told.{ToldCallsBegin}
use Rattle.example_turns.specs.declared.after.Numbers.{Numbers}
use Rattle.example_turns.specs.After.{BumpedFirst, BumpedTold, told_rider, InOrder}

-- what an accepted call is answered
pub told_so : (fault : Option Fault) (n x : ℕ) → Ok n ≡ unless_fault fault x → n ≡ x
told_so None n x e = cc e
told_so (Some f) n x e = absurd (cc e)

bumps-append : (xs ys : List Step) → bumps (xs ++ ys) ≡ bumps xs + bumps ys
unfolding bumps
bumps-append xs ys = sum_by-append (λ s. if is_bump s then 1 else 0) xs ys

one_bump : bumps (Bare ∷ []) ≡ 1
unfolding bumps
one_bump = refl

-- a list with one bump more than a longer one
later : (l m : List Step) → Begins (l ++ Bare ∷ []) m → bumps (l ++ Bare ∷ []) < bumps (m ++ Bare ∷ [])
later l m b = omega (arith, ap bumps b.1, bumps-append (l ++ Bare ∷ []) b.0, bumps-append m (Bare ∷ []), one_bump)

in_order : {F : Type 0} (sizes : Sizes) (one two : RiderState) (ending : EndingState F) (a b : ℕ) → ToldCallsBegin F → BumpedFirst a one → BumpedTold b two → IsEnding sizes (one ∷ two ∷ []) ending → a < b
in_order {F} sizes one two ending a b law p q end =
    let r : RiderState = with_entry p.was p.now p.list (Bare ∷ []) (new_rider 0) in
    let s : RiderState = with_entry q.was q.now q.list (Bare ∷ []) told_rider in
    let first : IsEnding sizes (r ∷ two ∷ []) ending = subst (λ (x : RiderState). IsEnding sizes (x ∷ two ∷ []) ending) p.is end in
    let both : IsEnding sizes (r ∷ s ∷ []) ending = subst (λ (x : RiderState). IsEnding sizes (r ∷ x ∷ []) ending) q.is first in
    let met = law sizes (r ∷ s ∷ []) ending 1 0 _ _ _ _ s r [] [] [] [] [] [] both refl refl refl refl in
    let e : entry q.list (Bare ∷ []) ≡ met.0 = cc met.2 in
    let d : entry p.list (Bare ∷ []) ≡ met.1 = cc met.3 in
    let begins : Begins (p.list ++ Bare ∷ []) q.list = subst (λ (x : Entry). Begins (p.list ++ Bare ∷ []) x.before) (sym e) (subst (λ (x : Entry). Begins (left_by x) met.0.before) (sym d) met.4) in
    omega (arith, p.number_is, q.number_is, later p.list q.list begins)

pub told_later : {F P : Type 0} (sizes : Sizes) (one two : RiderState) (numbers : Numbers F P) → ToldCallsBegin F → BumpedFirst numbers.first one → BumpedTold numbers.second two → IsEnding sizes (one ∷ two ∷ []) numbers.ending → InOrder sizes numbers
told_later sizes one two numbers law p q end = record { one = one; two = two; first = p; second = q; ends = end; less = in_order sizes one two numbers.ending numbers.first numbers.second law p q end }
