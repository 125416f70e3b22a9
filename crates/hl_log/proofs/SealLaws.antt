-- What some steps come to that a log makes up to the first that it refuses.
use Rattle.std.proofs.Common.{◌≡◌, ℕ, ◌+◌, List, Bool, true, false, cond, nat_lt, is_none, [], ◌∷◌, ◌++◌, refl, sym, ap, ap₂, ◌∙◌, subst}
use lib.Dec.{T}
use Rattle.std.specs.Prelude.{Option, Some, None, Result, Ok, Err}
use Rattle.hl_model.specs.declared.fault.Fault.{Fault}
use Rattle.hl_model.specs.declared.step.Reply.{Reply}
use Rattle.hl_model.specs.declared.step.Step.{Step}
use Rattle.hl_model.specs.declared.step.Step.TheVariants.{Allocate, Raise, Settle}
use Rattle.hl_model.specs.declared.view.Six.{Six}
use Rattle.hl_model.specs.Actions.{bumps}
use Rattle.hl_model.specs.Snapshots.{six}
use Rattle.hl_model.specs.Sizes.{Sizes}
use Rattle.hl_model.specs.Replies.{fault_of, or_fault, unless_fault, answer_of}
use Rattle.hl_lag.specs.Lag.{step_if}
use Rattle.hl_log.specs.declared.sealed.Sealed.{Sealed}
use Rattle.hl_log.specs.Logs.{StandsAt, Stepped, Moves}
use Rattle.hl_log.specs.Seals.{words_left, page_end, made_in, first_fault, fault_in, reply_if, ticket_told, due_at, sealed_at, Goes, SealsFor}
use Rattle.hl_log.specs.States.{LogState}

-- an accepted step, and those behind it
made-accepted : (sizes : Sizes) (A : List Step) (s : Step) (L : List Step) → fault_of sizes A s ≡ None → made_in sizes A (s ∷ L) ≡ made_in sizes (A ++ s ∷ []) L
unfolding made_in
made-accepted sizes A s L h = ap (λ o. cond (is_none o) (made_in sizes (A ++ s ∷ []) L) A) h

-- a refused one: none behind it is made
made-refused : (sizes : Sizes) (A : List Step) (s : Step) (L : List Step) (f : Fault) → fault_of sizes A s ≡ Some f → made_in sizes A (s ∷ L) ≡ A
unfolding made_in
made-refused sizes A s L f h = ap (λ o. cond (is_none o) (made_in sizes (A ++ s ∷ []) L) A) h

first-accepted : (sizes : Sizes) (A : List Step) (s : Step) (L : List Step) → fault_of sizes A s ≡ None → first_fault sizes A (s ∷ L) ≡ first_fault sizes (A ++ s ∷ []) L
unfolding first_fault
first-accepted sizes A s L h = ap (λ o. or_fault o (first_fault sizes (A ++ s ∷ []) L)) h

first-refused : (sizes : Sizes) (A : List Step) (s : Step) (L : List Step) (f : Fault) → fault_of sizes A s ≡ Some f → first_fault sizes A (s ∷ L) ≡ Some f
unfolding first_fault
first-refused sizes A s L f h = ap (λ o. or_fault o (first_fault sizes (A ++ s ∷ []) L)) h

-- of no steps none is made, and none refused
pub made-none : (sizes : Sizes) (A : List Step) → made_in sizes A [] ≡ A
unfolding made_in
made-none sizes A = refl

pub first-none : (sizes : Sizes) (A : List Step) → first_fault sizes A [] ≡ None
unfolding first_fault
first-none sizes A = refl

-- of one step
pub made-one : (sizes : Sizes) (A : List Step) (s : Step) → made_in sizes A (s ∷ []) ≡ cond (is_none (fault_of sizes A s)) (A ++ s ∷ []) A
unfolding made_in
made-one sizes A s = refl

pub first-one : (sizes : Sizes) (A : List Step) (s : Step) → first_fault sizes A (s ∷ []) ≡ fault_of sizes A s
unfolding first_fault
first-one sizes A s = by_fault (fault_of sizes A s)
  where
    by_fault : (o : Option Fault) → or_fault o None ≡ o
    by_fault None = refl
    by_fault (Some f) = refl

-- both at once
pub record Both (sizes : Sizes) (A L M : List Step) : Type 0 where
  pub made : made_in sizes A (L ++ M) ≡ made_in sizes (made_in sizes A L) M
  pub first : first_fault sizes A (L ++ M) ≡ first_fault sizes (made_in sizes A L) M

none_isn't : (f : Fault) → Some f ≡ None → ⊥
none_isn't f h = cc

both_next : (sizes : Sizes) (A : List Step) (s : Step) (L M : List Step) (o : Option Fault) → fault_of sizes A s ≡ o → first_fault sizes A (s ∷ L) ≡ None → (fault_of sizes A s ≡ None → Both sizes (A ++ s ∷ []) L M) → Both sizes A (s ∷ L) M
both_next sizes A s L M None is h next =
    let rest : Both sizes (A ++ s ∷ []) L M = next is in
    let here : made_in sizes A (s ∷ L) ≡ made_in sizes (A ++ s ∷ []) L = made-accepted sizes A s L is in record {
      made = made-accepted sizes A s (L ++ M) is ∙ rest.made ∙ ap (λ B. made_in sizes B M) (sym here);
      first = first-accepted sizes A s (L ++ M) is ∙ rest.first ∙ ap (λ B. first_fault sizes B M) (sym here);
    }
both_next sizes A s L M (Some f) is h next = absurd (none_isn't f (sym (first-refused sizes A s L f is) ∙ h))

-- where none of L is refused, M is made behind it
pub both : (sizes : Sizes) (A L M : List Step) → first_fault sizes A L ≡ None → Both sizes A L M
both sizes A [] M h = record {
  made = ap (λ B. made_in sizes B M) (sym (made-none sizes A));
  first = ap (λ B. first_fault sizes B M) (sym (made-none sizes A));
}
both sizes A (s ∷ L) M h = both_next sizes A s L M (fault_of sizes A s) refl h (λ is. both sizes (A ++ s ∷ []) L M (sym (first-accepted sizes A s L is) ∙ h))

-- where one of L is refused, none of M is made
record Stopped (sizes : Sizes) (A L M : List Step) (f : Fault) : Type 0 where
  made : made_in sizes A (L ++ M) ≡ made_in sizes A L
  first : first_fault sizes A (L ++ M) ≡ Some f

stopped_next : (sizes : Sizes) (A : List Step) (s : Step) (L M : List Step) (f : Fault) (o : Option Fault) → fault_of sizes A s ≡ o → first_fault sizes A (s ∷ L) ≡ Some f → (fault_of sizes A s ≡ None → Stopped sizes (A ++ s ∷ []) L M f) → Stopped sizes A (s ∷ L) M f
stopped_next sizes A s L M f None is h next =
    let rest : Stopped sizes (A ++ s ∷ []) L M f = next is in record {
      made = made-accepted sizes A s (L ++ M) is ∙ rest.made ∙ sym (made-accepted sizes A s L is);
      first = first-accepted sizes A s (L ++ M) is ∙ rest.first;
    }
stopped_next sizes A s L M f (Some g) is h next = record {
  made = made-refused sizes A s (L ++ M) g is ∙ sym (made-refused sizes A s L g is);
  first = first-refused sizes A s (L ++ M) g is ∙ sym (first-refused sizes A s L g is) ∙ h;
}

stopped : (sizes : Sizes) (A L M : List Step) (f : Fault) → first_fault sizes A L ≡ Some f → Stopped sizes A L M f
stopped sizes A [] M f h = absurd (none_isn't f (sym h ∙ first-none sizes A))
stopped sizes A (s ∷ L) M f h = stopped_next sizes A s L M f (fault_of sizes A s) refl h (λ is. stopped sizes (A ++ s ∷ []) L M f (sym (first-accepted sizes A s L is) ∙ h))

-- a log made L, and then M behind it
pub goes_on : {X Y : Type 0} (old mid new : LogState) (A L M : List Step) (x : Result X Fault) (y : Result Y Fault)
    → Goes old A L mid x → fault_in x ≡ None → ((B : List Step) → StandsAt mid B → Goes mid B M new y) → Goes old A (L ++ M) new y
goes_on old mid new A L M x y first none second =
    let z : Sizes = old.core.sizes in
    let B : List Step = made_in z A L in
    let next : Goes mid B M new y = second B first.standing in
    let parts : Both z A L M = both z A L M (sym first.met ∙ none) in record {
      met = next.met ∙ ap (λ (c : Sizes). first_fault c B M) first.sizes ∙ sym parts.first;
      sizes = next.sizes ∙ first.sizes;
      standing = subst (λ (C : List Step). StandsAt new C) (ap (λ (c : Sizes). made_in c B M) first.sizes ∙ sym parts.made) next.standing;
    }

-- a log that refused one of L made none of M
pub goes_no_further : {X : Type 0} (old new : LogState) (A L M : List Step) (x : Result X Fault) (f : Fault)
    → Goes old A L new x → fault_in x ≡ Some f → Goes old A (L ++ M) new x
goes_no_further old new A L M x f first some =
    let parts : Stopped old.core.sizes A L M f = stopped old.core.sizes A L M f (sym first.met ∙ some) in record {
      met = some ∙ sym parts.first;
      sizes = first.sizes;
      standing = subst (λ (C : List Step). StandsAt new C) (sym parts.made) first.standing;
    }

fault_in-unless : {X : Type 0} (o : Option Fault) (x : X) → fault_in (unless_fault o x) ≡ o
fault_in-unless None x = refl
fault_in-unless (Some f) x = refl

-- a step that isn't due
pub goes_nowhere : {X : Type 0} (log : LogState) (A : List Step) (due : Bool) (s : Step) (result : Result X Fault)
    → due ≡ false → fault_in result ≡ None → StandsAt log A → Goes log A (step_if due s) log result
goes_nowhere log A true s result isn't none at = absurd (subst T isn't tt)
goes_nowhere log A false s result isn't none at = record {
  met = none ∙ sym (first-none log.core.sizes A);
  sizes = refl;
  standing = subst (λ (B : List Step). StandsAt log B) (sym (made-none log.core.sizes A)) at;
}

-- a step that is due
pub goes_once : {X : Type 0} (old new : LogState) (A : List Step) (due : Bool) (s : Step) (reply : Result Reply Fault) (result : Result X Fault)
    → due ≡ true → Moves old s new reply → fault_in result ≡ fault_in reply → StandsAt old A → Goes old A (step_if due s) new result
goes_once old new A false s reply result isn't moves same at = absurd (subst T (sym isn't) tt)
goes_once old new A true s reply result isn't moves same at =
    let stepped : Stepped old A s new reply = moves.made A at in record {
      met = same ∙ ap fault_in stepped.reply ∙ fault_in-unless (fault_of old.core.sizes A s) _ ∙ sym (first-one old.core.sizes A s);
      sizes = stepped.sizes;
      standing = subst (λ (B : List Step). StandsAt new B) (sym (made-one old.core.sizes A s)) stepped.standing;
    }

-- the steps of a seal at these offsets, where so many words are left
abbrev pub steps_at : ℕ → Six → ℕ → List Step
steps_at t six left =
    step_if (nat_lt 0 left) (Allocate t left) ++ step_if (nat_lt six.read_only (six.tail + left)) (Raise (six.tail + left))
    ++ step_if (nat_lt six.safe_read_only (six.tail + left)) Settle

-- these are those that are due
record AreDue (sizes : Sizes) (t : ℕ) (A : List Step) (offsets : Six) (left : ℕ) : Type 0 where
  steps : steps_at t offsets left ≡ due_at sizes t A
  address : offsets.tail + left ≡ page_end sizes.page_size (six sizes A).tail
  waits : nat_lt offsets.safe_read_only (offsets.tail + left) ≡ nat_lt (six sizes A).safe_read_only (page_end sizes.page_size (six sizes A).tail)

are_due : (sizes : Sizes) (t : ℕ) (A : List Step) (offsets : Six) (left : ℕ) → offsets ≡ six sizes A → left ≡ words_left sizes.page_size offsets.tail → AreDue sizes t A offsets left
are_due sizes t A offsets left six_is left_is =
    let here : left ≡ words_left sizes.page_size (six sizes A).tail = left_is ∙ ap (λ (s : Six). words_left sizes.page_size s.tail) six_is in record {
      steps = ap₂ (steps_at t) six_is here;
      address = ap₂ (λ (s : Six) (n : ℕ). s.tail + n) six_is here;
      waits = ap₂ (λ (s : Six) (n : ℕ). nat_lt s.safe_read_only (s.tail + n)) six_is here;
    }

-- one of them was refused
pub seals_refused : {X : Type 0} (t : ℕ) (old new : LogState) (A : List Step) (offsets : Six) (left : ℕ) (f : Fault) (x : Result X Fault) (result : Result Sealed Fault)
    → offsets ≡ six old.core.sizes A → left ≡ words_left old.core.sizes.page_size offsets.tail → Goes old A (steps_at t offsets left) new x → fault_in x ≡ Some f → result ≡ Err f → SealsFor t old A new result
seals_refused t old new A offsets left f x result six_is left_is goes met is =
    let z : Sizes = old.core.sizes in
    let due : AreDue z t A offsets left = are_due z t A offsets left six_is left_is in
    let some : Some f ≡ first_fault z A (due_at z t A) = sym met ∙ goes.met ∙ ap (first_fault z A) due.steps in record {
      reply = is ∙ ap (λ (o : Option Fault). unless_fault o (sealed_at z.page_size (six z A) (made_in z A (due_at z t A)))) some;
      sizes = goes.sizes;
      standing = subst (λ (L : List Step). StandsAt new (made_in z A L)) due.steps goes.standing;
    }

-- none was
pub seals_made : {X : Type 0} (t : ℕ) (old new : LogState) (A : List Step) (offsets : Six) (left : ℕ) (ticket : Option ℕ) (x : X)
    → offsets ≡ six old.core.sizes A → left ≡ words_left old.core.sizes.page_size offsets.tail → Goes {X = X} old A (steps_at t offsets left) new (Ok x)
    → ticket ≡ cond (nat_lt offsets.safe_read_only (offsets.tail + left)) (Some (bumps (made_in old.core.sizes A (steps_at t offsets left)))) None
    → SealsFor t old A new (Ok (record { address = offsets.tail + left; ticket = ticket }))
seals_made t old new A offsets left ticket x six_is left_is goes told =
    let z : Sizes = old.core.sizes in
    let due : AreDue z t A offsets left = are_due z t A offsets left six_is left_is in
    let none : None ≡ first_fault z A (due_at z t A) = goes.met ∙ ap (first_fault z A) due.steps in
    let list : made_in z A (steps_at t offsets left) ≡ made_in z A (due_at z t A) = ap (made_in z A) due.steps in
    let tickets : ticket ≡ (sealed_at z.page_size (six z A) (made_in z A (due_at z t A))).ticket = told ∙ ap₂ (λ (b : Bool) (B : List Step). cond b (Some (bumps B)) None) due.waits list in record {
      reply = ap₂ (λ (a : ℕ) (o : Option ℕ). Ok (record { address = a; ticket = o })) due.address tickets ∙ ap (λ (o : Option Fault). unless_fault o (sealed_at z.page_size (six z A) (made_in z A (due_at z t A)))) none;
      sizes = goes.sizes;
      standing = subst (λ (L : List Step). StandsAt new (made_in z A L)) due.steps goes.standing;
    }

-- the ticket of a settle that was made where it is due
pub settle_ticket : (z y : Sizes) (B : List Step) (due : Bool) (told : Option Reply) (ticket : Option ℕ)
    → first_fault z B (step_if due Settle) ≡ None → told ≡ cond due (Some (answer_of y B (B ++ Settle ∷ []) Settle)) None → ticket ≡ ticket_told told
    → ticket ≡ cond due (Some (bumps (made_in z B (step_if due Settle)))) None
settle_ticket z y B false told ticket none is given = given ∙ ap ticket_told is
settle_ticket z y B true told ticket none is given =
    let fault : fault_of z B Settle ≡ None = sym (first-one z B Settle) ∙ none in
    given ∙ ap ticket_told is ∙ ap (λ (C : List Step). Some (bumps C)) (sym (made-one z B Settle ∙ ap (λ (o : Option Fault). cond (is_none o) (B ++ Settle ∷ []) B) fault))

-- so it is where the settle is the last of some steps
pub ticket_at : {X : Type 0} (old mid new : LogState) (A L : List Step) (due : Bool) (x : Result X Fault) (told : Option Reply) (ticket : Option ℕ)
    → Goes old A L mid x → fault_in x ≡ None → ((B : List Step) → StandsAt mid B → Goes mid B (step_if due Settle) new (Ok told)) → ((B : List Step) → StandsAt mid B → told ≡ reply_if due mid B Settle) → ticket ≡ ticket_told told
    → ticket ≡ cond due (Some (bumps (made_in old.core.sizes A (L ++ step_if due Settle)))) None
ticket_at old mid new A L due x told ticket first none second replied given =
    let z : Sizes = old.core.sizes in
    let B : List Step = made_in z A L in
    let next : Goes mid B (step_if due Settle) new (Ok told) = second B first.standing in
    let parts : Both z A L (step_if due Settle) = both z A L (step_if due Settle) (sym first.met ∙ none) in
    settle_ticket mid.core.sizes mid.core.sizes B due told ticket (sym next.met) (replied B first.standing) given
    ∙ ap (λ (C : List Step). cond due (Some (bumps C)) None) (ap (λ (c : Sizes). made_in c B (step_if due Settle)) first.sizes ∙ sym parts.made)
