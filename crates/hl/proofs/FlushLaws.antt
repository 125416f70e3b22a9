-- What a flush of a session meets and places.
use Rattle.std.proofs.Common.{rules, ◌≡◌, ℕ, ◌+◌, ◌*◌, ◌^◌, ◌<◌, ◌≤◌, ◌⊎◌, Bool, true, false, List, [], ◌∷◌, ◌++◌, Some, None, Option, Result, Ok, Err, inl, inr, ⊎_elim, refl, sym, ap, ◌∙◌, subst, arith, append_assoc}
use Rattle.std.specs.Prelude.{nat_le, nat_lt, if◌then◌else◌, IfOk, MatchResult}
use Rattle.std.proofs.lemmas.Bool.{cases_lt, lt-leb, le-leb}
use Rattle.std.specs.List.{AllByRecursion as Every}
use Rattle.std.proofs.lemmas.Bool.Decides.{nat_tests}
use Rattle.hl_model.specs.declared.fault.Fault.{Fault}
use Rattle.hl_model.specs.declared.fault.Fault.TheVariants.{AboveTail}
use Rattle.hl_model.specs.declared.snapshot.Snapshot.{Snapshot}
use Rattle.hl_model.specs.declared.view.Six.{Six}
use Rattle.hl_model.specs.Sizes.{Sizes, AreInRange}
use Rattle.hl_laws.proofs.BoundLaws.{tail-le}
use Rattle.hl_words.specs.States.{RiderState}
use Rattle.hl_words.proofs.Cut.{every_append, every_weaker}
use Rattle.hl_domain.specs.Domains.{DomainState}
use Rattle.hl_domain.specs.Riders.{LooksAtAll}
use Rattle.hl_traces.specs.declared.act.Act.{Act}
use Rattle.hl_traces.specs.declared.act.Act.TheVariants.{Placed, Met}
use Rattle.hl.specs.Flushes.{answer_at}
use Rattle.hl.specs.LastSession.{flushed_by, why_unflushed}
use Rattle.hl.specs.Sessions.{SessionState}
use Rattle.hl.specs.Traces.{acts, if_ok, ArePads, Meets, OnlyMeets, OnlyPads}

pub pads_both : (xs ys : List Act) → ArePads xs → ArePads ys → ArePads (xs ++ ys)
pads_both xs ys one two = every_append (λ (act : Act). ((n : ℕ) × (act ≡ Met n)) ⊎ ((a n : ℕ) × (act ≡ Placed a n))) xs ys one two

-- one after another
pub pads_then : (a b c : SessionState) → OnlyPads a b → OnlyPads b c → OnlyPads a c
pads_then a b c one two = (
  two.0 ++ one.0,
  pads_both two.0 one.0 two.1 one.1,
  two.2 ∙ ap (λ (l : List Act). two.0 ++ l) one.2 ∙ sym (append_assoc two.0 one.0 (acts a)),
)

pub pads_none : (a b : SessionState) → acts b ≡ acts a → OnlyPads a b
pads_none a b same = ([], tt, same)

-- calls alone
pub pads_of_met : (own : List Act) → Every (λ (act : Act). (n : ℕ) × (act ≡ Met n)) own → ArePads own
pads_of_met own met = every_weaker (λ (act : Act). (n : ℕ) × (act ≡ Met n)) (λ (act : Act). ((n : ℕ) × (act ≡ Met n)) ⊎ ((a n : ℕ) × (act ≡ Placed a n))) own (λ act is. inl is) met

pub pads_of_meets : (a b : SessionState) → OnlyMeets a b → OnlyPads a b
pads_of_meets a b m = (m.0, pads_of_met m.0 m.1, m.2)

pub pads_one : (a b : SessionState) → Meets [] a b → OnlyPads a b
pads_one a b m = (Met m.0 ∷ [], (inl (m.0, refl), tt), m.1)

-- a record that was placed, or refused
pub pads_placed : (n : ℕ) (result : Result ℕ Fault) (a b : SessionState) → Meets (if_ok (λ a. Placed a n ∷ []) result) a b → OnlyPads a b
pads_placed n (Ok at) a b m = (Placed at n ∷ Met m.0 ∷ [], (inr (at, n, refl), (inl (m.0, refl), tt)), m.1)
pads_placed n (Err fault) a b m = pads_one a b m

-- where the tail is that a call was told
pub told_range : (F : Type 0) (log : DomainState) (told : Snapshot × ℕ × ℕ) (old new : RiderState) → LooksAtAll F log told old new → (told.0.six.tail ≤ 2 ^ 48) × (0 < log.sizes.page_size) × (log.sizes.page_size ≤ 2 ^ 20)
told_range F log told old new met =
    let stands = met.met.stands.core_stands in
    let is = ap (λ (s : Snapshot). s.six.tail) (met.holds.1 met.list met.met.stands) in
    let range = subst AreInRange met.met.sizes_are stands.in_range in
    (omega (arith, is, tail-le met.before.core.sizes met.list stands.accepted), omega (arith, range.page_size_least), range.page_size_most)

-- a flush goes on at an address that isn't above the tail
pub going_below : (six : Six) (a : ℕ) → answer_at six a ≡ None → a ≤ six.tail
going_below six a going = by (nat_le a six.flushed) refl (nat_lt six.tail a) refl
  where
    by : (b : Bool) → nat_le a six.flushed ≡ b → (c : Bool) → nat_lt six.tail a ≡ c → a ≤ six.tail
    by true e c f = absurd (let told = sym (ap (λ (b : Bool). if b then Some (Ok six.flushed) else (if nat_lt six.tail a then Some (Err AboveTail) else None)) e) ∙ going in cc told)
    by false e true f = absurd (let told = sym (ap (λ (b : Bool). if b then Some (Ok six.flushed) else (if nat_lt six.tail a then Some (Err AboveTail) else None)) e ∙ ap (λ (b : Bool). if b then Some (Err AboveTail) else None) f) ∙ going in cc told)
    by false e false f = search (rules, nat_tests)

-- one that is answered with an offset reached the address
pub reached : (six : Six) (a : ℕ) (result : Result ℕ Fault) → answer_at six a ≡ Some result → IfOk result (λ flushed. a ≤ flushed)
reached six a (Err fault) told = tt
reached six a (Ok flushed) told = by (nat_le a six.flushed) refl (nat_lt six.tail a) refl
  where
    by : (b : Bool) → nat_le a six.flushed ≡ b → (c : Bool) → nat_lt six.tail a ≡ c → a ≤ flushed
    by true e c f =
        let is : six.flushed ≡ flushed = (let t = sym (ap (λ (b : Bool). if b then Some (Ok six.flushed) else (if nat_lt six.tail a then Some (Err AboveTail) else None)) e) ∙ told in cc t) in
        let least : a ≤ six.flushed = search (rules, nat_tests) in
        omega (arith, is, least)
    by false e true f = absurd (let t = sym (ap (λ (b : Bool). if b then Some (Ok six.flushed) else (if nat_lt six.tail a then Some (Err AboveTail) else None)) e ∙ ap (λ (b : Bool). if b then Some (Err AboveTail) else None) f) ∙ told in cc t)
    by false e false f = absurd (let t = sym (ap (λ (b : Bool). if b then Some (Ok six.flushed) else (if nat_lt six.tail a then Some (Err AboveTail) else None)) e ∙ ap (λ (b : Bool). if b then Some (Err AboveTail) else None) f) ∙ told in cc t)

-- how far a log was flushed at its close
pub told_flushed : (answer : Option (Result ℕ Fault)) (six : Six) (result : Result ℕ Fault) → result ≡ flushed_by answer six → MatchResult result (λ flushed. (flushed ≡ six.flushed) × (six.tail ≤ six.flushed)) (λ fault. six.flushed < six.tail)
told_flushed answer six result told = ⊎_elim
    (λ (less : six.flushed < six.tail).
    let is : result ≡ Err (why_unflushed answer) = told ∙ ap (λ (b : Bool). if b then Ok six.flushed else Err (why_unflushed answer)) (lt-leb six.tail six.flushed less) in
    subst (λ (r : Result ℕ Fault). MatchResult r (λ flushed. (flushed ≡ six.flushed) × (six.tail ≤ six.flushed)) (λ fault. six.flushed < six.tail)) (sym is) less)
    (λ (far : six.tail ≤ six.flushed).
    let is : result ≡ Ok six.flushed = told ∙ ap (λ (b : Bool). if b then Ok six.flushed else Err (why_unflushed answer)) (le-leb six.tail six.flushed far) in
    subst (λ (r : Result ℕ Fault). MatchResult r (λ flushed. (flushed ≡ six.flushed) × (six.tail ≤ six.flushed)) (λ fault. six.flushed < six.tail)) (sym is) (refl, far))
    (cases_lt six.flushed six.tail)
