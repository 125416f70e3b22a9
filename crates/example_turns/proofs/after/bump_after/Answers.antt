use Rattle.std.proofs.Common.{rules, ◌≡◌, [], ◌∷◌, ℕ, Ok, Some, IfOk, IfSome, subst}
use Rattle.hl_words.specs.States.{RiderState}
use Rattle.hl_domain.specs.Domains.{IsEnding}
use Rattle.example_turns.specs.After.{BumpedFirst, BumpedTold}
use Rattle.example_turns.proofs.Greater.{told_later}
use Rattle.example_turns.proofs.after.bump_after.Goals as goal

pub returns : goal.returns
returns g c =
    let r = c.join-one.result in
    let one : RiderState = r.0.1 in
    let two : RiderState = r.1.1 in
    let a : ℕ = c.in_ok-first.first in
    let b : ℕ = c.in_ok-second.second in
    let ending = c.in_ok-ending.ending in
    let sizes = c.args.domain.sizes in
    let a_is : r.0.0 ≡ Some a = search rules in
    let b_is : r.1.0 ≡ Some b = search rules in
    let closed : c.close.result ≡ Ok ending = search rules in
    let riders : c.push-2.new.self.items ≡ one ∷ two ∷ [] = search rules in
    let first : BumpedFirst a one = subst (λ k. IfSome k (λ m. BumpedFirst m one)) a_is c.join-one.ensures.first in
    let second : BumpedTold b two = subst (λ k. IfSome k (λ m. BumpedTold m two)) b_is c.join-one.ensures.second in
    let ended : IsEnding sizes c.push-2.new.self.items ending = subst (λ k. IfOk k (IsEnding sizes c.push-2.new.self.items)) closed c.close.ensures.ending in
    told_later sizes one two (record { first = a; second = b; ending = ending }) c.told_calls_begin.ensures first second (subst (λ l. IsEnding sizes l ending) riders ended)
