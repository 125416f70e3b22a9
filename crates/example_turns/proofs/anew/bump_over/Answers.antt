use Rattle.std.proofs.Common.{rules, ◌≡◌, ℕ, zero, suc, List, [], ◌∷◌, ◌++◌, refl, sym, subst}
use Rattle.std.specs.List.{AllByRecursion as Every}
use Rattle.hl_history.proofs.Calls.{every_back, every_front, every_append}
use Rattle.hl_words.specs.States.{RiderState, new_rider, new_riders}
use Rattle.example_turns.proofs.anew.bump_over.Goals as goal

-- riders that were just made have made no call
fresh : (n : ℕ) → Every (λ r. r.calls ≡ []) (new_riders n)
fresh zero = tt
fresh (suc n) = every_append (λ (r : RiderState). r.calls ≡ []) (new_riders n) (new_rider n ∷ []) (fresh n) (refl, tt)

-- and so the last two of them
both_fresh : (n : ℕ) (items rest most : List RiderState) (one two : RiderState) → items ≡ new_riders n → items ≡ most ++ two ∷ [] → most ≡ rest ++ one ∷ [] → (one.calls ≡ []) × (two.calls ≡ [])
both_fresh n items rest most one two e f g =
    let P : RiderState → Type 0 = λ r. r.calls ≡ [] in
    let all : Every P (most ++ two ∷ []) = subst (Every P) f (subst (Every P) (sym e) (fresh n)) in
    let some : Every P (rest ++ one ∷ []) = subst (Every P) g (every_front P most (two ∷ []) all) in
    ((every_back P rest (one ∷ []) some).0, (every_back P most (two ∷ []) all).0)

pub bump_in_turn-requires-clause-new : goal.bump_in_turn-requires-clause-new
bump_in_turn-requires-clause-new g c κs within =
    let e : c.in_ok-domain.riders.items ≡ new_riders c.args.seed.riders = search rules in
    let f : c.in_ok-domain.riders.items ≡ c.pop.new.self.items ++ c.in_ok-two.two ∷ [] = search rules in
    let h : c.pop.new.self.items ≡ c.pop-2.new.self.items ++ c.in_ok-one.one ∷ [] = search rules in
    both_fresh c.args.seed.riders c.in_ok-domain.riders.items c.pop-2.new.self.items c.pop.new.self.items c.in_ok-one.one c.in_ok-two.two e f h
