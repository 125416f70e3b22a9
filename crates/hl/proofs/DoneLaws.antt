-- An action that was stored and is over is done.
use Rattle.std.proofs.Common.{◌≡◌, ℕ, zero, suc, ◌<◌, ◌≤◌, Bool, true, false, not, ◌&&◌, List, [], ◌∷◌, take, drop, refl, arith, ne_eqb, ltb-true, ◌||◌}
use Rattle.std.specs.Prelude.{◌==◌}
use Rattle.std.specs.List.{list_any}
use Rattle.hl_model.specs.declared.action.Waiting.{Waiting}
use Rattle.hl_model.specs.Actions.{actions, takes, pending, ever_taken, is_taken}
use Rattle.hl_laws.proofs.ActionLaws.{actions-rising}
use Rattle.hl_laws.proofs.TicketLaws.{Rising}
use Rattle.hl_core.specs.Holding.{oldest, oldest_of, is_before, is_over}
use Rattle.hl.specs.Overs.{OverWereDone}

-- no action above a ticket has it
none_above : (c k : ℕ) (ws : List Waiting) → c ≤ k → Rising k ws → list_any (λ w. w.ticket == c) ws ≡ false
none_above c k [] le r = refl
none_above c k (w ∷ ws) le r = rw (ne_eqb w.ticket c (λ same. absurd (omega (arith, r.0, le, same)))) (none_above c w.ticket ws (omega (arith, r.0, le)) r.1)

-- the second of two may become another that follows from it
either : (t a b : Bool) → (a ≡ true → b ≡ true) → (t || a) ≡ true → (t || b) ≡ true
either true a b follows h = refl
either false a b follows h = follows h

-- what is stored and below the first that is left was among those before it
among_first : (c k m : ℕ) (ws : List Waiting) → Rising k ws → is_before c (oldest_of (drop m ws)) ≡ true
    → list_any (λ w. w.ticket == c) ws ≡ true → list_any (λ w. w.ticket == c) (take m ws) ≡ true
among_first c k zero [] r b h = h
among_first c k zero (w ∷ ws) r b h =
    let less : c < w.ticket = ltb-true c w.ticket b in
    let none : list_any (λ v. v.ticket == c) (w ∷ ws) ≡ false = rw (ne_eqb w.ticket c (λ same. absurd (omega (arith, less, same)))) (none_above c w.ticket ws (omega (arith, less)) r.1) in
    cc
among_first c k (suc m) [] r b h = h
among_first c k (suc m) (x ∷ ws) r b h = either (x.ticket == c) (list_any (λ w. w.ticket == c) ws) _ (among_first c x.ticket m ws r.1 b) h

-- not both of these, of which one holds
other_fails : (t f : Bool) → t ≡ true → not (t && not f) ≡ true → f ≡ true
other_fails true true h n = refl
other_fails true false h n = n
other_fails false f h n = absurd cc

-- both hold
both : (a b : Bool) → (a && b) ≡ true → (a ≡ true) × (b ≡ true)
both true b h = (refl, h)
both false b h = cc

pub over_were_done : OverWereDone
unfolding is_over oldest pending ever_taken is_taken
over_were_done A c stored over =
    let parts = both _ _ over in
    other_fails _ _ (among_first c 0 (takes A) (actions A) (actions-rising A) parts.0 stored) parts.1
