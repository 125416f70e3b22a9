-- Room for touches.
use Rattle.std.proofs.Common.{◌≡◌, ℕ, ◌+◌, ◌<◌, ◌≤◌, Bool, true, false, length, refl, ap, arith, Ok, Err}
use Rattle.std.specs.Prelude.{nat_lt, Result, IfOk}
use Rattle.std.proofs.lemmas.Bool.{ltb-true, and_parts}
use Rattle.hl_model.specs.declared.fault.Fault.{Fault}
use Rattle.hl_model.specs.declared.view.View.{View}
use Rattle.hl_keeper.specs.Passes.{PassRecord, seen, is_current, with_news, last_read_only, last_head, last_ended}
use Rattle.hl_domain.specs.Domains.{DomainState, after_news, stays_current, Refreshed}

-- the touches of a pass that only loaded news are as many
touches_kept : (read_only head ended : ℕ) (p : PassRecord) → length (with_news read_only head ended p).touches ≡ length p.touches
unfolding with_news
touches_kept read_only head ended p = refl

current_has_room : (read_only head ended : ℕ) (p : PassRecord) → is_current read_only head ended p ≡ true → length p.touches < 32
unfolding is_current
current_has_room read_only head ended p is =
    ltb-true (length p.touches) 32 (and_parts _ (nat_lt (length p.touches) 32) is).1

-- a pass that kept up has room for a touch
pub room_for_one : (F : Type 0) (log : DomainState) (old new : PassRecord) (n : ℕ) (r : Result View Fault) → n ≤ 1
    → (stays_current old new ≡ true → (r ≡ Ok (seen old)) × (new ≡ after_news old new))
    → (stays_current old new ≡ false → Refreshed F log (after_news old new) new r) → IfOk r (λ _. length new.touches + n ≤ 32)
room_for_one F log old new n (Err fault) few kept refreshed = tt
room_for_one F log old new n (Ok view) few kept refreshed = by (stays_current old new) refl
  where
    by : (b : Bool) → stays_current old new ≡ b → length new.touches + n ≤ 32
    by true is =
        omega (
          arith,
          few,
          current_has_room (last_read_only new) (last_head new) (last_ended new) old is,
          touches_kept (last_read_only new) (last_head new) (last_ended new) old,
          ap (λ (p : PassRecord). length p.touches) (kept is).1,
        )
    by false is = omega (arith, few, ap (λ (p : PassRecord). length p.touches) (refreshed is).pass)
