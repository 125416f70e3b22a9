-- Each call makes a table of a table, and none lowers the safe epoch.
use Rattle.std.proofs.Common.{◌≡◌, ℕ, zero, suc, ◌+◌, ◌-◌, ◌^◌, ◌<◌, ◌≤◌, Option, Some, None, List, [], inl, inr, get_or, length, replicate, length-set, refl, ap, arith}
use Rattle.std.proofs.lemmas.List.{length-replicate}
use Rattle.hl_model.specs.Epochs.{Table, safe_among}
use Rattle.hl_model.specs.Lists.{least_or}
use Rattle.hl_epoch.specs.Table.{epoch_at, safe_of, opened, entered, left, bumped, IsTable}
use Rattle.hl_epoch.proofs.Least.{protected, least_or-at, least_or-most, least_or-greatest, get_or-set_none, get_or-set_some, least_or-set_none, least_or-set_some, least_or-rise}

-- in a table the least epoch is 1 or more
least_positive : (T : Table) → IsTable T → 1 ≤ least_or T.current (protected T.epochs)
least_positive T is =
    least_or-greatest 1 T.current T.epochs is.current_least (λ t epoch e. omega (arith, is.above_safe t epoch e))

-- the least epoch comes next after the safe one
pub safe_of-next : (T : Table) → IsTable T → safe_of T + 1 ≡ least_or T.current (protected T.epochs)
unfolding safe_among
safe_of-next T is = omega (arith, least_positive T is)

-- the safe epoch does not fall where a slot enters the current epoch
pub safe_of-entered : (t : ℕ) (T : Table) → IsTable T → safe_of T ≤ safe_of (entered t T)
unfolding safe_among
safe_of-entered t T is = omega (arith, least_or-set_some T.current T.epochs t is.at_most_current)

-- the safe epoch does not fall where a slot is left
pub safe_of-left : (t : ℕ) (T : Table) → IsTable T → safe_of T ≤ safe_of (left t T)
unfolding safe_among
safe_of-left t T is = omega (arith, least_or-set_none T.current T.epochs t is.at_most_current)

-- the safe epoch does not fall where the current one rises
pub safe_of-bumped : (T : Table) → IsTable T → safe_of T ≤ safe_of (bumped T)
unfolding safe_among
safe_of-bumped T is = omega (arith, least_or-rise T.current T.epochs is.at_most_current)

-- each protected slot's epoch is 1 or more, and at most the current one
abbrev AreInRange : Table → Type 0
AreInRange T = (t epoch : ℕ) → epoch_at t T ≡ Some epoch → (1 ≤ epoch) × (epoch ≤ T.current)

-- the epochs of a table are in range
AreInRange-from_table : (T : Table) → IsTable T → AreInRange T
AreInRange-from_table T is = λ t epoch e. (omega (arith, is.above_safe t epoch e), is.at_most_current t epoch e)

-- the safe epoch is below each protected slot's
below_epochs : (T : Table) → AreInRange T → (t epoch : ℕ) → epoch_at t T ≡ Some epoch → safe_of T < epoch
unfolding safe_among
below_epochs T in_range t epoch e = omega (arith, least_or-at T.current T.epochs t epoch e, (in_range t epoch e).0)

-- the safe epoch is below the current one
below_current : (T : Table) → AreInRange T → 1 ≤ T.current → safe_of T < T.current
unfolding safe_among
below_current T in_range least = omega (arith, least_or-most T.current T.epochs (λ t epoch e. (in_range t epoch e).1))

-- a table, from ranges of its parts
IsTable-from_range : (T : Table) → 1 ≤ T.current → T.current ≤ 2 ^ 62 → 1 ≤ length T.epochs → length T.epochs ≤ 1024 → 1 ≤ T.window → T.window ≤ 4096 → AreInRange T → T.current - 1 - safe_of T ≤ T.window → IsTable T
IsTable-from_range T current_least current_most slots_least slots_most window_least window_most in_range lag_most = record {
  current_least = current_least;
  current_most = current_most;
  slots_least = slots_least;
  slots_most = slots_most;
  window_least = window_least;
  window_most = window_most;
  safe_most = below_current T in_range current_least;
  above_safe = below_epochs T in_range;
  at_most_current = λ t epoch e. (in_range t epoch e).1;
  lag_most = lag_most;
}

-- where a slot enters the current epoch the table stays one
pub IsTable-entered : (t : ℕ) (T : Table) → IsTable T → IsTable (entered t T)
IsTable-entered t T is =
    IsTable-from_range (entered t T) is.current_least is.current_most (simp length-set is.slots_least) (simp length-set is.slots_most) is.window_least is.window_most
    (λ u epoch e. elim (get_or-set_some T.epochs t u T.current epoch e) [ inl was ↦ AreInRange-from_table T is u epoch was | inr same ↦ (omega (arith, is.current_least), omega arith) ])
    (omega (arith, safe_of-entered t T is, is.lag_most))

-- where a slot is left the table stays one
pub IsTable-left : (t : ℕ) (T : Table) → IsTable T → IsTable (left t T)
IsTable-left t T is =
    IsTable-from_range (left t T) is.current_least is.current_most (simp length-set is.slots_least) (simp length-set is.slots_most) is.window_least is.window_most
    (λ u epoch e. AreInRange-from_table T is u epoch (get_or-set_none T.epochs t u epoch e))
    (omega (arith, safe_of-left t T is, is.lag_most))

-- where the current epoch rises, and one more may have ended and not be safe, the table stays one
pub IsTable-bumped : (T : Table) → IsTable T → T.current < 2 ^ 62 → T.current - 1 - safe_of T < T.window → IsTable (bumped T)
IsTable-bumped T is below lag =
    IsTable-from_range (bumped T) (omega arith) (omega arith) is.slots_least is.slots_most is.window_least is.window_most
    (λ u epoch e. (omega (arith, is.above_safe u epoch e), omega (arith, is.at_most_current u epoch e)))
    (omega (arith, safe_of-bumped T is))

-- slots of which none is protected
abbrev nobody : ℕ → List (Option ℕ)
nobody slots = replicate slots None

-- slots of which none is protected have no epochs
protected-nobody : (slots : ℕ) → protected (nobody slots) ≡ []
protected-nobody zero = refl
protected-nobody (suc slots) = protected-nobody slots

-- of slots of which none is protected each has no epoch
get_or-nobody : (slots t : ℕ) → get_or (nobody slots) t None ≡ None
get_or-nobody zero t = refl
get_or-nobody (suc slots) zero = refl
get_or-nobody (suc slots) (suc t) = get_or-nobody slots t

-- where nobody is protected the safe epoch is the current one less 1
pub safe_of-opened : (slots window current : ℕ) → safe_of (opened slots window current) ≡ current - 1
unfolding safe_among least_or
safe_of-opened slots window current = ap (λ epochs. least_or current epochs - 1) (protected-nobody slots)

-- a table in which nobody is protected
pub IsTable-opened : (slots window current : ℕ) → 1 ≤ slots → slots ≤ 1024 → 1 ≤ window → window ≤ 4096 → 1 ≤ current → current ≤ 2 ^ 62 → IsTable (opened slots window current)
IsTable-opened slots window current slots_least slots_most window_least window_most current_least current_most =
    IsTable-from_range (opened slots window current) current_least current_most (simp length-replicate slots_least) (simp length-replicate slots_most) window_least window_most
    (λ t epoch e. absurd (cc (get_or-nobody slots t)))
    (omega (arith, safe_of-opened slots window current))
