-- Calls of a rider that entered nothing.
use Rattle.std.specs.Prelude.{◌≡◌, ℕ, List, [], ◌∷◌}
use Rattle.std.specs.List.{AllByRecursion}
use Rattle.hl_history.specs.declared.view.Entry.{Entry}
use Rattle.hl_words.specs.States.{RiderState, with_call}

-- a call, and how many steps were cut of the list that it met, and of the list that it left
pub record CutCall : Type 0 where
  pub was : ℕ
  pub now : ℕ
  pub call : Entry

-- a rider with these calls more, the newest first
abbrev pub with_calls : List CutCall → RiderState → RiderState
with_calls [] r = r
with_calls (c ∷ more) r = with_call c.was c.now c.call (with_calls more r)

-- a rider made some calls, and none of them entered a step: each was refused, or cut the journal
pub record Waits (old new : RiderState) : Type 0 where
  pub more : List CutCall
  pub empty : AllByRecursion (λ c. c.call.steps ≡ []) more
  pub is : new ≡ with_calls more old
