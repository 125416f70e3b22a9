-- What is done again and again.
use Rattle.std.proofs.Common.{◌≡◌, ◌<◌, ℕ, ◌+◌, Bool, true, false, Result, Ok, Err, refl, add-one, inl, inr}
use Rattle.std.specs.Result.{IsErrAnd}
use Rattle.std.proofs.lemmas.Result.{err_from_is_err_and}
use Rattle.hl_crew.specs.Goes.{Followed, Going, Then, UpTo}

module _ {S X : Type 0} (One : ℕ → Result Bool X → S → S → Type 0) where
  -- once more
  pub followed_more : (n : ℕ) (old mid new : S) → Followed One n old mid → One n (Ok true) mid new → Followed One (n + 1) old new
  followed_more n old mid new before one = rw add-one (mid, before, one)

  -- nothing was done yet
  pub going_first : (old : S) → Going One 0 old old
  going_first old = record { followed = refl }

  -- another followed
  pub going_more : (n : ℕ) (next : Bool) (old mid new : S) → Going One n old mid → One n (Ok next) mid new → next ≡ true → Going One (n + 1) old new
  going_more n next old mid new before one is = record { followed = followed_more n old mid new before.followed (rw is at one) }

  -- all are done
  pub going_all : (most n : ℕ) (old new : S) → n ≡ most → Going One n old new → UpTo One most (Ok tt) old new
  going_all most n old new all before = record { count = n; last = new; followed = before.followed; ended = inl (all, refl) }

  -- none may follow
  pub going_none : (most n : ℕ) (next : Bool) (old mid new : S) → n < most → Going One n old mid → One n (Ok next) mid new → next ≡ false → UpTo One most (Ok tt) old new
  going_none most n next old mid new fewer before one is = record { count = n; last = mid; followed = before.followed; ended = inr (fewer, rw is at one) }

  -- it failed
  pub going_failed : (most n : ℕ) (error : X) (old mid new : S) → n < most → Going One n old mid → One n (Err error) mid new → UpTo One most (Err error) old new
  going_failed most n error old mid new fewer before one = record { count = n; last = mid; followed = before.followed; ended = (fewer, one) }

  -- it failed, and that was handed on
  pub going_handed_on : (most n : ℕ) (error : X) (result : Result (Unit {0}) X) (old mid new : S) → n < most → Going One n old mid → One n (Err error) mid new → IsErrAnd result (λ e. e ≡ error) → UpTo One most result old new
  going_handed_on most n error result old mid new fewer before one handed =
      let p = err_from_is_err_and result handed in rw (p.1, p.2) (going_failed most n error old mid new fewer before one)

-- what a loop needs
pub ruleset going = (going_first, going_more, going_all, going_none, going_failed)

module _ {S X : Type 0} (First Second : Result (Unit {0}) X → S → S → Type 0) where
  -- one thing was done, and then another
  pub then_second : (result : Result (Unit {0}) X) (old mid new : S) → First (Ok tt) old mid → Second result mid new → Then First Second result old new
  then_second result old mid new one two = record { first = Ok tt; mid = mid; one = one; two = two }

  -- the first failed
  pub then_failed : (error : X) (old new : S) → First (Err error) old new → Then First Second (Err error) old new
  then_failed error old new one = record { first = Err error; mid = new; one = one; two = (refl, refl) }
