-- What a pass's calls without the lock answer, and what they leave: of the pass, or of the session that has it, into which
-- `put` puts it.
use Rattle.std.specs.Prelude.{◌≡◌, ◌≢◌, ℕ, ◌+◌, ◌%◌, ◌^◌, max, Some, None, IfOk, OnOk, MatchResult, Result}
use Rattle.hl_model.specs.declared.fault.Fault.{Fault}
use Rattle.hl_model.specs.declared.view.View.{View}
use Rattle.hl_model.specs.Replies.{unless_fault, unless_refused}
use Rattle.hl_model.specs.Sizes.{Sizes}
use Rattle.hl_keeper.specs.Passes.{PassRecord, seen, touch_fault, store_fault, load_fault, with_look, with_store, with_change, with_load, last_read_only, last_head, LooksOn}

module _ {S : Type 0} (put : PassRecord → S) where
  -- a look of a pass that was old and is new
  pub record HasLooked (old new : PassRecord) (after : S) (result : Result View Fault) : Type 0 where
    pub answer : result ≡ unless_fault (touch_fault old) (seen new)
    pub pass : after
        ≡ put (unless_refused (touch_fault old) old (with_look (last_read_only new) (last_head new) old))
    pub rises : OnOk result (LooksOn old new)
    pub raised : IfOk result (λ view. view ≡ record {
      read_only = max (seen old).read_only (last_read_only new);
      head = max (seen old).head (last_head new);
      tail = (seen old).tail;
    })

  module _ (sizes : Sizes) (a : ℕ) where
    -- a store of v at address a
    pub record HasStored (v : ℕ) (old : PassRecord) (after : S) (result : Result (Unit {0}) Fault)
        : Type 0 where
      pub answer : result ≡ unless_fault (store_fault old a) tt
      pub pass : after ≡ put (unless_refused (store_fault old a) old (with_store sizes a v old))

    -- a load there
    pub record HasLoaded (old : PassRecord) (after : S) (result : Result ℕ Fault) : Type 0 where
      pub answer : MatchResult result (λ _. load_fault old a ≡ None) (λ fault. load_fault old a ≡ Some fault)
      pub pass : MatchResult result (λ v. after ≡ put (with_load sizes a v old)) (λ _. after ≡ put old)

    -- an addition, modulo 2^64, to the word there
    pub record HasAdded (more : ℕ) (old : PassRecord) (after : S) (result : Result ℕ Fault) : Type 0 where
      pub answer : MatchResult result (λ _. store_fault old a ≡ None)
          (λ fault. store_fault old a ≡ Some fault)
      pub pass : MatchResult result
          (λ found. after ≡ put (with_change sizes a found ((found + more) % 2 ^ 64) old))
          (λ _. after ≡ put old)

    -- an exchange of one word there for another, if the one stands there
    pub record HasExchanged (one other : ℕ) (old : PassRecord) (after : S)
        (result : Result (Result ℕ ℕ) Fault)
        : Type 0 where
      pub answer : MatchResult result (λ _. store_fault old a ≡ None)
          (λ fault. store_fault old a ≡ Some fault)
      pub found : IfOk result (λ swap. MatchResult swap (λ found. found ≡ one) (λ found. found ≢ one))
      pub pass : MatchResult result
          (λ swap. MatchResult swap
          (λ found. after ≡ put (with_change sizes a found other old))
          (λ found. after ≡ put (with_load sizes a found old)))
          (λ _. after ≡ put old)
