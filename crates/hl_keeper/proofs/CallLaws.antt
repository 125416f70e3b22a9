-- What the tests before the core's answer.
use Rattle.std.proofs.Common.{◌≡◌, ℕ, ◌<◌, ◌≤◌, Bool, true, false, leb, List, sym, ap, ap₂, ◌∙◌, arith}
use Rattle.std.specs.Prelude.{◌&&◌, Ok, Err}
use Rattle.std.proofs.lemmas.Bool.{le-leb, lt-leb}
use Rattle.hl_model.specs.declared.fault.Fault.{Fault}
use Rattle.hl_model.specs.declared.fault.Fault.TheVariants.{Stranger}
use Rattle.hl_model.specs.declared.step.Step.{Step}
use Rattle.hl_model.specs.declared.view.View.{View}
use Rattle.hl_model.specs.declared.view.Six.{Six}
use Rattle.hl_model.specs.Sizes.{Sizes}
use Rattle.hl_model.specs.Offsets.{read_only, head}
use Rattle.hl_model.specs.Snapshots.{six}
use Rattle.hl_model.specs.Replies.{unless_fault}
use Rattle.hl_pass.specs.Calls.{unless_stranger}
use Rattle.hl_pass.proofs.KnownLaws.{test_passed}
use Rattle.hl_keeper.specs.Passes.{PassRecord, seen}
use Rattle.hl_keeper.specs.Keepers.{KeeperState}
use Rattle.hl_keeper.specs.Calls.{stamp_at, is_known, is_behind, stranger_fault, ahead_fault}

-- a test that passed, and one that didn't
passes : (b : Bool) (s : ℕ) → b ≡ true → Ok (tt {0}) ≡ unless_fault (unless_stranger b s) (tt {0})
passes b s t = sym (ap (λ c. unless_fault (unless_stranger c s) (tt {0})) t)

refuses : (b : Bool) (s x : ℕ) → b ≡ false → x ≡ s → Err (Stranger x) ≡ unless_fault (unless_stranger b s) (tt {0})
refuses b s x f e = ap (λ z. Err (Stranger z)) e ∙ sym (ap (λ c. unless_fault (unless_stranger c s) (tt {0})) f)

-- the pass saw no offset above the present one
module _ (A : List Step) (p : PassRecord) (v : View) (now : Six) (sizes : Sizes) (is : v ≡ seen p) (present : now ≡ six sizes A) where
  low : v.read_only ≡ (seen p).read_only
  low = ap (λ (w : View). w.read_only) is

  now_low : now.read_only ≡ read_only A
  now_low = ap (λ (z : Six). z.read_only) present

  pub behind_then : v.read_only ≤ now.read_only → leb v.head now.head ≡ is_behind A p
  unfolding is_behind
  behind_then le =
      ap₂ leb (ap (λ (w : View). w.head) is) (ap (λ (z : Six). z.head) present)
      ∙ sym (ap (λ b. b && leb (seen p).head (head A)) (le-leb (seen p).read_only (read_only A) (omega (arith, le, low, now_low))))

  pub behind_else : now.read_only < v.read_only → leb v.read_only now.read_only ≡ is_behind A p
  unfolding is_behind
  behind_else lt =
      lt-leb v.read_only now.read_only lt
      ∙ sym (ap (λ b. b && leb (seen p).head (head A)) (lt-leb (seen p).read_only (read_only A) (omega (arith, lt, low, now_low))))

-- a test that refused refuses with one more
still_refused : (b c : Bool) (s : ℕ) (f : Fault) → Err f ≡ unless_fault (unless_stranger b s) (tt {0}) → Err f ≡ unless_fault (unless_stranger (b && c) s) (tt {0})
still_refused true c s f h = cc
still_refused false c s f h = h

module _ {F : Type 0} where
  -- a pass that is ahead, or not, where it is known
  pub behind_ok : (keeper : KeeperState F) (A : List Step) (p : PassRecord) (u : Unit {0}) (c : Bool) → Ok u ≡ unless_fault (stranger_fault keeper A p) (tt {0}) → c ≡ is_behind A p → c ≡ true → Ok (tt {0}) ≡ unless_fault (ahead_fault keeper A p) (tt {0})
  unfolding ahead_fault stranger_fault
  behind_ok keeper A p u c e d t =
      passes (is_known keeper A p && is_behind A p) (stamp_at keeper A p.slot)
      (ap₂ (λ x y. x && y) (test_passed (is_known keeper A p) (stamp_at keeper A p.slot) u e) (sym d ∙ t))

  pub behind_err : (keeper : KeeperState F) (A : List Step) (p : PassRecord) (u : Unit {0}) (c : Bool) (s : ℕ) → Ok u ≡ unless_fault (stranger_fault keeper A p) (tt {0}) → c ≡ is_behind A p → c ≡ false → s ≡ stamp_at keeper A p.slot → Err (Stranger s) ≡ unless_fault (ahead_fault keeper A p) (tt {0})
  unfolding ahead_fault stranger_fault
  behind_err keeper A p u c s e d f is =
      refuses (is_known keeper A p && is_behind A p) (stamp_at keeper A p.slot) s
      (ap₂ (λ x y. x && y) (test_passed (is_known keeper A p) (stamp_at keeper A p.slot) u e) (sym d ∙ f)) is

  -- and one that isn't known
  pub ahead_err : (keeper : KeeperState F) (A : List Step) (p : PassRecord) (f : Fault) → Err f ≡ unless_fault (stranger_fault keeper A p) (tt {0}) → Err f ≡ unless_fault (ahead_fault keeper A p) (tt {0})
  unfolding ahead_fault stranger_fault
  ahead_err keeper A p f e = still_refused (is_known keeper A p) (is_behind A p) (stamp_at keeper A p.slot) f e
