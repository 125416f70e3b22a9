use Rattle.std.proofs.Common.{◌≡◌, ℕ, take}
use Rattle.hl_model.specs.declared.action.Kind.{Kind}
use Rattle.hl_model.specs.Lists.{greatest}
use Rattle.hl_model.specs.AfterActions.{ever_taken_after}
use Rattle.hl_plain.proofs.StoredLaws.{given_by}
use Rattle.hl_plain.proofs.settled.done_greatest.Given as goal

abbrev pub invariant-loop-i : goal.invariant-loop-i
invariant-loop-i g l = (s : Kind → ℕ) → ((k : Kind) (x : ℕ) → goal.F-post g l.stored k x → x ≡ s k) → l.most ≡ greatest (given_by s l.steps) (take l.i (ever_taken_after l.base l.steps))
