-- The tries by which a session leaves: all but the last one, and their cuts, make no step and touch no word.
use Rattle.std.proofs.Common.{◌≡◌, ℕ, zero, suc, Bool, List, [], ◌∷◌, ◌++◌, Result, Ok, refl, sym, ap, ◌∙◌, subst}
use Rattle.std.specs.List.{AllByRecursion}
use Rattle.hl_model.specs.declared.fault.Fault.{Fault}
use Rattle.hl_model.specs.declared.step.Step.{Step}
use Rattle.hl_model.specs.declared.step.Step.TheVariants.{Release}
use Rattle.hl_model.specs.Replies.{IsAccepted}
use Rattle.hl_model.specs.Sizes.{Sizes}
use Rattle.hl_history.specs.declared.view.Entry.{Entry}
use Rattle.hl_history.specs.Lists.{entry, IsOf}
use Rattle.hl_words.specs.States.{RiderState}
use Rattle.hl_keeper.specs.Keepers.{KeeperState}
use Rattle.hl_keeper.specs.Passes.{with_rider}
use Rattle.hl_domain.specs.Domains.{LeavesUnderLock, no_step, with_entry}
use Rattle.hl_crew.specs.Goes.{Followed}
use Rattle.hl_crew.specs.Tries.{TriesAgain}
use Rattle.hl.specs.Leaves.{LeftByTries}
use Rattle.hl.specs.Sessions.{SessionState, with_pass, KeepsAllButRider, LeavesWith}

-- what one call and then another kept
pub kept_then : (old mid new : SessionState) → KeepsAllButRider old mid → KeepsAllButRider mid new → KeepsAllButRider old new
kept_then old mid new first second = second ∙ ap (λ (s : SessionState). with_pass (with_rider new.pass.rider s.pass) s) first

-- a session left that is another but for its rider
pub left_as : {F : Type 0} (first session : SessionState) (result : Result RiderState Fault) (new : RiderState) → KeepsAllButRider first session → LeavesWith F session result session.pass.rider new → LeavesWith F first result session.pass.rider new
left_as {F} first session result new kept left = subst (λ (s : SessionState). LeavesWith F s result session.pass.rider new) kept left

-- what stays so by each call of a rider that makes no step
module _ (F : Type 0) (may_cut : Bool) (session : SessionState) (P : RiderState → Type 0)
    (stays : (was now : ℕ) (list : List Step) (r : RiderState) → IsAccepted session.log.sizes list → IsOf list r.calls → P r → P (with_entry was now list [] r)) where
  by_call : {Holds : KeeperState F → KeeperState F → Type 0} (old new : RiderState) → LeavesUnderLock F session.log (no_step old new) Holds → P old → P new
  by_call old new left p =
      let accepted = subst (λ (z : Sizes). IsAccepted z left.list) left.met.sizes_are left.met.stands.core_stands.accepted in
      subst P (sym left.entered) (stays left.before.cut left.after.cut left.list old accepted left.rises p)

  -- is so at the last try
  pub at_last : (n : ℕ) (old new : RiderState) → Followed (TriesAgain F session.log may_cut (LeavesWith F session)) n old new → P old → P new
  at_last zero old new same p = subst P (sym same) p
  at_last (suc n) old new (mid, before, (refused, answered, may, cut)) p = by_call refused new cut (by_call mid refused answered (at_last n old mid before p))

-- calls that made no step stand before these
abbrev Behind : List Entry → RiderState → Type 0
Behind calls r = (vain : List Entry) × AllByRecursion (λ call. call.steps ≡ []) vain × (r.calls ≡ vain ++ calls)

-- a rider that left has its session's calls, behind them some that made no step, and then that of the release
pub left_calls : {F : Type 0} (may_cut : Bool) (session : SessionState) (new : RiderState) → LeftByTries F may_cut session (Ok new)
    → (list : List Step) × (vain : List Entry) × AllByRecursion (λ call. call.steps ≡ []) vain
    × (new.calls ≡ entry list (session.pass.touches ++ Release session.pass.slot ∷ []) ∷ (vain ++ session.pass.rider.calls))
left_calls {F} may_cut session new t =
    let tried = at_last F may_cut session (Behind session.pass.rider.calls)
    (λ was now list r accepted of (vain, none, is). (entry list [] ∷ vain, (refl, none), ap (λ calls. entry list [] ∷ calls) is))
    t.before session.pass.rider t.last t.again ([], tt, refl) in
    let left = t.answered in
    (left.list, tried.0, tried.1, ap (λ (r : RiderState). r.calls) left.entered ∙ ap (λ calls. entry left.list (session.pass.touches ++ Release session.pass.slot ∷ []) ∷ calls) tried.2)
