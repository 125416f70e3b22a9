-- The kinds of the lag's steps.
use Rattle.std.proofs.Common.{◌≡◌, ℕ, Bool, true, false, ◌++◌, refl, rules}
use Rattle.std.specs.Prelude.{All, nat_lt}
use Rattle.std.proofs.lemmas.List.Elements.{All-append}
use Rattle.hl_model.specs.declared.step.Step.{Step}
use Rattle.hl_model.specs.declared.view.Six.{Six}
use Rattle.hl_model.specs.declared.step.Step.TheVariants.{Raise, Settle, Shift, Close}
use Rattle.hl_lag.specs.Lag.{step_if, lag_of, read_only_at, head_at}
use Rattle.hl_crew.specs.Lags.{is_lag_step}

one_step : (b : Bool) (step : Step) → is_lag_step step ≡ true → All (λ step. is_lag_step step ≡ true) (step_if b step)
one_step true step is = search rules
one_step false step is = search rules

pub lag_kinds : (page_size : ℕ) (six : Six) (mutable resident : ℕ) → All (λ step. is_lag_step step ≡ true) (lag_of page_size six mutable resident)
lag_kinds page_size six mutable resident =
    let P : Step → Type 0 = λ step. is_lag_step step ≡ true in
    let r = read_only_at page_size six mutable in
    let h = head_at page_size six resident in
    let raise = step_if (nat_lt six.read_only r) (Raise r) in
    let settle = step_if (nat_lt six.safe_read_only r) Settle in
    let shift = step_if (nat_lt six.head h) (Shift h) in
    let close = step_if (nat_lt six.closed h) Close in
    All-append P (raise ++ settle ++ shift) close
    (All-append P (raise ++ settle) shift (All-append P raise settle (one_step _ (Raise r) refl) (one_step _ Settle refl)) (one_step _ (Shift h) refl)) (one_step _ Close refl)
