use Rattle.std.proofs.Common.{◌≡◌, ℕ, ◌+◌, true, false, rules, subst, sym}
use Rattle.hl.specs.Crews.{can_run}
use Rattle.std.specs.Prelude.{is_some}
use Rattle.hl.proofs.ConfigLaws.{duty_in_range, none_unfit, runs, sizes_in_range}
use Rattle.hl.proofs.config.Config.checked.Goals as goal

pub returns-then-is_some-clause-ok : goal.returns-then-is_some-clause-ok
returns-then-is_some-clause-ok c = λ fit.
    let none : is_some c.out_of_range.result ≡ false = none_unfit c.args.self.now c.out_of_range.result fit c.out_of_range.ensures.out in
    search rules

pub returns-in_err-params-clause-ok : goal.returns-in_err-params-clause-ok
returns-in_err-params-clause-ok c = λ fit. let range = sizes_in_range c.args.self.now fit in search rules

pub returns-in_err-duty-clause-ok : goal.returns-in_err-duty-clause-ok
returns-in_err-duty-clause-ok c = λ fit. let range = duty_in_range c.args.self.now fit in search rules

pub returns-clause-runs : goal.returns-clause-runs
returns-clause-runs c =
    subst (λ (n : ℕ). can_run (record { params = c.in_ok-params.params; riders = c.args.self.now.threads + 4 + n; journal = c.args.self.now.journal; stamp = c.args.self.now.stamp }) c.cutting_above.result ≡ true) (sym c.behind.ensures) (runs c.args.self.now _ c.cutting_above.result (search rules) (search rules) (search rules))
