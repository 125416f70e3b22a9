use Rattle.std.proofs.Common.{◌≡◌, ◌-◌, ◌%◌, ap, arith}
use Rattle.hl_counts.proofs.Places.{mod-back, mod-back_over}
use Rattle.hl_counts.proofs.placed.Placed.back_to.Goals as goal

pub returns-then-back-self-clause-place : goal.returns-then-back-self-clause-place
returns-then-back-self-clause-place c =
    let at : c.args.self.epoch - (c.args.self.epoch - c.args.epoch) ≡ c.args.epoch = omega arith in
    let place = mod-back c.args.self.epoch (c.args.self.epoch - c.args.epoch) c.args.places (omega arith) (omega arith) in
    omega (arith, ap (λ e. e % c.args.places) at, place)

pub returns-else-back-self-clause-place : goal.returns-else-back-self-clause-place
returns-else-back-self-clause-place c =
    let at : c.args.self.epoch - (c.args.self.epoch - c.args.epoch) ≡ c.args.epoch = omega arith in
    let place = mod-back_over c.args.self.epoch (c.args.self.epoch - c.args.epoch) c.args.places (omega arith) (omega arith) (omega arith) (omega arith) in
    omega (arith, ap (λ e. e % c.args.places) at, place)
