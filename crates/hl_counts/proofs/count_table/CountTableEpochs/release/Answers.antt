use Rattle.std.proofs.Common.{rules, ◌≡◌, ◌%◌, ◌<◌, Some, length, ap, sym, ◌∙◌, arith}
use Rattle.hl_epoch.specs.Table.{epoch_at, left}
use Rattle.hl_epoch.proofs.Tables.{IsTable-left, safe_of-left}
use Rattle.hl_counts.specs.Tallies.{removed, IsTally}
use Rattle.hl_counts.specs.Kept.{table_in}
use Rattle.hl_counts.proofs.Rings.{IsTally-left, count_at-some, length-removed}
use Rattle.hl_counts.proofs.Climbs.{next-climb}
use Rattle.hl_counts.proofs.count_table.CountTableEpochs.release.Goals as goal

pub invariant_of-self : goal.invariant_of-self
invariant_of-self c =
    let is = c.self.invariant in
    let T = table_in c.self.inside in
    let counts = c.self.inside.ring.counts in
    let epoch = c.in_ok-epoch.epoch in
    let at : epoch_at c.args.t T ≡ Some epoch = ap (λ v. epoch_at c.args.t v.table) c.self.view_is ∙ c.in_ok-epoch.ensures.ok in
    let within : c.args.t < length T.epochs = rw (← c.self.view_is) at c.in_ok-epoch.ensures.within in
    let climb = c.climb-self-inside.ensures in
    let less : c.remove.new.self.counts ≡ removed epoch counts = rw c.back_to-left.ensures.epoch at (c.remove.ensures.counts ∙ ap (removed c.back_to-left.result.epoch) c.restart.ensures.counts) in
    let tally : IsTally (left c.args.t T).epochs c.remove.new.self.counts = rw less (IsTally-left T.epochs counts c.args.t epoch is.tally within at (count_at-some T.epochs counts c.args.t epoch is.tally at)) in
    let places : length c.remove.new.self.counts ≡ length counts = ap length less ∙ length-removed epoch counts in
    let same : length c.climb-self-inside.new.self.counts ≡ length counts = ap length climb.counts ∙ places in
    let table = IsTable-left c.args.t T is.table in
    record {
      table = table;
      next = next-climb (left c.args.t T) c.remove.new.self.counts c.self.inside.next.epoch c.climb-self-inside.result.epoch table tally (omega (arith, safe_of-left c.args.t T is.table, is.next)) (omega (arith, places, is.places, is.next, is.table.lag_most)) climb.rises climb.stays climb.passed climb.stopped;
      tally = rw climb.counts tally;
      places = same ∙ is.places;
      current_placed = is.current_placed ∙ ap (λ n. T.current % n) (sym same);
      next_placed = climb.placed ∙ ap (λ counts. c.climb-self-inside.result.epoch % length counts) (sym climb.counts);
      exact = is.exact;
    }

pub returns-clause-valid : goal.returns-clause-valid
returns-clause-valid c = (invariant_of-self c).table

pub returns-clause-rising : goal.returns-clause-rising
returns-clause-rising c = rw (← c.self.view_is) (safe_of-left _ _ c.self.invariant.table)

pub returns-clause-turns : goal.returns-clause-turns
returns-clause-turns c =
    let accepted = rw (← c.self.view_is) at c.in_ok-epoch.ensures.accepted in
    rw (← c.self.view_is, accepted, ← c.self.invariant.next, ← (invariant_of-self c).next) (omega (arith, c.climb-self-inside.ensures.turns, c.remove.ensures.turns, c.restart.ensures.turns))

pub returns-clause-few : goal.returns-clause-few
returns-clause-few c = search rules
