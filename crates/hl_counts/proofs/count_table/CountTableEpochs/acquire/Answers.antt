use Rattle.std.proofs.Common.{rules, ◌≡◌, ◌<◌, None, length, ap, sym, ◌∙◌, ◌%◌, arith}
use Rattle.hl_epoch.specs.Table.{epoch_at}
use Rattle.hl_epoch.proofs.Tables.{IsTable-entered, safe_of-entered}
use Rattle.hl_counts.specs.Tallies.{added}
use Rattle.hl_counts.specs.Kept.{table_in}
use Rattle.hl_counts.proofs.Rings.{IsTally-entered, length-added}
use Rattle.hl_counts.proofs.Climbs.{safe_of-acquired}
use Rattle.hl_counts.proofs.count_table.CountTableEpochs.acquire.Goals as goal

pub invariant_of-self : goal.invariant_of-self
invariant_of-self c =
    let is = c.self.invariant in
    let T = table_in c.self.inside in
    let counts = c.self.inside.ring.counts in
    let free : epoch_at c.args.t T ≡ None = search rules in
    let within : c.args.t < length T.epochs = search rules in
    let more : c.add.new.self.counts ≡ added T.current counts = c.add.ensures.counts ∙ ap (added T.current) c.restart.ensures.counts in
    let same : length c.add.new.self.counts ≡ length counts = ap length more ∙ length-added T.current counts in
    record {
      table = IsTable-entered c.args.t T is.table;
      next = omega (arith, is.next, safe_of-acquired c.args.t T is.table free);
      tally = rw more (IsTally-entered T.epochs counts c.args.t T.current is.tally within free);
      places = same ∙ is.places;
      current_placed = is.current_placed ∙ ap (λ n. T.current % n) (sym same);
      next_placed = is.next_placed ∙ ap (λ n. c.self.inside.next.epoch % n) (sym same);
      exact = is.exact;
    }

pub returns-in-Some-None-clause-valid : goal.returns-in-Some-None-clause-valid
returns-in-Some-None-clause-valid c = (invariant_of-self c).table

pub returns-in-Some-None-clause-rising : goal.returns-in-Some-None-clause-rising
returns-in-Some-None-clause-rising c = rw (← c.self.view_is) (safe_of-entered _ _ c.self.invariant.table)
