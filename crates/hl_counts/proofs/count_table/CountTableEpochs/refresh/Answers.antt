use Rattle.std.proofs.Common.{rules, ◌≡◌, ◌%◌, ◌<◌, Some, length, ap, sym, ◌∙◌, arith}
use Rattle.std.proofs.lemmas.Bool.{ne_eqb}
use Rattle.std.proofs.lemmas.Grind.{common_steps}
use Rattle.hl_epoch.specs.Table.{epoch_at, entered}
use Rattle.hl_epoch.proofs.Tables.{IsTable-entered, safe_of-entered}
use Rattle.hl_counts.specs.Tallies.{added, removed, IsTally}
use Rattle.hl_counts.specs.Kept.{table_in}
use Rattle.hl_counts.proofs.Rings.{IsTally-moved, count_at-some, length-added, length-removed}
use Rattle.hl_counts.proofs.Climbs.{next-climb}
use Rattle.hl_counts.proofs.count_table.CountTableEpochs.refresh.Goals as goal

pub invariant_of-self-2 : goal.invariant_of-self-2
invariant_of-self-2 c =
    let is = c.self.invariant in
    let T = table_in c.self.inside in
    let counts = c.self.inside.ring.counts in
    let epoch = c.in_ok-epoch.epoch in
    let at : epoch_at c.args.t T ≡ Some epoch = ap (λ v. epoch_at c.args.t v.table) c.self.view_is ∙ c.in_ok-epoch.ensures.ok in
    let within : c.args.t < length T.epochs = rw (← c.self.view_is) at c.in_ok-epoch.ensures.within in
    let climb = c.climb-self-inside.ensures in
    let less : c.remove.new.self.counts ≡ removed epoch counts = rw c.back_to-old.ensures.epoch at (c.remove.ensures.counts ∙ ap (removed c.back_to-old.result.epoch) c.restart.ensures.counts) in
    let moved : c.add.new.self.counts ≡ added T.current (removed epoch counts) = c.add.ensures.counts ∙ ap (added T.current) less in
    let tally : IsTally (entered c.args.t T).epochs c.add.new.self.counts = rw moved (IsTally-moved T.epochs counts c.args.t epoch T.current is.tally within at (count_at-some T.epochs counts c.args.t epoch is.tally at)) in
    let places : length c.add.new.self.counts ≡ length counts = ap length moved ∙ length-added T.current (removed epoch counts) ∙ length-removed epoch counts in
    let same : length c.climb-self-inside.new.self.counts ≡ length counts = ap length climb.counts ∙ places in
    let table = IsTable-entered c.args.t T is.table in
    record {
      table = table;
      next = next-climb (entered c.args.t T) c.add.new.self.counts c.self.inside.next.epoch c.climb-self-inside.result.epoch table tally (omega (arith, safe_of-entered c.args.t T is.table, is.next)) (omega (arith, places, is.places, is.next, is.table.lag_most)) climb.rises climb.stays climb.passed climb.stopped;
      tally = rw climb.counts tally;
      places = same ∙ is.places;
      current_placed = is.current_placed ∙ ap (λ n. T.current % n) (sym same);
      next_placed = climb.placed ∙ ap (λ counts. c.climb-self-inside.result.epoch % length counts) (sym climb.counts);
      exact = is.exact;
    }

pub returns-clause-valid : goal.returns-clause-valid
returns-clause-valid c = (invariant_of-self-2 c).table

pub returns-clause-rising : goal.returns-clause-rising
returns-clause-rising c = rw (← c.self.view_is) (safe_of-entered _ _ c.self.invariant.table)

pub returns-clause-turns : goal.returns-clause-turns
returns-clause-turns c =
    let T = table_in c.self.inside in
    let accepted = rw (← c.self.view_is) at c.in_ok-epoch.ensures.accepted in
    let at : epoch_at c.args.t T ≡ Some c.in_ok-epoch.epoch = ap (λ v. epoch_at c.args.t v.table) c.self.view_is ∙ c.in_ok-epoch.ensures.ok in
    rw (← c.self.view_is, accepted, at, ne_eqb c.in_ok-epoch.epoch T.current c.if-epoch-self.false, ← c.self.invariant.next, ← (invariant_of-self-2 c).next) (omega (arith, c.climb-self-inside.ensures.turns, c.add.ensures.turns, c.remove.ensures.turns, c.restart.ensures.turns))

pub returns-clause-few : goal.returns-clause-few
returns-clause-few c = search rules

pub returns-then-epoch-self-clause-effect : goal.returns-then-epoch-self-clause-effect
returns-then-epoch-self-clause-effect c = grind (arith, common_steps)

pub returns-then-epoch-self-clause-turns : goal.returns-then-epoch-self-clause-turns
returns-then-epoch-self-clause-turns c = search rules

pub add-requires-clause-room : goal.add-requires-clause-room
add-requires-clause-room c = grind (arith, common_steps)
