use Rattle.std.proofs.Common.{rules, ◌≡◌, ◌+◌, ◌-◌, ◌%◌, ◌<◌, length, ap, sym, ◌∙◌, arith}
use Rattle.hl_epoch.specs.Table.{safe_of, bumped}
use Rattle.hl_epoch.proofs.Tables.{IsTable-bumped, safe_of-bumped}
use Rattle.hl_counts.specs.Tallies.{IsTally}
use Rattle.hl_counts.specs.Kept.{table_in}
use Rattle.hl_counts.proofs.Climbs.{next-climb, visited-bumped, bump_fault-none}
use Rattle.hl_counts.proofs.count_table.CountTableEpochs.bump.Goals as goal

pub invariant_of-self : goal.invariant_of-self
invariant_of-self c =
    let is = c.self.invariant in
    let T = table_in c.self.inside in
    let lag : T.current - 1 - safe_of T < T.window = rw (← c.self.view_is) at c.requires in
    let climb = c.climb-self-inside.ensures in
    let table = IsTable-bumped T is.table (search rules) lag in
    let risen : c.next-self-inside.result.epoch ≡ T.current + 1 = c.next-self-inside.ensures.epoch in
    let tally : IsTally T.epochs c.restart.new.self.counts = rw c.restart.ensures.counts is.tally in
    let same : length c.climb-self-inside.new.self.counts ≡ length c.self.inside.ring.counts = ap length climb.counts ∙ ap length c.restart.ensures.counts in
    record {
      table = rw risen table;
      next = rw risen (next-climb (bumped T) c.restart.new.self.counts c.self.inside.next.epoch c.climb-self-inside.result.epoch table tally (omega (arith, safe_of-bumped T is.table, is.next)) (omega (arith, ap length c.restart.ensures.counts, is.places, is.next)) climb.rises climb.stays climb.passed climb.stopped);
      tally = rw climb.counts tally;
      places = same ∙ is.places;
      current_placed = rw (same, risen) (c.next-self-inside.ensures.place ∙ ap (λ n. (T.current + 1) % n) c.places.ensures);
      next_placed = climb.placed ∙ ap (λ counts. c.climb-self-inside.result.epoch % length counts) (sym climb.counts);
      exact = is.exact;
    }

pub returns-clause-valid : goal.returns-clause-valid
returns-clause-valid c = (invariant_of-self c).table

pub returns-clause-rising : goal.returns-clause-rising
returns-clause-rising c = rw (← c.self.view_is, c.next-self-inside.ensures.epoch) (safe_of-bumped (table_in c.self.inside) c.self.invariant.table)

pub returns-clause-turns : goal.returns-clause-turns
returns-clause-turns c =
    let is = c.self.invariant in
    let T = table_in c.self.inside in
    let climb = c.climb-self-inside.ensures in
    let tally : IsTally T.epochs c.restart.new.self.counts = rw c.restart.ensures.counts is.tally in
    rw (← c.self.view_is, bump_fault-none T c.if-ended-eq-EPOCH_LAST.false)
    (omega (arith, climb.turns, c.restart.ensures.turns, visited-bumped T c.restart.new.self.counts c.self.inside.next.epoch c.climb-self-inside.result.epoch is.table tally is.next climb.rises climb.stays climb.passed))
