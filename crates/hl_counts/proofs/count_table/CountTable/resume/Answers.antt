use Rattle.std.proofs.Common.{◌≡◌, ◌+◌, ◌%◌, length, ap, sym, ◌∙◌, arith}
use Rattle.std.proofs.lemmas.List.{length-replicate}
use Rattle.hl_epoch.proofs.Tables.{IsTable-opened, safe_of-opened}
use Rattle.hl_counts.proofs.Rings.{IsTally-opened}
use Rattle.hl_counts.proofs.count_table.CountTable.resume.Goals as goal

pub invariant_of-result : goal.invariant_of-result
invariant_of-result c =
    let r = c.requires in
    let row = c.in_ok-filled.ensures in
    let ring = c.in_ok-make.ensures in
    let at = c.of-placed.ensures in
    let places : length c.in_ok-make.field-0.counts ≡ c.args.window + 1 = ap length ring.counts ∙ length-replicate _ _ in
    let placed : c.of-placed.result.place ≡ c.of-placed.result.epoch % length c.in_ok-make.field-0.counts =
    rw (places, at.epoch) at.place in
    record {
      table = rw (row.items, at.epoch) (IsTable-opened _ _ _ r.slots_least r.slots_most r.window_least r.window_most r.current_least r.current_most);
      next = rw (row.items, at.epoch, safe_of-opened c.args.slots c.args.window c.args.current) (omega arith);
      tally = rw (row.items, ring.counts) (IsTally-opened c.args.slots (c.args.window + 1) (omega arith));
      places = places;
      current_placed = placed;
      next_placed = placed;
      exact = row.exact ∙ sym row.len;
    }

pub returns-clause-valid : goal.returns-clause-valid
returns-clause-valid c = (invariant_of-result c).table
