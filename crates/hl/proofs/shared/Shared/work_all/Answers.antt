use Rattle.std.proofs.Common.{arith, ◌≡◌, length, ap}
use Rattle.std.proofs.lemmas.List.{length-map, with_items_is}
use Rattle.hl.proofs.shared.Shared.work_all.Goals as goal

-- what the threads left in their places is told
pub returns-clause-worked : goal.returns-clause-worked
returns-clause-worked g c =
    let left = c.work_each.new.places in
    let long : length left ≡ c.args.places.len = omega (arith, c.work_each.ensures.0, length-map c.deref_mut.result.now (λ place. place.1), ap length c.deref_mut.ensures.value, c.args.places.ok) in
    let same : c.of.result.left.0.items ≡ left = rw c.of.ensures (with_items_is c.args.places left long) in
    rw same (rw c.deref_mut.ensures.value at c.work_each.ensures)
