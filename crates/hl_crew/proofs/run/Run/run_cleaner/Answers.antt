use Rattle.std.proofs.Common.{◌≡◌, false, true, rules, subst}
use Rattle.hl_crew.specs.Goes.{UpTo}
use Rattle.hl_crew.specs.Looks.{LooksNext}
use Rattle.hl_crew.specs.Turns.{Finds}
use Rattle.hl_crew.specs.Works.{CleansBy}
use Rattle.hl_crew.proofs.run.Run.run_cleaner.Goals as goal

-- the looks began with what the cleaner was given
pub invariant_of-seat : goal.invariant_of-seat
invariant_of-seat g c =
    let cleaner = c.args.self.now in
    let not_done : c.seat.inside.is_done ≡ false = search rules in
    let was : c.seat.inside.own ≡ c.requires.0 = rw not_done at ((c.requires.1 c.seat.inside.is_done c.seat.inside.own).0 c.seat.invariant) in
    let looks : UpTo (LooksNext (Finds g.row.F.Denot cleaner.domain.now cleaner.limits.cuts)) cleaner.limits.turns c.clean_all.result c.seat.inside.own c.clean_all.new.own =
    subst (λ most. UpTo (LooksNext (Finds g.row.F.Denot cleaner.domain.now cleaner.limits.cuts)) most c.clean_all.result c.seat.inside.own c.clean_all.new.own) c.turns.ensures c.clean_all.ensures in
    let did : CleansBy g.row.F.Denot cleaner.domain.now cleaner.limits c.seat.inside.own c.clean_all.new.own = (c.clean_all.result, looks) in
    (c.requires.1 true c.clean_all.new.own).1 (subst (λ own. CleansBy g.row.F.Denot cleaner.domain.now cleaner.limits own c.clean_all.new.own) was did)
