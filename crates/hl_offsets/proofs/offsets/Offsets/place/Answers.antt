use Rattle.std.proofs.Common.{arith, ◌≤◌}
use Rattle.hl_offsets.proofs.Places.{IsOnOnePage-place, lowest-place}
use Rattle.hl_offsets.proofs.offsets.Offsets.place.Goals as goal

pub returns-clause-one_page : goal.returns-clause-one_page
returns-clause-one_page c =
    let now = c.args.self.now in
    let fits : c.args.n ≤ now.page_size = rw (← c.self.view_is) (omega arith) in
    rw c.place_for-address.ensures.place (IsOnOnePage-place now.page_size now.tail c.args.n (omega arith) fits)

pub returns-clause-lowest : goal.returns-clause-lowest
returns-clause-lowest c =
    let now = c.args.self.now in
    rw c.place_for-address.ensures.place (lowest-place now.page_size now.tail c.args.n (omega arith))
