use Rattle.std.proofs.Common.{rules, ◌≡◌, Ok, Some, slice_get}
use Rattle.hl.specs.Openings.{of_sizes}
use Rattle.example_tickets.proofs.Turns.{turns_left}
use Rattle.example_tickets.proofs.in_turn.draw_in_turn.Goals as goal

pub returns : goal.returns
returns g c =
    let closed = c.in_ok-closed.closed in
    let ending = c.in_ok-ending.ending in
    let first = c.in_ok-first.first in
    let second = c.in_ok-second.second in
    let opened : c.with_threads.result ≡ Ok closed = search rules in
    let ending_is : closed.ending ≡ Ok ending = search rules in
    let at : slice_get closed.out.outs.items 0 ≡ Some (Ok (Some first)) = search rules in
    let also : slice_get closed.out.outs.items 1 ≡ Some (Ok (Some second)) = search rules in
    turns_left _ _ (of_sizes g.S.HasSizes.sizes_of c.args.opening) c.with_threads.result closed ending first second
    opened ending_is at also (search rules) c.later_calls_begin.ensures c.with_threads.ensures.closed
