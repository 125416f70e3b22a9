use Rattle.hl.specs.Openings.{of_sizes}
use Rattle.example_tickets.proofs.Draws.{tickets_left}
use Rattle.example_tickets.proofs.draw.Goals as goal

pub returns-clause-tickets : goal.returns-clause-tickets
returns-clause-tickets g c =
    tickets_left _ _ _ (of_sizes g.S.HasSizes.sizes_of c.args.opening) c.with_threads.result c.with_threads.ensures.closed
