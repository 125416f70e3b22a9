use Rattle.std.proofs.Common.{rules, Some}
use Rattle.hl_action.proofs.Tags.{tags_set}
use Rattle.hl_action.proofs.shelf.Shelf.put.Goals as goal

pub returns-in_default-clause-back : goal.returns-in_default-clause-back
returns-in_default-clause-back g c = search rules

pub invariant_of-self : goal.invariant_of-self
invariant_of-self g c =
    let tags = tags_set c.self.inside.places.items c.tag-at.result (Some c.args.kept) c.self.invariant.0 (search rules) in
    search rules
