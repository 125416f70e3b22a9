use Rattle.std.proofs.Common.{arith, rules, ◌≡◌, ◌∙◌, ℕ, ◌<◌, List, length, get_or, sym}
use Rattle.std.proofs.lemmas.Bool.{ltb-true}
use Rattle.std.proofs.lemmas.List.{get_or_default}
use Rattle.std.specs.Prelude.{Option, Some, None, IfSome}
use Rattle.std.proofs.lemmas.Grind.{common_steps}
use Rattle.hl_action.specs.Jobs.{KeptRecord}
use Rattle.hl_action.specs.Shelves.{AreAtTheirTags}
use Rattle.hl_action.proofs.Tags.{tags_set}
use Rattle.hl_action.proofs.shelf.Shelf.take.Goals as goal

-- what is found at a tag's place has that tag
own_tag : {F : Type 0} (places : List (Option (KeptRecord F))) (tag : ℕ) (found : Option (KeptRecord F)) → AreAtTheirTags places → tag < length places → found ≡ get_or places tag found → IfSome found (λ (kept : KeptRecord F). kept.tag ≡ tag)
own_tag places tag None all here is = tt
own_tag places tag (Some kept) all here is = all tag kept (get_or_default places tag None (Some kept) here ∙ sym is)

pub returns-clause-own_tag : goal.returns-clause-own_tag
returns-clause-own_tag g c =
    own_tag c.self.inside.places.items c.args.tag c.take.result c.self.invariant.0 (ltb-true _ _ (sym c.in_ok-get_mut.ensures.item.0))
    (cc (c.take.ensures.value, c.in_ok-get_mut.ensures.value))

pub returns-in_err-get_mut-clause-value : goal.returns-in_err-get_mut-clause-value
returns-in_err-get_mut-clause-value g c = search rules

pub returns-in_err-get_mut-clause-after : goal.returns-in_err-get_mut-clause-after
returns-in_err-get_mut-clause-after g c = grind (arith, common_steps)

pub returns-clause-value : goal.returns-clause-value
returns-clause-value g c = search rules

pub returns-clause-after : goal.returns-clause-after
returns-clause-after g c = search rules

pub invariant_of-self-2 : goal.invariant_of-self-2
invariant_of-self-2 g c =
    let tags = tags_set c.self.inside.places.items c.args.tag c.take.new.self c.self.invariant.0 (search rules) in
    search rules
