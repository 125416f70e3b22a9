use Rattle.std.proofs.Common.{rules, of_calls, ◌∙◌, ltb, position, sym, ap, subst, arith}
use Rattle.std.proofs.lemmas.Fn.{always_returns_same}
use Rattle.std.proofs.lemmas.List.Sorted.{IsPartitionedBy-ltb}
use Rattle.hl_model.specs.declared.action.Kind.TheVariants.{User}
use Rattle.hl_model.specs.declared.action.Waiting.{Waiting}
use Rattle.hl_drain.specs.Lists.{has_ticket}
use Rattle.hl_drain.specs.Taken.{Rises, tickets_of}
use Rattle.hl_drain.proofs.TakenLaws.{not_falling, place_here, place_nowhere}
use Rattle.hl_drain.proofs.taken.Taken.place_of.Goals as goal

-- an action that isn't there
abbrev none : Waiting
none = record { ticket = 0; kind = User 0 }

pub returns-then-place-row : goal.returns-then-place-row
returns-then-place-row c =
    let same = c.as_slice-row.ensures in
    let row = c.as_slice-row.result.now in
    let rises : Rises (tickets_of row) = subst (λ xs. Rises (tickets_of xs)) (sym same) c.requires.rising in
    let point = c.partition_point-place.ensures.partitioned (λ w. ltb w.ticket c.args.ticket) (always_returns_same _ _ _ (λ a r f k. search (rules, of_calls))) (IsPartitionedBy-ltb (λ w. w.ticket) row c.args.ticket (not_falling (λ (w : Waiting). w.ticket) row rises)) in
    place_nowhere (λ (w : Waiting). w.ticket) c.args.ticket row c.partition_point-place.result none rises point (λ within. absurd (omega (arith, within, c.if-place-row.true))) ∙ ap (position (has_ticket c.args.ticket)) same

pub returns-then-row-place : goal.returns-then-row-place
returns-then-row-place c =
    let same = c.as_slice-row.ensures in
    let row = c.as_slice-row.result.now in
    let rises : Rises (tickets_of row) = subst (λ xs. Rises (tickets_of xs)) (sym same) c.requires.rising in
    let point = c.partition_point-place.ensures.partitioned (λ w. ltb w.ticket c.args.ticket) (always_returns_same _ _ _ (λ a r f k. search (rules, of_calls))) (IsPartitionedBy-ltb (λ w. w.ticket) row c.args.ticket (not_falling (λ (w : Waiting). w.ticket) row rises)) in
    place_nowhere (λ (w : Waiting). w.ticket) c.args.ticket row c.partition_point-place.result none rises point (λ within. c.if-row-place.true) ∙ ap (position (has_ticket c.args.ticket)) same

pub returns : goal.returns
returns c =
    let same = c.as_slice-row.ensures in
    let row = c.as_slice-row.result.now in
    let rises : Rises (tickets_of row) = subst (λ xs. Rises (tickets_of xs)) (sym same) c.requires.rising in
    let point = c.partition_point-place.ensures.partitioned (λ w. ltb w.ticket c.args.ticket) (always_returns_same _ _ _ (λ a r f k. search (rules, of_calls))) (IsPartitionedBy-ltb (λ w. w.ticket) row c.args.ticket (not_falling (λ (w : Waiting). w.ticket) row rises)) in
    place_here (λ (w : Waiting). w.ticket) c.args.ticket row c.partition_point-place.result none point (search rules) c.if-row-place.false ∙ ap (position (has_ticket c.args.ticket)) same
