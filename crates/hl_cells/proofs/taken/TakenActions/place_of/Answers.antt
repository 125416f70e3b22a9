use Rattle.std.proofs.Common.{rules, of_calls, ◌≡◌, ◌∙◌, ltb, position, sym, ap, subst}
use Rattle.std.proofs.lemmas.Fn.{always_returns_same}
use Rattle.std.proofs.lemmas.List.Sorted.{IsPartitionedBy-ltb}
use Rattle.hl_action.specs.Jobs.{ReadyRecord}
use Rattle.hl_drain.specs.Taken.{Rises}
use Rattle.hl_drain.proofs.TakenLaws.{not_falling, place_here, place_nowhere, place_past}
use Rattle.hl_cells.specs.TakenActions.{Row, fires, tickets_held}
use Rattle.hl_cells.proofs.taken.TakenActions.place_of.Goals as goal

pub returns-then-place-len : goal.returns-then-place-len
returns-then-place-len g c =
    let n = λ (ready : ReadyRecord g.row.F.Denot). ready.firing.ticket in
    let row = c.self.inside.row.items in
    let same : row ≡ c.args.self.now.actions = ap (λ (z : Row g.row.F.Denot). z.actions) c.self.view_is in
    let rises : Rises (tickets_held row) = subst (λ xs. Rises (tickets_held xs)) (sym same) c.requires.rising in
    let point = c.partition_point-place.ensures.partitioned (λ ready. ltb (n ready) c.args.ticket) (always_returns_same _ _ _ (λ a r f k. search (rules, of_calls))) (IsPartitionedBy-ltb n row c.args.ticket (not_falling n row rises)) in
    place_past n c.args.ticket row c.partition_point-place.result rises point (search rules) ∙ ap (position (fires c.args.ticket)) same

pub returns-then-ticket : goal.returns-then-ticket
returns-then-ticket g c =
    let n = λ (ready : ReadyRecord g.row.F.Denot). ready.firing.ticket in
    let row = c.self.inside.row.items in
    let same : row ≡ c.args.self.now.actions = ap (λ (z : Row g.row.F.Denot). z.actions) c.self.view_is in
    let rises : Rises (tickets_held row) = subst (λ xs. Rises (tickets_held xs)) (sym same) c.requires.rising in
    let point = c.partition_point-place.ensures.partitioned (λ ready. ltb (n ready) c.args.ticket) (always_returns_same _ _ _ (λ a r f k. search (rules, of_calls))) (IsPartitionedBy-ltb n row c.args.ticket (not_falling n row rises)) in
    place_nowhere n c.args.ticket row c.partition_point-place.result c.index.result.now rises point (λ within e. c.if-ticket.true (c.ticket.ensures ∙ ap n c.index.ensures ∙ e)) ∙ ap (position (fires c.args.ticket)) same

pub returns : goal.returns
returns g c =
    let n = λ (ready : ReadyRecord g.row.F.Denot). ready.firing.ticket in
    let row = c.self.inside.row.items in
    let same : row ≡ c.args.self.now.actions = ap (λ (z : Row g.row.F.Denot). z.actions) c.self.view_is in
    let rises : Rises (tickets_held row) = subst (λ xs. Rises (tickets_held xs)) (sym same) c.requires.rising in
    let point = c.partition_point-place.ensures.partitioned (λ ready. ltb (n ready) c.args.ticket) (always_returns_same _ _ _ (λ a r f k. search (rules, of_calls))) (IsPartitionedBy-ltb n row c.args.ticket (not_falling n row rises)) in
    place_here n c.args.ticket row c.partition_point-place.result c.index.result.now point (search rules) (sym (ap n c.index.ensures) ∙ sym c.ticket.ensures ∙ c.if-ticket.false) ∙ ap (position (fires c.args.ticket)) same
