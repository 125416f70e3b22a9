use Rattle.std.proofs.Common.{sym, ap, ◌∙◌, length}
use Rattle.std.specs.Slots.{slots_items}
use Rattle.hl_history.proofs.Steps.{ends}
use Rattle.hl_history.proofs.history.History.close.Goals as goal

pub returns : goal.returns
returns g c =
    let key = c.self.inside.table.shared.key in
    let seat = c.gathered.inside.seat in
    let all = ap (λ s. length s.records) c.gathered.view_is ∙ c.requires ∙ sym c.self.view_is ∙ sym (ap (λ k. k.records) c.self.invariant.0.key_is) in
    rw (← c.gathered.view_is) (ends key (slots_items c.close_with.result.words) (slots_items c.close_with.result.slots) seat.me.0.list seat.me.0.records seat.id seat.me c.gathered.invariant.0 all c.close_with.ensures.values.2)
