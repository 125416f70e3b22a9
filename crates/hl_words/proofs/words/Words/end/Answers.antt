use Rattle.std.proofs.Common.{◌≡◌, ℕ, map, length, drop, sym, ap, ◌∙◌, subst, rules}
use Rattle.std.specs.Slots.{slots_items}
use Rattle.std.proofs.lemmas.List.{length-map}
use Rattle.hl_words.specs.States.{MasterState, RiderState, known_to_all}
use Rattle.hl_words.specs.Rule.{IsRuledAt}
use Rattle.hl_words.proofs.Seatings.{ends}
use Rattle.hl_words.proofs.Told.{attested, known_back}
use Rattle.hl_words.proofs.words.Words.end.Goals as goal

-- the last words meet the rule with the lists of all riders
pub returns-clause-rule : goal.returns-clause-rule
returns-clause-rule g c =
    let t = c.self.invariant.0 in
    let key = c.self.inside.table.shared.key in
    let riders = map (λ (r : RiderState). r.view) c.args.riders.items in
    let seat = c.attest.new.seat in
    let e = c.attest.ensures in
    let words = slots_items c.close_with.result.words in
    let long : length c.args.riders.items ≡ c.self.inside.room.riders = c.requires ∙ sym (ap (λ w. w.riders) c.self.view_is) in
    let all : length riders ≡ key.riders = length-map c.args.riders.items (λ (r : RiderState). r.view) ∙ long ∙ sym (ap (λ k. k.riders) t.key_is) in
    let knows = attested _ _ riders _ c.gather.new.ended.seat.me seat.me c.gather.ensures.seat.1.knows e.2 in
    let both = ends key words (slots_items c.close_with.result.slots) c.master.inside.seat.me.0.called c.master.inside.seat.me.0.offsets riders (known_to_all (λ all. all.items) c.args.pasts) seat.id seat.me.0 (e.1 ∙ c.gather.ensures.seat.1.first) knows all c.close_with.ensures.values.2 in
    let cells : key.cells ≡ c.args.self.cells = ap (λ k. k.cells) t.key_is ∙ ap (λ w. w.cells) c.self.view_is in
    let mine = subst (λ (m : MasterState). IsRuledAt key.cells (drop 8 words) m.offsets m.called riders) c.master.view_is both.0 in
    let told = subst (λ (n : ℕ). IsRuledAt n (drop 8 words) c.args.master.offsets c.args.master.called riders) cells mine in
    subst (λ ws. IsRuledAt c.args.self.cells ws c.args.master.offsets c.args.master.called riders) (sym (ap (λ l. l.words) c.of.ensures)) told

-- and what the pasts told was done
pub returns-clause-known : goal.returns-clause-known
returns-clause-known g c =
    let t = c.self.invariant.0 in
    let key = c.self.inside.table.shared.key in
    let riders = map (λ (r : RiderState). r.view) c.args.riders.items in
    let seat = c.attest.new.seat in
    let e = c.attest.ensures in
    let words = slots_items c.close_with.result.words in
    let long : length c.args.riders.items ≡ c.self.inside.room.riders = c.requires ∙ sym (ap (λ w. w.riders) c.self.view_is) in
    let all : length riders ≡ key.riders = length-map c.args.riders.items (λ (r : RiderState). r.view) ∙ long ∙ sym (ap (λ k. k.riders) t.key_is) in
    let knows = attested _ _ riders _ c.gather.new.ended.seat.me seat.me c.gather.ensures.seat.1.knows e.2 in
    let both = ends key words (slots_items c.close_with.result.slots) c.master.inside.seat.me.0.called c.master.inside.seat.me.0.offsets riders (known_to_all (λ all. all.items) c.args.pasts) seat.id seat.me.0 (e.1 ∙ c.gather.ensures.seat.1.first) knows all c.close_with.ensures.values.2 in
    known_back (λ all. all.items) riders c.args.pasts both.1

pub returns-clause-total : goal.returns-clause-total
returns-clause-total g c = search rules
