use Rattle.std.proofs.Common.{ap, sym, ◌∙◌, take, arith, []}
use Rattle.std.proofs.lemmas.List.{take_all}
use Rattle.hl_core.proofs.HoldingStands.{holders_of-none, holders_more, holders_same}
use Rattle.hl_core.proofs.state.Core.hold.Goals.{in-Some, in_default}
use Rattle.hl_core.proofs.state.Core.hold.Goals as goal

pub loop-t-init : goal.loop-t-init
loop-t-init g c = λ A st. c.requires ∙ sym (take_all g.row.N [] (omega arith)) ∙ ap (take g.row.N) (holders_of-none c.args.ticket A)

pub loop-t-preserved : goal.loop-t-preserved
loop-t-preserved g c =
    let l = c.loop-t in
    elim c.match-holder.branch [
      | in-Some w ↦ λ A st. rw w.row-is (holders_more g.J.Tagged.tag c.args.self.now g.row.N c.args.ticket l.t l.row.items _ w.in-Some.holder l.invariant w.push_within.ensures (λ A st. sym w.in-Some.is ∙ c.holder.ensures A st) A st)
      | in_default w ↦ λ A st. rw w.row-is (holders_same g.J.Tagged.tag c.args.self.now g.row.N c.args.ticket l.t l.row.items l.invariant (λ A st. sym w.in_default.is ∙ c.holder.ensures A st) A st)
    ]
