use Rattle.hl_model.specs.Bases.{Base, base_of}
use Rattle.std.proofs.Common.{ap, sym, subst, arith, true}
use Rattle.hl_plain.specs.Histories.{IsHistory, begun}
use Rattle.hl_plain.proofs.HistoryLaws.{IsHistory-opening}
use Rattle.hl_plain.proofs.plain.Plain.open.Goals as goal

pub begin-requires-clause-history : goal.begin-requires-clause-history
begin-requires-clause-history c =
    subst (λ (b : Base). IsHistory (begun b true)) (sym c.in_ok-base.ensures.ok) (IsHistory-opening c.args.params c.frames-room.ensures.valid)

pub begin-requires-clause-room : goal.begin-requires-clause-room
unfolding base_of
begin-requires-clause-room c = omega (arith, ap (λ (b : Base). b.sizes.frames) c.in_ok-base.ensures.ok, c.frames-room.ensures.value)
