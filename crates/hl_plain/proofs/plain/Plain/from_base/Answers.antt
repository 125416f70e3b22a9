use Rattle.hl_model.specs.Bases.{Base}
use Rattle.hl_model.specs.Sizes.{Sizes}
use Rattle.std.proofs.Common.{ap, sym, subst, arith, false}
use Rattle.hl_plain.specs.Histories.{IsHistory, begun}
use Rattle.hl_plain.proofs.HistoryLaws.{IsHistory-base}
use Rattle.hl_plain.proofs.plain.Plain.from_base.Goals as goal

pub begin-requires-clause-history : goal.begin-requires-clause-history
begin-requires-clause-history c =
    subst (λ (b : Base). IsHistory (begun b false)) (sym c.in_ok-base.ensures.ok)
    (IsHistory-base c.args.base.now c.requires.narrow c.in_ok-base.ensures.valid)

pub begin-requires-clause-room : goal.begin-requires-clause-room
begin-requires-clause-room c =
    omega (arith, ap (λ (b : Base). b.sizes.frames) c.in_ok-base.ensures.ok, ap (λ (s : Sizes). s.frames) c.params.ensures, c.frames-room.ensures.value)
