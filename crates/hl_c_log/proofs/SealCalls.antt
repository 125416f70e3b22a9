-- What a seal by a pass comes to.
use Rattle.std.proofs.Common.{◌≡◌, sym, ap, ◌∙◌, subst}
use Rattle.std.specs.Prelude.{Option, Some, Result}
use Rattle.hl_model.specs.declared.fault.Fault.{Fault}
use Rattle.hl_answers.specs.declared.outcome.Outcome.{Outcome}
use Rattle.hl_log.specs.declared.sealed.Sealed.{Sealed}
use Rattle.hl_log.specs.Passes.{IsRisen}
use Rattle.hl_log.specs.Seals.{seal_list, Leads, Seals}
use Rattle.hl_c_log.specs.Rows.{LogRow, PassRow}
use Rattle.hl_c_log.specs.Seals.{sealed_outcome, SealsBy}

-- a log and a pass that were taken out, sealed and were put back
pub seals_by : (v w : Option LogRow.Denot) (q r : Option PassRow.Denot) (old lent new : LogRow.Denot) (p lent_pass left : PassRow.Denot) (outcome : Outcome) (result : Result Sealed Fault)
    → v ≡ Some old → q ≡ Some p → w ≡ Some new → r ≡ Some left → lent ≡ old → lent_pass ≡ p
    → IsRisen lent_pass → Seals lent lent_pass new left result → outcome ≡ sealed_outcome result → SealsBy v q w r outcome
seals_by v w q r old lent new p lent_pass left outcome result was had is stays same same_pass risen made told =
    let here : Seals old p new left result = subst (λ (l : LogRow.Denot). Seals l p new left result) same (subst (λ (o : PassRow.Denot). Seals lent o new left result) same_pass made) in
    subst (λ (u : Option LogRow.Denot). SealsBy u q w r outcome) (sym was)
    (subst (λ (u : Option PassRow.Denot). SealsBy (Some old) u w r outcome) (sym had) (
      new,
      left,
      is,
      stays,
      here.beside,
      λ A at. let s = here.sealing A at in record {
        told = told ∙ ap sealed_outcome s.reply;
        sizes = s.sizes;
        standing = s.standing;
        pass = s.pass;
        known = here.known A at;
        leads = λ known. subst (λ (r : Result Sealed Fault). Leads old.core.sizes r (seal_list old A p)) s.reply (here.leads A at known);
        entered = λ known. here.entered A at known (subst (λ (o : PassRow.Denot). IsRisen o) same_pass risen);
      },
    ))
