use Rattle.std.proofs.Common.{arith, false, [], refl, sym, ◌∙◌, subst}
use Rattle.hl_model.specs.Bases.{Base}
use Rattle.hl_plain.specs.Histories.{IsHistory, begun}
use Rattle.hl_plain.proofs.HistoryLaws.{AreKept-begun, IsHistory-base}
use Rattle.hl_plain.proofs.NearLaws.{none_since}
use Rattle.hl_plain.proofs.near.Near.at.Goals as goal

pub returns-clause-at : goal.returns-clause-at
returns-clause-at c = c.in_ok-base.ensures.ok ∙ sym (none_since c.args.base.now c.in_ok-base.ensures.valid)

pub returns-clause-near : goal.returns-clause-near
returns-clause-near c = record {
  kept = AreKept-begun c.in_ok-base.base false [] c.in_ok-flushes.flushes.items c.in_ok-cleans.cleans.items
      (subst (λ (b : Base). IsHistory (begun b false)) (sym c.in_ok-base.ensures.ok) (IsHistory-base c.args.base.now c.requires c.in_ok-base.ensures.valid)) refl c.in_ok-flushes.ensures.empty c.in_ok-cleans.ensures.empty;
  since_most = omega arith;
  flushes_room = omega (arith, c.in_ok-flushes.ensures.room);
  cleans_room = omega (arith, c.in_ok-cleans.ensures.room);
  same_sizes = cc (c.in_ok-spare.ensures.ok, c.in_ok-base.ensures.ok);
}
