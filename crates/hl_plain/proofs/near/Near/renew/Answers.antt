use Rattle.std.proofs.Common.{◌≡◌, ◌∙◌, arith, false, drop, length, sym, ap, subst}
use Rattle.std.proofs.Math.Seq.{drop-length}
use Rattle.hl_model.specs.Bases.{Base, IsBase}
use Rattle.hl_model.specs.AfterReplies.{base_after}
use Rattle.hl_plain.specs.Histories.{IsHistory, begun}
use Rattle.hl_plain.specs.Kept.{behind, present_by}
use Rattle.hl_plain.proofs.HistoryLaws.{present, AreKept-begun}
use Rattle.hl_plain.proofs.NearLaws.{rest_is, sizes_after, IsBase-present, IsHistory-present}
use Rattle.hl_plain.proofs.near.Near.renew.Goals as goal

pub after-present-requires : goal.after-present-requires
after-present-requires c =
    let near = c.args.self.now in
    rw (rest_is c.args.steps.now near.since, c.deref.ensures.value, c.deref-2.ensures.value)
    (present (behind near c.args.steps.now) near.flushes.items near.cleans.items c.requires.kept)

pub renew-requires-clause-base : goal.renew-requires-clause-base
renew-requires-clause-base c =
    let near = c.args.self.now in
    let is : c.of.result.present ≡ present_by near c.args.steps.now = c.of.ensures ∙ c.after-present.ensures ∙ ap (base_after near.base) (rest_is c.args.steps.now near.since) in
    subst IsBase (sym is) (IsBase-present (behind near c.args.steps.now) c.requires.kept.history)

pub renew-requires-clause-sizes : goal.renew-requires-clause-sizes
renew-requires-clause-sizes c =
    let near = c.args.self.now in
    let is : c.of.result.present ≡ present_by near c.args.steps.now = c.of.ensures ∙ c.after-present.ensures ∙ ap (base_after near.base) (rest_is c.args.steps.now near.since) in
    ap (λ (b : Base). b.sizes) is ∙ sizes_after near.base (drop near.since c.args.steps.now) ∙ sym c.requires.same_sizes

pub returns-clause-near : goal.returns-clause-near
returns-clause-near c =
    let near = c.args.self.now in
    let L = c.args.steps.now in
    let is : c.swap.new.x ≡ present_by near L = c.swap.ensures.x_after ∙ c.renew.ensures ∙ c.of.ensures ∙ c.after-present.ensures ∙ ap (base_after near.base) (rest_is L near.since) in
    record {
      kept = AreKept-begun c.swap.new.x false (drop (length L) L) c.clear.new.self.items c.clear-2.new.self.items
          (subst (λ (b : Base). IsHistory (begun b false)) (sym is) (IsHistory-present (behind near L) c.requires.kept.history)) (drop-length L) c.clear.ensures.items c.clear-2.ensures.items;
      since_most = omega arith;
      flushes_room = omega (arith, c.clear.ensures.capacity, c.requires.flushes_room);
      cleans_room = omega (arith, c.clear-2.ensures.capacity, c.requires.cleans_room);
      same_sizes = ap (λ (b : Base). b.sizes) c.swap.ensures.y_after ∙ sym (sizes_after near.base (drop near.since L)) ∙ sym (ap (λ (b : Base). b.sizes) is);
    }

pub returns-clause-base : goal.returns-clause-base
returns-clause-base c =
    let near = c.args.self.now in
    c.swap.ensures.x_after ∙ c.renew.ensures ∙ c.of.ensures ∙ c.after-present.ensures ∙ ap (base_after near.base) (rest_is c.args.steps.now near.since)
