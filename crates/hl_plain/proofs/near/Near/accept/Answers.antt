use Rattle.std.proofs.Common.{◌≡◌, ◌∙◌, refl, ◌-◌, ◌++◌, ◌∷◌, [], arith, length, length-append, take, drop, ap, ap₂, sym}
use Rattle.std.proofs.Math.Seq.{take-append_seam}
use Rattle.std.proofs.lemmas.List.{length-drop}
use Rattle.hl_plain.specs.Kept.{behind}
use Rattle.hl_plain.proofs.HistoryLaws.{bounded, present, flushes-le, cleans-le, AreKept-push}
use Rattle.hl_plain.proofs.NearLaws.{rest_is, rest-push}
use Rattle.hl_plain.proofs.near.Near.accept.Goals as goal

pub mark_of-flush-requires : goal.mark_of-flush-requires
mark_of-flush-requires c = (bounded (behind c.args.self.now c.args.steps.now.items) c.requires.near.kept.history).epoch_most

pub mark_of-clean-requires : goal.mark_of-clean-requires
mark_of-clean-requires c = (bounded (behind c.args.self.now c.args.steps.now.items) c.requires.near.kept.history).epoch_most

-- there are no more marks than steps behind the base
pub push-requires : goal.push-requires
push-requires c =
    let near = c.args.self.now in
    let few = flushes-le (behind near c.args.steps.now.items) near.flushes.items near.cleans.items c.requires.near.kept in
    omega (arith, few, length-drop near.since c.args.steps.now.items, c.requires.near.flushes_room, c.requires.few)

pub push-requires-2 : goal.push-requires-2
push-requires-2 c =
    let near = c.args.self.now in
    let few = cleans-le (behind near c.args.steps.now.items) near.flushes.items near.cleans.items c.requires.near.kept in
    omega (arith, few, length-drop near.since c.args.steps.now.items, c.requires.near.cleans_room, c.requires.few)

pub after-before-requires : goal.after-before-requires
after-before-requires c =
    let near = c.args.self.now in
    let L = c.args.steps.now.items in
    let first : take (length c.deref.result.now - near.since) (drop near.since c.deref.result.now) ≡ drop near.since L = rest_is c.deref.result.now near.since ∙ ap (drop near.since) c.deref.ensures.value in
    let grown : take (length c.deref-4.result.now - near.since) (drop near.since c.deref-4.result.now) ≡ drop near.since L ++ c.args.step.now ∷ []
    = rest_is c.deref-4.result.now near.since ∙ rest-push L c.deref-4.result.now near.since c.args.step.now c.requires.near.since_most (c.deref-4.ensures.value ∙ c.push_reserved.ensures.items) in
    let listed : take (length (take (length c.deref.result.now - near.since) (drop near.since c.deref.result.now))) (take (length c.deref-4.result.now - near.since) (drop near.since c.deref-4.result.now)) ≡ drop near.since L
    = ap₂ (λ a b. take (length a) b) first grown ∙ take-append_seam (drop near.since L) (c.args.step.now ∷ []) in
    let flushed = c.push.ensures.items c.len-flushed.result (c.len-flushed.ensures ∙ sym c.deref-2.ensures.len ∙ ap length c.deref-2.ensures.value) in
    let cleaned = c.push-2.ensures.items c.len-cleaned.result (c.len-cleaned.ensures ∙ sym c.deref-3.ensures.len ∙ ap length c.deref-3.ensures.value) in
    rw (listed, c.deref-5.ensures.value, c.deref-6.ensures.value, flushed, cleaned) (present (behind near L) near.flushes.items near.cleans.items c.requires.near.kept)

pub after-after-requires : goal.after-after-requires
after-after-requires c =
    let near = c.args.self.now in
    let L = c.args.steps.now.items in
    let first : take (length c.deref.result.now - near.since) (drop near.since c.deref.result.now) ≡ drop near.since L = rest_is c.deref.result.now near.since ∙ ap (drop near.since) c.deref.ensures.value in
    let grown : take (length c.deref-4.result.now - near.since) (drop near.since c.deref-4.result.now) ≡ drop near.since L ++ c.args.step.now ∷ []
    = rest_is c.deref-4.result.now near.since ∙ rest-push L c.deref-4.result.now near.since c.args.step.now c.requires.near.since_most (c.deref-4.ensures.value ∙ c.push_reserved.ensures.items) in
    let flush = rw (first, c.deref-2.ensures.value) at c.mark_of-flush.ensures in
    let clean = rw (first, c.deref-3.ensures.value) at c.mark_of-clean.ensures in
    rw (grown, c.deref-7.ensures.value, c.deref-8.ensures.value)
    (present _ c.push.new.row.items c.push-2.new.row.items
    (AreKept-push (behind near L) c.args.step.now (drop near.since L ++ c.args.step.now ∷ []) near.flushes.items near.cleans.items c.push.new.row.items c.push-2.new.row.items c.mark_of-flush.result c.mark_of-clean.result
    c.requires.near.kept c.requires.accepted refl flush c.push.ensures.marks clean c.push-2.ensures.marks))

pub returns-clause-near : goal.returns-clause-near
returns-clause-near c =
    let near = c.args.self.now in
    let L = c.args.steps.now.items in
    let M = c.push_reserved.new.self.items in
    let first : take (length c.deref.result.now - near.since) (drop near.since c.deref.result.now) ≡ drop near.since L = rest_is c.deref.result.now near.since ∙ ap (drop near.since) c.deref.ensures.value in
    let flush = rw (first, c.deref-2.ensures.value) at c.mark_of-flush.ensures in
    let clean = rw (first, c.deref-3.ensures.value) at c.mark_of-clean.ensures in
    record {
      kept = AreKept-push (behind near L) c.args.step.now (drop near.since M) near.flushes.items near.cleans.items c.push.new.row.items c.push-2.new.row.items c.mark_of-flush.result c.mark_of-clean.result
          c.requires.near.kept c.requires.accepted (rest-push L M near.since c.args.step.now c.requires.near.since_most c.push_reserved.ensures.items) flush c.push.ensures.marks clean c.push-2.ensures.marks;
      since_most = omega (arith, ap length c.push_reserved.ensures.items, length-append L (c.args.step.now ∷ []), c.requires.near.since_most);
      flushes_room = omega (arith, c.push.ensures.room, c.requires.near.flushes_room);
      cleans_room = omega (arith, c.push-2.ensures.room, c.requires.near.cleans_room);
      same_sizes = c.requires.near.same_sizes;
    }
