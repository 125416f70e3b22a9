use Rattle.std.proofs.Common.{rules, [], replicate, sym, ap, ◌∙◌}
use Rattle.hl_model.specs.Sizes.{Sizes}
use Rattle.hl_keeper.proofs.KeeperLaws.{opened}
use Rattle.hl_keeper.proofs.keeper.Keeper.open_with_recorder.Goals as goal

pub invariant_of-keeper : goal.invariant_of-keeper
invariant_of-keeper g c = record {
  of = record {
    standing = ([], opened c.in_ok-core.core c.in_ok-journal.journal c.args.journal c.in_ok-stamps.stamps c.args.stamp c.in_ok-words.master c.params-params.result c.in_ok-core.ensures.ok.0 c.in_ok-core.ensures.ok.1 c.in_ok-journal.ensures.journal (c.in_ok-stamps.ensures.row ∙ ap (λ n. replicate n 0) c.slots.ensures.value) c.in_ok-stamps.ensures.counts.0 c.in_ok-stamps.ensures.counts.1 c.requires.stamp c.in_ok-words.ensures.master);
    sizes_are = c.in_ok-core.ensures.ok.1 ∙ c.params-params.ensures.value ∙ c.requires.named.0;
    stamp_is = c.in_ok-stamps.ensures.counts.0 ∙ c.requires.named.1;
  };
  exact = c.in_ok-stamps.ensures.room ∙ c.slots.ensures.value ∙ ap (λ (z : Sizes). z.slots) (sym c.in_ok-core.ensures.ok.1);
}

pub returns-clause-opened : goal.returns-clause-opened
returns-clause-opened g c = record {
  keeper = opened c.in_ok-core.core c.in_ok-journal.journal c.args.journal c.in_ok-stamps.stamps c.args.stamp c.in_ok-words.master c.params-params.result c.in_ok-core.ensures.ok.0 c.in_ok-core.ensures.ok.1 c.in_ok-journal.ensures.journal (c.in_ok-stamps.ensures.row ∙ ap (λ n. replicate n 0) c.slots.ensures.value) c.in_ok-stamps.ensures.counts.0 c.in_ok-stamps.ensures.counts.1 c.requires.stamp c.in_ok-words.ensures.master;
  sizes = search rules;
  limit = search rules;
  stamp = search rules;
  called = search rules;
  words = search rules;
  riders = search rules;
}
