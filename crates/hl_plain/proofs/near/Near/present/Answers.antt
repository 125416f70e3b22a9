use Rattle.std.proofs.Common.{ap, ◌∙◌}
use Rattle.hl_model.specs.AfterReplies.{base_after}
use Rattle.hl_plain.specs.Kept.{behind}
use Rattle.hl_plain.proofs.HistoryLaws.{present}
use Rattle.hl_plain.proofs.NearLaws.{rest_is}
use Rattle.hl_plain.proofs.near.Near.present.Goals as goal

pub after-requires : goal.after-requires
after-requires c =
    let near = c.args.self.now in
    rw (rest_is c.args.steps.now near.since, c.deref.ensures.value, c.deref-2.ensures.value)
    (present (behind near c.args.steps.now) near.flushes.items near.cleans.items c.requires.kept)

pub returns : goal.returns
returns c = c.after.ensures ∙ ap (base_after c.args.self.now.base) (rest_is c.args.steps.now c.args.self.now.since)
