use Rattle.std.proofs.Common.{◌-◌, ap, ◌∙◌}
use Rattle.hl_model.specs.Lists.{least_or}
use Rattle.hl_model.specs.Epochs.{safe_among}
use Rattle.hl_plain.specs.Presents.{epochs_in}
use Rattle.hl_plain.proofs.safe.safe.Goals as goal

pub returns : goal.returns
unfolding safe_among
returns c =
    c.saturating_sub.ensures ∙ ap (λ n. n - 1)
    (c.unwrap_or-least.ensures ∙ c.least_epoch.ensures c.epoch.result ∙ ap (λ d. least_or d (epochs_in c.args.present.now.slots)) c.epoch.ensures)
