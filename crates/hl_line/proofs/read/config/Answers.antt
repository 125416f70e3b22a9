use Rattle.std.proofs.Common.{refl, rules}
use Rattle.std.proofs.lemmas.Bool.{false≢true}
use Rattle.hl_model.specs.Sizes.{Sizes}
use Rattle.hl_line.proofs.Fitting.{config_of-opened, config_of-wide}
use Rattle.hl_line.proofs.read.config.Goals as goal

pub returns-in_err-sizes : goal.returns-in_err-sizes
returns-in_err-sizes c =
    let sizes : Sizes = record { page_size = c.args.page_size; frames = c.args.frames; slots = c.args.slots; drain = c.args.drain } in
    rw (config_of-wide sizes (λ h. false≢true (c.in_err-sizes.ensures.in_range.1 h))) (search rules)

pub returns : goal.returns
returns c =
    let sizes : Sizes = record { page_size = c.args.page_size; frames = c.args.frames; slots = c.args.slots; drain = c.args.drain } in
    config_of-opened sizes c.in_ok-sizes.sizes c.in_ok-sizes.ensures.value (c.in_ok-sizes.ensures.in_range.0 refl)
