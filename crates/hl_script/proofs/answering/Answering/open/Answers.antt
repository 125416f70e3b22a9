use Rattle.std.proofs.Common.{refl}
use Rattle.hl_script.specs.Text.{tags_on}
use Rattle.hl_script.specs.Fast.{IsFast}
use Rattle.hl_script.proofs.StandsLaws.{no_config, opened_at}
use Rattle.hl_script.proofs.answering.Answering.open.Goals as goal

pub returns-in_default-clause-none : goal.returns-in_default-clause-none
returns-in_default-clause-none g c = λ e. no_config c.args.first.now c.in_default.not-Config

pub returns-clause-some : goal.returns-clause-some
returns-clause-some g c =
    let shelf = c.args.shelf in
    opened_at (IsFast c.in-Some.fast.shelf c.in-Some.fast.engine) (tags_on shelf) c.args.first.now c.in-Config.sizes c.in-Config.is (c.in-Some.ensures (tags_on shelf) refl)
