use Rattle.std.proofs.Common.{ap, ◌∙◌}
use Rattle.std.specs.Prelude.{Ok}
use Rattle.hl_keeper.specs.Passes.{seen, last_read_only, last_head, last_ended}
use Rattle.hl_domain.proofs.DomainLaws.{seen_news}
use Rattle.hl_domain.proofs.domain.Domain.keep_up.Goals as goal

pub returns-then-keeps_up-clause-kept : goal.returns-then-keeps_up-clause-kept
returns-then-keeps_up-clause-kept g c =
    let e = c.keeps_up.ensures in
    let new = c.keeps_up.new.pass in
    λ current. (ap (λ v. Ok v) (c.view.ensures ∙ ap seen e.pass ∙ seen_news (last_read_only new) (last_head new) (last_ended new) c.args.pass.now), e.pass)
