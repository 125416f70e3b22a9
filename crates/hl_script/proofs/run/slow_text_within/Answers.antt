use Rattle.std.proofs.Common.{refl, sym, ap}
use Rattle.std.proofs.lemmas.Result.{err_from_is_err_and}
use Rattle.hl_script.specs.Text.{below, count_of}
use Rattle.hl_script.proofs.run.slow_text_within.Goals as goal

pub returns-in_err-ended : goal.returns-in_err-ended
returns-in_err-ended g c =
    let p = err_from_is_err_and c.from_residual.result c.from_residual.ensures.1 in
    rw (p.1, p.2) (c.in_err-ended.ensures (below c.args.tags) (refl, c.requires))

pub returns-in_default : goal.returns-in_default
returns-in_default g c =
    let r = rw c.in_default.is at (c.in_ok-ended.ensures (below c.args.tags) (refl, c.requires)) in
    (r.0, r.1, r.2, sym (ap (count_of (below c.args.tags)) r.3))

pub returns : goal.returns
returns g c =
    let r = rw c.in-Some.is at (c.in_ok-ended.ensures (below c.args.tags) (refl, c.requires)) in
    (r.0, r.1, r.2, sym r.3.0)
