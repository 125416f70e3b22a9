use Rattle.std.proofs.Common.{refl, sym, ap}
use Rattle.std.proofs.lemmas.Result.{err_from_is_err_and}
use Rattle.hl_script.specs.Text.{tags_on, count_of}
use Rattle.hl_script.proofs.RunLaws.{stopped_first, engine_headline}
use Rattle.hl_script.proofs.run.run_text_within.Goals as goal

pub returns-in_err-ended : goal.returns-in_err-ended
returns-in_err-ended g c =
    let p = err_from_is_err_and c.from_residual.result c.from_residual.ensures.1 in
    rw (p.1, p.2) (stopped_first (tags_on c.args.shelf) c.args.reads _ _ _ _ c.in_err-ended.field-0.0 (c.in_err-ended.ensures (tags_on c.args.shelf) refl))

pub returns-in_default : goal.returns-in_default
returns-in_default g c =
    let r = rw c.in_default.is at (c.in_ok-ended.ensures (tags_on c.args.shelf) refl) in
    (r.0, r.1, r.2, (sym (ap (count_of (tags_on c.args.shelf)) r.3), tt))

pub returns : goal.returns
returns g c =
    let r = rw c.in-Some.is at (c.in_ok-ended.ensures (tags_on c.args.shelf) refl) in
    (r.0, r.1, r.2, (sym r.3.0, record { standing = r.3.1.standing; sizes = r.3.1.sizes_is; headline = engine_headline r.3.1.sizes_is r.3.1.standing }))
