use Rattle.std.proofs.Common.{◌∙◌, ap, refl}
use Rattle.std.specs.Prelude.{Err}
use Rattle.std.proofs.lemmas.Result.{err_from_is_err_and}
use Rattle.hl_commands.proofs.StatusLaws.{text_stopped, text_alone, no_images}
use Rattle.hl_commands.proofs.commands.serve_slowly.Goals as goal

pub returns-in_err-slow_text : goal.returns-in_err-slow_text
returns-in_err-slow_text g c =
    let p = err_from_is_err_and c.from_residual.result c.from_residual.ensures.1 in
    text_stopped _ _ _ _ _ _ _ c.in_err-slow_text.field-0.0 _ (λ tag. refl) c.in_err-slow_text.ensures (p.1 ∙ ap Err p.2)

pub returns : goal.returns
returns g c = let ran = c.in_ok-slow_text.ensures in text_alone _ _ _ _ _ _ ran.0 (λ tag. refl) ran.1 ran.2 (no_images _ _ _ refl)
