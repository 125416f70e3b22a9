use Rattle.std.proofs.Common.{◌≡◌, sym, ◌∙◌, ℕ}
use Rattle.hl_model.specs.declared.step.Reply.TheVariants.{Flushed}
use Rattle.hl_keeper.proofs.StepLaws.{refused_as, replied_as, reply_is}
use Rattle.hl_keeper.proofs.keeper.Keeper.flush_done.Goals as goal

pub returns-in-Err-clause-made : goal.returns-in-Err-clause-made
returns-in-Err-clause-made g c =
    let made = rw c.job-stamp.ensures at c.in-Err.ensures.made in
    λ A st. refused_as _ _ _ _ c.end.new.self c.in-Err.fault (made A st)

value : (a b : ℕ) → Flushed a ≡ Flushed b → a ≡ b
value a b h = cc

pub unreachable-requires : goal.unreachable-requires
unreachable-requires g c =
    let h = c.in-Ok.ensures in
    c.in_default.not-Flushed _ (reply_is _ _ c.in-Ok.reply _ c.end.new.self (h.made h.valid.0 h.valid.1))

pub returns-in-Flushed-clause-made : goal.returns-in-Flushed-clause-made
returns-in-Flushed-clause-made g c =
    let made = rw c.job-stamp.ensures at c.in-Ok.ensures.made in
    λ A st. replied_as _ _ c.in-Ok.reply _ c.end.new.self c.in-Flushed.flushed _ (made A st) (λ none e. value c.in-Flushed.flushed _ (sym c.in-Flushed.is ∙ e))
