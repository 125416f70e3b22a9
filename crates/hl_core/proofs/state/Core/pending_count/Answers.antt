use Rattle.std.proofs.Common.{sym, ap, ◌∙◌, length}
use Rattle.std.proofs.lemmas.List.{length-map}
use Rattle.hl_core.proofs.state.Core.pending_count.Goals as goal

pub returns : goal.returns
returns g c = rw (sym c.self.view_is) (λ A st. c.pending_count.ensures.count ∙ sym (length-map _ _) ∙ ap length st.pending_is)
