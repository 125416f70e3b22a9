use Rattle.std.proofs.Common.{ap, [], ◌∷◌, ◌∙◌}
use Rattle.hl_model.specs.declared.step.Step.TheVariants.{Bare}
use Rattle.hl_domain.specs.Domains.{with_entry}
use Rattle.example_turns.proofs.Greater.{told_so}
use Rattle.example_turns.proofs.after.bump_and_tell.Goals as goal

pub returns-in-Ok : goal.returns-in-Ok
returns-in-Ok g c =
    let m = c.in-Ok.ensures.met in
    record {
      was = m.before.cut;
      now = m.after.cut;
      list = m.list;
      is = c.past-past.ensures.same ∙ m.entered ∙ ap (with_entry m.before.cut m.after.cut m.list (Bare ∷ [])) c.requires;
      number_is = told_so _ _ _ (m.holds.0 m.list m.met.stands).reply;
    }
