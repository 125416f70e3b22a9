use Rattle.std.proofs.Common.{ap, [], ◌∷◌, ◌∙◌, ◌≡◌, rules}
use Rattle.hl_model.specs.declared.step.Step.TheVariants.{Bare}
use Rattle.hl_domain.specs.Domains.{with_entry}
use Rattle.example_turns.specs.After.{told_rider}
use Rattle.example_turns.proofs.Greater.{told_so}
use Rattle.example_turns.proofs.after.bump_told.Goals as goal

pub returns-in-Ok : goal.returns-in-Ok
returns-in-Ok g c =
    let m = c.in-Ok.ensures.met in
    let told : c.tell_past.new.rider ≡ told_rider = search rules in
    record {
      was = m.before.cut;
      now = m.after.cut;
      list = m.list;
      is = m.entered ∙ ap (with_entry m.before.cut m.after.cut m.list (Bare ∷ [])) told;
      number_is = told_so _ _ _ (m.holds.0 m.list m.met.stands).reply;
    }
