use Rattle.std.proofs.Common.{◌≡◌, ◌∙◌, refl, rules, ap, sym, subst}
use Rattle.std.specs.Prelude.{is_some, IfSome, Some}
use Rattle.std.proofs.lemmas.Result.{IfOk-weaker}
use Rattle.hl.proofs.OutLaws.{sinks_taken}
use Rattle.hl.proofs.shared.Shared.serve_named.Goals as goal

pub returns-clause-served : goal.returns-clause-served
returns-clause-served g c =
    let one = c.into_memory-first.ensures in
    let other = c.into_memory.ensures in (
      record {
        memory = search rules;
        limits = c.serve_with-crew.ensures.limits;
        stay = c.serve_with-crew.ensures.kept.stay;
        images = λ none.
            sinks_taken g.P.Work.took c.args.self.now.work.now g.T.Named.work (λ sink. sink.memory) c.args.log.now.sizes c.serve_with-crew.result.0 c.of_parts-device.result c.requires.work
            (ap is_some (sym one.memory) ∙ one.kind ∙ sym other.kind ∙ ap is_some other.memory)
            (c.of_parts-device.ensures.kind ∙ ap is_some one.memory)
            (subst (λ m. IfSome c.of_parts-device.result (λ d. m ≡ Some d.first)) one.memory c.of_parts-device.ensures.first)
            (subst (λ m. IfSome c.of_parts-device.result (λ d. m ≡ Some d.second)) other.memory c.of_parts-device.ensures.second)
            (c.serve_with-crew.ensures.kept.images refl none);
      },
      search rules,
    )

-- the crew is that whose riders these were, with a sink for each writer
pub returns-clause-works : goal.returns-clause-works
returns-clause-works g c =
    IfOk-weaker c.serve_with-crew.result.1 _ _ (λ report worked. record { given = _; olds_are = refl; crew = c.serve_with-crew.result.0; riders_are = refl; worked = worked }) c.serve_with-crew.ensures.works
