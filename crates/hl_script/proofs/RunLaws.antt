-- What the outcome of a script's run is to a caller.
use Rattle.std.proofs.Common.{◌≡◌, ℕ, Bool, true, false, List, [], ◌∷◌, ◌++◌, ap, ◌∙◌, subst, arith}
use Rattle.std.specs.Prelude.{Option}
use Rattle.std.specs.Io.KnownBytes.{Appends}
use Rattle.hl_model.specs.declared.fault.Fault.{Fault}
use Rattle.hl_model.specs.declared.fault.Fault.TheVariants.{BadLine, OutOfMemory, Stream}
use Rattle.hl_model.specs.declared.step.Step.{Step}
use Rattle.hl_model.specs.Sizes.{Sizes}
use Rattle.hl_model.specs.Headline.{Headline}
use Rattle.hl_laws.proofs.HeadlineLaws.{headline}
use Rattle.hl_cells.specs.Engines.{Whole, EngineStands}
use Rattle.hl_line.specs.declared.line.Line.{Line}
use Rattle.hl_line.specs.declared.line.Line.TheVariants.{Config, Step as Makes, Status, Pending, Frames}
use Rattle.hl_script.specs.Lines.{is_config, takes_memory}
use Rattle.hl_script.specs.Text.{answers}
use Rattle.hl_script.specs.Outcomes.{WroteUpTo, LackedAtConfig, Settled, RunStopped}
use Rattle.hl_script.proofs.StandsLaws.{config_first}
use Rattle.hl_script.proofs.TextLaws.{answers-nil}

-- where no step takes memory, it is refused at a config alone
config_alone : (line : Line) → takes_memory false line ≡ true → is_config line ≡ true
config_alone (Config sizes) h = h
config_alone (Makes step) h = h
config_alone Status h = h
config_alone Pending h = h
config_alone Frames h = h

-- and so at line 1
lacked_first : (has : ℕ → Bool) (from to : Option (List ℕ)) (input : List ℕ) → WroteUpTo has (takes_memory false) from to input → LackedAtConfig from to input
lacked_first has from to input w =
    let config : is_config w.line ≡ true = config_alone w.line w.lacking in
    let none : w.lines ≡ [] = config_first w.lines w.line config w.stands in
    record {
      line = w.line;
      others = w.others;
      first = w.good ∙ ap (λ z. z ++ w.line ∷ w.others) none;
      config = config;
      nothing = subst (Appends from to) (ap (answers has) none ∙ answers-nil has) w.wrote;
    }

settled_lacked : (has : ℕ → Bool) (left from to : Option (List ℕ)) (input : List ℕ) → Settled left (WroteUpTo has (takes_memory false) from to) input → Settled left (LackedAtConfig from to) input
settled_lacked has left from to input s = record {
  given = lacked_first has from to input s.given;
  with_left = λ more is. lacked_first has from to (input ++ more) (s.with_left more is);
}

-- where no step takes memory, a run that stopped for want of it did so at line 1
pub stopped_first : (has : ℕ → Bool) (reads : ℕ) (given left from to : Option (List ℕ)) (f : Fault) → RunStopped has reads given left from to (WroteUpTo has (takes_memory false) from to) f → RunStopped has reads given left from to (LackedAtConfig from to) f
stopped_first has reads given left from to (BadLine n) s = s
stopped_first has reads given left from to OutOfMemory s = (s.0, s.1, settled_lacked has left from to s.0 s.2)
stopped_first has reads given left from to Stream s = s
stopped_first has reads given left from to f s = absurd s

-- the steps at which an engine stands keep the headline
pub engine_headline : {F : Type 0} {engine : Whole F} {sizes : Sizes} {A : List Step} → engine.core.sizes ≡ sizes → EngineStands engine A → Headline sizes A
engine_headline {F} {engine} {sizes} {A} same st =
    subst (λ (z : Sizes). Headline z A) same (headline engine.core.sizes A (omega (arith, st.core_stands.in_range.page_size_least)) st.core_stands.accepted)
