use Rattle.std.proofs.Common.{◌+◌, ◌∙◌, sym, ap}
use Rattle.std.specs.Prelude.{None}
use Rattle.std.proofs.lemmas.List.Quantifiers.{position-Some}
use Rattle.hl_crew.specs.Pouches.{load_count, is_of}
use Rattle.hl_crew.proofs.PouchLaws.{told_at, put_back, not_free, taken_out}
use Rattle.hl_crew.proofs.Steps.{waits_one}
use Rattle.hl_crew.proofs.pouch.Pouch.answer.Goals as goal

pub unreachable-requires : goal.unreachable-requires
unreachable-requires g c =
    not_free c.args.page c.in-Some.at c.args.self.now (sym c.in-Some.ensures.place) c.in_default-take.ensures.value

pub returns-in-Ok-clause-held : goal.returns-in-Ok-clause-held
returns-in-Ok-clause-held g c = λ other.
    told_at _ _ _ _ _ _ c.in-Some.at other c.in-Some-take.load _ _ _ (sym c.in-Some.ensures.place)
    c.in-Some-take.ensures.value c.in-Ok.ensures.met c.in-Some-take.ensures.after

pub returns-in-Err-clause-held : goal.returns-in-Err-clause-held
returns-in-Err-clause-held g c = λ other.
    told_at _ _ _ _ _ _ c.in-Some.at other c.in-Some-take.load c.args.self.now _ _ (sym c.in-Some.ensures.place)
    c.in-Some-take.ensures.value c.in-Err.ensures.met
    (put_back _ _ _ _ _ _ c.in-Some-take.ensures.value c.in-Some-take.ensures.after c.in-Err.ensures.refused c.set.ensures)

pub returns-in-Ok-clause-fewer : goal.returns-in-Ok-clause-fewer
returns-in-Ok-clause-fewer g c =
    let old = c.args.self.now in
    let place = position-Some (is_of c.args.page) old c.in-Some.at None (sym c.in-Some.ensures.place) in
    ap (λ places. load_count places + 1) c.in-Some-take.ensures.after
    ∙ taken_out old c.in-Some.at c.in-Some-take.load place.0 c.in-Some-take.ensures.value

pub returns-in-Err-clause-refused : goal.returns-in-Err-clause-refused
returns-in-Err-clause-refused g c =
    put_back _ _ _ _ _ _ c.in-Some-take.ensures.value c.in-Some-take.ensures.after c.in-Err.ensures.refused c.set.ensures

pub returns-in-Err-clause-waits : goal.returns-in-Err-clause-waits
returns-in-Err-clause-waits g c = waits_one c.in-Err.ensures.met
