use Rattle.std.proofs.Common.{Ok}
use Rattle.hl.specs.Traces.{acts}
use Rattle.example_records.proofs.TellLaws.{answered, in_vain, loads_keep, met_loads}
use Rattle.example_records.proofs.access.append.Goals as goal

pub returns-in-Ok : goal.returns-in-Ok
returns-in-Ok g c = record {
  told = λ e at are appended read told. answered c.appends_more.ensures c.args.words.now (Ok c.in-Ok.address) c.loop.session c.append.new.self c.requires.framed c.requires.numbers c.in-Ok.ensures.did e at are appended read (c.loop.invariant appended read told);
  kept = tt;
}

pub loop-preserved : goal.loop-preserved
loop-preserved g c = λ appended read told.
    let did = answered c.appends_more.ensures c.args.words.now c.append.result c.loop.session c.append.new.self c.requires.framed c.requires.numbers c.append.ensures.did in
    loads_keep (acts c.append.new.self) (acts c.help_by.new.self) (met_loads c.append.new.self c.help_by.new.self c.help_by.ensures.3) appended read
    (in_vain c.append.result _ _ c.in_default.not-Ok did appended read (c.loop.invariant appended read told))
