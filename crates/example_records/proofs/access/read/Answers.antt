use Rattle.std.proofs.Common.{◌≡◌, ◌∙◌, length, arith}
use Rattle.std.proofs.lemmas.List.{take_at}
use Rattle.hl.specs.Traces.{acts}
use Rattle.example_records.proofs.TellLaws.{all_loads, is_read, two_loads}
use Rattle.example_records.proofs.access.read.Goals as goal

pub returns-then-last-eq0-clause-loaded : goal.returns-then-last-eq0-clause-loaded
returns-then-last-eq0-clause-loaded g c = two_loads _ _ _ _ (acts c.args.session.now) (acts c.load.new.self) (acts c.load-2.new.self) c.in_ok-count.ensures.did c.in_ok-last.ensures.did

pub returns-in_default-vec-clause-loaded : goal.returns-in_default-vec-clause-loaded
returns-in_default-vec-clause-loaded g c = two_loads _ _ _ _ (acts c.args.session.now) (acts c.load.new.self) (acts c.load-2.new.self) c.in_ok-count.ensures.did c.in_ok-last.ensures.did

pub returns-in_err-load_into-clause-loaded : goal.returns-in_err-load_into-clause-loaded
returns-in_err-load_into-clause-loaded g c = two_loads _ _ _ _ (acts c.args.session.now) (acts c.load.new.self) (acts c.load_into.new.self) c.in_ok-count.ensures.did (c.in_err-load_into.ensures.did ∙ c.in_ok-last.ensures.did)

pub returns-clause-loaded : goal.returns-clause-loaded
returns-clause-loaded g c =
    all_loads c.args.address c.load_into.new.words (acts c.args.session.now) (acts c.load-2.new.self) (acts c.load_into.new.self)
    (two_loads _ _ _ _ (acts c.args.session.now) (acts c.load.new.self) (acts c.load-2.new.self) c.in_ok-count.ensures.did c.in_ok-last.ensures.did)
    c.in_ok-load_into.ensures.did

pub returns-clause-read : goal.returns-clause-read
returns-clause-read g c =
    let row = c.load_into.new.words in
    let long : length row ≡ c.in_ok-count.count = omega (arith, c.in_ok-load_into.ensures.length, c.in-Ok.ensures.len, c.deref_mut.ensures.len) in
    let whole : length row ≡ c.in-Ok.words.len = omega (arith, c.in_ok-load_into.ensures.length, c.deref_mut.ensures.len) in
    is_read c.args.address c.in_ok-count.count c.in-Some.end c.in_ok-last.last row _ (acts c.args.session.now) (acts c.load.new.self) (acts c.load-2.new.self) (acts c.load_into.new.self) c.in_ok-count.ensures.did c.in_ok-last.ensures.did c.in_ok-load_into.ensures.did (take_at row _ c.in-Ok.words.len whole) long c.in-Some.ensures.1 c.if-count-eq0.false c.if-last-eq0.false
