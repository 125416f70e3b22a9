use Rattle.std.proofs.Common.{◌≡◌, ◌≤◌, ◌∷◌, ◌++◌, [], length, map, min, sym, ap, ◌∙◌, arith}
use Rattle.std.proofs.lemmas.List.{length-map, length-take, take_all}
use Rattle.std.proofs.lemmas.Option.{slice_get-map}
use Rattle.hl_model.proofs.Placed.{take_more, take_fewer, never_none}
use Rattle.hl_drain.specs.Actions.{waiting_of}
use Rattle.hl_drain.proofs.drain.Drain.pending.Goals.{in-Some, in_default}
use Rattle.hl_drain.proofs.drain.Drain.pending.Goals as goal

pub loop-n-preserved : goal.loop-n-preserved
loop-n-preserved g c =
    let told = map (waiting_of g.J.Tagged.tag) c.args.self.now.pending in
    let n = c.loop-n.n in
    let there = slice_get-map (waiting_of g.J.Tagged.tag) c.args.self.now.pending n ∙ sym c.pending_at.ensures.value in
    elim c.match-pending_at.branch [
      | in-Some w ↦
          ap (λ row. row.items) w.row-is ∙ w.push.ensures.items ∙ ap (λ xs. xs ++ w.in-Some.waiting ∷ []) c.loop-n.invariant ∙ take_more told n w.in-Some.waiting (there ∙ w.in-Some.is)
      | in_default w ↦
          absurd (never_none told n (omega (arith, c.loop-n-test.true, c.min-n-end.ensures, c.pending_count.ensures.count, length-map c.args.self.now.pending (waiting_of g.J.Tagged.tag))) (there ∙ w.in_default.is))
    ]

pub push-requires : goal.push-requires
push-requires g c =
    let told = map (waiting_of g.J.Tagged.tag) c.args.self.now.pending in
    (omega arith, omega (arith, ap length c.loop-n.invariant, length-take c.loop-n.n told, c.loop-n-test.true, c.min-n-end.ensures))

pub returns-clause-list : goal.returns-clause-list
returns-clause-list g c =
    let told = map (waiting_of g.J.Tagged.tag) c.args.self.now.pending in
    let count : c.loop-n.n ≡ min (length told) 64 =
    omega (arith, c.loop-n.auto.n-end, c.loop-n-test.false, c.min-n-end.ensures, c.pending_count.ensures.count, length-map c.args.self.now.pending (waiting_of g.J.Tagged.tag)) in
    c.loop-n.invariant ∙ take_fewer told c.loop-n.n 64 count

pub returns-clause-all : goal.returns-clause-all
returns-clause-all g c = λ few.
    let told = map (waiting_of g.J.Tagged.tag) c.args.self.now.pending in
    let short : length told ≤ 64 =
    omega (arith, few, c.pending_count.ensures.valid.within_limit, length-map c.args.self.now.pending (waiting_of g.J.Tagged.tag)) in
    returns-clause-list g c ∙ take_all 64 told short
