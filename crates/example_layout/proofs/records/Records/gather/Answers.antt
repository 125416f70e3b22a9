use Rattle.std.proofs.Common.{rules, ◌≡◌, [], ◌∷◌, ◌++◌, length, sym, ap, ◌∙◌, arith}
use Rattle.std.proofs.lemmas.List.{append-nil, map_push}
use Rattle.example_layout.specs.declared.entry.Entry.{Entry}
use Rattle.example_layout.specs.Pieces.{rows_of}
use Rattle.example_layout.proofs.Walks.{gathered_more, stopped, yields_some}
use Rattle.example_layout.proofs.records.Records.gather.Goals as goal

pub loop-entry-smaller : goal.loop-entry-smaller
loop-entry-smaller c =
    let l = c.loop-entry.self in
    let next = rw c.in-Ok-Some.field-0-is at c.in-Ok-Some.ensures.next in
    let some = yields_some l.base l.words.now l.at c.next.new.self.at _ [] next in
    omega (arith, some.0, some.1, ap length c.in-Ok-Some.ensures.words.0)

pub loop-entry-preserved : goal.loop-entry-preserved
loop-entry-preserved c =
    let s = c.args.self.now in let l = c.loop-entry.self in let found = c.loop-entry.found.items in
    let next = rw c.in-Ok-Some.field-0-is at c.in-Ok-Some.ensures.next in
    let items : c.push.new.self.items ≡ found ++ c.in-Ok-Some.entry ∷ [] = search rules in
    let rows = ap rows_of items ∙ map_push (λ (e : Entry). (e.address, e.bytes.items)) found c.in-Ok-Some.entry in (
      gathered_more s.base s.words.now l.base l.words.now s.at l.at c.next.new.self.at c.args.found.now.items found c.push.new.self.items _ c.loop-entry.invariant.1 c.loop-entry.invariant.2 c.loop-entry.invariant.0 next rows,
      c.in-Ok-Some.ensures.words.0 ∙ c.loop-entry.invariant.1,
      c.in-Ok-Some.ensures.words.1 ∙ c.loop-entry.invariant.2,
    )

pub returns-in-Ok-None-clause-gathered : goal.returns-in-Ok-None-clause-gathered
returns-in-Ok-None-clause-gathered c =
    let s = c.args.self.now in let l = c.loop-entry.self in let found = c.loop-entry.found.items in
    let next = rw c.in-Ok-None.field-0-is at c.in-Ok-None.ensures.next in
    gathered_more s.base s.words.now l.base l.words.now s.at l.at c.next.new.self.at c.args.found.now.items found found [] c.loop-entry.invariant.1 c.loop-entry.invariant.2 c.loop-entry.invariant.0 next (sym (append-nil (rows_of found)))

pub returns-in-Err-clause-stopped : goal.returns-in-Err-clause-stopped
returns-in-Err-clause-stopped c =
    let s = c.args.self.now in let l = c.loop-entry.self in
    stopped s.base s.words.now l.base l.words.now s.at l.at c.next.new.self.at c.args.found.now.items c.loop-entry.found.items c.in-Err.trouble c.loop-entry.invariant.1 c.loop-entry.invariant.2 c.loop-entry.invariant.0 c.in-Err.ensures.trouble
