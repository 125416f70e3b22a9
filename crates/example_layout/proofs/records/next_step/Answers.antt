use Rattle.std.proofs.Common.{◌+◌, ◌/◌, get_or, option_map, refl, sym, subst, arith}
use Rattle.example_layout.specs.Pieces.{IsPieceAt}
use Rattle.example_layout.proofs.Walks.{dead_piece, live_piece, refused_piece}
use Rattle.example_layout.proofs.records.next_step.Goals.{then-header-eq0-2, else-header-eq0-2}
use Rattle.example_layout.proofs.records.next_step.Goals as goal

pub returns-then-rest-count-eq0-clause-piece : goal.returns-then-rest-count-eq0-clause-piece
returns-then-rest-count-eq0-clause-piece c =
    refused_piece c.args.rest.now _ refl c.if-header-eq0.false c.if-header-eq1.false c.if-rest-count.false (λ k. omega (arith, c.type_inv.rest k)) c.if-rest-count-eq0.true

pub returns-after-header-eq0-2-clause-piece : goal.returns-after-header-eq0-2-clause-piece
returns-after-header-eq0-2-clause-piece c =
    let rest = c.args.rest.now in
    let header = get_or rest 0 0 in
    let read = rw c.in-Ok-Some.field-0-is at c.in-Ok-Some.ensures.some in
    elim c.if-header-eq0-2.branch [
      | then-header-eq0-2 w ↦ subst (λ live. IsPieceAt rest (header / 16 + 2) (option_map (λ bytes. bytes.items) live)) (sym w.live-is)
          (live_piece c.in-Ok-Some.bytes.items rest header refl c.if-header-eq0.false c.if-header-eq1.false read.0 c.if-rest-count.false (λ k. omega (arith, c.type_inv.rest k)) _ (omega arith) read.1 w.if-header-eq0-2.true)
      | else-header-eq0-2 w ↦ subst (λ live. IsPieceAt rest (header / 16 + 2) (option_map (λ bytes. bytes.items) live)) (sym w.live-is)
          (dead_piece c.in-Ok-Some.bytes.items rest header refl c.if-header-eq0.false c.if-header-eq1.false read.0 c.if-rest-count.false (λ k. omega (arith, c.type_inv.rest k)) _ (omega arith) read.1 w.if-header-eq0-2.false)
    ]
