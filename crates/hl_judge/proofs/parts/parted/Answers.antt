use Rattle.std.proofs.Common.{◌≡◌, ◌+◌, true, false, drop, sym, ap, ◌∙◌, arith}
use Rattle.std.specs.Prelude.{Some}
use Rattle.std.proofs.lemmas.List.{drop-drop}
use Rattle.hl_judge.specs.Traces.{begins_reply}
use Rattle.hl_judge.proofs.PartLaws.{rest_is, past_more, parted_at, unparted}
use Rattle.hl_judge.proofs.parts.parted.Goals as goal

pub returns-then-begins_reply-clause-front : goal.returns-then-begins_reply-clause-front
returns-then-begins_reply-clause-front c =
    let bytes = c.args.bytes.now in
    let i = c.loop-at.at in
    let begins : begins_reply (drop i bytes) ≡ true = ap begins_reply (sym (rest_is i bytes)) ∙ sym c.begins_reply.ensures ∙ c.if-begins_reply.true in
    (parted_at bytes i (omega arith) c.loop-at.invariant begins).line

pub returns-then-begins_reply-clause-back : goal.returns-then-begins_reply-clause-back
returns-then-begins_reply-clause-back c =
    let bytes = c.args.bytes.now in
    let i = c.loop-at.at in
    let begins : begins_reply (drop i bytes) ≡ true = ap begins_reply (sym (rest_is i bytes)) ∙ sym c.begins_reply.ensures ∙ c.if-begins_reply.true in
    ap Some (rest_is (i + 4) bytes ∙ sym (drop-drop 4 i bytes)) ∙ (parted_at bytes i (omega arith) c.loop-at.invariant begins).reply

pub loop-at-preserved : goal.loop-at-preserved
loop-at-preserved c =
    let bytes = c.args.bytes.now in
    let i = c.loop-at.at in
    let begins : begins_reply (drop i bytes) ≡ false = ap begins_reply (sym (rest_is i bytes)) ∙ sym c.begins_reply.ensures ∙ c.if-begins_reply.false in
    past_more bytes i (omega arith) c.loop-at.invariant begins

pub returns-clause-back : goal.returns-clause-back
returns-clause-back c = unparted c.args.bytes.now c.loop-at.at (omega arith) c.loop-at.invariant
