use Rattle.std.proofs.Common.{◌≡◌, ◌≤◌, ℕ, ◌+◌, ◌++◌, List, Bool, true, false, cond, [], ◌∷◌, refl, sym, ap, ◌∙◌, subst, arith}
use Rattle.std.specs.Prelude.{Some, None}
use mir.Val.{bool_byte}
use Rattle.std.proofs.KnownBytes.{Keeps-trans}
use Rattle.std.proofs.lemmas.Result.{err_from_is_err_and}
use Rattle.hl_model.specs.declared.fault.Fault.TheVariants.{OutOfMemory}
use Rattle.hl_line.specs.declared.line.Line.{Line}
use Rattle.hl_script.specs.Lines.{is_config, may_stand, takes_memory}
use Rattle.hl_script.specs.Text.{answers, count_of}
use Rattle.hl_script.specs.Answers.{sizes_of, accepted}
use Rattle.hl_script.specs.Runs.{StandsAt}
use Rattle.hl_script.proofs.KnownLaws.{Appends-kept}
use Rattle.hl_script.proofs.ReachLaws.{reached_start, reached_done}
use Rattle.hl_script.proofs.InputLaws.{HasRead-start, budget-start, no_more}
use Rattle.hl_script.proofs.InterpreterLaws.{none_accepted, nothing_written, goes_on, are_good, ran_to_end, ran_out, ran_bad, ran_unanswered, at_next}
use Rattle.hl_script.proofs.StandsLaws.{config_answered, config_lacked, config_broken, stands_behind, is_not, no_config, counted_all}
use Rattle.hl_script.proofs.script.run_script.Goals as goal

-- a `bool` as a number
byte_of : (b : Bool) → bool_byte b ≡ cond b 1 0
byte_of true = refl
byte_of false = refl

byte_most : (b : Bool) → cond b 1 0 ≤ 1
byte_most true = omega arith
byte_most false = omega arith

pub returns-in_err-has_more : goal.returns-in_err-has_more
returns-in_err-has_more g c = λ has begins.
    let p = err_from_is_err_and c.from_residual.result c.from_residual.ensures.1 in
    let more = c.in_err-has_more.ensures.read c.args.reads _ [] (HasRead-start c.args.reads _ c.new-input.result c.new-input.ensures) in
    rw (p.1, p.2) (ran_out (takes_memory g.S.Stepping.may_lack) has c.args.reads _ _ _ _ _ [] [] [] more.0 reached_start (no_more c.args.reads _ _ [] more.2)
    (nothing_written has _ _ c.in_err-has_more.ensures.kept))

pub returns-then-not-branch : goal.returns-then-not-branch
returns-then-not-branch g c = λ has begins.
    let good = reached_done [] [] reached_start in
    let more = c.in_ok-has_more.ensures.read c.args.reads _ [] (HasRead-start c.args.reads _ c.new-input.result c.new-input.ensures) in
    let end = ran_to_end has c.args.reads _ _ _ _ c.has_more.new.self [] [] more.0 (more.1 c.if-not-branch.true) good (nothing_written has _ _ c.in_ok-has_more.ensures.kept) in
    ([], end.0, end.1, good.lines)

pub returns-in_err-next : goal.returns-in_err-next
returns-in_err-next g c = λ has begins.
    let p = err_from_is_err_and c.from_residual-in_err-next.result c.from_residual-in_err-next.ensures.1 in
    let more = c.in_ok-has_more.ensures.read c.args.reads _ [] (HasRead-start c.args.reads _ c.new-input.result c.new-input.ensures) in
    let failed = c.in_err-next.ensures.next c.args.reads _ [] more.0 in
    rw (p.1, p.2) (ran_out (takes_memory g.S.Stepping.may_lack) has c.args.reads _ _ _ _ _ [] [] failed.1 failed.0 reached_start failed.2
    (nothing_written has _ _ (Keeps-trans _ _ _ c.in_ok-has_more.ensures.kept c.in_err-next.ensures.kept)))

pub returns-then-not-branch-2 : goal.returns-then-not-branch-2
returns-then-not-branch-2 g c = λ has begins.
    let more = c.in_ok-has_more.ensures.read c.args.reads _ [] (HasRead-start c.args.reads _ c.new-input.result c.new-input.ensures) in
    let found = rw c.if-not-branch-2.true at (c.in_ok-next.ensures.next c.args.reads _ [] more.0) in
    ran_bad (takes_memory g.S.Stepping.may_lack) has c.args.reads _ _ _ _ _ c.refuse.result 1 c.next.new.self [] [] None reached_start found refl
    (nothing_written has _ _ (Keeps-trans _ _ _ c.in_ok-has_more.ensures.kept c.in_ok-next.ensures.kept)) c.refuse.ensures refl

pub returns-in_default : goal.returns-in_default
returns-in_default g c = λ has begins.
    let more = c.in_ok-has_more.ensures.read c.args.reads _ [] (HasRead-start c.args.reads _ c.new-input.result c.new-input.ensures) in
    let found = rw c.if-not-branch-2.false at (c.in_ok-next.ensures.next c.args.reads _ [] more.0) in
    ran_bad (takes_memory g.S.Stepping.may_lack) has c.args.reads _ _ _ _ _ c.refuse-in_default.result 1 c.next.new.self [] [] (Some c.next.new.line) reached_start found (ap (λ b. cond b (Some c.next.new.line) None) (no_config c.next.new.line c.in_default.not-Config))
    (nothing_written has _ _ (Keeps-trans _ _ _ c.in_ok-has_more.ensures.kept c.in_ok-next.ensures.kept)) c.refuse-in_default.ensures refl

pub returns-in_default-open : goal.returns-in_default-open
returns-in_default-open g c = λ has begins.
    let more = c.in_ok-has_more.ensures.read c.args.reads _ [] (HasRead-start c.args.reads _ c.new-input.result c.new-input.ensures) in
    let found = rw c.if-not-branch-2.false at (c.in_ok-next.ensures.next c.args.reads _ [] more.0) in
    let line = c.next.new.line in
    let known = g.W.Write.contents c.next.new.out in
    let none : (ℕ → Bool) → List Line → Type 0 = λ has before. ⊥ in
    ran_unanswered none (takes_memory g.S.Stepping.may_lack) has c.args.reads _ _ _ known known OutOfMemory c.next.new.self [] [] line reached_start found (ap (may_stand []) c.in-Config.is)
    (nothing_written has _ _ (Keeps-trans _ _ _ c.in_ok-has_more.ensures.kept c.in_ok-next.ensures.kept))
    (config_lacked none g.S.Stepping.may_lack has line c.in-Config.sizes known c.in-Config.is)

pub returns-in_err-put_line : goal.returns-in_err-put_line
returns-in_err-put_line g c = λ has begins.
    let p = err_from_is_err_and c.from_residual-in_err-put_line.result c.from_residual-in_err-put_line.ensures.1 in
    let more = c.in_ok-has_more.ensures.read c.args.reads _ [] (HasRead-start c.args.reads _ c.new-input.result c.new-input.ensures) in
    let found = rw c.if-not-branch-2.false at (c.in_ok-next.ensures.next c.args.reads _ [] more.0) in
    let line = c.next.new.line in
    let none : (ℕ → Bool) → List Line → Type 0 = λ has before. ⊥ in
    rw (p.1, p.2) (ran_unanswered none (takes_memory g.S.Stepping.may_lack) has c.args.reads _ _ _ (g.W.Write.contents c.next.new.out) _ c.in_err-put_line.field-0.0 c.next.new.self [] [] line reached_start found (ap (may_stand []) c.in-Config.is)
    (nothing_written has _ _ (Keeps-trans _ _ _ c.in_ok-has_more.ensures.kept c.in_ok-next.ensures.kept))
    (config_broken none (takes_memory g.S.Stepping.may_lack) has line c.in-Config.sizes _ _ c.in_err-put_line.field-0.0 c.in-Config.is c.in_err-put_line.ensures.err c.in_err-put_line.ensures.left))

pub loop-stepping-init : goal.loop-stepping-init
loop-stepping-init g c = record {
  few = omega (arith, budget-start c.args.reads c.new-input.result c.new-input.ensures, c.in_ok-has_more.ensures.budget, c.in_ok-next.ensures.budget);
  steps = omega arith;
  ran = λ has begins.
      let more = c.in_ok-has_more.ensures.read c.args.reads _ [] (HasRead-start c.args.reads _ c.new-input.result c.new-input.ensures) in
      let found = rw c.if-not-branch-2.false at (c.in_ok-next.ensures.next c.args.reads _ [] more.0) in
      let line = c.next.new.line in
      let stands = g.S.Stepping.stands c.in-Some.stepping in
      let next = at_next (StandsAt stands) has c.args.reads _ _ _ (g.W.Write.contents c.next.new.out) _ c.next.new.self [] [] 0 0 line false refl (none_accepted has)
      (nothing_written has _ _ (Keeps-trans _ _ _ c.in_ok-has_more.ensures.kept c.in_ok-next.ensures.kept)) reached_start found (ap (may_stand []) c.in-Config.is)
      (config_answered stands has line c.in-Config.sizes _ _ c.in-Config.is (c.in-Some.ensures has begins) c.in_ok-put_line.ensures.ok) in
      (next.0, line ∷ [], next.1, next.2);
}

pub returns-in_err-has_more-2 : goal.returns-in_err-has_more-2
returns-in_err-has_more-2 g c = λ has begins.
    let p = err_from_is_err_and c.from_residual-in_err-has_more-2.result c.from_residual-in_err-has_more-2.ensures.1 in
    let here = c.loop-stepping.invariant.ran has begins in
    let more = c.in_err-has_more-2.ensures.read c.args.reads _ here.0 here.2 in
    rw (p.1, p.2) (ran_out (takes_memory g.S.Stepping.may_lack) has c.args.reads _ _ _ _ _ here.0 here.1 [] more.0 (goes_on here.3.place more.1) (no_more c.args.reads _ _ here.0 more.2)
    (Appends-kept _ _ _ (answers has here.1) here.3.wrote c.in_err-has_more-2.ensures.kept))

pub returns-in_err-next-2 : goal.returns-in_err-next-2
returns-in_err-next-2 g c = λ has begins.
    let p = err_from_is_err_and c.from_residual-in_err-next-2.result c.from_residual-in_err-next-2.ensures.1 in
    let here = c.loop-stepping.invariant.ran has begins in
    let more = c.in_ok-has_more-2.ensures.read c.args.reads _ here.0 here.2 in
    let failed = c.in_err-next-2.ensures.next c.args.reads _ here.0 more.0 in
    rw (p.1, p.2) (ran_out (takes_memory g.S.Stepping.may_lack) has c.args.reads _ _ _ _ _ here.0 here.1 failed.1 failed.0 (goes_on here.3.place (more.2 c.if-branch.true)) failed.2
    (Appends-kept _ _ _ (answers has here.1) here.3.wrote (Keeps-trans _ _ _ c.in_ok-has_more-2.ensures.kept c.in_err-next-2.ensures.kept)))

pub returns-then-not-branch-3 : goal.returns-then-not-branch-3
returns-then-not-branch-3 g c = λ has begins.
    let here = c.loop-stepping.invariant.ran has begins in
    let more = c.in_ok-has_more-2.ensures.read c.args.reads _ here.0 here.2 in
    let found = rw c.if-not-branch-3.true at (c.in_ok-next-2.ensures.next c.args.reads _ here.0 more.0) in
    ran_bad (takes_memory g.S.Stepping.may_lack) has c.args.reads _ _ _ _ _ c.refuse-then-not-branch-3.result (c.loop-stepping.lines + 1) c.next-in-loop-stepping.new.self here.0 here.1 None (goes_on here.3.place (more.2 c.if-branch.true)) found refl
    (Appends-kept _ _ _ (answers has here.1) here.3.wrote (Keeps-trans _ _ _ c.in_ok-has_more-2.ensures.kept c.in_ok-next-2.ensures.kept)) c.refuse-then-not-branch-3.ensures (ap (λ n. n + 1) here.3.lines)

pub returns-in_err-counted : goal.returns-in_err-counted
returns-in_err-counted g c = λ has begins.
    let p = err_from_is_err_and c.from_residual-in_err-counted.result c.from_residual-in_err-counted.ensures.1 in
    let here = c.loop-stepping.invariant.ran has begins in
    let more = c.in_ok-has_more-2.ensures.read c.args.reads _ here.0 here.2 in
    let found = rw c.if-not-branch-3.false at (c.in_ok-next-2.ensures.next c.args.reads _ here.0 more.0) in
    let line = c.next-in-loop-stepping.new.line in
    let behind : is_config line ≡ false = is_not (is_config line) (λ is. (let never = c.in_err-counted.ensures.config is in cc)) in
    rw (p.1, p.2) (ran_unanswered (StandsAt (g.S.Stepping.stands c.answer.new.stepping)) (takes_memory g.S.Stepping.may_lack) has c.args.reads _ _ _ (g.W.Write.contents c.next-in-loop-stepping.new.out) _ c.in_err-counted.field-0.0
    c.next-in-loop-stepping.new.self here.0 here.1 line (goes_on here.3.place (more.2 c.if-branch.true)) found
    (stands_behind (g.S.Stepping.stands c.loop-stepping.stepping) has here.1 line false here.3.standing behind)
    (Appends-kept _ _ _ (answers has here.1) here.3.wrote (Keeps-trans _ _ _ c.in_ok-has_more-2.ensures.kept c.in_ok-next-2.ensures.kept))
    (c.in_err-counted.ensures.answers has here.1 here.3.standing))

pub returns-in_default-2 : goal.returns-in_default-2
returns-in_default-2 g c = λ has begins.
    let here = c.loop-stepping.invariant.ran has begins in
    let more = c.in_ok-has_more-2.ensures.read c.args.reads _ here.0 here.2 in
    let found = rw c.if-not-branch-3.false at (c.in_ok-next-2.ensures.next c.args.reads _ here.0 more.0) in
    let line = c.next-in-loop-stepping.new.line in
    let none = rw c.in_default-2.is at (c.in_ok-counted.ensures.answers has here.1 here.3.standing) in
    let may = stands_behind (g.S.Stepping.stands c.loop-stepping.stepping) has here.1 line true here.3.standing none.0 in
    ran_bad (takes_memory g.S.Stepping.may_lack) has c.args.reads _ _ _ _ _ c.refuse-in_default-2.result (c.loop-stepping.lines + 1) c.next-in-loop-stepping.new.self here.0 here.1 (Some line) (goes_on here.3.place (more.2 c.if-branch.true)) found
    (ap (λ b. cond b (Some line) None) may)
    (Appends-kept _ _ _ (answers has here.1) here.3.wrote (Keeps-trans _ _ _ c.in_ok-has_more-2.ensures.kept (Keeps-trans _ _ _ c.in_ok-next-2.ensures.kept none.1))) c.refuse-in_default-2.ensures (ap (λ n. n + 1) here.3.lines)

pub loop-stepping-preserved : goal.loop-stepping-preserved
loop-stepping-preserved g c = record {
  few = omega (arith, c.loop-stepping.invariant.few, c.in_ok-has_more-2.ensures.budget, c.in_ok-next-2.ensures.budget);
  steps = omega (arith, c.loop-stepping.invariant.steps, c.from.ensures ∙ byte_of c.in-Some-2.counted, byte_most c.in-Some-2.counted);
  ran = λ has begins.
      let here = c.loop-stepping.invariant.ran has begins in
      let more = c.in_ok-has_more-2.ensures.read c.args.reads _ here.0 here.2 in
      let found = rw c.if-not-branch-3.false at (c.in_ok-next-2.ensures.next c.args.reads _ here.0 more.0) in
      let line = c.next-in-loop-stepping.new.line in
      let answered = rw c.in-Some-2.is at (c.in_ok-counted.ensures.answers has here.1 here.3.standing) in
      let behind : is_config line ≡ false = is_not (is_config line) (λ is. (let never = c.in_ok-counted.ensures.config is in let some = c.in-Some-2.is in cc)) in
      let next = at_next (StandsAt (g.S.Stepping.stands c.answer.new.stepping)) has c.args.reads _ _ _ (g.W.Write.contents c.next-in-loop-stepping.new.out) (g.W.Write.contents c.answer.new.out)
      c.next-in-loop-stepping.new.self here.0 here.1 c.loop-stepping.lines c.loop-stepping.accepted line c.in-Some-2.counted here.3.lines here.3.steps
      (Appends-kept _ _ _ (answers has here.1) here.3.wrote (Keeps-trans _ _ _ c.in_ok-has_more-2.ensures.kept c.in_ok-next-2.ensures.kept))
      (goes_on here.3.place (more.2 c.if-branch.true)) found
      (stands_behind (g.S.Stepping.stands c.loop-stepping.stepping) has here.1 line false here.3.standing behind) answered in
      let byte = c.from.ensures ∙ byte_of c.in-Some-2.counted in
      (next.0, here.1 ++ line ∷ [], next.1, rw byte next.2);
}

pub returns : goal.returns
returns g c = λ has begins.
    let here = c.loop-stepping.invariant.ran has begins in
    let more = c.in_ok-has_more-2.ensures.read c.args.reads _ here.0 here.2 in
    let good = are_good here.3.place in
    let stands = g.S.Stepping.stands c.loop-stepping.stepping in
    let end = ran_to_end has c.args.reads _ _ _ _ c.has_more-in-loop-stepping.new.self here.0 here.1 more.0 (more.1 c.if-branch.false) good
    (Appends-kept _ _ _ (answers has here.1) here.3.wrote c.in_ok-has_more-2.ensures.kept) in (
      here.0,
      end.0,
      end.1,
      (
        ap (count_of has) good.lines ∙ counted_all stands has here.1 c.loop-stepping.accepted here.3.standing here.3.steps,
        subst (λ lines. stands has (sizes_of lines) (accepted has lines)) (sym good.lines) here.3.standing.standing,
      ),
    )
