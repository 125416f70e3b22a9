use Rattle.std.proofs.Common.{rules, ◌≡◌, ◌||◌, Ok, [], ◌∷◌, ◌++◌, length, get_or, ne_eqb, sym, ap, ◌∙◌, inl, inr, subst, arith, length-drop}
use Rattle.std.specs.List.{list_any}
use Rattle.std.proofs.KnownBytes.{Keeps-trans}
use Rattle.std.proofs.lemmas.Result.{err_from_is_err_and}
use Rattle.hl_model.proofs.ListLaws.{list_any-push}
use Rattle.hl_script.specs.Input.{HasRead}
use Rattle.hl_script.specs.Interpreter.{is_end}
use Rattle.hl_script.proofs.InputLaws.{HasRead-byte, some_bytes}
use Rattle.hl_script.proofs.input.Input.take_line.Goals as goal

pub returns-in_err-has_more-clause-taken : goal.returns-in_err-has_more-clause-taken
returns-in_err-has_more-clause-taken g c = λ reads given done read.
    let p = err_from_is_err_and c.from_residual.result c.from_residual.ensures.1 in
    let more = c.in_err-has_more.ensures.read reads given (done ++ c.loop-self.bytes.items) (c.loop-self.invariant.taken reads given done read) in
    rw (p.1, p.2) (more.0, record { within = more.2; no_end = c.loop-self.invariant.no_end; short = search rules })

pub returns-then-not-branch-clause-taken : goal.returns-then-not-branch-clause-taken
returns-then-not-branch-clause-taken g c = λ reads given done read.
    let more = c.in_ok-has_more.ensures.read reads given (done ++ c.loop-self.bytes.items) (c.loop-self.invariant.taken reads given done read) in
    let none : c.loop-self.bytes.items ≡ [] → ⊥ = λ e. (let yes = c.in_ok-has_more.ensures.left (c.loop-self.invariant.some e) in let no = c.if-not-branch.true in cc) in
    (c.loop-self.invariant.no_end, inr (more.0, inl (more.1 c.if-not-branch.true, some_bytes c.loop-self.bytes.items none)))

pub bounds-shown-0 : goal.bounds-shown-0
bounds-shown-0 g c =
    let some = c.in_ok-has_more.ensures.some (ap Ok c.if-not-branch.false) in
    omega (arith, some, ap length c.shown.ensures.value)

pub take-requires : goal.take-requires
take-requires g c = c.in_ok-has_more.ensures.some (ap Ok c.if-not-branch.false)

pub returns-then-byte-eq10-clause-taken : goal.returns-then-byte-eq10-clause-taken
returns-then-byte-eq10-clause-taken g c = λ reads given done read.
    let bytes = c.loop-self.bytes.items in
    let more = c.in_ok-has_more.ensures.read reads given (done ++ bytes) (c.loop-self.invariant.taken reads given done read) in
    let left = g.R.Read.remaining c.has_more.new.reader in
    let some = c.in_ok-has_more.ensures.some (ap Ok c.if-not-branch.false) in (
      c.loop-self.invariant.no_end,
      inl (subst (λ b. HasRead reads given left c.take.new.self (done ++ (bytes ++ b ∷ []))) c.if-byte-eq10.true
          (HasRead-byte reads given left c.has_more.new.self c.take.new.self done bytes c.shown.result.now more.0 c.shown.ensures.value some c.take.ensures)),
    )

pub loop-self-preserved : goal.loop-self-preserved
loop-self-preserved g c =
    let bytes = c.loop-self.bytes.items in
    let byte = get_or c.shown.result.now 0 0 in
    let some = c.in_ok-has_more.ensures.some (ap Ok c.if-not-branch.false) in
    let was = c.has_more.new.self in
    record {
      kept = Keeps-trans _ _ _ c.loop-self.invariant.kept c.in_ok-has_more.ensures.kept;
      spent = omega (arith, ap (λ v. length v.shown) c.take.ensures, ap (λ v. v.made) c.take.ensures, ap (λ v. v.most) c.take.ensures, length-drop 1 was.shown, some, c.in_ok-has_more.ensures.budget, c.loop-self.invariant.spent, c.push.ensures.len);
      some = λ none. absurd (omega (arith, ap length none, c.push.ensures.len));
      no_end = ap (λ z. list_any is_end z) c.push.ensures.items ∙ list_any-push is_end bytes byte ∙ ap (λ z. z || is_end byte) c.loop-self.invariant.no_end ∙ ne_eqb byte 10 c.if-byte-eq10.false;
      taken = λ reads given done read.
          let more = c.in_ok-has_more.ensures.read reads given (done ++ bytes) (c.loop-self.invariant.taken reads given done read) in
          let left = g.R.Read.remaining c.has_more.new.reader in
          subst (λ z. HasRead reads given left c.take.new.self (done ++ z)) (sym c.push.ensures.items)
          (HasRead-byte reads given left was c.take.new.self done bytes c.shown.result.now more.0 c.shown.ensures.value some c.take.ensures);
    }

pub returns-clause-taken : goal.returns-clause-taken
returns-clause-taken g c = λ reads given done read. (c.loop-self.invariant.no_end, inr (c.loop-self.invariant.taken reads given done read, inr (search rules)))
