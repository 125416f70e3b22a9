use Rattle.std.proofs.Common.{◌≡◌, Some, None, rules, arith, sym}
use Rattle.std.proofs.lemmas.Grind.{common_steps}
use Rattle.hl_line.specs.Reading.{line_of}
use Rattle.hl_line.proofs.Reading.{line_of-found, line_of-only}
use Rattle.hl_line.proofs.read.read_line.Goals as goal

pub returns-in_err-line-clause-exact : goal.returns-in_err-line-clause-exact
unfolding line_of
returns-in_err-line-clause-exact c = search rules

pub returns-in_err-line-clause-only : goal.returns-in_err-line-clause-only
unfolding line_of
returns-in_err-line-clause-only c l h e =
    let exact : c.from_residual.result ≡ line_of c.args.bytes.now = search rules in
    let found = line_of-only c.args.bytes.now l h e in
    cc

pub returns-then-eq-clause-exact : goal.returns-then-eq-clause-exact
unfolding line_of
returns-then-eq-clause-exact c = grind (arith, common_steps)

pub returns-then-eq-clause-found : goal.returns-then-eq-clause-found
unfolding line_of
returns-then-eq-clause-found c =
    let exact : Some c.in_ok-line.line ≡ line_of c.args.bytes.now = grind (arith, common_steps) in
    line_of-found c.args.bytes.now c.in_ok-line.line (sym exact)

pub returns-then-eq-clause-only : goal.returns-then-eq-clause-only
unfolding line_of
returns-then-eq-clause-only c l h e =
    let exact : Some c.in_ok-line.line ≡ line_of c.args.bytes.now = grind (arith, common_steps) in
    let found = line_of-only c.args.bytes.now l h e in
    cc

pub returns-else-eq-clause-exact : goal.returns-else-eq-clause-exact
unfolding line_of
returns-else-eq-clause-exact c = grind (arith, common_steps)

pub returns-else-eq-clause-only : goal.returns-else-eq-clause-only
unfolding line_of
returns-else-eq-clause-only c l h e =
    let exact : None ≡ line_of c.args.bytes.now = grind (arith, common_steps) in
    let found = line_of-only c.args.bytes.now l h e in
    cc
