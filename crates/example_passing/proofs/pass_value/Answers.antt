use Rattle.std.proofs.Common.{◌≡◌, ℕ, [], ◌∷◌, Ok, Some, IfOk, IfSome, map, subst, rules}
use Rattle.hl_words.specs.Rule.{IsRuledAt}
use Rattle.hl_words.specs.States.{RiderState}
use Rattle.example_passing.specs.Passes.{loader}
use Rattle.example_passing.proofs.Passing.{passes, both_are}
use Rattle.example_passing.proofs.pass_value.Goals as goal

pub returns : goal.returns
returns g c =
    let one : RiderState = c.join-one.result.0 in
    let two : RiderState = c.join-one.result.1.0 in
    let cell = c.args.letter.cell in
    let value = c.args.letter.value in
    let found : ℕ = c.in_ok-found.found in
    let last = c.in_ok-last.last in
    let master = c.args.opened.master in
    let e : c.push-2.new.self.items ≡ one ∷ two ∷ [] = search rules in
    let found_is : c.join-one.result.1.1 ≡ Some found = search rules in
    let closed : c.close.result ≡ Ok last = search rules in
    let told = subst (λ k. IfSome k (λ x. two.view ≡ loader cell x)) found_is c.join-one.ensures.second in
    let cells = c.args.opened.words.cells in
    let ruled = subst (λ k. IfOk k (λ l. IsRuledAt cells l.words master.offsets master.called (map (λ (r : RiderState). r.view) c.push-2.new.self.items))) closed c.close.ensures.rule in
    passes c.loads_of_told.ensures cells master.offsets master.called cell value (record { found = found; last = last }) _ (both_are c.push-2.new.self.items one two cell value found e c.join-one.ensures.first told) ruled
