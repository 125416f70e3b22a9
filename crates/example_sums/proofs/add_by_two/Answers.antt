use Rattle.std.proofs.Common.{rules, ◌≡◌, ◌*◌, ◌<◌, [], ◌∷◌, ◌∙◌, arith, ap}
use Rattle.std.specs.Prelude.{slice_index}
use Rattle.hl_model.specs.Sizes.{Sizes}
use Rattle.hl_keeper.specs.Passes.{cell_at}
use Rattle.hl_keeper.specs.Endings.{EndingState}
use Rattle.hl_words.specs.States.{RiderState}
use Rattle.example_sums.specs.Adding.{AddsMore}
use Rattle.example_sums.proofs.SumLaws.{ends_at_sum}
use Rattle.example_sums.proofs.add_by_two.Goals as goal

pub returns : goal.returns
returns g c =
    let r = c.join-first.result in
    let one : RiderState = r.0.1 in
    let two : RiderState = r.1.1 in
    let sizes = c.args.domain.sizes in
    let counter = c.args.adds.counter in
    let cell = cell_at sizes counter in
    let ending = c.in-Ok.ending in
    let same : c.cell_of-cell.result ≡ cell = rw c.params.ensures at c.cell_of-cell.ensures.value in
    let riders : c.push-2.new.self.items ≡ one ∷ two ∷ [] = search rules in
    let within : cell < ending.words.cells = omega (arith, same, c.cell_of-cell.ensures.in_range, ap (λ (z : Sizes). z.frames * z.page_size) c.params.ensures, c.in-Ok.ensures.ending.cells_are) in
    let held : c.cell.result ≡ slice_index ending.words.words cell =
    c.cell.ensures ∙ ap (slice_index c.ending.inside.words.words) same ∙ ap (λ (e : EndingState _). slice_index e.words.words cell) c.ending.view_is in
    let first : AddsMore cell r.0.0 c.args.one.view.touches one.view.touches = c.join-first.ensures.first in
    let second : AddsMore cell r.1.0 c.args.two.view.touches two.view.touches = c.join-first.ensures.second in
    ends_at_sum c.no_add_is_lost.ensures sizes c.push-2.new.self.items one two cell (record { first = r.0.0; second = r.1.0; word = c.cell.result; ending = ending }) c.args.one.view.touches c.args.two.view.touches c.in-Ok.ensures.ending riders within c.requires.new.0 c.requires.new.1 first second held
