use Rattle.std.proofs.Common.{◌≡◌, List, [], ◌∷◌, ◌++◌, map, ap, sym, ◌∙◌, append_assoc}
use Rattle.hl_words.specs.States.{RiderState}
use Rattle.hl_crew.specs.Riders.{riders_of}
use Rattle.hl.specs.LastSession.{one_or_none}
use Rattle.hl.proofs.rows.LastRows.open.Goals as goal

-- the riders of the rows, the last one, and the one behind it, if there is one
pub returns-clause-same : goal.returns-clause-same
returns-clause-same g c =
    let rows = map (λ place. place.1) c.in_ok-rows.rows.places.items ++ riders_of c.in_ok-rows.rows.crew.riders in
    let last = c.pop_last-last.result in
    let more = one_or_none c.pop_if-flusher.result in
    ap (λ (l : List RiderState). l ++ last ∷ more) c.in_ok-rows.ensures.same
    ∙ sym (append_assoc c.pop_last-last.new.riders.items (last ∷ []) more)
    ∙ ap (λ (l : List RiderState). l ++ more) (sym c.pop_last-last.ensures)
    ∙ sym c.pop_if-flusher.ensures.popped
