use Rattle.std.proofs.Common.{◌≡◌, ◌+◌, ◌<◌, ◌∙◌, ap, drop, length, remove, length-drop, arith}
use Rattle.hl_drain.specs.Taken.{Actions}
use Rattle.hl_drain.proofs.TakenLaws.{removed_back, removed_front}
use Rattle.hl_drain.proofs.taken.Taken.remove.Goals as goal

pub returns-then-place-len-clause-others : goal.returns-then-place-len-clause-others
returns-then-place-len-clause-others c =
    let xs = c.self.inside.row.items in
    let first = c.self.inside.first in
    let shown : drop first xs ≡ c.args.self.now.items = ap (λ (z : Actions). z.items) c.self.view_is in
    let within : first + c.args.place < length xs = omega (arith, c.requires, ap length shown, length-drop first xs) in
    ap (drop first) c.remove.ensures.items ∙ removed_back xs first c.args.place (omega (arith, within)) ∙ ap (λ z. remove z c.args.place) shown

pub returns-then-self-clause-others : goal.returns-then-self-clause-others
returns-then-self-clause-others c =
    let xs = c.self.inside.row.items in
    let first = c.self.inside.first in
    let shown : drop first xs ≡ c.args.self.now.items = ap (λ (z : Actions). z.items) c.self.view_is in
    let within : first + c.args.place < length xs = omega (arith, c.requires, ap length shown, length-drop first xs) in
    ap (drop (first + 1)) c.copy_within.ensures.items ∙ removed_front xs first c.args.place within ∙ ap (λ z. remove z c.args.place) shown
