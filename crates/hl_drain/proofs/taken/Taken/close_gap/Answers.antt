use Rattle.std.proofs.Common.{rules, ◌≡◌, ◌+◌, ◌-◌, ◌<◌, ◌∙◌, ap, drop, take, length, remove, length-drop, arith}
use Rattle.std.specs.List.{copy_within}
use Rattle.hl_drain.specs.Taken.{Actions}
use Rattle.hl_drain.proofs.TakenLaws.{closed}
use Rattle.hl_drain.proofs.taken.Taken.close_gap.Goals as goal

pub returns-clause-others : goal.returns-clause-others
returns-clause-others c =
    let xs = c.self.inside.row.items in
    let first = c.self.inside.first in
    let place = c.args.place in
    let shown : drop first xs ≡ c.args.self.now.items = ap (λ (z : Actions). z.items) c.self.view_is in
    let within : first + place < length xs = omega (arith, c.requires, ap length shown, length-drop first xs) in
    let left : c.len-left.result - 1 ≡ length xs - first - 1 = omega (arith, c.len-left.ensures, ap length shown, length-drop first xs) in
    let long : c.copy_within.new.self.len ≡ length c.copy_within.new.self.items = search rules in
    c.truncate.ensures.items
    ∙ ap (λ n. take n c.copy_within-2.new.self.items) left
    ∙ ap (take (length xs - first - 1)) (c.copy_within-2.ensures.items ∙ ap (λ n. copy_within c.copy_within.new.self.items (first + place + 1) n place) long ∙ ap (λ z. copy_within z (first + place + 1) (length z) place) c.copy_within.ensures.items)
    ∙ closed xs first place within
    ∙ ap (λ z. remove z place) shown
