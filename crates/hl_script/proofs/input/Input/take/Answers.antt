use Rattle.std.proofs.Common.{◌≤◌, ◌-◌, length, drop, ap, ◌∙◌, arith, length-take}
use Rattle.hl_script.proofs.InputLaws.{taken}
use Rattle.hl_script.proofs.input.Input.take.Goals as goal

pub returns : goal.returns
returns c =
    let inside = c.self.inside in
    let count = c.args.count in
    let few : count ≤ inside.to - inside.from = omega (arith, c.requires, ap (λ v. length v.shown) c.self.view_is, length-take (inside.to - inside.from) (drop inside.from inside.buffer)) in
    ap (λ bytes. record { shown = bytes; has_ended = inside.has_ended; made = inside.made; most = inside.most }) (taken inside.from inside.to count inside.buffer few)
    ∙ ap (λ v. record { shown = drop count v.shown; has_ended = v.has_ended; made = v.made; most = v.most }) c.self.view_is
