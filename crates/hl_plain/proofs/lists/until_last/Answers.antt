use Rattle.std.proofs.Common.{arith, ◌≡◌, ◌<◌, length, get_or, refl, sym, ap, ◌∙◌}
use Rattle.std.proofs.lemmas.Fn.{says_at}
use Rattle.std.proofs.lemmas.Grind.{common_steps}
use Rattle.hl_plain.proofs.TurnLaws.{until_last-next, until_last-none}
use Rattle.hl_plain.proofs.lists.until_last.Goals as goal

pub loop-i-init : goal.loop-i-init
loop-i-init g c = record { place = λ p told. sym (until_last-none p); within = omega arith }

pub loop-i-preserved : goal.loop-i-preserved
loop-i-preserved g c =
    let x = c.index-row-i.result in
    let inside : c.loop-i.i < length c.args.row.now = omega arith in
    record {
      place = λ p told.
          let next = until_last-next p c.args.row.now c.loop-i.i x inside in
          let before = c.loop-i.invariant.place p told in
          let passed : c.passes.result ≡ p (get_or c.args.row.now c.loop-i.i x) = told x c.passes.result (says_at g.F.Fn c.passes.ensures refl) ∙ ap p c.index-row-i.is in
          grind (arith, common_steps);
      within = grind (arith, common_steps);
    }
