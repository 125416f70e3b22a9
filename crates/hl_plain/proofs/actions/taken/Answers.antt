use Rattle.std.proofs.Common.{arith, ◌+◌, ◌<◌, ◌∙◌, length, sym, ap, take, filter}
use Rattle.std.proofs.lemmas.List.{take_all, length_push}
use Rattle.hl_model.specs.AfterActions.{ever_taken_after, taken_after}
use Rattle.hl_plain.proofs.StoredLaws.{is_undone, undone-next, done-next, filter-most}
use Rattle.hl_plain.proofs.actions.taken.Goals.{then-not-is_finished, else-not-is_finished}
use Rattle.hl_plain.proofs.actions.taken.Goals as goal

pub push-requires : goal.push-requires
unfolding taken_after
push-requires c =
    let L = c.args.steps.now in
    let T = ever_taken_after c.args.base.now L in
    let w = c.ever_taken_at-action.result in
    let next = undone-next L T c.loop-i.i w (omega (arith, c.loop-i-test.true, c.ever_taken-i-end.ensures)) c.ever_taken_at-action.ensures (sym c.is_finished.ensures ∙ c.if-not-is_finished.true) in
    let long = ap length next ∙ length_push (filter (is_undone L) (take c.loop-i.i T)) w in
    let room : length c.loop-i.row.items < 64 = omega (arith, long, ap length c.loop-i.invariant, filter-most (is_undone L) T (c.loop-i.i + 1), c.requires.most) in
    (omega arith, room)

pub loop-i-preserved : goal.loop-i-preserved
loop-i-preserved c =
    let L = c.args.steps.now in
    let T = ever_taken_after c.args.base.now L in
    let w = c.ever_taken_at-action.result in
    let within : c.loop-i.i < length T = omega (arith, c.loop-i-test.true, c.ever_taken-i-end.ensures) in
    elim c.if-not-is_finished.branch [
      | then-not-is_finished h ↦
          let next = undone-next L T c.loop-i.i w within c.ever_taken_at-action.ensures (sym c.is_finished.ensures ∙ h.if-not-is_finished.true) in
          cc
      | else-not-is_finished h ↦
          let next = done-next L T c.loop-i.i w within c.ever_taken_at-action.ensures (sym c.is_finished.ensures ∙ h.if-not-is_finished.false) in
          cc
    ]

pub returns : goal.returns
unfolding taken_after
returns c =
    let L = c.args.steps.now in
    let T = ever_taken_after c.args.base.now L in
    c.loop-i.invariant ∙ ap (filter (is_undone L)) (take_all c.loop-i.i T (omega (arith, c.loop-i-test.false, c.ever_taken-i-end.ensures)))
