use Rattle.std.proofs.Common.{◌≡◌, true, false, sym, ap, ◌∙◌}
use Rattle.std.specs.Prelude.{nat_lt}
use Rattle.hl_crew.proofs.Steps.{leaves}
use Rattle.hl_crew.proofs.cutting.cut_if_due.Goals as goal
use Rattle.hl_crew.proofs.cutting.cut_if_due.Goals.{in-Never, in-EachTurn, in-Above}

-- a cut was due by the limits
pub returns-then-is_due : goal.returns-then-is_due
returns-then-is_due g c =
    elim c.match-cuts.branch [
      | in-Never w ↦ absurd (let no : true ≡ false = sym c.if-is_due.true ∙ w.is_due-is in cc)
      | in-EachTurn w ↦
          rw (w.in-EachTurn.is) (leaves (λ before after h. (h.1, h.2, h.3)) (rw w.rider-is at c.cut.ensures.met))
      | in-Above w ↦
          let more = sym c.if-is_due.true ∙ w.is_due-is in
          rw (w.in-Above.is) (
            true,
            w.snapshot_by.new.rider,
            leaves (λ before after h. (h.0, more ∙ ap (nat_lt w.in-Above.steps) h.2)) w.snapshot_by.ensures.met,
            leaves (λ before after h. (h.1, h.2, h.3)) (rw w.rider-is at c.cut.ensures.met),
          )
    ]
