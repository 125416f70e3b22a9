use Rattle.std.proofs.Common.{◌≡◌, ◌∙◌, sym, ap, get_or, is_some, Some, None}
use Rattle.std.specs.Prelude.{option_and_then}
use Rattle.std.specs.List.{find}
use Rattle.hl_action.specs.Jobs.{ReadyRecord}
use Rattle.hl_cells.specs.TakenActions.{Row, fires}
use Rattle.hl_cells.proofs.TakenRows.{found_nowhere, found_at_place, if_none, if_some}
use Rattle.hl_cells.proofs.taken.TakenActions.run.Goals.{After-from_residual, After-run}
use Rattle.hl_cells.proofs.taken.TakenActions.run.Goals as goal

-- no action has the ticket
nowhere : (g : _) (c : After-from_residual g) → find (fires c.args.ticket) c.args.self.now.actions ≡ None
nowhere g c = (found_nowhere (fires c.args.ticket) c.args.self.now.actions (sym c.in_err-place.was ∙ c.place_of.ensures)).0

-- the action that leaves the row is the first that has it
found : (g : _) (c : After-run g) → find (fires c.args.ticket) c.args.self.now.actions ≡ Some c.in_ok-undone.undone
found g c =
    let undone = c.in_ok-undone.undone in
    let value : undone ≡ get_or c.args.self.now.actions c.in_ok-place.place undone =
    c.in_ok-undone.ensures.value ∙ ap (λ (z : Row g.row.F.Denot). get_or z.actions c.in_ok-place.place undone) c.self.view_is in
    (found_at_place (fires c.args.ticket) c.args.self.now.actions c.in_ok-place.place undone (sym c.in_ok-place.was ∙ c.place_of.ensures) value).0

pub returns-in_err-place-clause-answered : goal.returns-in_err-place-clause-answered
returns-in_err-place-clause-answered g c = ap is_some c.from_residual.ensures ∙ sym (ap (λ o. is_some (option_and_then (λ (r : ReadyRecord g.row.F.Denot). r.kept) o)) (nowhere g c))

pub returns-in_err-place-clause-gives : goal.returns-in_err-place-clause-gives
returns-in_err-place-clause-gives g c = if_none _ _ (nowhere g c)

pub returns-in_err-place-clause-keeps : goal.returns-in_err-place-clause-keeps
returns-in_err-place-clause-keeps g c = if_none _ _ (nowhere g c)

pub returns-clause-answered : goal.returns-clause-answered
returns-clause-answered g c = c.run.ensures.answered ∙ sym (ap (λ o. is_some (option_and_then (λ (r : ReadyRecord g.row.F.Denot). r.kept) o)) (found g c))

pub returns-clause-gives : goal.returns-clause-gives
returns-clause-gives g c = if_some _ _ c.in_ok-undone.undone (found g c) c.run.ensures.gives

pub returns-clause-keeps : goal.returns-clause-keeps
returns-clause-keeps g c = if_some _ _ c.in_ok-undone.undone (found g c) c.run.ensures.keeps
