-- One word more of a row was loaded.
use Rattle.std.proofs.Common.{◌≡◌, ℕ, suc, ◌+◌, ◌<◌, List, [], ◌∷◌, ◌++◌, length, take, set, sym, ap, ◌∙◌, arith}
use Rattle.std.proofs.Math.Seq.{take-suc-set}
use Rattle.std.proofs.lemmas.List.{length-take}
use Rattle.hl_model.specs.Sizes.{Sizes}
use Rattle.hl_words.specs.declared.view.RiderView.{RiderView}
use Rattle.hl_words.specs.Cells.{cell_at}
use Rattle.hl_words.specs.Rows.{RowRiderState, acted}
use Rattle.hl_words.specs.Views.{loaded}
use Rattle.hl_log.specs.Loads.{loaded_row}

row_push : (sizes : Sizes) (a : ℕ) (ws : List ℕ) (w : ℕ) (view : RiderView) → loaded_row sizes a (ws ++ w ∷ []) view ≡ loaded (cell_at sizes (a + length ws)) w (loaded_row sizes a ws view)
row_push sizes a [] w view = ap (λ n. loaded (cell_at sizes n) w view) (omega arith)
row_push sizes a (x ∷ ws) w view = row_push sizes (a + 1) ws w (loaded (cell_at sizes a) x view) ∙ ap (λ n. loaded (cell_at sizes n) w (loaded_row sizes (a + 1) ws (loaded (cell_at sizes a) x view))) (omega arith)

pub row_next : (sizes : Sizes) (a k w cell : ℕ) (out : List ℕ) (before mid after : RowRiderState) → k < length out → mid ≡ acted (loaded_row sizes a (take k out)) before → cell ≡ cell_at sizes (a + k) → after ≡ acted (loaded cell w) mid
    → after ≡ acted (loaded_row sizes a (take (k + 1) (set out k w))) before
row_next sizes a k w cell out before mid after lt m place e =
    let next : k + 1 ≡ suc k = omega arith in
    let row : take (k + 1) (set out k w) ≡ take k out ++ w ∷ [] = ap (λ n. take n (set out k w)) next ∙ take-suc-set out k w lt in
    let len : length (take k out) ≡ k = omega (arith, length-take k out, lt) in
    let with_view : RiderView → RowRiderState = λ v. record { view = v; table = before.table } in
    e ∙ ap (λ (r : RowRiderState). acted (loaded cell w) r) m ∙ ap (λ n. with_view (loaded n w (loaded_row sizes a (take k out) before.view))) place
    ∙ sym (ap (λ ws. with_view (loaded_row sizes a ws before.view)) row ∙ ap with_view (row_push sizes a (take k out) w before.view) ∙ ap (λ n. with_view (loaded (cell_at sizes (a + n)) w (loaded_row sizes a (take k out) before.view))) len)
