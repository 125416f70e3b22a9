-- The cell of an address.
use Rattle.std.proofs.Common.{◌≡◌, ℕ, ◌+◌, ◌*◌, ◌/◌, ◌%◌, ◌<◌, ◌≤◌, ap, sym, subst, ◌∙◌, arith}
use Rattle.std.proofs.lemmas.Nat.{div-add-mod', div-mul-add, mod-mul-add}
use Rattle.std.proofs.Math.Arith.{mod-mul}
use Rattle.std.proofs.Math.Nat.{mul-pos, mod-lt, mul-le-mul_right}
use Rattle.hl_model.specs.Sizes.{Sizes}
use Rattle.hl_keeper.specs.Passes.{cell_at}
use Rattle.hl_keeper.specs.Pages.{first_cell}

-- the page and the offset of a cell
pub parts_of : (page_size frame k other rest : ℕ) → k < page_size → rest < page_size → other * page_size + rest ≡ frame * page_size + k → (other ≡ frame) × (rest ≡ k)
parts_of page_size frame k other rest lk lr e = (
  sym (div-mul-add other page_size rest lr) ∙ ap (λ (x : ℕ). x / page_size) e ∙ div-mul-add frame page_size k lk,
  sym (mod-mul-add other page_size rest lr) ∙ ap (λ (x : ℕ). x % page_size) e ∙ mod-mul-add frame page_size k lk,
)

-- an address of a page
pub is_address : (page_size p k a : ℕ) → a / page_size ≡ p → a % page_size ≡ k → a ≡ p * page_size + k
is_address page_size p k a page rest = sym (div-add-mod' a page_size) ∙ ap (λ (x : ℕ). x * page_size + a % page_size) page ∙ ap (λ (x : ℕ). p * page_size + x) rest

-- the cell of an address of a page
pub cell_of_place : (sizes : Sizes) (p k : ℕ) → k < sizes.page_size → cell_at sizes (p * sizes.page_size + k) ≡ first_cell sizes p + k
cell_of_place sizes p k within =
    let place = p * sizes.page_size + k in
    ap (λ (x : ℕ). x % sizes.frames * sizes.page_size + place % sizes.page_size) (div-mul-add p sizes.page_size k within) ∙ ap (λ (x : ℕ). p % sizes.frames * sizes.page_size + x) (mod-mul-add p sizes.page_size k within)

-- it is what is left of the address in rounds of all cells
pub cell_is : (sizes : Sizes) (a : ℕ) → 0 < sizes.page_size → 0 < sizes.frames → a % (sizes.frames * sizes.page_size) ≡ cell_at sizes a
cell_is sizes a page_some frames_some = mod-mul a frames_some page_some

-- so it is one of all
pub cell_low : (sizes : Sizes) (a : ℕ) → 0 < sizes.page_size → 0 < sizes.frames → cell_at sizes a < sizes.frames * sizes.page_size
cell_low sizes a page_some frames_some = subst (λ (x : ℕ). x < sizes.frames * sizes.page_size) (cell_is sizes a page_some frames_some) (mod-lt a (mul-pos frames_some page_some))

-- the cells of a page are, too
pub page_low : (sizes : Sizes) (p : ℕ) → 0 < sizes.frames → first_cell sizes p + sizes.page_size ≤ sizes.frames * sizes.page_size
page_low sizes p frames_some =
    let frame = p % sizes.frames in
    let more : (frame + 1) * sizes.page_size ≤ sizes.frames * sizes.page_size = mul-le-mul_right sizes.page_size (omega (arith, mod-lt p frames_some)) in
    let end : (frame + 1) * sizes.page_size ≡ frame * sizes.page_size + sizes.page_size = omega arith in
    omega (arith, more, end)
