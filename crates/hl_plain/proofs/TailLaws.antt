-- How far the tail moves.
use Rattle.std.proofs.Common.{ℕ, ◌+◌, ◌<◌, ◌≤◌, List, length, take, drop, get_or, ◌^◌, subst, le_trans, le_refl, arith}
use Rattle.std.proofs.lemmas.List.{take-append-drop}
use Rattle.hl_model.specs.declared.step.Step.{Step}
use Rattle.hl_model.specs.declared.step.Step.TheVariants.{Allocate}
use Rattle.hl_model.specs.Offsets.{tail_past}
use Rattle.hl_model.specs.Bases.{Base}
use Rattle.hl_model.specs.AfterOffsets.{tail_after}
use Rattle.hl_model.proofs.ListLaws.{never_falls}
use Rattle.hl_laws.proofs.OffsetLaws.{place_of-le}
use Rattle.hl_plain.specs.Bounds.{TailFits}
use Rattle.hl_plain.proofs.TurnLaws.{tail-next, tail-push}

-- no step moves the tail back
tail_past-le : (page_size tail : ℕ) (s : Step) → 0 < page_size → tail ≤ tail_past page_size tail s
tail_past-le page_size tail (Allocate t n) h = omega (arith, place_of-le page_size tail n h)
tail_past-le page_size tail s h = le_refl tail

tail-front : (b : Base) (L : List Step) (k : ℕ) → 0 < b.sizes.page_size → tail_after b (take k L) ≤ tail_after b L
tail-front b L k h =
    subst (λ (X : List Step). tail_after b (take k L) ≤ tail_after b X) (take-append-drop k L)
    (never_falls (tail_after b) (λ X s. omega (arith, tail-push b X s, tail_past-le b.sizes.page_size (tail_after b X) s h)) (take k L) (drop k L))

-- the tail of a beginning fits where that of the list does
pub TailFits-take : (b : Base) (L : List Step) (i : ℕ) → TailFits b L → TailFits b (take i L)
TailFits-take b L i h = record { page_size_least = h.page_size_least; tail_most = le_trans (tail-front b L i h.page_size_least) h.tail_most }

-- so does what the next step of it makes of it
pub tail_past-most : (b : Base) (L : List Step) (i : ℕ) (d : Step) → i < length L → TailFits b L → tail_past b.sizes.page_size (tail_after b (take i L)) (get_or L i d) ≤ 2 ^ 48
tail_past-most b L i d within h =
    subst (λ (n : ℕ). n ≤ 2 ^ 48) (tail-next b L i d within) (TailFits-take b L (i + 1) h).tail_most
