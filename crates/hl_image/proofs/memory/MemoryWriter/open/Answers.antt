use Rattle.std.proofs.Common.{rules, ◌≡◌, ℕ, zero, suc, None, ◌∷◌, map, replicate, refl, ap}
use Rattle.hl_image.specs.Pages.{Place}
use Rattle.hl_image.proofs.memory.MemoryWriter.open.Goals as goal

-- empty rows hold no image
images-replicate : (n size : ℕ) → map (λ place. place.image) (replicate n (let empty : Place = record { size = size; image = None } in empty)) ≡ replicate n None
images-replicate zero size = refl
images-replicate (suc n) size = ap (λ images. None ∷ images) (images-replicate n size)

pub returns-clause-ok : goal.returns-clause-ok
returns-clause-ok c = search (rules, images-replicate c.args.pages c.args.bytes)

pub loop-init : goal.loop-init
loop-init c = search rules
