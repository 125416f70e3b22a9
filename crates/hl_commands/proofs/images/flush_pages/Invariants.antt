use Rattle.std.proofs.Common.{◌≡◌, ◌+◌, ◌*◌, length, List}
use Rattle.hl_model.specs.declared.step.Step.{Step}
use Rattle.hl_cells.specs.Engines.{EngineStands}
use Rattle.hl_commands.proofs.ImageLaws.{IsFlushing}
use Rattle.hl_commands.proofs.images.flush_pages.Given as goal

-- the buffer has the size of an image, and each turn so far has flushed a page
abbrev pub invariant-loop-turn : goal.invariant-loop-turn
invariant-loop-turn g l =
    (length l.image.items ≡ 8 + 8 * l.engine.core.sizes.page_size)
    × ((A : List Step) → EngineStands l.initial.engine A → IsFlushing l.initial.engine.core.sizes A l._turn (g.W.Write.contents l.initial.pages.writer) (g.W.Write.contents l.pages.writer) l.engine)
