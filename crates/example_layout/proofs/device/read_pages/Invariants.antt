use Rattle.std.proofs.Common.{◌≡◌, ◌++◌, List, length}
use Rattle.example_layout.specs.Device.{images_from, live_in, ArePages}
use Rattle.example_layout.specs.Pieces.{rows_of, Piece}
use Rattle.example_layout.proofs.device.read_pages.Given as goal

-- the pages so far were read
abbrev pub invariant-loop-rest : goal.invariant-loop-rest
invariant-loop-rest l = (length l.words.items ≡ l.page_size) × ((pages : List (List Piece)) × ArePages l.page_size pages
    × (l.bytes ≡ images_from 0 pages ++ l.rest) × (length pages ≡ l.page) × (rows_of l.found.items ≡ live_in l.page_size 0 pages))

abbrev pub decreases-loop-rest : goal.decreases-loop-rest
decreases-loop-rest l = length l.rest
