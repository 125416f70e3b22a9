-- The image of a page, as a log's crew hands it to a device.
use Rattle.std.specs.Prelude.{ℕ, List, ◌++◌}
use Rattle.std.specs.List.{flat_map}
use Rattle.std.specs.Int.{w64, to_be_bytes}

-- 64 bits as 8 bytes, the most significant first
abbrev pub eight_bytes : ℕ → List ℕ
eight_bytes x = to_be_bytes w64 x

-- the page's number, then its words in order
abbrev pub image : ℕ → List ℕ → List ℕ
image page words = eight_bytes page ++ flat_map eight_bytes words
