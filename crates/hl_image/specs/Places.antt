-- The place that a row is.
use Rattle.std.specs.Prelude.{if◌then◌else◌, Some, None, length}
use Rattle.hl_image.specs.declared.memory.row.Row.TheInside.{Inside}
use Rattle.hl_image.specs.Pages.{Place}

-- its bytes are an image once one was stored
abbrev pub place_of : Inside → Place
place_of a = record { size = length a.bytes.items; image = if a.is_written then Some a.bytes.items else None }
