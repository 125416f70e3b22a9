-- The pages that a list of rows holds.
use Rattle.std.specs.Prelude.{◌≡◌, ◌≤◌, ◌^◌, All, map, length, vec_capacity}
use Rattle.hl_image.specs.declared.memory.MemoryWriter.TheInside.{Inside}
use Rattle.hl_image.specs.Pages.{Pages}

-- the image in each row
abbrev pub pages_of : Inside → Pages
pages_of a =
    record {
      images = map (λ place. place.image) a.rows.items;
      size = a.size;
      writes = a.writes;
      fails_at = a.fails_at;
      failures = a.failures;
    }

-- the rows have the room that opening made, exactly, and each is as long as an image
pub record IsKept (a : Inside) : Type 0 where
  pub room : vec_capacity a.rows ≡ length a.rows.items
  pub sizes : All (λ place. place.size ≡ a.size) a.rows.items
  pub failures_most : a.failures ≤ 2 ^ 62
