-- What the page writers of a log with threads have.
use Rattle.std.specs.Prelude.{◌≡◌, ◌≢◌, ◌⊎◌, ℕ, Option, Some, None, List}
use Rattle.hl_image.specs.Pages.{Pages, image_at}
use Rattle.hl.specs.declared.memory.MemoryDevice.{MemoryDevice}

-- one of the two writers of a device in memory has these bytes as the image of the page
abbrev pub on_memory : MemoryDevice → ℕ → List ℕ → Type 0
on_memory device page bytes =
    (image_at page device.first ≡ Some bytes) ⊎ (image_at page device.second ≡ Some bytes)

-- the two writers of a device in memory have different images of the page
abbrev pub Differs : MemoryDevice → ℕ → Type 0
Differs device page = (first second : List ℕ) × (image_at page device.first ≡ Some first)
    × (image_at page device.second ≡ Some second) × (first ≢ second)

-- so it is, if there is such a device; and if there is none, this holds
abbrev pub device_has : (ℕ → List ℕ → Type 0) → Option MemoryDevice → ℕ → List ℕ → Type 0
device_has Took (Some device) page bytes = on_memory device page bytes
device_has Took None page bytes = Took page bytes

-- a writer into memory has these bytes as the image of the page; of another this holds
abbrev pub has_page : (ℕ → List ℕ → Type 0) → Option Pages → ℕ → List ℕ → Type 0
has_page Took (Some memory) page bytes = image_at page memory ≡ Some bytes
has_page Took None page bytes = Took page bytes
