-- How each line of a script is spelled, and which lines fit.
use Rattle.std.specs.Prelude.{ℕ, ◌^◌, ◌<◌, Bool, true, false, List, [], ◌∷◌, ◌++◌, codes, decimal}
use Rattle.std.specs.List.{flat_map}
use Rattle.hl_model.specs.declared.step.Step.{Step}
use Rattle.hl_model.specs.declared.step.Step.TheVariants.{Acquire, Refresh, Release, Bump, Settle, Close, Bare, Take, Done, Raise, Shift, Allocate, Look, Write, Read, FlushTake, FlushDone, CleanTake, CleanDone}
use Rattle.hl_model.specs.Sizes.{AreNarrow}
use Rattle.hl_line.specs.declared.line.Line.{Line}
use Rattle.hl_line.specs.declared.line.Line.TheVariants.{Config, Step as Makes, Status, Pending, Frames}

-- a space and a number in decimal
abbrev pub spaced : ℕ → List ℕ
spaced n = 32 ∷ decimal n

-- a word, and each number after a space
unfoldable pub worded : List ℕ → List ℕ → List ℕ
worded word numbers = word ++ flat_map spaced numbers

-- how a flush ended, after a space
abbrev pub ending : Bool → List ℕ
ending true = codes " ok"
ending false = codes " failed"

-- the bytes of a step's line, without its LF
abbrev pub step_spelling : Step → List ℕ
step_spelling (Acquire t) = worded (codes "acquire") (t ∷ [])
step_spelling (Refresh t) = worded (codes "refresh") (t ∷ [])
step_spelling (Release t) = worded (codes "release") (t ∷ [])
step_spelling (Bump tag) = worded (codes "bump") (tag ∷ [])
step_spelling Settle = worded (codes "settle") []
step_spelling Close = worded (codes "close") []
step_spelling Bare = worded (codes "bare") []
step_spelling Take = worded (codes "take") []
step_spelling (Done ticket) = worded (codes "done") (ticket ∷ [])
step_spelling (Raise x) = worded (codes "raise") (x ∷ [])
step_spelling (Shift x) = worded (codes "shift") (x ∷ [])
step_spelling (Allocate t n) = worded (codes "alloc") (t ∷ n ∷ [])
step_spelling (Look t read_only head) = worded (codes "look") (t ∷ read_only ∷ head ∷ [])
step_spelling (Write t a v) = worded (codes "write") (t ∷ a ∷ v ∷ [])
step_spelling (Read t a) = worded (codes "read") (t ∷ a ∷ [])
step_spelling FlushTake = worded (codes "flush take") []
step_spelling (FlushDone page ok) = worded (codes "flush done") (page ∷ []) ++ ending ok
step_spelling CleanTake = worded (codes "clean take") []
step_spelling (CleanDone page) = worded (codes "clean done") (page ∷ [])

-- the bytes of a line, without its LF
abbrev pub spelling : Line → List ℕ
spelling (Config sizes) =
    worded (codes "config") (sizes.page_size ∷ sizes.frames ∷ sizes.slots ∷ sizes.drain ∷ [])
spelling (Makes step) = step_spelling step
spelling Status = worded (codes "status") []
spelling Pending = worded (codes "pending") []
spelling Frames = worded (codes "frames") []

-- each number of the step is below 2^64
abbrev pub StepFits : Step → Type 0
StepFits (Acquire t) = t < 2 ^ 64
StepFits (Refresh t) = t < 2 ^ 64
StepFits (Release t) = t < 2 ^ 64
StepFits (Bump tag) = tag < 2 ^ 64
StepFits Settle = Unit {0}
StepFits Close = Unit {0}
StepFits Bare = Unit {0}
StepFits Take = Unit {0}
StepFits (Done ticket) = ticket < 2 ^ 64
StepFits (Raise x) = x < 2 ^ 64
StepFits (Shift x) = x < 2 ^ 64
StepFits (Allocate t n) = (t < 2 ^ 64) × (n < 2 ^ 64)
StepFits (Look t read_only head) = (t < 2 ^ 64) × ((read_only < 2 ^ 64) × (head < 2 ^ 64))
StepFits (Write t a v) = (t < 2 ^ 64) × ((a < 2 ^ 64) × (v < 2 ^ 64))
StepFits (Read t a) = (t < 2 ^ 64) × (a < 2 ^ 64)
StepFits FlushTake = Unit {0}
StepFits (FlushDone page ok) = page < 2 ^ 64
StepFits CleanTake = Unit {0}
StepFits (CleanDone page) = page < 2 ^ 64

-- each number of the line is below 2^64, and sizes are narrow
abbrev pub Fits : Line → Type 0
Fits (Config sizes) = AreNarrow sizes
Fits (Makes step) = StepFits step
Fits Status = Unit {0}
Fits Pending = Unit {0}
Fits Frames = Unit {0}
