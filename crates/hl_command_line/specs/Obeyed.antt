-- What a status tells, where the words were read as this.
use Rattle.std.specs.Prelude.{ℕ, ◌≡◌, ◌≤◌, ◌⊎◌, Bool, false, if◌then◌else◌, Option, Result, Ok, Err, IfOk, List, ◌++◌, codes, decimal}
use Rattle.std.specs.Io.KnownBytes.{Appends}
use Rattle.clap.specs.declared.error.kind.ErrorKind.{ErrorKind}
use Rattle.clap.specs.declared.error.kind.ErrorKind.TheVariants.{OutOfMemory, DisplayHelp, DisplayVersion}
use Rattle.hl_model.specs.declared.fault.Fault.{Fault}
use Rattle.hl_commands.specs.Commands.{Answered, ReportedAs, JudgedAs}
use Rattle.hl_command_line.specs.declared.wanted.Wanted.{Wanted}
use Rattle.hl_command_line.specs.declared.wanted.Wanted.TheVariants.{Run, Slow, Report, Judge, Race}

-- the line of a race of so many riders and rounds
abbrev pub race_text : ℕ → ℕ → Bool → List ℕ
race_text riders rounds agrees =
    codes "race " ++ decimal riders ++ codes " " ++ decimal rounds
    ++ (if agrees then codes " ok\n" else codes " differs\n")

-- so many riders and rounds are in range
abbrev pub CanRace : ℕ → ℕ → Type 0
CanRace riders rounds = (1 ≤ riders) × (riders ≤ 8) × (1 ≤ rounds) × (rounds ≤ 1000)

-- the status of a race that came to this: 0 if what it left is what its steps say; 1 if it differs, and at a fault
abbrev pub race_status : Result Bool Fault → ℕ
race_status (Ok agrees) = if agrees then 0 else 1
race_status (Err fault) = 1

-- a race came to its end, and its line was written, or to a fault; and this is the status of that
abbrev pub RacedAs : ℕ → ℕ → Option (List ℕ) → Option (List ℕ) → ℕ → Type 0
RacedAs riders rounds before after status =
    (ended : Result Bool Fault)
    × IfOk ended (λ agrees. Appends before after (race_text riders rounds agrees))
    × (status ≡ race_status ended)

-- the status of words that give no command: 0 if help was wanted, and went out; 1 if it didn't, or memory was refused;
-- and 2 if the words are refused
abbrev pub words_status : ErrorKind → Bool → ℕ
words_status OutOfMemory is_out = 1
words_status DisplayHelp is_out = if is_out then 0 else 1
words_status DisplayVersion is_out = if is_out then 0 else 1
words_status _ is_out = 2

-- what was wanted was done of what was read and written, and this is the status of that
abbrev pub Obeys : Wanted → Option (List ℕ) → Option (List ℕ) → Option (List ℕ) → Option (List ℕ) → ℕ
    → Type 0
Obeys (Run flush) given left before after status = Answered flush given left before after status
Obeys Slow given left before after status = Answered false given left before after status
Obeys Report given left before after status = ReportedAs given left before after status
Obeys Judge given left before after status = JudgedAs given before after status
Obeys (Race riders rounds cut wide) given left before after status =
    (left ≡ given)
    × ((CanRace riders rounds × RacedAs riders rounds before after status)
    ⊎ (¬ (CanRace riders rounds) × (status ≡ 2)))

-- the words gave no command, nothing was read, and this is the status of that
abbrev pub GivesNone : Option (List ℕ) → Option (List ℕ) → ℕ → Type 0
GivesNone given left status =
    (left ≡ given) × ((kind : ErrorKind) × (is_out : Bool) × (status ≡ words_status kind is_out))
