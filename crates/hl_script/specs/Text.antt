-- The text of a script: a function of its bytes and of the set of tags that have a job.
use Rattle.std.specs.Prelude.{ℕ, nat_lt, Bool, is_some, Option, Some, None, List, [], ◌∷◌, ◌++◌, length, codes, decimal}
use Rattle.hl_model.specs.Lists.{gather}
use Rattle.hl_action.specs.Jobs.{KeptRecord}
use Rattle.hl_action.specs.Shelves.{job_of}
use Rattle.hl_line.specs.declared.line.Line.{Line}
use Rattle.hl_script.specs.Lines.{script, bad_line}
use Rattle.hl_script.specs.Answers.{reply_line, accepted}

-- the tags whose jobs are on a shelf
abbrev pub tags_on : {F : Type 0} → List (Option (KeptRecord F)) → ℕ → Bool
tags_on shelf tag = is_some (job_of shelf tag)

-- the tags below a number
abbrev pub below : ℕ → ℕ → Bool
below tags tag = nat_lt tag tags

-- what these lines are answered, each with its LF
unfoldable pub answers : (ℕ → Bool) → List Line → List ℕ
answers has lines = gather (λ before line. reply_line has before line ++ 10 ∷ []) lines

-- the line about the first line that is no step
abbrev pub bad_text : Option ℕ → List ℕ
bad_text None = []
bad_text (Some n) = codes "line " ++ decimal n ++ codes ": not a step\n"

-- the text of a script
unfoldable pub text : (ℕ → Bool) → List ℕ → List ℕ
text has bytes = answers has (script bytes) ++ bad_text (bad_line bytes)

-- how many steps of these lines are accepted; None where there is no line
abbrev pub count_of : (ℕ → Bool) → List Line → Option ℕ
count_of has [] = None
count_of has (line ∷ lines) = Some (length (accepted has (line ∷ lines)))
