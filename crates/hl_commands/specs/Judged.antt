-- What is told of a trace.
use Rattle.std.specs.Prelude.{ℕ, Result, Ok, Err, List, ◌++◌, codes, decimal}
use Rattle.hl_model.specs.declared.fault.Fault.{Fault}
use Rattle.hl_judge.specs.declared.verdict.Verdict.{Verdict}
use Rattle.hl_judge.specs.declared.verdict.Verdict.TheVariants.{Agrees, Deviates, NoEntry}

-- the text of what a trace shows
abbrev pub verdict_text : Verdict → List ℕ
verdict_text (Agrees lines) = decimal lines ++ codes " lines agree\n"
verdict_text (Deviates d) =
    codes "line " ++ decimal d.line ++ codes " deviates: " ++ d.given.items
    ++ codes "\nthe definitions answer: " ++ d.answer.items ++ codes "\n"
verdict_text (NoEntry line) = codes "line " ++ decimal line ++ codes ": no line of a trace\n"

-- the exit status of a judge that came to this: 0 if all lines agree, 2 at one that is none of a trace; and 1 at one that
-- deviates, and at any fault
abbrev pub judged_status : Result Verdict Fault → ℕ
judged_status (Ok (Agrees lines)) = 0
judged_status (Ok (Deviates d)) = 1
judged_status (Ok (NoEntry line)) = 2
judged_status (Err fault) = 1
