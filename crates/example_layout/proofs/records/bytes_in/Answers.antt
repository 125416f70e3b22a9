use Rattle.std.proofs.Common.{refl}
use Rattle.example_layout.proofs.Walks.{answer, bad_row}
use Rattle.example_layout.proofs.records.bytes_in.Goals as goal

pub returns-in-Ok-clause-read : goal.returns-in-Ok-clause-read
returns-in-Ok-clause-read c = rw c.live_of.ensures (answer c.args.words.now c.in-Ok.step.count c.in-Ok.step.live _ refl c.in-Ok.ensures.piece)

pub returns-in-Err-Broken-clause-read : goal.returns-in-Err-Broken-clause-read
returns-in-Err-Broken-clause-read c = λ bytes may there. bad_row c.args.words.now bytes c.in-Err-Broken.field-0-0 may there (rw c.in-Err-Broken.field-0-is at c.in-Err-Broken.ensures.trouble)
