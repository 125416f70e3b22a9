use Rattle.std.proofs.Common.{refl, inl}
use Rattle.hl_crew.proofs.run.Run.clean_next.Goals as goal

pub returns-in-Err-NoneClosed : goal.returns-in-Err-NoneClosed
returns-in-Err-NoneClosed g c = inl (refl, rw c.in-Err-NoneClosed.field-0-is at c.in-Err-NoneClosed.ensures.met, c.requires)
