use Rattle.std.specs.Prelude.{Some, is_some}
use Rattle.hl.proofs.shared.Shared.serve_behind.Given as goal

-- the work, and whether its pages go to memory
abbrev pub ghosts-serve_named : goal.ghosts-serve_named
ghosts-serve_named g a = record { work = Some a.self.now.work.now; in_memory = is_some a.device }
