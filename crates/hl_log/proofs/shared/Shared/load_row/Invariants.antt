use Rattle.std.proofs.Common.{◌≡◌, take}
use Rattle.hl_words.specs.Rows.{acted}
use Rattle.hl_log.specs.Loads.{loaded_row}
use Rattle.hl_log.proofs.shared.Shared.load_row.Given as goal

abbrev pub invariant-loop-k : goal.invariant-loop-k
invariant-loop-k l = l.rider ≡ acted (loaded_row l.self.sizes l.address (take l.k l.out)) l.fn.rider
