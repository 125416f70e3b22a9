-- What the device has of a log that was flushed up to its tail.
use Rattle.std.proofs.Common.{◌≡◌, ℕ, ◌+◌, ◌*◌, ◌/◌, ◌<◌, ◌≤◌, List, ◌∷◌, ◌++◌, sym, subst, arith}
use Rattle.std.specs.List.{AllByRecursion as Every}
use Rattle.hl_images.proofs.PlaceLaws.{every_in}
use Rattle.hl_traces.specs.declared.act.Act.TheVariants.{Placed}
use Rattle.hl_traces.specs.OneTrace.{ActBy, by_thread, placed_end, EndsBelow}
use Rattle.hl_traces.proofs.TailLaws.{tail_is_the_sum}
use Rattle.hl.specs.Threads.{AllIsWritten}
use Rattle.hl.proofs.LeftLaws.{parts_of}

pub all_is_written : (F : Type 0) (Took : ℕ → List ℕ → Type 0) → AllIsWritten F Took
all_is_written F Took sizes ending all holds one far newer before i a n k is within =
    let each : Every (λ (t : ActBy). EndsBelow (placed_end all) t.act) (newer ++ by_thread i (Placed a n) ∷ before) = subst (Every (λ (t : ActBy). EndsBelow (placed_end all) t.act)) is (tail_is_the_sum all one).0 in
    let ends : a + n ≤ placed_end all = every_in (λ (t : ActBy). EndsBelow (placed_end all) t.act) newer (by_thread i (Placed a n)) before each in
    holds.pages ((a + k) / sizes.page_size) (omega (arith, parts_of sizes (a + k), ends, within, holds.tail, far))
