use Rattle.std.proofs.Common.{◌≡◌, ℕ, List, [], ◌∷◌, arith}
use Rattle.hl_frames.specs.Kept.{pages_of}
use Rattle.hl_frames.proofs.KeptLaws.{number_fits}
use Rattle.hl_frames.proofs.CounterLaws.{counts-fit}
use Rattle.hl_frames.proofs.StateCounts.{AreApart, apart}
use Rattle.hl_frames.proofs.frames.Frames.counts.Goals as goal

-- the frames of each state, counted by pages
counted : (c : goal.After-self) → AreApart (pages_of c.self.inside) c.args.sro c.args.closed
counted c =
    let asked = rw (← c.self.view_is) at c.requires in
    apart (pages_of c.self.inside) c.args.sro c.args.closed c.self.invariant.pages asked.sealed_entered asked.closed_flushed asked.flushed_sealed asked.freed_closed

pub overflow_sub-result-2 : goal.overflow_sub-result-2
overflow_sub-result-2 c = omega (arith, (counted c).at_sealed, c.self.invariant.counts.of_flushed)

pub overflow_sub-result-3 : goal.overflow_sub-result-3
overflow_sub-result-3 c = omega (arith, (counted c).at_flushed, c.self.invariant.counts.of_flushed)

pub overflow_sub-result-4 : goal.overflow_sub-result-4
overflow_sub-result-4 c = omega (arith, (counted c).at_closed, c.self.invariant.counts.of_freed)

pub overflow_add-result : goal.overflow_add-result
overflow_add-result c =
    let a = c.self.inside in
    let kept = c.self.invariant in
    omega (arith, c.len.ensures, kept.pages.frames_most, number_fits (pages_of a) a.freed kept.pages (counts-fit (pages_of a) a.flushed a.freed kept.counts).1)

pub overflow_sub-result-5 : goal.overflow_sub-result-5
overflow_sub-result-5 c = omega (arith, c.len.ensures, (counted c.before).free, c.self.invariant.counts.of_freed)

-- equal counts are one row
row_same : (a b c d e a' b' c' d' e' : ℕ) → a ≡ a' → b ≡ b' → c ≡ c' → d ≡ d' → e ≡ e' → ◌≡◌ {A = List ℕ} (a ∷ b ∷ c ∷ d ∷ e ∷ []) (a' ∷ b' ∷ c' ∷ d' ∷ e' ∷ [])
row_same a b c d e a' b' c' d' e' ha hb hc hd he = cc

pub returns-clause-counts : goal.returns-clause-counts
returns-clause-counts c =
    let told = counted c.before in
    let counts = c.self.invariant.counts in
    rw (← c.self.view_is)
    (row_same _ _ _ _ _ _ _ _ _ _ (omega (arith, told.opened)) (omega (arith, told.at_sealed, counts.of_flushed)) (omega (arith, told.at_flushed, counts.of_flushed)) (omega (arith, told.at_closed, counts.of_freed)) (omega (arith, c.len.ensures, told.free, counts.of_freed)))
