-- The counters' words are the sums of what the threads returned.
use Rattle.std.proofs.Common.{◌≡◌, ℕ, zero, suc, ◌/◌, ◌%◌, ◌^◌, ◌<◌, [], ◌∷◌, map, Ok, Some, None, Option, slice_get, refl, ap, ◌∙◌, inl, inr, ⊎_elim, arith}
use Rattle.std.specs.Prelude.{slice_index}
use Rattle.std.specs.List.{sum}
use Rattle.std.proofs.Math.Nat.{mod-lt}
use Rattle.hl_model.specs.Sizes.{Sizes}
use Rattle.hl_action.specs.declared.no_job.NoJob.{NoJob}
use Rattle.hl_traces.specs.OneTrace.{left_at}
use Rattle.hl.specs.Devices.{on_memory, Differs}
use Rattle.hl.specs.Left.{IsLeft}
use Rattle.hl.specs.Threads.{HaveOneTrace}
use Rattle.hl.specs.Uses.{CountersEndAsSums}
use Rattle.example_counters.specs.declared.Counted.{Counted}
use Rattle.example_counters.specs.Counters.{returns_sums, AreCounted}

pub counted : (sizes : Sizes) (left : Counted) → CountersEndAsSums (λ i. returns_sums) → HaveOneTrace NoJob sizes (λ i. returns_sums) (on_memory left.device) left.outs (Ok left.ending)
    → ((counter : ℕ) → counter < 4 → (read : Option ℕ) × (slice_get left.sums counter ≡ Some read) × IsLeft sizes left.device left.ending counter read) → AreCounted left
counted sizes left law one reads all are counter less below =
    let t = one all are in
    let sum_is : left_at counter t.all ≡ sum (map (λ sums. slice_index sums counter) all) % 2 ^ 64 = law t.all all counter (λ sums. slice_index sums counter) t.one t.theirs t.each (λ i first last out fresh ran. ran fresh counter less) in
    let some : 0 < 2 ^ 64 = omega arith in
    let fits : left_at counter t.all < 2 ^ 64 = omega (arith, sum_is, mod-lt (sum (map (λ sums. slice_index sums counter) all)) some) in
    let r = reads counter less in
    ⊎_elim
    (λ (e : r.0 ≡ Some (left_at counter t.all)). inl (r.1 ∙ ap (λ (x : Option ℕ). Some x) (e ∙ ap (λ (n : ℕ). Some n) sum_is)))
    (λ (d : (r.0 ≡ None) × Differs left.device (counter / sizes.page_size)). inr (r.1 ∙ ap (λ (x : Option ℕ). Some x) d.0, (counter / sizes.page_size, d.1)))
    (r.2 t.all t.holds fits below)

-- of four that were read, the one at a place
pub one_of_four : (P : ℕ → Option ℕ → Type 0) (first second third fourth : Option ℕ) → P 0 first → P 1 second → P 2 third → P 3 fourth → (counter : ℕ) → counter < 4
    → (read : Option ℕ) × (slice_get (first ∷ second ∷ third ∷ fourth ∷ []) counter ≡ Some read) × P counter read
one_of_four P first second third fourth a b c d zero less = (first, refl, a)
one_of_four P first second third fourth a b c d (suc zero) less = (second, refl, b)
one_of_four P first second third fourth a b c d (suc (suc zero)) less = (third, refl, c)
one_of_four P first second third fourth a b c d (suc (suc (suc zero))) less = (fourth, refl, d)
one_of_four P first second third fourth a b c d (suc (suc (suc (suc n)))) less = absurd (omega (arith, less))
