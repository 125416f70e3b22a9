-- What is left at an address at which all threads only add.
use Rattle.std.proofs.Common.{◌≡◌, ◌≢◌, ℕ, ◌+◌, ◌*◌, ◌%◌, ◌^◌, ◌<◌, ◌≤◌, Bool, List, [], ◌∷◌, length, set, refl, ap, sym, ◌∙◌, ⊎_elim, subst, subst₂, arith}
use Rattle.std.specs.Prelude.{if◌then◌else◌, slice_index_or}
use Rattle.std.specs.List.{AllByRecursion as Every, sum}
use Rattle.std.proofs.lemmas.Bool.{cases_eq, eq-eqb, ne_eqb}
use Rattle.std.proofs.lemmas.Grind.{get_or_default_zero}
use Rattle.std.proofs.lemmas.List.{get_or-set_other, get_or-set_same, length-set}
use Rattle.std.proofs.lemmas.List.Sums.{sum_by-le, sum_by-set}
use Rattle.std.proofs.lemmas.Option.{slice_get-get_or}
use Rattle.hl_words.proofs.Cut.{every_weaker}
use Rattle.hl_traces.specs.declared.act.Act.{Act}
use Rattle.hl_traces.specs.declared.act.Act.TheVariants.{Stored, Changed}
use Rattle.hl_traces.specs.OneTrace.{ActBy, acts_by, leaves_at, left_at, Follows, AreOne}
use Rattle.hl_traces.specs.Counters.{AddsAt, CountersAreSums}
use Rattle.hl_traces.proofs.ThreadLaws.{own_act, other_act}

-- totals that are all 0
none_added : (totals : List ℕ) → ((i : ℕ) → i < length totals → slice_index_or totals i 0 ≡ 0) → sum totals ≡ 0
none_added totals h =
    let least : sum totals ≤ length totals * 0 = sum_by-le (λ (y : ℕ). y) 0 totals (λ i d less. omega (arith, h i less, get_or_default_zero totals i d less)) in
    omega (arith, least)

-- what the threads had added before the newest act, where that one's thread had added this
adds_before : (a : ℕ) (t : ActBy) (before : List ActBy) (totals : List ℕ) → t.thread < length totals → ((i : ℕ) → i < length totals → AddsAt a (slice_index_or totals i 0) (acts_by i (t ∷ before))) → (rest : ℕ) → AddsAt a rest (acts_by t.thread before)
    → (i : ℕ) → i < length (set totals t.thread rest) → AddsAt a (slice_index_or (set totals t.thread rest) i 0) (acts_by i before)
adds_before a t before totals less adds rest own i inside =
    ⊎_elim
    (λ (same : i ≡ t.thread). subst (λ (k : ℕ). AddsAt a (slice_index_or (set totals t.thread rest) k 0) (acts_by k before)) (sym same) (subst (λ (n : ℕ). AddsAt a n (acts_by t.thread before)) (sym (get_or-set_same totals t.thread rest 0 less)) own))
    (λ (apart : i ≢ t.thread).
    subst₂ (λ (n : ℕ) (acts : List Act). AddsAt a n acts) (sym (get_or-set_other totals t.thread i rest 0 apart)) (other_act i t before (λ e. apart (sym e))) (adds i (omega (arith, inside, length-set totals t.thread rest))))
    (cases_eq i t.thread)

-- one add more: the sum goes with it, modulo 2^64
one_add : (v found more w total rest less whole : ℕ) → v ≡ (found + more) % 2 ^ 64 → found ≡ w → w ≡ less % 2 ^ 64 → total ≡ (rest + more) % 2 ^ 64 → whole + rest ≡ less + total → v ≡ whole % 2 ^ 64
one_add v found more w total rest less whole is same sum now moved = omega arith

-- the word is the sum of the totals
added : (a : ℕ) (all : List ActBy) (totals : List ℕ) → AreOne all → Every (λ (t : ActBy). t.thread < length totals) all
    → ((i : ℕ) → i < length totals → AddsAt a (slice_index_or totals i 0) (acts_by i all)) → left_at a all ≡ sum totals % 2 ^ 64
added a [] totals one theirs adds = let none : sum totals ≡ 0 = none_added totals adds in omega (arith, none)
added a (t ∷ before) totals one theirs adds =
    by t.act one.0 (subst (AddsAt a (slice_index_or totals t.thread 0)) (own_act t.thread t before refl) (adds t.thread theirs.0))
    (λ rest own. added a before (set totals t.thread rest) one.1
    (every_weaker (λ (x : ActBy). x.thread < length totals) (λ (x : ActBy). x.thread < length (set totals t.thread rest)) before (λ x less. omega (arith, less, length-set totals t.thread rest)) theirs.1)
    (adds_before a t before totals theirs.0 adds rest own))
  where
    s : ℕ
    s = slice_index_or totals t.thread 0

    put : (rest : ℕ) → sum (set totals t.thread rest) + slice_index_or totals t.thread 0 ≡ sum totals + rest
    put rest = sum_by-set (λ (y : ℕ). y) totals t.thread rest 0 theirs.0

    by : (x : Act) → Follows before x → AddsAt a (slice_index_or totals t.thread 0) (x ∷ acts_by t.thread before)
        → ((rest : ℕ) → AddsAt a rest (acts_by t.thread before) → left_at a before ≡ sum (set totals t.thread rest) % 2 ^ 64) → leaves_at a x (left_at a before) ≡ sum totals % 2 ^ 64
    by x follows own sooner = at_act x follows own
      where
        -- the thread's total stays
        stays : AddsAt a (slice_index_or totals t.thread 0) (acts_by t.thread before) → left_at a before ≡ sum totals % 2 ^ 64
        stays own =
            let same : sum (set totals t.thread (slice_index_or totals t.thread 0)) ≡ sum totals = omega (arith, put (slice_index_or totals t.thread 0)) in
            sooner (slice_index_or totals t.thread 0) own ∙ ap (λ (n : ℕ). n % 2 ^ 64) same

        at_act : (x : Act) → Follows before x → AddsAt a (slice_index_or totals t.thread 0) (x ∷ acts_by t.thread before) → leaves_at a x (left_at a before) ≡ sum totals % 2 ^ 64
        at_act (Stored b v) follows own = ap (λ (c : Bool). if c then v else left_at a before) (ne_eqb b a own.0) ∙ stays own.1
        at_act (Changed b found v) follows own =
            ⊎_elim
            (λ (o : (b ≢ a) × AddsAt a s (acts_by t.thread before)). ap (λ (c : Bool). if c then v else left_at a before) (ne_eqb b a o.0) ∙ stays o.1)
            (λ (o : (b ≡ a) × ((more : ℕ) × (rest : ℕ) × (s ≡ (rest + more) % 2 ^ 64) × (v ≡ (found + more) % 2 ^ 64) × AddsAt a rest (acts_by t.thread before))).
            let more = o.1.0 in
            let rest = o.1.1 in
            ap (λ (c : Bool). if c then v else left_at a before) (eq-eqb b a o.0)
            ∙ one_add v found more (left_at a before) s rest (sum (set totals t.thread rest)) (sum totals) o.1.3 (follows ∙ ap (λ (k : ℕ). left_at k before) o.0) (sooner rest o.1.4) o.1.2 (omega (arith, put rest)))
            own
        at_act _ follows own = stays own

pub counters_are_sums : CountersAreSums
counters_are_sums all a totals one theirs adds = added a all totals one theirs (λ i less. adds i (slice_index_or totals i 0) (slice_get-get_or totals i 0 less))
