-- The offsets that done actions settle, of a base and the steps since.
use Rattle.std.proofs.Common.{◌≡◌, ℕ, ◌≤◌, Bool, true, false, cond, not, ◌||◌, max, List, [], ◌∷◌, ◌++◌, take, drop, refl, sym, ap, ◌∙◌, arith}
use Rattle.std.specs.List.{filter}
use Rattle.std.proofs.lemmas.List.{take-append-drop}
use Rattle.hl_model.specs.declared.action.Kind.{Kind}
use Rattle.hl_model.specs.declared.action.Waiting.{Waiting}
use Rattle.hl_model.specs.declared.step.Step.{Step}
use Rattle.hl_model.specs.Lists.{greatest}
use Rattle.hl_model.specs.Sizes.{Sizes}
use Rattle.hl_model.specs.Actions.{takes, actions, is_finished, pending, ever_taken, taken}
use Rattle.hl_model.specs.Settled.{settles, closes, done_greatest, safe_read_only, closed}
use Rattle.hl_model.specs.Replies.{IsAccepted}
use Rattle.hl_model.specs.Bases.{base_of}
use Rattle.hl_model.specs.AfterActions.{stored_after, ever_taken_after, done_greatest_after, safe_read_only_after, closed_after}
use Rattle.hl_laws.proofs.AcceptedLaws.{IsAccepted-front}
use Rattle.hl_laws.proofs.ActionLaws.{actions-rising}
use Rattle.hl_laws.proofs.CutActions.{stored_since, taken_since, is_finished-append, ever_taken-append, IsUndone, undone_behind, undone_since}
use Rattle.hl_model.proofs.ListLaws.{greatest-append, greatest-max, greatest-le, greatest-same_on, all-follows, all-take}
use Rattle.hl_laws.proofs.SettledLaws.{counted, either_counts}

-- the actions that were taken are all that count
taken_count : (sizes : Sizes) (stored : Kind → ℕ) (A : List Step) → IsAccepted sizes A → done_greatest stored A ≡ greatest (counted stored A) (ever_taken A)
unfolding done_greatest ever_taken
taken_count sizes stored A a =
    let parts : greatest (counted stored A) (actions A) ≡ max (greatest (counted stored A) (take (takes A) (actions A))) (greatest (counted stored A) (drop (takes A) (actions A)))
    = ap (greatest (counted stored A)) (sym (take-append-drop (takes A) (actions A))) ∙ greatest-append (counted stored A) (take (takes A) (actions A)) (drop (takes A) (actions A)) in
    let nothing : greatest (counted stored A) (drop (takes A) (actions A)) ≤ 0
    = greatest-le (counted stored A) 0 (drop (takes A) (actions A))
    (all-follows (IsUndone A) (λ w. counted stored A w ≤ 0) (drop (takes A) (actions A)) none (undone_behind sizes A (actions A) a (actions-rising A) refl)) in
    omega (arith, parts, nothing)
  where
    none : (w : Waiting) → IsUndone A w → counted stored A w ≤ 0
    none w h = rw h (omega arith)

count_core : (b c : Bool) (v m n k : ℕ) → max m n ≡ max m k → max (max (cond b v 0) m) (max (cond c v 0) n) ≡ max (max (cond b v 0) m) (cond (not b) (max (cond c v 0) k) k)
count_core true true v m n k h = omega (arith, h)
count_core true false v m n k h = omega (arith, h)
count_core false true v m n k h = omega (arith, h)
count_core false false v m n k h = omega (arith, h)

kept_cons : {X : Type 0} (g : X → ℕ) (x : X) (b : Bool) (xs : List X) → greatest g (cond b (x ∷ xs) xs) ≡ cond b (max (g x) (greatest g xs)) (greatest g xs)
unfolding greatest
kept_cons g x true xs = refl
kept_cons g x false xs = refl

-- what counts by a first test needn't be looked at by a second
first_counts : {X : Type 0} (p q : X → Bool) (v : X → ℕ) (xs : List X) → max (greatest (λ x. cond (p x) (v x) 0) xs) (greatest (λ x. cond (q x) (v x) 0) xs) ≡ max (greatest (λ x. cond (p x) (v x) 0) xs) (greatest (λ x. cond (q x) (v x) 0) (filter (λ x. not (p x)) xs))
unfolding greatest
first_counts p q v [] = refl
first_counts p q v (x ∷ xs) =
    count_core (p x) (q x) (v x) (greatest (λ x. cond (p x) (v x) 0) xs) (greatest (λ x. cond (q x) (v x) 0) xs) (greatest (λ x. cond (q x) (v x) 0) (filter (λ x. not (p x)) xs)) (first_counts p q v xs)
    ∙ ap (max (max (cond (p x) (v x) 0) (greatest (λ x. cond (p x) (v x) 0) xs))) (sym (kept_cons (λ x. cond (q x) (v x) 0) x (not (p x)) (filter (λ x. not (p x)) xs)))

-- of what was taken and is done, a later list's dones needn't tell
taken_counts : (stored : Kind → ℕ) (A L : List Step) → max (greatest (counted stored A) (ever_taken A)) (greatest (counted stored L) (ever_taken A)) ≡ max (greatest (counted stored A) (ever_taken A)) (greatest (counted stored L) (taken A))
unfolding taken
taken_counts stored A L = first_counts (λ w. is_finished w.ticket A) (λ w. is_finished w.ticket L) (λ w. stored w.kind) (ever_taken A)

-- what is settled: in the base, or by what is done since
done_greatest-append : (sizes : Sizes) (stored : Kind → ℕ) (A L : List Step) → IsAccepted sizes (A ++ L) → done_greatest stored (A ++ L) ≡ max (done_greatest stored A) (greatest (counted stored L) (taken A ++ taken_since sizes A L))
done_greatest-append sizes stored A L a =
    let whole : done_greatest stored (A ++ L) ≡ max (greatest (counted stored (A ++ L)) (ever_taken A)) (greatest (counted stored (A ++ L)) rest)
    = taken_count sizes stored (A ++ L) a ∙ ap (greatest (counted stored (A ++ L))) (ever_taken-append sizes A L front)
    ∙ greatest-append (counted stored (A ++ L)) (ever_taken A) rest in
    let early : greatest (counted stored (A ++ L)) (ever_taken A) ≡ max (greatest (counted stored A) (ever_taken A)) (greatest (counted stored L) (ever_taken A))
    = greatest-max (counted stored (A ++ L)) (counted stored A) (counted stored L) (ever_taken A)
    (λ w. ap (λ b. cond b (stored w.kind) 0) (is_finished-append w.ticket A L) ∙ either_counts (is_finished w.ticket A) (is_finished w.ticket L) (stored w.kind)) in
    let late : greatest (counted stored (A ++ L)) rest ≡ greatest (counted stored L) rest
    = greatest-same_on (counted stored (A ++ L)) (counted stored L) rest
    (all-follows (IsUndone A) (λ w. counted stored (A ++ L) w ≡ counted stored L w) rest
    (λ w h. ap (λ b. cond b (stored w.kind) 0) (is_finished-append w.ticket A L ∙ ap (λ b. b || is_finished w.ticket L) h))
    (all-take (IsUndone A) (takes L) (pending A ++ stored_since sizes A L) (undone_since sizes A L front))) in
    let parts : greatest (counted stored L) (taken A ++ rest) ≡ max (greatest (counted stored L) (taken A)) (greatest (counted stored L) rest)
    = greatest-append (counted stored L) (taken A) rest in
    omega (arith, whole, early, late, parts, taken_count sizes stored A front, taken_counts stored A L)
  where
    front : IsAccepted sizes A
    front = IsAccepted-front sizes A L a

    rest : List Waiting
    rest = taken_since sizes A L

-- the safe read-only offset
pub safe_read_only_after-is : (sizes : Sizes) (A L : List Step) → IsAccepted sizes (A ++ L) → safe_read_only_after (base_of sizes A) L ≡ safe_read_only (A ++ L)
unfolding safe_read_only_after done_greatest_after ever_taken_after stored_after base_of
safe_read_only_after-is sizes A L a = sym (done_greatest-append sizes settles A L a)

-- the closed offset
pub closed_after-is : (sizes : Sizes) (A L : List Step) → IsAccepted sizes (A ++ L) → closed_after (base_of sizes A) L ≡ closed (A ++ L)
unfolding closed_after done_greatest_after ever_taken_after stored_after base_of
closed_after-is sizes A L a = sym (done_greatest-append sizes closes A L a)
