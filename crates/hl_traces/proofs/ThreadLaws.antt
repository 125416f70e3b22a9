-- The acts of each thread among those of all.
use Rattle.std.proofs.Common.{◌≡◌, ◌≢◌, ℕ, Bool, List, [], ◌∷◌, ◌++◌, refl, ap, sym, ⊎_elim, subst}
use Rattle.std.specs.Prelude.{if◌then◌else◌}
use Rattle.std.specs.List.{AllByRecursion as Every}
use Rattle.std.proofs.lemmas.Bool.{cases_eq, eq-eqb, ne_eqb}
use Rattle.hl_traces.specs.declared.act.Act.{Act}
use Rattle.hl_traces.specs.OneTrace.{ActBy, acts_by, AreOne}

-- the newest act stands in front of its own thread's
pub own_act : (i : ℕ) (t : ActBy) (before : List ActBy) → t.thread ≡ i → acts_by i (t ∷ before) ≡ t.act ∷ acts_by i before
own_act i t before same = ap (λ (b : Bool). if b then t.act ∷ acts_by i before else acts_by i before) (eq-eqb t.thread i same)

-- and is none of another's
pub other_act : (i : ℕ) (t : ActBy) (before : List ActBy) → t.thread ≢ i → acts_by i (t ∷ before) ≡ acts_by i before
other_act i t before apart = ap (λ (b : Bool). if b then t.act ∷ acts_by i before else acts_by i before) (ne_eqb t.thread i apart)

-- What stays true of a list when its newest act is dropped
module _ (P : List Act → Type 0) (ends : (x : Act) (xs : List Act) → P (x ∷ xs) → P xs) (i : ℕ) where
  -- is true of a thread's acts before the newest of all
  pub acts_behind : (t : ActBy) (before : List ActBy) → P (acts_by i (t ∷ before)) → P (acts_by i before)
  acts_behind t before h =
      ⊎_elim
      (λ (same : t.thread ≡ i). ends t.act (acts_by i before) (subst P (own_act i t before same) h))
      (λ (apart : t.thread ≢ i). subst P (other_act i t before apart) h)
      (cases_eq t.thread i)

  -- and before some newer ones
  pub acts_back : (newer before : List ActBy) → P (acts_by i (newer ++ before)) → P (acts_by i before)
  acts_back [] before h = h
  acts_back (t ∷ newer) before h = acts_back newer before (acts_behind t (newer ++ before) h)

-- What stays true of a list when a newer act is put in front
module _ (P : List Act → Type 0) (more : (x : Act) (xs : List Act) → P xs → P (x ∷ xs)) (i : ℕ) where
  -- is true of a thread's acts with one newer of all
  pub acts_upon : (t : ActBy) (before : List ActBy) → P (acts_by i before) → P (acts_by i (t ∷ before))
  acts_upon t before h =
      ⊎_elim
      (λ (same : t.thread ≡ i). subst P (sym (own_act i t before same)) (more t.act (acts_by i before) h))
      (λ (apart : t.thread ≢ i). subst P (sym (other_act i t before apart)) h)
      (cases_eq t.thread i)

  -- and with some newer ones
  pub acts_onto : (newer before : List ActBy) → P (acts_by i before) → P (acts_by i (newer ++ before))
  acts_onto [] before h = h
  acts_onto (t ∷ newer) before h = acts_upon t (newer ++ before) (acts_onto newer before h)

-- what holds of each act of each thread holds of all
pub every_thread : (P : Act → Type 0) (all : List ActBy) → ((i : ℕ) → Every P (acts_by i all)) → Every (λ (t : ActBy). P t.act) all
every_thread P [] each = tt
every_thread P (t ∷ before) each =
    ((subst (Every P) (own_act t.thread t before refl) (each t.thread)).0, every_thread P before (λ i. acts_behind (Every P) (λ x xs h. h.1) i t before (each i)))

-- and what holds of all holds of each thread's
pub every_own : (P : Act → Type 0) (i : ℕ) (all : List ActBy) → Every (λ (t : ActBy). P t.act) all → Every P (acts_by i all)
every_own P i [] h = tt
every_own P i (t ∷ before) h =
    ⊎_elim
    (λ (same : t.thread ≡ i). subst (Every P) (sym (own_act i t before same)) (h.0, every_own P i before h.1))
    (λ (apart : t.thread ≢ i). subst (Every P) (sym (other_act i t before apart)) (every_own P i before h.1))
    (cases_eq t.thread i)

-- the end of one trace is one
pub one_back : (newer before : List ActBy) → AreOne (newer ++ before) → AreOne before
one_back [] before one = one
one_back (t ∷ newer) before one = one_back newer before one.1
