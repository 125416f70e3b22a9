-- An act of a rider, with what waits there and the calls before it.
use Rattle.std.proofs.Common.{◌≡◌, ℕ, ◌≤◌, ◌⊎◌, List, [], ◌∷◌, ◌++◌, length, sym, ◌∙◌, inl, inr, subst, append_assoc, length-append}
use Rattle.std.specs.List.{AllByRecursion as Every}
use Rattle.hl_model.specs.declared.step.Step.{Step}
use Rattle.hl_model.specs.declared.step.Step.TheVariants.{Write}
use Rattle.hl_model.specs.Settled.{safe_read_only}
use Rattle.hl_model.specs.Sizes.{Sizes}
use Rattle.hl_history.specs.declared.view.Entry.{Entry}
use Rattle.hl_history.specs.Lists.{Begins, left_by}
use Rattle.hl_words.specs.declared.view.Extent.{Extent}
use Rattle.hl_words.specs.declared.view.Touch.{Touch}
use Rattle.hl_words.specs.declared.view.Touch.TheVariants.{Stored, Changed, Called}
use Rattle.hl_words.specs.States.{RiderState, AreTied}
use Rattle.hl_words.proofs.Cut.{every_append, every_weaker}
use Rattle.hl_images.specs.Entered.{IsOneCall, newest_writes}
use Rattle.hl_images.proofs.PlaceLaws.{every_both, every_place}
use Rattle.hl_images.proofs.WriterLaws.{newest_every}
use Rattle.hl_memory.specs.Acts.{IsPut, IsWriteAt, IsZeroAt, AreActs, AreActsOf}
use Rattle.hl_memory.proofs.ActLaws.{tied_acts}

-- what such an act is: a write at its address, or a 0 of the sweep of its page
pub act_is : (sizes : Sizes) (x v : ℕ) (t : Touch) (ys : List Touch) (calls : List Entry) (waiting : List Step) → IsPut t x v → AreActs sizes (t ∷ ys) calls waiting
    → ((w : Step) × (older : List Step) × (waiting ≡ w ∷ older) × IsWriteAt sizes x v calls w) ⊎ IsZeroAt sizes x v calls
act_is sizes x v t ys calls waiting (inl e) h = stored (subst (λ (u : Touch). AreActs sizes (u ∷ ys) calls waiting) e h)
  where
    stored : AreActs sizes (Stored x v ∷ ys) calls waiting → ((w : Step) × (older : List Step) × (waiting ≡ w ∷ older) × IsWriteAt sizes x v calls w) ⊎ IsZeroAt sizes x v calls
    stored (inl w) = inl (w.0, w.1, w.2, w.3)
    stored (inr z) = inr z.0
act_is sizes x v t ys calls waiting (inr c) h = changed (subst (λ (u : Touch). AreActs sizes (u ∷ ys) calls waiting) c.1 h)
  where
    changed : AreActs sizes (Changed x c.0 v ∷ ys) calls waiting → ((w : Step) × (older : List Step) × (waiting ≡ w ∷ older) × IsWriteAt sizes x v calls w) ⊎ IsZeroAt sizes x v calls
    changed w = inl (w.0, w.1, w.2, w.3)

-- a call behind an act entered a write
pub record IsEntering (all : List Touch) (t : Touch) (ys : List Touch) (Q : Entry → Type 0) (w : Step) : Type 0 where
  pub late : List Touch
  pub met : Extent
  pub left : Extent
  pub between : List Touch
  pub call : Entry
  pub first : List Step
  pub rest : List Step
  pub all_are : all ≡ late ++ Called met left ∷ (between ++ t ∷ ys)
  pub met_is : met.steps ≡ length call.before
  pub left_is : left.steps ≡ length (left_by call)
  pub steps : call.steps ≡ first ++ w ∷ rest
  pub holds : Q call

-- One act of a rider, with all that stands before it. P holds of what waits at the end, Q of each call
module _ (sizes : Sizes) (all : List Touch) (t : Touch) (ys : List Touch) (P : Step → Type 0) (Q : Entry → Type 0) where
  -- what waits at the act, and the calls before it
  pub record FoundAct : Type 0 where
    pub calls : List Entry
    pub waiting : List Step
    pub entered : AreActs sizes (t ∷ ys) calls waiting
    pub tied : AreTied (t ∷ ys) calls
    pub holds : Every Q calls
    pub origins : Every (λ w. P w ⊎ IsEntering all t ys Q w) waiting

  further : (pre xs : List Touch) (s : Touch) → all ≡ pre ++ (s ∷ (xs ++ t ∷ ys)) → all ≡ (pre ++ s ∷ []) ++ (xs ++ t ∷ ys)
  further pre xs s is = is ∙ sym (append_assoc pre (s ∷ []) (xs ++ t ∷ ys))

  pub find_act : (pre xs : List Touch) (calls : List Entry) (waiting : List Step) → all ≡ pre ++ (xs ++ t ∷ ys) → AreActs sizes (xs ++ t ∷ ys) calls waiting → AreTied (xs ++ t ∷ ys) calls → Every Q calls
      → Every (λ w. P w ⊎ IsEntering all t ys Q w) waiting → FoundAct
  find_act pre [] calls waiting is h tied holds origins = record { calls = calls; waiting = waiting; entered = h; tied = tied; holds = holds; origins = origins }
  find_act pre (Stored x v ∷ xs) calls waiting is (inl w) tied holds origins =
      find_act (pre ++ Stored x v ∷ []) xs calls w.1 (further pre xs (Stored x v) is) w.4 tied holds (subst (Every (λ u. P u ⊎ IsEntering all t ys Q u)) w.2 origins).1
  find_act pre (Stored x v ∷ xs) calls waiting is (inr s) tied holds origins = find_act (pre ++ Stored x v ∷ []) xs calls waiting (further pre xs (Stored x v) is) s.1 tied holds origins
  find_act pre (Changed x f v ∷ xs) calls waiting is w tied holds origins =
      find_act (pre ++ Changed x f v ∷ []) xs calls w.1 (further pre xs (Changed x f v) is) w.4 tied holds (subst (Every (λ u. P u ⊎ IsEntering all t ys Q u)) w.2 origins).1
  find_act pre (Called met left ∷ xs) [] waiting is h tied holds origins = absurd tied
  find_act pre (Called met left ∷ xs) (call ∷ calls) waiting is h tied holds origins =
      let mine : Every (λ u. P u ⊎ IsEntering all t ys Q u) call.steps =
      every_place (λ u. P u ⊎ IsEntering all t ys Q u) [] call.steps
      (λ f u r e.
      inr (record {
        late = pre;
        met = met;
        left = left;
        between = xs;
        call = call;
        first = f;
        rest = r;
        all_are = is;
        met_is = tied.0;
        left_is = tied.1 ∙ sym (length-append call.before call.steps);
        steps = e;
        holds = holds.0;
      })) in
      find_act (pre ++ Called met left ∷ []) xs calls (waiting ++ newest_writes call.steps []) (further pre xs (Called met left) is) h tied.2 holds.1
      (every_append (λ u. P u ⊎ IsEntering all t ys Q u) waiting (newest_writes call.steps []) origins (newest_every (λ u. P u ⊎ IsEntering all t ys Q u) call.steps [] mine tt))
  find_act pre (t ∷ xs) calls waiting is h tied holds origins = find_act (pre ++ t ∷ []) xs calls waiting (further pre xs t is) h tied holds origins

-- what still waits at the end, and a call of the one list
abbrev pub Waits : List Step → Step → Type 0
Waits whole w = (t x v : ℕ) → w ≡ Write t x v → safe_read_only whole ≤ x

abbrev pub Calls : List Step → Entry → Type 0
Calls whole e = Begins (left_by e) whole × IsOneCall e.steps

-- a rider's acts, with its calls
module _ (sizes : Sizes) (whole : List Step) (r : RiderState) (acts : List Touch) (are : AreActsOf sizes whole r acts) (begins : Every (λ (e : Entry). Begins (left_by e) whole) r.calls) (tied : AreTied r.view.touches r.calls) where
  pub ties : AreTied acts r.calls
  ties = tied_acts sizes acts r.calls (subst (λ (l : List Touch). AreTied l r.calls) (sym are.touches) tied)

  pub all_calls : Every (Calls whole) r.calls
  all_calls = every_both (λ (e : Entry). Begins (left_by e) whole) (λ (e : Entry). IsOneCall e.steps) r.calls begins are.calls

  pub find_at : (xs : List Touch) (t : Touch) (ys : List Touch) → acts ≡ xs ++ t ∷ ys → FoundAct sizes acts t ys (Waits whole) (Calls whole)
  find_at xs t ys split =
      find_act sizes acts t ys (Waits whole) (Calls whole) [] xs r.calls are.waiting split (subst (λ (l : List Touch). AreActs sizes l r.calls are.waiting) split are.entered)
      (subst (λ (l : List Touch). AreTied l r.calls) split ties) all_calls (every_weaker (Waits whole) (λ w. Waits whole w ⊎ IsEntering acts t ys (Calls whole) w) are.waiting (λ w u. inl u) are.above)
