-- The end of a rider's acts, behind which nothing but 0s of sweeps is stored at an address.
use Rattle.std.proofs.Common.{◌≡◌, ◌≢◌, ℕ, Bool, true, false, List, [], ◌∷◌, ◌++◌, length, Some, None, refl, ap, sym, ◌∙◌, inl, inr, subst, append_assoc, length-append}
use Rattle.std.specs.Prelude.{if◌then◌else◌}
use Rattle.std.specs.List.{AllByRecursion as Every, list_any}
use Rattle.std.proofs.lemmas.Bool.{eq-eqb}
use Rattle.hl_model.specs.declared.step.Step.{Step}
use Rattle.hl_model.specs.Sizes.{Sizes}
use Rattle.hl_model.specs.Words.{written_at}
use Rattle.hl_history.specs.declared.view.Entry.{Entry}
use Rattle.hl_history.specs.Lists.{left_by}
use Rattle.hl_words.specs.declared.view.Extent.{Extent}
use Rattle.hl_words.specs.declared.view.Touch.{Touch}
use Rattle.hl_words.specs.declared.view.Touch.TheVariants.{Stored, Changed, Called}
use Rattle.hl_words.specs.States.{AreTied}
use Rattle.hl_words.proofs.Cut.{every_append, every_back}
use Rattle.hl_images.specs.Entered.{newest_writes}
use Rattle.hl_images.specs.Writes.{WritesNothing, CallsWriteNothing}
use Rattle.hl_images.proofs.WriterLaws.{newest_every}
use Rattle.hl_memory.specs.Acts.{IsPut, IsWriteAt, IsZeroAt, is_of_pages, NoneOfPages, AreActs}

-- a write that isn't at the address
pub write_elsewhere : (sizes : Sizes) (a x v : ℕ) (calls : List Entry) (w : Step) → IsWriteAt sizes x v calls w → written_at a w ≡ None → x ≢ a
write_elsewhere sizes a x v calls w is none same =
    let there : Some v ≡ None = sym (ap (λ (b : Bool). if b then Some v else None) (eq-eqb x a same)) ∙ sym (ap (written_at a) is.1) ∙ none in
    absurd (cc there)

-- an act that stores nothing at the address but the 0 of a sweep, by a rider of these calls, which took a page to clean
abbrev pub IsZeroed : List Entry → ℕ → Touch → Type 0
IsZeroed calls a t = (v : ℕ) → IsPut t a v → (t ≡ Stored a 0) × (NoneOfPages calls → ⊥)

stored_apart : (calls : List Entry) (a x v : ℕ) → x ≢ a → IsZeroed calls a (Stored x v)
stored_apart calls a x v apart u (inl e) = let same : x ≡ a = cc e in absurd (apart same)
stored_apart calls a x v apart u (inr c) = let no : Stored x v ≡ Changed a c.0 u = c.1 in absurd (cc no)

-- a sweep's call takes a page to clean
cleans : (sizes : Sizes) (x v : ℕ) (newer calls : List Entry) → IsZeroAt sizes x v calls → NoneOfPages (newer ++ calls) → ⊥
cleans sizes x v newer calls z none =
    let own = every_back (λ (e : Entry). list_any is_of_pages e.steps ≡ false) newer calls none in
    let first : true ≡ false = (subst NoneOfPages z.3 own).0 in
    absurd (cc first)

stored_zero : (calls : List Entry) (a x v : ℕ) → v ≡ 0 → (NoneOfPages calls → ⊥) → IsZeroed calls a (Stored x v)
stored_zero calls a x v zero_is took u (inl e) = let same : x ≡ a = cc e in (ap (λ (z : ℕ). Stored z v) same ∙ ap (λ (z : ℕ). Stored a z) zero_is, took)
stored_zero calls a x v zero_is took u (inr c) = let no : Stored x v ≡ Changed a c.0 u = c.1 in absurd (cc no)

changed_apart : (calls : List Entry) (a x f v : ℕ) → x ≢ a → IsZeroed calls a (Changed x f v)
changed_apart calls a x f v apart u (inl e) = let no : Changed x f v ≡ Stored a u = e in absurd (cc no)
changed_apart calls a x f v apart u (inr c) = let is : Changed x f v ≡ Changed a c.0 u = c.1 in let same : x ≡ a = cc is in absurd (apart same)

-- whether it stores at all
abbrev stores : Touch → Bool
stores (Stored d v) = true
stores (Changed d f v) = true
stores _ = false

other_zeroed : (calls : List Entry) (a : ℕ) (t : Touch) → stores t ≡ false → IsZeroed calls a t
other_zeroed calls a t h u put = absurd (by put)
  where
    by : IsPut t a u → ⊥
    by (inl e) = let no : false ≡ true = sym h ∙ ap stores e in cc no
    by (inr c) = let no : false ≡ true = sym h ∙ ap stores c.1 in cc no

-- The end of a rider's acts, behind which no call writes at the address, and what waits doesn't either
module _ (sizes : Sizes) (a : ℕ) (all ys : List Touch) (calls_all : List Entry) (Q : Entry → Type 0)
    (late : (pre : List Touch) (met left : Extent) (xs : List Touch) (call : Entry) → all ≡ pre ++ Called met left ∷ (xs ++ ys) → left.steps ≡ length (left_by call) → Q call → WritesNothing a call.steps) where
  pub record ActsCut : Type 0 where
    pub front : List Touch
    pub all_are : all ≡ front ++ ys
    pub zeroed : Every (IsZeroed calls_all a) front
    pub newer : List Entry
    pub older : List Entry
    pub calls_are : calls_all ≡ newer ++ older
    pub silent : CallsWriteNothing a newer
    pub waiting : List Step
    pub entered : AreActs sizes ys older waiting
    pub tied : AreTied ys older
    pub holds : Every Q older
    pub none : WritesNothing a waiting

  longer : (pre xs : List Touch) (s : Touch) → all ≡ pre ++ (s ∷ (xs ++ ys)) → all ≡ (pre ++ s ∷ []) ++ (xs ++ ys)
  longer pre xs s is = is ∙ sym (append_assoc pre (s ∷ []) (xs ++ ys))

  more_zeroed : (pre : List Touch) (s : Touch) → Every (IsZeroed calls_all a) pre → IsZeroed calls_all a s → Every (IsZeroed calls_all a) (pre ++ s ∷ [])
  more_zeroed pre s zeroed own = every_append (IsZeroed calls_all a) pre (s ∷ []) zeroed (own, tt)

  pub cut_acts : (pre xs : List Touch) (newer calls : List Entry) (waiting : List Step) → all ≡ pre ++ (xs ++ ys) → calls_all ≡ newer ++ calls → Every (IsZeroed calls_all a) pre → CallsWriteNothing a newer → AreActs sizes (xs ++ ys) calls waiting
      → AreTied (xs ++ ys) calls → Every Q calls → WritesNothing a waiting → ActsCut
  cut_acts pre [] newer calls waiting is own zeroed silent h tied holds none =
      record { front = pre; all_are = is; zeroed = zeroed; newer = newer; older = calls; calls_are = own; silent = silent; waiting = waiting; entered = h; tied = tied; holds = holds; none = none }
  cut_acts pre (Stored x v ∷ xs) newer calls waiting is own zeroed silent (inl w) tied holds none =
      let rest = subst (WritesNothing a) w.2 none in
      cut_acts (pre ++ Stored x v ∷ []) xs newer calls w.1 (longer pre xs (Stored x v) is) own (more_zeroed pre (Stored x v) zeroed (stored_apart calls_all a x v (write_elsewhere sizes a x v calls w.0 w.3 rest.0))) silent w.4 tied holds rest.1
  cut_acts pre (Stored x v ∷ xs) newer calls waiting is own zeroed silent (inr z) tied holds none =
      cut_acts (pre ++ Stored x v ∷ []) xs newer calls waiting (longer pre xs (Stored x v) is) own (more_zeroed pre (Stored x v) zeroed (stored_zero calls_all a x v z.0.0 (λ none. cleans sizes x v newer calls z.0 (subst NoneOfPages own none)))) silent z.1 tied holds none
  cut_acts pre (Changed x f v ∷ xs) newer calls waiting is own zeroed silent w tied holds none =
      let rest = subst (WritesNothing a) w.2 none in
      cut_acts (pre ++ Changed x f v ∷ []) xs newer calls w.1 (longer pre xs (Changed x f v) is) own (more_zeroed pre (Changed x f v) zeroed (changed_apart calls_all a x f v (write_elsewhere sizes a x v calls w.0 w.3 rest.0))) silent w.4 tied holds rest.1
  cut_acts pre (Called met left ∷ xs) newer [] waiting is own zeroed silent h tied holds none = absurd tied
  cut_acts pre (Called met left ∷ xs) newer (call ∷ calls) waiting is own zeroed silent h tied holds none =
      let nothing = late pre met left xs call is (tied.1 ∙ sym (length-append call.before call.steps)) holds.0 in
      cut_acts (pre ++ Called met left ∷ []) xs (newer ++ call ∷ []) calls (waiting ++ newest_writes call.steps []) (longer pre xs (Called met left) is) (own ∙ sym (append_assoc newer (call ∷ []) calls))
      (more_zeroed pre (Called met left) zeroed (other_zeroed calls_all a (Called met left) refl)) (every_append (λ (e : Entry). WritesNothing a e.steps) newer (call ∷ []) silent (nothing, tt)) h tied.2 holds.1
      (every_append (λ (s : Step). written_at a s ≡ None) waiting (newest_writes call.steps []) none (newest_every (λ (s : Step). written_at a s ≡ None) call.steps [] nothing tt))
  cut_acts pre (t ∷ xs) newer calls waiting is own zeroed silent h tied holds none =
      cut_acts (pre ++ t ∷ []) xs newer calls waiting (longer pre xs t is) own (more_zeroed pre t zeroed (other_zeroed calls_all a t refl)) silent h tied holds none
