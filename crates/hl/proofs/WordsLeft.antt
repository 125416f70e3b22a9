-- The words of a log whose threads appended records are those of the records.
use Rattle.std.proofs.Common.{◌≡◌, ℕ, zero, suc, ◌+◌, ◌<◌, ◌≤◌, ◌^◌, ◌∷◌, ◌++◌, [], List, Some, None, slice_get, get_or, length, sym, ◌∙◌, ap, subst, inl, inr, ⊎_elim, arith}
use Rattle.std.proofs.lemmas.Bool.{cases_lt}
use Rattle.std.proofs.lemmas.List.{length_push}
use Rattle.std.proofs.lemmas.Option.{same_Some, slice_get-get_or, slice_get_within}
use Rattle.hl_model.specs.Sizes.{Sizes}
use Rattle.hl_keeper.specs.Endings.{EndingState}
use Rattle.hl_traces.specs.OneTrace.{ActBy, left_at, AreOne}
use Rattle.hl_traces.specs.Records.{Appended, AllAppend, IsWordOf}
use Rattle.hl_traces.proofs.RecordLaws.{others_are_zero, records_stay}
use Rattle.hl.specs.declared.memory.MemoryDevice.{MemoryDevice}
use Rattle.hl.specs.Devices.{on_memory, Differs}
use Rattle.hl.specs.Left.{AreLeft, HaveRecords, IsLeft, WordsAreRecords}
use Rattle.hl.specs.Threads.{HoldsTrace}
use Rattle.hl.specs.Uses.{AreNumbers}

module _ {F : Type 0} (sizes : Sizes) (device : MemoryDevice) (ending : EndingState F) (words : List ℕ) (all : List ActBy) (records : ℕ → List Appended) (left : AreLeft sizes device ending words) (holds : HoldsTrace sizes (on_memory device) ending all)
    (one : AreOne all) (appends : AllAppend records all) (fits : (i k : ℕ) (r : Appended) → slice_get (records i) k ≡ Some r → AreNumbers r.words) where
  -- a word that was read is what is left there, if that is a number of 64 bits
  read : (a w : ℕ) → slice_get words a ≡ Some w → left_at a all < 2 ^ 64 → w ≡ left_at a all
  read a w at fit =
      ⊎_elim (λ (e : Some w ≡ Some (left_at a all)). same_Some w (left_at a all) e) (λ (e : (Some w ≡ None) × Differs device _). absurd (cc (e.0)))
      (left.1 a w at all holds fit (omega (arith, slice_get_within words a w at, left.0)))

  pub have_records : HaveRecords words records
  have_records = record {
    stored = λ i k m v r at_r few at_m below.
        let is = records_stay all records one appends i k m v r at_r few at_m in
        let there = slice_get-get_or words (r.address + m) 0 below in
        let same = read (r.address + m) (get_or words (r.address + m) 0) there (subst (λ (n : ℕ). n < 2 ^ 64) (sym is) (fits i k r at_r m v at_m)) in
        there ∙ ap (λ (n : ℕ). Some n) (same ∙ is);
    within = λ i k m v r at_r few at_m some.
        let is = records_stay all records one appends i k m v r at_r few at_m in
        ⊎_elim (λ (below : r.address + m < length words). below)
        (λ (beyond : length words ≤ r.address + m). absurd (some (sym is ∙ holds.beyond (r.address + m) (omega (arith, beyond, left.0)))))
        (cases_lt (r.address + m) (length words));
    others = λ a v at.
        ⊎_elim
        (λ (none : left_at a all ≡ 0). inl (read a v at (subst (λ (n : ℕ). n < 2 ^ 64) (sym none) (omega arith)) ∙ none))
        (λ (is : IsWordOf records a (left_at a all)).
        inr (subst (IsWordOf records a) (sym (read a v at (fits is.0 is.1 is.3 is.4 is.2 (left_at a all) is.6))) is))
        (others_are_zero all records appends a);
  }

pub words_are_records : (F : Type 0) → WordsAreRecords F
words_are_records F sizes device ending words all records left holds one appends fits = have_records sizes device ending words all records left holds one appends fits

-- what holds of each element holds of one more, if it holds of that
one_more : (P : ℕ → ℕ → Type 0) (xs : List ℕ) (y : ℕ) → ((n x : ℕ) → slice_get xs n ≡ Some x → P n x) → P (length xs) y → (n x : ℕ) → slice_get (xs ++ y ∷ []) n ≡ Some x → P n x
one_more P [] y each one zero x at = subst (P 0) (same_Some y x at) one
one_more P [] y each one (suc n) x at = absurd (cc at)
one_more P (z ∷ xs) y each one zero x at = each 0 x at
one_more P (z ∷ xs) y each one (suc n) x at = one_more (λ m u. P (suc m) u) xs y (λ m u e. each (suc m) u e) one n x at

-- one more word was read
pub more_left : {F : Type 0} (sizes : Sizes) (device : MemoryDevice) (ending : EndingState F) (words more : List ℕ) (w at : ℕ) → (length words ≡ at) × ((a v : ℕ) → slice_get words a ≡ Some v → IsLeft sizes device ending a (Some v)) → more ≡ words ++ w ∷ [] → IsLeft sizes device ending at (Some w)
    → (length more ≡ at + 1) × ((a v : ℕ) → slice_get more a ≡ Some v → IsLeft sizes device ending a (Some v))
more_left sizes device ending words more w at each is one = (
  ap length is ∙ omega (arith, length_push words w, each.0),
  λ a v e. one_more (λ b u. IsLeft sizes device ending b (Some u)) words w each.1 (subst (λ (n : ℕ). IsLeft sizes device ending n (Some w)) (sym each.0) one) a v (sym (ap (λ (l : List ℕ). slice_get l a) is) ∙ e),
)
