-- What the words become when one step is put behind the list.
use Rattle.std.proofs.Common.{◌≡◌, ◌≢◌, ℕ, ◌+◌, ◌*◌, ◌/◌, ◌<◌, ◌≤◌, cond, max, List, [], ◌∷◌, ◌++◌, length, take, drop, get_or, refl, sym, ap, ◌∙◌, subst, arith}
use Rattle.std.specs.Prelude.{Some, None, unwrap_or}
use Rattle.std.proofs.lemmas.Nat.{div-mul-add}
use Rattle.std.proofs.lemmas.Bool.{eq-eqb, ne_eqb}
use Rattle.std.proofs.lemmas.List.{same_lists, take-append-drop}
use Rattle.std.proofs.lemmas.List.FromFn.{length-map-range_with_len, get_or-map-range_with_len}
use Rattle.hl_model.specs.declared.step.Step.{Step}
use Rattle.hl_model.specs.declared.step.Step.TheVariants.{Write}
use Rattle.hl_model.specs.Lists.{until_last, last_given}
use Rattle.hl_model.specs.Sizes.{Sizes}
use Rattle.hl_model.specs.Epochs.{mark}
use Rattle.hl_model.specs.Offsets.{tail}
use Rattle.hl_model.specs.Views.{allocates, seen_tail}
use Rattle.hl_model.specs.Words.{written_at, word, page_words}
use Rattle.hl_model.specs.Replies.{fault_of, IsAccepted}
use Rattle.hl_model.proofs.ListLaws.{last_given-push, never_falls}
use Rattle.hl_laws.proofs.AcceptedLaws.{accepted_has}
use Rattle.hl_laws.proofs.NoFaultLaws.{write-none}
use Rattle.hl_laws.proofs.OffsetLaws.{tail-grows}

-- each word is what was written there last
pub word-push : (a : ℕ) (A : List Step) (s : Step) → word a (A ++ s ∷ []) ≡ unwrap_or (written_at a s) (word a A)
unfolding word
word-push a A s = last_given-push (written_at a) 0 A s

-- at first each word is 0
pub word-nil : (a : ℕ) → word a [] ≡ 0
unfolding word last_given
word-nil a = refl

-- a step that writes elsewhere or nothing leaves a word
pub word-stay : (a : ℕ) (A : List Step) (s : Step) → written_at a s ≡ None → word a (A ++ s ∷ []) ≡ word a A
word-stay a A s h = word-push a A s ∙ ap (λ o. unwrap_or o (word a A)) h

-- a write sets its word
pub word-write : (a : ℕ) (A : List Step) (t v : ℕ) → word a (A ++ Write t a v ∷ []) ≡ v
word-write a A t v = word-push a A (Write t a v) ∙ ap (λ b. unwrap_or (cond b (Some v) None) (word a A)) (eq-eqb a a refl)

-- and leaves the others
pub word-elsewhere : (a : ℕ) (A : List Step) (t b v : ℕ) → b ≢ a → word a (A ++ Write t b v ∷ []) ≡ word a A
word-elsewhere a A t b v ne = word-stay a A (Write t b v) (ap (λ c. cond c (Some v) None) (ne_eqb b a ne))

-- a page has as many words as its size
pub length-page_words : (sizes : Sizes) (p : ℕ) (A : List Step) → length (page_words sizes p A) ≡ sizes.page_size
unfolding page_words
length-page_words sizes p A = length-map-range_with_len (λ a. word a A) (p * sizes.page_size) sizes.page_size

-- the k-th word of a page
pub page_words-at : (sizes : Sizes) (p : ℕ) (A : List Step) (k d : ℕ) → k < sizes.page_size → get_or (page_words sizes p A) k d ≡ word (p * sizes.page_size + k) A
unfolding page_words
page_words-at sizes p A k d h = get_or-map-range_with_len (λ a. word a A) (p * sizes.page_size) sizes.page_size k (p * sizes.page_size + k) d h refl

-- a list of a page's size with the same words is the page's
pub page_words-is : (sizes : Sizes) (p : ℕ) (A : List Step) (ws : List ℕ) → length ws ≡ sizes.page_size → ((k d : ℕ) → k < sizes.page_size → word (p * sizes.page_size + k) A ≡ get_or ws k d) → page_words sizes p A ≡ ws
page_words-is sizes p A ws len each =
    same_lists (page_words sizes p A) ws (length-page_words sizes p A ∙ sym len)
    (λ k d lt. let here : k < sizes.page_size = omega (arith, length-page_words sizes p A) in page_words-at sizes p A k d here ∙ each k d here)

-- the same words are the same page
pub page_words-same : (sizes : Sizes) (p : ℕ) (A B : List Step) → ((a : ℕ) → a / sizes.page_size ≡ p → word a A ≡ word a B) → page_words sizes p A ≡ page_words sizes p B
page_words-same sizes p A B each =
    page_words-is sizes p A (page_words sizes p B) (length-page_words sizes p B)
    (λ k d lt. each (p * sizes.page_size + k) (div-mul-add p sizes.page_size k lt) ∙ sym (page_words-at sizes p B k d lt))

-- a step that writes nothing leaves every page
pub page_words-stay : (sizes : Sizes) (p : ℕ) (A : List Step) (s : Step) → ((a : ℕ) → written_at a s ≡ None) → page_words sizes p (A ++ s ∷ []) ≡ page_words sizes p A
page_words-stay sizes p A s h = page_words-same sizes p (A ++ s ∷ []) A (λ a in_page. word-stay a A s (h a))

-- the tail of a beginning
pub tail-front : (sizes : Sizes) (k : ℕ) (A : List Step) → 0 < sizes.page_size → tail sizes (take k A) ≤ tail sizes A
tail-front sizes k A some =
    subst (λ (L : List Step). tail sizes (take k A) ≤ tail sizes L) (take-append-drop k A)
    (never_falls (tail sizes) (λ X s. tail-grows sizes X s some) (take k A) (drop k A))

-- no slot saw more than the tail
pub seen_tail-le : (sizes : Sizes) (t : ℕ) (A : List Step) → 0 < sizes.page_size → seen_tail sizes t A ≤ tail sizes A
unfolding seen_tail
seen_tail-le sizes t A some = tail-front sizes (max (mark t A) (until_last (allocates t) A)) A some

-- a step writes nothing at or above the tail
unwritten : (sizes : Sizes) (a : ℕ) (A : List Step) (s : Step) → 0 < sizes.page_size → fault_of sizes A s ≡ None → tail sizes A ≤ a → written_at a s ≡ None
unwritten sizes a A (Write t b v) some h le =
    ap (λ c. cond c (Some v) None) (ne_eqb b a (λ same. omega (arith, same, (write-none sizes A t b v h).2, seen_tail-le sizes t A some)))
unwritten sizes a A _ some h le = refl

-- words at or above the tail are 0
pub word-fresh : (sizes : Sizes) (a : ℕ) → 0 < sizes.page_size → (A : List Step) → IsAccepted sizes A → tail sizes A ≤ a → word a A ≡ 0
word-fresh sizes a some = accepted_has sizes (λ A. tail sizes A ≤ a → word a A ≡ 0) (λ le. word-nil a)
    (λ A s acc f before le. let low : tail sizes A ≤ a = omega (arith, tail-grows sizes A s some) in word-stay a A s (unwritten sizes a A s some f low) ∙ before low)
