-- Where the first word of a text ends, and what number it spells.
use Rattle.std.proofs.Common.{◌≡◌, ◌==◌, ℕ, ◌+◌, ◌-◌, ◌%◌, ◌^◌, ◌<◌, Bool, true, false, not, cond, ltb, Some, None, List, [], ◌∷◌, ◌++◌, length, take, drop, decimal, refl, sym, ap, ◌∙◌, arith, length-drop}
use Rattle.std.specs.List.{position, position_or_len, list_all}
use Rattle.std.proofs.Math.Seq.{take-append_seam, take-length, drop-append-add}
use Rattle.std.proofs.lemmas.Bool.{and_parts, and_from, ltb-false, ne_eqb, not_from_false}
use Rattle.std.proofs.lemmas.Fmt.{decimal_by_steps}
use Rattle.std.proofs.lemmas.List.{append-nil, take_all, drop_all}
use Rattle.std.proofs.lemmas.List.Folds.{list_all-append}
use Rattle.hl_line.specs.Reading.{first_word, other_words, number_in}
use Rattle.hl_line.proofs.Digits.{number_in-decimal}

-- no byte of these is a space
abbrev is_word : List ℕ → Bool
is_word s = list_all (λ b. not (b == 32)) s

-- the length of what stands before the first space
abbrev word_length : List ℕ → ℕ
word_length s = position_or_len (λ b. b == 32) s

word_before_space : (word rest : List ℕ) → is_word word ≡ true → word_length (word ++ (32 ∷ rest)) ≡ length word
word_before_space [] rest h = refl
word_before_space (b ∷ bs) rest h =
    let both = and_parts (not (b == 32)) (is_word bs) h in
    let here : not (b == 32) ≡ true = both.0 in
    let later : word_length (bs ++ (32 ∷ rest)) ≡ length bs = word_before_space bs rest both.1 in
    rw (here, later) (omega arith)

word_at_end : (word : List ℕ) → is_word word ≡ true → word_length word ≡ length word
word_at_end [] h = refl
word_at_end (b ∷ bs) h =
    let both = and_parts (not (b == 32)) (is_word bs) h in
    let here : not (b == 32) ≡ true = both.0 in
    let later : word_length bs ≡ length bs = word_at_end bs both.1 in
    rw (here, later) (omega arith)

first_word-space : (word rest : List ℕ) → is_word word ≡ true → first_word (word ++ (32 ∷ rest)) ≡ word
first_word-space word rest h =
    ap (λ n. take n (word ++ (32 ∷ rest))) (word_before_space word rest h) ∙ take-append_seam word (32 ∷ rest)

other_words-space : (word rest : List ℕ) → is_word word ≡ true → other_words (word ++ (32 ∷ rest)) ≡ rest
other_words-space word rest h =
    ap (λ n. drop (n + 1) (word ++ (32 ∷ rest))) (word_before_space word rest h) ∙ drop-append-add word (32 ∷ rest) 1

first_word-word : (word : List ℕ) → is_word word ≡ true → first_word (word ++ []) ≡ word
first_word-word word h =
    ap first_word (append-nil word) ∙ (ap (λ n. take n word) (word_at_end word h) ∙ take-length word)

digit_is_word : (d : ℕ) → is_word ((48 + d) ∷ []) ≡ true
digit_is_word d =
    let no_space : (48 + d == 32) ≡ false = ne_eqb (48 + d) 32 (λ e. absurd (omega arith)) in
    and_from _ true (not_from_false (48 + d == 32) no_space) refl

decimal_is_word : (n : ℕ) → n < 2 ^ 64 → is_word (decimal n) ≡ true
decimal_is_word n h =
    decimal_by_steps (λ (n : ℕ) (ds : List ℕ). is_word ds ≡ true)
    (λ n low. digit_is_word n)
    (λ n ds high before. list_all-append (λ b. not (b == 32)) ds ((48 + n % 10) ∷ []) ∙ and_from (is_word ds) (is_word ((48 + n % 10) ∷ [])) before (digit_is_word (n % 10)))
    n h

-- a number before a space
pub first_number : (n : ℕ) (rest : List ℕ) → n < 2 ^ 64 → number_in (first_word (decimal n ++ (32 ∷ rest))) ≡ n
first_number n rest h = ap number_in (first_word-space (decimal n) rest (decimal_is_word n h)) ∙ number_in-decimal n h

-- what follows a number and a space
pub after_number : (n : ℕ) (rest : List ℕ) → n < 2 ^ 64 → other_words (decimal n ++ (32 ∷ rest)) ≡ rest
after_number n rest h = other_words-space (decimal n) rest (decimal_is_word n h)

-- a number at the end
pub last_number : (n : ℕ) → n < 2 ^ 64 → number_in (first_word (decimal n ++ [])) ≡ n
last_number n h = ap number_in (first_word-word (decimal n) (decimal_is_word n h)) ∙ number_in-decimal n h

-- what is kept passed the test
pub kept_if : {X : Type 0} (b : Bool) (x y : X) → cond b (Some x) None ≡ Some y → (b ≡ true) × (x ≡ y)
kept_if true x y e = (refl, cc)
kept_if false x y e = cc

not_found : (b : Bool) (n : ℕ) → cond b (Some n) None ≡ None → b ≡ false
not_found true n e = cc
not_found false n e = refl

-- a text, cut at its first space
pub cut_at : (s : List ℕ) (k : ℕ) → position (λ b. b == 32) s ≡ Some k → (take k s ≡ first_word s) × (take (length s - (k + 1)) (drop (k + 1) s) ≡ other_words s)
cut_at s k e =
    let at = kept_if (ltb (word_length s) (length s)) (word_length s) k e in
    (ap (λ n. take n s) (sym at.1), take_all (length s - (k + 1)) (drop (k + 1) s) (omega (arith, length-drop (k + 1) s)) ∙ ap (λ n. drop (n + 1) s) (sym at.1))

-- a text with no space
pub uncut : (s : List ℕ) → position (λ b. b == 32) s ≡ None → (s ≡ first_word s) × ([] ≡ other_words s)
uncut s e =
    let end = ltb-false (word_length s) (length s) (not_found (ltb (word_length s) (length s)) (word_length s) e) in
    (sym (take_all (word_length s) s end), sym (drop_all (word_length s + 1) s (omega arith)))
