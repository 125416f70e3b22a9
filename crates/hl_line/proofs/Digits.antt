-- A number in decimal is read back.
use Rattle.std.proofs.Common.{◌≡◌, ℕ, suc, ◌+◌, ◌*◌, ◌/◌, ◌%◌, ◌^◌, ◌<◌, List, [], ◌∷◌, ◌++◌, length, take, slice_index_or, decimal, refl, sym, ap, ◌∙◌, fold, arith, lit<}
use Rattle.std.proofs.Math.Seq.{take-suc}
use Rattle.std.proofs.lemmas.Fmt.{decimal_by_steps, decimal_digit, decimal_step}
use Rattle.std.proofs.lemmas.Grind.{fold-append}
use Rattle.hl_line.specs.Reading.{with_digit, number_in}

-- one more digit of a number of 64 bits
next_digit : (n : ℕ) → n < 2 ^ 64 → with_digit (n / 10) (48 + n % 10) ≡ n
unfolding with_digit
next_digit n h = omega arith

last_digit : (n : ℕ) → n < 10 → with_digit 0 (48 + n) ≡ n
unfolding with_digit
last_digit n h = omega arith

-- what `decimal` writes is read as that number
pub number_in-decimal : (n : ℕ) → n < 2 ^ 64 → number_in (decimal n) ≡ n
unfolding number_in
number_in-decimal n h =
    decimal_by_steps (λ (n : ℕ) (ds : List ℕ). n < 2 ^ 64 → fold with_digit 0 ds ≡ n)
    (λ n low fits. last_digit n low)
    (λ n ds high before fits.
    fold-append with_digit 0 ds ((48 + n % 10) ∷ [])
    ∙ (ap (λ m. with_digit m (48 + n % 10)) (before (omega arith)) ∙ next_digit n fits))
    n h h

with_digit_fits : (n digit : ℕ) → with_digit n digit < 2 ^ 64
unfolding with_digit
with_digit_fits n digit = omega arith

fold_fits : (n : ℕ) (word : List ℕ) → n < 2 ^ 64 → fold with_digit n word < 2 ^ 64
fold_fits n [] h = h
fold_fits n (digit ∷ digits) h = fold_fits (with_digit n digit) digits (with_digit_fits n digit)

-- whatever stands in a word, it is read as a number of 64 bits
pub number_in_fits : (word : List ℕ) → number_in word < 2 ^ 64
unfolding number_in
number_in_fits word = fold_fits 0 word (lit< tt)

-- a first digit, as a number in decimal
pub first_digit : (bytes : List ℕ) (n : ℕ) → 0 < length bytes → n < 10 → slice_index_or bytes 0 0 ≡ 48 + n → decimal n ≡ take 1 bytes
first_digit bytes n some low here =
    decimal_digit n low ∙ sym (take-suc bytes 0 0 some ∙ ap (λ b. b ∷ []) here)

-- a number with one more digit behind it
one_more : (n d : ℕ) → 0 < n → d < 10 → n * 10 + d < 2 ^ 64 → decimal (n * 10 + d) ≡ decimal n ++ ((48 + d) ∷ [])
one_more n d some low fits =
    let step = decimal_step (n * 10 + d) (omega arith) fits in
    let high : (n * 10 + d) / 10 ≡ n = omega arith in
    let rest : (n * 10 + d) % 10 ≡ d = omega arith in
    step ∙ rw (high, rest) refl

-- the digits of a number so far, and the next one
pub next_in : (bytes : List ℕ) (i n d : ℕ) → i < length bytes → 0 < n → d < 10 → n * 10 + d < 2 ^ 64 → slice_index_or bytes i 0 ≡ 48 + d → decimal n ≡ take i bytes → decimal (n * 10 + d) ≡ take (i + 1) bytes
next_in bytes i n d within some low fits here so_far =
    let up : i + 1 ≡ suc i = omega arith in
    let taken = ap (λ k. take k bytes) up ∙ take-suc bytes i 0 within in
    one_more n d some low fits
    ∙ (ap (λ ds. ds ++ ((48 + d) ∷ [])) so_far ∙ sym (taken ∙ ap (λ b. take i bytes ++ (b ∷ [])) here))
