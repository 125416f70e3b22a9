-- What the library writes of a label and of a number in so many places.
use Rattle.std.proofs.Common.{◌≡◌, ℕ, zero, suc, ◌+◌, ◌-◌, ◌≤◌, ◌^◌, ◌&&◌, Bool, true, false, cond, List, [], ◌∷◌, ◌++◌, length, replicate, decimal, refl, ap, ap₂, ◌∙◌, append-nil, arith}
use Rattle.std.specs.Prelude.{◌||◌, nat_le, nat_lt}
use borrow.Author.Tests.{ne_eqb}
use lib.Utf8.{encode}
use Rattle.std.specs.List.{list_all, repeat}
use Rattle.std.specs.Char.{is_ascii}
use Rattle.std.specs.Fmt.{char_count, take_chars, padded, padded_integral, styled_text, styled_decimal, format_spec, is_char_start}
use Rattle.std.proofs.lemmas.Bool.{leb-true}
use Rattle.hl_monitor.specs.Reports.{left_in, right_in, is_label}

both : (s t : Bool) → (s && t) ≡ true → (s ≡ true) × (t ≡ true)
both true t h = (refl, h)
both false t h = absurd (cc)

-- an ASCII byte is a character
starts : (b : ℕ) (text : List ℕ) → list_all is_ascii (b ∷ text) ≡ true → is_char_start b ≡ true
starts b text all = ap (λ low. low || nat_le 0xC0 b) (both (nat_lt b 128) (list_all is_ascii text) all).0

-- ASCII text has as many characters as bytes
char_count-ascii : (text : List ℕ) → list_all is_ascii text ≡ true → char_count text ≡ length text
unfolding char_count
char_count-ascii [] all = refl
char_count-ascii (b ∷ text) all =
    ap₂ (λ one more. cond one 1 0 + more) (starts b text all) (char_count-ascii text (both (nat_lt b 128) (list_all is_ascii text) all).1)
    ∙ omega arith

-- a text has no more characters than bytes
take_chars-all : (n : ℕ) (text : List ℕ) → length text ≤ n → take_chars n text ≡ text
unfolding take_chars
take_chars-all n [] short = refl
take_chars-all n (b ∷ text) short =
    same (is_char_start b) _ _ _
    (ap (λ none. cond none [] (b ∷ take_chars (n - 1) text)) (ne_eqb n 0 (omega arith)) ∙ ap (λ rest. b ∷ rest) (take_chars-all (n - 1) text (omega arith)))
    (ap (λ rest. b ∷ rest) (take_chars-all n text (omega arith)))
  where
    same : (t : Bool) (x y z : List ℕ) → x ≡ z → y ≡ z → cond t x y ≡ z
    same true x y z p q = p
    same false x y z p q = q

-- so many spaces, as the library fills with them
filled : (n : ℕ) → repeat {A = ℕ} n (32 ∷ []) ≡ replicate n 32
filled zero = refl
filled (suc n) = ap (λ rest. 32 ∷ rest) (filled n)

-- a label, left in 16 places
pub left_in_16 : (label : List ℕ) → is_label label ≡ true → styled_text (format_spec 32 1 0 16 (2 ^ 64 - 1)) label ≡ left_in 16 label
unfolding padded encode
left_in_16 label fits =
    let is = both (nat_le (length label) 16) (list_all is_ascii label) fits in
    let whole = take_chars-all (2 ^ 64 - 1) label (omega (arith, leb-true (length label) 16 is.0)) in
    let count : char_count (take_chars (2 ^ 64 - 1) label) ≡ length label = ap char_count whole ∙ char_count-ascii label is.1 in
    ap₂ (λ text count. text ++ repeat {A = ℕ} (16 - count - 0) (32 ∷ [])) whole count
    ∙ ap (λ n. label ++ repeat {A = ℕ} n (32 ∷ [])) (omega arith)
    ∙ ap (λ rest. label ++ rest) (filled (16 - length label))

-- a number, right in 20
pub right_in_20 : (number : ℕ) → styled_decimal (format_spec 32 3 0 20 (2 ^ 64 - 1)) number ≡ right_in 20 (decimal number)
unfolding padded_integral char_count encode
right_in_20 number =
    let digits = decimal number in
    let padding = 20 - length digits - 0 - 0 in
    let after : padding - padding ≡ 0 = omega arith in
    let before : padding ≡ 20 - length digits = omega arith in
    rw (after, before, filled (20 - length digits)) (simp append-nil)
