-- A number below 10^18 at the front is read whole.
use Rattle.std.proofs.Common.{◌≡◌, ◌≢◌, ℕ, zero, suc, ◌+◌, ◌-◌, ◌*◌, ◌^◌, ◌<◌, ◌≤◌, List, [], ◌∷◌, ◌++◌, length, length-append, get_or, take, drop, decimal, refl, sym, ap, subst, ◌∙◌, arith, append_assoc}
use Rattle.std.specs.Str.Parse.{AllDigits, digits_value_after}
use Rattle.std.specs.Char.{digit_value}
use Rattle.std.proofs.Math.Seq.{drop-append_seam, take-length}
use Rattle.std.proofs.lemmas.Fmt.{decimal_digit, decimal_is_IsNumeral, first_decimal}
use Rattle.std.proofs.lemmas.List.{append_cancel_left}
use Rattle.std.proofs.lemmas.Str.Parse.{digit_from_value}
use Rattle.hl_line.specs.Usual.{NoDigitFirst, LacksNumber, LacksTwo, LacksThree, LacksWord, LacksFlush, Behind}

-- digits after others
value_append : (n : ℕ) (a b : List ℕ) → digits_value_after 10 n (a ++ b) ≡ digits_value_after 10 (digits_value_after 10 n a) b
value_append n [] b = refl
value_append n (d ∷ a) b = value_append (n * 10 + digit_value d) a b

-- a number doesn't get less by more digits
value_grows : (n : ℕ) (ds : List ℕ) → n ≤ digits_value_after 10 n ds
value_grows n [] = omega arith
value_grows n (d ∷ ds) = omega (arith, value_grows (n * 10 + digit_value d) ds)

-- the last of some digits
last_digits : (a b : List ℕ) → AllDigits 10 (a ++ b) → AllDigits 10 b
last_digits [] b h = h
last_digits (d ∷ a) b h = last_digits a b h.1

-- a number whose digits are followed by more of another is less than a tenth of that
longer : (m n d : ℕ) (ds : List ℕ) → m < 2 ^ 64 → n < 2 ^ 64 → decimal n ≡ decimal m ++ (d ∷ ds) → m * 10 ≤ n
longer m n d ds hm hn e =
    let value = sym (decimal_is_IsNumeral n hn).1 ∙ (ap (digits_value_after 10 0) e ∙ value_append 0 (decimal m) (d ∷ ds)) in
    let more = ap (λ k. digits_value_after 10 k (d ∷ ds)) (decimal_is_IsNumeral m hm).1 in
    let grows = value_grows (m * 10 + digit_value d) ds in
    omega (arith, value ∙ more, grows)

-- no digit follows a 0 at the front
alone : (n d : ℕ) (ds : List ℕ) → n < 2 ^ 64 → decimal n ≢ 48 ∷ d ∷ ds
alone zero d ds h e =
    let one : 48 ∷ [] ≡ 48 ∷ d ∷ ds = sym (decimal_digit 0 (omega arith)) ∙ e in
    absurd (omega (arith, ap length one))
alone (suc k) d ds h e = absurd (omega (arith, first_decimal (suc k) (omega arith) h, ap (λ l. get_or l 0 0) e))

-- two lists of digits up to a byte that is none are the same, if the first doesn't end within the second
cut : (a b x y : List ℕ) (c : ℕ) → AllDigits 10 a → AllDigits 10 b → c < 48 → ((d : ℕ) (ds : List ℕ) → b ≢ a ++ (d ∷ ds)) → a ++ x ≡ b ++ (c ∷ y) → (a ≡ b) × (x ≡ c ∷ y)
cut [] [] x y c da db low whole e = (refl, e)
cut [] (d ∷ b) x y c da db low whole e = absurd (whole d b refl)
cut (d ∷ a) [] x y c da db low whole e =
    let same : d ≡ c = cc in
    absurd (omega (arith, digit_from_value d da.0))
cut (d ∷ a) (f ∷ b) x y c da db low whole e =
    let head : d ≡ f = cc in
    let tail : a ++ x ≡ b ++ (c ∷ y) = cc in
    let rest = cut a b x y c da.1 db.1 low (λ g gs h. whole g gs cc) tail in
    (cc, rest.1)

-- one that stopped short has a digit next
short : (m n c : ℕ) (x y : List ℕ) → m < 2 ^ 64 → n < 10 ^ 18 → (0 < m → m < 2 ^ 59 → NoDigitFirst x) → decimal m ++ x ≡ decimal n ++ (c ∷ y) → (d : ℕ) (ds : List ℕ) → decimal n ≢ decimal m ++ (d ∷ ds)
short zero n c x y hm hn stop e d ds h = alone n d ds (omega arith) (h ∙ ap (λ l. l ++ (d ∷ ds)) (decimal_digit 0 (omega arith)))
short (suc k) n c x y hm hn stop e d ds h =
    let m : ℕ = suc k in
    let few = longer m n d ds hm (omega arith) h in
    let digits = subst (AllDigits 10) h (decimal_is_IsNumeral n (omega arith)).0.1 in
    let digit = digit_from_value d (last_digits (decimal m) (d ∷ ds) digits).0 in
    let next : x ≡ d ∷ (ds ++ (c ∷ y)) = append_cancel_left (decimal m) x (d ∷ (ds ++ (c ∷ y))) (e ∙ (ap (λ l. l ++ (c ∷ y)) h ∙ append_assoc (decimal m) (d ∷ ds) (c ∷ y))) in
    let stopped : 48 ≤ d → 57 < d = subst NoDigitFirst next (stop (omega arith) (omega arith)) in
    omega (arith, digit, stopped)

-- a number at the front that stopped as it should is the one up to this byte
pub whole : (m n c : ℕ) (x y : List ℕ) → m < 2 ^ 64 → (0 < m → m < 2 ^ 59 → NoDigitFirst x) → n < 10 ^ 18 → c < 48 → decimal m ++ x ≡ decimal n ++ (c ∷ y) → x ≡ c ∷ y
whole m n c x y hm stop hn low e =
    (cut (decimal m) (decimal n) x y c (decimal_is_IsNumeral m hm).0.1 (decimal_is_IsNumeral n (omega arith)).0.1 low (short m n c x y hm hn stop e) e).1

-- digits have one first
has_first : (ds x bytes : List ℕ) → 0 < length ds → AllDigits 10 ds → ds ++ x ≡ bytes → NoDigitFirst bytes → ⊥
has_first [] x bytes some digits e none = omega arith
has_first (d ∷ ds) x bytes some digits e none =
    let no : 48 ≤ d → 57 < d = subst NoDigitFirst (sym e) none in
    omega (arith, digit_from_value d digits.0, no)

-- where no digit stands first, there is no number
pub no_number : (end : ℕ) (bytes : List ℕ) → NoDigitFirst bytes → LacksNumber end bytes
no_number end bytes none n rest small e =
    let number = (decimal_is_IsNumeral n (omega arith)).0 in
    has_first (decimal n) (end ∷ rest) bytes number.0 number.1 e none

-- nor where another byte follows the number that stands first
pub other_end : (m end : ℕ) (x bytes : List ℕ) → m < 2 ^ 64 → (0 < m → m < 2 ^ 59 → NoDigitFirst x) → end < 48 → decimal m ++ x ≡ bytes → ((y : List ℕ) → x ≢ end ∷ y) → LacksNumber end bytes
other_end m end x bytes fits stop low here other n rest small e =
    other rest (whole m n end x rest fits stop small low (here ∙ sym e))

-- a number at the front that ends with this byte is the only one
same_end : (m n end : ℕ) (x y : List ℕ) → m < 2 ^ 64 → n < 10 ^ 18 → end < 48 → decimal m ++ (end ∷ x) ≡ decimal n ++ (end ∷ y) → x ≡ y
same_end m n end x y fits small low e =
    let whole : end ∷ x ≡ end ∷ y = whole m n end (end ∷ x) y fits (λ a b c. omega arith) small low e in
    cc

-- without a first number there are no two
pub no_first_of_two : (bytes : List ℕ) → LacksNumber 32 bytes → LacksTwo bytes
no_first_of_two bytes none a b rest ha hb e = none a (decimal b ++ (10 ∷ rest)) ha e

-- nor without one behind it
pub no_last_of_two : (m : ℕ) (words bytes : List ℕ) → m < 2 ^ 64 → decimal m ++ (32 ∷ words) ≡ bytes → LacksNumber 10 words → LacksTwo bytes
no_last_of_two m words bytes fits here none a b rest ha hb e =
    none b rest hb (sym (same_end m a 32 words (decimal b ++ (10 ∷ rest)) fits ha (omega arith) (here ∙ sym e)))

-- without a first number there are no three
pub no_first_of_three : (bytes : List ℕ) → LacksNumber 32 bytes → LacksThree bytes
no_first_of_three bytes none a b c rest ha hb hc e = none a (decimal b ++ (32 ∷ (decimal c ++ (10 ∷ rest)))) ha e

-- nor without two behind it
pub no_others_of_three : (m : ℕ) (words bytes : List ℕ) → m < 2 ^ 64 → decimal m ++ (32 ∷ words) ≡ bytes → LacksTwo words → LacksThree bytes
no_others_of_three m words bytes fits here none a b c rest ha hb hc e =
    none b c rest hb hc (sym (same_end m a 32 words (decimal b ++ (32 ∷ (decimal c ++ (10 ∷ rest)))) fits ha (omega arith) (here ∙ sym e)))

-- without a page there is no flush
pub no_page : (bytes : List ℕ) → LacksNumber 32 bytes → LacksFlush bytes
no_page bytes none page rest h e = none page (111 ∷ 107 ∷ 10 ∷ rest) h e

-- nor where it didn't go well
pub no_ok : (m : ℕ) (words bytes : List ℕ) → m < 2 ^ 64 → decimal m ++ (32 ∷ words) ≡ bytes → LacksWord (111 ∷ 107 ∷ 10 ∷ []) words → LacksFlush bytes
no_ok m words bytes fits here none page rest h e =
    none rest (sym (same_end m page 32 words (111 ∷ 107 ∷ 10 ∷ rest) fits h (omega arith) (here ∙ sym e)))

-- what holds of all bytes after a word's place
pub behind : (word bytes : List ℕ) (P : List ℕ → Type 0) → P (take (length bytes - length word) (drop (length word) bytes)) → Behind word P bytes
behind word bytes P holds rest e =
    let count : length (word ++ rest) - length word ≡ length rest = omega (arith, length-append word rest) in
    let place : take (length (word ++ rest) - length word) (drop (length word) (word ++ rest)) ≡ rest =
    rw count (ap (take (length rest)) (drop-append_seam word rest) ∙ take-length rest) in
    subst P place (subst (λ l. P (take (length l - length word) (drop (length word) l))) (sym e) holds)

-- nothing stands behind a word that doesn't stand first
pub behind_lacks : (word bytes : List ℕ) (P : List ℕ → Type 0) → LacksWord word bytes → Behind word P bytes
behind_lacks word bytes P none rest e = absurd (none rest e)

-- what holds of the bytes behind a word that stands first
pub behind_found : (word words bytes : List ℕ) (P : List ℕ → Type 0) → word ++ words ≡ bytes → P words → Behind word P bytes
behind_found word words bytes P here holds rest e = subst P (append_cancel_left word words rest (here ∙ sym e)) holds

-- the bytes of equal lists
pub at_each : (xs bytes : List ℕ) → xs ≡ bytes → (k : ℕ) → get_or bytes k 0 ≡ get_or xs k 0
at_each xs bytes e k = ap (λ l. get_or l k 0) (sym e)
