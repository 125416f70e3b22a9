-- Bytes as words, eight to a word.
use Rattle.std.proofs.Common.{◌≡◌, ◌≢◌, ℕ, zero, suc, ◌+◌, ◌-◌, ◌*◌, ◌/◌, ◌%◌, ◌^◌, ◌<◌, ◌≤◌, ◌⊎◌, List, [], ◌∷◌, ◌++◌, length, take, drop, get_or, length-append, length-drop, take-append-drop, refl, sym, ap, ◌∙◌, inl, inr, ⊎_elim, arith}
use Rattle.std.specs.List.{flat_map}
use Rattle.std.specs.Int.{w64, from_be_bytes}
use Rattle.std.proofs.lemmas.Bool.{cases_order}
use Rattle.std.proofs.lemmas.List.{get_or-append-add, get_or-append_right, get_or-drop, get_or-take, get_or_append_left, get_or_default, get_or_past, drop-drop, length-take-le, nil_from_length, same_lists, take_at}
use Rattle.std.proofs.lemmas.Nat.{be_bytes_8, from_be_bytes-to_be_bytes_8}
use Rattle.byteorder.specs.Endian.{big_number}
use Rattle.example_layout.specs.Image.{eight_bytes}
use Rattle.example_layout.specs.Layout.{ended, packed, AreBytes, AreWords}

below : (i n : ℕ) → (i < n) ⊎ (n ≤ i)
below i n = ⊎_elim (λ (e : i ≡ n). inr (omega (arith, e))) (λ (o : (i < n) ⊎ (n < i)). ⊎_elim (λ (l : i < n). inl l) (λ (g : n < i). inr (omega (arith, g))) o) (cases_order i n)

-- a bound on each holds of the first
pub below_take : (m n : ℕ) (xs : List ℕ) → 0 < m → ((i : ℕ) → get_or xs i 0 < m) → (i : ℕ) → get_or (take n xs) i 0 < m
below_take m n xs some are i =
    ⊎_elim (λ (l : i < n). omega (arith, get_or-take n xs i 0 l, are i))
    (λ (g : n ≤ i). omega (arith, some, get_or_past (take n xs) i 0 (omega (arith, g, short n xs)))) (below i n)
  where
    short : (n : ℕ) (xs : List ℕ) → length (take n xs) ≤ n
    short zero xs = omega arith
    short (suc n) [] = omega arith
    short (suc n) (x ∷ xs) = omega (arith, short n xs)

bytes_take : (n : ℕ) (bytes : List ℕ) → AreBytes bytes → AreBytes (take n bytes)
bytes_take n bytes are = below_take (2 ^ 8) n bytes (omega arith) are

pub bytes_drop : (n : ℕ) (bytes : List ℕ) → AreBytes bytes → AreBytes (drop n bytes)
bytes_drop n bytes are i = omega (arith, get_or-drop n bytes i 0, are (n + i))

-- the number in eight bytes
number_is : (bytes : List ℕ) → big_number 8 bytes ≡ from_be_bytes w64 (take 8 bytes)
number_is bytes = omega (arith, get_or-take 8 bytes 0 0 (omega arith), get_or-take 8 bytes 1 0 (omega arith), get_or-take 8 bytes 2 0 (omega arith), get_or-take 8 bytes 3 0 (omega arith), get_or-take 8 bytes 4 0 (omega arith), get_or-take 8 bytes 5 0 (omega arith), get_or-take 8 bytes 6 0 (omega arith), get_or-take 8 bytes 7 0 (omega arith))

pub eight_of : (bytes : List ℕ) → 8 ≤ length bytes → AreBytes bytes → eight_bytes (big_number 8 bytes) ≡ take 8 bytes
eight_of bytes long are = be_bytes_8 (take 8 bytes) (big_number 8 bytes) (length-take-le 8 bytes long) (λ i. omega (arith, bytes_take 8 bytes are i)) (number_is bytes)

-- words of bytes have these bytes
pub unpacked : (n : ℕ) (bytes : List ℕ) → length bytes ≡ 8 * n → AreBytes bytes → flat_map eight_bytes (packed n bytes) ≡ bytes
unpacked zero bytes long are = sym (nil_from_length bytes (omega (arith, long)))
unpacked (suc n) bytes long are =
    let rest = unpacked n (drop 8 bytes) (omega (arith, long, length-drop 8 bytes)) (bytes_drop 8 bytes are) in
    ap (λ (l : List ℕ). l ++ flat_map eight_bytes (packed n (drop 8 bytes))) (eight_of bytes (omega (arith, long)) are)
    ∙ ap (λ (l : List ℕ). take 8 bytes ++ l) rest ∙ take-append-drop 8 bytes

-- and the bytes of words are those of these words
pub read_back : (x : ℕ) (rest : List ℕ) → x < 2 ^ 64 → big_number 8 (eight_bytes x ++ rest) ≡ x
read_back x rest fits = omega (arith, from_be_bytes-to_be_bytes_8 x fits)

pub repacked : (words : List ℕ) → AreWords words → packed (length words) (flat_map eight_bytes words) ≡ words
repacked [] are = refl
repacked (w ∷ words) are =
    ap (λ (x : ℕ). x ∷ packed (length words) (flat_map eight_bytes words)) (read_back w (flat_map eight_bytes words) (are 0))
    ∙ ap (λ (l : List ℕ). w ∷ l) (repacked words (λ k. are (suc k)))

-- so two lists of words that have the same bytes are one
pub same_words : (ws vs : List ℕ) → AreWords ws → AreWords vs → length ws ≡ length vs → flat_map eight_bytes ws ≡ flat_map eight_bytes vs → ws ≡ vs
same_words ws vs are be long same = sym (repacked ws are) ∙ ap (packed (length ws)) same ∙ ap (λ (n : ℕ). packed n (flat_map eight_bytes vs)) long ∙ repacked vs be

pub bytes_long : (words : List ℕ) → length (flat_map eight_bytes words) ≡ 8 * length words
bytes_long [] = refl
bytes_long (w ∷ words) = omega (arith, bytes_long words)

pub packed_long : (n : ℕ) (bytes : List ℕ) → length (packed n bytes) ≡ n
packed_long zero bytes = refl
packed_long (suc n) bytes = omega (arith, packed_long n (drop 8 bytes))

number_fits : (bytes : List ℕ) → AreBytes bytes → big_number 8 bytes < 2 ^ 64
number_fits bytes are = omega (arith, are 0, are 1, are 2, are 3, are 4, are 5, are 6, are 7)

pub packed_fits : (n : ℕ) (bytes : List ℕ) → AreBytes bytes → AreWords (packed n bytes)
packed_fits zero bytes are k = omega arith
packed_fits (suc n) bytes are zero = number_fits bytes are
packed_fits (suc n) bytes are (suc k) = packed_fits n (drop 8 bytes) (bytes_drop 8 bytes are) k

-- the word at a place
packed_at : (n k : ℕ) (bytes : List ℕ) → k < n → get_or (packed n bytes) k 0 ≡ big_number 8 (drop (8 * k) bytes)
packed_at zero k bytes less = absurd (omega (arith, less))
packed_at (suc n) zero bytes less = refl
packed_at (suc n) (suc k) bytes less =
    packed_at n k (drop 8 bytes) (omega (arith, less)) ∙ ap (big_number 8) (drop-drop (8 * k) 8 bytes ∙ ap (λ (m : ℕ). drop m bytes) (omega arith))

-- these are the words if each is
pub packed_is : (n : ℕ) (bytes words : List ℕ) → length words ≡ n → ((k : ℕ) → k < n → get_or words k 0 ≡ big_number 8 (drop (8 * k) bytes)) → words ≡ packed n bytes
packed_is n bytes words long each = same_lists words (packed n bytes) (long ∙ sym (packed_long n bytes)) (λ k d less.
    get_or_default words k d 0 less ∙ each k (omega (arith, less, long)) ∙ sym (packed_at n k bytes (omega (arith, less, long))) ∙ get_or_default (packed n bytes) k 0 d (omega (arith, less, long, packed_long n bytes)))

-- a word of 0 has bytes of 0
zero_at : (bytes : List ℕ) (j : ℕ) → j < 8 → big_number 8 bytes ≡ 0 → get_or bytes j 0 ≡ 0
zero_at bytes zero less none = omega (arith, none)
zero_at bytes (suc zero) less none = omega (arith, none)
zero_at bytes (suc (suc zero)) less none = omega (arith, none)
zero_at bytes (suc (suc (suc zero))) less none = omega (arith, none)
zero_at bytes (suc (suc (suc (suc zero)))) less none = omega (arith, none)
zero_at bytes (suc (suc (suc (suc (suc zero))))) less none = omega (arith, none)
zero_at bytes (suc (suc (suc (suc (suc (suc zero)))))) less none = omega (arith, none)
zero_at bytes (suc (suc (suc (suc (suc (suc (suc zero))))))) less none = omega (arith, none)
zero_at bytes (suc (suc (suc (suc (suc (suc (suc (suc j)))))))) less none = absurd (omega (arith, less))

-- what ends a record's bytes
abbrev pub end : List ℕ
end = 1 ∷ 0 ∷ 0 ∷ 0 ∷ 0 ∷ 0 ∷ 0 ∷ 0 ∷ []

end_fits : AreBytes end
end_fits zero = omega arith
end_fits (suc zero) = omega arith
end_fits (suc (suc zero)) = omega arith
end_fits (suc (suc (suc zero))) = omega arith
end_fits (suc (suc (suc (suc zero)))) = omega arith
end_fits (suc (suc (suc (suc (suc zero))))) = omega arith
end_fits (suc (suc (suc (suc (suc (suc zero)))))) = omega arith
end_fits (suc (suc (suc (suc (suc (suc (suc zero))))))) = omega arith
end_fits (suc (suc (suc (suc (suc (suc (suc (suc k)))))))) = omega arith

pub ended_long : (bytes : List ℕ) → length (ended bytes) ≡ 8 * (length bytes / 8 + 1)
ended_long bytes = omega (arith, length-append bytes (take (8 - length bytes % 8) end), length-take-le (8 - length bytes % 8) end (omega arith))

pub ended_fits : (bytes : List ℕ) → AreBytes bytes → AreBytes (ended bytes)
ended_fits bytes are k =
    ⊎_elim (λ (l : k < length bytes). omega (arith, get_or_append_left bytes (take (8 - length bytes % 8) end) 0 k l, are k))
    (λ (g : length bytes ≤ k). omega (arith, get_or-append_right bytes (take (8 - length bytes % 8) end) (length bytes) k 0 refl g, bytes_take (8 - length bytes % 8) end end_fits (k - length bytes))) (below k (length bytes))

ended_one : (bytes : List ℕ) → get_or (ended bytes) (length bytes) 0 ≡ 1
ended_one bytes =
    ap (λ (n : ℕ). get_or (ended bytes) n 0) (omega arith) ∙ get_or-append-add bytes (take (8 - length bytes % 8) end) 0 0 ∙ get_or-take (8 - length bytes % 8) end 0 0 (omega arith)

-- the last word of a record isn't 0
pub last_some : (bytes : List ℕ) → get_or (packed (length bytes / 8 + 1) (ended bytes)) (length bytes / 8) 0 ≢ 0
last_some bytes none =
    let k = length bytes / 8 in let j = length bytes % 8 in
    let word : big_number 8 (drop (8 * k) (ended bytes)) ≡ 0 = sym (packed_at (k + 1) k (ended bytes) (omega arith)) ∙ none in
    let byte : get_or (drop (8 * k) (ended bytes)) j 0 ≡ 0 = zero_at (drop (8 * k) (ended bytes)) j (omega arith) word in
    let there : get_or (drop (8 * k) (ended bytes)) j 0 ≡ get_or (ended bytes) (length bytes) 0 = get_or-drop (8 * k) (ended bytes) j 0 ∙ ap (λ (n : ℕ). get_or (ended bytes) n 0) (omega arith) in
    omega (arith, byte, there, ended_one bytes)

-- the bytes are there in front of their end
pub ended_same : (one two : List ℕ) → length one ≡ length two → ended one ≡ ended two → one ≡ two
ended_same one two long same =
    sym (take_at one (take (8 - length one % 8) end) (length one) refl) ∙ ap (take (length one)) same ∙ take_at two (take (8 - length two % 8) end) (length one) (sym long)

-- the bytes of words are bytes
pub bytes_are : (words : List ℕ) → AreBytes (flat_map eight_bytes words)
bytes_are [] k = omega arith
bytes_are (w ∷ words) zero = omega arith
bytes_are (w ∷ words) (suc zero) = omega arith
bytes_are (w ∷ words) (suc (suc zero)) = omega arith
bytes_are (w ∷ words) (suc (suc (suc zero))) = omega arith
bytes_are (w ∷ words) (suc (suc (suc (suc zero)))) = omega arith
bytes_are (w ∷ words) (suc (suc (suc (suc (suc zero))))) = omega arith
bytes_are (w ∷ words) (suc (suc (suc (suc (suc (suc zero)))))) = omega arith
bytes_are (w ∷ words) (suc (suc (suc (suc (suc (suc (suc zero))))))) = omega arith
bytes_are (w ∷ words) (suc (suc (suc (suc (suc (suc (suc (suc k)))))))) = bytes_are words k

-- so those in front of their end are, too
pub front_are : (bytes : List ℕ) → AreBytes (ended bytes) → AreBytes bytes
front_are bytes are k =
    ⊎_elim (λ (l : k < length bytes). omega (arith, get_or_append_left bytes (take (8 - length bytes % 8) end) 0 k l, are k))
    (λ (g : length bytes ≤ k). omega (arith, get_or_past bytes k 0 g)) (below k (length bytes))
