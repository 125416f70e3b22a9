-- A file of pages has one reading.
use Rattle.std.proofs.Common.{◌≡◌, ℕ, ◌+◌, ◌*◌, ◌^◌, ◌<◌, ◌≤◌, List, [], ◌∷◌, ◌++◌, length, take, drop, get_or, length-append, length-drop, take-append-drop, append_assoc, refl, sym, ap, ◌∙◌, subst, arith}
use Rattle.std.specs.List.{flat_map}
use Rattle.std.proofs.lemmas.List.{append-nil, append_cancel_left, drop-drop, drop_all, drop_at, length-take-le, length_push, take_at}
use Rattle.byteorder.specs.Endian.{big_number}
use Rattle.example_layout.specs.Image.{eight_bytes, image}
use Rattle.example_layout.specs.declared.entry.Entry.{Entry}
use Rattle.example_layout.specs.declared.bad.Unreadable.{Unreadable}
use Rattle.example_layout.specs.declared.bad.Unreadable.TheVariants.{OutOfMemory, Page}
use Rattle.example_layout.specs.declared.bad.BadPage.{BadPage}
use Rattle.example_layout.specs.declared.bad.BadPage.TheVariants.{Length, Number, Record}
use Rattle.example_layout.specs.Layout.{AreBytes, AreWords}
use Rattle.example_layout.specs.Pieces.{laid, live_from, rows_of, AreFine, IsGathered, Piece}
use Rattle.example_layout.specs.Device.{images_from, live_in, ArePages, IsBadPage, IsPage, IsRefusedPage, IsUnreadable}
use Rattle.example_layout.proofs.Bytes.{below_take, bytes_drop, bytes_long, eight_of, packed_fits, packed_is, read_back, same_words, unpacked}
use Rattle.example_layout.proofs.Rows.{laid_fits, none_is_bad, same_rows_of}

image_long : (k : ℕ) (words : List ℕ) → length (image k words) ≡ 8 + 8 * length words
image_long k words = omega (arith, bytes_long words)

-- the first page of two files that are one
same_page : (size k : ℕ) (p q : List Piece) (x y : List ℕ) → AreFine p → AreFine q → length (laid p) ≡ size → length (laid q) ≡ size → image k (laid p) ++ x ≡ image k (laid q) ++ y → (p ≡ q) × (x ≡ y)
same_page size k p q x y fine good long wide same =
    let n = 8 + 8 * size in
    let images : image k (laid p) ≡ image k (laid q) = sym (take_at (image k (laid p)) x n (omega (arith, image_long k (laid p), long))) ∙ ap (take n) same ∙ take_at (image k (laid q)) y n (omega (arith, image_long k (laid q), wide)) in
    let bytes = append_cancel_left (eight_bytes k) (flat_map eight_bytes (laid p)) (flat_map eight_bytes (laid q)) images in
    let words = same_words (laid p) (laid q) (laid_fits p fine) (laid_fits q good) (long ∙ sym wide) bytes in
    (same_rows_of p q fine good words, sym (drop_at (image k (laid p)) x n (omega (arith, image_long k (laid p), long))) ∙ ap (drop n) same ∙ drop_at (image k (laid q)) y n (omega (arith, image_long k (laid q), wide)))

images_some : (k : ℕ) (p : List Piece) (ps : List (List Piece)) → 8 ≤ length (images_from k (p ∷ ps))
images_some k p ps = omega (arith, length-append (image k (laid p)) (images_from (k + 1) ps), image_long k (laid p))

pub same_pages : (size k : ℕ) (ps qs : List (List Piece)) → ArePages size ps → ArePages size qs → images_from k ps ≡ images_from k qs → ps ≡ qs
same_pages size k [] [] are be same = refl
same_pages size k [] (q ∷ qs) are be same = absurd (omega (arith, ap length same, images_some k q qs))
same_pages size k (p ∷ ps) [] are be same = absurd (omega (arith, ap length same, images_some k p ps))
same_pages size k (p ∷ ps) (q ∷ qs) are be same =
    let one = same_page size k p q (images_from (k + 1) ps) (images_from (k + 1) qs) are.0.0 be.0.0 are.0.1 be.0.1 same in
    ap (λ (r : List Piece). r ∷ ps) one.0 ∙ ap (λ (l : List (List Piece)). q ∷ l) (same_pages size (k + 1) ps qs are.1 be.1 one.1)

-- the image of a page of pieces isn't bad
page_is_good : (size k : ℕ) (p : List Piece) (x : List ℕ) (bad : BadPage) → k < 2 ^ 64 → AreFine p → length (laid p) ≡ size → IsBadPage size k (image k (laid p) ++ x) bad → ⊥
page_is_good size k p x Length small fine long is = omega (arith, is, length-append (image k (laid p)) x, image_long k (laid p), long)
page_is_good size k p x (Number n) small fine long is = is.1 (is.0 ∙ ap (big_number 8) (append_assoc (eight_bytes k) (flat_map eight_bytes (laid p)) x) ∙ read_back k (flat_map eight_bytes (laid p) ++ x) small)
page_is_good size k p x (Record a bad) small fine long is =
    let words = is.0 in
    let body : take (8 * size) (drop 8 (image k (laid p) ++ x)) ≡ flat_map eight_bytes (laid p) =
    ap (λ (l : List ℕ). take (8 * size) (drop 8 l)) (append_assoc (eight_bytes k) (flat_map eight_bytes (laid p)) x) ∙ take_at (flat_map eight_bytes (laid p)) x (8 * size) (omega (arith, bytes_long (laid p), long)) in
    let same : laid p ≡ words = same_words (laid p) words (laid_fits p fine) is.4 (long ∙ sym is.3) (sym body ∙ is.5) in
    none_is_bad bad p is.6.pieces (drop is.1 words) fine is.6.fine (same ∙ is.6.there) is.8

-- so no file of such pages is refused
pub none_is_refused : (size k : ℕ) (all ps : List (List Piece)) (rest : List ℕ) (bad : BadPage) → ArePages size all → ArePages size ps → images_from k all ≡ images_from k ps ++ rest → 0 < length rest → k + length ps < 2 ^ 64 → IsBadPage size (k + length ps) rest bad → ⊥
none_is_refused size k [] [] rest bad are be same some small is = omega (arith, ap length same, some)
none_is_refused size k [] (p ∷ ps) rest bad are be same some small is = omega (arith, ap length same, length-append (images_from k (p ∷ ps)) rest, images_some k p ps)
none_is_refused size k (q ∷ qs) [] rest bad are be same some small is =
    page_is_good size k q (images_from (k + 1) qs) bad (omega (arith, small)) are.0.0 are.0.1 (subst (λ (n : ℕ). IsBadPage size n (image k (laid q) ++ images_from (k + 1) qs) bad) (omega arith) (subst (λ (l : List ℕ). IsBadPage size (k + 0) l bad) (sym same) is))
none_is_refused size k (q ∷ qs) (p ∷ ps) rest bad are be same some small is =
    let one = same_page size k q p (images_from (k + 1) qs) (images_from (k + 1) ps ++ rest) are.0.0 be.0.0 are.0.1 be.0.1 (same ∙ append_assoc (image k (laid p)) (images_from (k + 1) ps) rest) in
    let place : k + length (p ∷ ps) ≡ k + 1 + length ps = omega arith in
    none_is_refused size (k + 1) qs ps rest bad are.1 be.1 one.1 some (omega (arith, small, place)) (subst (λ (n : ℕ). IsBadPage size n rest bad) place is)

-- a page more behind others
pub pages_more : (size : ℕ) (ps : List (List Piece)) (p : List Piece) → ArePages size ps → AreFine p → length (laid p) ≡ size → ArePages size (ps ++ p ∷ [])
pages_more size [] p are fine long = ((fine, long), tt)
pages_more size (q ∷ ps) p are fine long = (are.0, pages_more size ps p are.1 fine long)

pub images_more : (k : ℕ) (ps : List (List Piece)) (p : List Piece) (rest : List ℕ) → images_from k ps ++ (image (k + length ps) (laid p) ++ rest) ≡ images_from k (ps ++ p ∷ []) ++ rest
images_more k [] p rest = ap (λ (n : ℕ). image n (laid p) ++ rest) (omega arith) ∙ ap (λ (l : List ℕ). l ++ rest) (sym (append-nil (image k (laid p))))
images_more k (q ∷ ps) p rest =
    append_assoc (image k (laid q)) (images_from (k + 1) ps) (image (k + length (q ∷ ps)) (laid p) ++ rest)
    ∙ ap (λ (n : ℕ). image k (laid q) ++ (images_from (k + 1) ps ++ (image n (laid p) ++ rest))) (omega arith)
    ∙ ap (λ (l : List ℕ). image k (laid q) ++ l) (images_more (k + 1) ps p rest)
    ∙ sym (append_assoc (image k (laid q)) (images_from (k + 1) (ps ++ p ∷ [])) rest)

pub live_in_more : (size k : ℕ) (ps : List (List Piece)) (p : List Piece) → live_in size k (ps ++ p ∷ []) ≡ live_in size k ps ++ live_from ((k + length ps) * size) p
live_in_more size k [] p = append-nil (live_from (k * size) p) ∙ ap (λ (n : ℕ). live_from (n * size) p) (omega arith)
live_in_more size k (q ∷ ps) p =
    ap (λ (l : List (ℕ × List ℕ)). live_from (k * size) q ++ l) (live_in_more size (k + 1) ps p ∙ ap (λ (n : ℕ). live_in size (k + 1) ps ++ live_from (n * size) p) (omega arith))
    ∙ sym (append_assoc (live_from (k * size) q) (live_in size (k + 1) ps) (live_from ((k + length (q ∷ ps)) * size) p))

-- the words of a page, as they are read
pub page_words : (size : ℕ) (rest words : List ℕ) (n : ℕ) → n ≡ 8 * size → 8 + 8 * size ≤ length rest → AreBytes rest → length words ≡ size → ((k : ℕ) → k < length words → get_or words k 0 ≡ big_number 8 (drop (8 * k) (take n (drop 8 rest)))) → take (8 * size) (drop 8 rest) ≡ flat_map eight_bytes words
page_words size rest words n n_is long are all each =
    let body = take n (drop 8 rest) in
    let is = packed_is size body words all (λ k less. each k (omega (arith, less, all))) in
    let bytes : length body ≡ 8 * size = length-take-le n (drop 8 rest) (omega (arith, n_is, long, length-drop 8 rest)) ∙ n_is in
    ap (λ (m : ℕ). take m (drop 8 rest)) (sym n_is) ∙ sym (unpacked size body bytes (below_take (2 ^ 8) n (drop 8 rest) (omega arith) (bytes_drop 8 rest are))) ∙ ap (flat_map eight_bytes) (sym is)

pub page_fits : (size : ℕ) (rest words : List ℕ) (n : ℕ) → AreBytes rest → length words ≡ size → ((k : ℕ) → k < length words → get_or words k 0 ≡ big_number 8 (drop (8 * k) (take n (drop 8 rest)))) → AreWords words
page_fits size rest words n are all each =
    let body = take n (drop 8 rest) in
    let is = packed_is size body words all (λ k less. each k (omega (arith, less, all))) in
    subst AreWords (sym is) (packed_fits size body (below_take (2 ^ 8) n (drop 8 rest) (omega arith) (bytes_drop 8 rest are)))

-- such a page is there if its number is, and its words
pub page_there : (size k : ℕ) (rest words : List ℕ) → 8 + 8 * size ≤ length rest → AreBytes rest → big_number 8 rest ≡ k → take (8 * size) (drop 8 rest) ≡ flat_map eight_bytes words → rest ≡ image k words ++ drop (8 + 8 * size) rest
page_there size k rest words long are number same =
    let first : eight_bytes k ≡ take 8 rest = ap eight_bytes (sym number) ∙ eight_of rest (omega (arith, long)) are in
    let behind : drop 8 rest ≡ flat_map eight_bytes words ++ drop (8 + 8 * size) rest = sym (take-append-drop (8 * size) (drop 8 rest)) ∙ ap (λ (l : List ℕ). l ++ drop (8 * size) (drop 8 rest)) same ∙ ap (λ (l : List ℕ). flat_map eight_bytes words ++ l) (drop-drop (8 * size) 8 rest) in
    sym (take-append-drop 8 rest) ∙ ap (λ (l : List ℕ). l ++ drop 8 rest) (sym first) ∙ ap (λ (l : List ℕ). eight_bytes k ++ l) behind ∙ sym (append_assoc (eight_bytes k) (flat_map eight_bytes words) (drop (8 + 8 * size) rest))

pub page_read : (size k : ℕ) (rest words : List ℕ) (to : ℕ) (old new : List Entry) → 8 + 8 * size ≤ length rest → AreBytes rest → big_number 8 rest ≡ k → take (8 * size) (drop 8 rest) ≡ flat_map eight_bytes words → length words ≡ size → IsGathered (k * size) words 0 to old new → to ≡ length words → IsPage size k rest old new
page_read size k rest words to old new long are number same all gathered ends =
    let is = gathered.1 in
    let none : drop to words ≡ [] = drop_all to words (omega (arith, ends)) in
    let whole : words ≡ laid is.pieces = is.there ∙ ap (λ (l : List ℕ). laid is.pieces ++ l) none ∙ append-nil (laid is.pieces) in (
      is.pieces,
      is.fine,
      sym (ap length whole) ∙ all,
      page_there size k rest words long are number same ∙ ap (λ (l : List ℕ). image k l ++ drop (8 + 8 * size) rest) whole,
      gathered.2 ∙ ap (λ (l : List (ℕ × List ℕ)). rows_of old ++ l) (is.are ∙ ap (λ (n : ℕ). live_from n is.pieces) (omega arith)),
    )

-- what was read of a file's bytes: so many pages, and the live records in them
abbrev pub AreRead : ℕ → List ℕ → List ℕ → ℕ → List Entry → Type 0
AreRead size bytes rest k found = (pages : List (List Piece)) × ArePages size pages × (bytes ≡ images_from 0 pages ++ rest)
    × (length pages ≡ k) × (rows_of found ≡ live_in size 0 pages)

pub read_more : (size k : ℕ) (bytes rest : List ℕ) (old new : List Entry) → AreRead size bytes rest k old → IsPage size k rest old new → AreRead size bytes (drop (8 + 8 * size) rest) (k + 1) new
read_more size k bytes rest old new before page =
    let ps = before.0 in let p = page.0 in (
      ps ++ p ∷ [],
      pages_more size ps p before.1 page.1 page.2,
      before.2 ∙ ap (λ (l : List ℕ). images_from 0 ps ++ l) (page.3 ∙ ap (λ (n : ℕ). image n (laid p) ++ drop (8 + 8 * size) rest) number) ∙ images_more 0 ps p (drop (8 + 8 * size) rest),
      length_push ps p ∙ ap (λ (n : ℕ). n + 1) before.3,
      page.4 ∙ ap (λ (l : List (ℕ × List ℕ)). l ++ live_from (k * size) p) before.4 ∙ ap (λ (n : ℕ). live_in size 0 ps ++ live_from (n * size) p) number ∙ sym (live_in_more size 0 ps p),
    )
  where
    number : k ≡ 0 + length before.0
    number = omega (arith, before.3)

pub read_long : (size k : ℕ) (pages : List (List Piece)) → ArePages size pages → length (images_from k pages) ≡ length pages * (8 + 8 * size)
read_long size k [] are = omega arith
read_long size k (p ∷ ps) are = omega (arith, length-append (image k (laid p)) (images_from (k + 1) ps), image_long k (laid p), are.0.1, read_long size (k + 1) ps are.1)

pub room_for : (size k : ℕ) (bytes rest : List ℕ) (found : List Entry) → AreRead size bytes rest k found → length bytes ≡ k * (8 + 8 * size) + length rest
room_for size k bytes rest found before =
    ap length before.2 ∙ length-append (images_from 0 before.0) rest ∙ ap (λ (n : ℕ). n + length rest) (read_long size 0 before.0 before.1 ∙ ap (λ (n : ℕ). n * (8 + 8 * size)) before.3)

pub read_all : (size k : ℕ) (bytes rest : List ℕ) (found : List Entry) → AreRead size bytes rest k found → rest ≡ [] → (pages : List (List Piece)) → ArePages size pages → bytes ≡ images_from 0 pages → rows_of found ≡ live_in size 0 pages
read_all size k bytes rest found before none pages are is =
    let same = same_pages size 0 before.0 pages before.1 are (sym (append-nil (images_from 0 before.0)) ∙ ap (λ (l : List ℕ). images_from 0 before.0 ++ l) (sym none) ∙ sym before.2 ∙ is) in
    before.4 ∙ ap (live_in size 0) same

pub only_memory : (size : ℕ) (bytes : List ℕ) (e : Unreadable) → length bytes < 2 ^ 64 → IsUnreadable size bytes e → (pages : List (List Piece)) → ArePages size pages → bytes ≡ images_from 0 pages → e ≡ OutOfMemory
only_memory size bytes OutOfMemory small is pages are same = refl
only_memory size bytes (Page k bad) small is pages are same =
    let long : length (is.0) * (8 + 8 * size) ≤ length bytes = omega (arith, ap length is.4, length-append (images_from 0 is.0) is.1, read_long size 0 is.0 is.2) in
    absurd (none_is_refused size 0 pages is.0 is.1 bad are is.2 (sym same ∙ is.4) is.5 (omega (arith, long, small)) (subst (λ (n : ℕ). IsBadPage size n is.1 bad) (omega (arith, is.3)) is.6))

-- a page that is refused behind them
pub unreadable : (size k : ℕ) (bytes rest : List ℕ) (found : List Entry) (e : Unreadable) → AreRead size bytes rest k found → 0 < length rest → IsRefusedPage size k rest e → IsUnreadable size bytes e
unreadable size k bytes rest found OutOfMemory before some is = tt
unreadable size k bytes rest found (Page n bad) before some is =
    (before.0, rest, before.1, before.3 ∙ sym is.0, before.2, some, subst (λ (m : ℕ). IsBadPage size m rest bad) (sym is.0) is.1)
