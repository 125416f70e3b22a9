-- A word of a page is read back out of its image.
use Rattle.std.proofs.Common.{◌≡◌, ℕ, zero, suc, ◌+◌, ◌*◌, ◌/◌, ◌%◌, ◌^◌, ◌<◌, ◌≤◌, ◌⊎◌, Bool, true, List, [], ◌∷◌, ◌++◌, map, length, refl, ap, sym, ◌∙◌, inl, inr, arith}
use Rattle.std.specs.Prelude.{Some, None, nat_le, if◌then◌else◌, slice_get, drop}
use Rattle.std.specs.List.{flat_map, range_with_len}
use Rattle.std.proofs.Math.Nat.{div-add-mod, mod-lt}
use Rattle.std.proofs.lemmas.Bool.{le-leb}
use Rattle.std.proofs.lemmas.Nat.{from_be_bytes-to_be_bytes_8}
use Rattle.byteorder.specs.Endian.{big_number}
use Rattle.hl_model.specs.Sizes.{Sizes}
use Rattle.hl_keeper.specs.Endings.{EndingState}
use Rattle.hl_image.specs.Image.{eight_bytes, image}
use Rattle.hl_image.specs.Pages.{image_at}
use Rattle.hl_traces.specs.OneTrace.{ActBy, left_at, page_left}
use Rattle.hl.specs.declared.memory.MemoryDevice.{MemoryDevice}
use Rattle.hl.specs.Devices.{on_memory, Differs}
use Rattle.hl.specs.Left.{word_in, IsLeft}
use Rattle.hl.specs.Threads.{HoldsTrace}

-- a number's eight bytes, whatever stands behind them, are read as the number
read_back : (x : ℕ) (rest : List ℕ) → x < 2 ^ 64 → big_number 8 (eight_bytes x ++ rest) ≡ x
read_back x rest fits = omega (arith, from_be_bytes-to_be_bytes_8 x fits)

bytes_long : (words : List ℕ) → length (flat_map eight_bytes words) ≡ 8 * length words
bytes_long [] = refl
bytes_long (w ∷ words) = omega (arith, bytes_long words)

behind_one : (n x : ℕ) (rest : List ℕ) → drop (8 + n) (eight_bytes x ++ rest) ≡ drop n rest
behind_one n x rest =
    let more : 8 + n ≡ suc (suc (suc (suc (suc (suc (suc (suc n))))))) = omega arith in
    ap (λ (k : ℕ). drop k (eight_bytes x ++ rest)) more

-- what stands at a word's place, and how much
at_word : (words : List ℕ) (k w : ℕ) → slice_get words k ≡ Some w → w < 2 ^ 64 → (big_number 8 (drop (8 * k) (flat_map eight_bytes words)) ≡ w) × (8 + 8 * k ≤ 8 * length words)
at_word [] k w there fits = absurd (cc there)
at_word (x ∷ words) zero w there fits =
    let same : x ≡ w = cc there in
    (read_back x (flat_map eight_bytes words) (omega (arith, same, fits)) ∙ same, omega arith)
at_word (x ∷ words) (suc k) w there fits =
    let rest = at_word words k w there fits in
    let next : 8 * suc k ≡ 8 + 8 * k = omega arith in (
      ap (λ n. big_number 8 (drop n (eight_bytes x ++ flat_map eight_bytes words))) next ∙ ap (big_number 8) (behind_one (8 * k) x (flat_map eight_bytes words)) ∙ rest.0,
      omega (arith, rest.1),
    )

-- a word of a page is the one in its image
word_read : (page : ℕ) (words : List ℕ) (k w : ℕ) → slice_get words k ≡ Some w → w < 2 ^ 64 → word_in k (image page words) ≡ Some w
word_read page words k w there fits =
    let at = at_word words k w there fits in
    let long : length (image page words) ≡ 8 + length (flat_map eight_bytes words) = omega arith in
    let room : nat_le (16 + 8 * k) (length (image page words)) ≡ true = le-leb (16 + 8 * k) (length (image page words)) (omega (arith, at.1, long, bytes_long words)) in
    ap (λ (t : Bool). if t then Some (big_number 8 (drop (8 + 8 * k) (image page words))) else None) room
    ∙ ap (λ x. Some (big_number 8 x)) (behind_one (8 * k) page (flat_map eight_bytes words))
    ∙ ap (λ (x : ℕ). Some x) at.0

-- an element of a row that a function gives
given_at : (f : ℕ → ℕ) (a n k : ℕ) → k < n → slice_get (map f (range_with_len a n)) k ≡ Some (f (a + k))
given_at f a zero k less = absurd (omega (arith, less))
given_at f a (suc n) zero less = ap (λ x. Some (f x)) (omega arith)
given_at f a (suc n) (suc k) less = given_at f (a + 1) n k (omega (arith, less)) ∙ ap (λ x. Some (f x)) (omega arith)

-- an address is the first of its page and its place there
pub parts_of : (sizes : Sizes) (a : ℕ) → a / sizes.page_size * sizes.page_size + a % sizes.page_size ≡ a
parts_of sizes a =
    let swap : sizes.page_size * (a / sizes.page_size) ≡ a / sizes.page_size * sizes.page_size = omega arith in
    omega (arith, swap, div-add-mod a sizes.page_size)

-- What is read of a closed address from the device's image of its page
module _ {F : Type 0} (sizes : Sizes) (device : MemoryDevice) (ending : EndingState F) (a : ℕ) (some : 0 < sizes.page_size) (closed : a < ending.snapshot.six.closed) where
  on_device : (all : List ActBy) → HoldsTrace sizes (on_memory device) ending all → on_memory device (a / sizes.page_size) (image (a / sizes.page_size) (page_left sizes (a / sizes.page_size) all))
  on_device all holds = holds.pages (a / sizes.page_size) (omega (arith, parts_of sizes a, closed, holds.kept))

  -- if there is one image
  pub closed_left : (bytes : List ℕ) → ((all : List ℕ) → on_memory device (a / sizes.page_size) all → bytes ≡ all) → IsLeft sizes device ending a (word_in (a % sizes.page_size) bytes)
  closed_left bytes same all holds fits below =
      let page = a / sizes.page_size in
      let place = a % sizes.page_size in
      let there : slice_get (page_left sizes page all) place ≡ Some (left_at a all) = given_at (λ b. left_at b all) (page * sizes.page_size) sizes.page_size place (mod-lt a some) ∙ ap (λ b. Some (left_at b all)) (parts_of sizes a) in
      inl (ap (word_in place) (same (image page (page_left sizes page all)) (on_device all holds)) ∙ word_read page (page_left sizes page all) place (left_at a all) there fits)

  -- if none was told
  pub none_left : ((image_at (a / sizes.page_size) device.first ≡ None) × (image_at (a / sizes.page_size) device.second ≡ None)) ⊎ Differs device (a / sizes.page_size) → IsLeft sizes device ending a None
  none_left (inl none) all holds fits below = absurd (by (on_device all holds))
    where
      by : on_memory device (a / sizes.page_size) (image (a / sizes.page_size) (page_left sizes (a / sizes.page_size) all)) → ⊥
      by (inl first) = let contrary : None ≡ Some (image (a / sizes.page_size) (page_left sizes (a / sizes.page_size) all)) = sym none.0 ∙ first in absurd (cc contrary)
      by (inr second) = let contrary : None ≡ Some (image (a / sizes.page_size) (page_left sizes (a / sizes.page_size) all)) = sym none.1 ∙ second in absurd (cc contrary)
  none_left (inr differs) all holds fits below = inr (refl, differs)
