-- What the cells hold, with one step more.
use Rattle.std.proofs.Common.{◌≡◌, ◌≢◌, ℕ, ◌+◌, ◌-◌, ◌*◌, ◌/◌, ◌%◌, ◌<◌, ◌≤◌, ◌⊎◌, inl, inr, Bool, true, false, cond, List, [], ◌∷◌, ◌++◌, length, get_or, set, take, drop, replicate, refl, sym, ap, ap₂, ◌∙◌, arith}
use Rattle.std.specs.Prelude.{Option, Some, None}
use Rattle.std.proofs.Math.Nat.{mul-le-mul_right}
use Rattle.std.proofs.lemmas.Nat.{mod_below, div-add-mod', div-mul-add, mod-mul-add}
use Rattle.std.proofs.lemmas.Bool.{ltb-false, cases_lt}
use Rattle.std.proofs.lemmas.List.{same_lists, length-append, length-take, length-drop, length-replicate, get_or_append_left, get_or-append_right, get_or-take, get_or-drop, get_or-replicate}
use Rattle.std.proofs.lemmas.List.FromFn.{length-map-range_with_len}
use Rattle.hl_model.specs.declared.step.Step.{Step}
use Rattle.hl_model.specs.declared.step.Step.TheVariants.{Allocate, Write, Read, CleanDone}
use Rattle.hl_model.specs.Sizes.{Sizes}
use Rattle.hl_model.specs.Offsets.{tail, tail_past, is_entered}
use Rattle.hl_model.specs.Pages.{is_freed, frees}
use Rattle.hl_model.specs.Words.{written_at, word, page_words}
use Rattle.hl_model.specs.Replies.{fault_of, IsAccepted}
use Rattle.hl_laws.proofs.FrameLaws.{last_entered-stay}
use Rattle.hl_laws.proofs.RowLaws.{row_at, rows_set}
use Rattle.hl_laws.proofs.WordLaws.{word-nil, word-stay, word-write, word-elsewhere, word-fresh, page_words-is}
use Rattle.hl_cells.specs.CellWords.{shown_page, word_of_page, cell_word, cell_words, cell_at}
use Rattle.hl_cells.proofs.ShownPages.{Enters, unless_freed, shown-is, shown-same, shown-frame, shown-allocate, shown-written, shown-read, shown-cleaned, shown-elsewhere}

-- there are F * P cells
pub length-cell_words : (sizes : Sizes) (A : List Step) → length (cell_words sizes A) ≡ sizes.frames * sizes.page_size
unfolding cell_words
length-cell_words sizes A = length-map-range_with_len (cell_word sizes A) 0 (sizes.frames * sizes.page_size)

-- the k-th cell
pub cell_words-at : (sizes : Sizes) (A : List Step) (k d : ℕ) → k < sizes.frames * sizes.page_size → get_or (cell_words sizes A) k d ≡ cell_word sizes A k
unfolding cell_words
cell_words-at sizes A k d within = row_at (cell_word sizes A) (sizes.frames * sizes.page_size) k d within

-- as many words, each as its cell
pub cell_words-is : (sizes : Sizes) (A : List Step) (ws : List ℕ) → length ws ≡ sizes.frames * sizes.page_size → ((k d : ℕ) → k < sizes.frames * sizes.page_size → get_or ws k d ≡ cell_word sizes A k) → ws ≡ cell_words sizes A
cell_words-is sizes A ws len h = same_lists ws (cell_words sizes A) (len ∙ sym (length-cell_words sizes A))
    (λ k d lt. let here : k < sizes.frames * sizes.page_size = omega (arith, len, lt) in h k d here ∙ sym (cell_words-at sizes A k d here))

-- cells that hold the same
cell_words-same : (sizes : Sizes) (A B : List Step) → ((k : ℕ) → k < sizes.frames * sizes.page_size → cell_word sizes B k ≡ cell_word sizes A k) → cell_words sizes B ≡ cell_words sizes A
cell_words-same sizes A B h = sym (cell_words-is sizes B (cell_words sizes A) (length-cell_words sizes A) (λ k d within. cell_words-at sizes A k d within ∙ sym (h k within)))

-- the frame of a cell
frame_within : (frames page_size k : ℕ) → k < frames * page_size → k / page_size < frames
frame_within frames page_size k within = by_order (cases_lt (k / page_size) frames)
  where
    by_order : (k / page_size < frames) ⊎ (frames ≤ k / page_size) → k / page_size < frames
    by_order (inl below) = below
    by_order (inr above) =
        let more : frames * page_size ≤ k / page_size * page_size = mul-le-mul_right page_size above in
        absurd (omega (arith, more, div-add-mod' k page_size, within))

-- a step that writes nothing leaves the words of each page
word_of_page-stay : (sizes : Sizes) (A : List Step) (s : Step) (k : ℕ) (o : Option ℕ) → ((a : ℕ) → written_at a s ≡ None) → word_of_page sizes (A ++ s ∷ []) k o ≡ word_of_page sizes A k o
word_of_page-stay sizes A s k None h = refl
word_of_page-stay sizes A s k (Some p) h = word-stay (p * sizes.page_size + k) A s (h (p * sizes.page_size + k))

-- a cell whose frame shows the same
cell_word-same : (sizes : Sizes) (A : List Step) (s : Step) (c : ℕ) → ((a : ℕ) → written_at a s ≡ None) → shown_page sizes (c / sizes.page_size) (A ++ s ∷ []) ≡ shown_page sizes (c / sizes.page_size) A → cell_word sizes (A ++ s ∷ []) c ≡ cell_word sizes A c
unfolding cell_word
cell_word-same sizes A s c h e = word_of_page-stay sizes A s (c % sizes.page_size) (shown_page sizes (c / sizes.page_size) (A ++ s ∷ [])) h ∙ ap (word_of_page sizes A (c % sizes.page_size)) e

-- a cell whose frame shows this page, or none
pub cell_word-of : (sizes : Sizes) (A : List Step) (c : ℕ) (o : Option ℕ) → shown_page sizes (c / sizes.page_size) A ≡ o → cell_word sizes A c ≡ word_of_page sizes A (c % sizes.page_size) o
unfolding cell_word
cell_word-of sizes A c o e = ap (word_of_page sizes A (c % sizes.page_size)) e

-- a step that neither enters, writes nor frees leaves all cells
pub cells-quiet : (sizes : Sizes) (A : List Step) (s : Step) → tail_past sizes.page_size (tail sizes A) s ≡ tail sizes A → ((p : ℕ) → frees p s ≡ false) → ((a : ℕ) → written_at a s ≡ None) → cell_words sizes (A ++ s ∷ []) ≡ cell_words sizes A
cells-quiet sizes A s quiet frees_none writes_none = cell_words-same sizes A (A ++ s ∷ [])
    (λ c within. cell_word-same sizes A s c writes_none (shown-same sizes (c / sizes.page_size) A s (last_entered-stay sizes (c / sizes.page_size) A s quiet) (λ p e. frees_none p)))

-- the words of a page that isn't entered are 0
fresh : (sizes : Sizes) (A : List Step) (p k : ℕ) → 0 < sizes.page_size → IsAccepted sizes A → is_entered sizes p A ≡ false → word (p * sizes.page_size + k) A ≡ 0
fresh sizes A p k page_size acc new = word-fresh sizes (p * sizes.page_size + k) page_size A acc (omega (arith, ltb-false (p * sizes.page_size) (tail sizes A) new))

-- a page that was just entered shows 0, as its free frame did
entered_zero : (sizes : Sizes) (A : List Step) (t n k : ℕ) (f : ℕ) → 0 < sizes.page_size → IsAccepted sizes A → Enters sizes f A (Allocate t n) → word_of_page sizes (A ++ Allocate t n ∷ []) k (shown_page sizes f (A ++ Allocate t n ∷ [])) ≡ 0
entered_zero sizes A t n k f page_size acc new =
    ap (word_of_page sizes B k) (shown-is sizes f B ∙ ap (unless_freed sizes B) new.after) ∙ by_freed (is_freed sizes new.page B)
  where
    B : List Step
    B = A ++ Allocate t n ∷ []

    by_freed : (b : Bool) → word_of_page sizes B k (cond b None (Some new.page)) ≡ 0
    by_freed true = refl
    by_freed false = word-stay (new.page * sizes.page_size + k) A (Allocate t n) refl ∙ fresh sizes A new.page k page_size acc new.unentered

-- an allocation leaves all cells: a page that it enters was never written, and its frame was free
pub cells-allocate : (sizes : Sizes) (A : List Step) (t n : ℕ) → 0 < sizes.page_size → 0 < sizes.frames → IsAccepted sizes A → fault_of sizes A (Allocate t n) ≡ None → cell_words sizes (A ++ Allocate t n ∷ []) ≡ cell_words sizes A
cells-allocate sizes A t n page_size frames acc free = cell_words-same sizes A (A ++ Allocate t n ∷ []) (λ c within. by_frame c (shown-allocate sizes (c / sizes.page_size) A t n page_size frames (frame_within sizes.frames sizes.page_size c within) free))
  where
    by_frame : (c : ℕ) → (shown_page sizes (c / sizes.page_size) (A ++ Allocate t n ∷ []) ≡ shown_page sizes (c / sizes.page_size) A) ⊎ Enters sizes (c / sizes.page_size) A (Allocate t n) → cell_word sizes (A ++ Allocate t n ∷ []) c ≡ cell_word sizes A c
    by_frame c (inl same) = cell_word-same sizes A (Allocate t n) c (λ a. refl) same
    by_frame c (inr new) =
        cell_word-of sizes (A ++ Allocate t n ∷ []) c (shown_page sizes (c / sizes.page_size) (A ++ Allocate t n ∷ [])) refl
        ∙ entered_zero sizes A t n (c % sizes.page_size) (c / sizes.page_size) page_size acc new
        ∙ sym (cell_word-of sizes A c None new.before)

-- the cell of an address lies in the frame of its page
cell_frame : (sizes : Sizes) (a : ℕ) → 0 < sizes.page_size → (cell_at sizes a / sizes.page_size ≡ a / sizes.page_size % sizes.frames) × (cell_at sizes a % sizes.page_size ≡ a % sizes.page_size)
cell_frame sizes a page_size =
    let within : a % sizes.page_size < sizes.page_size = mod_below a sizes.page_size page_size in
    (div-mul-add (a / sizes.page_size % sizes.frames) sizes.page_size (a % sizes.page_size) within, mod-mul-add (a / sizes.page_size % sizes.frames) sizes.page_size (a % sizes.page_size) within)

-- the cell of an address on a page that its frame shows holds its word
cell_word-shown : (sizes : Sizes) (A : List Step) (a : ℕ) → 0 < sizes.page_size → shown_page sizes (a / sizes.page_size % sizes.frames) A ≡ Some (a / sizes.page_size) → cell_word sizes A (cell_at sizes a) ≡ word a A
cell_word-shown sizes A a page_size shown =
    let at = cell_frame sizes a page_size in
    cell_word-of sizes A (cell_at sizes a) (Some (a / sizes.page_size)) (ap (λ f. shown_page sizes f A) at.0 ∙ shown)
    ∙ ap (λ k. word (a / sizes.page_size * sizes.page_size + k) A) at.1
    ∙ ap (λ b. word b A) (div-add-mod' a sizes.page_size)

-- what is read is the word
pub cells-read : (sizes : Sizes) (A : List Step) (t a : ℕ) → 0 < sizes.page_size → 0 < sizes.frames → IsAccepted sizes A → fault_of sizes A (Read t a) ≡ None → cell_word sizes A (cell_at sizes a) ≡ word a A
cells-read sizes A t a page_size frames acc free = cell_word-shown sizes A a page_size (shown-read sizes A t a page_size frames acc free)

-- a write sets the cell of its address alone
pub cells-write : (sizes : Sizes) (A : List Step) (t a v : ℕ) → 0 < sizes.page_size → 0 < sizes.frames → IsAccepted sizes A → fault_of sizes A (Write t a v) ≡ None → cell_words sizes (A ++ Write t a v ∷ []) ≡ set (cell_words sizes A) (cell_at sizes a) v
unfolding cell_words
cells-write sizes A t a v page_size frames acc free =
    rows_set (cell_word sizes B) (cell_word sizes A) (sizes.frames * sizes.page_size) (cell_at sizes a) v
    (cell_word-shown sizes B a page_size (shown_stays (a / sizes.page_size % sizes.frames) ∙ shown-written sizes A t a v page_size frames acc free) ∙ word-write a A t v)
    (λ c other. cell_word-of sizes B c (shown_page sizes (c / sizes.page_size) A) (shown_stays (c / sizes.page_size)) ∙ by_shown c other (shown_page sizes (c / sizes.page_size) A) refl ∙ sym (cell_word-of sizes A c (shown_page sizes (c / sizes.page_size) A) refl))
  where
    B : List Step
    B = A ++ Write t a v ∷ []

    shown_stays : (f : ℕ) → shown_page sizes f B ≡ shown_page sizes f A
    shown_stays f = shown-same sizes f A (Write t a v) (last_entered-stay sizes f A (Write t a v) refl) (λ p e. refl)

    -- another cell is that of another address
    elsewhere : (c p : ℕ) → c ≢ cell_at sizes a → shown_page sizes (c / sizes.page_size) A ≡ Some p → a ≢ p * sizes.page_size + c % sizes.page_size
    elsewhere c p other e same =
        let within : c % sizes.page_size < sizes.page_size = mod_below c sizes.page_size page_size in
        let on_page : a / sizes.page_size ≡ p = ap (λ z. z / sizes.page_size) same ∙ div-mul-add p sizes.page_size (c % sizes.page_size) within in
        let at : a % sizes.page_size ≡ c % sizes.page_size = ap (λ z. z % sizes.page_size) same ∙ mod-mul-add p sizes.page_size (c % sizes.page_size) within in
        let in_frame : a / sizes.page_size % sizes.frames ≡ c / sizes.page_size = ap (λ z. z % sizes.frames) on_page ∙ shown-frame sizes (c / sizes.page_size) p A page_size frames e in
        other (sym (ap₂ (λ f k. f * sizes.page_size + k) in_frame at ∙ div-add-mod' c sizes.page_size))

    by_shown : (c : ℕ) → c ≢ cell_at sizes a → (o : Option ℕ) → shown_page sizes (c / sizes.page_size) A ≡ o → word_of_page sizes B (c % sizes.page_size) (shown_page sizes (c / sizes.page_size) A) ≡ word_of_page sizes A (c % sizes.page_size) (shown_page sizes (c / sizes.page_size) A)
    by_shown c other None e = ap (word_of_page sizes B (c % sizes.page_size)) e ∙ sym (ap (word_of_page sizes A (c % sizes.page_size)) e)
    by_shown c other (Some p) e =
        ap (word_of_page sizes B (c % sizes.page_size)) e
        ∙ word-elsewhere (p * sizes.page_size + c % sizes.page_size) A t a v (elsewhere c p other e)
        ∙ sym (ap (word_of_page sizes A (c % sizes.page_size)) e)

-- at first all cells are 0
pub cells-nil : (sizes : Sizes) → 0 < sizes.page_size → cell_words sizes [] ≡ replicate (sizes.frames * sizes.page_size) 0
cells-nil sizes page_size = sym (cell_words-is sizes [] (replicate (sizes.frames * sizes.page_size) 0) (length-replicate (sizes.frames * sizes.page_size) 0)
    (λ k d within. get_or-replicate (sizes.frames * sizes.page_size) k 0 d within ∙ sym (zero_at k (shown_page sizes (k / sizes.page_size) []) refl)))
  where
    zero_at : (k : ℕ) (o : Option ℕ) → shown_page sizes (k / sizes.page_size) [] ≡ o → cell_word sizes [] k ≡ 0
    zero_at k None e = cell_word-of sizes [] k None e
    zero_at k (Some p) e = cell_word-of sizes [] k (Some p) e ∙ word-nil (p * sizes.page_size + k % sizes.page_size)

-- the end of a frame's cells
pub frame_fits : (sizes : Sizes) (p : ℕ) → 0 < sizes.frames → p % sizes.frames * sizes.page_size + sizes.page_size ≤ sizes.frames * sizes.page_size
frame_fits sizes p frames =
    let below : p % sizes.frames < sizes.frames = mod_below p sizes.frames frames in
    let more : (p % sizes.frames + 1) * sizes.page_size ≤ sizes.frames * sizes.page_size = mul-le-mul_right sizes.page_size (omega (arith, below)) in
    let spread : (p % sizes.frames + 1) * sizes.page_size ≡ p % sizes.frames * sizes.page_size + sizes.page_size = omega arith in
    omega (arith, more, spread)

-- a part of a row that becomes 0: the k-th element
zeroed_at : (ws : List ℕ) (start len k d : ℕ) → start + len ≤ length ws → k < length ws → ((start ≤ k) × (k < start + len) × (get_or (take start ws ++ (replicate len 0 ++ drop (start + len) ws)) k d ≡ 0)) ⊎ (((k < start) ⊎ (start + len ≤ k)) × (get_or (take start ws ++ (replicate len 0 ++ drop (start + len) ws)) k d ≡ get_or ws k d))
zeroed_at ws start len k d fits within = by_start (cases_lt k start)
  where
    rest : List ℕ
    rest = replicate len 0 ++ drop (start + len) ws

    front : length (take start ws) ≡ start
    front = omega (arith, length-take start ws, fits)

    Zeroed : Type 0
    Zeroed = ((start ≤ k) × (k < start + len) × (get_or (take start ws ++ rest) k d ≡ 0)) ⊎ (((k < start) ⊎ (start + len ≤ k)) × (get_or (take start ws ++ rest) k d ≡ get_or ws k d))

    by_end : start ≤ k → (k < start + len) ⊎ (start + len ≤ k) → Zeroed
    by_end above (inl below) = inl (
      above,
      below,
      get_or-append_right (take start ws) rest start k d front above
          ∙ get_or_append_left (replicate len 0) (drop (start + len) ws) d (k - start) (omega (arith, length-replicate {A = ℕ} len 0, above, below))
          ∙ get_or-replicate len (k - start) 0 d (omega (arith, above, below)),
    )
    by_end above (inr past) = inr (
      inr past,
      get_or-append_right (take start ws) rest start k d front above
          ∙ get_or-append_right (replicate len 0) (drop (start + len) ws) len (k - start) d (length-replicate len 0) (omega (arith, above, past))
          ∙ get_or-drop (start + len) ws (k - start - len) d
          ∙ ap (λ i. get_or ws i d) (omega (arith, above, past)),
    )

    by_start : (k < start) ⊎ (start ≤ k) → Zeroed
    by_start (inl below) = inr (inl below, get_or_append_left (take start ws) rest d k (omega (arith, front, below)) ∙ get_or-take start ws k d below)
    by_start (inr above) = by_end above (cases_lt k (start + len))

-- a clean done zeroes the cells of its page's frame alone
pub cells-clean : (sizes : Sizes) (A : List Step) (p : ℕ) → 0 < sizes.page_size → 0 < sizes.frames → IsAccepted sizes A → fault_of sizes A (CleanDone p) ≡ None → take (p % sizes.frames * sizes.page_size) (cell_words sizes A) ++ (replicate sizes.page_size 0 ++ drop (p % sizes.frames * sizes.page_size + sizes.page_size) (cell_words sizes A)) ≡ cell_words sizes (A ++ CleanDone p ∷ [])
cells-clean sizes A p page_size frames acc free = cell_words-is sizes B ws zeroed_len at
  where
    B : List Step
    B = A ++ CleanDone p ∷ []

    start : ℕ
    start = p % sizes.frames * sizes.page_size

    ws : List ℕ
    ws = take start (cell_words sizes A) ++ (replicate sizes.page_size 0 ++ drop (start + sizes.page_size) (cell_words sizes A))

    len : length (cell_words sizes A) ≡ sizes.frames * sizes.page_size
    len = length-cell_words sizes A

    fits : start + sizes.page_size ≤ length (cell_words sizes A)
    fits = omega (arith, len, frame_fits sizes p frames)

    zeroed_len : length ws ≡ sizes.frames * sizes.page_size
    zeroed_len = omega (
      arith,
      len,
      fits,
      length-append (take start (cell_words sizes A)) (replicate sizes.page_size 0 ++ drop (start + sizes.page_size) (cell_words sizes A)),
      length-append (replicate sizes.page_size 0) (drop (start + sizes.page_size) (cell_words sizes A)),
      length-take start (cell_words sizes A),
      length-drop (start + sizes.page_size) (cell_words sizes A),
      length-replicate {A = ℕ} sizes.page_size 0,
    )

    in_frame : (k : ℕ) → start ≤ k → k < start + sizes.page_size → p % sizes.frames ≡ k / sizes.page_size
    in_frame k above below =
        let split : k ≡ start + (k - start) = omega (arith, above) in
        sym (ap (λ z. z / sizes.page_size) split ∙ div-mul-add (p % sizes.frames) sizes.page_size (k - start) (omega (arith, above, below)))

    outside : (k : ℕ) → (k < start) ⊎ (start + sizes.page_size ≤ k) → p % sizes.frames ≢ k / sizes.page_size
    outside k (inl below) e =
        let same : k / sizes.page_size * sizes.page_size ≡ start = ap (λ z. z * sizes.page_size) (sym e) in
        omega (arith, same, below, div-add-mod' k sizes.page_size)
    outside k (inr past) e =
        let same : k / sizes.page_size * sizes.page_size ≡ start = ap (λ z. z * sizes.page_size) (sym e) in
        let rest : k % sizes.page_size < sizes.page_size = mod_below k sizes.page_size page_size in
        omega (arith, same, past, rest, div-add-mod' k sizes.page_size)

    at : (k d : ℕ) → k < sizes.frames * sizes.page_size → get_or ws k d ≡ cell_word sizes B k
    at k d within = by_place (zeroed_at (cell_words sizes A) start sizes.page_size k d fits (omega (arith, len, within)))
      where
        by_place : ((start ≤ k) × (k < start + sizes.page_size) × (get_or ws k d ≡ 0)) ⊎ (((k < start) ⊎ (start + sizes.page_size ≤ k)) × (get_or ws k d ≡ get_or (cell_words sizes A) k d)) → get_or ws k d ≡ cell_word sizes B k
        by_place (inl zero_here) =
            zero_here.2 ∙ sym (cell_word-of sizes B k None (ap (λ f. shown_page sizes f B) (sym (in_frame k zero_here.0 zero_here.1)) ∙ shown-cleaned sizes A p page_size frames acc free))
        by_place (inr as_before) =
            as_before.1 ∙ cell_words-at sizes A k d within
            ∙ sym (cell_word-same sizes A (CleanDone p) k (λ a. refl) (shown-elsewhere sizes A p (k / sizes.page_size) page_size frames (outside k as_before.0)))

-- the cells of the frame of a page that it shows hold the page's words
pub cells-page : (sizes : Sizes) (A : List Step) (p : ℕ) → 0 < sizes.page_size → 0 < sizes.frames → shown_page sizes (p % sizes.frames) A ≡ Some p → page_words sizes p A ≡ take sizes.page_size (drop (p % sizes.frames * sizes.page_size) (cell_words sizes A))
cells-page sizes A p page_size frames shown = page_words-is sizes p A ws ws_len at
  where
    start : ℕ
    start = p % sizes.frames * sizes.page_size

    ws : List ℕ
    ws = take sizes.page_size (drop start (cell_words sizes A))

    fits : start + sizes.page_size ≤ length (cell_words sizes A)
    fits = omega (arith, length-cell_words sizes A, frame_fits sizes p frames)

    ws_len : length ws ≡ sizes.page_size
    ws_len = omega (arith, fits, length-take sizes.page_size (drop start (cell_words sizes A)), length-drop start (cell_words sizes A))

    at : (k d : ℕ) → k < sizes.page_size → word (p * sizes.page_size + k) A ≡ get_or ws k d
    at k d within =
        let shift : (start + k) / sizes.page_size ≡ p % sizes.frames = div-mul-add (p % sizes.frames) sizes.page_size k within in
        sym (get_or-take sizes.page_size (drop start (cell_words sizes A)) k d within
        ∙ get_or-drop start (cell_words sizes A) k d
        ∙ cell_words-at sizes A (start + k) d (omega (arith, within, frame_fits sizes p frames))
        ∙ cell_word-of sizes A (start + k) (Some p) (ap (λ f. shown_page sizes f A) shift ∙ shown)
        ∙ ap (λ j. word (p * sizes.page_size + j) A) (mod-mul-add (p % sizes.frames) sizes.page_size k within))
