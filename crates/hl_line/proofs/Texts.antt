-- How long a word with numbers is, and that no LF stands in it.
use Rattle.std.proofs.Common.{◌≡◌, ℕ, ◌+◌, ◌++◌, ◌∙◌, ◌^◌, ◌<◌, ◌≤◌, ◌≢◌, ◌==◌, Bool, true, false, not, List, [], ◌∷◌, length, codes, decimal, ap, arith, lit<, length-append, refl}
use Rattle.std.specs.List.{All, flat_map, list_all}
use Rattle.std.proofs.lemmas.Bool.{and_parts, not-true, eqb-false}
use Rattle.std.proofs.lemmas.Fmt.{length-decimal-le, decimal_by_steps}
use Rattle.std.proofs.lemmas.List.{append-nil}
use Rattle.std.specs.Str.{IsUtf8, is_utf8}
use Rattle.std.proofs.lemmas.Str.{IsUtf8-append, IsUtf8-from_is_utf8, is_utf8-from_IsUtf8}
use Rattle.std.proofs.lemmas.List.Elements.{All-nil, All-cons, All-append, All-push, All-head, All-tail}
use Rattle.hl_model.specs.Sizes.{Sizes, AreInRange}
use Rattle.hl_model.specs.declared.step.Step.{Step}
use Rattle.hl_model.specs.declared.step.Step.TheVariants.{Acquire, Refresh, Release, Bump, Settle, Close, Bare, Take, Done, Raise, Shift, Allocate, Look, Write, Read, FlushTake, FlushDone, CleanTake, CleanDone}
use Rattle.hl_line.specs.declared.line.Line.{Line}
use Rattle.hl_line.specs.declared.line.Line.TheVariants.{Config, Step as Makes, Status, Pending, Frames}
use Rattle.hl_line.specs.Lines.{spaced, worded, ending, step_spelling, spelling, StepFits, Fits}

-- a number of 64 bits has at most 20 digits
pub decimal_short : (n : ℕ) → n < 2 ^ 64 → length (decimal n) ≤ 20
decimal_short n h = length-decimal-le 20 n (lit< tt) (omega arith) h

-- a word without numbers is the word
pub worded_alone : (word : List ℕ) → worded word [] ≡ word
unfolding worded
worded_alone word = append-nil word

-- a word alone
pub word_length : (word : List ℕ) → length (worded word []) ≡ length word
unfolding worded
word_length word = ap length (append-nil word)

-- a word and a number
pub number_length : (word : List ℕ) (n : ℕ) → n < 2 ^ 64 → length (worded word (n ∷ [])) ≤ length word + 21
unfolding worded
number_length word n h =
    let d = decimal_short n h in
    omega (arith, length-append word (flat_map spaced (n ∷ [])), length-append (decimal n) [])

-- a word and two numbers
pub pair_length : (word : List ℕ) (a b : ℕ) → a < 2 ^ 64 → b < 2 ^ 64 → length (worded word (a ∷ b ∷ [])) ≤ length word + 42
unfolding worded
pair_length word a b ha hb =
    let da = decimal_short a ha in
    let db = decimal_short b hb in
    omega (arith, length-append word (flat_map spaced (a ∷ b ∷ [])), length-append (decimal a) (flat_map spaced (b ∷ [])), length-append (decimal b) [])

-- a word and three numbers
pub triple_length : (word : List ℕ) (a b c : ℕ) → a < 2 ^ 64 → b < 2 ^ 64 → c < 2 ^ 64 → length (worded word (a ∷ b ∷ c ∷ [])) ≤ length word + 63
unfolding worded
triple_length word a b c ha hb hc =
    let da = decimal_short a ha in
    let db = decimal_short b hb in
    let dc = decimal_short c hc in
    omega (arith, length-append word (flat_map spaced (a ∷ b ∷ c ∷ [])), length-append (decimal a) (flat_map spaced (b ∷ c ∷ [])), length-append (decimal b) (flat_map spaced (c ∷ [])), length-append (decimal c) [])

-- the sizes of a `config`: at most seven digits, five, four and four
pub config_length : (word : List ℕ) (s : Sizes) → AreInRange s → length (worded word (s.page_size ∷ s.frames ∷ s.slots ∷ s.drain ∷ [])) ≤ length word + 24
unfolding worded
config_length word s h =
    let dp = length-decimal-le 7 s.page_size (lit< tt) (omega arith) (omega arith) in
    let df = length-decimal-le 5 s.frames (lit< tt) (omega arith) (omega arith) in
    let ds = length-decimal-le 4 s.slots (lit< tt) (omega arith) (omega arith) in
    let dd = length-decimal-le 4 s.drain (lit< tt) (omega arith) (omega arith) in
    omega (arith, length-append word (flat_map spaced (s.page_size ∷ s.frames ∷ s.slots ∷ s.drain ∷ [])), length-append (decimal s.page_size) (flat_map spaced (s.frames ∷ s.slots ∷ s.drain ∷ [])), length-append (decimal s.frames) (flat_map spaced (s.slots ∷ s.drain ∷ [])), length-append (decimal s.slots) (flat_map spaced (s.drain ∷ [])), length-append (decimal s.drain) [])

-- the end of a flush is short
ending_short : (ok : Bool) → length (ending ok) ≤ 7
ending_short true = omega arith
ending_short false = omega arith

-- a step's line has at most 80 bytes
step_short : (s : Step) → StepFits s → length (step_spelling s) ≤ 80
step_short (Acquire t) h = omega (arith, number_length (codes "acquire") t h)
step_short (Refresh t) h = omega (arith, number_length (codes "refresh") t h)
step_short (Release t) h = omega (arith, number_length (codes "release") t h)
step_short (Bump tag) h = omega (arith, number_length (codes "bump") tag h)
step_short Settle h = omega (arith, word_length (codes "settle"))
step_short Close h = omega (arith, word_length (codes "close"))
step_short Bare h = omega (arith, word_length (codes "bare"))
step_short Take h = omega (arith, word_length (codes "take"))
step_short (Done ticket) h = omega (arith, number_length (codes "done") ticket h)
step_short (Raise x) h = omega (arith, number_length (codes "raise") x h)
step_short (Shift x) h = omega (arith, number_length (codes "shift") x h)
step_short (Allocate t n) h = omega (arith, pair_length (codes "alloc") t n h.0 h.1)
step_short (Look t read_only head) h = omega (arith, triple_length (codes "look") t read_only head h.0 h.1.0 h.1.1)
step_short (Write t a v) h = omega (arith, triple_length (codes "write") t a v h.0 h.1.0 h.1.1)
step_short (Read t a) h = omega (arith, pair_length (codes "read") t a h.0 h.1)
step_short FlushTake h = omega (arith, word_length (codes "flush take"))
step_short (FlushDone page ok) h =
    omega (arith, length-append (worded (codes "flush done") (page ∷ [])) (ending ok), number_length (codes "flush done") page h, ending_short ok)
step_short CleanTake h = omega (arith, word_length (codes "clean take"))
step_short (CleanDone page) h = omega (arith, number_length (codes "clean done") page h)

-- a spelling has at most 80 bytes
pub spelling_short : (l : Line) → Fits l → length (spelling l) ≤ 80
spelling_short (Config sizes) h = omega (arith, config_length (codes "config") sizes h.in_range)
spelling_short (Makes step) h = step_short step h
spelling_short Status h = omega (arith, word_length (codes "status"))
spelling_short Pending h = omega (arith, word_length (codes "pending"))
spelling_short Frames h = omega (arith, word_length (codes "frames"))

-- no byte of these is an LF
abbrev NoLineFeed : List ℕ → Type 0
NoLineFeed s = All (λ (b : ℕ). b ≢ 10) s

-- a number of 64 bits, for `All`
abbrev FitsWord : ℕ → Type 0
FitsWord n = n < 2 ^ 64

-- no byte of a word is an LF, by a test
abbrev is_free : List ℕ → Bool
is_free s = list_all (λ b. not (b == 10)) s

-- what passes the test has no LF
word_free : (word : List ℕ) → is_free word ≡ true → NoLineFeed word
word_free [] h = All-nil (λ (b : ℕ). b ≢ 10)
word_free (b ∷ bs) h =
    let both = and_parts (not (b == 10)) (is_free bs) h in
    All-cons (λ (b : ℕ). b ≢ 10) b bs (eqb-false b 10 (not-true (b == 10) both.0)) (word_free bs both.1)

-- no LF stands in a number
decimal_free : (n : ℕ) → n < 2 ^ 64 → NoLineFeed (decimal n)
decimal_free n h =
    decimal_by_steps (λ (n : ℕ) (ds : List ℕ). NoLineFeed ds)
    (λ n low. All-cons (λ (b : ℕ). b ≢ 10) (48 + n) [] (λ e. absurd (omega arith)) (All-nil (λ (b : ℕ). b ≢ 10)))
    (λ n ds high before. All-push (λ (b : ℕ). b ≢ 10) ds _ before (λ e. absurd (omega arith)))
    n h

-- nor in numbers after spaces
numbers_free : (numbers : List ℕ) → All FitsWord numbers → NoLineFeed (flat_map spaced numbers)
numbers_free [] h = All-nil (λ (b : ℕ). b ≢ 10)
numbers_free (n ∷ ns) h =
    All-append (λ (b : ℕ). b ≢ 10) (spaced n) (flat_map spaced ns)
    (All-cons (λ (b : ℕ). b ≢ 10) 32 (decimal n) (λ e. absurd (omega arith)) (decimal_free n (All-head FitsWord n ns h)))
    (numbers_free ns (All-tail FitsWord n ns h))

-- no LF stands in a word with numbers, where none stands in the word
worded_free : (word numbers : List ℕ) → is_free word ≡ true → All FitsWord numbers → NoLineFeed (worded word numbers)
unfolding worded
worded_free word numbers w h =
    All-append (λ (b : ℕ). b ≢ 10) word (flat_map spaced numbers) (word_free word w) (numbers_free numbers h)

-- a list of no numbers
none_fit : All FitsWord []
none_fit = All-nil FitsWord

-- a list of one number
one_fits : (n : ℕ) → n < 2 ^ 64 → All FitsWord (n ∷ [])
one_fits n h = All-cons FitsWord n [] h none_fit

-- one number more
more_fit : (n : ℕ) (ns : List ℕ) → n < 2 ^ 64 → All FitsWord ns → All FitsWord (n ∷ ns)
more_fit n ns h hs = All-cons FitsWord n ns h hs

-- a list of two numbers
two_fit : (a b : ℕ) → (a < 2 ^ 64) × (b < 2 ^ 64) → All FitsWord (a ∷ b ∷ [])
two_fit a b h = more_fit a (b ∷ []) h.0 (one_fits b h.1)

-- a list of three numbers
three_fit : (a b c : ℕ) → (a < 2 ^ 64) × ((b < 2 ^ 64) × (c < 2 ^ 64)) → All FitsWord (a ∷ b ∷ c ∷ [])
three_fit a b c h = more_fit a (b ∷ c ∷ []) h.0 (two_fit b c h.1)

-- no LF stands in the end of a flush
ending_free : (ok : Bool) → NoLineFeed (ending ok)
ending_free true = word_free (ending true) refl
ending_free false = word_free (ending false) refl

-- no LF stands in a step's line
step_free : (s : Step) → StepFits s → NoLineFeed (step_spelling s)
step_free (Acquire t) h = worded_free (codes "acquire") (t ∷ []) refl (one_fits t h)
step_free (Refresh t) h = worded_free (codes "refresh") (t ∷ []) refl (one_fits t h)
step_free (Release t) h = worded_free (codes "release") (t ∷ []) refl (one_fits t h)
step_free (Bump tag) h = worded_free (codes "bump") (tag ∷ []) refl (one_fits tag h)
step_free Settle h = worded_free (codes "settle") [] refl none_fit
step_free Close h = worded_free (codes "close") [] refl none_fit
step_free Bare h = worded_free (codes "bare") [] refl none_fit
step_free Take h = worded_free (codes "take") [] refl none_fit
step_free (Done ticket) h = worded_free (codes "done") (ticket ∷ []) refl (one_fits ticket h)
step_free (Raise x) h = worded_free (codes "raise") (x ∷ []) refl (one_fits x h)
step_free (Shift x) h = worded_free (codes "shift") (x ∷ []) refl (one_fits x h)
step_free (Allocate t n) h = worded_free (codes "alloc") (t ∷ n ∷ []) refl (two_fit t n h)
step_free (Look t read_only head) h = worded_free (codes "look") (t ∷ read_only ∷ head ∷ []) refl (three_fit t read_only head h)
step_free (Write t a v) h = worded_free (codes "write") (t ∷ a ∷ v ∷ []) refl (three_fit t a v h)
step_free (Read t a) h = worded_free (codes "read") (t ∷ a ∷ []) refl (two_fit t a h)
step_free FlushTake h = worded_free (codes "flush take") [] refl none_fit
step_free (FlushDone page ok) h =
    All-append (λ (b : ℕ). b ≢ 10) (worded (codes "flush done") (page ∷ [])) (ending ok) (worded_free (codes "flush done") (page ∷ []) refl (one_fits page h)) (ending_free ok)
step_free CleanTake h = worded_free (codes "clean take") [] refl none_fit
step_free (CleanDone page) h = worded_free (codes "clean done") (page ∷ []) refl (one_fits page h)

-- no LF stands in a config's line
config_free : (s : Sizes) → AreInRange s → NoLineFeed (worded (codes "config") (s.page_size ∷ s.frames ∷ s.slots ∷ s.drain ∷ []))
config_free s h =
    let drain = one_fits s.drain (omega arith) in
    let slots = more_fit s.slots (s.drain ∷ []) (omega arith) drain in
    let frames = more_fit s.frames (s.slots ∷ s.drain ∷ []) (omega arith) slots in
    worded_free (codes "config") (s.page_size ∷ s.frames ∷ s.slots ∷ s.drain ∷ []) refl (more_fit s.page_size (s.frames ∷ s.slots ∷ s.drain ∷ []) (omega arith) frames)

-- no byte of a spelling is an LF
pub spelling_free : (l : Line) → Fits l → All (λ b. b ≢ 10) (spelling l)
spelling_free (Config sizes) h = config_free sizes h.in_range
spelling_free (Makes step) h = step_free step h
spelling_free Status h = worded_free (codes "status") [] refl none_fit
spelling_free Pending h = worded_free (codes "pending") [] refl none_fit
spelling_free Frames h = worded_free (codes "frames") [] refl none_fit

-- text before text is text
pub text_before : (word rest all : List ℕ) → all ≡ word ++ rest → IsUtf8 word → is_utf8 rest ≡ true → is_utf8 all ≡ true
text_before word rest all joined first others =
    ap is_utf8 joined ∙ is_utf8-from_IsUtf8 (word ++ rest) (IsUtf8-append word rest first (IsUtf8-from_is_utf8 rest others))
