-- Each line that fits is read from its spelling, and nothing else is.
use Rattle.std.proofs.Common.{◌≡◌, ℕ, ◌^◌, ◌<◌, true, false, cond, Option, Some, None, option_and_then, List, [], ◌∷◌, ◌++◌, length, codes, decimal, refl, ap, ◌∙◌, subst, arith, bytes_eq, IfSome}
use Rattle.std.proofs.lemmas.Bool.{cond-true}
use Rattle.std.proofs.lemmas.List.{append-nil}
use Rattle.std.proofs.lemmas.Slice.Eq.{bytes_eq-Decides}
use Rattle.hl_model.specs.Sizes.{Sizes, AreNarrow}
use Rattle.hl_model.specs.declared.step.Step.{Step}
use Rattle.hl_model.specs.declared.step.Step.TheVariants.{Acquire, Refresh, Release, Bump, Settle, Close, Bare, Take, Done, Raise, Shift, Allocate, Look, Write, Read, FlushTake, FlushDone, CleanTake, CleanDone}
use Rattle.hl_line.specs.declared.line.Line.{Line}
use Rattle.hl_line.specs.declared.line.Line.TheVariants.{Config, Step as Makes, Status, Pending, Frames}
use Rattle.hl_line.specs.Lines.{worded, step_spelling, spelling, StepFits, Fits}
use Rattle.hl_line.specs.Reading.{first_word, other_words, number_in, config_of, step_with, line_with, guess_of, line_of}
use Rattle.hl_line.proofs.Texts.{spelling_short}
use Rattle.hl_line.proofs.Words.{first_number, after_number, last_number, kept_if}
use Rattle.hl_line.proofs.Fitting.{config_of-narrow, guess_fits}

-- sizes that are equal, number by number
config_same : (a b c d : ℕ) (s : Sizes) → a ≡ s.page_size → b ≡ s.frames → c ≡ s.slots → d ≡ s.drain → config_of (record { page_size = a; frames = b; slots = c; drain = d }) ≡ config_of s
config_same a b c d s p f t e = rw (p, f, t, e) refl

-- the spelling of a config looks like this config
guess_of-config : (s : Sizes) → AreNarrow s → guess_of (spelling (Config s)) ≡ Some (Config s)
unfolding guess_of line_with worded
guess_of-config s h =
    let p : s.page_size < 2 ^ 64 = omega arith in
    let f : s.frames < 2 ^ 64 = omega arith in
    let t : s.slots < 2 ^ 64 = omega arith in
    let d : s.drain < 2 ^ 64 = omega arith in
    let rest3 = decimal s.drain ++ [] in
    let rest2 = decimal s.slots ++ (32 ∷ rest3) in
    let rest1 = decimal s.frames ++ (32 ∷ rest2) in
    let rest0 = decimal s.page_size ++ (32 ∷ rest1) in
    let e1 : other_words rest0 ≡ rest1 = after_number s.page_size rest1 p in
    let e2 : other_words (other_words rest0) ≡ rest2 = ap other_words e1 ∙ after_number s.frames rest2 f in
    let e3 : other_words (other_words (other_words rest0)) ≡ rest3 = ap other_words e2 ∙ after_number s.slots rest3 t in
    let n0 : number_in (first_word rest0) ≡ s.page_size = first_number s.page_size rest1 p in
    let n1 : number_in (first_word (other_words rest0)) ≡ s.frames = ap (λ r. number_in (first_word r)) e1 ∙ first_number s.frames rest2 f in
    let n2 : number_in (first_word (other_words (other_words rest0))) ≡ s.slots = ap (λ r. number_in (first_word r)) e2 ∙ first_number s.slots rest3 t in
    let n3 : number_in (first_word (other_words (other_words (other_words rest0)))) ≡ s.drain = ap (λ r. number_in (first_word r)) e3 ∙ last_number s.drain d in
    config_same _ _ _ _ s n0 n1 n2 n3 ∙ config_of-narrow s h

-- what is made of two numbers, one after the other
of_two : (make : ℕ → ℕ → Step) (a b : ℕ) → (a < 2 ^ 64) × (b < 2 ^ 64) → let rest = decimal a ++ (32 ∷ (decimal b ++ [])) in Some (Makes (make (number_in (first_word rest)) (number_in (first_word (other_words rest))))) ≡ Some (Makes (make a b))
of_two make a b h =
    let last = decimal b ++ [] in
    let rest = decimal a ++ (32 ∷ last) in
    let here : number_in (first_word rest) ≡ a = first_number a last h.0 in
    let next : number_in (first_word (other_words rest)) ≡ b = ap (λ r. number_in (first_word r)) (after_number a last h.0) ∙ last_number b h.1 in
    rw (here, next) refl

-- what is made of three
of_three : (make : ℕ → ℕ → ℕ → Step) (a b c : ℕ) → (a < 2 ^ 64) × ((b < 2 ^ 64) × (c < 2 ^ 64)) → let rest = decimal a ++ (32 ∷ (decimal b ++ (32 ∷ (decimal c ++ [])))) in Some (Makes (make (number_in (first_word rest)) (number_in (first_word (other_words rest))) (number_in (first_word (other_words (other_words rest)))))) ≡ Some (Makes (make a b c))
of_three make a b c h =
    let last = decimal c ++ [] in
    let next = decimal b ++ (32 ∷ last) in
    let rest = decimal a ++ (32 ∷ next) in
    let after : other_words rest ≡ next = after_number a next h.0 in
    let one : number_in (first_word rest) ≡ a = first_number a next h.0 in
    let two : number_in (first_word (other_words rest)) ≡ b = ap (λ r. number_in (first_word r)) after ∙ first_number b last h.1.0 in
    let three : number_in (first_word (other_words (other_words rest))) ≡ c = ap (λ r. number_in (first_word (other_words r))) after ∙ (ap (λ r. number_in (first_word r)) (after_number b last h.1.0) ∙ last_number c h.1.1) in
    rw (one, two, three) refl

-- the page of a flush that ended, and the word after it
of_flush : (page : ℕ) (last : List ℕ) → page < 2 ^ 64 → let rest = (decimal page ++ []) ++ (32 ∷ last) in Some (Makes (FlushDone (number_in (first_word rest)) (bytes_eq (first_word (other_words rest)) (codes "ok")))) ≡ Some (Makes (FlushDone page (bytes_eq (first_word last) (codes "ok"))))
of_flush page last h =
    let rest = decimal page ++ (32 ∷ last) in
    let plain : (decimal page ++ []) ++ (32 ∷ last) ≡ rest = ap (λ d. d ++ (32 ∷ last)) (append-nil (decimal page)) in
    let here : number_in (first_word rest) ≡ page = first_number page last h in
    let next : other_words rest ≡ last = after_number page last h in
    rw plain (rw (here, next) refl)

-- the spelling of a step's line looks like this line
guess_of-step : (s : Step) → StepFits s → guess_of (step_spelling s) ≡ Some (Makes s)
unfolding guess_of line_with step_with worded
guess_of-step (Acquire t) h = ap (λ n. Some (Makes (Acquire n))) (last_number t h)
guess_of-step (Refresh t) h = ap (λ n. Some (Makes (Refresh n))) (last_number t h)
guess_of-step (Release t) h = ap (λ n. Some (Makes (Release n))) (last_number t h)
guess_of-step (Bump tag) h = ap (λ n. Some (Makes (Bump n))) (last_number tag h)
guess_of-step Settle h = refl
guess_of-step Close h = refl
guess_of-step Bare h = refl
guess_of-step Take h = refl
guess_of-step (Done ticket) h = ap (λ n. Some (Makes (Done n))) (last_number ticket h)
guess_of-step (Raise x) h = ap (λ n. Some (Makes (Raise n))) (last_number x h)
guess_of-step (Shift x) h = ap (λ n. Some (Makes (Shift n))) (last_number x h)
guess_of-step (Allocate t n) h = of_two Allocate t n h
guess_of-step (Look t read_only head) h = of_three Look t read_only head h
guess_of-step (Write t a v) h = of_three Write t a v h
guess_of-step (Read t a) h = of_two Read t a h
guess_of-step FlushTake h = refl
guess_of-step (FlushDone page true) h = of_flush page (codes "ok") h
guess_of-step (FlushDone page false) h = of_flush page (codes "failed") h
guess_of-step CleanTake h = refl
guess_of-step (CleanDone page) h = ap (λ n. Some (Makes (CleanDone n))) (last_number page h)

-- the spelling of a line looks like this line
guess_of-spelling : (l : Line) → Fits l → guess_of (spelling l) ≡ Some l
unfolding guess_of line_with step_with worded
guess_of-spelling (Config sizes) h = guess_of-config sizes h
guess_of-spelling (Makes step) h = guess_of-step step h
guess_of-spelling Status h = refl
guess_of-spelling Pending h = refl
guess_of-spelling Frames h = refl

-- a guess that is kept fits, and is spelled so
found_in : (g : Option Line) (s : List ℕ) (l : Line) → IfSome g Fits → option_and_then (λ m. cond (bytes_eq (spelling m) s) (Some m) None) g ≡ Some l → Fits l × (spelling l ≡ s)
found_in None s l h e = cc
found_in (Some m) s l h e =
    let kept = kept_if (bytes_eq (spelling m) s) m l e in
    (subst Fits kept.1 h, subst (λ (k : Line). spelling k ≡ s) kept.1 ((bytes_eq-Decides (spelling m) s).0 kept.0))

-- a line that is found fits, and is spelled so
pub line_of-found : (s : List ℕ) (l : Line) → line_of s ≡ Some l → Fits l × (spelling l ≡ s)
unfolding line_of
line_of-found s l e = found_in (guess_of s) s l (guess_fits s) e

-- each line that fits is found from its spelling
line_of-spelling : (l : Line) → Fits l → line_of (spelling l) ≡ Some l
unfolding line_of
line_of-spelling l h =
    rw (guess_of-spelling l h) (cond-true (bytes_eq (spelling l) (spelling l)) (Some l) None ((bytes_eq-Decides (spelling l) (spelling l)).1 refl))

-- a line that fits and is spelled so is found
pub line_of-only : (s : List ℕ) (l : Line) → Fits l → spelling l ≡ s → line_of s ≡ Some l
line_of-only s l h e = subst (λ (t : List ℕ). line_of t ≡ Some l) e (line_of-spelling l h)

-- no line is found that would have to be longer than its spelling
long_is_none : (o : Option Line) (s : List ℕ) → ((l : Line) → o ≡ Some l → Fits l × (spelling l ≡ s)) → 80 < length s → o ≡ None
long_is_none None s found long = refl
long_is_none (Some l) s found long =
    let f = found l refl in
    let short = spelling_short l f.0 in
    let same : length (spelling l) ≡ length s = ap length f.1 in
    absurd (omega arith)

-- what is longer than 80 bytes is no line
pub line_of-long : (s : List ℕ) → 80 < length s → line_of s ≡ None
line_of-long s long = long_is_none (line_of s) s (λ l e. line_of-found s l e) long
