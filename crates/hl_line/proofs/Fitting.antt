-- Whatever the bytes look like, that line fits: sizes are narrow, and numbers have 64 bits.
use Rattle.std.proofs.Common.{◌≡◌, ℕ, ◌^◌, ◌<◌, arith, Bool, true, false, cond, leb, Option, Some, None, option_map, List, [], ◌∷◌, ◌++◌, codes, refl, sym, ap, ◌∙◌, bytes_eq, IfSome}
use Rattle.std.specs.Int.{is_power_of_two}
use Rattle.std.proofs.lemmas.Bool.{and_parts, and_from, leb-true, le-leb, cond-true, cond-false, false_from_ne_true}
use Rattle.hl_model.specs.Sizes.{Sizes, AreInRange, AreNarrow}
use Rattle.hl_model.specs.declared.step.Step.{Step}
use Rattle.hl_line.specs.declared.line.Line.TheVariants.{Config, Step as Makes, Status, Pending, Frames}
use Rattle.hl_line.specs.Lines.{StepFits, Fits}
use Rattle.hl_line.specs.Reading.{number_in, are_narrow, config_of, beside, epoch_steps, word_steps, flush_steps, clean_steps, step_with, line_with, guess_of}
use Rattle.hl_line.proofs.Digits.{number_in_fits}

-- the test of sizes is right
narrow_if : (s : Sizes) → are_narrow s ≡ true → AreNarrow s
narrow_if s h =
    let most8 = and_parts _ (leb s.drain 64) h in
    let least8 = and_parts _ (leb 1 s.drain) most8.0 in
    let most6 = and_parts _ (leb s.slots 64) least8.0 in
    let least6 = and_parts _ (leb 1 s.slots) most6.0 in
    let most4 = and_parts _ (leb s.frames 256) least6.0 in
    let least4 = and_parts _ (leb 2 s.frames) most4.0 in
    let power = and_parts _ (is_power_of_two s.page_size) least4.0 in
    let page_size = and_parts (leb 4 s.page_size) (leb s.page_size 4096) power.0 in
    let page_size_few = leb-true s.page_size 4096 page_size.1 in
    let frames_few = leb-true s.frames 256 most4.1 in
    let slots_few = leb-true s.slots 64 most6.1 in
    let drain_few = leb-true s.drain 64 most8.1 in
    let in_range : AreInRange s = record {
      page_size_least = leb-true 4 s.page_size page_size.0;
      page_size_most = omega arith;
      page_size_power = power.1;
      frames_least = leb-true 2 s.frames least4.1;
      frames_most = omega arith;
      slots_least = leb-true 1 s.slots least6.1;
      slots_most = omega arith;
      drain_least = leb-true 1 s.drain least8.1;
      drain_most = omega arith;
    } in
    record {
      in_range = in_range;
      page_size_few = page_size_few;
      frames_few = frames_few;
      slots_few = slots_few;
      drain_few = drain_few;
    }

-- narrow sizes pass it
narrow_test : (s : Sizes) → AreNarrow s → are_narrow s ≡ true
narrow_test s h =
    and_from _ (leb s.drain 64) (and_from _ (leb 1 s.drain) (and_from _ (leb s.slots 64) (and_from _ (leb 1 s.slots) (and_from _ (leb s.frames 256) (and_from _ (leb 2 s.frames) (and_from _ (is_power_of_two s.page_size) (and_from (leb 4 s.page_size) (leb s.page_size 4096)
    (le-leb 4 s.page_size h.in_range.page_size_least) (le-leb s.page_size 4096 h.page_size_few)) h.in_range.page_size_power) (le-leb 2 s.frames h.in_range.frames_least)) (le-leb s.frames 256 h.frames_few)) (le-leb 1 s.slots h.in_range.slots_least)) (le-leb s.slots 64 h.slots_few)) (le-leb 1 s.drain h.in_range.drain_least)) (le-leb s.drain 64 h.drain_few)

-- narrow sizes open
pub config_of-narrow : (s : Sizes) → AreNarrow s → config_of s ≡ Some (Config s)
unfolding config_of
config_of-narrow s h = cond-true (are_narrow s) (Some (Config s)) None (narrow_test s h)

-- sizes that were checked open
pub config_of-opened : (s t : Sizes) → t ≡ s → AreNarrow s → Some (Config t) ≡ config_of s
config_of-opened s t e h = ap (λ u. Some (Config u)) e ∙ sym (config_of-narrow s h)

-- other sizes don't
pub config_of-wide : (s : Sizes) → (AreNarrow s → ⊥) → config_of s ≡ None
unfolding config_of
config_of-wide s h =
    cond-false (are_narrow s) (Some (Config s)) None (false_from_ne_true (are_narrow s) (λ e. h (narrow_if s e)))

-- of two lines or steps that fit, either fits
either_fits : {A : Type 0} (P : A → Type 0) (b : Bool) (x y : Option A) → (b ≡ true → IfSome x P) → IfSome y P → IfSome (cond b x y) P
either_fits P true x y hx hy = hx refl
either_fits P false x y hx hy = hy

-- the sizes of a config are narrow
config_fits : (s : Sizes) → IfSome (config_of s) Fits
unfolding config_of
config_fits s = either_fits Fits (are_narrow s) (Some (Config s)) None (narrow_if s) tt

-- each step of a table fits
abbrev AreFitting : List (List ℕ × Step) → Type 0
AreFitting [] = Unit {0}
AreFitting (row ∷ rows) = StepFits row.1 × AreFitting rows

-- the step that stands beside a word fits
beside_fits : (word : List ℕ) (rows : List (List ℕ × Step)) → AreFitting rows → IfSome (beside word rows) StepFits
beside_fits word [] h = tt
beside_fits word (row ∷ rows) h = either_fits StepFits (bytes_eq word row.0) (Some row.1) (beside word rows) (λ e. h.0) (beside_fits word rows h.1)

-- with numbers of 64 bits, each step of the tables fits
keywords_fit : (a b c : ℕ) → a < 2 ^ 64 → b < 2 ^ 64 → c < 2 ^ 64 → AreFitting (epoch_steps a ++ word_steps a b c)
keywords_fit a b c ha hb hc =
    (ha, (ha, (ha, (ha, (tt, (tt, (tt, (tt, (ha, (ha, (ha, ((ha, hb), ((ha, (hb, hc)), ((ha, (hb, hc)), ((ha, hb), tt)))))))))))))))

-- whatever words stand after the keyword, the step fits
step_with_fits : (keyword first second third : List ℕ) → IfSome (step_with keyword first second third) StepFits
unfolding step_with
step_with_fits keyword first second third =
    let a = number_in first in
    let b = number_in second in
    let c = number_in third in
    let page = number_in_fits second in
    let flush = beside_fits first (flush_steps b third) (tt, (page, tt)) in
    let clean = beside_fits first (clean_steps b) (tt, (page, tt)) in
    let other = beside_fits keyword (epoch_steps a ++ word_steps a b c) (keywords_fit a b c (number_in_fits first) page (number_in_fits third)) in
    either_fits StepFits (bytes_eq keyword (codes "flush")) _ _ (λ e. flush) (either_fits StepFits (bytes_eq keyword (codes "clean")) _ _ (λ e. clean) other)

-- a line that makes a step that fits, fits
made_fits : (o : Option Step) → IfSome o StepFits → IfSome (option_map Makes o) Fits
made_fits None h = tt
made_fits (Some s) h = h

-- whatever words are read, the line fits
line_with_fits : (keyword first second third fourth : List ℕ) → IfSome (line_with keyword first second third fourth) Fits
unfolding line_with
line_with_fits keyword first second third fourth =
    let steps = made_fits (step_with keyword first second third) (step_with_fits keyword first second third) in
    let frames = either_fits Fits (bytes_eq keyword (codes "frames")) (Some Frames) _ (λ e. tt) steps in
    let pending = either_fits Fits (bytes_eq keyword (codes "pending")) (Some Pending) _ (λ e. tt) frames in
    let status = either_fits Fits (bytes_eq keyword (codes "status")) (Some Status) _ (λ e. tt) pending in
    either_fits Fits (bytes_eq keyword (codes "config")) _ _ (λ e. config_fits _) status

-- whatever the bytes look like, that line fits
pub guess_fits : (s : List ℕ) → IfSome (guess_of s) Fits
unfolding guess_of
guess_fits s = line_with_fits _ _ _ _ _
