-- The answers to one line more, and the count of accepted steps.
use Rattle.std.proofs.Common.{◌≡◌, ℕ, ◌+◌, Bool, true, false, cond, List, [], ◌∷◌, ◌++◌, length, refl, sym, ap, ◌∙◌, append_assoc, append-nil, arith}
use Rattle.std.specs.Prelude.{is_none}
use Rattle.std.proofs.lemmas.List.{length_push}
use Rattle.hl_model.specs.declared.step.Step.{Step}
use Rattle.hl_model.specs.Sizes.{Sizes}
use Rattle.hl_model.specs.Lists.{gather, gather_after}
use Rattle.hl_model.proofs.ListLaws.{gather-push}
use Rattle.hl_line.specs.declared.line.Line.{Line}
use Rattle.hl_line.specs.declared.line.Line.TheVariants.{Config, Step as Makes, Status, Pending, Frames}
use Rattle.hl_script.specs.Answers.{sizes_of, line_fault, is_accepted, with_line, accepted_after, accepted}
use Rattle.hl_script.specs.Text.{answers}
use Rattle.hl_script.specs.Interpreter.{answered}

pub answers-nil : (has : ℕ → Bool) → answers has [] ≡ []
unfolding answers gather gather_after
answers-nil has = refl

pub answers-push : (has : ℕ → Bool) (before : List Line) (line : Line) → answers has (before ++ line ∷ []) ≡ answers has before ++ answered has before line
unfolding answers
answers-push has before line = gather-push (answered has) before line

gather_after-append : {X Y : Type 0} (f : List X → X → List Y) (before xs ys : List X) → gather_after f before (xs ++ ys) ≡ gather_after f before xs ++ gather_after f (before ++ xs) ys
unfolding gather_after
gather_after-append f before [] ys = ap (λ z. gather_after f z ys) (sym (append-nil before))
gather_after-append f before (x ∷ xs) ys =
    ap (λ z. f before x ++ z) (gather_after-append f (before ++ x ∷ []) xs ys)
    ∙ sym (append_assoc (f before x) (gather_after f (before ++ x ∷ []) xs) (gather_after f ((before ++ x ∷ []) ++ xs) ys))
    ∙ ap (λ z. (f before x ++ gather_after f (before ++ x ∷ []) xs) ++ gather_after f z ys) (append_assoc before (x ∷ []) xs)

-- the answers begin with those to the first lines
pub answers-front : (has : ℕ → Bool) (lines others : List Line) → (rest : List ℕ) × (answers has (lines ++ others) ≡ answers has lines ++ rest)
unfolding answers gather
answers-front has lines others = (gather_after (answered has) lines others, gather_after-append (answered has) [] lines others)

accepted_after-push : (has : ℕ → Bool) (sizes : Sizes) (A : List Step) (lines : List Line) (line : Line) → accepted_after has sizes A (lines ++ line ∷ []) ≡ with_line has sizes (accepted_after has sizes A lines) line
unfolding accepted_after
accepted_after-push has sizes A [] line = refl
accepted_after-push has sizes A (l ∷ lines) line = accepted_after-push has sizes (with_line has sizes A l) lines line

-- the sizes are those of the first line
pub sizes_of-push : (first : Line) (lines : List Line) (line : Line) → sizes_of ((first ∷ lines) ++ line ∷ []) ≡ sizes_of (first ∷ lines)
sizes_of-push (Config sizes) lines line = refl
sizes_of-push (Makes step) lines line = refl
sizes_of-push Status lines line = refl
sizes_of-push Pending lines line = refl
sizes_of-push Frames lines line = refl

-- one line more
pub accepted-push : (has : ℕ → Bool) (before : List Line) (line : Line) → accepted has (before ++ line ∷ []) ≡ with_line has (sizes_of before) (accepted has before) line
unfolding accepted accepted_after
accepted-push has [] (Config sizes) = refl
accepted-push has [] (Makes step) = refl
accepted-push has [] Status = refl
accepted-push has [] Pending = refl
accepted-push has [] Frames = refl
accepted-push has (first ∷ lines) line =
    ap (λ sizes. accepted_after has sizes [] ((first ∷ lines) ++ line ∷ [])) (sizes_of-push first lines line)
    ∙ accepted_after-push has (sizes_of (first ∷ lines)) [] (first ∷ lines) line

with_line-length : (has : ℕ → Bool) (sizes : Sizes) (A : List Step) (line : Line) → length (with_line has sizes A line) ≡ length A + cond (is_accepted has sizes A line) 1 0
with_line-length has sizes A (Config given) = omega arith
with_line-length has sizes A (Makes step) =
    elim (is_none (line_fault has sizes A step)) as (λ b. length (cond b (A ++ step ∷ []) A) ≡ length A + cond b 1 0) [ true ↦ length_push A step | false ↦ omega arith ]
with_line-length has sizes A Status = omega arith
with_line-length has sizes A Pending = omega arith
with_line-length has sizes A Frames = omega arith

-- a step that is accepted is one more
pub accepted-length : (has : ℕ → Bool) (before : List Line) (line : Line) → length (accepted has (before ++ line ∷ [])) ≡ length (accepted has before) + cond (is_accepted has (sizes_of before) (accepted has before) line) 1 0
accepted-length has before line = ap length (accepted-push has before line) ∙ with_line-length has (sizes_of before) (accepted has before) line
