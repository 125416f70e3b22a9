-- A script's lines, one after another, by what makes its steps.
use Rattle.std.proofs.Common.{◌≡◌, ℕ, Bool, true, false, cond, not, eqb, List, [], ◌∷◌, ◌++◌, length, refl, sym, ap, ◌∙◌, subst, arith, ne_eqb}
use Rattle.std.specs.Prelude.{Option, Some, Result, Ok, Err, codes}
use Rattle.std.specs.Io.KnownBytes.{Appends}
use Rattle.hl_model.specs.declared.fault.Fault.{Fault}
use Rattle.hl_model.specs.declared.fault.Fault.TheVariants.{OutOfMemory, Stream}
use Rattle.hl_model.specs.declared.step.Step.{Step}
use Rattle.hl_model.specs.Sizes.{Sizes}
use Rattle.hl_model.specs.Actions.{pending}
use Rattle.hl_line.specs.Streams.{BreaksOff}
use Rattle.hl_line.specs.declared.line.Line.{Line}
use Rattle.hl_line.specs.declared.line.Line.TheVariants.{Config, Step as Makes, Status, Pending, Frames}
use Rattle.hl_script.specs.Lines.{is_config, may_stand, takes_memory}
use Rattle.hl_script.specs.Answers.{sizes_of, with_line, is_accepted, status_text, pending_text, frames_text, answer_text, accepted_after, accepted}
use Rattle.hl_script.specs.Text.{count_of}
use Rattle.hl_script.specs.Interpreter.{Answered, Answers}
use Rattle.hl_script.specs.Stepping.{StepAnswers, QueryAnswers}
use Rattle.hl_script.specs.Runs.{StandsAt}
use Rattle.hl_script.proofs.KnownLaws.{Appends-nothing}
use Rattle.hl_script.proofs.TextLaws.{sizes_of-push, accepted-push}

-- a config stands first
pub config_first : (before : List Line) (line : Line) → is_config line ≡ true → may_stand before line ≡ true → before ≡ []
config_first [] line c h = refl
config_first (x ∷ xs) line c h =
    let later : may_stand (x ∷ xs) line ≡ false = ap (λ b. cond b (is_config line) (not (is_config line))) (ne_eqb (length (x ∷ xs)) 0 (λ e. absurd (omega (arith, e)))) ∙ ap not c in cc

-- what stands after one line more
lines_more : (stands : (ℕ → Bool) → Sizes → List Step → Type 0) (has : ℕ → Bool) (before : List Line) (given : Sizes) (others : List Line) (line : Line) → before ≡ Config given ∷ others → stands has (sizes_of before) (with_line has (sizes_of before) (accepted has before) line) → StandsAt stands has (before ++ line ∷ [])
lines_more stands has before given others line e st = record {
  given = given;
  others = others ++ line ∷ [];
  first = ap (λ z. z ++ line ∷ []) e;
  standing = subst (stands has (sizes_of (before ++ line ∷ []))) (sym (accepted-push has before line))
      (subst (λ sizes. stands has sizes (with_line has (sizes_of before) (accepted has before) line)) (sym same) st);
}
  where
    same : sizes_of (before ++ line ∷ []) ≡ sizes_of before
    same = ap (λ z. sizes_of (z ++ line ∷ [])) e ∙ sizes_of-push (Config given) others line ∙ sym (ap sizes_of e)

nothing_accepted : (has : ℕ → Bool) → accepted has [] ≡ []
unfolding accepted accepted_after
nothing_accepted has = refl

-- what was opened stands at the config
pub opened : (stands : (ℕ → Bool) → Sizes → List Step → Type 0) (has : ℕ → Bool) (sizes : Sizes) → stands has sizes [] → StandsAt stands has (Config sizes ∷ [])
opened stands has sizes made = record {
  given = sizes;
  others = [];
  first = refl;
  standing = subst (stands has sizes) (sym (accepted-push has [] (Config sizes) ∙ nothing_accepted has)) made;
}

-- the same for a line that is that config
pub opened_at : (stands : (ℕ → Bool) → Sizes → List Step → Type 0) (has : ℕ → Bool) (line : Line) (sizes : Sizes) → line ≡ Config sizes → stands has sizes [] → (is_config line ≡ true) × StandsAt stands has (line ∷ [])
opened_at stands has line sizes is made = (ap is_config is, subst (λ l. StandsAt stands has (l ∷ [])) (sym is) (opened stands has sizes made))

-- the config was answered
pub config_answered : (stands : (ℕ → Bool) → Sizes → List Step → Type 0) (has : ℕ → Bool) (line : Line) (sizes : Sizes) (old new : Option (List ℕ)) → line ≡ Config sizes → stands has sizes [] → Appends old new (codes "opened" ++ 10 ∷ []) → Answered (StandsAt stands) has [] line old new false
config_answered stands has line sizes old new is made wrote = subst (λ l. Answered (StandsAt stands) has [] l old new false) (sym is) (record {
  wrote = wrote;
  standing = opened stands has sizes made;
  counts = refl;
})

-- memory was refused, or a write failed, at the config
pub config_lacked : (stands : (ℕ → Bool) → List Line → Type 0) (may_lack : Bool) (has : ℕ → Bool) (line : Line) (sizes : Sizes) (known : Option (List ℕ)) → line ≡ Config sizes → Answers stands (takes_memory may_lack) has [] line known known (Err OutOfMemory)
config_lacked stands may_lack has line sizes known is = (Appends-nothing known, ap (takes_memory may_lack) is)

pub config_broken : (stands : (ℕ → Bool) → List Line → Type 0) (lacks : Line → Bool) (has : ℕ → Bool) (line : Line) (sizes : Sizes) (old new : Option (List ℕ)) (stop : Fault) → line ≡ Config sizes → stop ≡ Stream → BreaksOff old new (codes "opened" ++ 10 ∷ []) → Answers stands lacks has [] line old new (Err stop)
config_broken stands lacks has line sizes old new stop is e left =
    subst (λ f. Answers stands lacks has [] line old new (Err f)) (sym e)
    (subst (λ l. Answers stands lacks has [] l old new (Err Stream)) (sym is) left)

-- behind the config any line may stand that isn't one
pub stands_behind : (stands : (ℕ → Bool) → Sizes → List Step → Type 0) (has : ℕ → Bool) (before : List Line) (line : Line) (b : Bool) → StandsAt stands has before → is_config line ≡ b → may_stand before line ≡ not b
stands_behind stands has before line b st is =
    let later : eqb (length before) 0 ≡ false = ne_eqb (length before) 0 (λ e. absurd (omega (arith, e, ap length st.first))) in
    ap (λ t. cond t (is_config line) (not (is_config line))) later ∙ ap not is

-- a test that doesn't hold
pub is_not : (b : Bool) → (b ≡ true → ⊥) → b ≡ false
is_not true never = absurd (never refl)
is_not false _ = refl

-- a line that gives no sizes
pub no_config : (line : Line) → ((sizes : Sizes) → line ≡ Config sizes → ⊥) → is_config line ≡ false
no_config (Config sizes) never = absurd (never sizes refl)
no_config (Makes step) _ = refl
no_config Status _ = refl
no_config Pending _ = refl
no_config Frames _ = refl

-- the accepted steps are counted
pub counted_all : (stands : (ℕ → Bool) → Sizes → List Step → Type 0) (has : ℕ → Bool) (lines : List Line) (count : ℕ) → StandsAt stands has lines → count ≡ length (accepted has lines) → count_of has lines ≡ Some count
counted_all stands has lines count st is = ap (count_of has) st.first ∙ ap (λ z. Some (length (accepted has z))) (sym st.first) ∙ ap (λ n. Some n) (sym is)

-- what is told of a line that was answered
abbrev pub answer_of : Result Bool Fault → Result (Option Bool) Fault
answer_of (Ok counted) = Ok (Some counted)
answer_of (Err fault) = Err fault

step_made : (stands : (ℕ → Bool) → Sizes → List Step → Type 0) (may_lack : Bool) (has : ℕ → Bool) (before : List Line) (step : Step) (given : Sizes) (others : List Line) (old new : Option (List ℕ)) (r : Result Bool Fault) → before ≡ Config given ∷ others → StepAnswers stands may_lack has (sizes_of before) (accepted has before) step old new r → Answers (StandsAt stands) (takes_memory may_lack) has before (Makes step) old new (answer_of r)
step_made stands may_lack has before step given others old new (Ok counted) e s = record {
  wrote = s.0;
  standing = lines_more stands has before given others (Makes step) e s.1;
  counts = s.2;
}
step_made stands may_lack has before step given others old new (Err OutOfMemory) e s = s
step_made stands may_lack has before step given others old new (Err Stream) e s = s
step_made stands may_lack has before step given others old new (Err fault) e s = absurd s

-- a step was answered
pub step_answers : (was now : (ℕ → Bool) → Sizes → List Step → Type 0) (may_lack : Bool) (has : ℕ → Bool) (before : List Line) (line : Line) (step : Step) (old new : Option (List ℕ)) (r : Result Bool Fault) → line ≡ Makes step → StandsAt was has before → ((has : ℕ → Bool) (sizes : Sizes) (A : List Step) → was has sizes A → StepAnswers now may_lack has sizes A step old new r) → Answers (StandsAt now) (takes_memory may_lack) has before line old new (answer_of r)
step_answers was now may_lack has before line step old new r l st made =
    subst (λ z. Answers (StandsAt now) (takes_memory may_lack) has before z old new (answer_of r)) (sym l)
    (step_made now may_lack has before step st.given st.others old new r st.first (made has (sizes_of before) (accepted has before) st.standing))

-- a query: what it is answered, and that it makes no step
pub record IsQuery (line : Line) (text : Sizes → List Step → List ℕ) : Type 0 where
  pub told : (has : ℕ → Bool) (sizes : Sizes) (A : List Step) → answer_text has sizes A line ≡ text sizes A
  pub stays : (has : ℕ → Bool) (sizes : Sizes) (A : List Step) → with_line has sizes A line ≡ A
  pub uncounted : (has : ℕ → Bool) (sizes : Sizes) (A : List Step) → is_accepted has sizes A line ≡ false

pub is_status : (line : Line) → line ≡ Status → IsQuery line status_text
is_status line e = subst (λ z. IsQuery z status_text) (sym e) (record { told = λ has sizes A. refl; stays = λ has sizes A. refl; uncounted = λ has sizes A. refl })

pub is_pending : (line : Line) → line ≡ Pending → IsQuery line (λ sizes A. pending_text (pending A))
is_pending line e = subst (λ z. IsQuery z (λ sizes A. pending_text (pending A))) (sym e) (record { told = λ has sizes A. refl; stays = λ has sizes A. refl; uncounted = λ has sizes A. refl })

pub is_frames : (line : Line) → line ≡ Frames → IsQuery line frames_text
is_frames line e = subst (λ z. IsQuery z frames_text) (sym e) (record { told = λ has sizes A. refl; stays = λ has sizes A. refl; uncounted = λ has sizes A. refl })

-- a query was answered
pub query_answers : (stands : (ℕ → Bool) → Sizes → List Step → Type 0) (lacks : Line → Bool) (has : ℕ → Bool) (before : List Line) (line : Line) (text : Sizes → List Step → List ℕ) (old new : Option (List ℕ)) (r : Result Bool Fault) → IsQuery line text → StandsAt stands has before → ((has : ℕ → Bool) (sizes : Sizes) (A : List Step) → stands has sizes A → QueryAnswers (text sizes A) old new r) → Answers (StandsAt stands) lacks has before line old new (answer_of r)
query_answers stands lacks has before line text old new r q st told = by_result r (told has (sizes_of before) (accepted has before) st.standing)
  where
    by_result : (r : Result Bool Fault) → QueryAnswers (text (sizes_of before) (accepted has before)) old new r → Answers (StandsAt stands) lacks has before line old new (answer_of r)
    by_result (Ok counted) a = record {
      wrote = subst (λ z. Appends old new (z ++ 10 ∷ [])) (sym (q.told has (sizes_of before) (accepted has before))) a.0;
      standing = lines_more stands has before st.given st.others line st.first (subst (stands has (sizes_of before)) (sym (q.stays has (sizes_of before) (accepted has before))) st.standing);
      counts = a.1 ∙ sym (q.uncounted has (sizes_of before) (accepted has before));
    }
    by_result (Err Stream) a = subst (λ z. BreaksOff old new (z ++ 10 ∷ [])) (sym (q.told has (sizes_of before) (accepted has before))) a
    by_result (Err fault) a = absurd a
