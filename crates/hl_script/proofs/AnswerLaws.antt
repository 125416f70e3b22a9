-- What the lines that answer a step and a query tell.
use Rattle.std.proofs.Common.{◌≡◌, ℕ, suc, ◌+◌, Bool, false, cond, is_none, is_ok, List, [], ◌∷◌, ◌++◌, refl, sym, ap, ◌∙◌, subst, append_assoc, append-nil, arith}
use Rattle.std.specs.Prelude.{Option, Some, None, Result, Ok, Err, codes}
use Rattle.std.specs.List.{flat_map, range_with_len}
use Rattle.std.specs.Io.KnownBytes.{Appends}
use Rattle.std.proofs.lemmas.Grind.{flat_map-append}
use Rattle.hl_model.specs.declared.fault.Fault.{Fault}
use Rattle.hl_model.specs.declared.fault.Fault.TheVariants.{NoJob, Stream}
use Rattle.hl_model.specs.declared.step.Reply.{Reply}
use Rattle.hl_model.specs.declared.step.Step.{Step}
use Rattle.hl_model.specs.declared.snapshot.Snapshot.{Snapshot}
use Rattle.hl_model.specs.Sizes.{Sizes}
use Rattle.hl_model.specs.Frames.{frame_of}
use Rattle.hl_model.specs.Snapshots.{snapshot_of}
use Rattle.hl_model.specs.Replies.{fault_of, unless_fault}
use Rattle.hl_model.proofs.ListLaws.{range-push}
use Rattle.hl_line.specs.Streams.{BreaksOff}
use Rattle.hl_script.specs.Answers.{lacks_job, line_fault, line_answer, quantities_text, status_text, frame_text, result_text}
use Rattle.hl_script.specs.Stepping.{Stepped, StepAnswers, QueryAnswers}

-- where the tag has a job, the fault is the definitions'
pub fault_kept : (has : ℕ → Bool) (sizes : Sizes) (A : List Step) (step : Step) → lacks_job has A step ≡ false → line_fault has sizes A step ≡ fault_of sizes A step
fault_kept has sizes A step h = ap (λ b. cond b (Some NoJob) (fault_of sizes A step)) h

accepted_told : (o : Option Fault) (x : Reply) (r : Result Reply Fault) → r ≡ unless_fault o x → is_ok r ≡ is_none o
accepted_told None x r h = ap is_ok h
accepted_told (Some f) x r h = ap is_ok h

-- a step's answer was written
pub step_answered : (stands : (ℕ → Bool) → Sizes → List Step → Type 0) (may_lack : Bool) (has : ℕ → Bool) (sizes : Sizes) (A : List Step) (step : Step) (result : Result Reply Fault) (old new : Option (List ℕ)) (counted : Bool) → Stepped stands may_lack has sizes A step (Some result) → Appends old new (result_text result ++ 10 ∷ []) → counted ≡ is_ok result → StepAnswers stands may_lack has sizes A step old new (Ok counted)
step_answered stands may_lack has sizes A step result old new counted st a c = (
  subst (λ r. Appends old new (result_text r ++ 10 ∷ [])) st.0 a,
  st.1,
  c ∙ accepted_told (line_fault has sizes A step) (line_answer sizes A step) result st.0,
)

-- or its first bytes
pub step_broken : (stands : (ℕ → Bool) → Sizes → List Step → Type 0) (may_lack : Bool) (has : ℕ → Bool) (sizes : Sizes)
    (A : List Step) (step : Step) (result : Result Reply Fault) (text : List ℕ) (old new : Option (List ℕ)) (fault : Fault)
    → Stepped stands may_lack has sizes A step (Some result) → text ≡ result_text result → fault ≡ Stream
    → BreaksOff old new (text ++ 10 ∷ []) → StepAnswers stands may_lack has sizes A step old new (Err fault)
step_broken stands may_lack has sizes A step result text old new fault st told is b =
    subst (λ e. StepAnswers stands may_lack has sizes A step old new (Err e)) (sym is)
    (subst (λ z. BreaksOff old new (z ++ 10 ∷ [])) (told ∙ ap result_text st.0) b)

-- a query's answer was written
pub query_answered : (text bytes : List ℕ) (old new : Option (List ℕ)) → text ≡ bytes → Appends old new (text ++ 10 ∷ []) → QueryAnswers bytes old new (Ok false)
query_answered text bytes old new e a = (subst (λ z. Appends old new (z ++ 10 ∷ [])) e a, refl)

-- or its first bytes
pub query_broken : (text bytes : List ℕ) (old new : Option (List ℕ)) (fault : Fault) → text ≡ bytes → fault ≡ Stream
    → BreaksOff old new (text ++ 10 ∷ []) → QueryAnswers bytes old new (Err fault)
query_broken text bytes old new fault same is b =
    subst (λ e. QueryAnswers bytes old new (Err e)) (sym is) (subst (λ z. BreaksOff old new (z ++ 10 ∷ [])) same b)

-- the first n frames
abbrev pub frames_so_far : Sizes → List Step → ℕ → List ℕ
frames_so_far sizes A n = codes "frames" ++ flat_map (λ f. frame_text (frame_of sizes f A)) (range_with_len 0 n)

-- one frame more
pub frames-more : (sizes : Sizes) (A : List Step) (n : ℕ) → frames_so_far sizes A (n + 1) ≡ frames_so_far sizes A n ++ frame_text (frame_of sizes n A)
frames-more sizes A n =
    ap (λ k. frames_so_far sizes A k) next
    ∙ ap (λ z. codes "frames" ++ flat_map text z) (range-push 0 n ∙ ap (λ k. range_with_len 0 n ++ k ∷ []) first)
    ∙ ap (λ z. codes "frames" ++ z) (flat_map-append text (range_with_len 0 n) (n ∷ []) ∙ ap (λ z. flat_map text (range_with_len 0 n) ++ z) (append-nil (text n)))
    ∙ sym (append_assoc (codes "frames") (flat_map text (range_with_len 0 n)) (text n))
  where
    text : ℕ → List ℕ
    text f = frame_text (frame_of sizes f A)

    first : 0 + n ≡ n
    first = omega arith

    next : n + 1 ≡ suc n
    next = omega arith

-- the quantities as a snapshot tells them
pub status_told : (sizes : Sizes) (A : List Step) (now : Snapshot) (text bytes : List ℕ) → text ≡ bytes → bytes ≡ quantities_text now.epoch now.safe now.pending now.taken now.six → now ≡ snapshot_of sizes A → text ≡ status_text sizes A
unfolding status_text
status_told sizes A now text bytes same told e = same ∙ told ∙ ap (λ (z : Snapshot). quantities_text z.epoch z.safe z.pending z.taken z.six) e
