-- What the slow form makes of one step of a script.
use Rattle.std.proofs.Common.{◌≡◌, ℕ, ◌^◌, ◌<◌, ◌≤◌, Bool, true, false, cond, not, ◌&&◌, ◌||◌, ltb, is_none, inl, inr, List, [], ◌∷◌, ◌++◌, refl, sym, ap, ap₂, ◌∙◌, subst, append-nil, arith}
use Rattle.std.specs.Prelude.{◌==◌, Option, Some, None, Ok, Err}
use Rattle.std.specs.List.{find, list_all, list_any}
use Rattle.std.proofs.lemmas.Bool.{and_parts, ltb-true}
use Rattle.std.proofs.lemmas.List.Folds.{list_all-append}
use Rattle.hl_model.specs.declared.action.Kind.{Kind}
use Rattle.hl_model.specs.declared.action.Kind.TheVariants.{User, Settle as Settling, Close as Closing}
use Rattle.hl_model.specs.declared.action.Waiting.{Waiting}
use Rattle.hl_model.specs.declared.fault.Fault.{Fault}
use Rattle.hl_model.specs.declared.fault.Fault.TheVariants.{OutOfMemory}
use Rattle.hl_model.specs.declared.step.Reply.{Reply}
use Rattle.hl_model.specs.declared.step.Reply.TheVariants.{Ran}
use Rattle.hl_model.specs.declared.step.Step.{Step}
use Rattle.hl_model.specs.declared.step.Step.TheVariants.{Bump, Settle, Close, Done}
use Rattle.hl_model.specs.Sizes.{Sizes, AreNarrow}
use Rattle.hl_model.specs.Epochs.{current_epoch, safe_epoch}
use Rattle.hl_model.specs.Actions.{action_of, actions, action_at}
use Rattle.hl_model.specs.Replies.{fault_of, answer_of, done_answer, kind_or_job_0, unless_fault, with_word, word_reply_of, IsAccepted}
use Rattle.hl_laws.proofs.AcceptedLaws.{IsAccepted-parts}
use Rattle.hl_laws.proofs.ActionLaws.{actions-nil, actions-push}
use Rattle.hl_laws.proofs.DrainLaws.{done_fault-none, is_taken-parts, was_taken-safe}
use Rattle.hl_laws.proofs.EpochLaws.{safe_epoch-current}
use Rattle.hl_laws.proofs.LawProofs.{current_is_at_most_last}
use Rattle.hl_laws.proofs.NoFaultLaws.{unless_err, unless_ok}
use Rattle.hl_line.specs.declared.line.Line.TheVariants.{Step as Makes}
use Rattle.hl_model.specs.Bases.{base_of}
use Rattle.hl_plain.specs.Histories.{History, Follows, IsHistory, begun, worded, unless_met, answer_behind, AnswersBehind}
use Rattle.hl_script.specs.Answers.{bears, lacks_job, line_fault, shown, line_answer, line_reply, with_line}
use Rattle.hl_script.specs.Text.{below}
use Rattle.hl_script.specs.Slow.{kind_is_below, tag_is_below, IsSlow, SumFits}
use Rattle.hl_script.proofs.AnswerLaws.{fault_kept}

-- the test of the tags, as the script has it
lacks_shown : (tags : ℕ) (h : History) (has : ℕ → Bool) (sizes : Sizes) (A : List Step) (step : Step) → IsSlow tags h has sizes A → lacks_job has A step ≡ lacks_job (below tags) h.steps step
lacks_shown tags h has sizes A step sh = ap (λ f. lacks_job f A step) sh.has_is ∙ ap (λ B. lacks_job (below tags) B step) (sym sh.steps_is)

-- a step that stores a job bears a tag below the number
stored_below : (tags : ℕ) (A : List Step) (step : Step) → lacks_job (below tags) A step ≡ false → list_all (tag_is_below tags) (action_of A step) ≡ true
stored_below tags A (Bump tag) h = by_test (ltb tag tags) refl
  where
    by_test : (b : Bool) → ltb tag tags ≡ b → (ltb tag tags && true) ≡ true
    by_test true e = ap (λ b. b && true) e
    by_test false e = let lacks : true ≡ false = sym (ap (λ b. not b || list_any (bears tag) A) e) ∙ h in cc
stored_below tags A Settle h = refl
stored_below tags A Close h = refl
stored_below tags A step h = refl

-- one that passes the test is below
found_below : (p : Waiting → Bool) (q : Waiting → Bool) (ws : List Waiting) (w : Waiting) → list_all p ws ≡ true → find q ws ≡ Some w → p w ≡ true
found_below p q [] w h e = cc
found_below p q (v ∷ ws) w h e = by_test (found_below p q ws w (and_parts (p v) (list_all p ws) h).1) (q v) refl e
  where
    by_test : (find q ws ≡ Some w → p w ≡ true) → (b : Bool) → q v ≡ b → cond b (Some v) (find q ws) ≡ Some w → p w ≡ true
    by_test later true is k = let same : v ≡ w = cc in ap p (sym same) ∙ (and_parts (p v) (list_all p ws) h).0
    by_test later false is k = later k

-- the tag that a done is answered is 0 or below the number
ran_below : (tags : ℕ) (B : List Step) (tag : ℕ) (o : Option Waiting) → ((w : Waiting) → o ≡ Some w → tag_is_below tags w ≡ true) → Ran tag ≡ done_answer B (kind_or_job_0 o) → tag ≤ tags
ran_below tags B tag None known h = let zero_is : tag ≡ 0 = cc in omega (arith, zero_is)
ran_below tags B tag (Some w) known h = by_kind w.kind (known w refl) h
  where
    by_kind : (kind : Kind) → kind_is_below tags kind ≡ true → Ran tag ≡ done_answer B kind → tag ≤ tags
    by_kind (User k) below told = let same : tag ≡ k = cc in omega (arith, same, ltb-true k tags below)
    by_kind (Settling x) below told = cc
    by_kind (Closing x) below told = cc

-- a ticket that is taken is below the greatest epoch
ticket_most : (sizes : Sizes) (A : List Step) (c : ℕ) → IsAccepted sizes A → fault_of sizes A (Done c) ≡ None → c < 2 ^ 62
ticket_most sizes A c a free =
    let safe : c ≤ safe_epoch sizes.slots A = was_taken-safe sizes A c a (is_taken-parts c A (done_fault-none sizes A c free)).0 in
    let last : current_epoch A ≤ 2 ^ 62 = current_is_at_most_last sizes A a in
    omega (arith, safe, safe_epoch-current sizes.slots A, last)

-- what an accepted step was answered and made
record Went (tags : ℕ) (h after : History) (has : ℕ → Bool) (sizes : Sizes) (A : List Step) (step : Step) (reply : Reply) : Type 0 where
  free : fault_of sizes A step ≡ None
  reply_is : reply ≡ with_word A step (answer_of sizes A (A ++ step ∷ []) step)
  has_words : after.has_words ≡ true
  sizes_is : after.base.sizes ≡ sizes
  steps_is : after.steps ≡ A ++ step ∷ []

-- the answer to an accepted step of an allocator that was opened
slow_answer : (tags : ℕ) (h : History) (has : ℕ → Bool) (sizes : Sizes) (A : List Step) (step : Step) → IsSlow tags h has sizes A → answer_behind [] h step ≡ with_word A step (answer_of sizes A (A ++ step ∷ []) step)
slow_answer tags h has sizes A step sh =
    ap (λ w. worded w h.steps step (answer_of h.base.sizes h.steps (h.steps ++ step ∷ []) step)) sh.has_words
    ∙ ap₂ (λ z B. with_word B step (answer_of z B (B ++ step ∷ []) step)) sh.sizes_is sh.steps_is

-- the fault that it meets
slow_fault : (tags : ℕ) (h : History) (has : ℕ → Bool) (sizes : Sizes) (A : List Step) (step : Step) → IsSlow tags h has sizes A → fault_of h.base.sizes h.steps step ≡ fault_of sizes A step
slow_fault tags h has sizes A step sh = ap₂ (λ z B. fault_of z B step) sh.sizes_is sh.steps_is

went : (tags : ℕ) (h after : History) (has : ℕ → Bool) (sizes : Sizes) (A : List Step) (step : Step) (reply : Reply) → IsSlow tags h has sizes A → AnswersBehind [] h step (Ok reply) after → Went tags h after has sizes A step reply
went tags h after has sizes A step reply sh (inl a) =
    let told : Ok reply ≡ word_reply_of sizes A step = a.0 ∙ ap₂ (λ o r. unless_fault o r) (slow_fault tags h has sizes A step sh) (slow_answer tags h has sizes A step sh) in
    let both : (fault_of sizes A step ≡ None) × (reply ≡ with_word A step (answer_of sizes A (A ++ step ∷ []) step)) =
    unless_ok (fault_of sizes A step) reply (with_word A step (answer_of sizes A (A ++ step ∷ []) step)) told in
    let free : fault_of h.base.sizes h.steps step ≡ None = slow_fault tags h has sizes A step sh ∙ both.0 in
    let made : after ≡ unless_met None step h = a.1 ∙ ap (λ o. unless_met o step h) free in
    record {
      free = both.0;
      reply_is = both.1;
      has_words = ap (λ (z : History). z.has_words) made ∙ sh.has_words;
      sizes_is = ap (λ (z : History). z.base.sizes) made ∙ sh.sizes_is;
      steps_is = ap (λ (z : History). z.steps) made ∙ ap (λ B. B ++ step ∷ []) sh.steps_is;
    }
went tags h after has sizes A step reply sh (inr a) = let wrong : Ok reply ≡ Err OutOfMemory = a.0 in cc

-- an accepted step
pub slow_accepts : (tags : ℕ) (h after : History) (has : ℕ → Bool) (sizes : Sizes) (A : List Step) (step : Step) (reply told : Reply) → IsSlow tags h has sizes A → lacks_job (below tags) h.steps step ≡ false → AnswersBehind [] h step (Ok reply) after → Follows after [] → told ≡ shown step reply → (Ok told ≡ line_reply has sizes A step) × IsSlow tags after has sizes (with_line has sizes A (Makes step))
slow_accepts tags h after has sizes A step reply told sh lacks answer follows is = (
  ap (λ r. Ok r) (is ∙ ap (shown step) w.reply_is) ∙ sym (ap (λ o. unless_fault o (line_answer sizes A step)) free),
  subst (IsSlow tags after has sizes) (sym (ap (λ o. cond (is_none o) (A ++ step ∷ []) A) free)) (record {
    has_is = sh.has_is;
    opened = follows;
    has_words = w.has_words;
    sizes_is = w.sizes_is;
    narrow = sh.narrow;
    steps_is = w.steps_is;
    most = sh.most;
    tags_below = ap (list_all (tag_is_below tags)) (actions-push A step) ∙ list_all-append (tag_is_below tags) (actions A) (action_of A step)
        ∙ ap₂ (λ b c. b && c) sh.tags_below (stored_below tags A step (ap (λ B. lacks_job (below tags) B step) (sym sh.steps_is) ∙ lacks));
  }),
)
  where
    w : Went tags h after has sizes A step reply
    w = went tags h after has sizes A step reply sh answer

    free : line_fault has sizes A step ≡ None
    free = fault_kept has sizes A step (lacks_shown tags h has sizes A step sh ∙ lacks) ∙ w.free

-- a refused step
pub slow_refuses : (tags : ℕ) (h after : History) (has : ℕ → Bool) (sizes : Sizes) (A : List Step) (step : Step) (f : Fault) → IsSlow tags h has sizes A → lacks_job (below tags) h.steps step ≡ false → AnswersBehind [] h step (Err f) after → Follows after [] → (f ≡ OutOfMemory → ⊥) → (Err f ≡ line_reply has sizes A step) × IsSlow tags after has sizes (with_line has sizes A (Makes step))
slow_refuses tags h after has sizes A step f sh lacks (inr a) follows memory = let same : f ≡ OutOfMemory = cc in absurd (memory same)
slow_refuses tags h after has sizes A step f sh lacks (inl a) follows memory = (
  sym (ap (λ o. unless_fault o (line_answer sizes A step)) line_is),
  subst (IsSlow tags after has sizes) (sym (ap (λ o. cond (is_none o) (A ++ step ∷ []) A) line_is)) (record {
    has_is = sh.has_is;
    opened = follows;
    has_words = ap (λ (z : History). z.has_words) made ∙ sh.has_words;
    sizes_is = ap (λ (z : History). z.base.sizes) made ∙ sh.sizes_is;
    narrow = sh.narrow;
    steps_is = ap (λ (z : History). z.steps) made ∙ sh.steps_is;
    most = sh.most;
    tags_below = sh.tags_below;
  }),
)
  where
    fault_is : fault_of sizes A step ≡ Some f
    fault_is = unless_err (fault_of sizes A step) f (with_word A step (answer_of sizes A (A ++ step ∷ []) step)) (a.0 ∙ ap₂ (λ o r. unless_fault o r) (slow_fault tags h has sizes A step sh) (slow_answer tags h has sizes A step sh))

    made : after ≡ unless_met (Some f) step h
    made = a.1 ∙ ap (λ o. unless_met o step h) (slow_fault tags h has sizes A step sh ∙ fault_is)

    line_is : line_fault has sizes A step ≡ Some f
    line_is = fault_kept has sizes A step (lacks_shown tags h has sizes A step sh ∙ lacks) ∙ fault_is

-- the tag and the ticket of a done can be added
done_fits : (tags : ℕ) (sizes : Sizes) (A : List Step) (step : Step) (reply : Reply) → tags ≤ 2 ^ 62 → list_all (tag_is_below tags) (actions A) ≡ true → IsAccepted sizes A → fault_of sizes A step ≡ None → reply ≡ with_word A step (answer_of sizes A (A ++ step ∷ []) step) → SumFits step reply
unfolding action_at
done_fits tags sizes A (Done c) (Ran tag) most known a free told =
    let tag_most : tag ≤ tags = ran_below tags (A ++ Done c ∷ []) tag (action_at c (A ++ Done c ∷ [])) found told in
    omega (arith, most, tag_most, ticket_most sizes A c a free)
  where
    same : actions (A ++ Done c ∷ []) ≡ actions A
    same = actions-push A (Done c) ∙ append-nil (actions A)

    found : (w : Waiting) → action_at c (A ++ Done c ∷ []) ≡ Some w → tag_is_below tags w ≡ true
    found w e = found_below (tag_is_below tags) (λ w. w.ticket == c) (actions (A ++ Done c ∷ [])) w (ap (list_all (tag_is_below tags)) same ∙ known) e
done_fits tags sizes A step reply most known a free told = tt

pub slow_sum_fits : (tags : ℕ) (h after : History) (has : ℕ → Bool) (sizes : Sizes) (A : List Step) (step : Step) (reply : Reply) → IsSlow tags h has sizes A → Follows after [] → AnswersBehind [] h step (Ok reply) after → SumFits step reply
slow_sum_fits tags h after has sizes A step reply sh follows answer =
    let w = went tags h after has sizes A step reply sh answer in
    let all : IsAccepted sizes (A ++ step ∷ []) = subst (λ z. IsAccepted z (A ++ step ∷ [])) w.sizes_is (subst (IsAccepted after.base.sizes) w.steps_is follows.accepted) in
    done_fits tags sizes A step reply sh.most sh.tags_below (IsAccepted-parts sizes A step all).0 w.free w.reply_is

-- no tag is stored yet
pub slow_begins : (tags : ℕ) (h : History) (has : ℕ → Bool) (sizes : Sizes) → has ≡ below tags → tags ≤ 2 ^ 62 → h ≡ begun (base_of sizes []) true → IsHistory h → IsSlow tags h has sizes []
unfolding base_of
slow_begins tags h has sizes known most e k =
    let words : h.has_words ≡ true = ap (λ (z : History). z.has_words) e in
    record {
      has_is = known;
      opened = k.opened words;
      has_words = words;
      sizes_is = ap (λ (z : History). z.base.sizes) e;
      narrow = subst AreNarrow (ap (λ (z : History). z.base.sizes) e) k.narrow;
      steps_is = ap (λ (z : History). z.steps) e;
      most = most;
      tags_below = ap (list_all (tag_is_below tags)) actions-nil;
    }

-- what an allocator that was opened shows is what its steps have
pub slow_shows : {X : Type 0} (tags : ℕ) (h : History) (has : ℕ → Bool) (sizes : Sizes) (A : List Step) (shown : Sizes → List Step → X) (x : X) → IsSlow tags h has sizes A → ((B : List Step) → Follows h B → x ≡ shown h.base.sizes (B ++ h.steps)) → x ≡ shown sizes A
slow_shows tags h has sizes A shown x sh behind = behind [] sh.opened ∙ ap₂ shown sh.sizes_is sh.steps_is
