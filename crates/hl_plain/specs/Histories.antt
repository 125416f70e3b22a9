-- What an allocator in the slow form keeps: a base and the accepted steps since.
use Rattle.std.specs.Prelude.{◌≡◌, ◌⊎◌, Bool, true, false, Option, None, is_none, if◌then◌else◌, Result, Err, List, [], ◌∷◌, ◌++◌}
use Rattle.hl_model.specs.declared.fault.Fault.{Fault}
use Rattle.hl_model.specs.declared.fault.Fault.TheVariants.{OutOfMemory}
use Rattle.hl_model.specs.declared.step.Reply.{Reply}
use Rattle.hl_model.specs.declared.step.Step.{Step}
use Rattle.hl_model.specs.Sizes.{Sizes, AreNarrow}
use Rattle.hl_model.specs.Replies.{fault_of, answer_of, with_word, unless_fault, IsAccepted}
use Rattle.hl_model.specs.Bases.{Base, base_of}
use Rattle.hl_model.specs.AfterReplies.{base_after, fault_after, answer_at}

-- the base, the steps accepted since, oldest first, and whether it has words
pub record History : Type 0 where
  pub base : Base
  pub steps : List Step
  pub has_words : Bool

-- no step yet
abbrev pub begun : Base → Bool → History
begun b has_words = record { base = b; steps = []; has_words = has_words }

-- it goes on from A: the list A and then its steps are accepted, and its base is that of A
pub record Follows (h : History) (A : List Step) : Type 0 where
  pub accepted : IsAccepted h.base.sizes (A ++ h.steps)
  pub base_is : h.base ≡ base_of h.base.sizes A

-- the sizes are narrow, it goes on from some list, and from none where it has words
pub record IsHistory (h : History) : Type 0 where
  pub narrow : AreNarrow h.base.sizes
  pub before : List Step
  pub follows : Follows h before
  pub opened : h.has_words ≡ true → Follows h []

-- where there are words, a read is answered with the word
abbrev pub worded : Bool → List Step → Step → Reply → Reply
worded true L s reply = with_word L s reply
worded false L s reply = reply

-- the answer to an accepted step
abbrev pub answer_in : History → Step → Reply
answer_in h s =
    worded h.has_words h.steps s
    (answer_at (base_after h.base h.steps) (base_after h.base (h.steps ++ s ∷ [])) s)

-- the reply to a step
abbrev pub result_in : History → Step → Result Reply Fault
result_in h s = unless_fault (fault_after h.base h.steps s) (answer_in h s)

-- the history with the step, where it meets no such fault
abbrev pub unless_met : Option Fault → Step → History → History
unless_met fault s h = record h { steps = if is_none fault then h.steps ++ s ∷ [] else h.steps }

-- what a step is answered, and what it leaves: this reply and the history with it, or, where it meets no
-- fault, a refusal of memory that leaves all as it was
abbrev pub AnswersBy : Option Fault → Reply → History → Step → Result Reply Fault → History → Type 0
AnswersBy fault reply before s result after =
    ((result ≡ unless_fault fault reply) × (after ≡ unless_met fault s before))
    ⊎ ((result ≡ Err OutOfMemory) × ((fault ≡ None) × (after ≡ before)))

-- by the definitions from the base
abbrev pub Answers : History → Step → Result Reply Fault → History → Type 0
Answers before s = AnswersBy (fault_after before.base before.steps s) (answer_in before s) before s

-- the answer to an accepted step after A and the steps
abbrev pub answer_behind : List Step → History → Step → Reply
answer_behind A h s =
    worded h.has_words h.steps s (answer_of h.base.sizes (A ++ h.steps) ((A ++ h.steps) ++ s ∷ []) s)

-- by the definitions after A and the steps
abbrev pub AnswersBehind : List Step → History → Step → Result Reply Fault → History → Type 0
AnswersBehind A before s =
    AnswersBy (fault_of before.base.sizes (A ++ before.steps) s) (answer_behind A before s) before s
