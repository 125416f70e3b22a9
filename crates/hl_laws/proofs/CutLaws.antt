-- An accepted list may be cut to its base.
use Rattle.std.proofs.Common.{◌≡◌, ℕ, cond, is_none, List, [], ◌∷◌, ◌++◌, refl, sym, ap, ap₂, ◌∙◌, subst, append_assoc, append-nil}
use Rattle.std.specs.Prelude.{Option, Some, None, Ok}
use Rattle.hl_model.specs.declared.action.Waiting.{Waiting}
use Rattle.hl_model.specs.declared.fault.Fault.{Fault}
use Rattle.hl_model.specs.declared.frame.Held.{Held}
use Rattle.hl_model.specs.declared.slot.Slot.{Slot}
use Rattle.hl_model.specs.declared.step.Step.{Step}
use Rattle.hl_model.specs.declared.view.Six.{Six}
use Rattle.hl_model.specs.Sizes.{Sizes}
use Rattle.hl_model.specs.Replies.{fault_of, unless_fault, answer_of, reply_of, extended, good_after, good, IsAccepted, replies_after}
use Rattle.hl_model.specs.Bases.{Base, slot_of, held_of, base_of}
use Rattle.hl_model.specs.AfterViews.{slot_after}
use Rattle.hl_model.specs.AfterPages.{held_after}
use Rattle.hl_model.specs.AfterReplies.{base_after, fault_at, answer_at, fault_after, reply_after, extended_from, good_past, good_from, replies_from}
use Rattle.hl_laws.specs.BaseLaws.{ListsMayBeCut, CutsAnywhere}
use Rattle.hl_laws.proofs.AcceptedLaws.{good_after-append, IsAccepted-push, IsAccepted-good}
use Rattle.hl_laws.proofs.AppendLaws.{gather-same}
use Rattle.hl_laws.proofs.CutActions.{waiting_after-is, taken_after-is}
use Rattle.hl_laws.proofs.CutFaults.{fault_at-is}
use Rattle.hl_laws.proofs.CutOffsets.{epoch_after-is, read_only_after-is, head_after-is, tail_after-is}
use Rattle.hl_laws.proofs.CutPages.{flushed_after-is, held_after-is, next_to_flush-is, next_to_clean-is}
use Rattle.hl_laws.proofs.CutReplies.{answer_at-is}
use Rattle.hl_laws.proofs.CutSettled.{safe_read_only_after-is, closed_after-is}
use Rattle.hl_laws.proofs.CutViews.{slot_after-is}
use Rattle.hl_laws.proofs.AcceptedLaws.{IsAccepted-front}
use Rattle.hl_laws.proofs.RowLaws.{rows_within}

-- six offsets, from these
same_six : (a b c d e f g h i j k l : ℕ) → a ≡ b → c ≡ d → e ≡ f → g ≡ h → i ≡ j → k ≡ l → ◌≡◌ {A = Six} (record { closed = a; head = c; flushed = e; safe_read_only = g; read_only = i; tail = k }) (record { closed = b; head = d; flushed = f; safe_read_only = h; read_only = j; tail = l })
same_six a b c d e f g h i j k l m n o p q r = rw (m, n, o, p, q, r) refl

-- a base, from its parts
same_base : (sizes : Sizes) (e f : ℕ) (s t : List (Option Slot)) (w x : List Waiting) (y z : List Waiting) (a b : Six) (g h : List (Option Held)) → e ≡ f → s ≡ t → w ≡ x → y ≡ z → a ≡ b → g ≡ h → ◌≡◌ {A = Base} (record { sizes = sizes; epoch = e; slots = s; waiting = w; taken = y; six = a; frames = g }) (record { sizes = sizes; epoch = f; slots = t; waiting = x; taken = z; six = b; frames = h })
same_base sizes e f s t w x y z a b g h i j k l m n = rw (i, j, k, l, m, n) refl

-- a base and the steps since have the base of the whole list
base_after-is : (sizes : Sizes) (A L : List Step) → IsAccepted sizes (A ++ L) → base_after (base_of sizes A) L ≡ base_of sizes (A ++ L)
unfolding base_after base_of
base_after-is sizes A L a =
    same_base sizes _ _ _ _ _ _ _ _ _ _ _ _
    (epoch_after-is sizes A L)
    (rows_within (λ t. slot_after (base_of sizes A) t L) (λ t. slot_of sizes t (A ++ L)) sizes.slots (λ t lt. slot_after-is sizes t A L lt))
    (waiting_after-is sizes A L (IsAccepted-front sizes A L a))
    (taken_after-is sizes A L (IsAccepted-front sizes A L a))
    (same_six _ _ _ _ _ _ _ _ _ _ _ _ (closed_after-is sizes A L a) (head_after-is sizes A L) (flushed_after-is sizes A L a) (safe_read_only_after-is sizes A L a) (read_only_after-is sizes A L) (tail_after-is sizes A L))
    (rows_within (held_after (base_of sizes A) L) (held_of sizes (A ++ L)) sizes.frames (λ f lt. held_after-is sizes A L f a))

-- the fault of a step more
fault_after-is : (sizes : Sizes) (A L : List Step) (s : Step) → IsAccepted sizes (A ++ L) → fault_after (base_of sizes A) L s ≡ fault_of sizes (A ++ L) s
fault_after-is sizes A L s a = ap (λ b. fault_at b s) (base_after-is sizes A L a) ∙ fault_at-is sizes (A ++ L) s a

-- replies whose answers are the same where there is no fault
unless_same : {X : Type 0} (o : Option Fault) (x y : X) → (o ≡ None → x ≡ y) → unless_fault o x ≡ unless_fault o y
unless_same None x y h = ap Ok (h refl)
unless_same (Some f) x y h = refl

-- the reply to a step more
reply_after-is : (sizes : Sizes) (A L : List Step) (s : Step) → IsAccepted sizes (A ++ L) → reply_after (base_of sizes A) L s ≡ reply_of sizes (A ++ L) s
reply_after-is sizes A L s a =
    ap (λ o. unless_fault o (answer_at (base_after (base_of sizes A) L) (base_after (base_of sizes A) (L ++ s ∷ [])) s)) (fault_after-is sizes A L s a)
    ∙ unless_same (fault_of sizes (A ++ L) s) (answer_at (base_after (base_of sizes A) L) (base_after (base_of sizes A) (L ++ s ∷ [])) s) (answer_of sizes (A ++ L) ((A ++ L) ++ s ∷ []) s) answers
  where
    whole : (A ++ L) ++ s ∷ [] ≡ A ++ (L ++ s ∷ [])
    whole = append_assoc A L (s ∷ [])

    answers : fault_of sizes (A ++ L) s ≡ None → answer_at (base_after (base_of sizes A) L) (base_after (base_of sizes A) (L ++ s ∷ [])) s ≡ answer_of sizes (A ++ L) ((A ++ L) ++ s ∷ []) s
    answers f =
        ap₂ (λ b c. answer_at b c s) (base_after-is sizes A L a)
        (base_after-is sizes A (L ++ s ∷ []) (subst (IsAccepted sizes) whole (IsAccepted-push sizes (A ++ L) s a f)) ∙ ap (base_of sizes) (sym whole))
        ∙ answer_at-is sizes (A ++ L) s a f

pub cuts_anywhere : CutsAnywhere
cuts_anywhere sizes A L a = record {
  base = base_after-is sizes A L a;
  fault = λ s. fault_after-is sizes A L s a;
  reply = λ s. reply_after-is sizes A L s a;
  to_flush = next_to_flush-is sizes A L a;
  to_clean = next_to_clean-is sizes A L a;
}

extended_core : (o : Option Fault) (A K : List Step) (s : Step) → cond (is_none o) ((A ++ K) ++ s ∷ []) (A ++ K) ≡ A ++ cond (is_none o) (K ++ s ∷ []) K
extended_core None A K s = append_assoc A K (s ∷ [])
extended_core (Some f) A K s = refl

-- one step more is accepted from the base as it is behind the list
extended-is : (sizes : Sizes) (A K : List Step) (s : Step) → IsAccepted sizes (A ++ K) → extended sizes (A ++ K) s ≡ A ++ extended_from (base_of sizes A) K s
extended-is sizes A K s a =
    extended_core (fault_of sizes (A ++ K) s) A K s
    ∙ ap (λ o. A ++ cond (is_none o) (K ++ s ∷ []) K) (sym (fault_after-is sizes A K s a))

-- an accepted list with one step, if that is accepted
IsAccepted-extended : (sizes : Sizes) (A : List Step) (s : Step) → IsAccepted sizes A → IsAccepted sizes (extended sizes A s)
IsAccepted-extended sizes A s a = by_fault (fault_of sizes A s) refl
  where
    by_fault : (o : Option Fault) → fault_of sizes A s ≡ o → IsAccepted sizes (cond (is_none o) (A ++ s ∷ []) A)
    by_fault None h = IsAccepted-push sizes A s a h
    by_fault (Some f) h = a

-- so are all that follow
good_past-is : (sizes : Sizes) (A K L : List Step) → IsAccepted sizes (A ++ K) → good_after sizes (A ++ K) L ≡ A ++ good_past (base_of sizes A) K L
unfolding good_after good_past
good_past-is sizes A K [] a = refl
good_past-is sizes A K (s ∷ L) a =
    ap (λ M. good_after sizes M L) (extended-is sizes A K s a)
    ∙ good_past-is sizes A (extended_from (base_of sizes A) K s) L
    (subst (IsAccepted sizes) (extended-is sizes A K s a) (IsAccepted-extended sizes (A ++ K) s a))

good_from-is : (sizes : Sizes) (A L : List Step) → IsAccepted sizes A → good sizes (A ++ L) ≡ A ++ good_from (base_of sizes A) L
unfolding good good_from
good_from-is sizes A L a =
    good_after-append sizes [] A L
    ∙ ap (λ M. good_after sizes M L) (a ∙ sym (append-nil A))
    ∙ good_past-is sizes A [] L (subst (IsAccepted sizes) (sym (append-nil A)) a)

-- and the whole is accepted
IsAccepted-from : (sizes : Sizes) (A L : List Step) → IsAccepted sizes A → IsAccepted sizes (A ++ good_from (base_of sizes A) L)
IsAccepted-from sizes A L a = subst (IsAccepted sizes) (good_from-is sizes A L a) (IsAccepted-good sizes (A ++ L))

replies_from-is : (sizes : Sizes) (A L : List Step) → IsAccepted sizes A → replies_from (base_of sizes A) L ≡ replies_after sizes A L
unfolding replies_from replies_after
replies_from-is sizes A L a =
    gather-same (λ before s. reply_after (base_of sizes A) (good_from (base_of sizes A) before) s ∷ []) (λ before s. reply_of sizes (good sizes (A ++ before)) s ∷ [])
    (λ before s. ap (λ r. r ∷ []) (reply_after-is sizes A (good_from (base_of sizes A) before) s (IsAccepted-from sizes A before a) ∙ ap (λ M. reply_of sizes M s) (sym (good_from-is sizes A before a)))) L

pub lists_may_be_cut : ListsMayBeCut
lists_may_be_cut sizes A L a = record {
  replies = replies_from-is sizes A L a;
  accepted = good_from-is sizes A L a;
  together = base_after-is sizes A (good_from (base_of sizes A) L) (IsAccepted-from sizes A L a) ∙ ap (base_of sizes) (sym (good_from-is sizes A L a));
}
