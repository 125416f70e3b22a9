-- What is known of a base near the last steps.
use Rattle.std.proofs.Common.{◌≡◌, ◌-◌, ◌≤◌, ℕ, arith, false, List, [], ◌∷◌, ◌++◌, length, take, drop, refl, sym, ap, ap₂, ◌∙◌, inl, subst, append_assoc, append-nil}
use Rattle.std.specs.Prelude.{None, Ok}
use Rattle.std.proofs.lemmas.List.{take-append-drop, drop-append-le, take-append-le, take_all, length-drop}
use Rattle.hl_plain.specs.declared.near.Near.{Near}
use Rattle.hl_model.specs.declared.step.Step.{Step}
use Rattle.hl_model.specs.Sizes.{Sizes, AreNarrow}
use Rattle.hl_model.specs.declared.step.Reply.{Reply}
use Rattle.hl_model.specs.Replies.{IsAccepted, unless_fault}
use Rattle.hl_model.specs.Bases.{Base, IsBase, base_of}
use Rattle.hl_model.specs.AfterReplies.{base_after, fault_after, answer_at}
use Rattle.hl_laws.proofs.LawProofs.{beginnings_are_accepted}
use Rattle.hl_laws.proofs.CutLaws.{cuts_anywhere}
use Rattle.hl_plain.specs.Histories.{History, begun, Follows, IsHistory, worded, answer_in, result_in, unless_met, Answers}
use Rattle.hl_plain.specs.Kept.{behind, present_by, IsAt}
use Rattle.hl_plain.proofs.HistoryLaws.{present_is, IsHistory-base, IsHistory-push}

-- the sizes stay
pub sizes_after : (b : Base) (L : List Step) → (base_after b L).sizes ≡ b.sizes
unfolding base_after
sizes_after b L = refl

-- the list and the first of the steps are accepted
front : (h : History) (A : List Step) (k : ℕ) → Follows h A → Follows (record h { steps = take k h.steps }) A
front h A k f = record {
  accepted = beginnings_are_accepted h.base.sizes (A ++ take k h.steps) (drop k h.steps)
      (subst (IsAccepted h.base.sizes) (ap (λ L. A ++ L) (sym (take-append-drop k h.steps)) ∙ sym (append_assoc A (take k h.steps) (drop k h.steps))) f.accepted);
  base_is = f.base_is;
}

-- so the steps behind the base after the first go on from these
Follows-behind : (h : History) (A : List Step) (near : Near) → Follows h A → IsAt h.base h.steps near → Follows (behind near h.steps) (A ++ take near.since h.steps)
Follows-behind h A near f at = record {
  accepted = subst (λ (s : Sizes). IsAccepted s ((A ++ take near.since h.steps) ++ drop near.since h.steps)) (sym same)
      (subst (IsAccepted h.base.sizes) (ap (λ L. A ++ L) (sym (take-append-drop near.since h.steps)) ∙ sym (append_assoc A (take near.since h.steps) (drop near.since h.steps))) f.accepted);
  base_is = at ∙ present_is (record h { steps = take near.since h.steps }) A (front h A near.since f) ∙ ap (λ s. base_of s (A ++ take near.since h.steps)) (sym same);
}
  where
    same : near.base.sizes ≡ h.base.sizes
    same = ap (λ (b : Base). b.sizes) at ∙ sizes_after h.base (take near.since h.steps)

-- what is present by it is what is present
pub present_by_is : (h : History) (near : Near) → IsHistory h → IsAt h.base h.steps near → present_by near h.steps ≡ base_after h.base h.steps
present_by_is h near k at =
    present_is (behind near h.steps) (k.before ++ take near.since h.steps) (Follows-behind h k.before near k.follows at)
    ∙ ap (λ s. base_of s ((k.before ++ take near.since h.steps) ++ drop near.since h.steps)) same
    ∙ ap (base_of h.base.sizes) (append_assoc k.before (take near.since h.steps) (drop near.since h.steps) ∙ ap (λ L. k.before ++ L) (take-append-drop near.since h.steps))
    ∙ sym (present_is h k.before k.follows)
  where
    same : near.base.sizes ≡ h.base.sizes
    same = ap (λ (b : Base). b.sizes) at ∙ sizes_after h.base (take near.since h.steps)

-- what is present is the base of an accepted list
pub IsBase-present : (h : History) → IsHistory h → IsBase (base_after h.base h.steps)
IsBase-present h k = record {
  steps = k.before ++ h.steps;
  accepted = subst (λ (s : Sizes). IsAccepted s (k.before ++ h.steps)) (sym (sizes_after h.base h.steps)) k.follows.accepted;
  is = present_is h k.before k.follows ∙ ap (λ s. base_of s (k.before ++ h.steps)) (sym (sizes_after h.base h.steps));
}

-- so steps may go on from it
pub IsHistory-present : (h : History) → IsHistory h → IsHistory (begun (base_after h.base h.steps) false)
IsHistory-present h k = IsHistory-base (base_after h.base h.steps) (subst AreNarrow (sym (sizes_after h.base h.steps)) k.narrow) (IsBase-present h k)

-- a base is that after no step
pub none_since : (b : Base) → IsBase b → base_after b [] ≡ b
none_since b k =
    ap (λ x. base_after x []) k.is
    ∙ (cuts_anywhere b.sizes k.steps [] (subst (IsAccepted b.sizes) (sym (append-nil k.steps)) k.accepted)).base
    ∙ ap (base_of b.sizes) (append-nil k.steps) ∙ sym k.is

-- a step more, which the near base stays before
pub IsAt-push : (h : History) (near after : Near) (s : Step) (M : List Step) → near.since ≤ length h.steps → IsAt h.base h.steps near → after.base ≡ near.base → after.since ≡ near.since → M ≡ h.steps ++ s ∷ [] → IsAt h.base M after
IsAt-push h near after s M within at base since grown =
    base ∙ at ∙ ap (base_after h.base) (sym (ap₂ take since grown ∙ take-append-le near.since h.steps (s ∷ []) within))

-- so what is present by it stays what is present
pub present_by-push : (h : History) (near after : Near) (s : Step) (M : List Step) → IsHistory h → fault_after h.base h.steps s ≡ None → near.since ≤ length h.steps → IsAt h.base h.steps near → after.base ≡ near.base → after.since ≡ near.since → M ≡ h.steps ++ s ∷ [] → present_by after M ≡ base_after h.base M
present_by-push h near after s M k none within at base since grown =
    present_by_is (record h { steps = M }) after (IsHistory-push h s M k none grown) (IsAt-push h near after s M within at base since grown)

-- and what it is answered by them is the answer
pub answer_by : (h : History) (near after : Near) (s : Step) (M : List Step) (reply : Reply) → IsHistory h → fault_after h.base h.steps s ≡ None → near.since ≤ length h.steps → IsAt h.base h.steps near → after.base ≡ near.base → after.since ≡ near.since → M ≡ h.steps ++ s ∷ []
    → reply ≡ answer_at (present_by near h.steps) (present_by after M) s → worded h.has_words h.steps s reply ≡ answer_in h s
answer_by h near after s M reply k none within at base since grown is =
    ap (worded h.has_words h.steps s)
    (is ∙ ap₂ (λ x y. answer_at x y s) (present_by_is h near k at) (present_by-push h near after s M k none within at base since grown ∙ ap (base_after h.base) grown))

-- an accepted step is answered so
pub told_is : (h : History) (s : Step) (r : Reply) → fault_after h.base h.steps s ≡ None → r ≡ answer_in h s → Ok r ≡ result_in h s
told_is h s r none is = ap Ok is ∙ sym (ap (λ o. unless_fault o (answer_in h s)) none)

pub Answers-accepted : (h : History) (s : Step) (M : List Step) (r : Reply) → fault_after h.base h.steps s ≡ None → M ≡ h.steps ++ s ∷ [] → Ok r ≡ result_in h s → Answers h s (Ok r) (record h { steps = M })
Answers-accepted h s M r none grown is = inl (is, ap (λ X. record h { steps = X }) grown ∙ sym (ap (λ o. unless_met o s h) none))

-- the steps behind it, as a slice
pub rest_is : (L : List Step) (k : ℕ) → take (length L - k) (drop k L) ≡ drop k L
rest_is L k = take_all (length L - k) (drop k L) (omega (arith, length-drop k L))

-- the steps behind it with one more
pub rest-push : (L M : List Step) (k : ℕ) (s : Step) → k ≤ length L → M ≡ L ++ s ∷ [] → drop k M ≡ drop k L ++ s ∷ []
rest-push L M k s within grown = ap (drop k) grown ∙ drop-append-le k L (s ∷ []) within
