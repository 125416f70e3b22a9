-- What is known of a history, and what one step more makes of it.
use Rattle.std.proofs.Common.{◌≡◌, ◌<◌, ◌≤◌, ℕ, Bool, true, false, cond, length-append, List, [], ◌∷◌, ◌++◌, length, map, refl, sym, ap, ap₂, ◌∙◌, arith, subst, append_assoc, append-nil}
use Rattle.std.specs.Prelude.{Option, Some, None}
use Rattle.std.proofs.lemmas.List.{length-map}
use Rattle.hl_plain.specs.declared.pages.Mark.{Mark as Made}
use Rattle.hl_model.specs.declared.step.Step.{Step}
use Rattle.hl_model.specs.Sizes.{Sizes, AreNarrow}
use Rattle.hl_model.specs.Lists.{unroll, unroll_after}
use Rattle.hl_model.specs.Pages.{Mark, Out, Back, mark_if}
use Rattle.hl_model.specs.Snapshots.{six, AreInOrder}
use Rattle.hl_model.specs.Replies.{fault_of, IsAccepted}
use Rattle.hl_model.specs.Bases.{Base, IsBase, base_of}
use Rattle.hl_model.specs.AfterPages.{Begun, next_page_after, marks_after_step, marks_after, flushing_after, cleaning_after}
use Rattle.hl_model.specs.AfterReplies.{base_after, fault_after}
use Rattle.hl_model.proofs.ListLaws.{by_pushing, unroll-push}
use Rattle.hl_laws.proofs.OrderLaws.{offsets_are_in_order}
use Rattle.hl_laws.proofs.RunLaws.{flushed-append}
use Rattle.hl_laws.proofs.AcceptedLaws.{good-nil, IsAccepted-push}
use Rattle.hl_laws.proofs.LawProofs.{beginnings_are_accepted, current_is_at_most_last, drain_list_holds_them}
use Rattle.hl_laws.proofs.CutLaws.{cuts_anywhere}
use Rattle.hl_plain.specs.Bounds.{AreBounded}
use Rattle.hl_plain.specs.Histories.{History, begun, Follows, IsHistory}
use Rattle.hl_plain.specs.Kept.{AreKept}
use Rattle.hl_plain.specs.Presents.{ArePresent}
use Rattle.hl_plain.specs.Works.{as_mark, marks_in}

-- what is present is the base of the whole list
pub present_is : (h : History) (A : List Step) → Follows h A → base_after h.base h.steps ≡ base_of h.base.sizes (A ++ h.steps)
present_is h A f = ap (λ b. base_after b h.steps) f.base_is ∙ (cuts_anywhere h.base.sizes A h.steps f.accepted).base

-- a step meets the fault that it meets after the whole list
pub fault_is : (h : History) (A : List Step) (s : Step) → Follows h A → fault_after h.base h.steps s ≡ fault_of h.base.sizes (A ++ h.steps) s
fault_is h A s f = ap (λ b. fault_after b h.steps s) f.base_is ∙ (cuts_anywhere h.base.sizes A h.steps f.accepted).fault s

-- so a step that meets none is accepted there
pub Follows-push : (h : History) (A : List Step) (s : Step) (B : List Step) → Follows h A → fault_after h.base h.steps s ≡ None → B ≡ h.steps ++ s ∷ [] → Follows (record h { steps = B }) A
Follows-push h A s B f none grown = record {
  accepted = subst (IsAccepted h.base.sizes) (append_assoc A h.steps (s ∷ []) ∙ ap (λ L. A ++ L) (sym grown))
      (IsAccepted-push h.base.sizes (A ++ h.steps) s f.accepted (sym (fault_is h A s f) ∙ none));
  base_is = f.base_is;
}

pub IsHistory-push : (h : History) (s : Step) (B : List Step) → IsHistory h → fault_after h.base h.steps s ≡ None → B ≡ h.steps ++ s ∷ [] → IsHistory (record h { steps = B })
IsHistory-push h s B k none grown = record {
  narrow = k.narrow;
  before = k.before;
  follows = Follows-push h k.before s B k.follows none grown;
  opened = λ w. Follows-push h [] s B (k.opened w) none grown;
}

-- what bounds a base and the steps since
pub bounded : (h : History) → IsHistory h → AreBounded h.base h.steps
unfolding base_after base_of
bounded h k =
    let b = h.base in
    let B = k.before ++ h.steps in
    let is = present_is h k.before k.follows in
    let some : 0 < b.sizes.page_size = omega (arith, k.narrow.in_range.page_size_least) in
    let order : AreInOrder b.sizes.page_size (six b.sizes B) = offsets_are_in_order b.sizes B some k.follows.accepted in
    let holds = drain_list_holds_them b.sizes B k.follows.accepted in
    record {
      epoch_most = omega (arith, ap (λ (x : Base). x.epoch) k.follows.base_is, current_is_at_most_last b.sizes k.before (beginnings_are_accepted b.sizes k.before h.steps k.follows.accepted));
      tail = record { page_size_least = some; tail_most = omega (arith, ap (λ (x : Base). x.six.tail) is, order.tail_most) };
      flushed_least = omega (arith, ap (λ (x : Base). x.six.flushed) k.follows.base_is, ap (λ (x : Base). x.six.flushed) is, flushed-append b.sizes k.before h.steps);
      flushed_most = omega (arith, ap (λ (x : Base). x.six.flushed) is, order.flushed_most, order.safe_read_only_most, order.read_only_most, order.tail_most);
      waiting_most = omega (arith, ap (λ (x : Base). length x.waiting) is, holds.1, k.narrow.drain_few);
      taken_most = omega (arith, ap (λ (x : Base). length x.taken) is, holds.1, k.narrow.drain_few);
    }

-- so what is kept is present
pub present : (h : History) (flushes cleans : List Made) → AreKept h flushes cleans → ArePresent h.base h.steps flushes cleans
present h flushes cleans k = record { bounded = bounded h k.history; flushes_are = k.flushes_are; cleans_are = k.cleans_are }

-- a base of some list, before any step
pub IsHistory-base : (b : Base) → AreNarrow b.sizes → IsBase b → IsHistory (begun b false)
IsHistory-base b r h = record {
  narrow = r;
  before = h.steps;
  follows = record { accepted = subst (IsAccepted b.sizes) (sym (append-nil h.steps)) h.accepted; base_is = h.is };
  opened = λ w. cc;
}

-- the base of no steps
pub IsHistory-opening : (sizes : Sizes) → AreNarrow sizes → IsHistory (begun (base_of sizes []) true)
unfolding base_of
IsHistory-opening sizes r = record { narrow = r; before = []; follows = none; opened = λ w. none }
  where
    none : Follows (begun (base_of sizes []) true) []
    none = record { accepted = good-nil sizes; base_is = refl }

-- the marks of no steps
marks-none : (work : Begun) → marks_after work [] ≡ []
unfolding marks_after unroll unroll_after
marks-none work = refl

-- no step, with no marks
pub AreKept-begun : (b : Base) (w : Bool) (L : List Step) (flushes cleans : List Made) → IsHistory (begun b w) → L ≡ [] → flushes ≡ [] → cleans ≡ [] → AreKept (record { base = b; steps = L; has_words = w }) flushes cleans
AreKept-begun b w L flushes cleans k none f c = record {
  history = subst (λ (X : List Step). IsHistory (record { base = b; steps = X; has_words = w })) (sym none) k;
  flushes_are = ap (map as_mark) f ∙ sym (ap (marks_after (flushing_after b)) none ∙ marks-none (flushing_after b));
  cleans_are = ap (map as_mark) c ∙ sym (ap (marks_after (cleaning_after b)) none ∙ marks-none (cleaning_after b));
}

marks-push : (work : Begun) (L : List Step) (s : Step) → marks_after work (L ++ s ∷ []) ≡ marks_after work L ++ marks_after_step work L (marks_after work L) s
unfolding marks_after
marks-push work L s = unroll-push (marks_after_step work) L s

-- the marks with that of one step more
pub marks_kept : (work : Begun) (L : List Step) (s : Step) (B : List Step) (before after : List Made) (made : Option Made) → map as_mark before ≡ marks_after work L → marks_in made ≡ marks_after_step work L (map as_mark before) s → map as_mark after ≡ map as_mark before ++ marks_in made → B ≡ L ++ s ∷ [] → map as_mark after ≡ marks_after work B
marks_kept work L s B before after made kept new marked grown =
    marked ∙ ap₂ (λ xs ys. xs ++ ys) kept (new ∙ ap (λ l. marks_after_step work L l s) kept) ∙ sym (ap (marks_after work) grown ∙ marks-push work L s)

-- an accepted step, with its marks
pub AreKept-push : (h : History) (s : Step) (B : List Step) (F C G D : List Made) (flush clean : Option Made) → AreKept h F C → fault_after h.base h.steps s ≡ None → B ≡ h.steps ++ s ∷ []
    → marks_in flush ≡ marks_after_step (flushing_after h.base) h.steps (map as_mark F) s → map as_mark G ≡ map as_mark F ++ marks_in flush
    → marks_in clean ≡ marks_after_step (cleaning_after h.base) h.steps (map as_mark C) s → map as_mark D ≡ map as_mark C ++ marks_in clean
    → AreKept (record h { steps = B }) G D
AreKept-push h s B F C G D flush clean k none grown f g c d = record {
  history = IsHistory-push h s B k.history none grown;
  flushes_are = marks_kept (flushing_after h.base) h.steps s B F G flush k.flushes_are f g grown;
  cleans_are = marks_kept (cleaning_after h.base) h.steps s B C D clean k.cleans_are c d grown;
}

-- a step makes one mark at most
marks_of-le : (work : Begun) (L : List Step) (given : List Mark) (s : Step) → length (marks_after_step work L given s) ≤ 1
marks_of-le work L given s = by_test (work.work.takes s)
  where
    if_page : (mark : ℕ → Mark) (o : Option ℕ) → length (mark_if mark o) ≤ 1
    if_page mark None = omega arith
    if_page mark (Some p) = omega arith

    by_test : (b : Bool) → length (cond b (mark_if Out (next_page_after work L given)) (mark_if Back (work.work.ends s))) ≤ 1
    by_test true = if_page Out (next_page_after work L given)
    by_test false = if_page Back (work.work.ends s)

-- there are at most as many marks as steps
marks-le : (work : Begun) (L : List Step) → length (marks_after work L) ≤ length L
marks-le work = by_pushing (λ L. length (marks_after work L) ≤ length L) none push
  where
    none : length (marks_after work []) ≤ 0
    none = omega (arith, ap length (marks-none work))

    push : (L : List Step) (s : Step) → length (marks_after work L) ≤ length L → length (marks_after work (L ++ s ∷ [])) ≤ length (L ++ s ∷ [])
    push L s h =
        omega (arith, ap length (marks-push work L s), length-append (marks_after work L) (marks_after_step work L (marks_after work L) s), length-append L (s ∷ []), marks_of-le work L (marks_after work L) s, h)

-- so the rows of marks are no longer than the steps
pub flushes-le : (h : History) (flushes cleans : List Made) → AreKept h flushes cleans → length flushes ≤ length h.steps
flushes-le h flushes cleans k = omega (arith, length-map flushes as_mark, ap length k.flushes_are, marks-le (flushing_after h.base) h.steps)

pub cleans-le : (h : History) (flushes cleans : List Made) → AreKept h flushes cleans → length cleans ≤ length h.steps
cleans-le h flushes cleans k = omega (arith, length-map cleans as_mark, ap length k.cleans_are, marks-le (cleaning_after h.base) h.steps)
