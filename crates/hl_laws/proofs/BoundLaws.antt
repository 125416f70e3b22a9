-- The bounds of the offsets, the views and the places of every accepted list.
use Rattle.std.proofs.Common.{◌≡◌, ℕ, ◌+◌, ◌%◌, ◌^◌, ◌<◌, ◌≤◌, Bool, true, false, cond, List, [], ◌∷◌, ◌++◌, refl, sym, ap, ◌∙◌, subst, arith, append_assoc, eqb-true, le_refl, le_trans, ◌/◌, ◌-◌}
use Rattle.std.specs.Prelude.{◌==◌, Option, Some, None, unwrap_or}
use Rattle.std.specs.List.{AllByRecursion}
use Rattle.std.proofs.Math.Nat.{zero-mod}
use Rattle.hl_model.specs.declared.action.Kind.{Kind}
use Rattle.hl_model.specs.declared.action.Waiting.{Waiting}
use Rattle.hl_model.specs.declared.step.Step.{Step}
use Rattle.hl_model.specs.declared.step.Step.TheVariants.{Bump, Settle, Close, Raise, Shift, Allocate, Look, Write}
use Rattle.hl_model.specs.Sizes.{Sizes}
use Rattle.hl_model.specs.Epochs.{enters, leaves, current_epoch, is_protected, epoch_of, slot_epoch}
use Rattle.hl_model.specs.Actions.{action_of, actions, is_finished}
use Rattle.hl_model.specs.Offsets.{raised_to, shifted_to, read_only, head, place_of, tail_past, tail}
use Rattle.hl_model.specs.Settled.{settles, closes, done_greatest, safe_read_only, closed}
use Rattle.hl_model.specs.Views.{looked_read_only, looked_head, seen_read_only, seen_head, seen_tail}
use Rattle.hl_model.specs.Replies.{protected_fault, fault_of, IsAccepted}
use Rattle.hl_model.specs.Headline.{placed}
use Rattle.hl_model.proofs.ListLaws.{max-has, all-append, all-follows, never_falls}
use Rattle.hl_laws.proofs.AcceptedLaws.{IsAccepted-front, accepted_has}
use Rattle.hl_laws.proofs.EpochLaws.{slot_epoch-push, slot_epoch-nil, slot_epoch-range, safe_epoch-below}
use Rattle.hl_laws.proofs.ActionLaws.{action_of-ticket, actions-nil, actions-push}
use Rattle.hl_laws.proofs.DrainLaws.{finished-safe, protected-slot}
use Rattle.hl_laws.proofs.LawProofs.{slot_epoch-protected, accepted_meets_no_fault}
use Rattle.hl_laws.proofs.NoFaultLaws.{raise-none, shift-none, size-none, allocate-none, look-none, write-none, protected-none}
use Rattle.hl_laws.proofs.OffsetLaws.{read_only-push, head-push, tail-push, read_only-nil, head-nil, tail-nil, read_only-grows, head-grows, tail-grows, place_of-le, place_of-one_page}
use Rattle.hl_laws.proofs.SettledLaws.{done_greatest-grows, done_greatest-le, done_greatest-has, settles-le, closes-le}
use Rattle.hl_laws.proofs.ViewLaws.{seen, seen-enters, seen-push}

-- the safe read-only offset is at most the read-only offset
pub safe_read_only-le-read_only : (sizes : Sizes) (A : List Step) → IsAccepted sizes A → safe_read_only A ≤ read_only A
safe_read_only-le-read_only sizes A a =
    done_greatest-has (λ x. x ≤ read_only A) settles A (omega arith) (settles-le A)

-- the closed offset is at most the head
pub closed-le-head : (sizes : Sizes) (A : List Step) → IsAccepted sizes A → closed A ≤ head A
closed-le-head sizes A a =
    done_greatest-has (λ x. x ≤ head A) closes A (omega arith) (closes-le A)

-- a shift is to a whole number of pages
shifted_to-whole : (sizes : Sizes) (A : List Step) (s : Step) → fault_of sizes A s ≡ None → shifted_to s % sizes.page_size ≡ 0
shifted_to-whole sizes A (Shift x) h = (shift-none sizes A x h).1
shifted_to-whole sizes A _ h = zero-mod sizes.page_size

-- the head is a whole number of pages
pub head-whole : (sizes : Sizes) (A : List Step) → IsAccepted sizes A → head A % sizes.page_size ≡ 0
head-whole sizes = accepted_has sizes (λ A. head A % sizes.page_size ≡ 0) (ap (λ x. x % sizes.page_size) head-nil ∙ zero-mod sizes.page_size)
    (λ A s a h before. ap (λ x. x % sizes.page_size) (head-push A s) ∙ max-has (λ x. x % sizes.page_size ≡ 0) (head A) (shifted_to s) before (shifted_to-whole sizes A s h))

-- and so a close stores one
stores-whole : (sizes : Sizes) (A : List Step) (s : Step) → head A % sizes.page_size ≡ 0 → AllByRecursion (λ w. closes w.kind % sizes.page_size ≡ 0) (action_of A s)
stores-whole sizes A (Bump tag) h = (zero-mod sizes.page_size, tt)
stores-whole sizes A Settle h = (zero-mod sizes.page_size, tt)
stores-whole sizes A Close h = (h, tt)
stores-whole sizes A _ h = tt

-- so is what each close of the list stored
pub closes-whole : (sizes : Sizes) (A : List Step) → IsAccepted sizes A → AllByRecursion (λ w. closes w.kind % sizes.page_size ≡ 0) (actions A)
closes-whole sizes = accepted_has sizes (λ A. AllByRecursion (λ w. closes w.kind % sizes.page_size ≡ 0) (actions A)) none
    (λ A s a h before. subst (AllByRecursion (λ w. closes w.kind % sizes.page_size ≡ 0)) (sym (actions-push A s))
    (all-append (λ w. closes w.kind % sizes.page_size ≡ 0) (actions A) (action_of A s) before (stores-whole sizes A s (head-whole sizes A a))))
  where
    none : AllByRecursion (λ w. closes w.kind % sizes.page_size ≡ 0) (actions [])
    none = subst (AllByRecursion (λ w. closes w.kind % sizes.page_size ≡ 0)) (sym actions-nil) tt

-- and so is the closed offset
pub closed-whole : (sizes : Sizes) (A : List Step) → IsAccepted sizes A → closed A % sizes.page_size ≡ 0
closed-whole sizes A a = done_greatest-has (λ x. x % sizes.page_size ≡ 0) closes A (zero-mod sizes.page_size) (closes-whole sizes A a)

-- a raise is to the tail at most
raised_to-le : (sizes : Sizes) (A : List Step) (s : Step) → fault_of sizes A s ≡ None → raised_to s ≤ tail sizes A
raised_to-le sizes A (Raise x) h = (raise-none sizes A x h).1
raised_to-le sizes A _ h = omega arith

-- the read-only offset is at most the tail
pub read_only-le-tail : (sizes : Sizes) (A : List Step) → 0 < sizes.page_size → IsAccepted sizes A → read_only A ≤ tail sizes A
read_only-le-tail sizes A page_size = accepted_has sizes (λ A. read_only A ≤ tail sizes A) (omega (arith, read_only-nil))
    (λ A s a h before. omega (arith, before, read_only-push A s, raised_to-le sizes A s h, tail-grows sizes A s page_size)) A

-- no record ends above the last address
tail_past-most : (sizes : Sizes) (A : List Step) (s : Step) → fault_of sizes A s ≡ None → tail sizes A ≤ 2 ^ 48 → tail_past sizes.page_size (tail sizes A) s ≤ 2 ^ 48
tail_past-most sizes A (Allocate t n) h before = (size-none sizes.page_size (tail sizes A) n (allocate-none sizes A t n h).1).2
tail_past-most sizes A _ h before = before

-- the tail is at most 2^48
pub tail-le : (sizes : Sizes) (A : List Step) → IsAccepted sizes A → tail sizes A ≤ 2 ^ 48
tail-le sizes = accepted_has sizes (λ A. tail sizes A ≤ 2 ^ 48) (omega (arith, tail-nil sizes))
    (λ A s a h before. omega (arith, tail-push sizes A s, tail_past-most sizes A s h before))

-- the read-only offset never falls
pub read_only-append : (sizes : Sizes) (A B : List Step) → IsAccepted sizes (A ++ B) → read_only A ≤ read_only (A ++ B)
read_only-append sizes A B a = never_falls read_only read_only-grows A B

-- nor the head
pub head-append : (sizes : Sizes) (A B : List Step) → IsAccepted sizes (A ++ B) → head A ≤ head (A ++ B)
head-append sizes A B a = never_falls head head-grows A B

-- nor the tail
pub tail-append : (sizes : Sizes) (A B : List Step) → 0 < sizes.page_size → IsAccepted sizes (A ++ B) → tail sizes A ≤ tail sizes (A ++ B)
tail-append sizes A B page_size a = never_falls (tail sizes) (λ C s. tail-grows sizes C s page_size) A B

-- nor the safe read-only offset
pub safe_read_only-append : (sizes : Sizes) (A B : List Step) → IsAccepted sizes (A ++ B) → safe_read_only A ≤ safe_read_only (A ++ B)
safe_read_only-append sizes A B a = never_falls safe_read_only (done_greatest-grows settles) A B

-- nor the closed offset
pub closed-append : (sizes : Sizes) (A B : List Step) → IsAccepted sizes (A ++ B) → closed A ≤ closed (A ++ B)
closed-append sizes A B a = never_falls closed (done_greatest-grows closes) A B

-- where an action has a lower ticket than e, it stored y at most
abbrev IsCovered : (Kind → ℕ) → ℕ → ℕ → Waiting → Type 0
IsCovered stored e y w = w.ticket < e → stored w.kind ≤ y

-- no action stored more than the offset of its time
abbrev StoresOffset : (Kind → ℕ) → (List Step → ℕ) → Type 0
StoresOffset stored offset = (A : List Step) → AllByRecursion (λ w. stored w.kind ≤ offset A) (actions A)

-- no look of slot t brings a lower offset than it saw
abbrev LooksUp : Sizes → (ℕ → Step → Option ℕ) → (List Step → ℕ) → ℕ → Type 0
LooksUp sizes looked offset t = (A : List Step) (s : Step) → fault_of sizes A s ≡ None → seen looked offset t A ≤ unwrap_or (looked t s) (seen looked offset t A)

-- a slot that enters sees the offset, and no action stored more
covered-enters : (stored : Kind → ℕ) (looked : ℕ → Step → Option ℕ) (offset : List Step → ℕ) (t e : ℕ) (A : List Step) (s : Step) → StoresOffset stored offset → enters t s ≡ true → AllByRecursion (IsCovered stored e (seen looked offset t (A ++ s ∷ []))) (actions (A ++ s ∷ []))
covered-enters stored looked offset t e A s stores h =
    all-follows (λ w. stored w.kind ≤ offset (A ++ s ∷ [])) (IsCovered stored e (seen looked offset t (A ++ s ∷ []))) (actions (A ++ s ∷ []))
    (λ w le lt. omega (arith, le, seen-enters looked offset t A s h)) (stores (A ++ s ∷ []))

-- later it sees no less, and what is stored then has no lower ticket than its epoch
covered-stays : (sizes : Sizes) (stored : Kind → ℕ) (looked : ℕ → Step → Option ℕ) (offset : List Step → ℕ) (t e : ℕ) (A : List Step) (s : Step) → LooksUp sizes looked offset t → fault_of sizes A s ≡ None → enters t s ≡ false → e ≤ current_epoch A → AllByRecursion (IsCovered stored e (seen looked offset t A)) (actions A) → AllByRecursion (IsCovered stored e (seen looked offset t (A ++ s ∷ []))) (actions (A ++ s ∷ []))
covered-stays sizes stored looked offset t e A s looks h out epoch before =
    subst (AllByRecursion (IsCovered stored e (seen looked offset t (A ++ s ∷ [])))) (sym (actions-push A s))
    (all-append (IsCovered stored e (seen looked offset t (A ++ s ∷ []))) (actions A) (action_of A s)
    (all-follows (IsCovered stored e (seen looked offset t A)) (IsCovered stored e (seen looked offset t (A ++ s ∷ []))) (actions A)
    (λ w old lt. omega (arith, old lt, looks A s h, seen-push looked offset t A s out)) before)
    (all-follows (λ w. w.ticket ≡ current_epoch A) (IsCovered stored e (seen looked offset t (A ++ s ∷ []))) (action_of A s)
    (λ w same lt. absurd (omega (arith, same, lt, epoch))) (action_of-ticket A s)))

-- what a slot saw is at least what the actions with lower tickets than its epoch stored, if it is protected
abbrev Covers : (Kind → ℕ) → (ℕ → Step → Option ℕ) → (List Step → ℕ) → ℕ → List Step → Type 0
Covers stored looked offset t A = (e : ℕ) → slot_epoch t A ≡ Some e → AllByRecursion (IsCovered stored e (seen looked offset t A)) (actions A)

-- so it is in every accepted list
covered : (sizes : Sizes) (stored : Kind → ℕ) (looked : ℕ → Step → Option ℕ) (offset : List Step → ℕ) (t : ℕ) → StoresOffset stored offset → LooksUp sizes looked offset t → (A : List Step) → IsAccepted sizes A → Covers stored looked offset t A
covered sizes stored looked offset t stores looks = accepted_has sizes (Covers stored looked offset t) (λ e h. let nobody : slot_epoch t [] ≡ None = slot_epoch-nil t in cc) step
  where
    step : (A : List Step) (s : Step) → IsAccepted sizes A → fault_of sizes A s ≡ None → Covers stored looked offset t A → Covers stored looked offset t (A ++ s ∷ [])
    step A s a h before e is = by_test (enters t s) (leaves t s) refl (sym (slot_epoch-push t A s) ∙ is)
      where
        by_test : (b c : Bool) → enters t s ≡ b → cond b (Some (current_epoch A)) (cond c None (slot_epoch t A)) ≡ Some e → AllByRecursion (IsCovered stored e (seen looked offset t (A ++ s ∷ []))) (actions (A ++ s ∷ []))
        by_test true c f k = covered-enters stored looked offset t e A s stores f
        by_test false true f k = cc
        by_test false false f k = covered-stays sizes stored looked offset t e A s looks h f (slot_epoch-range t A e k).1 (before e k)

-- a done ticket is lower than the epoch of each protected slot
done-below : (sizes : Sizes) (A : List Step) (t c : ℕ) → IsAccepted sizes A → is_protected t A ≡ true → is_finished c A ≡ true → c < epoch_of t A
done-below sizes A t c a p done =
    let seated : slot_epoch t A ≡ Some (epoch_of t A) = slot_epoch-protected t A p in
    omega (arith, finished-safe sizes A c a done, safe_epoch-below sizes.slots A t (epoch_of t A) (protected-slot sizes t A a (epoch_of t A) seated) seated)

-- so what is settled is at most what a protected slot saw
settled-seen : (sizes : Sizes) (stored : Kind → ℕ) (looked : ℕ → Step → Option ℕ) (offset : List Step → ℕ) (A : List Step) (t : ℕ) → StoresOffset stored offset → LooksUp sizes looked offset t → IsAccepted sizes A → is_protected t A ≡ true → done_greatest stored A ≤ seen looked offset t A
settled-seen sizes stored looked offset A t stores looks a p =
    done_greatest-le stored (seen looked offset t A) A
    (all-follows (IsCovered stored (epoch_of t A) (seen looked offset t A)) (λ w. is_finished w.ticket A ≡ true → stored w.kind ≤ seen looked offset t A) (actions A)
    (λ w h done. h (done-below sizes A t w.ticket a p done))
    (covered sizes stored looked offset t stores looks A a (epoch_of t A) (slot_epoch-protected t A p)))

-- what may bring no lower number
brings : (test : Bool) (x y : ℕ) → (test ≡ true → y ≤ x) → y ≤ unwrap_or (cond test (Some x) None) y
brings true x y h = h refl
brings false x y h = le_refl y

-- no look brings a lower read-only offset than its slot saw
looks-read_only : (sizes : Sizes) (t : ℕ) (A : List Step) (s : Step) → fault_of sizes A s ≡ None → seen_read_only t A ≤ unwrap_or (looked_read_only t s) (seen_read_only t A)
looks-read_only sizes t A (Look u r h) accepted =
    brings (u == t) r (seen_read_only t A) (λ e. subst (λ (i : ℕ). seen_read_only i A ≤ r) (eqb-true u t e) (look-none sizes A u r h accepted).1)
looks-read_only sizes t A _ accepted = le_refl (seen_read_only t A)

-- nor a lower head
looks-head : (sizes : Sizes) (t : ℕ) (A : List Step) (s : Step) → fault_of sizes A s ≡ None → seen_head t A ≤ unwrap_or (looked_head t s) (seen_head t A)
looks-head sizes t A (Look u r h) accepted =
    brings (u == t) h (seen_head t A) (λ e. subst (λ (i : ℕ). seen_head i A ≤ h) (eqb-true u t e) (look-none sizes A u r h accepted).2)
looks-head sizes t A _ accepted = le_refl (seen_head t A)

-- what a protected slot saw is not below what is settled
pub views_are_bounded : (sizes : Sizes) (A : List Step) (t : ℕ) → IsAccepted sizes A → is_protected t A ≡ true → (safe_read_only A ≤ seen_read_only t A) × (closed A ≤ seen_head t A)
unfolding seen_read_only seen_head
views_are_bounded sizes A t a p = (
  settled-seen sizes settles looked_read_only read_only A t settles-le (looks-read_only sizes t) a p,
  settled-seen sizes closes looked_head head A t closes-le (looks-head sizes t) a p,
)

-- nor does it write below that
pub writes_are_above_safe_read_only : (sizes : Sizes) (X : List Step) (t a v : ℕ) (Y : List Step) → IsAccepted sizes (X ++ Write t a v ∷ Y) → safe_read_only X ≤ a
writes_are_above_safe_read_only sizes X t a v Y accepted =
    let lawful : (protected_fault sizes X t ≡ None) × (seen_read_only t X ≤ a) × (a < seen_tail sizes t X) = write-none sizes X t a v (accepted_meets_no_fault sizes X (Write t a v) Y accepted) in
    le_trans (views_are_bounded sizes X t (IsAccepted-front sizes X (Write t a v ∷ Y) accepted) (protected-none sizes X t lawful.0).1).0 lawful.1

-- an allocation of an accepted list is of some words, and of no more than a page has
allocated : (sizes : Sizes) (X : List Step) (t n : ℕ) (Y : List Step) → IsAccepted sizes (X ++ Allocate t n ∷ Y) → (0 < n) × (n ≤ sizes.page_size) × (place_of sizes.page_size (tail sizes X) n + n ≤ 2 ^ 48)
allocated sizes X t n Y accepted = size-none sizes.page_size (tail sizes X) n (allocate-none sizes X t n (accepted_meets_no_fault sizes X (Allocate t n) Y accepted)).1

-- each record is on one page
pub places_are_on_one_page : (sizes : Sizes) (X : List Step) (t n : ℕ) (Y : List Step) → 0 < sizes.page_size → IsAccepted sizes (X ++ Allocate t n ∷ Y) → placed sizes X n / sizes.page_size ≡ (placed sizes X n + n - 1) / sizes.page_size
places_are_on_one_page sizes X t n Y page_size accepted =
    let size : (0 < n) × (n ≤ sizes.page_size) × (place_of sizes.page_size (tail sizes X) n + n ≤ 2 ^ 48) = allocated sizes X t n Y accepted in
    place_of-one_page sizes.page_size (tail sizes X) n page_size size.0 size.1

-- and behind those before
pub places_are_apart : (sizes : Sizes) (X : List Step) (t n : ℕ) (Y : List Step) (u m : ℕ) (Z : List Step) → 0 < sizes.page_size → IsAccepted sizes ((X ++ Allocate t n ∷ Y) ++ Allocate u m ∷ Z) → placed sizes X n + n ≤ placed sizes (X ++ Allocate t n ∷ Y) m
places_are_apart sizes X t n Y u m Z page_size accepted =
    let later : tail sizes (X ++ Allocate t n ∷ []) ≤ tail sizes (X ++ Allocate t n ∷ Y)
    = subst (λ (L : List Step). tail sizes (X ++ Allocate t n ∷ []) ≤ tail sizes L) (append_assoc X (Allocate t n ∷ []) Y) (never_falls (tail sizes) (λ C s. tail-grows sizes C s page_size) (X ++ Allocate t n ∷ []) Y) in
    omega (arith, tail-push sizes X (Allocate t n), later, place_of-le sizes.page_size (tail sizes (X ++ Allocate t n ∷ Y)) m page_size)
