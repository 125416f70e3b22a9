-- What the epochs become when one step is put behind the list, and what holds of them in every list.
use Rattle.std.proofs.Common.{subst, append-nil, append_assoc, le_trans, le_refl, eq-eqb, ne_eqb, get_or, ◌≢◌, ◌≡◌, ℕ, ◌+◌, ◌<◌, ◌≤◌, Bool, true, false, cond, ltb, List, [], ◌∷◌, ◌++◌, length, take, refl, sym, ap, ◌∙◌, arith, take_all, lt-ltb, le-ltb, is_some, map, set}
use Rattle.std.specs.Prelude.{Option, Some, None}
use Rattle.std.specs.List.{filter_map, range_with_len}
use Rattle.std.proofs.lemmas.List.{length_push, take-append-le}
use Rattle.std.proofs.lemmas.Bool.{cond-true, cond-false}
use Rattle.hl_model.specs.declared.step.Step.{Step}
use Rattle.hl_model.specs.declared.step.Step.TheVariants.{Acquire, Refresh, Release, Bump, Settle, Close, Bare}
use Rattle.hl_model.specs.Lists.{until_last, least_or}
use Rattle.hl_model.specs.Epochs.{is_bump, enters, leaves, current_epoch, mark, is_protected, up_to_mark, epoch_of, slot_epoch, slot_epochs, safe_among, safe_epoch}
use Rattle.std.proofs.lemmas.List.FromFn.{length-map-range_with_len}
use Rattle.hl_model.proofs.ListLaws.{until_last-push, until_last-le, count_by-push, by_pushing, least_or-above, least_or-le, least_or-default}
use Rattle.hl_laws.proofs.RowLaws.{row_at, rows_same, rows_set, each-all, all-each}

-- a bump raises the current epoch by one, and no other step moves it
pub current_epoch-push : (A : List Step) (s : Step) → current_epoch (A ++ s ∷ []) ≡ current_epoch A + cond (is_bump s) 1 0
unfolding current_epoch
current_epoch-push A s = omega (arith, count_by-push is_bump A s)

-- a step that enters is no bump
pub enters-is_bump : (t : ℕ) (s : Step) → enters t s ≡ true → is_bump s ≡ false
enters-is_bump t (Bump tag) h = cc
enters-is_bump t Settle h = cc
enters-is_bump t Close h = cc
enters-is_bump t Bare h = cc
enters-is_bump t _ h = refl

-- a step that enters does not leave
pub enters-leaves : (t : ℕ) (s : Step) → enters t s ≡ true → leaves t s ≡ false
enters-leaves t (Release u) h = cc
enters-leaves t _ h = refl

-- a step that enters takes the current epoch
pub slot_epoch-enters : (t : ℕ) (A : List Step) (s : Step) → enters t s ≡ true → slot_epoch t (A ++ s ∷ []) ≡ Some (current_epoch A)
unfolding slot_epoch is_protected epoch_of up_to_mark mark
slot_epoch-enters t A s h =
    let place : until_last (enters t) (A ++ s ∷ []) ≡ length A + 1 = until_last-push (enters t) A s ∙ cond-true (enters t s) (length A + 1) (until_last (enters t) A) h in
    let left : until_last (leaves t) (A ++ s ∷ []) ≡ until_last (leaves t) A = until_last-push (leaves t) A s ∙ cond-false (leaves t s) (length A + 1) (until_last (leaves t) A) (enters-leaves t s h) in
    let later : ltb (until_last (leaves t) A) (length A + 1) ≡ true = lt-ltb (until_last (leaves t) A) (length A + 1) (omega (arith, until_last-le (leaves t) A)) in
    let all : take (length A + 1) (A ++ s ∷ []) ≡ A ++ s ∷ [] = take_all (length A + 1) (A ++ s ∷ []) (omega (arith, length_push A s)) in
    let same : current_epoch (A ++ s ∷ []) ≡ current_epoch A = current_epoch-push A s ∙ ap (λ b. current_epoch A + cond b 1 0) (enters-is_bump t s h) ∙ omega arith in
    rw (place, left, later, all, same) refl

-- a step that leaves ends the protection
pub slot_epoch-leaves : (t : ℕ) (A : List Step) (s : Step) → leaves t s ≡ true → enters t s ≡ false → slot_epoch t (A ++ s ∷ []) ≡ None
unfolding slot_epoch is_protected epoch_of up_to_mark mark
slot_epoch-leaves t A s h k =
    let place : until_last (enters t) (A ++ s ∷ []) ≡ until_last (enters t) A = until_last-push (enters t) A s ∙ cond-false (enters t s) (length A + 1) (until_last (enters t) A) k in
    let left : until_last (leaves t) (A ++ s ∷ []) ≡ length A + 1 = until_last-push (leaves t) A s ∙ cond-true (leaves t s) (length A + 1) (until_last (leaves t) A) h in
    let later : ltb (length A + 1) (until_last (enters t) A) ≡ false = le-ltb (length A + 1) (until_last (enters t) A) (omega (arith, until_last-le (enters t) A)) in
    rw (place, left, later) refl

-- any other step leaves the slot as it is
pub slot_epoch-stays : (t : ℕ) (A : List Step) (s : Step) → enters t s ≡ false → leaves t s ≡ false → slot_epoch t (A ++ s ∷ []) ≡ slot_epoch t A
unfolding slot_epoch is_protected epoch_of up_to_mark mark
slot_epoch-stays t A s k h =
    let place : until_last (enters t) (A ++ s ∷ []) ≡ until_last (enters t) A = until_last-push (enters t) A s ∙ cond-false (enters t s) (length A + 1) (until_last (enters t) A) k in
    let left : until_last (leaves t) (A ++ s ∷ []) ≡ until_last (leaves t) A = until_last-push (leaves t) A s ∙ cond-false (leaves t s) (length A + 1) (until_last (leaves t) A) h in
    let front : take (until_last (enters t) A) (A ++ s ∷ []) ≡ take (until_last (enters t) A) A = take-append-le (until_last (enters t) A) A (s ∷ []) (until_last-le (enters t) A) in
    rw (place, left, front) refl

-- what one step does to one slot
pub slot_epoch-push : (t : ℕ) (A : List Step) (s : Step) → slot_epoch t (A ++ s ∷ []) ≡ cond (enters t s) (Some (current_epoch A)) (cond (leaves t s) None (slot_epoch t A))
slot_epoch-push t A s = by_cases (enters t s) (leaves t s) refl refl
  where
    by_cases : (b c : Bool) → enters t s ≡ b → leaves t s ≡ c → slot_epoch t (A ++ s ∷ []) ≡ cond b (Some (current_epoch A)) (cond c None (slot_epoch t A))
    by_cases true c e l = slot_epoch-enters t A s e
    by_cases false true e l = slot_epoch-leaves t A s l e
    by_cases false false e l = slot_epoch-stays t A s e l

-- a step that moves no slot leaves the row
pub slot_epochs-stay : (n : ℕ) (A : List Step) (s : Step) → ((t : ℕ) → enters t s ≡ false) → ((t : ℕ) → leaves t s ≡ false) → slot_epochs n (A ++ s ∷ []) ≡ slot_epochs n A
unfolding slot_epochs
slot_epochs-stay n A s e l = rows_same (λ t. slot_epoch t (A ++ s ∷ [])) (λ t. slot_epoch t A) n (λ t. slot_epoch-stays t A s (e t) (l t))

-- a step by which slot i alone enters sets its place
pub slot_epochs-enter : (n : ℕ) (A : List Step) (s : Step) (i : ℕ) → enters i s ≡ true → ((t : ℕ) → t ≢ i → enters t s ≡ false) → ((t : ℕ) → leaves t s ≡ false) → slot_epochs n (A ++ s ∷ []) ≡ set (slot_epochs n A) i (Some (current_epoch A))
unfolding slot_epochs
slot_epochs-enter n A s i h e l =
    rows_set (λ t. slot_epoch t (A ++ s ∷ [])) (λ t. slot_epoch t A) n i (Some (current_epoch A)) (slot_epoch-enters i A s h)
    (λ t ne. slot_epoch-stays t A s (e t ne) (l t))

-- an acquire
pub slot_epochs-acquire : (n : ℕ) (A : List Step) (i : ℕ) → slot_epochs n (A ++ Acquire i ∷ []) ≡ set (slot_epochs n A) i (Some (current_epoch A))
slot_epochs-acquire n A i = slot_epochs-enter n A (Acquire i) i (eq-eqb i i refl) (λ t ne. ne_eqb i t (λ e. ne (sym e))) (λ t. refl)

-- a refresh
pub slot_epochs-refresh : (n : ℕ) (A : List Step) (i : ℕ) → slot_epochs n (A ++ Refresh i ∷ []) ≡ set (slot_epochs n A) i (Some (current_epoch A))
slot_epochs-refresh n A i = slot_epochs-enter n A (Refresh i) i (eq-eqb i i refl) (λ t ne. ne_eqb i t (λ e. ne (sym e))) (λ t. refl)

-- a release
pub slot_epochs-release : (n : ℕ) (A : List Step) (i : ℕ) → slot_epochs n (A ++ Release i ∷ []) ≡ set (slot_epochs n A) i None
unfolding slot_epochs
slot_epochs-release n A i =
    rows_set (λ t. slot_epoch t (A ++ Release i ∷ [])) (λ t. slot_epoch t A) n i None (slot_epoch-leaves i A (Release i) (eq-eqb i i refl) refl)
    (λ t ne. slot_epoch-stays t A (Release i) refl (ne_eqb i t (λ e. ne (sym e))))

-- there are n slots
pub length-slot_epochs : (n : ℕ) (A : List Step) → length (slot_epochs n A) ≡ n
unfolding slot_epochs
length-slot_epochs n A = length-map-range_with_len (λ t. slot_epoch t A) 0 n

-- the row at slot t
pub slot_epochs-at : (n : ℕ) (A : List Step) (t : ℕ) (d : Option ℕ) → t < n → get_or (slot_epochs n A) t d ≡ slot_epoch t A
unfolding slot_epochs
slot_epochs-at n A t d h = row_at (λ u. slot_epoch u A) n t d h

-- a slot has an epoch exactly where it is protected
pub is_protected-slot_epoch : (t : ℕ) (A : List Step) → is_protected t A ≡ is_some (slot_epoch t A)
unfolding slot_epoch
is_protected-slot_epoch t A = elim (is_protected t A) as (λ b. b ≡ is_some (cond b (Some (epoch_of t A)) None)) [ true ↦ refl | false ↦ refl ]

-- the epoch of a protected slot
pub epoch_of-slot_epoch : (t : ℕ) (A : List Step) (e : ℕ) → slot_epoch t A ≡ Some e → epoch_of t A ≡ e
unfolding slot_epoch
epoch_of-slot_epoch t A e = elim (is_protected t A) as (λ b. cond b (Some (epoch_of t A)) None ≡ Some e → epoch_of t A ≡ e) [ true ↦ (λ h. cc) | false ↦ (λ h. cc) ]

-- epochs start at 1
pub current_epoch-first : (A : List Step) → 1 ≤ current_epoch A
unfolding current_epoch
current_epoch-first A = omega arith

pub slot_epoch-nil : (t : ℕ) → slot_epoch t [] ≡ None
unfolding slot_epoch is_protected mark until_last
slot_epoch-nil t = refl

pub current_epoch-nil : current_epoch [] ≡ 1
unfolding current_epoch
current_epoch-nil = refl

-- the current epoch never falls
pub current_epoch-grows : (A : List Step) (s : Step) → current_epoch A ≤ current_epoch (A ++ s ∷ [])
current_epoch-grows A s = omega (arith, current_epoch-push A s)

-- the epochs of one list: each is at least 1, and at most the current one
pub slot_epoch-range : (t : ℕ) (A : List Step) (e : ℕ) → slot_epoch t A ≡ Some e → (1 ≤ e) × (e ≤ current_epoch A)
slot_epoch-range t = by_pushing (λ A. (e : ℕ) → slot_epoch t A ≡ Some e → (1 ≤ e) × (e ≤ current_epoch A)) none step
  where
    none : (e : ℕ) → slot_epoch t [] ≡ Some e → (1 ≤ e) × (e ≤ current_epoch [])
    none e h = let nobody : slot_epoch t [] ≡ None = slot_epoch-nil t in cc

    step : (A : List Step) (s : Step) → ((e : ℕ) → slot_epoch t A ≡ Some e → (1 ≤ e) × (e ≤ current_epoch A)) → (e : ℕ) → slot_epoch t (A ++ s ∷ []) ≡ Some e → (1 ≤ e) × (e ≤ current_epoch (A ++ s ∷ []))
    step A s h e is = by_cases (enters t s) (leaves t s) (sym (slot_epoch-push t A s) ∙ is)
      where
        by_cases : (b c : Bool) → cond b (Some (current_epoch A)) (cond c None (slot_epoch t A)) ≡ Some e → (1 ≤ e) × (e ≤ current_epoch (A ++ s ∷ []))
        by_cases true c k = let same : current_epoch A ≡ e = cc in (omega (arith, current_epoch-first A), omega (arith, current_epoch-grows A s))
        by_cases false true k = cc
        by_cases false false k = let old : (1 ≤ e) × (e ≤ current_epoch A) = h e k in (old.0, omega (arith, old.1, current_epoch-grows A s))

-- the epochs of the protected ones of n slots
abbrev epochs_held : ℕ → List Step → List ℕ
epochs_held n A = filter_map (λ epoch. epoch) (map (λ t. slot_epoch t A) (range_with_len 0 n))

-- the safe epoch is below the current one
pub safe_epoch-current : (n : ℕ) (A : List Step) → safe_epoch n A < current_epoch A
unfolding safe_epoch safe_among slot_epochs
safe_epoch-current n A =
    let least : least_or (current_epoch A) (epochs_held n A) ≤ current_epoch A
    = least_or-default (current_epoch A) (epochs_held n A) (each-all (λ x. x ≤ current_epoch A) (λ t. slot_epoch t A) 0 n (λ t e low high is. (slot_epoch-range t A e is).1)) in
    omega (arith, current_epoch-first A)

-- the safe epoch is below that of each protected slot
pub safe_epoch-below : (n : ℕ) (A : List Step) (t e : ℕ) → t < n → slot_epoch t A ≡ Some e → safe_epoch n A < e
unfolding safe_epoch safe_among slot_epochs
safe_epoch-below n A t e h is =
    let least : least_or (current_epoch A) (epochs_held n A) ≤ e
    = all-each (λ x. least_or (current_epoch A) (epochs_held n A) ≤ x) (λ t. slot_epoch t A) 0 n (least_or-le (current_epoch A) (epochs_held n A)) t e (omega arith) (omega arith) is in
    omega (arith, (slot_epoch-range t A e is).0)

-- what is below the current epoch and those of all protected slots is safe
pub safe_epoch-greatest : (n : ℕ) (A : List Step) (c : ℕ) → c < current_epoch A → ((t e : ℕ) → t < n → slot_epoch t A ≡ Some e → c < e) → c ≤ safe_epoch n A
unfolding safe_epoch safe_among slot_epochs
safe_epoch-greatest n A c h each =
    let least : c < least_or (current_epoch A) (epochs_held n A)
    = least_or-above c (current_epoch A) (epochs_held n A) h (each-all (λ x. c < x) (λ t. slot_epoch t A) 0 n (λ t e low high is. each t e (omega arith) is)) in
    omega arith

-- the safe epoch never falls
pub safe_epoch-push : (n : ℕ) (A : List Step) (s : Step) → safe_epoch n A ≤ safe_epoch n (A ++ s ∷ [])
safe_epoch-push n A s =
    safe_epoch-greatest n (A ++ s ∷ []) (safe_epoch n A) (omega (arith, safe_epoch-current n A, current_epoch-grows A s))
    (λ t e h is. by_cases t e h (enters t s) (leaves t s) (sym (slot_epoch-push t A s) ∙ is))
  where
    by_cases : (t e : ℕ) → t < n → (b c : Bool) → cond b (Some (current_epoch A)) (cond c None (slot_epoch t A)) ≡ Some e → safe_epoch n A < e
    by_cases t e h true c k = let same : current_epoch A ≡ e = cc in omega (arith, safe_epoch-current n A)
    by_cases t e h false true k = cc
    by_cases t e h false false k = safe_epoch-below n A t e h k

-- nor over many steps
pub safe_epoch-append : (n : ℕ) (A B : List Step) → safe_epoch n A ≤ safe_epoch n (A ++ B)
safe_epoch-append n A [] = subst (λ (L : List Step). safe_epoch n A ≤ safe_epoch n L) (sym (append-nil A)) (le_refl (safe_epoch n A))
safe_epoch-append n A (s ∷ B) =
    subst (λ (L : List Step). safe_epoch n A ≤ safe_epoch n L) (append_assoc A (s ∷ []) B)
    (le_trans (safe_epoch-push n A s) (safe_epoch-append n (A ++ s ∷ []) B))
