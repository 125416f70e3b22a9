-- What a load finds where one rider alone stores into a cell.
use Rattle.std.proofs.Common.{◌≡◌, ◌≢◌, ℕ, zero, suc, ◌<◌, ◌≤◌, ◌==◌, ◌⊎◌, Bool, true, false, List, [], ◌∷◌, ◌++◌, length, Some, None, slice_get, refl, ap, sym, ◌∙◌, inl, inr, ⊎_elim, subst, arith, append_assoc, length-append}
use Rattle.std.specs.Prelude.{if◌then◌else◌, unwrap_or}
use Rattle.std.specs.List.{AllByRecursion as Every}
use Rattle.std.proofs.lemmas.Bool.{eqb-true, cases_eq}
use Rattle.std.proofs.lemmas.List.{append-nil}
use Rattle.hl_words.specs.declared.view.Extent.{Extent}
use Rattle.hl_words.specs.declared.view.Touch.{Touch}
use Rattle.hl_words.specs.declared.view.Touch.TheVariants.{Loaded, Called}
use Rattle.hl_words.specs.declared.view.RiderView.{RiderView}
use Rattle.hl_words.specs.Rule.{last_store, TouchBy, by_rider, held, touches_of, HasOneOrder}
use Rattle.hl_words.specs.Past.{HasOnly, HasNoCalls, LoadsOfOne, LoadsOfTold, LoadsOfOneBetween, BeginsAfter, IsQuietBetween, LoadsOfNewest}
use Rattle.hl_words.proofs.Cut.{every_back}
use Rattle.hl_words.proofs.Orders.{there, own_more}
use Rattle.hl_words.proofs.Lawful.{Puts, Passes, puts_or_passes, last_either}
use Rattle.hl_words.proofs.PastProofs.{after_call, cut_at, loads_after_met, touches_both}

-- touches that store nothing into the cell
pub none_end : (c : ℕ) (xs ys : List Touch) → last_store c (xs ++ ys) ≡ None → last_store c ys ≡ None
none_end c [] ys e = e
none_end c (t ∷ xs) ys e =
    ⊎_elim
    (λ (p : Puts c t). let no : Some p.value ≡ None = sym (p.last (xs ++ ys)) ∙ e in absurd (cc no))
    (λ (p : Passes c t). none_end c xs ys (sym (p.last (xs ++ ys)) ∙ e))
    (puts_or_passes c t)

-- where one rider alone stores into the cell, it holds that rider's newest store
of_one : (c j : ℕ) (order : List TouchBy) → ((k : ℕ) → k ≢ j → last_store c (touches_of k order) ≡ None) → held c order ≡ unwrap_or (last_store c (touches_of j order)) 0
of_one c j [] others = refl
of_one c j (t ∷ before) others = ⊎_elim puts (passes (λ h. of_one c j before h)) (puts_or_passes c t.touch)
  where
    puts : Puts c t.touch → held c (t ∷ before) ≡ unwrap_or (last_store c (touches_of j (t ∷ before))) 0
    puts p =
        let own : last_store c (touches_of t.rider (t ∷ before)) ≡ Some p.value = ap (last_store c) (own_more t.rider t.touch before) ∙ p.last (touches_of t.rider before) in
        ⊎_elim
        (λ (same : t.rider ≡ j). p.leaves (held c before) ∙ sym (ap (λ o. unwrap_or o 0) (subst (λ (k : ℕ). last_store c (touches_of k (t ∷ before)) ≡ Some p.value) same own)))
        (λ (apart : t.rider ≢ j). let no : Some p.value ≡ None = sym own ∙ others t.rider apart in absurd (cc no))
        (cases_eq t.rider j)

    passes : (((k : ℕ) → k ≢ j → last_store c (touches_of k before) ≡ None) → held c before ≡ unwrap_or (last_store c (touches_of j before)) 0) → Passes c t.touch → held c (t ∷ before) ≡ unwrap_or (last_store c (touches_of j (t ∷ before))) 0
    passes sooner p =
        let same : (k : ℕ) → last_store c (touches_of k (t ∷ before)) ≡ last_store c (touches_of k before) = λ k. last_either c t.touch (touches_of k before) (p.last (touches_of k before)) (t.rider == k) in
        p.leaves (held c before) ∙ sooner (λ k apart. sym (same k) ∙ others k apart) ∙ sym (ap (λ o. unwrap_or o 0) (same j))

pub loads_of_one : LoadsOfOne
loads_of_one cells words stores riders i j c v before ruled others load =
    let h = ruled.order in
    let front : List TouchBy = load.newer ++ by_rider i (Loaded c v) ∷ [] in
    let parts : h.0 ≡ front ++ before = load.whole ∙ sym (append_assoc load.newer (by_rider i (Loaded c v) ∷ []) before) in
    load.finds
    ∙ of_one c j before
    (λ k apart. none_end c (touches_of k front) (touches_of k before) (sym (ap (last_store c) (ap (touches_of k) parts ∙ touches_both k front before)) ∙ quiet k apart))
  where
    quiet : (k : ℕ) → k ≢ j → last_store c (touches_of k ruled.order.0) ≡ None
    quiet k apart = ⊎_elim stands (λ (far : length riders ≤ k). ap (last_store c) (nobody k far ruled.order.0 ruled.order.1.theirs)) (below_or k (length riders))
      where
        stands : k < length riders → last_store c (touches_of k ruled.order.0) ≡ None
        stands less = let one = there riders k less in ap (last_store c) (sym (ruled.order.1.each k one.0 one.1)) ∙ others k one.0 one.1 apart

        below_or : (m n : ℕ) → (m < n) ⊎ (n ≤ m)
        below_or zero zero = inr (omega arith)
        below_or zero (suc n) = inl (omega arith)
        below_or (suc m) zero = inr (omega arith)
        below_or (suc m) (suc n) = ⊎_elim (λ a. inl (omega (arith, a))) (λ b. inr (omega (arith, b))) (below_or m n)

        nobody : (m : ℕ) → length riders ≤ m → (order : List TouchBy) → Every (λ (t : TouchBy). t.rider < length riders) order → touches_of m order ≡ []
        nobody m far [] e = refl
        nobody m far (t ∷ order) e = by (t.rider == m) refl (nobody m far order e.1)
          where
            by : (b : Bool) → (t.rider == m) ≡ b → touches_of m order ≡ [] → (if b then t.touch ∷ touches_of m order else touches_of m order) ≡ []
            by true test rest = let same : t.rider ≡ m = eqb-true t.rider m test in absurd (omega (arith, same, e.0, far))
            by false test rest = rest

-- behind touches that store nothing there
pub none_front : (c : ℕ) (xs ys : List Touch) → last_store c xs ≡ None → last_store c (xs ++ ys) ≡ last_store c ys
none_front c [] ys e = refl
none_front c (t ∷ xs) ys e =
    ⊎_elim
    (λ (p : Puts c t). let none : Some p.value ≡ None = sym (p.last xs) ∙ e in absurd (cc none))
    (λ (p : Passes c t). p.last (xs ++ ys) ∙ none_front c xs ys (sym (p.last xs) ∙ e))
    (puts_or_passes c t)

-- two lists with the same end
pub same_front : (xs ys zs : List Touch) → xs ++ zs ≡ ys ++ zs → xs ≡ ys
same_front [] [] zs e = refl
same_front [] (y ∷ ys) zs e = absurd (omega (arith, ap length e, length-append ys zs))
same_front (x ∷ xs) [] zs e = absurd (omega (arith, ap length e, length-append xs zs))
same_front (x ∷ xs) (y ∷ ys) zs e =
    let head : x ≡ y = cc e in
    let tail : xs ++ zs ≡ ys ++ zs = cc e in
    ap (λ (t : Touch). t ∷ xs) head ∙ ap (λ (l : List Touch). y ∷ l) (same_front xs ys zs tail)

pub loads_of_told : LoadsOfTold
loads_of_told cells words stores riders i j c v r q newer between earlier later past ruled ati atj others mine theirs quiet =
    let m = loads_after_met cells words stores riders i j c v r q newer between earlier later past ruled ati atj mine theirs in
    let load = by_rider i (Loaded c v) ∷ [] in
    let front : List TouchBy = m.1.newer ++ load in
    let parts : ruled.order.0 ≡ front ++ m.0 = m.1.whole ∙ sym (append_assoc m.1.newer load m.0) in
    let whole : q.touches ≡ touches_of j front ++ touches_of j m.0 = ruled.order.1.each j q atj ∙ ap (touches_of j) parts ∙ touches_both j front m.0 in
    let split : later ++ past ≡ (touches_of j front ++ m.2.0) ++ past = sym theirs ∙ whole ∙ ap (λ (l : List Touch). touches_of j front ++ l) m.2.1 ∙ sym (append_assoc (touches_of j front) m.2.0 past) in
    let same : later ≡ touches_of j front ++ m.2.0 = same_front later (touches_of j front ++ m.2.0) past split in
    let since : last_store c m.2.0 ≡ None = none_end c (touches_of j front) m.2.0 (sym (ap (last_store c) same) ∙ quiet) in
    loads_of_one cells words stores riders i j c v m.0 ruled others m.1 ∙ ap (λ o. unwrap_or o 0) (ap (last_store c) m.2.1 ∙ none_front c m.2.0 past since)

pub loads_of_one_between : LoadsOfOneBetween
loads_of_one_between cells words stores riders i j c v begun done m left n last q before later middle past ruled at others load calls no_calls is low high quiet =
    let up_to : q.touches ≡ (later ++ Called n last ∷ middle) ++ Called m left ∷ past = is ∙ sym (append_assoc later (Called n last ∷ middle) (Called m left ∷ past)) in
    let all = calls j m left q (later ++ Called n last ∷ middle) past at up_to low in
    let only = no_calls j n last q later (middle ++ Called m left ∷ past) at is high in
    let parts : middle ++ Called m left ∷ past ≡ (only.0 ++ all.0) ++ Called m left ∷ past = only.1 ∙ ap (λ (l : List Touch). only.0 ++ l) all.1 ∙ sym (append_assoc only.0 all.0 (Called m left ∷ past)) in
    let split : middle ≡ only.0 ++ all.0 = same_front middle (only.0 ++ all.0) (Called m left ∷ past) parts in
    let since : last_store c all.0 ≡ None = none_end c only.0 all.0 (sym (ap (last_store c) split) ∙ quiet) in
    loads_of_one cells words stores riders i j c v before ruled others load ∙ ap (λ o. unwrap_or o 0) (ap (last_store c) all.1 ∙ none_front c all.0 (Called m left ∷ past) since)

none_begin : (c : ℕ) (xs ys : List Touch) → last_store c (xs ++ ys) ≡ None → last_store c xs ≡ None
none_begin c [] ys e = refl
none_begin c (t ∷ xs) ys e =
    ⊎_elim
    (λ (p : Puts c t). let none : Some p.value ≡ None = sym (p.last (xs ++ ys)) ∙ e in absurd (cc none))
    (λ (p : Passes c t). p.last xs ∙ none_begin c xs ys (sym (p.last (xs ++ ys)) ∙ e))
    (puts_or_passes c t)

-- where one rider alone stores in the newer part
of_one_since : (c j : ℕ) (front base : List TouchBy) → ((k : ℕ) → k ≢ j → last_store c (touches_of k front) ≡ None) → held c (front ++ base) ≡ unwrap_or (last_store c (touches_of j front)) (held c base)
of_one_since c j [] base others = refl
of_one_since c j (t ∷ front) base others = ⊎_elim puts (passes (λ h. of_one_since c j front base h)) (puts_or_passes c t.touch)
  where
    puts : Puts c t.touch → held c (t ∷ (front ++ base)) ≡ unwrap_or (last_store c (touches_of j (t ∷ front))) (held c base)
    puts p =
        let own : last_store c (touches_of t.rider (t ∷ front)) ≡ Some p.value = ap (last_store c) (own_more t.rider t.touch front) ∙ p.last (touches_of t.rider front) in
        ⊎_elim
        (λ (same : t.rider ≡ j). p.leaves (held c (front ++ base)) ∙ sym (ap (λ o. unwrap_or o (held c base)) (subst (λ (k : ℕ). last_store c (touches_of k (t ∷ front)) ≡ Some p.value) same own)))
        (λ (apart : t.rider ≢ j). let none : Some p.value ≡ None = sym own ∙ others t.rider apart in absurd (cc none))
        (cases_eq t.rider j)

    passes : (((k : ℕ) → k ≢ j → last_store c (touches_of k front) ≡ None) → held c (front ++ base) ≡ unwrap_or (last_store c (touches_of j front)) (held c base)) → Passes c t.touch
        → held c (t ∷ (front ++ base)) ≡ unwrap_or (last_store c (touches_of j (t ∷ front))) (held c base)
    passes sooner p =
        let same : (k : ℕ) → last_store c (touches_of k (t ∷ front)) ≡ last_store c (touches_of k front) = λ k. last_either c t.touch (touches_of k front) (p.last (touches_of k front)) (t.rider == k) in
        p.leaves (held c (front ++ base)) ∙ sooner (λ k apart. sym (same k) ∙ others k apart) ∙ sym (ap (λ o. unwrap_or o (held c base)) (same j))

-- nobody's touches
below_or : (m n : ℕ) → (m < n) ⊎ (n ≤ m)
below_or zero zero = inr (omega arith)
below_or zero (suc n) = inl (omega arith)
below_or (suc m) zero = inr (omega arith)
below_or (suc m) (suc n) = ⊎_elim (λ a. inl (omega (arith, a))) (λ b. inr (omega (arith, b))) (below_or m n)

nobody_else : (n m : ℕ) → n ≤ m → (order : List TouchBy) → Every (λ (t : TouchBy). t.rider < n) order → touches_of m order ≡ []
nobody_else n m far [] e = refl
nobody_else n m far (t ∷ order) e = by (t.rider == m) refl (nobody_else n m far order e.1)
  where
    by : (b : Bool) → (t.rider == m) ≡ b → touches_of m order ≡ [] → (if b then t.touch ∷ touches_of m order else touches_of m order) ≡ []
    by true test rest = let same : t.rider ≡ m = eqb-true t.rider m test in absurd (omega (arith, same, e.0, far))
    by false test rest = rest

-- a list of touches ends with what stands before, where what comes after a later call does not
pub only_before : (riders : List RiderView) (done j : ℕ) (q : RiderView) (late rest : List Touch) (before : List TouchBy) (front : List Touch) → HasNoCalls riders done before → slice_get riders j ≡ Some q → q.touches ≡ late ++ rest → BeginsAfter done late
    → q.touches ≡ front ++ touches_of j before → HasOnly j rest before
only_before riders done j q late rest before front none at is after whole =
    ⊎_elim
    (λ (nothing : late ≡ []). (front, sym (ap (λ (l : List Touch). l ++ rest) nothing) ∙ sym is ∙ whole))
    (λ (call : (met left : Extent) × (later : List Touch) × (late ≡ later ++ Called met left ∷ []) × (done < met.steps)).
    none j call.0 call.1 q call.2 rest at (is ∙ ap (λ (l : List Touch). l ++ rest) call.3 ∙ append_assoc call.2 (Called call.0 call.1 ∷ []) rest) call.4)
    after

-- so a rider's quiet touches hold all that it did in the newer part
module _ (cells : ℕ) (words : List ℕ) (riders : List RiderView) (h : HasOneOrder cells words riders) (c done j : ℕ) (first n : Extent) (front newer base : List TouchBy)
    (whole : h.0 ≡ newer ++ (front ++ by_rider j (Called first n) ∷ base)) (late_none : HasNoCalls riders done (front ++ by_rider j (Called first n) ∷ base)) where
  pub quiet_front : (k : ℕ) (r : RiderView) → slice_get riders k ≡ Some r → IsQuietBetween c n.steps done r.touches → last_store c (touches_of k front) ≡ None
  quiet_front k r at q =
      let before : List TouchBy = front ++ by_rider j (Called first n) ∷ base in
      let all : r.touches ≡ touches_of k newer ++ touches_of k before = h.1.each k r at ∙ ap (touches_of k) whole ∙ touches_both k newer before in
      let only = only_before riders done k r q.late (q.quiet ++ q.old) before (touches_of k newer) late_none at q.all q.after all in
      let parts : q.quiet ++ q.old ≡ only.0 ++ (touches_of k front ++ touches_of k (by_rider j (Called first n) ∷ base)) = only.1 ∙ ap (λ (l : List Touch). only.0 ++ l) (touches_both k front (by_rider j (Called first n) ∷ base)) in
      ⊎_elim (nothing only.0 parts) (called only.0 parts) q.before
    where
      nothing : (rest : List Touch) → q.quiet ++ q.old ≡ rest ++ (touches_of k front ++ touches_of k (by_rider j (Called first n) ∷ base)) → q.old ≡ [] → last_store c (touches_of k front) ≡ None
      nothing rest parts e =
          let quiet : q.quiet ≡ rest ++ (touches_of k front ++ touches_of k (by_rider j (Called first n) ∷ base)) = sym (append-nil q.quiet) ∙ ap (λ (l : List Touch). q.quiet ++ l) (sym e) ∙ parts in
          none_begin c (touches_of k front) (touches_of k (by_rider j (Called first n) ∷ base)) (none_end c rest (touches_of k front ++ touches_of k (by_rider j (Called first n) ∷ base)) (sym (ap (last_store c) quiet) ∙ q.none))

      called : (rest : List Touch) → q.quiet ++ q.old ≡ rest ++ (touches_of k front ++ touches_of k (by_rider j (Called first n) ∷ base)) → ((met left : Extent) × (past : List Touch) × (q.old ≡ Called met left ∷ past) × (left.steps < n.steps)) → last_store c (touches_of k front) ≡ None
      called rest parts o =
          let calls = after_call cells words riders h j first n (newer ++ front) base (whole ∙ sym (append_assoc newer front (by_rider j (Called first n) ∷ base))) in
          let is : r.touches ≡ (q.late ++ q.quiet) ++ Called o.0 o.1 ∷ o.2 = q.all ∙ sym (append_assoc q.late q.quiet q.old) ∙ ap (λ (l : List Touch). (q.late ++ q.quiet) ++ l) o.3 in
          let has = calls k o.0 o.1 r (q.late ++ q.quiet) o.2 at is o.4 in
          let one = by_rider j (Called first n) ∷ [] in
          let behind : touches_of k (by_rider j (Called first n) ∷ base) ≡ (touches_of k one ++ has.0) ++ q.old =
          touches_both k one base ∙ ap (λ (l : List Touch). touches_of k one ++ l) (has.1 ∙ ap (λ (l : List Touch). has.0 ++ l) (sym o.3)) ∙ sym (append_assoc (touches_of k one) has.0 q.old) in
          let middle = touches_of k front ++ (touches_of k one ++ has.0) in
          let shaped : q.quiet ++ q.old ≡ (rest ++ middle) ++ q.old =
          parts ∙ ap (λ (l : List Touch). rest ++ (touches_of k front ++ l)) behind ∙ ap (λ (l : List Touch). rest ++ l) (sym (append_assoc (touches_of k front) (touches_of k one ++ has.0) q.old)) ∙ sym (append_assoc rest middle q.old) in
          let quiet : q.quiet ≡ rest ++ middle = same_front q.quiet (rest ++ middle) q.old shaped in
          none_begin c (touches_of k front) (touches_of k one ++ has.0) (none_end c rest middle (sym (ap (last_store c) quiet) ∙ q.none))

pub loads_of_newest : LoadsOfNewest
loads_of_newest cells words stores riders i j c v begun done w first n m left q before late middle recent older ruled at load calls no_calls others is after silent low stored =
    let h = ruled.order in
    let front0 : List TouchBy = load.newer ++ by_rider i (Loaded c v) ∷ [] in
    let parts : h.0 ≡ front0 ++ before = load.whole ∙ sym (append_assoc load.newer (by_rider i (Loaded c v) ∷ []) before) in
    let rest : List Touch = middle ++ Called m left ∷ (recent ++ Called first n ∷ older) in
    let mine : q.touches ≡ touches_of j front0 ++ touches_of j before = h.1.each j q at ∙ ap (touches_of j) parts ∙ touches_both j front0 before in
    let past : List Touch = recent ++ Called first n ∷ older in
    let all = calls j m left q (late ++ middle) past at (is ∙ sym (append_assoc late middle (Called m left ∷ past))) low in
    let only = only_before riders done j q late rest before (touches_of j front0) no_calls at is after mine in
    let split : middle ≡ only.0 ++ all.0 = same_front middle (only.0 ++ all.0) (Called m left ∷ past) (only.1 ∙ ap (λ (l : List Touch). only.0 ++ l) all.1 ∙ sym (append_assoc only.0 all.0 (Called m left ∷ past))) in
    let since : last_store c all.0 ≡ None = none_end c only.0 all.0 (sym (ap (last_store c) split) ∙ silent) in
    let newest : List Touch = all.0 ++ Called m left ∷ recent in
    let shape : touches_of j before ≡ newest ++ Called first n ∷ older = all.1 ∙ sym (append_assoc all.0 (Called m left ∷ recent) (Called first n ∷ older)) in
    let a = cut_at j before newest (Called first n) older shape in
    let whole_a : h.0 ≡ front0 ++ (a.front ++ by_rider j (Called first n) ∷ a.before) = parts ∙ ap (λ (l : List TouchBy). front0 ++ l) a.whole in
    let none_a : HasNoCalls riders done (a.front ++ by_rider j (Called first n) ∷ a.before) = subst (HasNoCalls riders done) a.whole no_calls in
    let own : touches_of j a.front ≡ newest = own_front j newest older first n before a.front a.before a.whole a.own shape in
    let quiet : (k : ℕ) → k ≢ j → last_store c (touches_of k a.front) ≡ None = λ k apart. quiet_of k apart a.front a.before front0 whole_a none_a in
    load.finds ∙ ap (held c) a.whole
    ∙ of_one_since c j a.front (by_rider j (Called first n) ∷ a.before) quiet
    ∙ ap (λ o. unwrap_or o (held c (by_rider j (Called first n) ∷ a.before))) (ap (last_store c) own ∙ none_front c all.0 (Called m left ∷ recent) since ∙ stored)
  where
    own_front : (j : ℕ) (newest older : List Touch) (first n : Extent) (before front base : List TouchBy) → before ≡ front ++ by_rider j (Called first n) ∷ base → touches_of j base ≡ older → touches_of j before ≡ newest ++ Called first n ∷ older → touches_of j front ≡ newest
    own_front j newest older first n before front base whole own shape =
        same_front (touches_of j front) newest (Called first n ∷ older)
        (ap (λ (l : List Touch). touches_of j front ++ l) (sym (own_more j (Called first n) base ∙ ap (λ (l : List Touch). Called first n ∷ l) own)) ∙ sym (touches_both j front (by_rider j (Called first n) ∷ base)) ∙ sym (ap (touches_of j) whole) ∙ shape)

    quiet_of : (k : ℕ) → k ≢ j → (front base newer : List TouchBy) → ruled.order.0 ≡ newer ++ (front ++ by_rider j (Called first n) ∷ base) → HasNoCalls riders done (front ++ by_rider j (Called first n) ∷ base) → last_store c (touches_of k front) ≡ None
    quiet_of k apart front base newer whole none =
        ⊎_elim
        (λ (less : k < length riders).
        let one = there riders k less in
        quiet_front cells words riders ruled.order c done j first n front newer base whole none k one.0 one.1 (others k one.0 one.1 apart))
        (λ (far : length riders ≤ k).
        let nothing : touches_of k front ++ touches_of k (by_rider j (Called first n) ∷ base) ≡ [] =
        sym (touches_both k front (by_rider j (Called first n) ∷ base)) ∙ nobody_else (length riders) k far (front ++ by_rider j (Called first n) ∷ base) (every_back (λ (t : TouchBy). t.rider < length riders) newer (front ++ by_rider j (Called first n) ∷ base) (subst (Every (λ (t : TouchBy). t.rider < length riders)) whole ruled.order.1.theirs)) in
        none_begin c (touches_of k front) (touches_of k (by_rider j (Called first n) ∷ base)) (ap (last_store c) nothing))
        (below_or k (length riders))
