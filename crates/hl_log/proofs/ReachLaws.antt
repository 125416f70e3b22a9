-- Where the steps of a seal lead: none but the settle is refused, and all below is sealed once that is done.
use Rattle.std.proofs.Common.{◌≡◌, ℕ, ◌+◌, ◌-◌, ◌*◌, ◌/◌, ◌%◌, ◌<◌, ◌≤◌, ◌^◌, arith, List, Bool, true, false, cond, nat_lt, is_none, [], ◌∷◌, ◌++◌, refl, sym, ap, ap₂, ◌∙◌, subst, ◌⊎◌, inl, inr}
use Rattle.std.specs.Prelude.{Option, Some, None}
use Rattle.std.proofs.Math.Nat.{add-mul, mul-mod_left, mul-le-mul_right}
use Rattle.std.proofs.lemmas.Bool.{cases_lt, ltb-true, ltb-false, lt-ltb, lt-leb, le-ltb, le-leb, ne_eqb}
use Rattle.std.proofs.lemmas.Nat.{div-add-mod', mod-mul-add, mod_below}
use Rattle.hl_model.specs.declared.action.Kind.TheVariants.{Settle as Settling}
use Rattle.hl_model.specs.declared.action.Waiting.{Waiting}
use Rattle.hl_model.specs.declared.fault.Fault.{Fault}
use Rattle.hl_model.specs.declared.step.Step.{Step}
use Rattle.hl_model.specs.declared.step.Step.TheVariants.{Allocate, Raise, Settle}
use Rattle.hl_model.specs.Actions.{actions, bumps}
use Rattle.hl_model.specs.Epochs.{current_epoch}
use Rattle.hl_model.specs.Offsets.{read_only, tail, place_of}
use Rattle.hl_model.specs.Settled.{safe_read_only, settles}
use Rattle.hl_model.specs.Sizes.{Sizes, AreInRange}
use Rattle.hl_model.specs.Snapshots.{six}
use Rattle.hl_model.specs.Replies.{fault_of, or_fault, protected_fault, size_fault, page_fault, raise_fault, IsAccepted}
use Rattle.hl_laws.proofs.AcceptedLaws.{IsAccepted-push}
use Rattle.hl_laws.proofs.ActionLaws.{actions-push, bumps-push, current_epoch-bumps}
use Rattle.hl_laws.proofs.BoundLaws.{safe_read_only-le-read_only, read_only-le-tail, tail-le}
use Rattle.hl_laws.proofs.OffsetLaws.{read_only-stay, read_only-raise, tail-push}
use Rattle.hl_laws.proofs.SettledLaws.{done_greatest-quiet}
use Rattle.hl_core.proofs.Space.{whole_pages}
use Rattle.hl_lag.specs.Lag.{step_if}
use Rattle.hl_log.specs.Seals.{words_left, page_end, made_in, first_fault, due_at, sealed_at, IsSealedBy}
use Rattle.hl_log.proofs.SealLaws.{made-none, first-none, made-one, first-one, Both, both}

-- a number below another is its own remainder
small : (n k : ℕ) → n < k → n % k ≡ n
small n k less =
    let is : n ≡ 0 * k + n = omega arith in
    ap (λ x. x % k) is ∙ mod-mul-add 0 k n less

-- where the tail's page ends
record Ending (P T : ℕ) : Type 0 where
  whole : page_end P T % P ≡ 0
  room : 0 < words_left P T → (T % P + words_left P T ≡ P) × (0 < T % P)

ending : (P T : ℕ) → 0 < P → Ending P T
ending P T some = by_rest (cases_lt 0 (T % P))
  where
    by_rest : ((0 < T % P) ⊎ (T % P ≤ 0)) → Ending P T
    by_rest (inl more) =
        let left : words_left P T ≡ P - T % P = small (P - T % P) P (omega (arith, more, some)) in
        let below : T % P < P = mod_below T P some in
        let end : page_end P T ≡ (T / P + 1) * P = omega (arith, left, below, div-add-mod' T P, add-mul (T / P) 1 P) in
        record {
          whole = ap (λ x. x % P) end ∙ mul-mod_left (T / P + 1) P;
          room = λ _. (omega (arith, left, below), more);
        }
    by_rest (inr none) =
        let all : P - T % P ≡ 1 * P + 0 = omega (arith, none) in
        let left : words_left P T ≡ 0 = ap (λ x. x % P) all ∙ mod-mul-add 1 P 0 some in
        let end : page_end P T ≡ T = omega (arith, left) in
        record {
          whole = ap (λ x. x % P) end ∙ omega (arith, none);
          room = λ h. absurd (omega (arith, left, h));
        }

-- the end of a page below a whole number of pages is at most there
end_most : (P T m : ℕ) → 0 < T % P → T ≤ m * P → T / P * P + P ≤ m * P
end_most P T m more most = by_order (cases_lt (T / P) m)
  where
    by_order : ((T / P < m) ⊎ (m ≤ T / P)) → T / P * P + P ≤ m * P
    by_order (inl lt) =
        let next : (T / P + 1) * P ≤ m * P = mul-le-mul_right P (omega (arith, lt)) in
        omega (arith, next, add-mul (T / P) 1 P)
    by_order (inr le) =
        let least : m * P ≤ T / P * P = mul-le-mul_right P le in
        absurd (omega (arith, least, most, more, div-add-mod' T P))

-- a record of some words that fits into the tail's page has no fault of its size
size_lawful : (P T w : ℕ) → 0 < w → w ≤ P → place_of P T w ≡ T → T + w ≤ 2 ^ 48 → size_fault P T w ≡ None
size_lawful P T w some most at space = rw (ne_eqb w 0 (omega (arith, some)), le-ltb P w most, at, le-ltb (2 ^ 48) (T + w) space) refl

-- nor of its page, which is entered
page_lawful : (z : Sizes) (A : List Step) (q : ℕ) → q * z.page_size < tail z A → page_fault z A q ≡ None
page_lawful z A q below = rw (lt-ltb (q * z.page_size) (tail z A) below) refl

raise_lawful : (read_only tail x : ℕ) → read_only < x → x ≤ tail → raise_fault read_only tail x ≡ None
raise_lawful read_only tail x above most = rw (lt-leb x read_only above, le-ltb tail x most) refl

-- a list after some of the steps
record Stage (z : Sizes) (end least safe : ℕ) (C : List Step) : Type 0 where
  accepted : IsAccepted z C
  tail_is : tail z C ≡ end
  read_only_is : read_only C ≡ least
  safe_is : safe_read_only C ≡ safe

-- a list after one step that was made where it is due, with no fault
record Passed (z : Sizes) (end least safe : ℕ) (A L : List Step) : Type 0 where
  none : first_fault z A L ≡ None
  stage : Stage z end least safe (made_in z A L)

-- a step that isn't due
passes_by : (z : Sizes) (A : List Step) (s : Step) (end least safe : ℕ) → Stage z end least safe A → Passed z end least safe A (step_if false s)
passes_by z A s end least safe stage = record {
  none = first-none z A;
  stage = subst (λ (C : List Step). Stage z end least safe C) (sym (made-none z A)) stage;
}

-- one that is, and has no fault
passes : (z : Sizes) (A : List Step) (s : Step) (end least safe : ℕ) → fault_of z A s ≡ None → Stage z end least safe (A ++ s ∷ []) → Passed z end least safe A (step_if true s)
passes z A s end least safe free stage = record {
  none = first-one z A s ∙ free;
  stage = subst (λ (C : List Step). Stage z end least safe C) (sym (made-one z A s ∙ ap (λ (o : Option Fault). cond (is_none o) (A ++ s ∷ []) A) free)) stage;
}

-- the allocation of the words that are left
filled : (z : Sizes) (t : ℕ) (A : List Step) → AreInRange z → IsAccepted z A → protected_fault z A t ≡ None
    → Passed z (page_end z.page_size (tail z A)) (read_only A) (safe_read_only A) A (step_if (nat_lt 0 (words_left z.page_size (tail z A))) (Allocate t (words_left z.page_size (tail z A))))
filled z t A range accepted free = by_due (nat_lt 0 w) refl
  where
    P : ℕ
    P = z.page_size

    T : ℕ
    T = tail z A

    w : ℕ
    w = words_left P T

    s : Step
    s = Allocate t w

    by_due : (b : Bool) → nat_lt 0 w ≡ b → Passed z (page_end P T) (read_only A) (safe_read_only A) A (step_if b s)
    by_due false h =
        let none : w ≤ 0 = ltb-false 0 w h in
        passes_by z A s (page_end P T) (read_only A) (safe_read_only A) (record { accepted = accepted; tail_is = omega (arith, none); read_only_is = refl; safe_is = refl })
    by_due true h =
        let more : 0 < w = ltb-true 0 w h in
        let some : 0 < P = omega (arith, range.page_size_least) in
        let room : (T % P + w ≡ P) × (0 < T % P) = (ending P T some).room more in
        let at : place_of P T w ≡ T = ap (λ (b : Bool). cond b T ((T / P + 1) * P)) (le-leb (T % P + w) P (omega (arith, room.0))) in
        let whole : 2 ^ 48 / P * P ≡ 2 ^ 48 = whole_pages P some range.page_size_most range.page_size_power in
        let most : T / P * P + P ≤ 2 ^ 48 / P * P = end_most P T (2 ^ 48 / P) room.1 (omega (arith, whole, tail-le z A accepted)) in
        let size : size_fault P T w ≡ None = size_lawful P T w more (omega (arith, room.0)) at (omega (arith, room.0, most, whole, div-add-mod' T P)) in
        let page : page_fault z A (place_of P T w / P) ≡ None = page_lawful z A (place_of P T w / P) (subst (λ (a : ℕ). a / P * P < T) (sym at) (omega (arith, room.1, div-add-mod' T P))) in
        let none : fault_of z A s ≡ None = ap₂ or_fault free (ap₂ or_fault size page) in
        passes z A s (page_end P T) (read_only A) (safe_read_only A) none (record {
          accepted = IsAccepted-push z A s accepted none;
          tail_is = tail-push z A s ∙ ap (λ (a : ℕ). a + w) at;
          read_only_is = read_only-stay A s refl;
          safe_is = done_greatest-quiet z settles A s accepted refl;
        })

-- the raise
raised : (z : Sizes) (C : List Step) (end least safe : ℕ) → Stage z end least safe C → least ≤ end → Passed z end end safe C (step_if (nat_lt least end) (Raise end))
raised z C end least safe stage most = by_due (nat_lt least end) refl
  where
    by_due : (b : Bool) → nat_lt least end ≡ b → Passed z end end safe C (step_if b (Raise end))
    by_due false h =
        let there : end ≤ least = ltb-false least end h in
        passes_by z C (Raise end) end end safe (record { accepted = stage.accepted; tail_is = stage.tail_is; read_only_is = stage.read_only_is ∙ omega (arith, there, most); safe_is = stage.safe_is })
    by_due true h =
        let above : least < end = ltb-true least end h in
        let none : fault_of z C (Raise end) ≡ None = raise_lawful (read_only C) (tail z C) end (omega (arith, above, stage.read_only_is)) (omega (arith, stage.tail_is)) in
        passes z C (Raise end) end end safe none (record {
          accepted = IsAccepted-push z C (Raise end) stage.accepted none;
          tail_is = tail-push z C (Raise end) ∙ stage.tail_is;
          read_only_is = read_only-raise z C end none;
          safe_is = done_greatest-quiet z settles C (Raise end) stage.accepted refl ∙ stage.safe_is;
        })

-- what is told of the settle: all is sealed, or it is refused where the list stands
record Told (z : Sizes) (end safe : ℕ) (C L : List Step) : Type 0 where
  accepted : first_fault z C L ≡ None → IsSealedBy z (record { address = end; ticket = cond (nat_lt safe end) (Some (bumps (made_in z C L))) None }) (made_in z C L)
  refused : (f : Fault) → first_fault z C L ≡ Some f → fault_of z (made_in z C L) Settle ≡ Some f

settled : (z : Sizes) (C : List Step) (end safe : ℕ) → Stage z end end safe C → safe ≤ end → end % z.page_size ≡ 0 → Told z end safe C (step_if (nat_lt safe end) Settle)
settled z C end safe stage most whole = by_due (nat_lt safe end) refl
  where
    D : List Step
    D = C ++ Settle ∷ []

    last : Waiting
    last = record { ticket = bumps D; kind = Settling end }

    stored : actions D ≡ actions C ++ last ∷ []
    stored =
        let ticket : current_epoch C ≡ bumps D = current_epoch-bumps C ∙ sym (bumps-push C Settle) in
        actions-push C Settle ∙ ap₂ (λ (n x : ℕ). actions C ++ record { ticket = n; kind = Settling x } ∷ []) ticket stage.read_only_is

    by_due : (b : Bool) → nat_lt safe end ≡ b → Told z end safe C (step_if b Settle)
    by_due false h = record {
      accepted = λ _. subst (λ (b : Bool). IsSealedBy z (record { address = end; ticket = cond b (Some (bumps (made_in z C []))) None }) (made_in z C [])) (sym h)
          (subst (λ (X : List Step). IsSealedBy z (record { address = end; ticket = None }) X) (sym (made-none z C)) (record {
            whole = whole;
            all = stage.tail_is;
            read_only_is = stage.read_only_is;
            safe = stage.safe_is ∙ omega (arith, most, ltb-false safe end h);
          }));
      refused = λ f some. absurd (some_isn't f (sym (first-none z C) ∙ some));
    }
      where
        some_isn't : (f : Fault) → None ≡ Some f → ⊥
        some_isn't f e = cc
    by_due true h = record {
      accepted = λ none.
          let free : fault_of z C Settle ≡ None = sym (first-one z C Settle) ∙ none in
          let made : made_in z C (Settle ∷ []) ≡ D = made-one z C Settle ∙ ap (λ (o : Option Fault). cond (is_none o) D C) free in
          subst (λ (b : Bool). IsSealedBy z (record { address = end; ticket = cond b (Some (bumps (made_in z C (Settle ∷ [])))) None }) (made_in z C (Settle ∷ []))) (sym h)
          (subst (λ (X : List Step). IsSealedBy z (record { address = end; ticket = Some (bumps X) }) X) (sym made) (record {
            whole = whole;
            all = tail-push z C Settle ∙ stage.tail_is;
            read_only_is = read_only-stay C Settle refl ∙ stage.read_only_is;
            safe = (actions C, stored);
          }));
      refused = λ f some.
          let met : fault_of z C Settle ≡ Some f = sym (first-one z C Settle) ∙ some in
          let made : made_in z C (Settle ∷ []) ≡ C = made-one z C Settle ∙ ap (λ (o : Option Fault). cond (is_none o) D C) met in
          ap (λ (X : List Step). fault_of z X Settle) made ∙ met;
    }

-- where the steps of a seal lead
pub record Reached (z : Sizes) (t : ℕ) (A : List Step) : Type 0 where
  pub accepted : first_fault z A (due_at z t A) ≡ None → IsSealedBy z (sealed_at z.page_size (six z A) (made_in z A (due_at z t A))) (made_in z A (due_at z t A))
  pub refused : (f : Fault) → first_fault z A (due_at z t A) ≡ Some f → fault_of z (made_in z A (due_at z t A)) Settle ≡ Some f

pub reached : (z : Sizes) (t : ℕ) (A : List Step) → AreInRange z → IsAccepted z A → protected_fault z A t ≡ None → Reached z t A
reached z t A range accepted free = record {
  accepted = λ none. subst (λ (X : List Step). IsSealedBy z (sealed_at z.page_size (six z A) X) X) (sym list) (told.accepted (sym fault ∙ none));
  refused = λ f some. ap (λ (X : List Step). fault_of z X Settle) list ∙ told.refused f (sym fault ∙ some);
}
  where
    some : 0 < z.page_size
    some = omega (arith, range.page_size_least)

    end : ℕ
    end = page_end z.page_size (tail z A)

    fill : List Step
    fill = step_if (nat_lt 0 (words_left z.page_size (tail z A))) (Allocate t (words_left z.page_size (tail z A)))

    raise : List Step
    raise = step_if (nat_lt (read_only A) end) (Raise end)

    settle : List Step
    settle = step_if (nat_lt (safe_read_only A) end) Settle

    first : Passed z end (read_only A) (safe_read_only A) A fill
    first = filled z t A range accepted free

    least : read_only A ≤ end
    least = omega (arith, read_only-le-tail z A some accepted)

    second : Passed z end end (safe_read_only A) (made_in z A fill) raise
    second = raised z (made_in z A fill) end (read_only A) (safe_read_only A) first.stage least

    two : Both z A fill raise
    two = both z A fill raise first.none

    three : Both z A (fill ++ raise) settle
    three = both z A (fill ++ raise) settle (two.first ∙ second.none)

    C : List Step
    C = made_in z (made_in z A fill) raise

    told : Told z end (safe_read_only A) C settle
    told = settled z C end (safe_read_only A) second.stage (omega (arith, least, safe_read_only-le-read_only z A accepted)) (ending z.page_size (tail z A) some).whole

    list : made_in z A (due_at z t A) ≡ made_in z C settle
    list = three.made ∙ ap (λ (X : List Step). made_in z X settle) two.made

    fault : first_fault z A (due_at z t A) ≡ first_fault z C settle
    fault = three.first ∙ ap (λ (X : List Step). first_fault z X settle) two.made
