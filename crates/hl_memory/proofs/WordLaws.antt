-- The newest write at an address is the one list's word there.
use Rattle.std.proofs.Common.{◌≡◌, ◌≢◌, ℕ, suc, ◌+◌, ◌<◌, ◌≤◌, ◌⊎◌, Bool, List, [], ◌∷◌, ◌++◌, length, map, Some, None, slice_get, refl, ap, sym, ◌∙◌, inl, inr, subst, ⊎_elim, arith, append_assoc, length-append}
use Rattle.std.specs.Prelude.{unwrap_or, if◌then◌else◌}
use Rattle.std.specs.List.{AllByRecursion as Every}
use Rattle.std.proofs.lemmas.Bool.{eq-eqb, cases_eq}
use Rattle.hl_model.specs.declared.step.Step.{Step}
use Rattle.hl_model.specs.declared.step.Step.TheVariants.{Write}
use Rattle.hl_model.specs.Lists.{last_given}
use Rattle.hl_model.specs.Words.{written_at, word}
use Rattle.hl_laws.proofs.AppendLaws.{last_given-append}
use Rattle.hl_history.specs.declared.view.Entry.{Entry}
use Rattle.hl_history.specs.Lists.{Begins, left_by, Rises, IsOf, IsOneList}
use Rattle.hl_words.specs.States.{RiderState}
use Rattle.hl_words.proofs.Cut.{every_back, every_append, every_at, every_from}
use Rattle.hl_images.specs.Writes.{WritesNothing, CallsWriteNothing, LastWrites}
use Rattle.hl_images.proofs.WordLaws.{entered_call, whose_calls}
use Rattle.hl_images.proofs.WriterLaws.{newest_step}

-- places of two lists in a row
at_behind : {X : Type 0} (xs ys : List X) (i : ℕ) → slice_get (xs ++ ys) (length xs + i) ≡ slice_get ys i
at_behind [] ys i = let e : 0 + i ≡ i = omega arith in ap (slice_get ys) e
at_behind (x ∷ xs) ys i =
    let e : suc (length xs) + i ≡ suc (length xs + i) = omega arith in
    ap (slice_get (x ∷ (xs ++ ys))) e ∙ at_behind xs ys i

-- the newest write of some calls
pub newest_call : (a : ℕ) (calls : List Entry) → CallsWriteNothing a calls ⊎ ((v : ℕ) × LastWrites a v calls)
newest_call a [] = inl tt
newest_call a (e ∷ calls) = by (newest_step a e.steps) (newest_call a calls)
  where
    by : (WritesNothing a e.steps ⊎ ((slot v : ℕ) × (first rest : List Step) × (e.steps ≡ first ++ Write slot a v ∷ rest) × WritesNothing a rest)) → (CallsWriteNothing a calls ⊎ ((v : ℕ) × LastWrites a v calls)) → CallsWriteNothing a (e ∷ calls) ⊎ ((v : ℕ) × LastWrites a v (e ∷ calls))
    by (inr h) r =
        inr (h.1, record { newer = []; call = e; earlier = calls; calls_are = refl; none = tt; slot = h.0; first = h.2; rest = h.3; steps = h.4; silent = h.5 })
    by (inl none) (inl r) = inl (none, r)
    by (inl none) (inr l) =
        let r = l.1 in
        inr (
          l.0,
          record {
            newer = e ∷ r.newer;
            call = r.call;
            earlier = r.earlier;
            calls_are = ap (λ (l : List Entry). e ∷ l) r.calls_are;
            none = (none, r.none);
            slot = r.slot;
            first = r.first;
            rest = r.rest;
            steps = r.steps;
            silent = r.silent;
          },
        )

-- steps that write nothing at the address keep its word
none_given : (a d : ℕ) (xs : List Step) → WritesNothing a xs → last_given (written_at a) d xs ≡ d
unfolding last_given
none_given a d [] h = refl
none_given a d (x ∷ xs) h = ap (λ o. last_given (written_at a) (unwrap_or o d) xs) h.0 ∙ none_given a d xs h.1

written : (a t w d : ℕ) (xs : List Step) → WritesNothing a xs → last_given (written_at a) d (Write t a w ∷ xs) ≡ w
unfolding last_given
written a t w d xs h =
    ap (λ (b : Bool). last_given (written_at a) (unwrap_or (if b then Some w else None) d) xs) (eq-eqb a a refl) ∙ none_given a w xs h

-- an earlier call of a rider left a list that a later one's begins with
earlier_low : (newer : List Entry) (call : Entry) (earlier : List Entry) → Rises (newer ++ call ∷ earlier) → Every (λ (e : Entry). Begins (left_by e) call.before) earlier
earlier_low [] call earlier h = h.0
earlier_low (x ∷ newer) call earlier h = earlier_low newer call earlier h.1

-- which part of a rider's calls a call is in
in_part : (newer : List Entry) (call : Entry) (earlier : List Entry) (i : ℕ) (e : Entry) → slice_get (newer ++ call ∷ earlier) i ≡ Some e → (P : Entry → Type 0) → Every P newer → P call → Every P earlier → P e
in_part newer call earlier i e at P a b c = every_at P (newer ++ call ∷ earlier) (every_append P newer (call ∷ earlier) a (b, c)) i e at

module _ (a w t j : ℕ) (list : List Step) (records : List (List Entry)) (d newer : List Entry) (call : Entry) (earlier : List Entry) (first rest : List Step)
    (one : IsOneList list records) (at : slice_get records j ≡ Some d) (is : d ≡ newer ++ call ∷ earlier) (none : CallsWriteNothing a newer) (steps : call.steps ≡ first ++ Write t a w ∷ rest) (newest : WritesNothing a rest)
    (others : (l : ℕ) (q : List Entry) → slice_get records l ≡ Some q → l ≢ j → CallsWriteNothing a q) where
  mine : IsOf list (newer ++ call ∷ earlier)
  mine = subst (IsOf list) is (every_at (IsOf list) records one.each j d at)

  begins : Begins (left_by call) list
  begins = (every_back (λ (e : Entry). Begins (left_by e) list) newer (call ∷ earlier) mine.begins).0

  low : Every (λ (e : Entry). Begins (left_by e) call.before) earlier
  low = earlier_low newer call earlier mine.rises

  -- no step behind the call writes there
  behind : (p : ℕ) (x : Step) → length (left_by call) ≤ p → slice_get list p ≡ Some x → written_at a x ≡ None
  behind p x le here =
      let e = entered_call list records one p x here in
      ⊎_elim
      (λ (same : e.whose ≡ j).
      let both : Some e.calls ≡ Some d = sym e.record_at ∙ ap (slice_get records) same ∙ at in
      let own : e.calls ≡ d = cc both in
      in_part newer call earlier e.number e.call (subst (λ (q : List Entry). slice_get q e.number ≡ Some e.call) (own ∙ is) e.call_at)
      (λ y. (i : ℕ) → slice_get y.steps i ≡ Some x → p < length y.before + length y.steps → written_at a x ≡ None)
      (from_newer newer none)
      (λ i k less. absurd (omega (arith, less, le, length-append call.before call.steps)))
      (from_earlier earlier low)
      e.step e.step_at e.high)
      (λ (apart : e.whose ≢ j). every_at (λ (s : Step). written_at a s ≡ None) e.call.steps (every_at (λ (y : Entry). WritesNothing a y.steps) e.calls (others e.whose e.calls e.record_at apart) e.number e.call e.call_at) e.step x e.step_at)
      (cases_eq e.whose j)
    where
      from_newer : (es : List Entry) → CallsWriteNothing a es → Every (λ (y : Entry). (i : ℕ) → slice_get y.steps i ≡ Some x → p < length y.before + length y.steps → written_at a x ≡ None) es
      from_newer [] h = tt
      from_newer (y ∷ es) h = ((λ i k less. every_at (λ (s : Step). written_at a s ≡ None) y.steps h.0 i x k), from_newer es h.1)

      from_earlier : (es : List Entry) → Every (λ (e : Entry). Begins (left_by e) call.before) es → Every (λ (y : Entry). (i : ℕ) → slice_get y.steps i ≡ Some x → p < length y.before + length y.steps → written_at a x ≡ None) es
      from_earlier [] h = tt
      from_earlier (y ∷ es) h =
          ((λ i k less. absurd (omega (arith, less, le, length-append call.before call.steps, length-append y.before y.steps, ap length h.0.1, length-append (left_by y) h.0.0))), from_earlier es h.1)

  pub newest_word : word a list ≡ w
  unfolding word
  newest_word =
      let after = begins.0 in
      let silent : WritesNothing a after = every_from (λ (s : Step). written_at a s ≡ None) after
      (λ i x k. behind (length (left_by call) + i) x (omega arith) (ap (λ (z : List Step). slice_get z (length (left_by call) + i)) begins.1 ∙ at_behind (left_by call) after i ∙ k)) in
      let parts : list ≡ (call.before ++ first) ++ (Write t a w ∷ (rest ++ after)) =
      begins.1 ∙ ap (λ (s : List Step). (call.before ++ s) ++ after) steps ∙ append_assoc call.before (first ++ Write t a w ∷ rest) after
      ∙ ap (λ (s : List Step). call.before ++ s) (append_assoc first (Write t a w ∷ rest) after) ∙ sym (append_assoc call.before first (Write t a w ∷ (rest ++ after))) in
      ap (last_given (written_at a) 0) parts ∙ last_given-append (written_at a) 0 (call.before ++ first) (Write t a w ∷ (rest ++ after))
      ∙ written a t w (last_given (written_at a) 0 (call.before ++ first)) (rest ++ after) (every_append (λ (s : Step). written_at a s ≡ None) rest after newest silent)

-- where nobody wrote at an address, the word there is 0
pub none_wrote : (a : ℕ) (list : List Step) (riders : List RiderState) → IsOneList list (map (λ (q : RiderState). q.calls) riders) → ((l : ℕ) (q : RiderState) → slice_get riders l ≡ Some q → CallsWriteNothing a q.calls) → word a list ≡ 0
unfolding word
none_wrote a list riders one none =
    none_given a 0 list
    (every_from (λ (s : Step). written_at a s ≡ None) list
    (λ p x here.
    let e = entered_call list (map (λ (z : RiderState). z.calls) riders) one p x here in
    let q = whose_calls riders e.whose e.calls e.record_at in
    let nothing : CallsWriteNothing a e.calls = subst (CallsWriteNothing a) q.2 (none e.whose q.0 q.1) in
    every_at (λ (s : Step). written_at a s ≡ None) e.call.steps (every_at (λ (y : Entry). WritesNothing a y.steps) e.calls nothing e.number e.call e.call_at) e.step x e.step_at))
