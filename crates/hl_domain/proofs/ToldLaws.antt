-- Calls of riders that met no fewer steps than others' left, or were told of these, and loads of the safe read-only offset,
-- in the one list.
use Rattle.std.proofs.Common.{◌≡◌, ℕ, ◌+◌, ◌≤◌, List, [], ◌∷◌, ◌++◌, length, map, Some, slice_get, refl, sym, ap, ◌∙◌, subst, arith, append_assoc, length-append}
use Rattle.std.specs.Option.{option_map}
use Rattle.std.proofs.lemmas.Option.{slice_get-map}
use Rattle.hl_model.specs.declared.step.Step.{Step}
use Rattle.hl_model.specs.Sizes.{Sizes}
use Rattle.hl_history.specs.declared.view.Entry.{Entry}
use Rattle.hl_history.specs.Lists.{Begins, left_by, IsOf}
use Rattle.hl_words.specs.declared.view.Touch.{Touch}
use Rattle.hl_words.specs.declared.view.Touch.TheVariants.{Called, Met}
use Rattle.hl_words.specs.declared.view.Extent.{Extent}
use Rattle.hl_words.specs.declared.view.RiderView.{RiderView}
use Rattle.hl_words.specs.Rule.{RisesTo}
use Rattle.hl_words.specs.States.{RiderState, AreTied}
use Rattle.hl_words.specs.Past.{CallsAfterMet}
use Rattle.hl_words.specs.Views.{looked}
use Rattle.hl_words.proofs.Cut.{every_at}
use Rattle.hl_domain.specs.Domains.{IsEnding}
use Rattle.hl_keeper.specs.Endings.{EndingState}
use Rattle.hl_keeper.proofs.SettledLaws.{loads_are_settled as settled}
use Rattle.hl_domain.specs.Told.{calls_in, LaterCallsBegin, ToldCallsBegin, LoadsAreSettled}

-- the rider's call at the place of a call among the touches
record IsThere (calls : List Entry) (place : ℕ) (met left : Extent) : Type 0 where
  call : Entry
  at : slice_get calls place ≡ Some call
  met_is : met.steps ≡ length call.before
  left_is : left.steps ≡ length call.before + length call.steps

there : (newer older : List Touch) (met left : Extent) (calls : List Entry) → AreTied (newer ++ Called met left ∷ older) calls → IsThere calls (calls_in newer) met left
there [] older met left [] h = absurd h
there [] older met left (call ∷ calls) h = record { call = call; at = refl; met_is = h.0; left_is = h.1 }
there (Called m l ∷ newer) older met left [] h = absurd h
there (Called m l ∷ newer) older met left (call ∷ calls) h =
    let t = there newer older met left calls h.2 in
    record { call = t.call; at = t.at; met_is = t.met_is; left_is = t.left_is }
there (_ ∷ newer) older met left calls h = there newer older met left calls h

-- of two beginnings of one list the longer begins with the shorter
begins_both : {X : Type 0} (xs ys xr yr : List X) → xs ++ xr ≡ ys ++ yr → length xs ≤ length ys → (rest : List X) × (ys ≡ xs ++ rest)
begins_both [] ys xr yr e le = (ys, refl)
begins_both (x ∷ xs) [] xr yr e le = absurd (omega (arith, le))
begins_both (x ∷ xs) (y ∷ ys) xr yr e le =
    let head : x ≡ y = cc e in
    let tail : xs ++ xr ≡ ys ++ yr = cc e in
    let more = begins_both xs ys xr yr tail (omega (arith, le)) in
    (more.0, ap (λ z. z ∷ ys) (sym head) ∙ ap (λ l. x ∷ l) more.1)

-- a place of a row that was mapped
at_mapped : {X Y : Type 0} (f : X → Y) (xs : List X) (i : ℕ) (x : X) → slice_get xs i ≡ Some x → slice_get (map f xs) i ≡ Some (f x)
at_mapped f xs i x e = slice_get-map f xs i ∙ ap (option_map f) e

-- of two calls of one list that one met no fewer steps than the other left
met_begins : (list : List Step) (d e : Entry) → Begins (left_by d) list → Begins (left_by e) list → length d.before + length d.steps ≤ length e.before → Begins (left_by d) e.before
met_begins list d e a b le =
    let parts : list ≡ e.before ++ (e.steps ++ b.0) = b.1 ∙ append_assoc e.before e.steps b.0 in
    begins_both (left_by d) e.before a.0 (e.steps ++ b.0) (sym a.1 ∙ parts) (omega (arith, le, length-append d.before d.steps))

-- each call of a rider left a beginning of the one list
of_one : {F : Type 0} (sizes : Sizes) (riders : List RiderState) (ending : EndingState F) (end : IsEnding sizes riders ending) (i n : ℕ) (r : RiderState) (e : Entry) → slice_get riders i ≡ Some r → slice_get r.calls n ≡ Some e → Begins (left_by e) (end.steps_cut ++ ending.journal)
of_one sizes riders ending end i n r e at there =
    let list = end.steps_cut ++ ending.journal in
    let all : IsOf list r.calls = every_at (IsOf list) (map (λ (x : RiderState). x.calls) riders) end.one_list.each i r.calls (at_mapped (λ (x : RiderState). x.calls) riders i r at) in
    every_at (λ (c : Entry). Begins (left_by c) list) r.calls all.begins n e there

pub later_calls_begin : (F : Type 0) → LaterCallsBegin F
later_calls_begin F sizes riders ending i j m n r q e d end ati atj mine theirs le =
    met_begins (end.steps_cut ++ ending.journal) d e (of_one sizes riders ending end j n q d atj theirs) (of_one sizes riders ending end i m r e ati mine) le

pub told_calls_begin : CallsAfterMet → (F : Type 0) → ToldCallsBegin F
told_calls_begin law F sizes riders ending i j met left first n r q newer between earlier later recent older end ati atj mine theirs =
    let past : List Touch = recent ++ Called first n ∷ older in
    let views : List RiderView = map (λ (x : RiderState). x.view) riders in
    let le : RisesTo n met = law _ _ _ views i j met left first n r.view q.view newer between earlier later past recent older end.ruled.rule (at_mapped (λ (x : RiderState). x.view) riders i r ati) (at_mapped (λ (x : RiderState). x.view) riders j q atj) mine theirs refl in
    let Tied : RiderState → Type 0 = λ x. AreTied x.view.touches x.calls in
    let own : AreTied (newer ++ Called met left ∷ (between ++ Met q.view.name (length past) ∷ earlier)) r.calls = subst (λ l. AreTied l r.calls) mine (every_at Tied riders end.tied i r ati) in
    let its : AreTied ((later ++ recent) ++ Called first n ∷ older) q.calls = subst (λ l. AreTied l q.calls) (theirs ∙ sym (append_assoc later recent (Called first n ∷ older))) (every_at Tied riders end.tied j q atj) in
    let e = there newer (between ++ Met q.view.name (length past) ∷ earlier) met left r.calls own in
    let d = there (later ++ recent) older first n q.calls its in
    (e.call, d.call, e.at, d.at, later_calls_begin F sizes riders ending i j (calls_in newer) (calls_in (later ++ recent)) r q e.call d.call end ati atj e.at d.at (omega (arith, le.0, e.met_is, d.left_is)))

-- what was loaded of the safe read-only offset
pub loads_are_settled : (F : Type 0) → LoadsAreSettled F
loads_are_settled F sizes riders ending i r end at =
    settled sizes (end.steps_cut ++ ending.journal) (looked r.view.touches).safe_read_only end.accepted
    (end.ruled.rule.offset i r.view (at_mapped (λ (q : RiderState). q.view) riders i r at)).3
