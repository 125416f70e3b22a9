-- What follows from one trace for common wants.
use Rattle.std.proofs.Common.{⊎_elim, ◌≡◌, ℕ, ◌<◌, ◌≤◌, Bool, true, ltb, le-ltb, List, [], ◌∷◌, ◌++◌, Option, Some, None, slice_get, length, map, refl, ap, sym, ◌∙◌, subst}
use Rattle.std.specs.Prelude.{slice_index_or}
use Rattle.std.specs.List.{AllByRecursion as Every}
use Rattle.std.proofs.lemmas.Bool.{lt-ltb}
use Rattle.std.proofs.lemmas.List.{length-map}
use Rattle.std.proofs.lemmas.Option.{slice_get_cases}
use Rattle.hl_images.proofs.WordLaws.{mapped_at}
use Rattle.hl_words.proofs.Cut.{every_weaker}
use Rattle.hl_traces.specs.declared.act.Act.{Act}
use Rattle.hl_traces.specs.Counters.{AddsAt}
use Rattle.hl_traces.specs.OneTrace.{ActBy, acts_by}
use Rattle.hl_traces.specs.Records.{Appended, changes, AppendsOnly}
use Rattle.hl_traces.proofs.BeyondLaws.{none_of_other}
use Rattle.hl_traces.proofs.CounterLaws.{counters_are_sums}
use Rattle.hl.specs.Sessions.{SessionState}
use Rattle.hl.specs.Threads.{ThreadActs}
use Rattle.hl.specs.Traces.{acts, AreMet, IsFresh}
use Rattle.hl.specs.Uses.{AllHaveAppended, AreJust, CountersEndAsSums, HasAppended, ThreadsAppend}
use Rattle.hl.proofs.AppendActs.{changes_both, changes_met}

-- locked calls add nothing
met_adds : (a total : ℕ) (left own : List Act) → AreMet left → AddsAt a total own → AddsAt a total (left ++ own)
met_adds a total [] own met adds = adds
met_adds a total (act ∷ left) own met adds =
    let rest = met_adds a total left own met.1 adds in
    subst (λ (x : Act). AddsAt a total (x ∷ (left ++ own))) (sym met.0.1) rest

pub counters_end_as_sums : {Out : Type 0} (Returns : ℕ → SessionState → SessionState → Out → Type 0) → CountersEndAsSums Returns
counters_end_as_sums {Out} Returns all outs a total one theirs each adds =
    counters_are_sums all a (map total outs) one
    (subst (λ n. Every (λ (t : ActBy). t.thread < n) all) (sym (length-map outs total)) theirs)
    (λ i n at.
    let x = mapped_at total outs i n at in
    let t = each i x.0 x.1 in
    let own = adds i t.first t.last x.0 t.fresh t.ran in
    subst (λ (l : List Act). AddsAt a n l) (sym t.own_is) (subst (λ m. AddsAt a m (t.left ++ acts t.last)) x.2 (met_adds a (total x.0) t.left (acts t.last) t.met own)))

-- locked calls change nothing
met_changes : (left own : List Act) → AreMet left → changes (left ++ own) ≡ changes own
met_changes left own met = changes_both left own ∙ ap (λ (l : List Act). l ++ changes own) (changes_met left met)

beyond_none : {X : Type 0} (xs : List X) (i : ℕ) → slice_get xs i ≡ None → length xs ≤ i
beyond_none {X} xs i at = ⊎_elim (λ (o : (x : X) × (i < length xs) × (slice_get xs i ≡ Some x) × (slice_index_or xs i x ≡ x)). let no : None ≡ Some o.0 = sym at ∙ o.2 in absurd (cc no)) (λ (far : (length xs ≤ i) × (slice_get xs i ≡ None)). far.0) (slice_get_cases xs i).1

module _ {Out : Type 0} (Returns : ℕ → SessionState → SessionState → Out → Type 0) (ok : List ℕ → Bool) (all : List ActBy) (outs : List Out) (entries : Out → List (ℕ × List ℕ)) (theirs : Every (λ (t : ActBy). t.thread < length outs) all)
    (each : (i : ℕ) (out : Out) → slice_get outs i ≡ Some out → ThreadActs (Returns i) (acts_by i all) out)
    (told : (i : ℕ) (first last : SessionState) (out : Out) → IsFresh first → Returns i first last out → HasAppended ok (acts last) (entries out)) where
  -- who has no result did nothing
  no_acts : (i : ℕ) → length outs ≤ i → acts_by i all ≡ []
  no_acts i far =
      none_of_other (λ t. ltb t (length outs)) i all (le-ltb i (length outs) far)
      (every_weaker (λ (t : ActBy). t.thread < length outs) (λ (t : ActBy). ltb t.thread (length outs) ≡ true) all (λ t less. lt-ltb t.thread (length outs) less) theirs)

  -- the records of one
  record OfOne (i : ℕ) (o : Option Out) : Type 0 where
    records : List Appended
    appends : AppendsOnly records (acts_by i all)
    just : (out : Out) → o ≡ Some out → AreJust ok records (entries out)
    some : (k : ℕ) (r : Appended) → slice_get records k ≡ Some r → (out : Out) × (o ≡ Some out)

  of_one : (i : ℕ) (o : Option Out) → slice_get outs i ≡ o → OfOne i o
  of_one i None at = record { records = []; appends = ap changes (no_acts i (beyond_none outs i at)); just = λ out e. absurd (cc e); some = λ k r e. absurd (cc e) }
  of_one i (Some one) at =
      let t = each i one at in
      let r = told i t.first t.last one t.fresh t.ran in
      record {
        records = r.records;
        appends = ap changes t.own_is ∙ met_changes t.left (acts t.last) t.met ∙ r.only;
        just = λ out e. let same : one ≡ out = cc e in subst (λ (o : Out). AreJust ok r.records (entries o)) same r.just;
        some = λ k x e. (one, refl);
      }

  pub all_append : AllHaveAppended ok all outs entries
  all_append = record {
    records = λ i. (of_one i (slice_get outs i) refl).records;
    appends = λ i. (of_one i (slice_get outs i) refl).appends;
    just = λ i out at. (of_one i (slice_get outs i) refl).just out at;
    theirs = λ i k r at. (of_one i (slice_get outs i) refl).some k r at;
  }

pub threads_append : {Out : Type 0} (Returns : ℕ → SessionState → SessionState → Out → Type 0) → ThreadsAppend Returns
threads_append Returns ok all outs entries theirs each told = all_append Returns ok all outs entries theirs each told
