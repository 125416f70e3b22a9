-- What a thread's report tells of what its session did.
use Rattle.std.proofs.Common.{◌≡◌, ◌≢◌, ℕ, zero, suc, ◌+◌, ◌-◌, Bool, true, false, if◌then◌else◌, List, [], ◌∷◌, ◌++◌, length, Some, Result, Ok, Err, slice_get, refl, sym, ap, ◌∙◌, subst, arith}
use Rattle.std.specs.Prelude.{MatchResult}
use Rattle.std.proofs.lemmas.List.{append_assoc, map_push}
use Rattle.std.proofs.lemmas.Option.{same_Some}
use Rattle.hl_model.specs.declared.fault.Fault.{Fault}
use Rattle.hl_domain.specs.Domains.{stays_current}
use Rattle.hl_traces.specs.declared.act.Act.{Act}
use Rattle.hl_traces.specs.declared.act.Act.TheVariants.{Loaded, Met}
use Rattle.hl_traces.specs.Records.{changes, loads_from}
use Rattle.hl.specs.Sessions.{SessionState}
use Rattle.hl.specs.Traces.{acts, AppendsBy, AreMet, KeepsUpBy, OnlyMeets}
use Rattle.hl.specs.Uses.{AppendsMore, AreNumbers, HasAppended}
use Rattle.example_records.specs.declared.storing.Entry.{Entry}
use Rattle.example_records.specs.Records.{is_framed, rows_of, AddsTold, AreTold, IsRead, KeepsTold, LoadedOn}

-- what holds of each element, and of one more behind them
pub one_more : {X : Type 0} (P : ℕ → X → Type 0) (xs : List X) (y : X) → ((n : ℕ) (x : X) → slice_get xs n ≡ Some x → P n x) → P (length xs) y → (n : ℕ) (x : X) → slice_get (xs ++ y ∷ []) n ≡ Some x → P n x
one_more P [] y each one zero x at = subst (P 0) (same_Some y x at) one
one_more P [] y each one (suc n) x at = absurd (cc at)
one_more P (z ∷ xs) y each one zero x at = each 0 x at
one_more P (z ∷ xs) y each one (suc n) x at = one_more (λ m u. P (suc m) u) xs y (λ m u e. each (suc m) u e) one n x at

-- what holds of both holds of either
pub either : {X : Type 0} (P : X → Type 0) (ok : Bool) (x y : X) → P x → P y → P (if ok then x else y)
either P true x y one two = one
either P false x y one two = two

-- locked calls change nothing
changes_met : (own old : List Act) → AreMet own → changes (own ++ old) ≡ changes old
changes_met [] old met = refl
changes_met (act ∷ own) old met = ap (λ (x : Act). changes (x ∷ (own ++ old))) met.0.1 ∙ changes_met own old met.1

pub met_loads : (old new : SessionState) → OnlyMeets old new → LoadedOn (acts old) (acts new)
met_loads old new meets = (meets.0, meets.2, ap changes meets.2 ∙ changes_met meets.0 (acts old) meets.1)

-- a session that was brought up to date made one call or none
pub kept_loads : (old new : SessionState) → KeepsUpBy old new → LoadedOn (acts old) (acts new)
kept_loads old new keeps = by (stays_current old.pass new.pass) refl
  where
    by : (t : Bool) → stays_current old.pass new.pass ≡ t → LoadedOn (acts old) (acts new)
    by true e = ([], keeps.0 e, ap changes (keeps.0 e))
    by false e = let meets = keeps.1 e in (Met meets.0 ∷ [], meets.1, ap changes meets.1)

-- loads after loads
pub loads_after : (old mid new : List Act) → LoadedOn old mid → LoadedOn mid new → LoadedOn old new
loads_after old mid new one two = (two.0 ++ one.0, two.1 ∙ ap (λ (l : List Act). two.0 ++ l) one.1 ∙ sym (append_assoc two.0 one.0 old), two.2 ∙ one.2)

-- loads of a row
pub row_loads : (a : ℕ) (words : List ℕ) (old : List Act) → LoadedOn old (loads_from a words old)
row_loads a [] old = ([], refl, refl)
row_loads a (w ∷ words) old = loads_after old (Loaded a w ∷ old) (loads_from (a + 1) words (Loaded a w ∷ old)) (Loaded a w ∷ [], refl, refl) (row_loads (a + 1) words (Loaded a w ∷ old))

-- two loads, and then a row
pub two_loads : (a u b v : ℕ) (old one two : List Act) → one ≡ Loaded a u ∷ old → two ≡ Loaded b v ∷ one → LoadedOn old two
two_loads a u b v old one two first second = (let e = second ∙ ap (λ (l : List Act). Loaded b v ∷ l) first in (Loaded b v ∷ Loaded a u ∷ [], e, ap changes e))

pub all_loads : (a : ℕ) (row : List ℕ) (old two new : List Act) → LoadedOn old two → new ≡ loads_from a row two → LoadedOn old new
all_loads a row old two new loads is = loads_after old two new loads (subst (λ (l : List Act). LoadedOn two l) (sym is) (row_loads a row two))

-- that is how a row is read
pub is_read : (a count end last : ℕ) (row words : List ℕ) (old one two new : List Act) → one ≡ Loaded a count ∷ old → two ≡ Loaded end last ∷ one → new ≡ loads_from a row two → words ≡ row → length row ≡ count → end ≡ a + (count - 1) → count ≢ 0 → last ≢ 0 → IsRead new a words
is_read a count end last row words old one two new first second third same long place some whole =
    let there : end ≡ a + (length row - 1) = omega (arith, place, long) in
    let loads = third ∙ ap (loads_from a row) (second ∙ ap (λ (l : List Act). Loaded end last ∷ l) first ∙ ap (λ (b : ℕ). Loaded b last ∷ Loaded a count ∷ old) there ∙ ap (λ (n : ℕ). Loaded (a + (length row - 1)) last ∷ Loaded a n ∷ old) (sym long)) in
    subst (λ (l : List ℕ). IsRead new a l) (sym same) ([], old, last, loads, omega (arith, long, some), whole)

-- what was read stays told when more is done
still_read : (own old new : List Act) (read : List Entry) → new ≡ own ++ old → ((n : ℕ) (e : Entry) → slice_get read n ≡ Some e → IsRead old e.address e.words.items) → (n : ℕ) (e : Entry) → slice_get read n ≡ Some e → IsRead new e.address e.words.items
still_read own old new read grew reads n e at = let r = reads n e at in (own ++ r.0, r.1, r.2, grew ∙ ap (λ (l : List Act). own ++ l) r.3 ∙ sym (append_assoc own r.0 _), r.4, r.5)

-- as after loads
pub loads_keep : (old new : List Act) → LoadedOn old new → KeepsTold old new
loads_keep old new loads appended read told = record {
  appends = record { records = told.appends.records; only = loads.2 ∙ told.appends.only; just = told.appends.just };
  reads = still_read loads.0 old new read loads.1 told.reads;
}

-- and after an append, with the new record
pub answered : AppendsMore → (words : List ℕ) (result : Result ℕ Fault) (old new : SessionState) → is_framed words ≡ true → AreNumbers words → AppendsBy 63 words result old new → MatchResult result (AddsTold words (acts old) (acts new)) (λ _. KeepsTold (acts old) (acts new))
answered law words (Ok a) old new framed fit did = λ e at are appended read told. record {
  appends = subst (HasAppended is_framed (acts new)) (sym (map_push (λ (x : Entry). (x.address, x.words.items)) appended e ∙ ap (λ (b : ℕ). rows_of appended ++ (b, e.words.items) ∷ []) at ∙ ap (λ (l : List ℕ). rows_of appended ++ (a, l) ∷ []) are))
      (law is_framed 63 words (Ok a) old new (rows_of appended) framed fit did told.appends);
  reads = still_read did.0 (acts old) (acts new) read did.1 told.reads;
}
answered law words (Err fault) old new framed fit did = λ appended read told. record {
  appends = law is_framed 63 words (Err fault) old new (rows_of appended) framed fit did told.appends;
  reads = still_read did.0 (acts old) (acts new) read did.1 told.reads;
}

-- a session that did nothing yet but to enter tells nothing
pub none_told : (own : List Act) → (n : ℕ) × (own ≡ Met n ∷ []) → (appended read : List Entry) → appended ≡ [] → read ≡ [] → AreTold own appended read
none_told own fresh appended read none nothing = record {
  appends = subst (λ (l : List Entry). HasAppended is_framed own (rows_of l)) (sym none)
      (record { records = []; only = ap changes fresh.1; just = record { has = λ n row at. absurd (cc at); others = λ k r at. absurd (cc at); fine = λ k r at. absurd (cc at) } });
  reads = λ n e at. let there : slice_get [] n ≡ Some e = sym (ap (λ (l : List Entry). slice_get l n) nothing) ∙ at in absurd (cc there);
}

-- what an append that was refused leaves
pub in_vain : (result : Result ℕ Fault) (Adds : ℕ → Type 0) (Keeps : Type 0) → ((x : ℕ) → result ≡ Ok x → ⊥) → MatchResult result Adds (λ _. Keeps) → Keeps
in_vain (Ok x) Adds Keeps not_ok did = absurd (not_ok x refl)
in_vain (Err fault) Adds Keeps not_ok did = did

-- a record more was read
pub read_told : (e : Entry) (own : List Act) (appended read : List Entry) → IsRead own e.address e.words.items → AreTold own appended read → AreTold own appended (read ++ e ∷ [])
read_told e own appended read is told = record { appends = told.appends; reads = one_more (λ _ x. IsRead own x.address x.words.items) read e told.reads is }
