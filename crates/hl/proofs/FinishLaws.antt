-- A log's last rider finishes after the others.
use Rattle.std.proofs.Common.{◌≡◌, ℕ, zero, suc, ◌+◌, Option, Some, None, Bool, true, false, List, [], ◌∷◌, ◌++◌, map, length, refl, ap, sym, ◌∙◌, subst, subst₂, Result, Ok, Err, arith, append_assoc, length-append, inl, inr}
use Rattle.std.specs.Prelude.{is_some, if◌then◌else◌, IfSome, MatchResult}
use Rattle.hl_traces.specs.Traces.{RiderTraces}
use Rattle.hl_traces.proofs.TraceLaws.{new_traces}
use Rattle.hl_model.specs.declared.fault.Fault.{Fault}
use Rattle.hl_model.specs.Sizes.{Sizes}
use Rattle.hl_words.specs.States.{RiderState, new_rider, new_riders}
use Rattle.hl_words.proofs.Dealing.{new_long}
use Rattle.hl_domain.specs.Domains.{DomainState}
use Rattle.hl_crew.specs.declared.limits.Cuts.{Cuts}
use Rattle.hl.specs.declared.outcome.Finished.{Finished}
use Rattle.hl.specs.declared.memory.MemoryDevice.{MemoryDevice}
use Rattle.hl.specs.declared.opening.Opening.{Opening}
use Rattle.hl.specs.Closings.{CountReturned}
use Rattle.hl.specs.Devices.{device_has}
use Rattle.hl.specs.Configs.{behind}
use Rattle.hl.specs.LastSession.{answer_of_flusher, as_told, flushed_by, one_or_none, rider_of, AreFinished, Flusher, FlushedBy, TellsFlush, HasFailed, IsFinish, IsFirstFault, IsNoFinish, IsUnfinished}
use Rattle.hl.specs.Openings.{opened_as}
use Rattle.hl.specs.Sessions.{SessionState}
use Rattle.hl.proofs.OutLaws.{all_of_same, left_without}

-- the element behind a list, and the list, are those of another that is the same
snoc_same : {X : Type 0} (xs ys : List X) (x y : X) → xs ++ x ∷ [] ≡ ys ++ y ∷ [] → (xs ≡ ys) × (x ≡ y)
snoc_same [] [] x y same = (refl, (let e = same in cc))
snoc_same [] (b ∷ ys) x y same = absurd (let long : 1 ≡ suc (length (ys ++ y ∷ [])) = ap length same in omega (arith, long, length-append ys (y ∷ [])))
snoc_same (a ∷ xs) [] x y same = absurd (let long : suc (length (xs ++ x ∷ [])) ≡ 1 = ap length same in omega (arith, long, length-append xs (x ∷ [])))
snoc_same (a ∷ xs) (b ∷ ys) x y same =
    let first : a ≡ b = (let e = same in cc) in
    let rest : xs ++ x ∷ [] ≡ ys ++ y ∷ [] = (let e = same in cc) in
    let both = snoc_same xs ys x y rest in
    (ap (λ l. a ∷ l) both.0 ∙ ap (λ z. z ∷ ys) first, both.1)

-- all riders but the last are new, and so is it
pub last_new : (n : ℕ) (rest : List RiderState) (last : RiderState) → new_riders n ≡ rest ++ last ∷ [] → (length rest + 1 ≡ n) × (rest ≡ new_riders (length rest)) × (last ≡ new_rider (length rest))
last_new zero rest last parts = absurd (let long : 0 ≡ length (rest ++ last ∷ []) = ap length parts in omega (arith, long, length-append rest (last ∷ [])))
last_new (suc n) rest last parts =
    let both = snoc_same (new_riders n) rest (new_rider n) last parts in
    let count : n ≡ length rest = sym (new_long n) ∙ ap length both.0 in
    (omega (arith, count), sym both.0 ∙ ap new_riders count, sym both.1 ∙ ap new_rider count)

-- the same with one more behind it, if there is one
pub parts_new : (n : ℕ) (rest : List RiderState) (last : RiderState) (flusher : Option RiderState) → new_riders n ≡ rest ++ last ∷ one_or_none flusher
    → (length rest + behind (is_some flusher) ≡ n) × (rest ≡ new_riders (length rest)) × (last ≡ new_rider (length rest)) × (flusher ≡ (if is_some flusher then Some (new_rider (length rest + 1)) else None))
parts_new n rest last None parts = let one = last_new n rest last parts in (one.0, one.1, one.2, refl)
parts_new n rest last (Some rider) parts =
    let two = last_new n (rest ++ last ∷ []) rider (parts ∙ sym (append_assoc rest (last ∷ []) (rider ∷ []))) in
    let one = last_new (length (rest ++ last ∷ [])) rest last (sym two.1) in
    (omega (arith, two.0, one.0), one.1, one.2, ap (λ r. Some r) (two.2 ∙ ap new_rider (sym one.0)))

-- the one who is to flush has a trace, if there is one
pub flusher_traces : (sizes : Sizes) (flusher : Option RiderState) (name : ℕ) → flusher ≡ (if is_some flusher then Some (new_rider name) else None) → IfSome flusher (RiderTraces sizes)
flusher_traces sizes None name is = tt
flusher_traces sizes (Some rider) name is = let same : rider ≡ new_rider name = cc is in subst (RiderTraces sizes) (sym same) (new_traces sizes name)

-- the threads of a log of this opening left this: their riders and those behind were all riders, each of them new
pub record ThreadsLeft {Out : Type 0} (F : Type 0) (o : Opening Sizes) (Returns : ℕ → SessionState → SessionState → Out → Type 0) (Took : ℕ → List ℕ → Type 0)
    (log : DomainState) (flush : Bool) (rest : List RiderState) (last : RiderState) (flusher : Option RiderState) (riders : List RiderState) (outs : List (Result Out Fault))
    : Type 0 where
  pub same : log ≡ opened_as o
  pub others : length rest + behind flush ≡ o.riders
  pub last_is : last ≡ new_rider (length rest)
  pub flusher_is : flusher ≡ (if flush then Some (new_rider (length rest + 1)) else None)
  pub returned : CountReturned F (opened_as o) true Returns Took (length rest) outs riders

pub threads_left : {Out : Type 0} (F : Type 0) (o : Opening Sizes) (Returns : ℕ → SessionState → SessionState → Out → Type 0) (Took : ℕ → List ℕ → Type 0) (total : ℕ) {log : DomainState} {flush : Bool} {rest : List RiderState} {last : RiderState} {flusher : Option RiderState} {riders : List RiderState} {outs : List (Result Out Fault)} (device : Option MemoryDevice)
    → log ≡ opened_as o → is_some flusher ≡ flush → new_riders o.riders ≡ rest ++ last ∷ one_or_none flusher → total ≡ length rest → is_some device ≡ false → CountReturned F log true Returns (device_has Took device) total outs riders
    → ThreadsLeft F o Returns Took log flush rest last flusher riders outs
threads_left F o Returns Took total {log} {flush} {rest} {last} {flusher} {riders} {outs} device same wanted parts count none left =
    let new = parts_new o.riders rest last flusher parts in
    record { same = same; others = subst (λ (b : Bool). length rest + behind b ≡ o.riders) wanted new.0; last_is = new.2; flusher_is = subst (λ (b : Bool). flusher ≡ (if b then Some (new_rider (length rest + 1)) else None)) wanted new.3; returned = all_of_same F log (opened_as o) true Returns Took total (length rest) outs riders same count (left_without F log true Returns Took total outs device riders none left) }

module _ {Out : Type 0} {F : Type 0} {o : Opening Sizes} {Returns : ℕ → SessionState → SessionState → Out → Type 0} {Took : ℕ → List ℕ → Type 0} {log : DomainState} {flush : Bool} {rest : List RiderState} {last : RiderState} {flusher : Option RiderState} {riders : List RiderState} {outs : List (Result Out Fault)}
    (t : ThreadsLeft F o Returns Took log flush rest last flusher riders outs) where
  -- with those behind the riders are all
  pub all_there : (more : List RiderState) → length more ≡ length (one_or_none flusher) → length riders + 1 + length more ≡ log.riders
  all_there more long =
      let all : length rest + behind flush ≡ log.riders = t.others ∙ sym (ap (λ (l : DomainState). l.riders) t.same) in
      let many : length more + 1 ≡ behind flush = ap (λ n. n + 1) (long ∙ ap (λ (f : Option RiderState). length (one_or_none f)) t.flusher_is) ∙ by flush in
      omega (arith, all, many, t.returned.back)
    where
      by : (b : Bool) → length (one_or_none (if b then Some (new_rider (length rest + 1)) else None)) + 1 ≡ behind b
      by true = refl
      by false = refl

  pub refused_thread : (cuts : Cuts) (Finishes : SessionState → SessionState → Out → Type 0) (Flushing : SessionState → SessionState → Result ℕ Fault → Type 0) (fault : Fault) → IsFirstFault outs fault → HasFailed F o cuts flush Returns Took Finishes Flushing fault
  refused_thread cuts Finishes Flushing fault first = inl (record { count = length rest; others = t.others; outs = outs; riders = riders; returned = t.returned; first = first })

  pub has_finished : (cuts : Cuts) (Finishes : SessionState → SessionState → Out → Type 0) (Flushing : SessionState → SessionState → Result ℕ Fault → Type 0) (answered : Option Flusher) (finished : Finished Out F)
      → FlushedBy F log true Flushing flusher answered → outs ≡ map (λ out. Ok out) finished.outs.items → finished.flushed ≡ flushed_by (answer_of_flusher answered) finished.ending.snapshot.six
      → IsFinish F log cuts Finishes riders last (one_or_none (rider_of answered)) finished.last finished.ending → AreFinished F o cuts flush Returns Took Finishes Flushing finished
  has_finished cuts Finishes Flushing answered finished flushed are told finish = record {
    count = length rest;
    others = t.others;
    riders = riders;
    returned = subst (λ l. CountReturned F (opened_as o) true Returns Took (length rest) l riders) are t.returned;
    flusher = answered;
    flushed = subst₂ (λ (l : DomainState) (f : Option RiderState). FlushedBy F l true Flushing f answered) t.same t.flusher_is flushed;
    told = told;
    finish = subst₂ (λ (l : DomainState) (r : RiderState). IsFinish F l cuts Finishes riders r (one_or_none (rider_of answered)) finished.last finished.ending) t.same t.last_is finish;
  }

  pub not_finished : (cuts : Cuts) (Finishes : SessionState → SessionState → Out → Type 0) (Flushing : SessionState → SessionState → Result ℕ Fault → Type 0) (all : List Out) (fault : Fault) → outs ≡ map (λ out. Ok out) all
      → IsNoFinish F log cuts Finishes last fault → HasFailed F o cuts flush Returns Took Finishes Flushing fault
  not_finished cuts Finishes Flushing all fault are failed = inr (inr (record {
    count = length rest;
    others = t.others;
    outs = all;
    riders = riders;
    returned = subst (λ l. CountReturned F (opened_as o) true Returns Took (length rest) l riders) are t.returned;
    failed = subst₂ (λ (l : DomainState) (r : RiderState). IsNoFinish F l cuts Finishes r fault) t.same t.last_is failed;
  }))

  -- what the flush was answered, or why it has no answer
  pub flush_told : (Flushing : SessionState → SessionState → Result ℕ Fault → Type 0) (told : Option (Result (Result ℕ Fault) Fault × RiderState)) (answered : Option Flusher)
      → TellsFlush F log true Flushing flusher told → told ≡ as_told answered → FlushedBy F log true Flushing flusher answered
  flush_told Flushing told answered tells is = by flusher answered (subst (TellsFlush F log true Flushing flusher) is tells)
    where
      by : (f : Option RiderState) (a : Option Flusher) → TellsFlush F log true Flushing f (as_told a) → FlushedBy F log true Flushing f a
      by None None t = refl
      by None (Some x) t = absurd (cc t)
      by (Some r) (Some x) t = t
      by (Some r) None t = elim t [ ]

  -- it stands behind the others, if the one who was to flush does
  pub flush_many : (Flushing : SessionState → SessionState → Result ℕ Fault → Type 0) (told : Option (Result (Result ℕ Fault) Fault × RiderState)) (answered : Option Flusher)
      → TellsFlush F log true Flushing flusher told → told ≡ as_told answered → length (one_or_none (rider_of answered)) ≡ length (one_or_none flusher)
  flush_many Flushing told answered tells is = by flusher answered (subst (TellsFlush F log true Flushing flusher) is tells)
    where
      by : (f : Option RiderState) (a : Option Flusher) → TellsFlush F log true Flushing f (as_told a) → length (one_or_none (rider_of a)) ≡ length (one_or_none f)
      by None None t = refl
      by None (Some x) t = absurd (cc t)
      by (Some r) (Some x) t = refl
      by (Some r) None t = elim t [ ]

  pub not_flushed : (cuts : Cuts) (Finishes : SessionState → SessionState → Out → Type 0) (Flushing : SessionState → SessionState → Result ℕ Fault → Type 0) (all : List Out) (told : Option (Result (Result ℕ Fault) Fault × RiderState)) (fault : Fault) (rider : RiderState)
      → outs ≡ map (λ out. Ok out) all → TellsFlush F log true Flushing flusher told → told ≡ Some (Err fault, rider) → HasFailed F o cuts flush Returns Took Finishes Flushing fault
  not_flushed cuts Finishes Flushing all told fault rider are tells is = by flush refl
    where
      there : TellsFlush F (opened_as o) true Flushing (if flush then Some (new_rider (length rest + 1)) else None) (Some (Err fault, rider))
      there = subst₂ (λ (l : DomainState) (f : Option RiderState). TellsFlush F l true Flushing f (Some (Err fault, rider))) t.same t.flusher_is (subst (TellsFlush F log true Flushing flusher) is tells)

      by : (b : Bool) → flush ≡ b → HasFailed F o cuts flush Returns Took Finishes Flushing fault
      by true e = inr (inl (
        e,
        record {
          count = length rest;
          others = subst (λ (b : Bool). length rest + behind b ≡ o.riders) e t.others;
          outs = all;
          riders = riders;
          returned = subst (λ l. CountReturned F (opened_as o) true Returns Took (length rest) l riders) are t.returned;
          last = rider;
          failed = subst (λ (b : Bool). TellsFlush F (opened_as o) true Flushing (if b then Some (new_rider (length rest + 1)) else None) (Some (Err fault, rider))) e there;
        },
      ))
      by false e = absurd (let none : Some (Err fault, rider) ≡ None = subst (λ (b : Bool). TellsFlush F (opened_as o) true Flushing (if b then Some (new_rider (length rest + 1)) else None) (Some (Err fault, rider))) e there in cc none)

-- a log whose threads ran and that has no result has none
pub as_unfinished : {Out : Type 0} (F : Type 0) (o : Opening Sizes) (cuts : Cuts) (flush : Bool) (Returns : ℕ → SessionState → SessionState → Out → Type 0) (Took : ℕ → List ℕ → Type 0) (Finishes : SessionState → SessionState → Out → Type 0) (Flushing : SessionState → SessionState → Result ℕ Fault → Type 0) (result : Result (Finished Out F) Fault)
    → MatchResult result (AreFinished F o cuts flush Returns Took Finishes Flushing) (HasFailed F o cuts flush Returns Took Finishes Flushing) → MatchResult result (AreFinished F o cuts flush Returns Took Finishes Flushing) (IsUnfinished F o cuts flush Returns Took Finishes Flushing)
as_unfinished F o cuts flush Returns Took Finishes Flushing (Ok finished) told = told
as_unfinished F o cuts flush Returns Took Finishes Flushing (Err fault) told = inr told
