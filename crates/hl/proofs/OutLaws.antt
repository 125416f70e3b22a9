-- What threads returned, in the order of their numbers.
use Rattle.std.proofs.Common.{◌≡◌, ◌≢◌, ℕ, zero, suc, ◌+◌, ◌-◌, ◌<◌, Bool, true, false, List, [], ◌∷◌, ◌++◌, map, length, slice_index_or, refl, ap, sym, ◌∙◌, subst, subst₂, Option, Some, None, Result, Ok, Err, IsOk, IfSome, MatchResult, arith, ltb-true, ltb-false, inl, inr}
use Rattle.std.specs.Prelude.{nat_lt, drop, is_some, IfSome}
use Rattle.std.specs.List.{AllByRecursion}
use Rattle.std.proofs.lemmas.List.{drop_at, get_or-map, get_or_append_left, get_or-append_right, length-map, length-append}
use Rattle.std.specs.Fork.{ChangesAt, ChangesEach}
use denote.Param.Members.{Shared}
use denote.Ref.{MutBor}
use Rattle.hl_model.specs.declared.fault.Fault.{Fault}
use Rattle.hl_model.specs.declared.fault.Fault.TheVariants.{Stranger}
use Rattle.hl_model.proofs.ListLaws.{all-append}
use Rattle.hl_history.proofs.Calls.{every_back, every_front}
use Rattle.hl_words.specs.States.{RiderState, new_rider, new_riders}
use Rattle.hl_words.proofs.Dealing.{new_long}
use Rattle.hl_domain.specs.Domains.{DomainState}
use Rattle.hl_model.specs.Sizes.{Sizes}
use Rattle.hl_image.specs.Pages.{Pages, image_at}
use Rattle.hl_images.specs.Kept.{RiderEnters}
use Rattle.hl_images.specs.Sweeps.{StoresSweep}
use Rattle.hl_crew.specs.declared.crew.Crew.{Crew}
use Rattle.hl_crew.specs.declared.crew.CrewRiders.{CrewRiders}
use Rattle.hl_crew.specs.declared.limits.Cuts.TheVariants.{Never}
use Rattle.hl_crew.specs.Limited.{duty_cuts}
use Rattle.hl_crew.specs.Riders.{AreImaged, CutsNone, FlushesNone, MakesCrewSteps, riders_of}
use Rattle.hl.specs.declared.memory.MemoryDevice.{MemoryDevice}
use Rattle.hl.specs.Devices.{device_has, has_page, on_memory}
use Rattle.hl.specs.Sessions.{SessionState, beside_crew}
use Rattle.hl.specs.declared.opening.Opening.{Opening}
use Rattle.hl.specs.Closings.{rider_at, Tells, AreReturned, AllReturned, FlushesTaken, CountReturned}

-- the new rider at a place is that of its name
new_at : (n i : ℕ) (none : RiderState) → i < n → slice_index_or (new_riders n) i none ≡ new_rider i
new_at zero i none within = absurd (omega (arith, within))
new_at (suc n) i none within = by_test (new_at n i none) (nat_lt i n) refl
  where
    by_test : (i < n → slice_index_or (new_riders n) i none ≡ new_rider i) → (t : Bool) → nat_lt i n ≡ t → slice_index_or (new_riders n ++ new_rider n ∷ []) i none ≡ new_rider i
    by_test before true e =
        let less = ltb-true i n e in
        get_or_append_left (new_riders n) (new_rider n ∷ []) none i (omega (arith, less, new_long n)) ∙ before less
    by_test before false e =
        let same : i ≡ n = omega (arith, ltb-false i n e, within) in
        let first : i - n ≡ 0 = omega (arith, same) in
        get_or-append_right (new_riders n) (new_rider n ∷ []) n i none (new_long n) (omega (arith, same)) ∙ ap (λ k. slice_index_or (new_rider n ∷ []) k none) first ∙ ap new_rider (sym same)

-- as many new riders as there are
pub all_new : (n : ℕ) (all : List RiderState) → all ≡ new_riders n → (length all ≡ n) × (all ≡ new_riders (length all))
all_new n all new = let long : length all ≡ n = ap length new ∙ new_long n in (long, new ∙ ap new_riders (sym long))

-- what holds of each new rider holds of all
pub news_all : (P : RiderState → Type 0) → ((name : ℕ) → P (new_rider name)) → (n : ℕ) → AllByRecursion P (new_riders n)
news_all P each zero = tt
news_all P each (suc n) = all-append P (new_riders n) (new_rider n ∷ []) (news_all P each n) (each n, tt)

-- what holds of new riders holds of those of a crew that were taken out of new ones
pub crew_given : (P : RiderState → Type 0) → ((name : ℕ) → P (new_rider name)) → (n : ℕ) (all olds crew : List RiderState) → all ≡ new_riders n → all ≡ olds ++ crew → AllByRecursion P crew
crew_given P each n all olds crew new parts = every_back P olds crew (subst (AllByRecursion P) (sym new ∙ parts) (news_all P each n))

-- and those of the threads
pub threads_given : (P : RiderState → Type 0) → ((name : ℕ) → P (new_rider name)) → (n : ℕ) (all olds crew : List RiderState) → all ≡ new_riders n → all ≡ olds ++ crew → AllByRecursion P olds
threads_given P each n all olds crew new parts = every_front P olds crew (subst (AllByRecursion P) (sym new ∙ parts) (news_all P each n))

-- what holds of all holds of the one at a place
pub at_place : {X : Type 0} (P : X → Type 0) (xs : List X) (i : ℕ) (none : X) → AllByRecursion P xs → i < length xs → P (slice_index_or xs i none)
at_place P [] i none all within = absurd (omega (arith, within))
at_place P (x ∷ xs) zero none all within = all.0
at_place P (x ∷ xs) (suc i) none all within = at_place P xs i none all.1 (omega (arith, within))

all_mapped : {X : Type 0} (P : RiderState → Type 0) (places : List (X × RiderState)) → AllByRecursion P (map (λ place. place.1) places) → AllByRecursion (λ place. P place.1) places
all_mapped P [] all = tt
all_mapped P (place ∷ places) all = (all.0, all_mapped P places all.1)

-- and so of the rider at each place
pub place_holds : {X : Type 0} (P : RiderState → Type 0) (places : List (X × RiderState)) → AllByRecursion P (map (λ place. place.1) places) → (i : ℕ) (place : X × RiderState) → i < length places → place ≡ slice_index_or places i place → P place.1
place_holds {X} P places all i place within is = subst (λ (p : X × RiderState). P p.1) (sym is) (at_place (λ (p : X × RiderState). P p.1) places i place (all_mapped P places all) within)

-- a new rider stored nothing, and flushed nothing
pub new_sweeps : (sizes : Sizes) (name : ℕ) → StoresSweep sizes (new_rider name)
new_sweeps sizes name = tt

pub new_flushes : (name : ℕ) → FlushesNone (new_rider name)
new_flushes name page = refl

-- a crew whose pages are imaged has each page that it flushed on a device
none_taken : (Took : ℕ → List ℕ → Type 0) (sizes : Sizes) (r : RiderState) → FlushesNone r → FlushesTaken Took sizes r
none_taken Took sizes r none page flushed = absurd (let contrary : false ≡ true = sym (none page) ∙ flushed in cc)

pub crew_taken : {L W : Type 0} (has : W → ℕ → List ℕ → Type 0) (Took : ℕ → List ℕ → Type 0) (sizes : Sizes) (crew : Crew L W) → ((page : ℕ) (bytes : List ℕ) → has crew.first page bytes → Took page bytes) → ((page : ℕ) (bytes : List ℕ) → has crew.second page bytes → Took page bytes)
    → AreImaged has sizes crew → AllByRecursion (FlushesTaken Took sizes) (riders_of crew.riders)
crew_taken has Took sizes crew first second are = (
  none_taken Took sizes crew.riders.flusher are.flusher,
  (
    λ page flushed. let one = are.first page flushed in (one.0, first page _ one.1, one.2),
    (λ page flushed. let one = are.second page flushed in (one.0, second page _ one.1, one.2), (none_taken Took sizes crew.riders.cleaner are.cleaner, tt)),
  ),
)

-- of threads of one log, of whose sessions so much holds
module _ {Out : Type 0} (F : Type 0) (log : DomainState) (may_cut : Bool) (Returns : ℕ → SessionState → SessionState → Out → Type 0) where
  -- results and riders are taken by their places from pairs of both
  returned_of : (olds : ℕ → RiderState) (pairs : List (Result Out Fault × RiderState))
      → ((i : ℕ) (pair : Result Out Fault × RiderState) → i < length pairs → Tells F log beside_crew may_cut (Returns i) (olds i) (slice_index_or pairs i pair).1 (slice_index_or pairs i pair).0)
      → AreReturned F log may_cut Returns olds (map (λ one. one.0) pairs) (map (λ one. one.1) pairs)
  returned_of olds pairs each i d within =
      let inside : i < length pairs = subst (λ n. i < n) (length-map pairs (λ x. x.0)) within in
      subst₂ (λ (x : Result Out Fault) (r : RiderState). Tells F log beside_crew may_cut (Returns i) (olds i) r x)
      (sym (get_or-map (λ x. x.0) pairs i (d, new_rider i) d inside)) (sym (get_or-map (λ x. x.1) pairs i (d, new_rider i) (new_rider i) inside)) (each i (d, new_rider i) inside)

  -- what is left of places with riders, where each call leaves at its place what is said of it
  pub work_returned : {C : Type 0} (g : Shared C (ℕ × (MutBor (Result Out Fault × RiderState) × Unit {0})) (Unit {0} × (MutBor (Result Out Fault × RiderState) × Unit {0}))) (f : C) (olds news : List (Result Out Fault × RiderState))
      → length news ≡ length olds
      → ((i : ℕ) (old new : Result Out Fault × RiderState) → ChangesAt g f i old new → Tells F log beside_crew may_cut (Returns i) old.1 new.1 new.0)
      → ChangesEach g f olds news
      → (length news ≡ length (map (λ place. place.1) olds)) × AreReturned F log may_cut Returns (rider_at (map (λ place. place.1) olds)) (map (λ one. one.0) news) (map (λ one. one.1) news)
  work_returned g f olds news long calls each = (
    long ∙ sym (length-map olds (λ place. place.1)),
    returned_of (rider_at (map (λ place. place.1) olds)) news (λ i pair within.
        let inside : i < length olds = subst (λ n. i < n) long within in
        let rider : (slice_index_or olds i pair).1 ≡ rider_at (map (λ place. place.1) olds) i = sym (get_or-map (λ place. place.1) olds i pair (new_rider i) inside) in
        subst (λ (r : RiderState). Tells F log beside_crew may_cut (Returns i) r (slice_index_or news i pair).1 (slice_index_or news i pair).0) rider (calls i _ _ (each i pair inside).1)),
  )

  -- results and riders of threads whose riders were new, with a crew's riders behind
  pub with_crew : (Took : ℕ → List ℕ → Type 0) (total : ℕ) (all olds crew : List RiderState) (outs : List (Result Out Fault)) (news back : List RiderState)
      → all ≡ new_riders total → all ≡ olds ++ crew → length outs ≡ length olds → length news ≡ length olds → length crew ≡ 4 → length back ≡ 4
      → AllByRecursion (StoresSweep log.sizes) back → AllByRecursion (RiderEnters log.sizes) back → AllByRecursion MakesCrewSteps back → (may_cut ≡ false → AllByRecursion CutsNone back) → AllByRecursion (FlushesTaken Took log.sizes) back → AreReturned F log may_cut Returns (rider_at olds) outs news → CountReturned F log may_cut Returns Took total outs (news ++ back)
  with_crew Took total all olds crew outs news back new parts long many four others sweeps enters makes keeps taken each =
      let count : length olds + 4 ≡ total = omega (arith, ap length parts, length-append olds crew, four, ap length new, new_long total) in
      let crews : drop (length outs) (news ++ back) ≡ back = drop_at news back (length outs) (many ∙ sym long) in
      record {
        back = length-append news back ∙ omega (arith, count, others, many);
        threads = omega (arith, count, long);
        each = λ number other within.
            let here : number < length olds = omega (arith, within, long) in
            let old : rider_at olds number ≡ new_rider number = sym (get_or_append_left olds crew (new_rider number) number here) ∙ ap (λ l. rider_at l number) (sym parts ∙ new) ∙ new_at total number (new_rider number) (omega (arith, here, count)) in
            let now : rider_at news number ≡ rider_at (news ++ back) number = sym (get_or_append_left news back (new_rider number) number (omega (arith, here, many))) in
            subst₂ (λ (r s : RiderState). Tells F log beside_crew may_cut (Returns number) r s (slice_index_or outs number other)) old now (each number other within);
        sweeps = subst (AllByRecursion (StoresSweep log.sizes)) (sym crews) sweeps;
        enters = subst (AllByRecursion (RiderEnters log.sizes)) (sym crews) enters;
        makes = subst (AllByRecursion MakesCrewSteps) (sym crews) makes;
        keeps = λ kept. subst (AllByRecursion CutsNone) (sym crews) (keeps kept);
        images = subst (AllByRecursion (FlushesTaken Took log.sizes)) (sym crews) taken;
      }

-- a duty that cuts at no number of steps never cuts
pub never_cuts : (above : Option ℕ) → is_some above ≡ false → duty_cuts above ≡ Never
never_cuts None none = refl
never_cuts (Some steps) none = absurd cc

-- how many riders there are in places, and with a crew's
pub places_count : {X L : Type 0} (places : List (X × RiderState)) (crew : CrewRiders L) → length (map (λ place. place.1) places ++ riders_of crew) ≡ length places + 4
places_count places crew = length-append (map (λ place. place.1) places) (riders_of crew) ∙ ap (λ n. n + 4) (length-map places (λ place. place.1))

-- what is known of one log and so many riders is known of what is the same
pub all_of_same : {Out : Type 0} (F : Type 0) (log other : DomainState) (may_cut : Bool) (Returns : ℕ → SessionState → SessionState → Out → Type 0) (Took : ℕ → List ℕ → Type 0) (total many : ℕ) (outs : List (Result Out Fault)) (riders : List RiderState) → log ≡ other → total ≡ many → CountReturned F log may_cut Returns Took total outs riders → CountReturned F other may_cut Returns Took many outs riders
all_of_same F log other may_cut Returns Took total many outs riders same count known = subst₂ (λ l n. CountReturned F l may_cut Returns Took n outs riders) same count known

-- what is left without a device in memory, and with one
pub left_without : {Out : Type 0} (F : Type 0) (log : DomainState) (may_cut : Bool) (Returns : ℕ → SessionState → SessionState → Out → Type 0) (Took : ℕ → List ℕ → Type 0) (total : ℕ) (outs : List (Result Out Fault)) (device : Option MemoryDevice) (riders : List RiderState)
    → is_some device ≡ false → CountReturned F log may_cut Returns (device_has Took device) total outs riders → CountReturned F log may_cut Returns Took total outs riders
left_without F log may_cut Returns Took total outs None riders none left = left
left_without F log may_cut Returns Took total outs (Some d) riders none left = absurd cc

pub left_with : {Out : Type 0} (F : Type 0) (log : DomainState) (may_cut : Bool) (Returns : ℕ → SessionState → SessionState → Out → Type 0) (Took : ℕ → List ℕ → Type 0) (outs : List (Result Out Fault)) (device : Option MemoryDevice) (d : MemoryDevice) (riders : List RiderState)
    → device ≡ Some d → AllReturned F log may_cut Returns (device_has Took device) outs riders → AllReturned F log may_cut Returns (on_memory d) outs riders
left_with F log may_cut Returns Took outs device d riders is left = subst (λ (o : Option MemoryDevice). AllReturned F log may_cut Returns (device_has Took o) outs riders) is left

-- all riders are there, so the log was closed
pub ending_stands : {E : Type 0} (o : Opening Sizes) (ending : Result E Fault) (riders : List RiderState) (Ends : E → Type 0)
    → length riders ≡ o.riders → MatchResult ending (λ ending. (length riders ≡ o.riders) × Ends ending) (λ fault. (fault ≡ Stranger o.stamp) × (length riders ≢ o.riders)) → IsOk ending
ending_stands o (Ok ending) riders Ends all told = refl
ending_stands o (Err fault) riders Ends all told = absurd (told.1 all)

-- the pages that a crew flushed by page writers of one kind, of which this is left
pub sinks_taken : {L W P : Type 0} (Took : P → ℕ → List ℕ → Type 0) (work : P) (named : Option P) (memory : W → Option Pages) (sizes : Sizes) (crew : Crew L W) (device : Option MemoryDevice)
    → named ≡ Some work → is_some (memory crew.first) ≡ is_some (memory crew.second) → is_some device ≡ is_some (memory crew.first) → IfSome device (λ d. memory crew.first ≡ Some d.first) → IfSome device (λ d. memory crew.second ≡ Some d.second)
    → AreImaged (λ sink page bytes. has_page (λ page bytes. IfSome named (λ work. Took work page bytes)) (memory sink) page bytes) sizes crew → AllByRecursion (FlushesTaken (device_has (Took work) device) sizes) (riders_of crew.riders)
sinks_taken {L} {W} {P} Took work named memory sizes crew device is same kind first second are =
    crew_taken (λ (sink : W) page bytes. has_page (λ page bytes. IfSome named (λ work. Took work page bytes)) (memory sink) page bytes) (device_has (Took work) device) sizes crew (by (λ d. d.first) (λ d page bytes. inl) (memory crew.first) device kind first) (by (λ d. d.second) (λ d page bytes. inr) (memory crew.second) device (kind ∙ same) second) are
  where
    told : (page : ℕ) (bytes : List ℕ) → IfSome named (λ work. Took work page bytes) → Took work page bytes
    told page bytes there = subst (λ (o : Option P). IfSome o (λ work. Took work page bytes)) is there

    by : (row : MemoryDevice → Pages) → ((d : MemoryDevice) (page : ℕ) (bytes : List ℕ) → image_at page (row d) ≡ Some bytes → on_memory d page bytes)
        → (m : Option Pages) (device : Option MemoryDevice) → is_some device ≡ is_some m → IfSome device (λ d. m ≡ Some (row d)) → (page : ℕ) (bytes : List ℕ) → has_page (λ page bytes. IfSome named (λ work. Took work page bytes)) m page bytes → device_has (Took work) device page bytes
    by row on None None kind is page bytes there = told page bytes there
    by row on (Some m) (Some d) kind is page bytes there = let same : m ≡ row d = cc is in on d page bytes (subst (λ (k : Pages). image_at page k ≡ Some bytes) same there)
    by row on None (Some d) kind is page bytes there = absurd cc
    by row on (Some m) None kind is page bytes there = absurd cc
