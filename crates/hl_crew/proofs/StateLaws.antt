-- What a crew keeps of what it was given, by what its threads and its last rounds did.
use Rattle.std.proofs.Common.{◌≡◌, ℕ, Bool, true, false, ◌&&◌, List, refl, sym, ap, ◌∙◌, subst}
use Rattle.std.specs.Prelude.{Result, Ok, Err, IsOk, IfOk, IfErr, ◌↔◌}
use Rattle.hl_model.specs.declared.fault.Fault.{Fault}
use Rattle.hl_model.specs.Sizes.{Sizes}
use Rattle.hl_words.specs.States.{RiderState}
use Rattle.hl_domain.specs.Domains.{DomainState}
use Rattle.hl_crew.specs.declared.cleaner.CleanerState.{CleanerState}
use Rattle.hl_crew.specs.declared.counts.Counts.{Counts}
use Rattle.hl_crew.specs.declared.crew.Crew.{Crew}
use Rattle.hl_crew.specs.declared.crew.CrewReport.{CrewReport}
use Rattle.hl_crew.specs.declared.flusher.FlusherState.{FlusherState}
use Rattle.hl_crew.specs.declared.limits.Cuts.{Cuts}
use Rattle.hl_crew.specs.declared.limits.Limits.{Limits}
use Rattle.hl_crew.specs.declared.messages.Over.{Over}
use Rattle.hl_crew.specs.declared.state.CrewState.{CrewState}
use Rattle.hl_crew.specs.declared.writer.WriterState.{WriterState}
use Rattle.hl_crew.specs.Goes.{UpTo}
use Rattle.hl_crew.specs.Riders.{WritesPage, FailsPage, RidersStay, WorksOn, WritesOn, KeepsSwept, SweepsOn, AllWorkOn, AreAsGiven, crew_of, riders_of}
use Rattle.hl_crew.specs.Rounds.{MakesRound, RoundsIf, HasWorked, HasWorkedInPart}
use Rattle.hl_crew.specs.Runs.{TurnsBy}
use Rattle.hl_crew.specs.Works.{WritesBy, CleansBy, begun, counts_of, all_counted, IsLeft}
use Rattle.hl_crew.proofs.RepeatLaws.{up_to_holds}
use Rattle.hl_crew.proofs.CleanerLaws.{cleaner_same, cleaner_then, cleaner_works}
use Rattle.hl_crew.proofs.RiderLaws.{no_more, then, turned_works, flusher_works}
use Rattle.hl_crew.proofs.WriterLaws.{writer_same, writer_then, writer_looks, writer_works}

-- what holds of a thread that did its work, and of one that did nothing
left_holds : {S : Type 0} (Did Holds : S → S → Type 0) (given own : S) → (own ≡ given → Holds given own) → (Did given own → Holds given own) → (is_done : Bool) → IsLeft Did given is_done own → Holds given own
left_holds Did Holds given own same did false left = same left
left_holds Did Holds given own same did true left = did left

module _ {L W : Type 0} (has : W → ℕ → List ℕ → Type 0) (cuts : Cuts) (serves : Bool) (F : Type 0) (domain : DomainState) where
  -- nobody but the flusher did something
  flusher_alone : (old new : CrewState L W) → WorksOn cuts serves domain.sizes old.flusher.rider new.flusher.rider → new ≡ record old { flusher = new.flusher } → AllWorkOn has cuts serves domain.sizes old new
  flusher_alone old new works same = record {
    flusher = works;
    first = writer_same has cuts serves domain.sizes old.first new.first (ap (λ (h : CrewState L W). h.first) same);
    second = writer_same has cuts serves domain.sizes old.second new.second (ap (λ (h : CrewState L W). h.second) same);
    cleaner = cleaner_same cuts serves F domain old.cleaner new.cleaner (ap (λ (h : CrewState L W). h.cleaner) same);
  }

  state_same : (old new : CrewState L W) → new ≡ old → AllWorkOn has cuts serves domain.sizes old new
  state_same old new same =
      let turned = ap (λ (h : CrewState L W). h.flusher) same in
      flusher_alone old new (no_more cuts serves domain.sizes old.flusher.rider new.flusher.rider (ap (λ (f : FlusherState L). f.rider) turned)) (same ∙ ap (λ (f : FlusherState L). record old { flusher = f }) (sym turned))

  state_then : (old mid new : CrewState L W) → AllWorkOn has cuts serves domain.sizes old mid → AllWorkOn has cuts serves domain.sizes mid new → AllWorkOn has cuts serves domain.sizes old new
  state_then old mid new a b = record {
    flusher = then cuts serves domain.sizes old.flusher.rider mid.flusher.rider new.flusher.rider a.flusher b.flusher;
    first = writer_then has cuts serves domain.sizes old.first mid.first new.first a.first b.first;
    second = writer_then has cuts serves domain.sizes old.second mid.second new.second a.second b.second;
    cleaner = cleaner_then cuts serves F domain old.cleaner mid.cleaner new.cleaner a.cleaner b.cleaner;
  }

-- a crew whose threads began with these riders, and whose cleaner kept no page then
pub all_as_given : {L W : Type 0} (has : W → ℕ → List ℕ → Type 0) (cuts : Cuts) (serves : Bool) (sizes : Sizes) (given : Crew L W) (last : CrewState L W) → AllWorkOn has cuts serves sizes (begun given) last
    → AreAsGiven has cuts serves sizes (riders_of given.riders) (crew_of last)
all_as_given has cuts serves sizes given last works =
    let cleaner = (works.cleaner tt).works in
    record {
      stay = record {
        sweeps = λ s. (works.flusher.sweeps s.0, (works.first.sweeps s.1.0, (works.second.sweeps s.1.1.0, (cleaner.sweeps s.1.1.1.0, tt))));
        enters = λ h. (works.flusher.enters h.0, (works.first.enters h.1.0, (works.second.enters h.1.1.0, (cleaner.enters h.1.1.1.0, tt))));
        makes = λ m. (works.flusher.makes m.0, (works.first.makes m.1.0, (works.second.makes m.1.1.0, (cleaner.makes m.1.1.1.0, tt))));
        keeps = λ never c. (works.flusher.keeps never c.0, (works.first.keeps never c.1.0, (works.second.keeps never c.1.1.0, (cleaner.keeps never c.1.1.1.0, tt))));
      };
      images = λ serving none. record {
        flusher = λ p. works.flusher.flushes serving p ∙ none.0 p;
        first = works.first.images serving (λ p flushed. absurd (let contrary : false ≡ true = sym (none.1.0 p) ∙ flushed in cc));
        second = works.second.images serving (λ p flushed. absurd (let contrary : false ≡ true = sym (none.1.1.0 p) ∙ flushed in cc));
        cleaner = λ p. cleaner.flushes serving p ∙ none.1.1.1.0 p;
      };
    }

module _ {L W : Type 0} (has : W → ℕ → List ℕ → Type 0) (F : Type 0) (domain : DomainState) (limits : Limits) (lets : ℕ → Type 0) (wrote failed : W → ℕ → List ℕ → W → Type 0) (failures : W → ℕ) where
  -- what the threads left
  left_works : (serves by_flusher by_first by_second by_cleaner : Bool) (given left : CrewState L W) → IsLeft (TurnsBy F domain limits serves) given.flusher by_flusher left.flusher
      → IsLeft (WritesBy F domain limits lets (WritesPage has wrote) (FailsPage has failed) failures serves) given.first by_first left.first
      → IsLeft (WritesBy F domain limits lets (WritesPage has wrote) (FailsPage has failed) failures serves) given.second by_second left.second
      → IsLeft (CleansBy F domain limits) given.cleaner by_cleaner left.cleaner → AllWorkOn has limits.cuts serves domain.sizes given left
  left_works serves by_flusher by_first by_second by_cleaner given left flusher first second cleaner = record {
    flusher = left_holds (TurnsBy F domain limits serves) (λ (a b : FlusherState L). WorksOn limits.cuts serves domain.sizes a.rider b.rider) given.flusher left.flusher
        (λ same. no_more limits.cuts serves domain.sizes given.flusher.rider left.flusher.rider (ap (λ (f : FlusherState L). f.rider) same)) (flusher_works limits domain.sizes F domain serves given.flusher left.flusher) by_flusher flusher;
    first = writer by_first given.first left.first first;
    second = writer by_second given.second left.second second;
    cleaner = left_holds (CleansBy F domain limits) (λ (a b : CleanerState L). KeepsSwept domain.sizes a → SweepsOn limits.cuts serves domain.sizes a b) given.cleaner left.cleaner
        (cleaner_same limits.cuts serves F domain given.cleaner left.cleaner) (cleaner_works limits.cuts serves F domain limits.turns given.cleaner left.cleaner) by_cleaner cleaner;
  }
    where
      writer : (is_done : Bool) (given own : WriterState L W) → IsLeft (WritesBy F domain limits lets (WritesPage has wrote) (FailsPage has failed) failures serves) given is_done own → WritesOn has limits.cuts serves domain.sizes given own
      writer is_done given own = left_holds (WritesBy F domain limits lets (WritesPage has wrote) (FailsPage has failed) failures serves) (WritesOn has limits.cuts serves domain.sizes) given own
          (writer_same has limits.cuts serves domain.sizes given own) (writer_works has F domain limits lets wrote failed failures serves given own) is_done

  -- the last rounds of a crew that serves
  rounds_work : (most : ℕ) (result : Result (Unit {0}) Over) (old new : CrewState L W) → UpTo (MakesRound F domain limits lets (WritesPage has wrote) (FailsPage has failed) failures) most result old new → AllWorkOn has limits.cuts true domain.sizes old new
  rounds_work = up_to_holds (AllWorkOn has limits.cuts true domain.sizes) (state_same has limits.cuts true F domain) (state_then has limits.cuts true F domain) (MakesRound F domain limits lets (WritesPage has wrote) (FailsPage has failed) failures) round
    where
      round : (i : ℕ) (result : Result Bool Over) (old new : CrewState L W) → MakesRound F domain limits lets (WritesPage has wrote) (FailsPage has failed) failures i result old new → AllWorkOn has limits.cuts true domain.sizes old new
      round i (Ok true) old new (turned, one, looks) = record {
        flusher = subst (λ f. WorksOn limits.cuts true domain.sizes old.flusher.rider f.rider) (sym looks.flusher) (turned_works limits domain.sizes F domain true (Ok true) old.flusher turned one);
        first = writer_looks has limits.cuts true F domain limits lets wrote failed failures _ old.first new.first looks.first;
        second = writer_looks has limits.cuts true F domain limits lets wrote failed failures _ old.second new.second looks.second;
        cleaner = cleaner_works limits.cuts true F domain _ old.cleaner new.cleaner looks.cleaner;
      }
      round i (Ok false) old new (one, same) = flusher_alone has limits.cuts true F domain old new (turned_works limits domain.sizes F domain true (Ok false) old.flusher new.flusher one) same
      round i (Err over) old new (one, same) = flusher_alone has limits.cuts true F domain old new (turned_works limits domain.sizes F domain true (Err over) old.flusher new.flusher one) same

  -- the last rounds, if there are any
  ended_works : (are_done serves : Bool) (left last : CrewState L W) → RoundsIf F domain limits lets (WritesPage has wrote) (FailsPage has failed) failures (are_done && serves) left last → AllWorkOn has limits.cuts serves domain.sizes left last
  ended_works true true left last (result, rounds) = rounds_work _ result left last rounds
  ended_works true false left last same = state_same has limits.cuts false F domain left last same
  ended_works false serves left last same = state_same has limits.cuts serves F domain left last same

  -- a whole crew, as far as its threads did their work
  pub crew_works : (are_done serves by_flusher by_first by_second by_cleaner : Bool) (given : Crew L W) (left last : CrewState L W) → IsLeft (TurnsBy F domain limits serves) (begun given).flusher by_flusher left.flusher
      → IsLeft (WritesBy F domain limits lets (WritesPage has wrote) (FailsPage has failed) failures serves) (begun given).first by_first left.first
      → IsLeft (WritesBy F domain limits lets (WritesPage has wrote) (FailsPage has failed) failures serves) (begun given).second by_second left.second
      → IsLeft (CleansBy F domain limits) (begun given).cleaner by_cleaner left.cleaner → RoundsIf F domain limits lets (WritesPage has wrote) (FailsPage has failed) failures (are_done && serves) left last
      → AreAsGiven has limits.cuts serves domain.sizes (riders_of given.riders) (crew_of last)
  crew_works are_done serves by_flusher by_first by_second by_cleaner given left last flusher first second cleaner rounds =
      all_as_given has limits.cuts serves domain.sizes given last (state_then has limits.cuts serves F domain (begun given) left last
      (left_works serves by_flusher by_first by_second by_cleaner (begun given) left flusher first second cleaner) (ended_works are_done serves left last rounds))

module _ {L W : Type 0} (F : Type 0) (domain : DomainState) (limits : Limits) (lets : ℕ → Type 0) (wrote failed : W → ℕ → List ℕ → W → Type 0) (failures : W → ℕ) (serves : Bool) (given crew : Crew L W) where
  -- all threads did their work, and then the last rounds were made
  pub crew_worked : (counts : Counts) (left last : CrewState L W) (a b c d are_done : Bool) → (a && (b && (c && d))) ≡ true → are_done ≡ true → IsLeft (TurnsBy F domain limits serves) (begun given).flusher a left.flusher
      → IsLeft (WritesBy F domain limits lets wrote failed failures serves) (begun given).first b left.first → IsLeft (WritesBy F domain limits lets wrote failed failures serves) (begun given).second c left.second
      → IsLeft (CleansBy F domain limits) (begun given).cleaner d left.cleaner → RoundsIf F domain limits lets wrote failed failures (are_done && serves) left last → crew_of last ≡ crew → all_counted last ≡ counts
      → HasWorked F domain limits lets wrote failed failures serves given crew counts
  crew_worked counts left last true true true true true all done flusher first second cleaner rounds is counts_are =
      record { left = left; flusher = flusher; first = first; second = second; cleaner = cleaner; last = last; rounds = rounds; is = is; counts_are = counts_are }
  crew_worked counts left last true true true true false all done flusher first second cleaner rounds is counts_are = absurd cc
  crew_worked counts left last true true true false are_done all done flusher first second cleaner rounds is counts_are = absurd cc
  crew_worked counts left last true true false d are_done all done flusher first second cleaner rounds is counts_are = absurd cc
  crew_worked counts left last true false c d are_done all done flusher first second cleaner rounds is counts_are = absurd cc
  crew_worked counts left last false b c d are_done all done flusher first second cleaner rounds is counts_are = absurd cc

  -- a report comes only of such a crew
  pub worked_if : (result : Result CrewReport Fault) (counts : Counts) (are_done : Bool) → (IsOk result ↔ (are_done ≡ true)) → IfOk result (λ report. (report.written ≡ counts.written) × (report.failed ≡ counts.failed) × (report.strangers ≡ counts.strangers))
      → (are_done ≡ true → HasWorked F domain limits lets wrote failed failures serves given crew counts) → IfOk result (λ report. HasWorked F domain limits lets wrote failed failures serves given crew (counts_of report))
  worked_if (Ok report) counts are_done done told worked =
      let same : counts ≡ counts_of report = rw (told.0, told.1, told.2) refl in subst (HasWorked F domain limits lets wrote failed failures serves given crew) same (worked (done.0 refl))
  worked_if (Err fault) counts are_done done told worked = tt

  -- a thread was missing, so no last rounds were made
  pub crew_worked_in_part : (left last : CrewState L W) (a b c d are_done : Bool) → are_done ≡ false → IsLeft (TurnsBy F domain limits serves) (begun given).flusher a left.flusher
      → IsLeft (WritesBy F domain limits lets wrote failed failures serves) (begun given).first b left.first → IsLeft (WritesBy F domain limits lets wrote failed failures serves) (begun given).second c left.second
      → IsLeft (CleansBy F domain limits) (begun given).cleaner d left.cleaner → RoundsIf F domain limits lets wrote failed failures (are_done && serves) left last → crew_of last ≡ crew
      → HasWorkedInPart F domain limits lets wrote failed failures serves given crew
  crew_worked_in_part left last a b c d false none flusher first second cleaner same is =
      record { left = left; by_flusher = a; by_first = b; by_second = c; by_cleaner = d; flusher = flusher; first = first; second = second; cleaner = cleaner; is = subst (λ (s : CrewState L W). crew_of s ≡ crew) same is }
  crew_worked_in_part left last a b c d true none flusher first second cleaner rounds is = absurd cc

  -- a crew is refused only then
  pub worked_in_part_if : (result : Result CrewReport Fault) (are_done : Bool) → (IsOk result ↔ (are_done ≡ true)) → (are_done ≡ false → HasWorkedInPart F domain limits lets wrote failed failures serves given crew)
      → IfErr result (λ _. HasWorkedInPart F domain limits lets wrote failed failures serves given crew)
  worked_in_part_if (Ok report) are_done done worked = tt
  worked_in_part_if (Err fault) true done worked = absurd (let contrary : false ≡ true = done.1 refl in cc)
  worked_in_part_if (Err fault) false done worked = worked refl

-- a crew that did nothing
pub nothing_done : {L W : Type 0} (F : Type 0) (domain : DomainState) (limits : Limits) (lets : ℕ → Type 0) (wrote failed : W → ℕ → List ℕ → W → Type 0) (failures : W → ℕ) (serves : Bool) (given : Crew L W)
    → HasWorkedInPart F domain limits lets wrote failed failures serves given given
nothing_done F domain limits lets wrote failed failures serves given =
    record { left = begun given; by_flusher = false; by_first = false; by_second = false; by_cleaner = false; flusher = refl; first = refl; second = refl; cleaner = refl; is = refl }

-- what stays of some riders stays of what are the same
pub stays_of : (cuts : Cuts) (sizes : Sizes) (given riders back : List RiderState) → RidersStay cuts sizes given back → given ≡ riders → RidersStay cuts sizes riders back
stays_of cuts sizes given riders back stay same = subst (λ r. RidersStay cuts sizes r back) same stay
