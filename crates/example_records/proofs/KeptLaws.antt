-- Whatever was read at the address of a record is that record.
use Rattle.std.proofs.Common.{◌≡◌, ◌≢◌, ℕ, ◌+◌, ◌-◌, true, List, [], ◌∷◌, ◌++◌, length, map, option_map, Some, Ok, slice_get, sym, ap, ◌∙◌, subst, arith}
use Rattle.std.proofs.lemmas.List.{append_assoc}
use Rattle.std.proofs.lemmas.Option.{slice_get-map}
use Rattle.hl_action.specs.declared.no_job.NoJob.{NoJob}
use Rattle.hl_model.specs.Sizes.{Sizes}
use Rattle.hl_traces.specs.declared.act.Act.{Act}
use Rattle.hl_traces.specs.declared.act.Act.TheVariants.{Loaded}
use Rattle.hl_traces.specs.OneTrace.{acts_by}
use Rattle.hl_traces.specs.Records.{loads_from, RecordsAreFoundBy, RecordsAreWhole}
use Rattle.hl.specs.Devices.{on_memory}
use Rattle.hl.specs.Left.{AreLeft}
use Rattle.hl.specs.Scans.{AreTold as AreFound, RecordsAreScanned}
use Rattle.hl.specs.Threads.{AreOneTrace, HaveOneTrace}
use Rattle.hl.specs.Traces.{acts}
use Rattle.hl.specs.Uses.{whole, AllHaveAppended, ThreadsAppend}
use Rattle.example_records.specs.declared.keeping.Kept.{Kept}
use Rattle.example_records.specs.declared.storing.Entry.{Entry}
use Rattle.example_records.specs.declared.storing.Report.{Report}
use Rattle.example_records.specs.Records.{is_framed, returns_report, rows_of, AreAsAppended, AreKept, AreScanned, IsRead}
use Rattle.example_records.proofs.ScanLaws.{first_of, framed_ends}
use Rattle.example_records.proofs.TellLaws.{row_loads}

module _ (sizes : Sizes) (kept : Kept) (words : List ℕ) (one : HaveOneTrace NoJob sizes (λ _. returns_report) (on_memory kept.device) kept.reports (Ok kept.ending)) (append : ThreadsAppend (λ _. returns_report)) (found_by : RecordsAreFoundBy) (are_whole : RecordsAreWhole) (can_scan : RecordsAreScanned NoJob Report)
    (left : AreLeft sizes kept.device kept.ending words) (scanned : AreScanned words kept.found.items) (reports : List Report) (are : kept.reports.items ≡ map (λ report. Ok report) reports) where
  trace : AreOneTrace NoJob sizes (λ _. returns_report) (on_memory kept.device) reports kept.ending
  trace = one reports are

  -- what each thread appended
  told : AllHaveAppended is_framed trace.all reports (λ report. rows_of report.appended.items)
  told = append is_framed trace.all reports (λ report. rows_of report.appended.items) trace.theirs trace.each (λ i first last out fresh ran. (ran fresh).appends)

  -- what a thread read where another appended a record is that record
  same : (i k j : ℕ) (a : ℕ) (words row : List ℕ) (left own : List Act) → slice_get (told.records i) k ≡ Some (whole a row) → is_framed row ≡ true → acts_by j trace.all ≡ left ++ own → IsRead own a words → words ≡ row
  same i k j a words row left own at frame parts read =
      let end = Loaded (a + (length words - 1)) read.2 in
      let base = Loaded a (length words) ∷ read.1 in
      let front = row_loads a words (end ∷ base) in
      let all_loads : acts_by j trace.all ≡ (left ++ read.0) ++ loads_from a words (end ∷ base) = parts ∙ ap (λ (l : List Act). left ++ l) read.3 ∙ sym (append_assoc left read.0 _) in
      let first : acts_by j trace.all ≡ (((left ++ read.0) ++ front.0) ++ end ∷ []) ++ base =
      all_loads ∙ ap (λ (l : List Act). (left ++ read.0) ++ l) front.1 ∙ sym (append_assoc (left ++ read.0) front.0 (end ∷ base)) ∙ sym (append_assoc ((left ++ read.0) ++ front.0) (end ∷ []) base) in
      let here : a ≡ a + 0 = omega arith in
      let some : length words ≢ 0 = λ none. omega (arith, none, read.4) in
      let long : length words ≡ length row =
      found_by trace.all told.records trace.one told.appends i k j (length words) 0 (length row) (whole a row) _ read.1 at (first_of row frame) (first ∙ ap (λ (b : ℕ). (((left ++ read.0) ++ front.0) ++ end ∷ []) ++ Loaded b (length words) ∷ read.1) here) some in
      are_whole trace.all told.records trace.one told.appends i k j read.2 (whole a row) words (left ++ read.0) [] base at all_loads long read.4 read.5

  read : (j : ℕ) (report : Report) → slice_get reports j ≡ Some report → AreAsAppended report.read.items reports
  read j report at_j n i m e f other at_n at_i at_m address =
      let of_thread = trace.each j report at_j in
      let k = (told.just i other at_i).has m (f.address, f.words.items) (slice_get-map (λ (e : Entry). (e.address, e.words.items)) other.appended.items m ∙ ap (option_map (λ (e : Entry). (e.address, e.words.items))) at_m) in
      let is_read = subst (λ (a : ℕ). IsRead (acts of_thread.last) a e.words.items) (sym address) ((of_thread.ran of_thread.fresh).reads n e at_n) in
      same i k.0 j f.address e.words.items f.words.items of_thread.left _ k.1 ((told.just i other at_i).fine k.0 (whole f.address f.words.items) k.1).0 of_thread.own_is is_read

  all_found : AreFound (rows_of kept.found.items) reports (λ report. rows_of report.appended.items)
  all_found = let can = can_scan is_framed sizes kept.device kept.ending words trace.all reports (λ report. rows_of report.appended.items) framed_ends left trace.holds trace.one told in can.1 (rows_of kept.found.items) (scanned told.records can.0)

pub records_kept : (sizes : Sizes) (kept : Kept) (words : List ℕ) → HaveOneTrace NoJob sizes (λ _. returns_report) (on_memory kept.device) kept.reports (Ok kept.ending) → ThreadsAppend (λ _. returns_report) → RecordsAreFoundBy → RecordsAreWhole → RecordsAreScanned NoJob Report
    → AreLeft sizes kept.device kept.ending words → AreScanned words kept.found.items → AreKept kept
records_kept sizes kept words one append found_by are_whole can_scan left scanned = record {
  read = read sizes kept words one append found_by are_whole can_scan left scanned;
  found = all_found sizes kept words one append found_by are_whole can_scan left scanned;
}
