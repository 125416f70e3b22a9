-- What a run came to, and what its status tells once the writer was flushed.
use Rattle.std.proofs.Common.{◌≡◌, ◌≢◌, ◌⊎◌, inl, inr, ℕ, ◌^◌, Bool, true, false, cond, List, [], ◌∷◌, ◌++◌, ◌∙◌, refl, sym, ap, subst, arith}
use Rattle.std.specs.Prelude.{Option, Some, None, Result, Ok, Err, OnOk, IfErr, ◌≤◌, ◌<◌, length}
use Rattle.std.specs.Io.KnownBytes.{Appends, Keeps}
use Rattle.std.proofs.KnownBytes.{Appends-nil, Appends-trans}
use Rattle.hl_model.specs.declared.fault.Fault.{Fault}
use Rattle.hl_model.specs.declared.fault.Fault.TheVariants.{BadLine, OutOfMemory, Stream, Device}
use Rattle.hl_model.specs.Sizes.{Sizes}
use Rattle.hl_line.specs.declared.line.Line.{Line}
use Rattle.hl_line.specs.Streams.{BreaksOff}
use Rattle.hl_flush.specs.Unflushed.{image_lines}
use Rattle.hl_flush.proofs.UnflushedLaws.{unflushed-nil, image_lines-none}
use Rattle.hl_judge.specs.declared.verdict.Verdict.{Verdict}
use Rattle.hl_judge.specs.declared.verdict.Verdict.TheVariants.{Agrees, Deviates, NoEntry}
use Rattle.hl_judge.specs.Judging.{IsReadFault, Judges}
use Rattle.hl_script.specs.Answers.{sizes_of, accepted_after, accepted}
use Rattle.hl_script.specs.Cut.{whole_lines, unfinished_line}
use Rattle.hl_script.specs.Lines.{script}
use Rattle.hl_script.specs.Outcomes.{ReadToEnd, WroteAll, WroteBad, WroteWholeLines, FailedWrite, WroteFront, StoppedAtBadLine, StoppedByStream, RunStopped}
use Rattle.hl_script.specs.Text.{below, bad_text, count_of, text}
use Rattle.hl_commands.specs.Commands.{AreTheTags, written, script_status, EndsScript, EndsText, Answered, EndsReport, ReportedAs, EndsJudging}
use Rattle.hl_commands.specs.Judged.{judged_status}
use Rattle.hl_commands.specs.Reported.{Reports}

appends_kept : (a b c : Option (List ℕ)) (bytes : List ℕ) → Appends a b bytes → Keeps b c → Appends a c bytes
appends_kept None b c bytes wrote kept = tt
appends_kept (Some x) None c bytes wrote kept = absurd wrote
appends_kept (Some x) (Some y) None bytes wrote kept = absurd kept
appends_kept (Some x) (Some y) (Some z) bytes wrote kept = kept ∙ wrote

breaks_kept : (a b c : Option (List ℕ)) (bytes : List ℕ) → BreaksOff a b bytes → Keeps b c → BreaksOff a c bytes
breaks_kept a b c bytes broke kept = record { written = broke.written; missing = broke.missing; is_missing = broke.is_missing; both = broke.both; grown = appends_kept a b c broke.written broke.grown kept }

bad_kept : (has : ℕ → Bool) (a b c : Option (List ℕ)) (n : ℕ) (bytes : List ℕ) → Keeps b c → WroteBad has a b n bytes → WroteBad has a c n bytes
bad_kept has a b c n bytes kept bad = record { wrote = appends_kept a b c _ bad.wrote kept; bad = bad.bad }

stopped_kept : (has : ℕ → Bool) (reads : ℕ) (given left a b c : Option (List ℕ)) (n : ℕ) → Keeps b c → StoppedAtBadLine has reads given left a b n → StoppedAtBadLine has reads given left a c n
stopped_kept has reads given left a b c n kept did = (
  did.0,
  did.1,
  record {
    given = bad_kept has a b c n did.0 kept did.2.given;
    with_left = λ more is. bad_kept has a b c n (did.0 ++ more) kept (did.2.with_left more is);
  },
  did.3,
)

-- a run ends by one of these faults
run_faults : (has : ℕ → Bool) (images : Bool) (reads : ℕ) (given left before after : Option (List ℕ)) (lacked : List ℕ → Type 0) (fault : Fault) → RunStopped has reads given left before after lacked fault → EndsScript images fault
run_faults has images reads given left before after lacked (BadLine n) stopped = tt
run_faults has images reads given left before after lacked OutOfMemory stopped = tt
run_faults has images reads given left before after lacked Stream stopped = tt
run_faults has images reads given left before after lacked fault stopped = absurd stopped

-- so do the images
image_faults : (images : Bool) (fault : Fault) → images ≡ true → (fault ≡ OutOfMemory) ⊎ (fault ≡ Device) → EndsScript images fault
image_faults images fault wanted (inl is) = subst (EndsScript images) (sym is) tt
image_faults images fault wanted (inr is) = subst (EndsScript images) (sym is) wanted

-- memory was refused before the run began
pub lacked_text : (images : Bool) (given left before after : Option (List ℕ)) (fault : Fault) (ended : Result (Unit {0}) Fault) → fault ≡ OutOfMemory → ended ≡ Err fault → EndsText images given left before after ended
lacked_text images given left before after fault ended is end = record {
  has = below 1000;
  tags = λ tag. refl;
  done = λ ok. cc;
  refused = λ n bad. cc;
  broken = λ bad. cc;
  faults = λ f bad. let same : fault ≡ f = cc in subst (EndsScript images) (sym is ∙ same) tt;
}

-- the run stopped at this fault
pub text_stopped : (has : ℕ → Bool) (images : Bool) (given left before after : Option (List ℕ)) (lacked : List ℕ → Type 0) (fault : Fault) (ended : Result (Unit {0}) Fault)
    → AreTheTags has → RunStopped has (2 ^ 32) given left before after lacked fault → ended ≡ Err fault → EndsText images given left before after ended
text_stopped has images given left before after lacked fault ended tags stopped end = record {
  has = has;
  tags = tags;
  done = λ ok. cc;
  refused = λ n bad. let same : fault ≡ BadLine n = cc in subst (λ f. RunStopped has (2 ^ 32) given left before after lacked f) same stopped;
  broken = λ bad. let same : fault ≡ Stream = cc in subst (λ f. RunStopped has (2 ^ 32) given left before after lacked f) same stopped;
  faults = λ f bad. let same : fault ≡ f = cc in subst (EndsScript images) same (run_faults has images (2 ^ 32) given left before after lacked fault stopped);
}

-- images are written only if they are wanted
pub wanted_faults : (images : Bool) (ended : Result (Unit {0}) Fault) → images ≡ true → IfErr ended (λ fault. (fault ≡ OutOfMemory) ⊎ (fault ≡ Device)) → IfErr ended (λ fault. (images ≡ true) × ((fault ≡ OutOfMemory) ⊎ (fault ≡ Device)))
wanted_faults images (Ok done) wanted failed = tt
wanted_faults images (Err fault) wanted failed = (wanted, failed)

-- all was read, its text was written, and then what is wanted behind it, if that went well
pub text_read : (has : ℕ → Bool) (images : Bool) (given left before between after : Option (List ℕ)) (input behind : List ℕ) (ended : Result (Unit {0}) Fault)
    → AreTheTags has → ReadToEnd (2 ^ 32) given left input → WroteAll has before between input → OnOk ended (Appends between after behind)
    → text has input ++ behind ≡ written has images input → IfErr ended (λ fault. (images ≡ true) × ((fault ≡ OutOfMemory) ⊎ (fault ≡ Device))) → EndsText images given left before after ended
text_read has images given left before between after input behind ended tags read wrote more is failed = record {
  has = has;
  tags = tags;
  done = λ ok.
      record {
        input = input;
        read = read;
        good = wrote.good;
        wrote = subst (Appends before after) is (Appends-trans before between after (text has input) behind wrote.wrote (subst (λ r. OnOk r (Appends between after behind)) ok more));
      };
  refused = λ n bad. absurd (no_other (BadLine n) bad (λ is. cc) (λ is. cc));
  broken = λ bad. absurd (no_other Stream bad (λ is. cc) (λ is. cc));
  faults = λ f bad. let e = at_fault f bad in image_faults images f e.0 e.1;
}
  where
    at_fault : (fault : Fault) → ended ≡ Err fault → (images ≡ true) × ((fault ≡ OutOfMemory) ⊎ (fault ≡ Device))
    at_fault fault bad = subst (λ r. IfErr r (λ fault. (images ≡ true) × ((fault ≡ OutOfMemory) ⊎ (fault ≡ Device)))) bad failed

    no_other : (fault : Fault) → ended ≡ Err fault → fault ≢ OutOfMemory → fault ≢ Device → ⊥
    no_other fault bad memory device = by_kind (at_fault fault bad).1
      where
        by_kind : (fault ≡ OutOfMemory) ⊎ (fault ≡ Device) → ⊥
        by_kind (inl is) = memory is
        by_kind (inr is) = device is

-- and nothing more was wanted
pub text_alone : (has : ℕ → Bool) (images : Bool) (given left before after : Option (List ℕ)) (input : List ℕ)
    → AreTheTags has → ReadToEnd (2 ^ 32) given left input → WroteAll has before after input
    → text has input ++ [] ≡ written has images input → EndsText images given left before after (Ok tt)
text_alone has images given left before after input tags read wrote is =
    text_read has images given left before after after input [] (Ok tt) tags read wrote (Appends-nil after) is tt

-- no image is wanted
pub no_images : (has : ℕ → Bool) (images : Bool) (input : List ℕ) → images ≡ false → text has input ++ [] ≡ written has images input
no_images has images input unwanted = rw unwanted refl

no_lines : (has : ℕ → Bool) (lines : List Line) → None ≡ count_of has lines → image_lines (sizes_of lines) (accepted has lines) ≡ []
unfolding accepted accepted_after
no_lines has [] none = image_lines-none (sizes_of []) [] (unflushed-nil (sizes_of []))
no_lines has (line ∷ lines) none = cc

-- a script without a line has none
pub no_pages : (has : ℕ → Bool) (images : Bool) (input : List ℕ) → None ≡ count_of has (script input) → text has input ++ [] ≡ written has images input
no_pages has images input counted = ap (λ ls. text has input ++ ls) (by_flag images)
  where
    by_flag : (b : Bool) → [] ≡ cond b (image_lines (sizes_of (script input)) (accepted has (script input))) []
    by_flag true = sym (no_lines has (script input) counted)
    by_flag false = refl

-- the images are those of the engine at the script's end
pub its_images : (has : ℕ → Bool) (images : Bool) (input : List ℕ) (sizes : Sizes) → images ≡ true → sizes ≡ sizes_of (script input)
    → text has input ++ image_lines sizes (accepted has (script input)) ≡ written has images input
its_images has images input sizes wanted same = rw (wanted, same) refl

broken_kept : (has : ℕ → Bool) (reads : ℕ) (given left a b c : Option (List ℕ)) → Keeps b c → StoppedByStream has reads given left a b → StoppedByStream has reads given left a c
broken_kept has reads given left a b c kept did = (did.0, did.1, by_way did.2)
  where
    front_kept : (bytes : List ℕ) → WroteFront has a b bytes → WroteFront has a c bytes
    front_kept bytes front = breaks_kept a b c (text has bytes) front kept

    by_place : WroteFront has a b (whole_lines did.0) ⊎ (80 < length (unfinished_line did.0)) ⊎ ReadToEnd reads given left did.0
        → WroteFront has a c (whole_lines did.0) ⊎ (80 < length (unfinished_line did.0)) ⊎ ReadToEnd reads given left did.0
    by_place (inl front) = inl (front_kept (whole_lines did.0) front)
    by_place (inr other) = inr other

    by_way : WroteWholeLines has a b did.0 ⊎ FailedWrite has reads given left a b did.0 → WroteWholeLines has a c did.0 ⊎ FailedWrite has reads given left a c did.0
    by_way (inl whole) = inl (record {
      whole = record { wrote = appends_kept a b c _ whole.whole.wrote kept; good = whole.whole.good };
      unfinished = whole.unfinished;
    })
    by_way (inr failed) = inr (record {
      front = record {
        given = front_kept did.0 failed.front.given;
        with_left = λ more is. front_kept (did.0 ++ more) (failed.front.with_left more is);
      };
      place = by_place failed.place;
    })

-- a flush keeps what was read and written
text_kept : (images : Bool) (given left before between after : Option (List ℕ)) (ended : Result (Unit {0}) Fault) → EndsText images given left before between ended → Keeps between after → EndsText images given left before after ended
text_kept images given left before between after ended did kept = record {
  has = did.has;
  tags = did.tags;
  done = λ is. let a = did.done is in record { input = a.input; read = a.read; good = a.good; wrote = appends_kept before between after _ a.wrote kept };
  refused = λ n is. stopped_kept did.has (2 ^ 32) given left before between after n kept (did.refused n is);
  broken = λ is. broken_kept did.has (2 ^ 32) given left before between after kept (did.broken is);
  faults = did.faults;
}

-- so the status tells it
pub answered : (images : Bool) (given left before between after : Option (List ℕ)) (ended : Result (Unit {0}) Fault) (is_out : Bool) (status : ℕ)
    → EndsText images given left before between ended → Keeps between after → status ≡ script_status ended is_out → Answered images given left before after status
answered images given left before between after ended is_out status did kept is =
    record { ended = ended; is_out = is_out; ends = text_kept images given left before between after ended did kept; status_is = is }

-- memory was refused before the run for a report began
pub lacked_report : (given left before after : Option (List ℕ)) (fault : Fault) (ended : Result (Unit {0}) Fault) → fault ≡ OutOfMemory → ended ≡ Err fault → EndsReport given left before after ended
lacked_report given left before after fault ended is end = record {
  has = below 1000;
  tags = λ tag. refl;
  done = λ ok. cc;
  refused = λ n bad. cc;
  faults = λ f bad. let same : fault ≡ f = cc in subst (EndsScript false) (sym is ∙ same) tt;
}

-- a run for a report came to its end, to a line that is no step, or to a fault
pub report_ended : (has : ℕ → Bool) (given left before after : Option (List ℕ)) (ended : Result (Unit {0}) Fault)
    → AreTheTags has → OnOk ended (Reports has given left before after)
    → ((n : ℕ) → ended ≡ Err (BadLine n) → StoppedAtBadLine has (2 ^ 32) given left None None n)
    → ((n : ℕ) → ended ≡ Err (BadLine n) → Appends before after (bad_text (Some n)))
    → IfErr ended (EndsScript false) → EndsReport given left before after ended
report_ended has given left before after ended tags ok stopped told faults = record {
  has = has;
  tags = tags;
  done = λ is. subst (λ r. OnOk r (Reports has given left before after)) is ok;
  refused = λ n bad. (stopped n bad, told n bad);
  faults = λ f bad. subst (λ r. IfErr r (EndsScript false)) bad faults;
}

-- so the status of a report tells it
pub reported_as : (given left before between after : Option (List ℕ)) (ended : Result (Unit {0}) Fault) (is_out : Bool) (status : ℕ)
    → EndsReport given left before between ended → Keeps between after → status ≡ script_status ended is_out → ReportedAs given left before after status
reported_as given left before between after ended is_out status did kept is = record {
  ended = ended;
  is_out = is_out;
  ends = record {
    has = did.has;
    tags = did.tags;
    done = λ is. let a = did.done is in (a.0, a.1, appends_kept before between after _ a.2 kept);
    refused = λ n is. let told = did.refused n is in (told.0, appends_kept before between after _ told.1 kept);
    faults = did.faults;
  };
  status_is = is;
}

-- a judge came to one of these faults
pub judge_failed : (given before after : Option (List ℕ)) (fault : Fault) (ended : Result Verdict Fault) → (fault ≡ OutOfMemory) ⊎ IsReadFault fault → ended ≡ Err fault
    → (has : ℕ → Bool) × AreTheTags has × EndsJudging has given before after ended
judge_failed given before after fault ended is end = (below 1000, λ tag. refl, subst (EndsJudging (below 1000) given before after) (sym end) (by_kind is))
  where
    by_kind : (fault ≡ OutOfMemory) ⊎ IsReadFault fault → IsReadFault fault
    by_kind (inl memory) = subst IsReadFault (sym memory) tt
    by_kind (inr read) = read

pub stream_failed : (fault : Fault) → fault ≡ Stream → IsReadFault fault
stream_failed fault is = subst IsReadFault (sym is) tt

-- a judge's faults are those of a read
pub judges_fault : (has : ℕ → Bool) (given left : Option (List ℕ)) (fault : Fault) → Judges has given left (Err fault) → IsReadFault fault
judges_fault has given left OutOfMemory judges = tt
judges_fault has given left Stream judges = tt
judges_fault has given left fault judges = absurd judges
