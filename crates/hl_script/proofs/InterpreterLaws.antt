-- What the parts of a run make of where it stands.
use Rattle.std.proofs.Common.{◌≡◌, ◌≢◌, ◌<◌, ◌≤◌, ◌⊎◌, inl, inr, ℕ, ◌+◌, Bool, true, false, cond, List, [], ◌∷◌, ◌++◌, length, refl, sym, ap, ◌∙◌, subst, append_assoc, append-nil, arith, length-append}
use Rattle.std.specs.Prelude.{Option, Some, None, Err}
use Rattle.std.specs.Io.KnownBytes.{Appends, Consumes, Keeps}
use Rattle.std.proofs.lemmas.Bool.{false≢true}
use Rattle.std.specs.List.{list_any}
use Rattle.std.proofs.lemmas.List.{length_push}
use Rattle.hl_model.specs.declared.fault.Fault.{Fault}
use Rattle.hl_model.specs.declared.fault.Fault.TheVariants.{BadLine, OutOfMemory, Stream}
use Rattle.hl_line.specs.Streams.{BreaksOff}
use Rattle.hl_line.specs.declared.line.Line.{Line}
use Rattle.hl_line.specs.Reading.{line_of}
use Rattle.hl_line.proofs.Reading.{line_of-long}
use Rattle.hl_script.specs.Cut.{whole_lines, unfinished_line}
use Rattle.hl_script.specs.Lines.{script, bad_line, allowed, may_stand}
use Rattle.hl_script.specs.Answers.{accepted, accepted_after}
use Rattle.hl_script.specs.Text.{answers, bad_text, text}
use Rattle.hl_script.specs.Outcomes.{ReadWithin, ReadToEnd, WroteAll, WroteUpTo, WroteFront, RunStopped}
use Rattle.hl_script.specs.Interpreter.{is_end, answered, Answered, Answers, Refuses, Stopped, BrokeOff, Judges, Reached, Faces, IsGood, Between, At}
use Rattle.hl_script.specs.Input.{InputView, HasRead, ReadFailed, Passed, Found}
use Rattle.hl_script.proofs.KnownLaws.{Appends-nothing, Appends-more, Appends-kept, front-more, front-longer, at_end_left}
use Rattle.hl_script.proofs.CutLaws.{whole-front, long-front}
use Rattle.hl_script.proofs.LineLaws.{IsBad, faces_bad, faces_good}
use Rattle.hl_script.proofs.ReachLaws.{reached_bytes, reached_end, reached_long, reached_last, reached_line, reached_unfinished, reached_whole, reached_done, reached_last_line, whole-end}
use Rattle.hl_script.proofs.TextLaws.{answers-nil, answers-push, answers-front, accepted-length}

-- the text of bytes with a bad line
text_bad : (has : ℕ → Bool) (bytes : List ℕ) (before : List Line) → IsBad bytes before → text has bytes ≡ answers has before ++ bad_text (Some (length before + 1))
unfolding text
text_bad has bytes before b = ap (λ z. answers has z ++ bad_text (bad_line bytes)) b.lines ∙ ap (λ z. answers has before ++ bad_text z) b.number

-- the text of bytes with none
text_good : (has : ℕ → Bool) (bytes : List ℕ) (lines : List Line) → IsGood bytes lines → text has bytes ≡ answers has lines
unfolding text
text_good has bytes lines g = ap (λ z. answers has z ++ bad_text (bad_line bytes)) g.lines ∙ ap (λ z. answers has lines ++ bad_text z) g.number ∙ append-nil (answers has lines)

-- the text begins with the answers to the first good lines
text_front : (has : ℕ → Bool) (bytes : List ℕ) (lines others : List Line) → script bytes ≡ lines ++ others → (rest : List ℕ) × (text has bytes ≡ answers has lines ++ rest)
unfolding text
text_front has bytes lines others e =
    let front = answers-front has lines others in
    (front.0 ++ bad_text (bad_line bytes), ap (λ z. answers has z ++ bad_text (bad_line bytes)) e ∙ ap (λ z. z ++ bad_text (bad_line bytes)) front.1 ∙ append_assoc (answers has lines) front.0 (bad_text (bad_line bytes)))

-- a line that was allowed may stand there
allowed_stands : (before : List Line) (found : Option Line) (line : Line) → allowed before found ≡ Some line → may_stand before line ≡ true
allowed_stands before None line h = cc
allowed_stands before (Some other) line h = by_test (may_stand before other) refl h
  where
    by_test : (b : Bool) → may_stand before other ≡ b → cond b (Some other) None ≡ Some line → may_stand before line ≡ true
    by_test true is h = let same : other ≡ line = cc in ap (may_stand before) (sym same) ∙ is
    by_test false is h = cc

-- a bad line was told
refused : (has : ℕ → Bool) (lacks : Line → Bool) (from mid to : Option (List ℕ)) (before : List Line) (bytes : List ℕ) (n : ℕ) (stop : Fault) → Appends from mid (answers has before) → Refuses mid to n stop → n ≡ length before + 1 → IsBad bytes before → Stopped has lacks from to stop bytes
refused has lacks from mid to before bytes n (BadLine m) a r e b = record {
  wrote = subst (Appends from to) (sym (text_bad has bytes before b))
      (Appends-more from mid to (answers has before) (bad_text (Some (length before + 1))) a (subst (λ k. Appends mid to (bad_text (Some k))) e r.1));
  bad = b.number ∙ ap (λ k. Some k) (sym e ∙ sym r.0);
}
refused has lacks from mid to before bytes n Stream a r e b =
    subst (BreaksOff from to) (sym (text_bad has bytes before b))
    (front-more from mid to (answers has before) (bad_text (Some (length before + 1))) a (subst (λ k. BreaksOff mid to (bad_text (Some k))) e r))
refused has lacks from mid to before bytes n stop a r e b = absurd r

-- memory was refused at a line
lacked : (has : ℕ → Bool) (lacks : Line → Bool) (from mid to : Option (List ℕ)) (before : List Line) (bytes raw : List ℕ) (line : Line) → Appends from mid (answers has before) → Appends mid to [] → lacks line ≡ true → Faces bytes before raw → allowed before (line_of raw) ≡ Some line → WroteUpTo has lacks from to bytes
lacked has lacks from mid to before bytes raw line a b l f h = record {
  lines = before;
  line = line;
  others = (faces_good bytes before raw line f h).0;
  good = (faces_good bytes before raw line f h).1;
  stands = allowed_stands before (line_of raw) line h;
  lacking = l;
  wrote = subst (Appends from to) (append-nil (answers has before)) (Appends-more from mid to (answers has before) [] a b);
}

-- a write failed in an answer
broken : (has : ℕ → Bool) (from mid to : Option (List ℕ)) (before : List Line) (bytes raw : List ℕ) (line : Line) → Appends from mid (answers has before) → BreaksOff mid to (answered has before line) → Faces bytes before raw → allowed before (line_of raw) ≡ Some line → BreaksOff from to (text has bytes)
broken has from mid to before bytes raw line a b f h =
    let good = faces_good bytes before raw line f h in
    let front = text_front has bytes (before ++ line ∷ []) good.0 (good.1 ∙ sym (append_assoc before (line ∷ []) good.0)) in
    front-longer from to (answers has before ++ answered has before line) front.0 (text has bytes)
    (front-more from mid to (answers has before) (answered has before line) a b)
    (front.1 ∙ ap (λ z. z ++ front.0) (answers-push has before line))

-- a line was not answered
unanswered : (stands : (ℕ → Bool) → List Line → Type 0) (has : ℕ → Bool) (lacks : Line → Bool)
    (from mid to : Option (List ℕ)) (before : List Line) (bytes raw : List ℕ) (line : Line) (stop : Fault)
    → Appends from mid (answers has before) → Answers stands lacks has before line mid to (Err stop)
    → Faces bytes before raw → allowed before (line_of raw) ≡ Some line → Stopped has lacks from to stop bytes
unanswered stands has lacks from mid to before bytes raw line OutOfMemory a r f h =
    lacked has lacks from mid to before bytes raw line a r.0 r.1 f h
unanswered stands has lacks from mid to before bytes raw line Stream a r f h =
    broken has from mid to before bytes raw line a r f h
unanswered stands has lacks from mid to before bytes raw line stop a r f h = absurd r

-- the bytes in which a line was found bad, or its answer broke off
judges : (has : ℕ → Bool) (lacks : Line → Bool) (from to : Option (List ℕ)) (stop : Fault) (bytes : List ℕ) → ((more : List ℕ) → Stopped has lacks from to stop (bytes ++ more)) → (whole_lines bytes ≡ bytes) ⊎ (80 < length (unfinished_line bytes)) → Judges has from to stop bytes
judges has lacks from to (BadLine n) bytes s e = record { front = bytes; rest = []; is_front = append-nil bytes; bad = ap bad_line (sym (append-nil bytes)) ∙ (s []).bad; ended = e }
judges has lacks from to Stream bytes s e = record { front = bytes; rest = []; is_front = append-nil bytes; wrote = s; ended = e }
judges has lacks from to stop bytes s e = tt

-- and more of them
judges_more : (has : ℕ → Bool) (from to : Option (List ℕ)) (stop : Fault) (bytes more : List ℕ) → Judges has from to stop bytes → Judges has from to stop (bytes ++ more)
judges_more has from to (BadLine n) bytes more j = record {
  front = j.front;
  rest = j.rest ++ more;
  is_front = sym (append_assoc j.front j.rest more) ∙ ap (λ z. z ++ more) j.is_front;
  bad = j.bad;
  ended = j.ended;
}
judges_more has from to Stream bytes more j = record {
  front = j.front;
  rest = j.rest ++ more;
  is_front = sym (append_assoc j.front j.rest more) ∙ ap (λ z. z ++ more) j.is_front;
  wrote = j.wrote;
  ended = j.ended;
}
judges_more has from to stop bytes more j = tt

-- a stop is one whatever follows
stop_more : (has : ℕ → Bool) (lacks : Line → Bool) (from to : Option (List ℕ)) (stop : Fault) (done all rest : List ℕ) → all ≡ done ++ rest → ((more : List ℕ) → Stopped has lacks from to stop (done ++ more)) × Judges has from to stop done → ((more : List ℕ) → Stopped has lacks from to stop (all ++ more)) × Judges has from to stop all
stop_more has lacks from to stop done all rest e h = (
  λ more. subst (Stopped has lacks from to stop) (sym (append_assoc done rest more) ∙ ap (λ z. z ++ more) (sym e)) (h.0 (rest ++ more)),
  subst (Judges has from to stop) (sym e) (judges_more has from to stop done rest h.1),
)

-- a write failed: what is missing is of the text of the whole lines, or of a line that is too long
broke_place : (has : ℕ → Bool) (from to : Option (List ℕ)) (bytes : List ℕ) → BrokeOff has from to bytes → WroteFront has from to (whole_lines bytes) ⊎ (80 < length (unfinished_line bytes))
broke_place has from to bytes b = subst (λ z. WroteFront has from to (whole_lines z) ⊎ (80 < length (unfinished_line z))) b.is_front (by_end b.ended)
  where
    in_lines : (more : List ℕ) × (whole_lines (b.front ++ b.rest) ≡ b.front ++ more) → WroteFront has from to (whole_lines (b.front ++ b.rest)) ⊎ (80 < length (unfinished_line (b.front ++ b.rest)))
    in_lines found = inl (subst (WroteFront has from to) (sym found.1) (b.wrote found.0))

    by_long : ((more : List ℕ) × (whole_lines (b.front ++ b.rest) ≡ b.front ++ more)) ⊎ (80 < length (unfinished_line (b.front ++ b.rest))) → WroteFront has from to (whole_lines (b.front ++ b.rest)) ⊎ (80 < length (unfinished_line (b.front ++ b.rest)))
    by_long (inl found) = in_lines found
    by_long (inr long) = inr long

    by_end : (whole_lines b.front ≡ b.front) ⊎ (80 < length (unfinished_line b.front)) → WroteFront has from to (whole_lines (b.front ++ b.rest)) ⊎ (80 < length (unfinished_line (b.front ++ b.rest)))
    by_end (inl whole) = in_lines (whole-front b.front b.rest whole)
    by_end (inr long) = by_long (long-front b.front b.rest long)

-- or the input has ended
failed_place : (has : ℕ → Bool) (reads : ℕ) (given left from to : Option (List ℕ)) (bytes : List ℕ) → BrokeOff has from to bytes ⊎ ReadToEnd reads given left bytes → WroteFront has from to (whole_lines bytes) ⊎ (80 < length (unfinished_line bytes)) ⊎ ReadToEnd reads given left bytes
failed_place has reads given left from to bytes (inr end) = inr (inr end)
failed_place has reads given left from to bytes (inl broke) = by_place (broke_place has from to bytes broke)
  where
    by_place : WroteFront has from to (whole_lines bytes) ⊎ (80 < length (unfinished_line bytes)) → WroteFront has from to (whole_lines bytes) ⊎ (80 < length (unfinished_line bytes)) ⊎ ReadToEnd reads given left bytes
    by_place (inl missing) = inl missing
    by_place (inr long) = inr (inl long)

-- a run stopped at a line, an error that is no failed read
ran_stopped : (lacks : Line → Bool) (has : ℕ → Bool) (reads : ℕ) (given left from to : Option (List ℕ)) (stop : Fault)
    (input : List ℕ) → ReadWithin reads given left input → Stopped has lacks from to stop input
    → ((more : List ℕ) → left ≡ Some more → Stopped has lacks from to stop (input ++ more))
    → Judges has from to stop input ⊎ ReadToEnd reads given left input → RunStopped has reads given left from to (WroteUpTo has lacks from to) stop
ran_stopped lacks has reads given left from to (BadLine n) input c s m j = (input, c, record { given = s; with_left = m }, j)
ran_stopped lacks has reads given left from to OutOfMemory input c s m j = (input, c, record { given = s; with_left = m })
ran_stopped lacks has reads given left from to Stream input c s m j =
    (input, c, inr (record { front = record { given = s; with_left = m }; place = failed_place has reads given left from to input j }))
ran_stopped lacks has reads given left from to stop input c s m j = absurd s

-- a run stopped in the middle of its input
ran_within : (lacks : Line → Bool) (has : ℕ → Bool) (reads : ℕ) (given left from to : Option (List ℕ)) (stop : Fault)
    (input : List ℕ) → ReadWithin reads given left input
    → ((more : List ℕ) → Stopped has lacks from to stop (input ++ more)) × Judges has from to stop input
    → RunStopped has reads given left from to (WroteUpTo has lacks from to) stop
ran_within lacks has reads given left from to stop input c s =
    ran_stopped lacks has reads given left from to stop input c (subst (Stopped has lacks from to stop) (append-nil input) (s.0 [])) (λ more is. s.0 more) (inl s.1)

-- before the first line no step was accepted
pub none_accepted : (has : ℕ → Bool) → 0 ≡ length (accepted has [])
unfolding accepted accepted_after
none_accepted has = refl

-- nor anything written, but what went out
pub nothing_written : (has : ℕ → Bool) (old new : Option (List ℕ)) → Keeps old new → Appends old new (answers has [])
nothing_written has old new kept = subst (Appends old new) (sym (answers-nil has)) (Appends-kept old old new [] (Appends-nothing old) kept)

-- the input goes on behind whole lines
pub goes_on : {ended : Bool} {done : List ℕ} {before : List Line} → Between ended done before → ended ≡ false → Reached done before []
goes_on {ended} {done} {before} (inl reached) is = reached
goes_on {ended} {done} {before} (inr over) is = absurd (false≢true (sym is ∙ over.0))

-- the lines are good, whether or not the last of them has an LF
pub are_good : {ended : Bool} {done : List ℕ} {before : List Line} → Between ended done before → IsGood done before
are_good {ended} {done} {before} (inl reached) = reached_done done before reached
are_good {ended} {done} {before} (inr over) = over.1

-- the input has ended behind good lines
pub ran_to_end : (has : ℕ → Bool) (reads : ℕ) (given left from to : Option (List ℕ)) (input : InputView) (done : List ℕ) (before : List Line)
    → HasRead reads given left input done → input.has_ended ≡ true → IsGood done before → Appends from to (answers has before)
    → ReadToEnd reads given left done × WroteAll has from to done
ran_to_end has reads given left from to input done before read ended good wrote =
    let over = read.over ended in (
      record {
        consumed = subst (Consumes given left) (ap (λ z. done ++ z) over.0 ∙ append-nil done) read.consumed;
        at_end = over.1;
        few = omega (arith, over.2, read.made);
      },
      record { wrote = subst (Appends from to) (sym (text_good has done before good)) wrote; good = good.number },
    )

-- a read failed, or no more are made, in a line of which these bytes were read
pub ran_out : (lacks : Line → Bool) (has : ℕ → Bool) (reads : ℕ) (given left from to : Option (List ℕ)) (stop : Fault) (done : List ℕ) (before : List Line) (line : List ℕ)
    → stop ≡ Stream → Reached done before [] → ReadFailed reads given left done line → Appends from to (answers has before) → RunStopped has reads given left from to (WroteUpTo has lacks from to) stop
ran_out lacks has reads given left from to stop done before line is at failed wrote =
    let reached = reached_bytes done before [] line at refl failed.no_end in
    let good : IsGood (whole_lines (done ++ line)) before = reached_whole (done ++ line) before line reached in
    subst (RunStopped has reads given left from to (WroteUpTo has lacks from to)) (sym is) (
      done ++ line,
      failed.within,
      inl (record {
        whole = record { wrote = subst (Appends from to) (sym (text_good has (whole_lines (done ++ line)) before good)) wrote; good = good.number };
        unfinished = subst (λ (l : List ℕ). length l ≤ 80) (sym (reached_unfinished (done ++ line) before line reached)) failed.short;
      }),
    )

-- a fact of the bytes that have a line was known behind its last byte, so it is one of all that was read
ran_in : (lacks : Line → Bool) (has : ℕ → Bool) (reads : ℕ) (given left from to : Option (List ℕ)) (stop : Fault) (input : InputView) (front : List ℕ)
    → HasRead reads given left input front → ((more : List ℕ) → Stopped has lacks from to stop (front ++ more)) → (whole_lines front ≡ front) ⊎ (80 < length (unfinished_line front))
    → RunStopped has reads given left from to (WroteUpTo has lacks from to) stop
ran_in lacks has reads given left from to stop input front read stopped ended =
    ran_within lacks has reads given left from to stop (front ++ input.shown)
    (record { consumed = read.consumed; few = omega (arith, read.few, read.made, length-append front input.shown) })
    (stop_more has lacks from to stop front (front ++ input.shown) input.shown refl (stopped, judges has lacks from to stop front stopped ended))

-- a run stopped at a line
ran_at : (lacks : Line → Bool) (has : ℕ → Bool) (reads : ℕ) (given left from to : Option (List ℕ)) (stop : Fault) (input : InputView) (done : List ℕ) (before : List Line) (raw : List ℕ)
    → Reached done before [] → list_any is_end raw ≡ false → Passed reads given left input done raw
    → ((next bytes : List ℕ) → line_of next ≡ line_of raw → Faces bytes before next → Stopped has lacks from to stop bytes)
    → RunStopped has reads given left from to (WroteUpTo has lacks from to) stop
ran_at lacks has reads given left from to stop input done before raw at no_end passed stops = by_end passed
  where
    reached : Reached (done ++ raw) before raw
    reached = reached_bytes done before [] raw at refl no_end

    line : done ++ (raw ++ 10 ∷ []) ≡ (done ++ raw) ++ 10 ∷ []
    line = sym (append_assoc done raw (10 ∷ []))

    at_line : (more : List ℕ) → Stopped has lacks from to stop ((done ++ (raw ++ 10 ∷ [])) ++ more)
    at_line more = subst (Stopped has lacks from to stop) (sym (ap (λ z. z ++ more) line ∙ append_assoc (done ++ raw) (10 ∷ []) more))
        (stops raw ((done ++ raw) ++ 10 ∷ more) refl (reached_end (done ++ raw) before raw more reached))

    by_long : 80 < length raw → (more : List ℕ) → Stopped has lacks from to stop ((done ++ raw) ++ more)
    by_long long more =
        let far = reached_long (done ++ raw) before raw more reached long in
        stops far.0 ((done ++ raw) ++ more) (far.2 ∙ sym (line_of-long raw long)) far.1

    by_end : Passed reads given left input done raw → RunStopped has reads given left from to (WroteUpTo has lacks from to) stop
    by_end (inl read) =
        ran_in lacks has reads given left from to stop input (done ++ (raw ++ 10 ∷ [])) read at_line (inl (ap whole_lines line ∙ whole-end (done ++ raw) ∙ sym line))
    by_end (inr (read, inr long)) =
        let many : 80 < length raw = omega (arith, long) in
        ran_in lacks has reads given left from to stop input (done ++ raw) read (by_long many)
        (inr (omega (arith, many, ap length (reached_unfinished (done ++ raw) before raw reached))))
    by_end (inr (read, inl over)) =
        let end = read.over over.0 in
        let whole = ap (λ z. (done ++ raw) ++ z) end.0 ∙ append-nil (done ++ raw) in
        let consumed = subst (Consumes given left) whole read.consumed in
        let stopped = stops raw (done ++ raw) refl (reached_last (done ++ raw) before raw reached (λ none. absurd (omega (arith, over.1, ap length none)))) in
        ran_stopped lacks has reads given left from to stop (done ++ raw) (record { consumed = consumed; few = omega (arith, end.2, read.made) }) stopped
        (λ more is. subst (λ z. Stopped has lacks from to stop ((done ++ raw) ++ z)) (sym (at_end_left left more end.1 is)) (subst (Stopped has lacks from to stop) (sym (append-nil (done ++ raw))) stopped))
        (inr (record { consumed = consumed; at_end = end.1; few = omega (arith, end.2, read.made) }))

-- a run stopped at bytes that are no line, or at one that may not stand there
pub ran_bad : (lacks : Line → Bool) (has : ℕ → Bool) (reads : ℕ) (given left from mid to : Option (List ℕ)) (stop : Fault) (n : ℕ) (input : InputView) (done : List ℕ) (before : List Line) (found : Option Line)
    → Reached done before [] → Found reads given left input done found → allowed before found ≡ None → Appends from mid (answers has before)
    → Refuses mid to n stop → n ≡ length before + 1 → RunStopped has reads given left from to (WroteUpTo has lacks from to) stop
ran_bad lacks has reads given left from mid to stop n input done before found at line none wrote refuses is =
    ran_at lacks has reads given left from to stop input done before line.raw at line.no_end line.passed
    (λ next bytes same faces. refused has lacks from mid to before bytes n stop wrote refuses is
    (faces_bad bytes before next faces (ap (allowed before) (same ∙ line.spells) ∙ none)))

-- a run stopped at a line that was not answered
pub ran_unanswered : (stands : (ℕ → Bool) → List Line → Type 0) (lacks : Line → Bool) (has : ℕ → Bool) (reads : ℕ) (given left from mid to : Option (List ℕ)) (stop : Fault) (input : InputView) (done : List ℕ) (before : List Line) (line : Line)
    → Reached done before [] → Found reads given left input done (Some line) → may_stand before line ≡ true → Appends from mid (answers has before)
    → Answers stands lacks has before line mid to (Err stop) → RunStopped has reads given left from to (WroteUpTo has lacks from to) stop
ran_unanswered stands lacks has reads given left from mid to stop input done before line at found may wrote answer =
    ran_at lacks has reads given left from to stop input done before found.raw at found.no_end found.passed
    (λ next bytes same faces. unanswered stands has lacks from mid to before bytes next line stop wrote answer faces
    (ap (allowed before) (same ∙ found.spells) ∙ ap (λ b. cond b (Some line) None) may))

-- a line was answered
pub at_next : (stands : (ℕ → Bool) → List Line → Type 0) (has : ℕ → Bool) (reads : ℕ) (given left from mid to : Option (List ℕ)) (input : InputView) (done : List ℕ) (before : List Line) (lines steps : ℕ) (line : Line) (counted : Bool)
    → lines ≡ length before → steps ≡ length (accepted has before) → Appends from mid (answers has before) → Reached done before [] → Found reads given left input done (Some line) → may_stand before line ≡ true
    → Answered stands has before line mid to counted
    → (next : List ℕ) × HasRead reads given left input next × At stands has next (before ++ line ∷ []) from to input.has_ended (lines + 1) (steps + cond counted 1 0)
at_next stands has reads given left from mid to input done before lines steps line counted all taken wrote at found may answer = by_end found.passed
  where
    allows : allowed before (line_of found.raw) ≡ Some line
    allows = ap (allowed before) found.spells ∙ ap (λ b. cond b (Some line) None) may

    reached : Reached (done ++ found.raw) before found.raw
    reached = reached_bytes done before [] found.raw at refl found.no_end

    next_at : (next : List ℕ) → Between input.has_ended next (before ++ line ∷ []) → At stands has next (before ++ line ∷ []) from to input.has_ended (lines + 1) (steps + cond counted 1 0)
    next_at next place = record {
      standing = answer.standing;
      place = place;
      lines = omega (arith, all, length_push before line);
      steps = ap (λ n. n + cond counted 1 0) taken ∙ ap (λ b. length (accepted has before) + cond b 1 0) answer.counts ∙ sym (accepted-length has before line);
      wrote = subst (Appends from to) (sym (answers-push has before line)) (Appends-more from mid to (answers has before) (answered has before line) wrote answer.wrote);
    }

    by_end : Passed reads given left input done found.raw → (next : List ℕ) × HasRead reads given left input next × At stands has next (before ++ line ∷ []) from to input.has_ended (lines + 1) (steps + cond counted 1 0)
    by_end (inl read) =
        let next = done ++ (found.raw ++ 10 ∷ []) in
        (next, read, next_at next (inl (subst (λ z. Reached z (before ++ line ∷ []) []) (append_assoc done found.raw (10 ∷ [])) (reached_line (done ++ found.raw) before found.raw line reached allows))))
    by_end (inr (read, inl over)) =
        let some : found.raw ≢ [] = λ none. absurd (omega (arith, over.1, ap length none)) in
        (done ++ found.raw, read, next_at (done ++ found.raw) (inr (over.0, reached_last_line (done ++ found.raw) before found.raw line reached some allows)))
    by_end (inr (read, inr long)) =
        let none : line_of found.raw ≡ None = line_of-long found.raw (omega (arith, long)) in
        let is = found.spells in
        cc
