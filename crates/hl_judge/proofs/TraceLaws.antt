-- What is found in a trace, line after line.
use Rattle.std.proofs.Common.{◌≡◌, ◌<◌, ℕ, ◌+◌, ◌-◌, take, Bool, true, false, cond, List, [], ◌∷◌, ◌++◌, length, refl, sym, ap, ◌∙◌, subst, append_assoc, append-nil, arith, length-append}
use Rattle.std.specs.Prelude.{Option, Some, None, IfSome, OnSome, Ok, Err, bytes_eq, codes}
use Rattle.std.specs.Option.{option_map_or}
use Rattle.std.specs.List.{list_any}
use Rattle.std.specs.Io.KnownBytes.{Consumes, IsAtEnd}
use Rattle.std.proofs.lemmas.List.{length_push}
use Rattle.std.proofs.Math.Seq.{take-append_seam}
use Rattle.hl_model.specs.declared.fault.Fault.{Fault}
use Rattle.hl_model.specs.declared.fault.Fault.TheVariants.{OutOfMemory, Stream}
use Rattle.hl_line.specs.declared.line.Line.{Line}
use Rattle.hl_model.specs.Lists.{until_last}
use Rattle.hl_script.specs.Cut.{cut, whole_lines}
use Rattle.hl_script.specs.Interpreter.{is_end, Answered, Answers}
use Rattle.hl_line.specs.declared.line.Line.TheVariants.{Config, Step as Makes, Status, Pending, Frames}
use Rattle.std.proofs.lemmas.Bool.{false≢true}
use Rattle.hl_script.specs.Lines.{is_config, may_stand}
use Rattle.hl_script.specs.Answers.{reply_line}
use Rattle.hl_script.proofs.CutLaws.{cut-nil, cut-line, cut-begun, cut-last}
use Rattle.hl_script.proofs.ReachLaws.{whole-end}
use Rattle.hl_script.proofs.KnownLaws.{Consumes-nothing, Consumes-more}
use Rattle.hl_judge.specs.Traces.{Entry, entry_of, longest, Finding, AllAgree, Deviation, NoEntry, judged, judged_after}
use Rattle.hl_judge.specs.declared.reading.Ending.{Ending}
use Rattle.hl_judge.specs.declared.reading.Ending.TheVariants.{Line as AtLine, Input as AtInput, Cut as AtCut}
use Rattle.hl_judge.proofs.PartLaws.{entry_long}
use Rattle.hl_judge.proofs.ReadLaws.{end_later}
use Rattle.hl_judge.specs.Judging.{ReadInLine, LineRead, IsReadFault, EntryAgrees, EntryDeviates, Come, Tells, StoppedBehind, Judges}

-- at the end of the lines
pub after_none : (has : ℕ → Bool) (before : List Line) → judged_after has before [] ≡ AllAgree (length before)
unfolding judged_after
after_none has before = refl

-- a line whose reply is the one that the definitions give
pub after_agrees : (has : ℕ → Bool) (before : List Line) (bytes : List ℕ) (others : List (List ℕ)) (entry : Entry)
    → entry_of before bytes ≡ Some entry → bytes_eq entry.reply (reply_line has before entry.line) ≡ true
    → judged_after has before (bytes ∷ others) ≡ judged_after has (before ++ entry.line ∷ []) others
unfolding judged_after
after_agrees has before bytes others entry is same =
    ap (λ o. option_map_or (λ (e : Entry). cond (bytes_eq e.reply (reply_line has before e.line)) (judged_after has (before ++ e.line ∷ []) others) (Deviation (length before + 1) bytes (reply_line has before e.line))) o (NoEntry (length before + 1))) is
    ∙ ap (λ b. cond b (judged_after has (before ++ entry.line ∷ []) others) (Deviation (length before + 1) bytes (reply_line has before entry.line))) same

-- a line with another
pub after_deviates : (has : ℕ → Bool) (before : List Line) (bytes : List ℕ) (others : List (List ℕ)) (entry : Entry)
    → entry_of before bytes ≡ Some entry → bytes_eq entry.reply (reply_line has before entry.line) ≡ false
    → judged_after has before (bytes ∷ others) ≡ Deviation (length before + 1) bytes (reply_line has before entry.line)
unfolding judged_after
after_deviates has before bytes others entry is other =
    ap (λ o. option_map_or (λ (e : Entry). cond (bytes_eq e.reply (reply_line has before e.line)) (judged_after has (before ++ e.line ∷ []) others) (Deviation (length before + 1) bytes (reply_line has before e.line))) o (NoEntry (length before + 1))) is
    ∙ ap (λ b. cond b (judged_after has (before ++ entry.line ∷ []) others) (Deviation (length before + 1) bytes (reply_line has before entry.line))) other

-- a line that is none of a trace
pub after_no_entry : (has : ℕ → Bool) (before : List Line) (bytes : List ℕ) (others : List (List ℕ))
    → entry_of before bytes ≡ None → judged_after has before (bytes ∷ others) ≡ NoEntry (length before + 1)
unfolding judged_after
after_no_entry has before bytes others is =
    ap (λ o. option_map_or (λ (e : Entry). cond (bytes_eq e.reply (reply_line has before e.line)) (judged_after has (before ++ e.line ∷ []) others) (Deviation (length before + 1) bytes (reply_line has before e.line))) o (NoEntry (length before + 1))) is

-- before the first line
pub come_start : (has : ℕ → Bool) → Come has [] []
unfolding judged whole_lines until_last
come_start has = record { closed = λ more. refl; ended = refl }

-- a line that is too long is none of a trace
pub cut_is_none : (before : List Line) (bytes : List ℕ) (entry : Entry) → longest < length bytes → entry_of before bytes ≡ Some entry → ⊥
cut_is_none before bytes entry long is = let none : None ≡ Some entry = entry_long before bytes long ∙ is in cc

-- the whole lines so far agree
pub come_agree : (has : ℕ → Bool) (done : List ℕ) (before : List Line) → Come has done before → judged has done ≡ AllAgree (length before)
come_agree has done before at =
    ap (judged has) (sym (append-nil done)) ∙ at.closed [] ∙ ap (judged_after has before) cut-nil ∙ after_none has before

-- a line that has ended, with what follows it
at_line : (has : ℕ → Bool) (done : List ℕ) (before : List Line) (bytes more : List ℕ) → Come has done before → list_any is_end bytes ≡ false
    → judged has ((done ++ (bytes ++ 10 ∷ [])) ++ more) ≡ judged_after has before (bytes ∷ cut more)
at_line has done before bytes more at h =
    ap (judged has) (append_assoc done (bytes ++ 10 ∷ []) more ∙ ap (λ z. done ++ z) (append_assoc bytes (10 ∷ []) more))
    ∙ at.closed (bytes ++ 10 ∷ more)
    ∙ ap (judged_after has before) (cut-line bytes more h)

-- an entry that agrees
pub come_more : (stands : (ℕ → Bool) → List Line → Type 0) (has : ℕ → Bool) (done : List ℕ) (before : List Line) (bytes : List ℕ) → Come has done before → list_any is_end bytes ≡ false
    → (e : EntryAgrees stands has before bytes) → Come has (done ++ (bytes ++ 10 ∷ [])) (before ++ e.entry.line ∷ [])
come_more stands has done before bytes at h e = record {
  closed = λ more. at_line has done before bytes more at h ∙ after_agrees has before bytes (cut more) e.entry e.is_entry e.same;
  ended = ap whole_lines assoc ∙ whole-end (done ++ bytes) ∙ sym assoc;
}
  where
    assoc : done ++ (bytes ++ 10 ∷ []) ≡ (done ++ bytes) ++ 10 ∷ []
    assoc = sym (append_assoc done bytes (10 ∷ []))

-- a fact of what was read, whatever follows it
pub tells_whatever : (P : List ℕ → Type 0) (given left : Option (List ℕ)) (input : List ℕ) → Consumes given left input → ((more : List ℕ) → P (input ++ more)) → Tells P given left
tells_whatever P given left input c h = record { input = input; consumed = c; of_input = subst P (append-nil input) (h []); of_all = by_known given left c }
  where
    by_known : (given left : Option (List ℕ)) → Consumes given left input → IfSome given P
    by_known None left c = tt
    by_known (Some xs) None c = absurd c
    by_known (Some xs) (Some ys) c = subst P (sym c) (h ys)

-- a fact of what was read to the end
pub tells_at_end : (P : List ℕ → Type 0) (given left : Option (List ℕ)) (input : List ℕ) → Consumes given left input → OnSome given (IsAtEnd left) → P input → Tells P given left
tells_at_end P given left input c end h = record { input = input; consumed = c; of_input = h; of_all = by_known given left c end }
  where
    by_known : (given left : Option (List ℕ)) → Consumes given left input → OnSome given (IsAtEnd left) → IfSome given P
    by_known None left c end = tt
    by_known (Some xs) None c end = absurd c
    by_known (Some xs) (Some ys) c end = subst P (sym (c ∙ ap (λ z. input ++ z) end ∙ append-nil input)) h

-- so many lines, and one more
pub lines_more : (lines : ℕ) (before : List Line) (line : Line) → lines ≡ length before → lines + 1 ≡ length (before ++ line ∷ [])
lines_more lines before line is = omega (arith, is, length_push before line)

-- what is found at a line whose LF was read
pub found_line : (has : ℕ → Bool) (done : List ℕ) (before : List Line) (bytes : List ℕ) (found : Finding) → Come has done before → list_any is_end bytes ≡ false
    → ((others : List (List ℕ)) → judged_after has before (bytes ∷ others) ≡ found)
    → (more : List ℕ) → judged has ((done ++ (bytes ++ 10 ∷ [])) ++ more) ≡ found
found_line has done before bytes found at h found_is = λ more. at_line has done before bytes more at h ∙ found_is (cut more)

-- the input ends in a line
at_last : (has : ℕ → Bool) (done : List ℕ) (before : List Line) (bytes : List ℕ) → Come has done before → list_any is_end bytes ≡ false → 0 < length bytes
    → judged has (done ++ bytes) ≡ judged_after has before (bytes ∷ [])
at_last has done before [] at h some = absurd (omega (arith, some))
at_last has done before (b ∷ bytes) at h some = at.closed (b ∷ bytes) ∙ ap (judged_after has before) (cut-last b bytes h)

-- what is found at a line that the end of the input ended
pub found_last : (has : ℕ → Bool) (done : List ℕ) (before : List Line) (bytes : List ℕ) (found : Finding) → Come has done before → list_any is_end bytes ≡ false → 0 < length bytes
    → ((others : List (List ℕ)) → judged_after has before (bytes ∷ others) ≡ found)
    → judged has (done ++ bytes) ≡ found
found_last has done before bytes found at h some found_is = at_last has done before bytes at h some ∙ found_is []

-- the last entry agrees
pub last_agrees : (stands : (ℕ → Bool) → List Line → Type 0) (has : ℕ → Bool) (done : List ℕ) (before : List Line) (bytes : List ℕ) → Come has done before → list_any is_end bytes ≡ false → 0 < length bytes
    → EntryAgrees stands has before bytes → judged has (done ++ bytes) ≡ AllAgree (length before + 1)
last_agrees stands has done before bytes at h some e =
    at_last has done before bytes at h some
    ∙ after_agrees has before bytes [] e.entry e.is_entry e.same
    ∙ after_none has (before ++ e.entry.line ∷ [])
    ∙ ap AllAgree (length_push before e.entry.line)

-- what is found at a line of which too much was read
pub found_cut : (has : ℕ → Bool) (done : List ℕ) (before : List Line) (bytes : List ℕ) (line : ℕ) → line ≡ length before + 1 → Come has done before → list_any is_end bytes ≡ false → longest < length bytes
    → (more : List ℕ) → judged has ((done ++ bytes) ++ more) ≡ NoEntry line
found_cut has done before [] line is at h long = absurd (omega (arith, long))
found_cut has done before (b ∷ bytes) line is at h long = λ more.
    let begun = cut-begun b bytes more h in
    let long_too : longest < length ((b ∷ bytes) ++ begun.0) = omega (arith, long, length-append (b ∷ bytes) begun.0) in
    ap (judged has) (append_assoc done (b ∷ bytes) more)
    ∙ at.closed ((b ∷ bytes) ++ more)
    ∙ ap (judged_after has before) begun.2
    ∙ after_no_entry has before ((b ∷ bytes) ++ begun.0) begun.1 (sym (entry_long before ((b ∷ bytes) ++ begun.0) long_too))
    ∙ ap NoEntry (sym is)

-- what a line that deviates shows
pub deviates : (has : ℕ → Bool) (before : List Line) (bytes answer : List ℕ) (line : ℕ) → line ≡ length before + 1 → EntryDeviates has before bytes answer
    → (others : List (List ℕ)) → judged_after has before (bytes ∷ others) ≡ Deviation line bytes answer
deviates has before bytes answer line is e = λ others.
    after_deviates has before bytes others e.entry e.is_entry e.other
    ∙ ap (λ z. Deviation (length before + 1) bytes z) (sym e.is_answer)
    ∙ ap (λ n. Deviation n bytes answer) (sym is)

-- what a line that is none of a trace shows
pub no_entry : (has : ℕ → Bool) (before : List Line) (bytes : List ℕ) (line : ℕ) → line ≡ length before + 1 → entry_of before bytes ≡ None
    → (others : List (List ℕ)) → judged_after has before (bytes ∷ others) ≡ NoEntry line
no_entry has before bytes line is none = λ others. after_no_entry has before bytes others none ∙ ap NoEntry (sym is)

-- an entry of which both parts are there, at a line that may stand where it does
pub is_entry : (before : List Line) (bytes reply : List ℕ) (line : Line) → entry_of before bytes ≡ cond (may_stand before line) (Some (record { line = line; reply = reply })) None → may_stand before line ≡ true → entry_of before bytes ≡ Some (record { line = line; reply = reply })
is_entry before bytes reply line exact may = exact ∙ ap (λ b. cond b (Some (record { line = line; reply = reply })) None) may

pub entry_agrees : (stands : (ℕ → Bool) → List Line → Type 0) (has : ℕ → Bool) (before : List Line) (bytes reply answer : List ℕ) (line : Line) → entry_of before bytes ≡ cond (may_stand before line) (Some (record { line = line; reply = reply })) None → may_stand before line ≡ true
    → answer ≡ reply_line has before line → bytes_eq reply answer ≡ true → stands has (before ++ line ∷ []) → EntryAgrees stands has before bytes
entry_agrees stands has before bytes reply answer line exact may is same standing = record {
  entry = record { line = line; reply = reply };
  is_entry = is_entry before bytes reply line exact may;
  same = ap (bytes_eq reply) (sym is) ∙ same;
  standing = standing;
}

pub entry_deviates : (has : ℕ → Bool) (before : List Line) (bytes reply answer : List ℕ) (line : Line) → entry_of before bytes ≡ cond (may_stand before line) (Some (record { line = line; reply = reply })) None → may_stand before line ≡ true
    → answer ≡ reply_line has before line → bytes_eq reply answer ≡ false → EntryDeviates has before bytes answer
entry_deviates has before bytes reply answer line exact may is other = record {
  entry = record { line = line; reply = reply };
  is_entry = is_entry before bytes reply line exact may;
  other = ap (bytes_eq reply) (sym is) ∙ other;
  is_answer = is;
}

-- a line was answered, or it is a config
pub answered_none : (stands : (ℕ → Bool) → List Line → Type 0) (lacks : Line → Bool) (has : ℕ → Bool) (before : List Line) (line : Line) (old new : Option (List ℕ)) (r : Option Bool) → r ≡ None → Answers stands lacks has before line old new (Ok r) → is_config line ≡ true
answered_none stands lacks has before line old new r is a = (subst (λ r. Answers stands lacks has before line old new (Ok r)) is a).0

pub answered_some : (stands : (ℕ → Bool) → List Line → Type 0) (lacks : Line → Bool) (has : ℕ → Bool) (before : List Line) (line : Line) (old new : Option (List ℕ)) (r : Option Bool) (counted : Bool) → r ≡ Some counted → Answers stands lacks has before line old new (Ok r) → Answered stands has before line old new counted
answered_some stands lacks has before line old new r counted is a = subst (λ r. Answers stands lacks has before line old new (Ok r)) is a

-- an answer without its LF
pub popped : (text old new : List ℕ) (n : ℕ) → old ≡ text ++ 10 ∷ [] → new ≡ take (n - 1) old → n ≡ length old → new ≡ text
popped text old new n is rest all =
    let whole : n - 1 ≡ length text = omega (arith, all, ap length is, length-append text (10 ∷ [])) in
    rest ∙ ap (take (n - 1)) is ∙ ap (λ k. take k (text ++ 10 ∷ [])) whole ∙ take-append_seam text (10 ∷ [])

-- what a config is answered
pub opened_text : (has : ℕ → Bool) (line : Line) → is_config line ≡ true → codes "opened" ≡ reply_line has [] line
opened_text has (Config sizes) is = refl
opened_text has (Makes step) is = absurd (false≢true is)
opened_text has Status is = absurd (false≢true is)
opened_text has Pending is = absurd (false≢true is)
opened_text has Frames is = absurd (false≢true is)

-- the config agrees
pub come_first : (stands : (ℕ → Bool) → List Line → Type 0) (has : ℕ → Bool) (bytes reply : List ℕ) (line : Line) → entry_of [] bytes ≡ cond (may_stand [] line) (Some (record { line = line; reply = reply })) None → is_config line ≡ true → bytes_eq reply (codes "opened") ≡ true
    → stands has (line ∷ []) → list_any is_end bytes ≡ false → Come has (bytes ++ 10 ∷ []) (line ∷ [])
unfolding entry_agrees
come_first stands has bytes reply line exact is same standing h =
    come_more stands has [] [] bytes (come_start has) h (entry_agrees stands has [] bytes reply (codes "opened") line exact is (opened_text has line is) same standing)

-- a judge stopped behind these lines
pub stopped : (has : ℕ → Bool) (given mid left : Option (List ℕ)) (done : List ℕ) (before : List Line) (rest : List ℕ) → Consumes given mid done → Come has done before → Consumes mid left rest → StoppedBehind has given left done rest
stopped has given mid left done before rest c at r = record {
  consumed = Consumes-more given mid left done rest c r;
  lines = length before;
  agree = come_agree has done before at;
  ended = at.ended;
}

-- no memory before the first line
pub lacked_at_start : (has : ℕ → Bool) (given : Option (List ℕ)) (fault : Fault) → fault ≡ OutOfMemory → Judges has given given (Err fault)
lacked_at_start has given fault is =
    subst (λ f. Judges has given given (Err f)) (sym is) ([], [], stopped has given given given [] [] [] (Consumes-nothing given) (come_start has) (Consumes-nothing given))

-- a fault in the read of a line
pub broken_read : (has : ℕ → Bool) (given mid left : Option (List ℕ)) (done : List ℕ) (before : List Line) (rest : List ℕ) (fault : Fault) → IsReadFault fault → Consumes given mid done → Come has done before → ReadInLine mid left rest → Judges has given left (Err fault)
broken_read has given mid left done before rest OutOfMemory is c at r = (done, rest, stopped has given mid left done before rest c at r.consumed)
broken_read has given mid left done before rest Stream is c at r = (done, rest, stopped has given mid left done before rest c at r.consumed, r.no_end)
broken_read has given mid left done before rest fault is c at r = absurd is

-- what was taken for a line
taken : (mid left : Option (List ℕ)) (bytes : List ℕ) (ending : Ending) → LineRead mid left bytes (Some ending) → (rest : List ℕ) × Consumes mid left rest
taken mid left bytes AtLine r = (bytes ++ 10 ∷ [], r.consumed)
taken mid left bytes AtInput r = (bytes, r.0.consumed)
taken mid left bytes AtCut r = (bytes, r.0.consumed)

-- no memory at a line
pub lacked_at_line : (has : ℕ → Bool) (given mid left : Option (List ℕ)) (done : List ℕ) (before : List Line) (bytes : List ℕ) (ending : Ending) (fault : Fault) → fault ≡ OutOfMemory → Consumes given mid done → Come has done before → LineRead mid left bytes (Some ending) → Judges has given left (Err fault)
lacked_at_line has given mid left done before bytes ending fault is c at r =
    let rest = taken mid left bytes ending r in
    subst (λ f. Judges has given left (Err f)) (sym is) (done, rest.0, stopped has given mid left done before rest.0 c at rest.1)

-- no line is left
pub judged_end : (has : ℕ → Bool) (given mid left : Option (List ℕ)) (done : List ℕ) (before : List Line) (bytes : List ℕ) (lines : ℕ) → lines ≡ length before → Consumes given mid done → Come has done before → LineRead mid left bytes None
    → Tells (λ z. judged has z ≡ AllAgree lines) given left × OnSome given (IsAtEnd left)
judged_end has given mid left done before bytes lines is c at r =
    let end = end_later given mid left done c r.1 in
    let all : judged has (done ++ bytes) ≡ AllAgree lines = ap (λ z. judged has (done ++ z)) r.2 ∙ ap (judged has) (append-nil done) ∙ come_agree has done before at ∙ ap AllAgree (sym is) in
    (tells_at_end (λ z. judged has z ≡ AllAgree lines) given left (done ++ bytes) (Consumes-more given mid left done bytes c r.0.consumed) end all, end)

-- the last line agrees
pub judged_last : (stands : (ℕ → Bool) → List Line → Type 0) (has : ℕ → Bool) (given mid left : Option (List ℕ)) (done : List ℕ) (before : List Line) (bytes : List ℕ) (lines : ℕ) → lines ≡ length before → Consumes given mid done → Come has done before → LineRead mid left bytes (Some AtInput)
    → EntryAgrees stands has before bytes → Tells (λ z. judged has z ≡ AllAgree (lines + 1)) given left × OnSome given (IsAtEnd left)
judged_last stands has given mid left done before bytes lines is c at r e =
    let end = end_later given mid left done c r.1 in
    let all : judged has (done ++ bytes) ≡ AllAgree (lines + 1) = last_agrees stands has done before bytes at r.0.no_end r.2 e ∙ ap (λ n. AllAgree (n + 1)) (sym is) in
    (tells_at_end (λ z. judged has z ≡ AllAgree (lines + 1)) given left (done ++ bytes) (Consumes-more given mid left done bytes c r.0.consumed) end all, end)

-- a line that deviates
pub judged_deviates : (has : ℕ → Bool) (given mid left : Option (List ℕ)) (done : List ℕ) (before : List Line) (bytes answer : List ℕ) (ending : Ending) (lines : ℕ) → lines ≡ length before → Consumes given mid done → Come has done before → LineRead mid left bytes (Some ending)
    → EntryDeviates has before bytes answer → Tells (λ z. judged has z ≡ Deviation (lines + 1) bytes answer) given left
judged_deviates has given mid left done before bytes answer AtLine lines is c at r e =
    tells_whatever (λ z. judged has z ≡ Deviation (lines + 1) bytes answer) given left (done ++ (bytes ++ 10 ∷ [])) (Consumes-more given mid left done (bytes ++ 10 ∷ []) c r.consumed)
    (found_line has done before bytes (Deviation (lines + 1) bytes answer) at r.no_end (deviates has before bytes answer (lines + 1) (ap (λ n. n + 1) is) e))
judged_deviates has given mid left done before bytes answer AtInput lines is c at r e =
    tells_at_end (λ z. judged has z ≡ Deviation (lines + 1) bytes answer) given left (done ++ bytes) (Consumes-more given mid left done bytes c r.0.consumed) (end_later given mid left done c r.1)
    (found_last has done before bytes (Deviation (lines + 1) bytes answer) at r.0.no_end r.2 (deviates has before bytes answer (lines + 1) (ap (λ n. n + 1) is) e))
judged_deviates has given mid left done before bytes answer AtCut lines is c at r e = absurd (cut_is_none before bytes e.entry r.1 e.is_entry)

-- a line that is none of a trace
pub judged_no_entry : (has : ℕ → Bool) (given mid left : Option (List ℕ)) (done : List ℕ) (before : List Line) (bytes : List ℕ) (ending : Ending) (lines : ℕ) → lines ≡ length before → Consumes given mid done → Come has done before → LineRead mid left bytes (Some ending)
    → entry_of before bytes ≡ None → Tells (λ z. judged has z ≡ NoEntry (lines + 1)) given left
judged_no_entry has given mid left done before bytes AtLine lines is c at r none =
    tells_whatever (λ z. judged has z ≡ NoEntry (lines + 1)) given left (done ++ (bytes ++ 10 ∷ [])) (Consumes-more given mid left done (bytes ++ 10 ∷ []) c r.consumed)
    (found_line has done before bytes (NoEntry (lines + 1)) at r.no_end (no_entry has before bytes (lines + 1) (ap (λ n. n + 1) is) none))
judged_no_entry has given mid left done before bytes AtInput lines is c at r none =
    tells_at_end (λ z. judged has z ≡ NoEntry (lines + 1)) given left (done ++ bytes) (Consumes-more given mid left done bytes c r.0.consumed) (end_later given mid left done c r.1)
    (found_last has done before bytes (NoEntry (lines + 1)) at r.0.no_end r.2 (no_entry has before bytes (lines + 1) (ap (λ n. n + 1) is) none))
judged_no_entry has given mid left done before bytes AtCut lines is c at r none =
    tells_whatever (λ z. judged has z ≡ NoEntry (lines + 1)) given left (done ++ bytes) (Consumes-more given mid left done bytes c r.0.consumed)
    (found_cut has done before bytes (lines + 1) (ap (λ n. n + 1) is) at r.0.no_end r.1)
