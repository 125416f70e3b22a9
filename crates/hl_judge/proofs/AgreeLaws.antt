-- A trace all of whose lines agree: its replies are the text of its script.
use Rattle.std.proofs.Common.{◌≡◌, ℕ, suc, ◌+◌, Bool, true, false, cond, ◌||◌, List, [], ◌∷◌, ◌++◌, length, map, refl, sym, ap, ap₂, ◌∙◌, subst, append_assoc, append-nil, arith, eq-eqb}
use Rattle.std.specs.Prelude.{Option, Some, None, bytes_eq, flat_map, unwrap_or, nat_le}
use Rattle.std.specs.List.{list_any}
use Rattle.std.proofs.lemmas.Bool.{or_parts}
use Rattle.std.proofs.lemmas.List.{length_push}
use Rattle.std.proofs.lemmas.Slice.Eq.{bytes_eq-Decides}
use Rattle.hl_model.specs.Lists.{gather, gather_after}
use Rattle.hl_line.specs.declared.line.Line.{Line}
use Rattle.hl_line.specs.Reading.{line_of}
use Rattle.hl_script.specs.Cut.{cut, longer}
use Rattle.hl_script.specs.Lines.{allowed, good_lines, script, bad_line}
use Rattle.hl_script.specs.Answers.{reply_line}
use Rattle.hl_script.specs.Interpreter.{is_end, answered}
use Rattle.hl_script.specs.Text.{answers, bad_text, text}
use Rattle.hl_script.proofs.CutLaws.{cut-nil, cut-byte, cut-line}
use Rattle.hl_script.proofs.LineLaws.{good-nil, good-line}
use Rattle.hl_judge.specs.Traces.{Entry, begins_reply, line_part, reply_part, longest, entry_of, entry_of_parts, AllAgree, Deviation, NoEntry, judged_after, judged, script_of, replies_of}
use Rattle.hl_judge.proofs.TraceLaws.{after_none, after_agrees, after_deviates, after_no_entry}

-- no line of these has an LF
abbrev are_lines : List (List ℕ) → Type 0
are_lines [] = Unit {0}
are_lines (line ∷ lines) = (list_any is_end line ≡ false) × are_lines lines

longer_lines : (b : ℕ) (lines : List (List ℕ)) → is_end b ≡ false → are_lines lines → are_lines (longer b lines)
longer_lines b [] h all = (ap (λ c. c || false) h, tt)
longer_lines b (line ∷ lines) h all = (ap (λ c. c || list_any is_end line) h ∙ all.0, all.1)

cut-ends : (b : ℕ) (bytes : List ℕ) → is_end b ≡ true → cut (b ∷ bytes) ≡ [] ∷ cut bytes
unfolding cut
cut-ends b bytes h = ap (λ c. cond c ([] ∷ cut bytes) (longer b (cut bytes))) h

-- cutting leaves no LF in a line
cut_lines : (bytes : List ℕ) → are_lines (cut bytes)
cut_lines [] = subst are_lines (sym cut-nil) tt
cut_lines (b ∷ bytes) = by_byte (cut_lines bytes) (is_end b) refl
  where
    by_byte : are_lines (cut bytes) → (c : Bool) → is_end b ≡ c → are_lines (cut (b ∷ bytes))
    by_byte later true is = subst are_lines (sym (cut-ends b bytes is)) (refl, later)
    by_byte later false is = subst are_lines (sym (cut-byte b bytes is)) (longer_lines b (cut bytes) is later)

-- the part before ` -> ` has no more LFs than the line
part_no_end : (bytes : List ℕ) → list_any is_end bytes ≡ false → list_any is_end (line_part bytes) ≡ false
unfolding line_part
part_no_end [] h = refl
part_no_end (b ∷ bytes) h =
    let parts = or_parts (is_end b) (list_any is_end bytes) h in
    by_arrow parts.0 (part_no_end bytes parts.1) (begins_reply (b ∷ bytes))
  where
    by_arrow : is_end b ≡ false → list_any is_end (line_part bytes) ≡ false → (c : Bool) → list_any is_end (cond c [] (b ∷ line_part bytes)) ≡ false
    by_arrow here later true = refl
    by_arrow here later false = ap (λ z. z || list_any is_end (line_part bytes)) here ∙ later

-- the script of some lines of a trace
abbrev lines_text : List (List ℕ) → List ℕ
lines_text lines = flat_map (λ bytes. line_part bytes ++ 10 ∷ []) lines

-- it is cut into their first parts
script_cut : (lines : List (List ℕ)) → are_lines lines → cut (lines_text lines) ≡ map line_part lines
script_cut [] all = cut-nil
script_cut (bytes ∷ lines) all =
    ap cut (append_assoc (line_part bytes) (10 ∷ []) (lines_text lines))
    ∙ cut-line (line_part bytes) (lines_text lines) (part_no_end bytes all.0)
    ∙ ap (λ z. line_part bytes ∷ z) (script_cut lines all.1)

-- the parts of an entry
record HasParts (before : List Line) (bytes : List ℕ) (entry : Entry) : Type 0 where
  pub line : allowed before (line_of (line_part bytes)) ≡ Some entry.line
  pub reply : reply_part bytes ≡ Some entry.reply

parts_made : (line : Option Line) (reply : Option (List ℕ)) (entry : Entry) → entry_of_parts line reply ≡ Some entry → (line ≡ Some entry.line) × (reply ≡ Some entry.reply)
parts_made None reply entry h = absurd (cc)
parts_made (Some line) None entry h = absurd (cc)
parts_made (Some line) (Some reply) entry h =
    let same : record { line = line; reply = reply } ≡ entry = cc in
    (ap (λ (e : Entry). Some e.line) same, ap (λ (e : Entry). Some e.reply) same)

entry_parts : (before : List Line) (bytes : List ℕ) (entry : Entry) → entry_of before bytes ≡ Some entry → HasParts before bytes entry
unfolding entry_of
entry_parts before bytes entry h = by_length (nat_le (length bytes) longest) h
  where
    by_length : (b : Bool) → cond b (entry_of_parts (allowed before (line_of (line_part bytes))) (reply_part bytes)) None ≡ Some entry → HasParts before bytes entry
    by_length true is = let parts = parts_made (allowed before (line_of (line_part bytes))) (reply_part bytes) entry is in record { line = parts.0; reply = parts.1 }
    by_length false is = absurd (cc)

-- the replies of some lines of a trace
abbrev replies_text : List (List ℕ) → List ℕ
replies_text lines = flat_map (λ bytes. unwrap_or (reply_part bytes) [] ++ 10 ∷ []) lines

-- lines of a trace that all agree, after those before
record Agreed (has : ℕ → Bool) (before : List Line) (lines : List (List ℕ)) (n : ℕ) : Type 0 where
  pub news : List Line
  pub good : good_lines before (map line_part lines) ≡ news
  pub all : length news ≡ length lines
  pub count : n ≡ length before + length lines
  pub told : gather_after (answered has) before news ≡ replies_text lines

agreed_none : (has : ℕ → Bool) (before : List Line) (n : ℕ) → judged_after has before [] ≡ AllAgree n → Agreed has before [] n
unfolding gather_after
agreed_none has before n h = record {
  news = [];
  good = good-nil before;
  all = refl;
  count = let same : AllAgree (length before) ≡ AllAgree n = sym (after_none has before) ∙ h in omega (arith, count_same same);
  told = refl;
}
  where
    count_same : AllAgree (length before) ≡ AllAgree n → length before ≡ n
    count_same e = cc

-- one more
agreed_more : (has : ℕ → Bool) (before : List Line) (bytes : List ℕ) (lines : List (List ℕ)) (n : ℕ) (entry : Entry) → HasParts before bytes entry → entry.reply ≡ reply_line has before entry.line
    → Agreed has (before ++ entry.line ∷ []) lines n → Agreed has before (bytes ∷ lines) n
unfolding gather_after
agreed_more has before bytes lines n entry parts same a = record {
  news = entry.line ∷ a.news;
  good = good-line before (line_part bytes) (map line_part lines) entry.line parts.line ∙ ap (λ z. entry.line ∷ z) a.good;
  all = ap suc a.all;
  count = omega (arith, a.count, length_push before entry.line);
  told = ap₂ (λ x y. (x ++ 10 ∷ []) ++ y) (sym same ∙ ap (λ o. unwrap_or o []) (sym parts.reply)) a.told;
}

agreed : (has : ℕ → Bool) (before : List Line) (lines : List (List ℕ)) (n : ℕ) → judged_after has before lines ≡ AllAgree n → Agreed has before lines n
agreed has before [] n h = agreed_none has before n h
agreed has before (bytes ∷ lines) n h = by_entry (λ next later. agreed has next lines n later) (entry_of before bytes) refl
  where
    by_reply : (entry : Entry) → entry_of before bytes ≡ Some entry → ((next : List Line) → judged_after has next lines ≡ AllAgree n → Agreed has next lines n)
        → (b : Bool) → bytes_eq entry.reply (reply_line has before entry.line) ≡ b → Agreed has before (bytes ∷ lines) n
    by_reply entry is more true same =
        agreed_more has before bytes lines n entry (entry_parts before bytes entry is) ((bytes_eq-Decides entry.reply (reply_line has before entry.line)).0 same)
        (more (before ++ entry.line ∷ []) (sym (after_agrees has before bytes lines entry is same) ∙ h))
    by_reply entry is more false other = let wrong : Deviation (length before + 1) bytes (reply_line has before entry.line) ≡ AllAgree n = sym (after_deviates has before bytes lines entry is other) ∙ h in absurd (cc)

    by_entry : ((next : List Line) → judged_after has next lines ≡ AllAgree n → Agreed has next lines n) → (o : Option Entry) → entry_of before bytes ≡ o → Agreed has before (bytes ∷ lines) n
    by_entry more None is = let wrong : NoEntry (length before + 1) ≡ AllAgree n = sym (after_no_entry has before bytes lines is) ∙ h in absurd (cc)
    by_entry more (Some entry) is = by_reply entry is more (bytes_eq entry.reply (reply_line has before entry.line)) refl

length-parts : (lines : List (List ℕ)) → length (map line_part lines) ≡ length lines
length-parts [] = refl
length-parts (bytes ∷ lines) = ap suc (length-parts lines)

all_agree : (has : ℕ → Bool) (trace : List ℕ) (n : ℕ) → judged has trace ≡ AllAgree n → Agreed has [] (cut trace) n
unfolding judged
all_agree has trace n h = agreed has [] (cut trace) n h

-- the replies of a trace whose lines all agree are the text of its script
pub text_told : (has : ℕ → Bool) (trace : List ℕ) (n : ℕ) → judged has trace ≡ AllAgree n → text has (script_of trace) ≡ replies_of trace
unfolding text script bad_line answers gather script_of replies_of
text_told has trace n h =
    ap₂ (λ x y. answers has x ++ bad_text y) lines none ∙ append-nil (answers has a.news) ∙ a.told
  where
    a : Agreed has [] (cut trace) n
    a = all_agree has trace n h

    cuts : cut (script_of trace) ≡ map line_part (cut trace)
    cuts = script_cut (cut trace) (cut_lines trace)

    lines : script (script_of trace) ≡ a.news
    lines = ap (good_lines []) cuts ∙ a.good

    none : bad_line (script_of trace) ≡ None
    none = ap (λ b. cond b None (Some (length (script (script_of trace)) + 1)))
        (eq-eqb (length (script (script_of trace))) (length (cut (script_of trace))) (ap length lines ∙ a.all ∙ sym (length-parts (cut trace)) ∙ sym (ap length cuts)))

-- so many lines it has
pub lines_told : (has : ℕ → Bool) (trace : List ℕ) (n : ℕ) → judged has trace ≡ AllAgree n → n ≡ length (cut trace)
lines_told has trace n h = let a = all_agree has trace n h in omega (arith, a.count)
