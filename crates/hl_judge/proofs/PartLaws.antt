-- A trace's line, parted byte by byte.
use Rattle.std.proofs.Common.{◌≡◌, ◌<◌, ◌≤◌, ℕ, ◌+◌, ◌-◌, Bool, true, false, cond, List, [], ◌∷◌, ◌++◌, length, take, drop, get_or, refl, sym, ap, ap₂, ◌∙◌, append-nil, append_assoc, arith, length-drop, drop-cons, add-one, take_all, drop_of_length-le}
use Rattle.std.specs.Prelude.{Option, Some, None, nat_le}
use Rattle.std.proofs.lemmas.List.{take_more}
use Rattle.hl_line.specs.declared.line.Line.{Line}
use Rattle.hl_line.specs.Reading.{line_of}
use Rattle.hl_script.specs.Lines.{may_stand, allowed}
use Rattle.hl_judge.specs.Traces.{begins_reply, line_part, reply_part, longest, entry_of, entry_of_parts}

-- a byte before the first ` -> `
line_byte : (b : ℕ) (bytes : List ℕ) → begins_reply (b ∷ bytes) ≡ false → line_part (b ∷ bytes) ≡ b ∷ line_part bytes
unfolding line_part
line_byte b bytes h = ap (λ c. cond c [] (b ∷ line_part bytes)) h

reply_byte : (b : ℕ) (bytes : List ℕ) → begins_reply (b ∷ bytes) ≡ false → reply_part (b ∷ bytes) ≡ reply_part bytes
unfolding reply_part
reply_byte b bytes h = ap (λ c. cond c (Some (drop 4 (b ∷ bytes))) (reply_part bytes)) h

-- the first ` -> `
line_arrow : (b : ℕ) (bytes : List ℕ) → begins_reply (b ∷ bytes) ≡ true → line_part (b ∷ bytes) ≡ []
unfolding line_part
line_arrow b bytes h = ap (λ c. cond c [] (b ∷ line_part bytes)) h

reply_arrow : (b : ℕ) (bytes : List ℕ) → begins_reply (b ∷ bytes) ≡ true → reply_part (b ∷ bytes) ≡ Some (drop 4 (b ∷ bytes))
unfolding reply_part
reply_arrow b bytes h = ap (λ c. cond c (Some (drop 4 (b ∷ bytes))) (reply_part bytes)) h

pub line_none : line_part [] ≡ []
unfolding line_part
line_none = refl

pub reply_none : reply_part [] ≡ None
unfolding reply_part
reply_none = refl

-- the first bytes hold no ` -> ` that begins in them
pub record Past (bytes : List ℕ) (at : ℕ) : Type 0 where
  pub line : line_part bytes ≡ take at bytes ++ line_part (drop at bytes)
  pub reply : reply_part bytes ≡ reply_part (drop at bytes)

pub past_none : (bytes : List ℕ) → Past bytes 0
past_none bytes = record { line = refl; reply = refl }

-- what lies behind the first i, as a slice
pub rest_is : (i : ℕ) (bytes : List ℕ) → take (length bytes - i) (drop i bytes) ≡ drop i bytes
rest_is i bytes = take_all (length bytes - i) (drop i bytes) (omega (arith, length-drop i bytes))

front : (bytes : List ℕ) (i : ℕ) → i < length bytes → drop i bytes ≡ get_or bytes i 0 ∷ drop (i + 1) bytes
front bytes i h = rw (add-one, drop-cons bytes i 0) refl

-- one byte more
pub past_more : (bytes : List ℕ) (i : ℕ) → i < length bytes → Past bytes i → begins_reply (drop i bytes) ≡ false → Past bytes (i + 1)
past_more bytes i within p h =
    let here = front bytes i within in
    let next : begins_reply (get_or bytes i 0 ∷ drop (i + 1) bytes) ≡ false = ap begins_reply (sym here) ∙ h in
    record {
      line = p.line
          ∙ ap (λ z. take i bytes ++ line_part z) here
          ∙ ap (λ z. take i bytes ++ z) (line_byte (get_or bytes i 0) (drop (i + 1) bytes) next)
          ∙ sym (append_assoc (take i bytes) (get_or bytes i 0 ∷ []) (line_part (drop (i + 1) bytes)))
          ∙ ap (λ z. z ++ line_part (drop (i + 1) bytes)) (sym (take_more bytes i 0 within));
      reply = p.reply ∙ ap reply_part here ∙ reply_byte (get_or bytes i 0) (drop (i + 1) bytes) next;
    }

-- the first ` -> ` begins here
pub record PartedAt (bytes : List ℕ) (at : ℕ) : Type 0 where
  pub line : take at bytes ≡ line_part bytes
  pub reply : Some (drop 4 (drop at bytes)) ≡ reply_part bytes

pub parted_at : (bytes : List ℕ) (i : ℕ) → i < length bytes → Past bytes i → begins_reply (drop i bytes) ≡ true → PartedAt bytes i
parted_at bytes i within p h =
    let here = front bytes i within in
    let next : begins_reply (get_or bytes i 0 ∷ drop (i + 1) bytes) ≡ true = ap begins_reply (sym here) ∙ h in
    record {
      line = sym (p.line
          ∙ ap (λ z. take i bytes ++ line_part z) here
          ∙ ap (λ z. take i bytes ++ z) (line_arrow (get_or bytes i 0) (drop (i + 1) bytes) next)
          ∙ append-nil (take i bytes));
      reply = sym (p.reply ∙ ap reply_part here ∙ reply_arrow (get_or bytes i 0) (drop (i + 1) bytes) next ∙ ap (λ z. Some (drop 4 z)) (sym here));
    }

-- there is none
pub unparted : (bytes : List ℕ) (i : ℕ) → length bytes ≤ i → Past bytes i → None ≡ reply_part bytes
unparted bytes i end p = sym (p.reply ∙ ap reply_part (drop_of_length-le bytes {i = i} end) ∙ reply_none)

-- a line that isn't too long
short_entry : (before : List Line) (bytes : List ℕ) → length bytes ≤ longest → entry_of before bytes ≡ entry_of_parts (allowed before (line_of (line_part bytes))) (reply_part bytes)
unfolding entry_of
short_entry before bytes short = ap (λ b. cond b (entry_of_parts (allowed before (line_of (line_part bytes))) (reply_part bytes)) None) within
  where
    within : nat_le (length bytes) longest ≡ true
    within = grind arith

-- a line that is too long is none
pub entry_long : (before : List Line) (bytes : List ℕ) → longest < length bytes → None ≡ entry_of before bytes
unfolding entry_of
entry_long before bytes long = sym (ap (λ b. cond b (entry_of_parts (allowed before (line_of (line_part bytes))) (reply_part bytes)) None) not_within)
  where
    not_within : nat_le (length bytes) longest ≡ false
    not_within = grind arith

no_reply : (line : Option Line) → entry_of_parts line None ≡ None
no_reply None = refl
no_reply (Some line) = refl

-- a line without ` -> ` is none
pub entry_unparted : (before : List Line) (bytes : List ℕ) → length bytes ≤ longest → None ≡ reply_part bytes → None ≡ entry_of before bytes
entry_unparted before bytes short none =
    sym (short_entry before bytes short ∙ ap (entry_of_parts (allowed before (line_of (line_part bytes)))) (sym none) ∙ no_reply (allowed before (line_of (line_part bytes))))

-- a line that begins with no line of a script is none
pub entry_unread : (before : List Line) (bytes line : List ℕ) → length bytes ≤ longest → line ≡ line_part bytes → None ≡ line_of line → None ≡ entry_of before bytes
entry_unread before bytes line short is none =
    sym (short_entry before bytes short ∙ ap (λ z. entry_of_parts (allowed before z) (reply_part bytes)) (ap line_of (sym is) ∙ sym none))

-- a line that may stand is allowed, and another is not
placed : (before : List Line) (line : Line) (found : Option Line) (b : Bool) → found ≡ Some line → b ≡ may_stand before line → allowed before found ≡ cond b (Some line) None
placed before line found b is may = ap (allowed before) is ∙ ap (λ b. cond b (Some line) None) (sym may)

-- what the parts make
pub entry_read : (before : List Line) (bytes line reply : List ℕ) (read : Line) (b : Bool) → length bytes ≤ longest → line ≡ line_part bytes → Some reply ≡ reply_part bytes → Some read ≡ line_of line → b ≡ may_stand before read
    → cond b (Some (record { line = read; reply = reply })) None ≡ entry_of before bytes
entry_read before bytes line reply read b short is reply_is read_is may =
    sym (short_entry before bytes short ∙ ap₂ (λ x y. entry_of_parts x y) (placed before read (line_of (line_part bytes)) b (ap line_of (sym is) ∙ sym read_is) may) (sym reply_is) ∙ by_test b)
  where
    by_test : (b : Bool) → entry_of_parts (cond b (Some read) None) (Some reply) ≡ cond b (Some (record { line = read; reply = reply })) None
    by_test true = refl
    by_test false = refl
