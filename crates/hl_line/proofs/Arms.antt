-- Where the reader of lines that begin so finds none, no usual line stands first.
use Rattle.std.proofs.Common.{◌≡◌, ℕ, true, false, Option, Some, None, List, get_or, codes, sym, arith, IfNone}
use Rattle.hl_model.specs.declared.step.Step.TheVariants.{Refresh, Take, Done, Allocate, Look, Write, Read, FlushTake, FlushDone, CleanTake, CleanDone}
use Rattle.hl_line.specs.Lines.{worded}
use Rattle.hl_line.specs.Usual.{LacksNumber, LacksTwo, LacksThree, LacksWord, LacksFlush, Behind, LacksStep}
use Rattle.hl_line.proofs.Fronts.{one_in_line, two_in_line, three_in_line, flush_in_line}
use Rattle.hl_line.proofs.Whole.{at_each}

-- what follows from what holds where nothing is found
pub if_none : {T : Type 0} (o : Option T) (P Q : Type 0) → (P → Q) → IfNone o P → IfNone o Q
if_none (Some found) P Q f h = h
if_none None P Q f h = f h

-- as an `alloc` begins
pub alloc_arm : (bytes : List ℕ) → get_or bytes 0 0 ≡ 97 → get_or bytes 2 0 ≡ 108 → Behind (codes "alloc ") LacksTwo bytes → LacksStep bytes
unfolding worded
alloc_arm bytes p q none (Allocate t n) rest h e = none _ e t n rest h.0 h.1 (sym (two_in_line t n rest))
alloc_arm bytes p q none other rest h e = absurd (omega (arith, at_each _ _ e 0, at_each _ _ e 2))

-- as a `write` begins
pub write_arm : (bytes : List ℕ) → get_or bytes 0 0 ≡ 119 → get_or bytes 2 0 ≡ 105 → Behind (codes "write ") LacksThree bytes → LacksStep bytes
unfolding worded
write_arm bytes p q none (Write t a v) rest h e = none _ e t a v rest h.0 h.1.0 h.1.1 (sym (three_in_line t a v rest))
write_arm bytes p q none other rest h e = absurd (omega (arith, at_each _ _ e 0, at_each _ _ e 2))

-- as a `read` begins
pub read_arm : (bytes : List ℕ) → get_or bytes 0 0 ≡ 114 → get_or bytes 2 0 ≡ 97 → Behind (codes "read ") LacksTwo bytes → LacksStep bytes
unfolding worded
read_arm bytes p q none (Read t a) rest h e = none _ e t a rest h.0 h.1 (sym (two_in_line t a rest))
read_arm bytes p q none other rest h e = absurd (omega (arith, at_each _ _ e 0, at_each _ _ e 2))

-- as a `refresh` begins
pub refresh_arm : (bytes : List ℕ) → get_or bytes 0 0 ≡ 114 → get_or bytes 2 0 ≡ 102 → Behind (codes "refresh ") (LacksNumber 10) bytes → LacksStep bytes
unfolding worded
refresh_arm bytes p q none (Refresh t) rest h e = none _ e t rest h (sym (one_in_line t rest))
refresh_arm bytes p q none other rest h e = absurd (omega (arith, at_each _ _ e 0, at_each _ _ e 2))

-- as a `look` begins
pub look_arm : (bytes : List ℕ) → get_or bytes 0 0 ≡ 108 → get_or bytes 2 0 ≡ 111 → Behind (codes "look ") LacksThree bytes → LacksStep bytes
unfolding worded
look_arm bytes p q none (Look t read_only head) rest h e = none _ e t read_only head rest h.0 h.1.0 h.1.1 (sym (three_in_line t read_only head rest))
look_arm bytes p q none other rest h e = absurd (omega (arith, at_each _ _ e 0, at_each _ _ e 2))

-- as a `take` begins
pub take_arm : (bytes : List ℕ) → get_or bytes 0 0 ≡ 116 → get_or bytes 2 0 ≡ 107 → LacksWord (codes "take\n") bytes → LacksStep bytes
unfolding worded
take_arm bytes p q none Take rest h e = none rest e
take_arm bytes p q none other rest h e = absurd (omega (arith, at_each _ _ e 0, at_each _ _ e 2))

-- as a `done` begins
pub done_arm : (bytes : List ℕ) → get_or bytes 0 0 ≡ 100 → get_or bytes 2 0 ≡ 110 → Behind (codes "done ") (LacksNumber 10) bytes → LacksStep bytes
unfolding worded
done_arm bytes p q none (Done ticket) rest h e = none _ e ticket rest h (sym (one_in_line ticket rest))
done_arm bytes p q none other rest h e = absurd (omega (arith, at_each _ _ e 0, at_each _ _ e 2))

-- as a `flush take` begins
pub flush_take_arm : (bytes : List ℕ) → get_or bytes 0 0 ≡ 102 → get_or bytes 2 0 ≡ 117 → get_or bytes 6 0 ≡ 116 → LacksWord (codes "flush take\n") bytes → LacksStep bytes
unfolding worded
flush_take_arm bytes p q r none FlushTake rest h e = none rest e
flush_take_arm bytes p q r none other rest h e = absurd (omega (arith, at_each _ _ e 0, at_each _ _ e 2, at_each _ _ e 6))

-- as a `flush done` begins
pub flush_done_arm : (bytes : List ℕ) → get_or bytes 0 0 ≡ 102 → get_or bytes 2 0 ≡ 117 → get_or bytes 6 0 ≡ 100 → Behind (codes "flush done ") LacksFlush bytes → LacksStep bytes
unfolding worded
flush_done_arm bytes p q r none (FlushDone page true) rest h e = none _ e page rest h (sym (flush_in_line page rest))
flush_done_arm bytes p q r none (FlushDone page false) rest h e = absurd h
flush_done_arm bytes p q r none other rest h e = absurd (omega (arith, at_each _ _ e 0, at_each _ _ e 2, at_each _ _ e 6))

-- as a `clean take` begins
pub clean_take_arm : (bytes : List ℕ) → get_or bytes 0 0 ≡ 99 → get_or bytes 2 0 ≡ 101 → get_or bytes 6 0 ≡ 116 → LacksWord (codes "clean take\n") bytes → LacksStep bytes
unfolding worded
clean_take_arm bytes p q r none CleanTake rest h e = none rest e
clean_take_arm bytes p q r none other rest h e = absurd (omega (arith, at_each _ _ e 0, at_each _ _ e 2, at_each _ _ e 6))

-- as a `clean done` begins
pub clean_done_arm : (bytes : List ℕ) → get_or bytes 0 0 ≡ 99 → get_or bytes 2 0 ≡ 101 → get_or bytes 6 0 ≡ 100 → Behind (codes "clean done ") (LacksNumber 10) bytes → LacksStep bytes
unfolding worded
clean_done_arm bytes p q r none (CleanDone page) rest h e = none _ e page rest h (sym (one_in_line page rest))
clean_done_arm bytes p q r none other rest h e = absurd (omega (arith, at_each _ _ e 0, at_each _ _ e 2, at_each _ _ e 6))

-- bytes that begin as no usual line does
pub record BeginOtherwise (bytes : List ℕ) : Type 0 where
  pub alloc : get_or bytes 0 0 ≡ 97 → get_or bytes 2 0 ≡ 108 → ⊥
  pub write : get_or bytes 0 0 ≡ 119 → get_or bytes 2 0 ≡ 105 → ⊥
  pub read : get_or bytes 0 0 ≡ 114 → get_or bytes 2 0 ≡ 97 → ⊥
  pub refresh : get_or bytes 0 0 ≡ 114 → get_or bytes 2 0 ≡ 102 → ⊥
  pub look : get_or bytes 0 0 ≡ 108 → get_or bytes 2 0 ≡ 111 → ⊥
  pub take : get_or bytes 0 0 ≡ 116 → get_or bytes 2 0 ≡ 107 → ⊥
  pub done : get_or bytes 0 0 ≡ 100 → get_or bytes 2 0 ≡ 110 → ⊥
  pub flush_take : get_or bytes 0 0 ≡ 102 → get_or bytes 2 0 ≡ 117 → get_or bytes 6 0 ≡ 116 → ⊥
  pub flush_done : get_or bytes 0 0 ≡ 102 → get_or bytes 2 0 ≡ 117 → get_or bytes 6 0 ≡ 100 → ⊥
  pub clean_take : get_or bytes 0 0 ≡ 99 → get_or bytes 2 0 ≡ 101 → get_or bytes 6 0 ≡ 116 → ⊥
  pub clean_done : get_or bytes 0 0 ≡ 99 → get_or bytes 2 0 ≡ 101 → get_or bytes 6 0 ≡ 100 → ⊥

-- as no usual line begins
pub no_arm : (bytes : List ℕ) → BeginOtherwise bytes → LacksStep bytes
unfolding worded
no_arm bytes otherwise (Allocate t n) rest h e = otherwise.alloc (at_each _ _ e 0) (at_each _ _ e 2)
no_arm bytes otherwise (Write t a v) rest h e = otherwise.write (at_each _ _ e 0) (at_each _ _ e 2)
no_arm bytes otherwise (Read t a) rest h e = otherwise.read (at_each _ _ e 0) (at_each _ _ e 2)
no_arm bytes otherwise (Refresh t) rest h e = otherwise.refresh (at_each _ _ e 0) (at_each _ _ e 2)
no_arm bytes otherwise (Look t read_only head) rest h e = otherwise.look (at_each _ _ e 0) (at_each _ _ e 2)
no_arm bytes otherwise Take rest h e = otherwise.take (at_each _ _ e 0) (at_each _ _ e 2)
no_arm bytes otherwise (Done ticket) rest h e = otherwise.done (at_each _ _ e 0) (at_each _ _ e 2)
no_arm bytes otherwise FlushTake rest h e = otherwise.flush_take (at_each _ _ e 0) (at_each _ _ e 2) (at_each _ _ e 6)
no_arm bytes otherwise (FlushDone page true) rest h e = otherwise.flush_done (at_each _ _ e 0) (at_each _ _ e 2) (at_each _ _ e 6)
no_arm bytes otherwise CleanTake rest h e = otherwise.clean_take (at_each _ _ e 0) (at_each _ _ e 2) (at_each _ _ e 6)
no_arm bytes otherwise (CleanDone page) rest h e = otherwise.clean_done (at_each _ _ e 0) (at_each _ _ e 2) (at_each _ _ e 6)
no_arm bytes otherwise other rest h e = absurd h
