-- What is taken of an input.
use Rattle.std.proofs.Common.{◌≡◌, ◌<◌, ◌≤◌, ℕ, ◌+◌, ◌-◌, false, List, [], ◌∷◌, ◌++◌, length, take, drop, refl, sym, ap, ◌∙◌, subst, append_assoc, append-nil, arith, rules, min, ◌^◌, length-append, ne_eqb, get_or}
use Rattle.std.specs.Prelude.{Option}
use Rattle.std.specs.List.{list_any}
use Rattle.std.specs.Io.KnownBytes.{Consumes}
use Rattle.std.proofs.lemmas.List.Folds.{list_any_none}
use Rattle.std.proofs.lemmas.List.{drop-drop, drop-take, drop_all, take-append-drop, take_more}
use Rattle.hl_line.specs.declared.line.Line.{Line}
use Rattle.hl_line.specs.Lines.{Fits, spelling}
use Rattle.hl_line.proofs.Texts.{spelling_free}
use Rattle.hl_script.specs.Interpreter.{is_end}
use Rattle.hl_script.specs.Outcomes.{ReadWithin}
use Rattle.hl_script.specs.Input.{InputView, HasRead, ReadFailed, budget}
use Rattle.hl_script.proofs.KnownLaws.{Consumes-nothing}

-- the bytes between two places, but for the first ones
pub taken : (from to count : ℕ) (xs : List ℕ) → count ≤ to - from → take (to - (from + count)) (drop (from + count) xs) ≡ drop count (take (to - from) (drop from xs))
taken from to count xs few =
    let left = to - (from + count) in
    let all : to - from ≡ count + left = omega (arith, few) in
    ap (take left) (sym (drop-drop count from xs)) ∙ sym (ap (λ n. drop count (take n (drop from xs))) all ∙ drop-take count left (drop from xs))

-- the first bytes of what was read were taken
pub HasRead-take : (reads : ℕ) (given left : Option (List ℕ)) (input : InputView) (done front : List ℕ) (count : ℕ) → HasRead reads given left input done
    → front ≡ take count input.shown → HasRead reads given left (record input { shown = drop count input.shown }) (done ++ front)
HasRead-take reads given left input done front count read is = record {
  consumed = subst (Consumes given left) whole read.consumed;
  few = omega (arith, ap length whole, length-append done input.shown, length-append (done ++ front) (drop count input.shown), read.few);
  made = read.made;
  most = read.most;
  over = λ ended.
      let end = read.over ended in
      let none : drop count input.shown ≡ [] = drop_all count input.shown (omega (arith, ap length end.0)) in
      (none, end.1, omega (arith, ap length whole, ap length none, ap length end.0, length-append done input.shown, length-append (done ++ front) (drop count input.shown), end.2));
}
  where
    whole : done ++ input.shown ≡ (done ++ front) ++ drop count input.shown
    whole =
        ap (λ z. done ++ z) (sym (take-append-drop count input.shown) ∙ ap (λ z. z ++ drop count input.shown) (sym is))
        ∙ sym (append_assoc done front (drop count input.shown))

-- no LF stands in the spelling of a line
pub spelling-no_end : (line : Line) → Fits line → list_any is_end (spelling line) ≡ false
spelling-no_end line fits =
    let free = spelling_free line fits in
    list_any_none is_end (spelling line) (λ k d within. ne_eqb (get_or (spelling line) k d) 10 (free k d within))

-- one more byte was taken
pub HasRead-byte : (reads : ℕ) (given left : Option (List ℕ)) (was input : InputView) (done bytes shown : List ℕ) → HasRead reads given left was (done ++ bytes)
    → shown ≡ was.shown → 0 < length was.shown → input ≡ record was { shown = drop 1 was.shown } → HasRead reads given left input (done ++ (bytes ++ get_or shown 0 0 ∷ []))
HasRead-byte reads given left was input done bytes shown read same some is =
    let byte = get_or shown 0 0 ∷ [] in
    let first : byte ≡ take 1 was.shown = ap (λ z. get_or z 0 0 ∷ []) same ∙ sym (take_more was.shown 0 0 some) in
    subst (λ v. HasRead reads given left v (done ++ (bytes ++ byte))) (sym is)
    (subst (HasRead reads given left (record was { shown = drop 1 was.shown })) (append_assoc done bytes byte)
    (HasRead-take reads given left was (done ++ bytes) byte 1 read first))

-- bytes that aren't none are some
pub some_bytes : (bytes : List ℕ) → (bytes ≡ [] → ⊥) → 0 < length bytes
some_bytes [] not = absurd (not refl)
some_bytes (b ∷ bytes) not = omega arith

-- before the first read
pub HasRead-start : (reads : ℕ) (given : Option (List ℕ)) (input : InputView) → input ≡ record { shown = []; has_ended = false; made = 0; most = min reads (2 ^ 48) } → HasRead reads given given input []
HasRead-start reads given input is = subst (λ v. HasRead reads given given v []) (sym is) (record {
  consumed = Consumes-nothing given;
  few = omega arith;
  made = omega arith;
  most = search rules;
  over = λ ended. cc;
})

-- a read failed behind a line
pub no_more : (reads : ℕ) (given left : Option (List ℕ)) (done : List ℕ) → ReadWithin reads given left done → ReadFailed reads given left done []
no_more reads given left done within = record { within = subst (ReadWithin reads given left) (sym (append-nil done)) within; no_end = refl; short = omega arith }

pub budget-start : (reads : ℕ) (input : InputView) → input ≡ record { shown = []; has_ended = false; made = 0; most = min reads (2 ^ 48) } → budget input ≤ 2 ^ 62
budget-start reads input is =
    let most : min reads (2 ^ 48) ≤ 2 ^ 48 = search rules in
    omega (arith, ap (λ v. v.most) is, ap (λ v. v.made) is, ap (λ v. length v.shown) is, most)
