-- The read of a line, part by part.
use Rattle.std.proofs.Common.{◌≡◌, ℕ, false, ◌||◌, List, [], ◌∷◌, ◌++◌, length, refl, sym, ap, ◌∙◌, subst, append_assoc}
use Rattle.std.specs.Prelude.{Option, Some, None, IfSome, OnSome}
use Rattle.std.specs.List.{list_any}
use Rattle.std.specs.Io.KnownBytes.{Consumes, Keeps, IsAtEnd}
use Rattle.std.proofs.lemmas.List.Folds.{list_any-append}
use Rattle.hl_script.specs.Interpreter.{is_end}
use Rattle.hl_script.proofs.KnownLaws.{Consumes-nothing, Consumes-more, Consumes-kept}
use Rattle.hl_judge.specs.Judging.{ReadInLine, ReadLine}

-- bytes without an LF behind bytes without an LF
pub no_end-append : (xs ys : List ℕ) → list_any is_end xs ≡ false → list_any is_end ys ≡ false → list_any is_end (xs ++ ys) ≡ false
no_end-append xs ys h k = list_any-append is_end xs ys ∙ ap (λ b. b || list_any is_end ys) h ∙ k

-- nothing was read
pub read_nothing : (given : Option (List ℕ)) → ReadInLine given given []
read_nothing given = record { consumed = Consumes-nothing given; no_end = refl }

-- a read that took nothing
pub read_kept : (given mid left : Option (List ℕ)) (bytes : List ℕ) → ReadInLine given mid bytes → Keeps mid left → ReadInLine given left bytes
read_kept given mid left bytes r kept = record { consumed = Consumes-kept given mid left bytes r.consumed kept; no_end = r.no_end }

-- a part more
pub read_more : (given mid left : Option (List ℕ)) (bytes part : List ℕ) → ReadInLine given mid bytes → ReadInLine mid left part → ReadInLine given left (bytes ++ part)
read_more given mid left bytes part r s = record { consumed = Consumes-more given mid left bytes part r.consumed s.consumed; no_end = no_end-append bytes part r.no_end s.no_end }

-- a reader whose bytes were known is at its end
pub end_later : (given mid left : Option (List ℕ)) (bytes : List ℕ) → Consumes given mid bytes → OnSome mid (IsAtEnd left) → OnSome given (IsAtEnd left)
end_later None mid left bytes c end = tt
end_later (Some xs) None left bytes c end = absurd c
end_later (Some xs) (Some ys) left bytes c end = end

-- a reader that shows nothing
pub end_shown : (given left : Option (List ℕ)) (shown : List ℕ) → Keeps given left → IfSome given (λ xs. length shown ≡ 0 → xs ≡ []) → length shown ≡ 0 → OnSome given (IsAtEnd left)
end_shown None left shown kept end none = tt
end_shown (Some xs) None shown kept end none = absurd kept
end_shown (Some xs) (Some ys) shown kept end none = kept ∙ end none

-- the last part and the LF
pub read_end : (given mid left : Option (List ℕ)) (bytes part : List ℕ) → ReadInLine given mid bytes → ReadLine mid left part → ReadLine given left (bytes ++ part)
read_end given mid left bytes part r s = record {
  consumed = subst (Consumes given left) (sym (append_assoc bytes part (10 ∷ []))) (Consumes-more given mid left bytes (part ++ 10 ∷ []) r.consumed s.consumed);
  no_end = no_end-append bytes part r.no_end s.no_end;
}
