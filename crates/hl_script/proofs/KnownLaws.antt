-- One write or read after another.
use Rattle.std.proofs.Common.{◌≡◌, ℕ, List, [], ◌++◌, refl, sym, ap, ◌∙◌, append_assoc, append-nil, length-append, arith}
use Rattle.std.specs.Prelude.{Option, Some, None}
use Rattle.std.specs.Io.KnownBytes.{Appends, Consumes, Keeps, IsAtEnd}
use Rattle.hl_line.specs.Streams.{BreaksOff}

pub Appends-nothing : (known : Option (List ℕ)) → Appends known known []
Appends-nothing None = tt
Appends-nothing (Some xs) = sym (append-nil xs)

pub Appends-more : (old mid new : Option (List ℕ)) (xs ys : List ℕ) → Appends old mid xs → Appends mid new ys → Appends old new (xs ++ ys)
Appends-more None mid new xs ys a b = tt
Appends-more (Some o) None new xs ys a b = absurd a
Appends-more (Some o) (Some m) None xs ys a b = absurd b
Appends-more (Some o) (Some m) (Some n) xs ys a b = b ∙ ap (λ z. z ++ ys) a ∙ append_assoc o xs ys

pub Consumes-nothing : (known : Option (List ℕ)) → Consumes known known []
Consumes-nothing None = tt
Consumes-nothing (Some xs) = refl

pub Consumes-more : (old mid new : Option (List ℕ)) (xs ys : List ℕ) → Consumes old mid xs → Consumes mid new ys → Consumes old new (xs ++ ys)
Consumes-more None mid new xs ys a b = tt
Consumes-more (Some o) None new xs ys a b = absurd a
Consumes-more (Some o) (Some m) None xs ys a b = absurd b
Consumes-more (Some o) (Some m) (Some n) xs ys a b = a ∙ ap (λ z. xs ++ z) b ∙ sym (append_assoc xs ys n)

-- a read that gave nothing
pub Consumes-kept : (old mid new : Option (List ℕ)) (xs : List ℕ) → Consumes old mid xs → Keeps mid new → Consumes old new xs
Consumes-kept None mid new xs a b = tt
Consumes-kept (Some o) None new xs a b = absurd a
Consumes-kept (Some o) (Some m) None xs a b = absurd b
Consumes-kept (Some o) (Some m) (Some n) xs a b = a ∙ ap (λ z. xs ++ z) (sym b)

-- a reader at its end has nothing left
pub at_end_left : (left : Option (List ℕ)) (more : List ℕ) → IsAtEnd left → left ≡ Some more → more ≡ []
at_end_left None more end is = cc
at_end_left (Some xs) more end is = cc

-- what was written before, and the front of what comes next
pub front-more : (old mid new : Option (List ℕ)) (xs ys : List ℕ) → Appends old mid xs → BreaksOff mid new ys
    → BreaksOff old new (xs ++ ys)
front-more old mid new xs ys a b = record {
  written = xs ++ b.written;
  missing = b.missing;
  is_missing = b.is_missing;
  both = append_assoc xs b.written b.missing ∙ ap (λ z. xs ++ z) b.both;
  grown = Appends-more old mid new xs b.written a b.grown;
}

-- a front of a text is one of each longer text
pub front-longer : (old new : Option (List ℕ)) (xs ys whole : List ℕ) → BreaksOff old new xs → whole ≡ xs ++ ys
    → BreaksOff old new whole
front-longer old new xs ys whole a e = record {
  written = a.written;
  missing = a.missing ++ ys;
  is_missing = omega (arith, a.is_missing, length-append a.missing ys);
  both = sym (append_assoc a.written a.missing ys) ∙ ap (λ z. z ++ ys) a.both ∙ sym e;
  grown = a.grown;
}

-- a write that took nothing
pub Appends-kept : (old mid new : Option (List ℕ)) (xs : List ℕ) → Appends old mid xs → Keeps mid new → Appends old new xs
Appends-kept None mid new xs a b = tt
Appends-kept (Some o) None new xs a b = absurd a
Appends-kept (Some o) (Some m) None xs a b = absurd b
Appends-kept (Some o) (Some m) (Some n) xs a b = b ∙ a
