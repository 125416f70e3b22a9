-- The few ways in which the definitions look back over a list. Lists are oldest first.
use Rattle.std.specs.Prelude.{ℕ, zero, suc, ◌+◌, Bool, if◌then◌else◌, min, max, Option, Some, None, unwrap_or, List, [], ◌∷◌, ◌++◌}
use Rattle.std.specs.List.{list_any}

-- how many elements lead up to the last that passes, that one counted; 0 where none passes
unfoldable pub until_last : {X : Type 0} → (X → Bool) → List X → ℕ
until_last p [] = 0
until_last p (x ∷ xs) = if list_any p xs then until_last p xs + 1 else (if p x then 1 else 0)

-- what each element gives, told those before it and all of before
unfoldable pub gather_after : {X Y : Type 0} → (List X → X → List Y) → List X → List X → List Y
gather_after f before [] = []
gather_after f before (x ∷ xs) = f before x ++ gather_after f (before ++ x ∷ []) xs

-- what each element gives, told those before it, one after another
unfoldable pub gather : {X Y : Type 0} → (List X → X → List Y) → List X → List Y
gather f xs = gather_after f [] xs

-- what each element gives, told those before it and what they gave, and all of before and given
unfoldable pub unroll_after : {X Y : Type 0} → (List X → List Y → X → List Y) → List X → List Y → List X
    → List Y
unroll_after f before given [] = []
unroll_after f before given (x ∷ xs) =
    f before given x ++ unroll_after f (before ++ x ∷ []) (given ++ f before given x) xs

-- what each element gives, told those before it and what they gave, one after another
unfoldable pub unroll : {X Y : Type 0} → (List X → List Y → X → List Y) → List X → List Y
unroll f xs = unroll_after f [] [] xs

-- the greatest of the numbers that the elements give, or 0
unfoldable pub greatest : {X : Type 0} → (X → ℕ) → List X → ℕ
greatest f [] = 0
greatest f (x ∷ xs) = max (f x) (greatest f xs)

-- the last value that an element gives, or d where none gives one
unfoldable pub last_given : {X Y : Type 0} → (X → Option Y) → Y → List X → Y
last_given f d [] = d
last_given f d (x ∷ xs) = last_given f (unwrap_or (f x) d) xs

-- the least number, or d where there is none
unfoldable pub least_or : ℕ → List ℕ → ℕ
least_or d [] = d
least_or d (x ∷ xs) = min x (least_or x xs)

-- the greatest number below n that passes
unfoldable pub greatest_below : (ℕ → Bool) → ℕ → Option ℕ
greatest_below p zero = None
greatest_below p (suc n) = if p n then Some n else greatest_below p n
