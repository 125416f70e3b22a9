-- A line with its LF, in front of what follows.
use Rattle.std.proofs.Common.{◌≡◌, ℕ, List, [], ◌∷◌, ◌++◌, decimal, ap, ◌∙◌, append_assoc}

-- a number
pub one_in_line : (a : ℕ) (rest : List ℕ) → (decimal a ++ []) ++ (10 ∷ rest) ≡ decimal a ++ (10 ∷ rest)
one_in_line a rest = append_assoc (decimal a) [] (10 ∷ rest)

-- two numbers
pub two_in_line : (a b : ℕ) (rest : List ℕ) → (decimal a ++ (32 ∷ (decimal b ++ []))) ++ (10 ∷ rest) ≡ decimal a ++ (32 ∷ (decimal b ++ (10 ∷ rest)))
two_in_line a b rest =
    append_assoc (decimal a) (32 ∷ (decimal b ++ [])) (10 ∷ rest) ∙ ap (λ z. decimal a ++ (32 ∷ z)) (one_in_line b rest)

-- three numbers
pub three_in_line : (a b c : ℕ) (rest : List ℕ) → (decimal a ++ (32 ∷ (decimal b ++ (32 ∷ (decimal c ++ []))))) ++ (10 ∷ rest) ≡ decimal a ++ (32 ∷ (decimal b ++ (32 ∷ (decimal c ++ (10 ∷ rest)))))
three_in_line a b c rest =
    append_assoc (decimal a) (32 ∷ (decimal b ++ (32 ∷ (decimal c ++ [])))) (10 ∷ rest)
    ∙ ap (λ z. decimal a ++ (32 ∷ z)) (append_assoc (decimal b) (32 ∷ (decimal c ++ [])) (10 ∷ rest)
    ∙ ap (λ z. decimal b ++ (32 ∷ z)) (append_assoc (decimal c) [] (10 ∷ rest)))

-- a page whose flush went well
pub flush_in_line : (page : ℕ) (rest : List ℕ) → ((decimal page ++ []) ++ (32 ∷ 111 ∷ 107 ∷ [])) ++ (10 ∷ rest) ≡ decimal page ++ (32 ∷ 111 ∷ 107 ∷ 10 ∷ rest)
flush_in_line page rest =
    append_assoc (decimal page ++ []) (32 ∷ 111 ∷ 107 ∷ []) (10 ∷ rest) ∙ append_assoc (decimal page) [] (32 ∷ 111 ∷ 107 ∷ 10 ∷ rest)
