use Rattle.std.proofs.Common.{◌≡◌, ℕ, ◌-◌, List, [], ◌∷◌, ◌++◌, length, refl, ap, ◌∙◌, slice_set, arith}
use Rattle.example_layout.proofs.Bytes.{packed_is}
use Rattle.example_layout.proofs.row.fill.Goals as goal

-- one word in front
in_front : (xs ys : List ℕ) (h : ℕ) → length xs ≡ 1 → slice_set xs 0 h ++ ys ≡ h ∷ ys
in_front [] ys h long = absurd (omega (arith, long))
in_front (x ∷ []) ys h long = refl
in_front (x ∷ y ∷ xs) ys h long = absurd (omega (arith, long))

pub returns : goal.returns
returns c =
    let n = length c.args.words.now - 1 in
    let long : length c.read_u64_into.new.dst ≡ n = omega arith in
    in_front c.split_at_mut-first.result.0.now c.read_u64_into.new.dst c.args.header (omega (arith, c.split_at_mut-first.ensures.front_len))
    ∙ ap (λ l. c.args.header ∷ l) (packed_is n c.args.bytes.now c.read_u64_into.new.dst long (λ k less. c.read_u64_into.ensures k (omega (arith, less, long))))
