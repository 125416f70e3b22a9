use Rattle.std.proofs.Common.{◌≡◌, ℕ, ◌*◌, ◌/◌, ◌<◌, ◌≤◌, ltb, arith, inl, inr, refl}
use Rattle.std.proofs.Math.Nat.{div-lt_iff_lt-mul}
use Rattle.std.proofs.lemmas.Bool.{cases_lt, lt-ltb, le-ltb}
use Rattle.hl_frames.proofs.frames.Frames.is_entered_at.Goals as goal

pub overflow_mul-result : goal.overflow_mul-result
overflow_mul-result c = omega (arith, c.self.invariant.pages.within_space)

-- below the end of so many pages lie the addresses of those pages
below_end : (a n w : ℕ) → 0 < w → ltb a (n * w) ≡ ltb (a / w) n
below_end a n w some = elim (cases_lt (a / w) n) [
  | inl less ↦ rw (lt-ltb (a / w) n less, lt-ltb a (n * w) ((div-lt_iff_lt-mul some).0 less)) refl
  | inr most ↦
      let past : n * w ≤ a = elim (cases_lt a (n * w)) [
        | inl below ↦ let less = (div-lt_iff_lt-mul some).1 below in absurd (omega (arith, less))
        | inr above ↦ above
      ] in
      rw (le-ltb (a / w) n most, le-ltb a (n * w) past) refl
]

pub returns : goal.returns
returns c =
    let T = c.self.inside in
    rw (← c.self.view_is) (below_end c.args.address T.entered T.page_size (omega (arith, c.self.invariant.pages.page_size_least)))
