-- The shelf of a script's jobs as it is filled.
use Rattle.std.proofs.Common.{◌≡◌, ◌⊎◌, ℕ, ◌<◌, ◌≤◌, is_some, inl, inr, List, length, sym, ap, ◌∙◌, arith}
use Rattle.std.specs.Prelude.{Option, None, replicate}
use Rattle.std.proofs.lemmas.Bool.{le-ltb, cases_lt}
use Rattle.std.proofs.lemmas.List.{get_or_past, get_or-replicate, length-replicate}
use Rattle.hl_action.specs.Jobs.{KeptRecord}
use Rattle.hl_action.specs.Shelves.{job_of}
use Rattle.hl_script.specs.Text.{tags_on, below}

-- a shelf of so many places has a job under each tag below a number
pub record IsFilled {F : Type 0} (places : ℕ) (shelf : List (Option (KeptRecord F))) (count : ℕ) : Type 0 where
  pub length_is : length shelf ≡ places
  pub tags : (tag : ℕ) → tags_on shelf tag ≡ below count tag

-- a new one has none
pub new_filled : {F : Type 0} (places : ℕ) → IsFilled {F = F} places (replicate places None) 0
new_filled {F} places = record { length_is = length-replicate {A = Option (KeptRecord F)} places None; tags = λ tag. ap is_some (none tag) ∙ sym (le-ltb tag 0 (omega arith)) }
  where
    none : (tag : ℕ) → job_of {F = F} (replicate places None) tag ≡ None
    none tag = by_order (cases_lt tag places)
      where
        by_order : (tag < places) ⊎ (places ≤ tag) → job_of {F = F} (replicate places None) tag ≡ None
        by_order (inl lt) = get_or-replicate places tag None None lt
        by_order (inr ge) = get_or_past (replicate places None) tag None (omega (arith, ge, length-replicate {A = Option (KeptRecord F)} places None))
