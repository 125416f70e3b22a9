-- A shelf of jobs: at place t the job of tag t, if it is there.
use Rattle.std.specs.Prelude.{◌≡◌, ℕ, nat_lt, Bool, ◌&&◌, Option, None, is_none, List, length, slice_index_or}
use Rattle.std.specs.Option.{ForSome}
use Rattle.hl_action.specs.Jobs.{KeptRecord}

-- the job of this tag, if it is there
abbrev pub job_of : {F : Type 0} → List (Option (KeptRecord F)) → ℕ → Option (KeptRecord F)
job_of places tag = slice_index_or places tag None

-- the tag has a place, and it is free
abbrev pub has_place : {F : Type 0} → List (Option (KeptRecord F)) → ℕ → Bool
has_place places tag = nat_lt tag (length places) && is_none (job_of places tag)

-- each job lies at the place of its own tag
abbrev pub AreAtTheirTags : {F : Type 0} → List (Option (KeptRecord F)) → Type 0
AreAtTheirTags {F} places = (tag : ℕ) → ForSome (job_of places tag) (λ (kept : KeptRecord F). kept.tag ≡ tag)
