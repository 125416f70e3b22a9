-- What a protected slot knows of the offsets.
use Rattle.std.specs.Prelude.{ℕ, max, ◌==◌, Bool, false, if◌then◌else◌, Option, Some, None, List, take, drop, map}
use Rattle.std.specs.List.{range_with_len}
use Rattle.hl_model.specs.declared.step.Step.{Step}
use Rattle.hl_model.specs.declared.step.Step.TheVariants.{Allocate, Look}
use Rattle.hl_model.specs.declared.view.View.{View}
use Rattle.hl_model.specs.Lists.{until_last, last_given}
use Rattle.hl_model.specs.Sizes.{Sizes}
use Rattle.hl_model.specs.Epochs.{mark, up_to_mark, is_protected}
use Rattle.hl_model.specs.Offsets.{read_only, head, tail}

-- the steps after slot t's mark
unfoldable pub since_mark : ℕ → List Step → List Step
since_mark t A = drop (mark t A) A

-- the read-only offset that a look of slot t brings
abbrev pub looked_read_only : ℕ → Step → Option ℕ
looked_read_only t (Look u read_only head) = if u == t then Some read_only else None
looked_read_only t _ = None

-- the head that a look of slot t brings
abbrev pub looked_head : ℕ → Step → Option ℕ
looked_head t (Look u read_only head) = if u == t then Some head else None
looked_head t _ = None

-- an allocation of slot t
abbrev pub allocates : ℕ → Step → Bool
allocates t (Allocate u n) = u == t
allocates t _ = false

-- the read-only offset that slot t saw: that of its last look after its mark, or that of the list up to its
-- mark
unfoldable pub seen_read_only : ℕ → List Step → ℕ
seen_read_only t A = last_given (looked_read_only t) (read_only (up_to_mark t A)) (since_mark t A)

-- the head that slot t saw, likewise
unfoldable pub seen_head : ℕ → List Step → ℕ
seen_head t A = last_given (looked_head t) (head (up_to_mark t A)) (since_mark t A)

-- the tail that slot t saw: that of the list up to its mark, or up to its own last allocation, whichever is
-- later
unfoldable pub seen_tail : Sizes → ℕ → List Step → ℕ
seen_tail sizes t A = tail sizes (take (max (mark t A) (until_last (allocates t) A)) A)

-- the view of a protected slot
abbrev pub view_of : Sizes → ℕ → List Step → View
view_of sizes t A = record {
  read_only = seen_read_only t A;
  head = seen_head t A;
  tail = seen_tail sizes t A;
}

-- slot t's view, if it is protected
unfoldable pub slot_view : Sizes → ℕ → List Step → Option View
slot_view sizes t A = if is_protected t A then Some (view_of sizes t A) else None

-- the view of each slot, if it is protected
unfoldable pub slot_views : Sizes → List Step → List (Option View)
slot_views sizes A = map (λ t. slot_view sizes t A) (range_with_len 0 sizes.slots)
