-- The text of a report.
use Rattle.std.specs.Prelude.{ℕ, ◌-◌, ◌&&◌, nat_le, Bool, List, [], ◌∷◌, ◌++◌, length, map, replicate, slice_index, codes, decimal}
use Rattle.std.specs.List.{flat_map, list_all}
use Rattle.std.specs.Borrow.{Bor}
use Rattle.std.specs.Char.{is_ascii}
use Rattle.hl_model.specs.declared.snapshot.Snapshot.{Snapshot}

-- a text left in so many places filled with spaces
abbrev pub left_in : ℕ → List ℕ → List ℕ
left_in places text = text ++ replicate (places - length text) 32

-- a text right in so many places filled with spaces
abbrev pub right_in : ℕ → List ℕ → List ℕ
right_in places text = replicate (places - length text) 32 ++ text

-- a line: a label left in 16 places, a number in decimal right in 20, and the line's end
unfoldable pub line_of : List ℕ × ℕ → List ℕ
line_of line = left_in 16 line.0 ++ (right_in 20 (decimal line.1) ++ 10 ∷ [])

-- whether a label has at most 16 characters, all of them ASCII
abbrev pub is_label : List ℕ → Bool
is_label label = nat_le (length label) 16 && list_all is_ascii label

-- a line for each label and its number
abbrev pub lines_of : List (Bor (List ℕ) × ℕ) → List ℕ
lines_of lines = flat_map line_of (map (λ line. (line.0.now, line.1)) lines)

-- the labels in order with their numbers; last stand the accepted steps since the last cut, and those cut
abbrev pub lines : Snapshot → ℕ → ℕ → List (List ℕ × ℕ)
lines now steps cut =
    (codes "epoch", now.epoch)
    ∷ (codes "safe", now.safe)
    ∷ (codes "protected", now.protected)
    ∷ (codes "pending", now.pending)
    ∷ (codes "taken", now.taken)
    ∷ (codes "closed_at", now.six.closed)
    ∷ (codes "head", now.six.head)
    ∷ (codes "flushed_to", now.six.flushed)
    ∷ (codes "safe_read_only", now.six.safe_read_only)
    ∷ (codes "read_only", now.six.read_only)
    ∷ (codes "tail", now.six.tail)
    ∷ (codes "open", slice_index now.frames 0)
    ∷ (codes "sealed", slice_index now.frames 1)
    ∷ (codes "flushed", slice_index now.frames 2)
    ∷ (codes "closed", slice_index now.frames 3)
    ∷ (codes "free", slice_index now.frames 4)
    ∷ (codes "steps", steps)
    ∷ (codes "cut", cut)
    ∷ []

-- the report
abbrev pub report_text : Snapshot → ℕ → ℕ → List ℕ
report_text now steps cut = flat_map line_of (lines now steps cut)
