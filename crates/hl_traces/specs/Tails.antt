-- What the records of one trace tell of the tail.
use Rattle.std.specs.Prelude.{ℕ, ◌≡◌, ◌<◌, ◌+◌, ◌-◌, ◌%◌, List, [], ◌∷◌}
use Rattle.std.specs.List.{AllByRecursion, sum_by}
use Rattle.hl_traces.specs.declared.act.Act.{Act}
use Rattle.hl_traces.specs.declared.act.Act.TheVariants.{Placed}
use Rattle.hl_traces.specs.OneTrace.{ActBy, placed_end, AreInRow, AreOne, EndsBelow}

-- how many words the act placed
abbrev pub words_of : Act → ℕ
words_of (Placed a n) = n
words_of _ = 0

-- how many words all records have
abbrev pub words_placed : List ActBy → ℕ
words_placed all = sum_by (λ t. words_of t.act) all

-- how many words lie between the end of the records before, which is this, and the record that the act placed
abbrev pub skipped_by : ℕ → Act → ℕ
skipped_by end (Placed a n) = a - end
skipped_by end _ = 0

-- how many words were skipped in all, where a page had no room for the next record
abbrev pub words_skipped : List ActBy → ℕ
words_skipped [] = 0
words_skipped (t ∷ before) = skipped_by (placed_end before) t.act + words_skipped before

-- In one trace no record ends above the newest, and that one ends at the sum of all lengths and of what was skipped. So does
-- the log's tail, which is its end
abbrev pub TailIsTheSum : Type 0
TailIsTheSum = (all : List ActBy) → AreOne all → AllByRecursion (λ t. EndsBelow (placed_end all) t.act) all
    × (placed_end all ≡ words_placed all + words_skipped all)

-- if the act placed a record, it has this length
abbrev pub HasLength : ℕ → Act → Type 0
HasLength n (Placed a m) = m ≡ n
HasLength n _ = Unit {0}

-- Where all records have one length, of which a page has room for a whole number, nothing is skipped
abbrev pub NoneAreSkipped : Type 0
NoneAreSkipped = (all : List ActBy) (page_size n : ℕ) → 0 < page_size → page_size % n ≡ 0
    → AreInRow page_size all → AllByRecursion (λ t. HasLength n t.act) all → words_skipped all ≡ 0
