-- Which pages are flushed, in flight, freed and being cleaned. Flushing sealed pages and cleaning closed ones
-- are the same kind of work.
use Rattle.std.specs.Prelude.{ℕ, ◌+◌, ◌*◌, ◌==◌, nat_lt, Bool, true, false, ◌&&◌, ◌||◌, not, if◌then◌else◌, Option, Some, None, List, [], ◌∷◌, find}
use Rattle.std.specs.List.{list_any, range_with_len, prefix_len}
use Rattle.hl_model.specs.declared.step.Step.{Step}
use Rattle.hl_model.specs.declared.step.Step.TheVariants.{FlushTake, FlushDone, CleanTake, CleanDone}
use Rattle.hl_model.specs.Lists.{until_last, unroll, greatest}
use Rattle.hl_model.specs.Sizes.{Sizes}
use Rattle.hl_model.specs.Settled.{safe_read_only, closed, pages_below}

-- work on pages: which steps take a page, the page whose work a step ends, which steps complete a page, and
-- the pages that are due in a list: those below a number
pub record Work : Type 0 where
  pub takes : Step → Bool
  pub ends : Step → Option ℕ
  pub completes : ℕ → Step → Bool
  pub due : List Step → ℕ

-- what a step does to a page: a take names the page that goes out to be worked on, a done the page that comes
-- back
pub data Mark : Type 0 where
  Out : ℕ → Mark
  Back : ℕ → Mark

-- the mark by which page p goes out
abbrev pub goes_out : ℕ → Mark → Bool
goes_out p (Out q) = q == p
goes_out p (Back q) = false

-- the mark by which page p comes back
abbrev pub comes_back : ℕ → Mark → Bool
comes_back p (Out q) = false
comes_back p (Back q) = q == p

-- page p is out: the last of its marks is there, and is no return
unfoldable pub is_out : ℕ → List Mark → Bool
is_out p marks = nat_lt (until_last (comes_back p) marks) (until_last (goes_out p) marks)

-- the work on page p is complete
unfoldable pub is_complete : Work → ℕ → List Step → Bool
is_complete work p A = list_any (work.completes p) A

-- the least page that is due and neither complete nor out
unfoldable pub next_page : Work → List Step → List Mark → Option ℕ
next_page work A marks =
    find (λ p. not (is_complete work p A || is_out p marks)) (range_with_len 0 (work.due A))

-- a page's mark, if there is a page
abbrev pub mark_if : (ℕ → Mark) → Option ℕ → List Mark
mark_if mark None = []
mark_if mark (Some p) = mark p ∷ []

-- the mark that a step makes, told the steps before it and their marks
abbrev pub marks_of : Work → List Step → List Mark → Step → List Mark
marks_of work A marks s =
    if work.takes s then mark_if Out (next_page work A marks) else mark_if Back (work.ends s)

-- all marks of some work
unfoldable pub marks : Work → List Step → List Mark
marks work A = unroll (marks_of work) A

-- a step that takes a page to flush
abbrev pub takes_to_flush : Step → Bool
takes_to_flush FlushTake = true
takes_to_flush _ = false

-- the page whose flush ended, well or not
abbrev pub flush_of : Step → Option ℕ
flush_of (FlushDone page ok) = Some page
flush_of _ = None

-- a step by which page p is flushed
abbrev pub flushes : ℕ → Step → Bool
flushes p (FlushDone page ok) = page == p && ok
flushes p _ = false

-- flushing: sealed pages are due, which are those below a number of pages
abbrev pub flushing : Sizes → Work
flushing sizes = record {
  takes = takes_to_flush;
  ends = flush_of;
  completes = flushes;
  due = λ A. pages_below sizes (safe_read_only A);
}

-- a step that takes a page to clean
abbrev pub takes_to_clean : Step → Bool
takes_to_clean CleanTake = true
takes_to_clean _ = false

-- the page whose cleaning ended
abbrev pub clean_of : Step → Option ℕ
clean_of (CleanDone page) = Some page
clean_of _ = None

-- a step by which page p is freed
abbrev pub frees : ℕ → Step → Bool
frees p (CleanDone page) = page == p
frees p _ = false

-- cleaning: closed pages are due
abbrev pub cleaning : Sizes → Work
cleaning sizes = record {
  takes = takes_to_clean;
  ends = clean_of;
  completes = frees;
  due = λ A. pages_below sizes (closed A);
}

-- page p is flushed
abbrev pub is_flushed : Sizes → ℕ → List Step → Bool
is_flushed sizes p A = is_complete (flushing sizes) p A

-- page p is in flight
abbrev pub is_in_flight : Sizes → ℕ → List Step → Bool
is_in_flight sizes p A = is_out p (marks (flushing sizes) A)

-- page p is freed
abbrev pub is_freed : Sizes → ℕ → List Step → Bool
is_freed sizes p A = is_complete (cleaning sizes) p A

-- page p is being cleaned
abbrev pub is_cleaning : Sizes → ℕ → List Step → Bool
is_cleaning sizes p A = is_out p (marks (cleaning sizes) A)

-- the page that a flush take names
abbrev pub next_to_flush : Sizes → List Step → Option ℕ
next_to_flush sizes A = next_page (flushing sizes) A (marks (flushing sizes) A)

-- the page that a clean take names
abbrev pub next_to_clean : Sizes → List Step → Option ℕ
next_to_clean sizes A = next_page (cleaning sizes) A (marks (cleaning sizes) A)

-- one past a page that a step flushes
abbrev pub flushes_below : Step → ℕ
flushes_below (FlushDone page true) = page + 1
flushes_below _ = 0

-- how many pages 0, 1, 2 and so on are flushed, none left out; none is beyond the greatest flushed page
unfoldable pub flushed_run : Sizes → List Step → ℕ
flushed_run sizes A = prefix_len (λ p. is_flushed sizes p A) (range_with_len 0 (greatest flushes_below A))

-- the flushed offset (FASTER's flushed-until address, section on the HybridLog)
abbrev pub flushed : Sizes → List Step → ℕ
flushed sizes A = sizes.page_size * flushed_run sizes A
