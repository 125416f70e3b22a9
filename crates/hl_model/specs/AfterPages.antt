-- Pages and frames of a base and the steps since.
use Rattle.std.specs.Prelude.{ℕ, max, ◌+◌, ◌*◌, ◌/◌, ◌%◌, ◌==◌, nat_lt, Bool, ◌&&◌, ◌||◌, not, if◌then◌else◌, Option, option_map, List, find}
use Rattle.std.specs.List.{list_any, range_with_len, prefix_len}
use Rattle.hl_model.specs.declared.frame.Held.{Held}
use Rattle.hl_model.specs.declared.step.Step.{Step}
use Rattle.hl_model.specs.Lists.{unroll, greatest, greatest_below}
use Rattle.hl_model.specs.Settled.{pages_below}
use Rattle.hl_model.specs.Pages.{Work, Mark, goes_out, comes_back, is_out, is_complete, mark_if, flushing, cleaning, flushes_below}
use Rattle.hl_model.specs.Pages.Mark.{Out, Back}
use Rattle.hl_model.specs.Bases.{Base, flushed_in, freed_in, in_flight_in, cleaning_in}
use Rattle.hl_model.specs.AfterOffsets.{tail_after}
use Rattle.hl_model.specs.AfterActions.{safe_read_only_after, closed_after}

-- work that goes on from a base: the work, and which pages are complete and which are out in the base
pub record Begun : Type 0 where
  pub work : Work
  pub complete : ℕ → Bool
  pub out : ℕ → Bool

-- page p is complete: by the steps, or in the base
unfoldable pub is_complete_after : Begun → ℕ → List Step → Bool
is_complete_after begun p L = begun.complete p || is_complete begun.work p L

-- page p is out: by its marks since the base where there are any, else as in the base
unfoldable pub is_out_after : Begun → ℕ → List Mark → Bool
is_out_after begun p marks =
    if list_any (λ mark. goes_out p mark || comes_back p mark) marks then is_out p marks else begun.out p

-- the least page that is due and neither complete nor out
unfoldable pub next_page_after : Begun → List Step → List Mark → Option ℕ
next_page_after begun L marks =
    find (λ p. not (is_complete_after begun p L || is_out_after begun p marks))
    (range_with_len 0 (begun.work.due L))

-- the mark that a step makes, told the steps before it since the base and their marks
abbrev pub marks_after_step : Begun → List Step → List Mark → Step → List Mark
marks_after_step begun L marks s =
    if begun.work.takes s then mark_if Out (next_page_after begun L marks)
    else mark_if Back (begun.work.ends s)

-- all marks of some work since the base
unfoldable pub marks_after : Begun → List Step → List Mark
marks_after begun L = unroll (marks_after_step begun) L

-- the page that a take names
abbrev pub next_after : Begun → List Step → Option ℕ
next_after begun L = next_page_after begun L (marks_after begun L)

-- flushing that goes on from a base
abbrev pub flushing_after : Base → Begun
flushing_after b = record {
  work = record (flushing b.sizes) { due = λ L. pages_below b.sizes (safe_read_only_after b L) };
  complete = flushed_in b;
  out = in_flight_in b;
}

-- cleaning that goes on from a base
abbrev pub cleaning_after : Base → Begun
cleaning_after b = record {
  work = record (cleaning b.sizes) { due = λ L. pages_below b.sizes (closed_after b L) };
  complete = freed_in b;
  out = cleaning_in b;
}

-- how many pages 0, 1, 2 and so on are flushed, none left out; none is beyond the base's tail and the
-- greatest page flushed since
unfoldable pub flushed_run_after : Base → List Step → ℕ
flushed_run_after b L =
    prefix_len (λ p. is_complete_after (flushing_after b) p L)
    (range_with_len 0 (max (b.six.tail / b.sizes.page_size + 1) (greatest flushes_below L)))

-- the flushed offset
abbrev pub flushed_after : Base → List Step → ℕ
flushed_after b L = b.sizes.page_size * flushed_run_after b L

-- the greatest entered page of frame f, if there is one: a page is entered where it begins below the tail
unfoldable pub last_entered_after : Base → ℕ → List Step → Option ℕ
last_entered_after b f L =
    greatest_below (λ p. nat_lt (p * b.sizes.page_size) (tail_after b L) && p % b.sizes.frames == f)
    (tail_after b L / b.sizes.page_size + 1)

-- a page with its marks
abbrev pub marked_after : Base → List Step → ℕ → Held
marked_after b L p = record {
  page = p;
  flushed = is_complete_after (flushing_after b) p L;
  in_flight = is_out_after (flushing_after b) p (marks_after (flushing_after b) L);
  freed = is_complete_after (cleaning_after b) p L;
  cleaning = is_out_after (cleaning_after b) p (marks_after (cleaning_after b) L);
}

-- what frame f holds: its last entered page, with its marks
abbrev pub held_after : Base → List Step → ℕ → Option Held
held_after b L f = option_map (marked_after b L) (last_entered_after b f L)
