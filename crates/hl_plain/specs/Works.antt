-- The two kinds of work on pages, and the marks of pages, as code names them.
use Rattle.std.specs.Prelude.{ℕ, max, ◌+◌, ◌/◌, nat_lt, ◌&&◌, ◌||◌, not, find, Bool, Option, Some, None, List, [], ◌∷◌}
use Rattle.std.specs.List.{range_with_len}
use Rattle.hl_plain.specs.declared.pages.Mark.{Mark as Made}
use Rattle.hl_plain.specs.declared.pages.Mark.TheVariants.{Out as Went, Back as Came}
use Rattle.hl_plain.specs.declared.pages.Work.{Work as Kind}
use Rattle.hl_plain.specs.declared.pages.Work.TheVariants.{Flushing, Cleaning}
use Rattle.hl_model.specs.declared.frame.Held.{Held}
use Rattle.hl_model.specs.declared.step.Step.{Step}
use Rattle.hl_model.specs.Lists.{greatest}
use Rattle.hl_model.specs.Settled.{pages_below}
use Rattle.hl_model.specs.Pages.{Mark, Out, Back, takes_to_flush, flush_of, flushes, takes_to_clean, clean_of, frees, flushes_below}
use Rattle.hl_model.specs.Bases.{Base, completed_in, marked_in, held_in}
use Rattle.hl_model.specs.AfterActions.{safe_read_only_after, closed_after}
use Rattle.hl_model.specs.AfterPages.{Begun, is_complete_after, flushing_after}

-- which steps take a page
abbrev pub takes_of : Kind → Step → Bool
takes_of Flushing s = takes_to_flush s
takes_of Cleaning s = takes_to_clean s

-- the page whose work a step ends
abbrev pub ends_of : Kind → Step → Option ℕ
ends_of Flushing s = flush_of s
ends_of Cleaning s = clean_of s

-- which steps complete a page
abbrev pub completes_of : Kind → ℕ → Step → Bool
completes_of Flushing p s = flushes p s
completes_of Cleaning p s = frees p s

-- the pages below this number are due
abbrev pub due_of : Base → Kind → List Step → ℕ
due_of b Flushing L = pages_below b.sizes (safe_read_only_after b L)
due_of b Cleaning L = pages_below b.sizes (closed_after b L)

-- a frame's mark that its page is complete
abbrev pub complete_mark : Kind → Held → Bool
complete_mark Flushing held = held.flushed
complete_mark Cleaning held = held.freed

-- a frame's mark that its page is out
abbrev pub out_mark : Kind → Held → Bool
out_mark Flushing held = held.in_flight
out_mark Cleaning held = held.cleaning

-- the work of a kind, which goes on from a base
abbrev pub begun_of : Base → Kind → Begun
begun_of b kind = record {
  work = record {
    takes = takes_of kind;
    ends = ends_of kind;
    completes = completes_of kind;
    due = due_of b kind;
  };
  complete = λ p. completed_in (complete_mark kind) p (held_in b p);
  out = λ p. marked_in (out_mark kind) p (held_in b p);
}

-- a mark, as the definitions have it
abbrev pub as_mark : Made → Mark
as_mark (Went p) = Out p
as_mark (Came p) = Back p

-- the mark, if there is one
abbrev pub marks_in : Option Made → List Mark
marks_in None = []
marks_in (Some mark) = as_mark mark ∷ []

-- no page from this one on is flushed: it is behind the base's tail and the greatest page flushed since
abbrev pub run_end : Base → List Step → ℕ
run_end b L = max (b.six.tail / b.sizes.page_size + 1) (greatest flushes_below L)

-- page p is looked for there, and is flushed
abbrev pub runs_at : Base → List Step → ℕ → Bool
runs_at b L p = nat_lt p (run_end b L) && is_complete_after (flushing_after b) p L

-- in a base, page p is out for work of a kind
abbrev pub out_in : Base → Kind → ℕ → Bool
out_in b kind p = marked_in (out_mark kind) p (held_in b p)

-- in a base, the pages below this number are due
abbrev pub due_in : Base → Kind → ℕ
due_in b Flushing = pages_below b.sizes b.six.safe_read_only
due_in b Cleaning = pages_below b.sizes b.six.closed

-- the page that a take names at a base
abbrev pub next_in : Base → Kind → Option ℕ
next_in b kind =
    find (λ p. not (completed_in (complete_mark kind) p (held_in b p) || out_in b kind p))
    (range_with_len 0 (due_in b kind))
