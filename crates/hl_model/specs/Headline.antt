-- The headline, of one list of steps; but for its replies and quantities, which a core's `run` tells. That it
-- holds of every accepted list is the law `headline`.
use Rattle.std.specs.Prelude.{ℕ, ◌≡◌, ◌+◌, ◌-◌, ◌/◌, ◌<◌, ◌≤◌, ◌⊎◌, ◌==◌, Bool, true, false, Result, Ok, List, [], ◌∷◌, ◌++◌, map}
use Rattle.std.specs.List.{list_any, AllPairs}
use Rattle.hl_model.specs.declared.fault.Fault.{Fault}
use Rattle.hl_model.specs.declared.step.Reply.{Reply}
use Rattle.hl_model.specs.declared.step.Reply.TheVariants.{Taken}
use Rattle.hl_model.specs.declared.step.Step.{Step}
use Rattle.hl_model.specs.declared.step.Step.TheVariants.{Refresh, Release, Take, Allocate, Write}
use Rattle.hl_model.specs.Lists.{gather}
use Rattle.hl_model.specs.Sizes.{Sizes}
use Rattle.hl_model.specs.Epochs.{is_bump, is_protected}
use Rattle.hl_model.specs.Actions.{bumps, front, ever_taken}
use Rattle.hl_model.specs.Offsets.{tail, place_of, is_entered}
use Rattle.hl_model.specs.Settled.{safe_read_only, closed}
use Rattle.hl_model.specs.Views.{seen_read_only, seen_head}
use Rattle.hl_model.specs.Pages.{is_flushed, is_in_flight}
use Rattle.hl_model.specs.Words.{word}
use Rattle.hl_model.specs.Reach.{Reaches}
use Rattle.hl_model.specs.Replies.{reply_of}

-- the ticket that a take was answered
abbrev pub ticket_told : Result Reply Fault → List ℕ
ticket_told (Ok (Taken c)) = c ∷ []
ticket_told _ = []

-- the tickets that the takes of a list were answered, in order
unfoldable pub tickets_told : Sizes → List Step → List ℕ
tickets_told sizes A = gather (λ before s. ticket_told (reply_of sizes before s)) A

-- a step by which slot t refreshes or leaves
abbrev pub moves_on : ℕ → Step → Bool
moves_on t (Refresh u) = u == t
moves_on t (Release u) = u == t
moves_on t _ = false

-- where a record of n words is placed after the list A
abbrev pub placed : Sizes → List Step → ℕ → ℕ
placed sizes A n = place_of sizes.page_size (tail sizes A) n

-- what is promised of a list of steps, wherever it is cut
pub record Headline (sizes : Sizes) (A : List Step) : Type 0 where
  -- the takes name the tickets of the first actions in their order, none left out
  pub taken_in_order : tickets_told sizes A ≡ map (λ w. w.ticket) (ever_taken A)
  -- an action is taken at most once: the tickets named rise
  pub taken_once : AllPairs (λ earlier later. earlier < later) (tickets_told sizes A)
  -- where the ticket of the bump s, its number, is taken, each slot that was protected before the bump has
  -- refreshed or left between the two
  pub taken_after_all_moved_on : (X : List Step) (s : Step) (Y Z : List Step) (t : ℕ)
      → A ≡ (X ++ s ∷ Y) ++ Take ∷ Z → is_bump s ≡ true → front (X ++ s ∷ Y) ≡ bumps X + 1
      → is_protected t X ≡ true → list_any (moves_on t) Y ≡ true
  -- no accepted write lies below the safe read-only offset
  pub written_above_safe_read_only : (X : List Step) (t a v : ℕ) (Y : List Step) → A ≡ X ++ Write t a v ∷ Y
      → safe_read_only X ≤ a
  -- where an allocation enters a page in a used frame, no protected slot reaches the page that was there
  pub none_reaches_reused : (X : List Step) (t n : ℕ) (Y : List Step) (u : ℕ) → A ≡ X ++ Allocate t n ∷ Y
      → is_entered sizes (placed sizes X n / sizes.page_size) X ≡ false
      → sizes.frames ≤ placed sizes X n / sizes.page_size
      → Reaches sizes u (placed sizes X n / sizes.page_size - sizes.frames) X → ⊥
  -- what a protected slot saw isn't below what is settled
  pub views_bounded : (X Y : List Step) (t : ℕ) → A ≡ X ++ Y → is_protected t X ≡ true
      → (safe_read_only X ≤ seen_read_only t X) × (closed X ≤ seen_head t X)
  -- each record is placed on one page
  pub placed_on_one_page : (X : List Step) (t n : ℕ) (Y : List Step) → A ≡ X ++ Allocate t n ∷ Y
      → placed sizes X n / sizes.page_size ≡ (placed sizes X n + n - 1) / sizes.page_size
  -- of two records the later one is placed behind the earlier one's last word
  pub placed_apart : (X : List Step) (t n : ℕ) (Y : List Step) (u m : ℕ) (Z : List Step)
      → A ≡ (X ++ Allocate t n ∷ Y) ++ Allocate u m ∷ Z
      → placed sizes X n + n ≤ placed sizes (X ++ Allocate t n ∷ Y) m
  -- from a page's flush take on its words stay
  pub taken_words_stay : (X Y : List Step) (a : ℕ) → A ≡ X ++ Y
      → (is_in_flight sizes (a / sizes.page_size) X ≡ true)
      ⊎ (is_flushed sizes (a / sizes.page_size) X ≡ true)
      → word a A ≡ word a X
