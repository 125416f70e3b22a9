-- That the stores of riders stay writes of their calls, or 0s of their sweeps, by each call of a domain.
use Rattle.std.specs.Prelude.{ℕ, ◌≡◌, ◌<◌, ◌≤◌, false, true, Some, None, List, [], ◌∷◌, ◌++◌, length}
use Rattle.std.specs.List.{AllByRecursion}
use Rattle.hl_model.specs.declared.slot.Slot.{Slot}
use Rattle.hl_model.specs.declared.step.Step.{Step}
use Rattle.hl_model.specs.declared.step.Step.TheVariants.{Acquire, Release, CleanTake, CleanDone}
use Rattle.hl_model.specs.declared.view.View.{View}
use Rattle.hl_model.specs.Offsets.{tail}
use Rattle.hl_model.specs.Pages.{clean_of, next_to_clean}
use Rattle.hl_model.specs.Replies.{IsAccepted}
use Rattle.hl_model.specs.Sizes.{Sizes}
use Rattle.hl_model.specs.Views.{slot_view}
use Rattle.hl_history.specs.declared.view.Entry.{Entry}
use Rattle.hl_history.specs.Lists.{left_by, IsOf}
use Rattle.hl_words.specs.declared.view.Known.{Known}
use Rattle.hl_words.specs.States.{RiderState, new_rider, with_view}
use Rattle.hl_words.specs.Views.{told}
use Rattle.hl_keeper.specs.Passes.{PassRecord, store_fault, with_store, with_change, with_load, with_look, with_news, with_rider, new_pass}
use Rattle.hl_keeper.specs.Pages.{first_cell, loaded_all, zeroed}
use Rattle.hl_keeper.specs.Touches.{AreTouches, is_call}
use Rattle.hl_domain.specs.Domains.{with_entry, with_held}
use Rattle.hl_images.specs.Entered.{is_touch, IsOneCall, newest_writes, AreEntered, IsSwept, FreesSwept, LoadsWithin, StoresEnter}

-- the stores of a rider that has no pass; and it loads cells that there are
pub record RiderEnters (sizes : Sizes) (r : RiderState) : Type 0 where
  pub entered : AreEntered sizes r.view.touches r.calls []
  pub frees : FreesSwept sizes r.view.touches r.calls
  pub calls : AllByRecursion (λ e. IsOneCall e.steps) r.calls
  pub within : LoadsWithin sizes r.view.touches

-- the stores of a pass's rider, where those of the pass's touches wait; the pass sees no tail above that of the list that
-- the newest call of its rider left
pub record PassEnters (sizes : Sizes) (p : PassRecord) : Type 0 where
  pub entered : AreEntered sizes p.rider.view.touches p.rider.calls (newest_writes p.touches [])
  pub frees : FreesSwept sizes p.rider.view.touches p.rider.calls
  pub calls : AllByRecursion (λ e. IsOneCall e.steps) p.rider.calls
  pub within : LoadsWithin sizes p.rider.view.touches
  pub touches : AreTouches p.slot p.held p.touches
  pub newest : Entry
  pub older : List Entry
  pub newest_is : p.rider.calls ≡ newest ∷ older
  pub sees : p.held.tail ≤ tail sizes (left_by newest)

-- it stays so by what a rider does, and at the end of all
pub record RidersStayEntered (sizes : Sizes) : Type 0 where
  pub new : (name : ℕ) → RiderEnters sizes (new_rider name)
  -- the copy of a page
  pub loads : (page : ℕ) (words : List ℕ) (r : RiderState) → length words ≡ sizes.page_size → RiderEnters sizes r
      → RiderEnters sizes (with_view (loaded_all (first_cell sizes page) words r.view) r)
  pub told : (past : Known) (r : RiderState) → RiderEnters sizes r
      → RiderEnters sizes (with_view (told past r.view) r)
  -- a call that makes one step, which frees no page
  pub call : (was now : ℕ) (list : List Step) (s : Step) (r : RiderState) → is_touch s ≡ false
      → clean_of s ≡ None → RiderEnters sizes r → RiderEnters sizes (with_entry was now list (s ∷ []) r)
  -- one that makes none
  pub refused : (was now : ℕ) (list : List Step) (r : RiderState) → RiderEnters sizes r
      → RiderEnters sizes (with_entry was now list [] r)
  -- one that takes a page to clean, and then its sweep
  pub sweeps : (was now : ℕ) (list : List Step) (page : ℕ) (r : RiderState)
      → next_to_clean sizes list ≡ Some page → RiderEnters sizes r
      → let taken = with_entry was now list (CleanTake ∷ []) r
      in let swept = with_view (zeroed (first_cell sizes page) sizes.page_size taken.view) taken
      in RiderEnters sizes swept
  -- the page is swept then
  pub swept : (was now : ℕ) (list : List Step) (page : ℕ) (r : RiderState)
      → next_to_clean sizes list ≡ Some page
      → let taken = with_entry was now list (CleanTake ∷ []) r
      in let swept = with_view (zeroed (first_cell sizes page) sizes.page_size taken.view) taken
      in IsSwept sizes page swept.view.touches swept.calls
  -- a call that frees a page that was swept
  pub frees : (was now : ℕ) (list : List Step) (page : ℕ) (r : RiderState)
      → IsSwept sizes page r.view.touches r.calls → RiderEnters sizes r
      → RiderEnters sizes (with_entry was now list (CleanDone page ∷ []) r)
  pub ends : (whole : List Step) (r : RiderState) → RiderEnters sizes r → StoresEnter sizes whole r

-- it stays so by what a pass does, from its acquire to its release
pub record PassesStayEntered (sizes : Sizes) : Type 0 where
  pub acquires : (was now : ℕ) (list : List Step) (t stamp : ℕ) (slot : Slot) (r : RiderState)
      → slot.view.tail ≤ tail sizes (list ++ Acquire t ∷ []) → RiderEnters sizes r
      → PassEnters sizes (new_pass t stamp slot (with_entry was now list (Acquire t ∷ []) r))
  pub stores : (a v : ℕ) (p : PassRecord) → store_fault p a ≡ None → PassEnters sizes p
      → PassEnters sizes (with_store sizes a v p)
  pub changes : (a found v : ℕ) (p : PassRecord) → store_fault p a ≡ None → PassEnters sizes p
      → PassEnters sizes (with_change sizes a found v p)
  pub loads : (a v : ℕ) (p : PassRecord) → PassEnters sizes p → PassEnters sizes (with_load sizes a v p)
  pub looks : (read_only head : ℕ) (p : PassRecord) → PassEnters sizes p
      → PassEnters sizes (with_look read_only head p)
  pub news : (read_only head ended : ℕ) (p : PassRecord) → PassEnters sizes p
      → PassEnters sizes (with_news read_only head ended p)
  -- a refresh or an allocation: the pass's touches and the step
  pub goes_on : (was now : ℕ) (list : List Step) (s : Step) (epoch : ℕ) (view : View) (p : PassRecord)
      → is_call s ≡ true → view.tail ≤ tail sizes (list ++ (p.touches ++ s ∷ [])) → PassEnters sizes p
      → PassEnters sizes
      (with_held epoch view (with_rider (with_entry was now list (p.touches ++ s ∷ []) p.rider) p))
  -- a call of the pass's rider that makes one step, which frees no page, while touches of the pass wait
  pub call : (was now : ℕ) (list : List Step) (s : Step) (p : PassRecord) → is_touch s ≡ false
      → clean_of s ≡ None → 0 < sizes.page_size → IsAccepted sizes (list ++ s ∷ []) → IsOf list p.rider.calls
      → PassEnters sizes p
      → PassEnters sizes (with_rider (with_entry was now list (s ∷ []) p.rider) p)
  -- a call that makes none
  pub refused : (was now : ℕ) (list : List Step) (p : PassRecord) → 0 < sizes.page_size
      → IsAccepted sizes list → IsOf list p.rider.calls → PassEnters sizes p
      → PassEnters sizes (with_rider (with_entry was now list [] p.rider) p)
  pub releases : (was now : ℕ) (list : List Step) (p : PassRecord) → PassEnters sizes p
      → RiderEnters sizes (with_entry was now list (p.touches ++ Release p.slot ∷ []) p.rider)
  -- a pass that was abandoned: its slot has the view that it held
  pub abandons : (whole : List Step) (p : PassRecord) → 0 < sizes.page_size → IsAccepted sizes whole
      → slot_view sizes p.slot whole ≡ Some p.held → PassEnters sizes p → StoresEnter sizes whole p.rider
