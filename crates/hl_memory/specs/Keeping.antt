-- That the acts of riders stay what they are, and their loads at open addresses, by each call of a domain.
use Rattle.std.specs.Prelude.{ℕ, ◌≡◌, ◌<◌, ◌≤◌, ◌⊎◌, false, true, Some, None, List, [], ◌∷◌, ◌++◌, length, map}
use Rattle.hl_model.specs.declared.slot.Slot.{Slot}
use Rattle.hl_model.specs.declared.step.Step.{Step}
use Rattle.hl_model.specs.declared.step.Step.TheVariants.{Acquire, Release}
use Rattle.hl_model.specs.declared.view.View.{View}
use Rattle.hl_model.specs.Offsets.{tail}
use Rattle.hl_model.specs.Pages.{clean_of}
use Rattle.hl_model.specs.Replies.{IsAccepted}
use Rattle.hl_model.specs.Settled.{closed}
use Rattle.hl_model.specs.Sizes.{Sizes}
use Rattle.hl_model.specs.Views.{slot_view}
use Rattle.hl_history.specs.Lists.{entry, IsOf}
use Rattle.hl_words.specs.declared.view.Known.{Known}
use Rattle.hl_words.specs.declared.view.Touch.{Touch}
use Rattle.hl_words.specs.declared.view.Touch.TheVariants.{Stored, Loaded, Changed, Called, Looked, Met}
use Rattle.hl_words.specs.declared.which.Which.TheVariants.{ReadOnly, Head, Ended, SafeReadOnly}
use Rattle.hl_words.specs.States.{RiderState, new_rider, with_view, extent_met, extent_left}
use Rattle.hl_words.specs.Views.{told, with_loaded}
use Rattle.hl_keeper.specs.Calls.{call_fault, refresh_fault}
use Rattle.hl_keeper.specs.Keepers.{KeeperState}
use Rattle.hl_keeper.specs.Passes.{PassRecord, store_fault, load_fault, with_store, with_change, with_load, with_look, with_news, with_rider, new_pass}
use Rattle.hl_keeper.specs.Touches.{is_call}
use Rattle.hl_domain.specs.Domains.{with_entry, with_held}
use Rattle.hl_images.specs.Entered.{is_touch, newest_writes, StoresEnter}
use Rattle.hl_images.specs.Kept.{RiderEnters, PassEnters}
use Rattle.hl_memory.specs.Acts.{in_cell, AreActs, AreActsOf}
use Rattle.hl_memory.specs.Memory.{AreOpen}

-- the act of a call that met this list and put these steps behind it
abbrev pub call_act : ℕ → ℕ → List Step → List Step → Touch
call_act was now list steps = Called (extent_met was (entry list steps)) (extent_left now (entry list steps))

-- the acts of a rider that has no pass, whose loads are all at open addresses
pub record RiderActs (sizes : Sizes) (r : RiderState) (acts : List Touch) : Type 0 where
  pub enters : RiderEnters sizes r
  pub touches : map (in_cell sizes) acts ≡ r.view.touches
  pub entered : AreActs sizes acts r.calls []
  pub opens : (low : ℕ) → AreOpen sizes acts r.calls low

-- the acts of a pass's rider, where those since its last call are at addresses that its view has
pub record PassActs (sizes : Sizes) (p : PassRecord) (acts : List Touch) : Type 0 where
  pub enters : PassEnters sizes p
  pub touches : map (in_cell sizes) acts ≡ p.rider.view.touches
  pub entered : AreActs sizes acts p.rider.calls (newest_writes p.touches [])
  pub opens : (low : ℕ) → low ≤ p.held.head → low ≤ p.held.read_only → AreOpen sizes acts p.rider.calls low

pub record ActsAreKept (sizes : Sizes) : Type 0 where
  pub new : (name : ℕ) → RiderActs sizes (new_rider name) []
  pub told : (past : Known) (r : RiderState) (acts : List Touch) → RiderActs sizes r acts
      → RiderActs sizes (with_view (told past r.view) r) (Met past.name (length past.touches) ∷ acts)
  -- a call of a rider without a pass that makes no step
  pub rests : (was now : ℕ) (list : List Step) (r : RiderState) (acts : List Touch) → RiderActs sizes r acts
      → RiderActs sizes (with_entry was now list [] r) (call_act was now list [] ∷ acts)
  pub acquires : (was now : ℕ) (list : List Step) (t stamp : ℕ) (slot : Slot) (r : RiderState)
      (acts : List Touch) → slot.view.tail ≤ tail sizes (list ++ Acquire t ∷ []) → RiderActs sizes r acts
      → PassActs sizes (new_pass t stamp slot (with_entry was now list (Acquire t ∷ []) r))
      (call_act was now list (Acquire t ∷ []) ∷ acts)
  pub stores : (a v : ℕ) (p : PassRecord) (acts : List Touch) → store_fault p a ≡ None → PassActs sizes p acts
      → PassActs sizes (with_store sizes a v p) (Stored a v ∷ acts)
  pub changes : (a found v : ℕ) (p : PassRecord) (acts : List Touch) → store_fault p a ≡ None
      → PassActs sizes p acts → PassActs sizes (with_change sizes a found v p) (Changed a found v ∷ acts)
  pub loads : (a v : ℕ) (p : PassRecord) (acts : List Touch) → load_fault p a ≡ None → PassActs sizes p acts
      → PassActs sizes (with_load sizes a v p) (Loaded a v ∷ acts)
  -- a compare and exchange that found another value
  pub compares : (a v : ℕ) (p : PassRecord) (acts : List Touch) → store_fault p a ≡ None
      → PassActs sizes p acts → PassActs sizes (with_load sizes a v p) (Loaded a v ∷ acts)
  pub looks : (read_only head : ℕ) (p : PassRecord) (acts : List Touch) → PassActs sizes p acts
      → PassActs sizes (with_look read_only head p) (Looked Head head ∷ Looked ReadOnly read_only ∷ acts)
  pub news : (read_only head ended : ℕ) (p : PassRecord) (acts : List Touch) → PassActs sizes p acts
      → PassActs sizes (with_news read_only head ended p)
      (Looked Ended ended ∷ Looked Head head ∷ Looked ReadOnly read_only ∷ acts)
  -- a load of the safe read-only offset, as `region` makes it
  pub safe_looks : (x : ℕ) (p : PassRecord) (acts : List Touch) → PassActs sizes p acts
      → PassActs sizes (with_rider (with_view (with_loaded SafeReadOnly x p.rider.view) p.rider) p)
      (Looked SafeReadOnly x ∷ acts)
  -- a refresh or an allocation, which met the slot with the view that the pass holds
  pub goes_on : (was now : ℕ) (list : List Step) (s : Step) (epoch : ℕ) (view : View) (p : PassRecord)
      (acts : List Touch) → 0 < sizes.page_size → is_call s ≡ true
      → view.tail ≤ tail sizes (list ++ (p.touches ++ s ∷ [])) → IsAccepted sizes list
      → slot_view sizes p.slot list ≡ Some p.held → PassActs sizes p acts
      → PassActs sizes
      (with_held epoch view (with_rider (with_entry was now list (p.touches ++ s ∷ []) p.rider) p))
      (call_act was now list (p.touches ++ s ∷ []) ∷ acts)
  -- a call of the pass's rider that makes one step, which frees no page, while touches of the pass wait
  pub call : (was now : ℕ) (list : List Step) (s : Step) (p : PassRecord) (acts : List Touch)
      → is_touch s ≡ false → clean_of s ≡ None → 0 < sizes.page_size → IsAccepted sizes (list ++ s ∷ [])
      → IsOf list p.rider.calls → PassActs sizes p acts
      → PassActs sizes (with_rider (with_entry was now list (s ∷ []) p.rider) p)
      (call_act was now list (s ∷ []) ∷ acts)
  -- a call that makes none
  pub refused : (was now : ℕ) (list : List Step) (p : PassRecord) (acts : List Touch) → 0 < sizes.page_size
      → IsAccepted sizes list → IsOf list p.rider.calls → PassActs sizes p acts
      → PassActs sizes (with_rider (with_entry was now list [] p.rider) p) (call_act was now list [] ∷ acts)
  pub releases : (was now : ℕ) (list : List Step) (p : PassRecord) (acts : List Touch) → 0 < sizes.page_size
      → IsAccepted sizes list → slot_view sizes p.slot list ≡ Some p.held → PassActs sizes p acts
      → RiderActs sizes (with_entry was now list (p.touches ++ Release p.slot ∷ []) p.rider)
      (call_act was now list (p.touches ++ Release p.slot ∷ []) ∷ acts)
  pub ends : (whole : List Step) (r : RiderState) (acts : List Touch) → RiderActs sizes r acts
      → AreActsOf sizes whole r acts × AreOpen sizes acts r.calls (closed whole)
  -- a pass that was abandoned: its slot has the view that it held
  pub abandons : (whole : List Step) (p : PassRecord) (acts : List Touch) → 0 < sizes.page_size
      → IsAccepted sizes whole → slot_view sizes p.slot whole ≡ Some p.held → PassActs sizes p acts
      → AreActsOf sizes whole p.rider acts × AreOpen sizes acts p.rider.calls (closed whole)

-- Whoever's stores are entered has acts, whatever addresses its loads had
abbrev pub ActsStand : Type 0
ActsStand = (sizes : Sizes) (whole : List Step) (r : RiderState) → 0 < sizes.page_size → 0 < sizes.frames
    → StoresEnter sizes whole r → (acts : List Touch) × AreActsOf sizes whole r acts

-- A call of a pass that meets no fault met the pass's slot with the view that the pass holds
abbrev pub CallsMeetView : Type 0 → Type 0
CallsMeetView F = (keeper : KeeperState F) (A : List Step) (p : PassRecord) (s : Step)
    → (call_fault keeper A p s ≡ None) ⊎ (refresh_fault keeper A p ≡ None)
    → slot_view keeper.core.sizes p.slot A ≡ Some p.held
