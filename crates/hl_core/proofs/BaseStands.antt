-- The base of a list, told by a core that stands there.
use Rattle.std.proofs.Common.{◌≡◌, ℕ, zero, suc, ◌<◌, ◌≤◌, false, is_some, List, [], ◌∷◌, ◌++◌, length, get_or, map, refl, sym, ap, ap₂, ◌∙◌, arith, zero-add, add-one}
use Rattle.std.specs.Prelude.{Option, Some, None, option_map, slice_get}
use Rattle.std.specs.List.{range_with_len}
use Rattle.std.proofs.lemmas.List.FromFn.{map-range_with_len_more, get_or-map-range_with_len}
use Rattle.std.proofs.lemmas.List.{length-map}
use Rattle.std.proofs.lemmas.Option.{slice_get-map}
use Rattle.hl_model.specs.declared.action.Waiting.{Waiting}
use Rattle.hl_model.specs.declared.frame.Held.{Held}
use Rattle.hl_model.specs.declared.slot.Slot.{Slot}
use Rattle.hl_model.specs.declared.step.Step.{Step}
use Rattle.hl_model.specs.declared.view.Six.{Six}
use Rattle.hl_model.specs.declared.view.View.{View}
use Rattle.hl_model.specs.Sizes.{Sizes}
use Rattle.hl_model.specs.Epochs.{is_protected, slot_epoch}
use Rattle.hl_model.specs.Views.{slot_view}
use Rattle.hl_model.specs.Snapshots.{six}
use Rattle.hl_model.specs.Bases.{Base, IsBase, slot_of, base_of}
use Rattle.hl_laws.proofs.CutReplies.{slot_of-protected}
use Rattle.hl_laws.proofs.EpochLaws.{slot_epochs-at, is_protected-slot_epoch, epoch_of-slot_epoch}
use Rattle.hl_laws.proofs.ViewLaws.{is_protected-slot_view, view_of-slot_view, slot_views-at, length-slot_views}
use Rattle.hl_epoch.specs.Table.{epoch_at}
use Rattle.hl_drain.specs.Actions.{waiting_of}
use Rattle.hl_frames.specs.Pages.{Pages, flushed_offset}
use Rattle.hl_offsets.specs.Log.{six_of}
use Rattle.hl_core.specs.Standing.{State, Stands, IsStanding}
use Rattle.hl_core.specs.Telling.{slot_with, slot_told, told}
use Rattle.hl_core.proofs.OffsetStands.{six_is}
use Rattle.hl_core.proofs.PageRows.{length-frames}

-- a slot that isn't protected has nothing
slot_of-free : (sizes : Sizes) (t : ℕ) (A : List Step) → is_protected t A ≡ false → slot_of sizes t A ≡ None
unfolding slot_of
slot_of-free sizes t A h = rw h refl

-- a base of these
abbrev parts : Sizes → ℕ → List (Option Slot) → List Waiting → List Waiting → Six → List (Option Held) → Base
parts sizes epoch slots waiting taken six frames = record { sizes = sizes; epoch = epoch; slots = slots; waiting = waiting; taken = taken; six = six; frames = frames }

parts_same : (z z' : Sizes) (e e' : ℕ) (s s' : List (Option Slot)) (w w' t t' : List Waiting) (x x' : Six) (f f' : List (Option Held)) → z ≡ z' → e ≡ e' → s ≡ s' → w ≡ w' → t ≡ t' → x ≡ x' → f ≡ f' → parts z e s w t x f ≡ parts z' e' s' w' t' x' f'
parts_same z z' e e' s s' w w' t t' x x' f f' hz he hs hw ht hx hf = cc

module _ {J : Type 0} (tag : J → ℕ) (core : State J) where
  -- the epoch of a slot
  pub epoch_is : (t : ℕ) (A : List Step) → Stands tag core A → t < core.sizes.slots → epoch_at t core.table ≡ slot_epoch t A
  epoch_is t A st lt = ap (epoch_at t) st.table_is ∙ slot_epochs-at core.sizes.slots A t None lt

  -- its view
  viewed : (t : ℕ) → t < core.sizes.slots → (A : List Step) → Stands tag core A → get_or core.views t None ≡ slot_view core.sizes t A
  viewed t lt A st = ap (λ views. get_or views t None) st.views_is ∙ slot_views-at core.sizes A t None lt

  -- what the parts tell of a slot below S: it has no epoch; no view; both
  pub no_epoch : (t : ℕ) → t < core.sizes.slots → None ≡ epoch_at t core.table → (A : List Step) → Stands tag core A → None ≡ slot_of core.sizes t A
  no_epoch t lt h A st = sym (slot_of-free core.sizes t A (is_protected-slot_epoch t A ∙ ap is_some (sym (epoch_is t A st lt) ∙ sym h)))

  pub no_view : (t : ℕ) → ((A : List Step) → Stands tag core A → None ≡ slot_view core.sizes t A) → (A : List Step) → Stands tag core A → None ≡ slot_of core.sizes t A
  no_view t h A st = sym (slot_of-free core.sizes t A (is_protected-slot_view core.sizes t A ∙ ap is_some (sym (h A st))))

  pub both_told : (t epoch : ℕ) (view : View) → t < core.sizes.slots → Some epoch ≡ epoch_at t core.table → ((A : List Step) → Stands tag core A → Some view ≡ slot_view core.sizes t A) → (A : List Step) → Stands tag core A → Some (record { epoch = epoch; view = view }) ≡ slot_of core.sizes t A
  both_told t epoch view lt h k A st =
      let is : slot_epoch t A ≡ Some epoch = sym (epoch_is t A st lt) ∙ sym h in
      sym (slot_of-protected core.sizes t A (is_protected-slot_epoch t A ∙ ap is_some is) ∙ ap₂ (λ e v. Some (record { epoch = e; view = v })) (epoch_of-slot_epoch t A epoch is) (view_of-slot_view core.sizes t A view (sym (k A st))))

  -- so what they tell of it is what it has
  told_with : (t : ℕ) (o : Option ℕ) (v : Option View) → t < core.sizes.slots → o ≡ epoch_at t core.table → v ≡ get_or core.views t None → (A : List Step) → Stands tag core A → slot_with o v ≡ slot_of core.sizes t A
  told_with t None v lt e w A st = no_epoch t lt e A st
  told_with t (Some epoch) None lt e w A st = no_view t (λ B sb. w ∙ viewed t lt B sb) A st
  told_with t (Some epoch) (Some view) lt e w A st = both_told t epoch view lt e (λ B sb. w ∙ viewed t lt B sb) A st

  -- the slots up to one
  abbrev SlotsTo : ℕ → Type 0
  SlotsTo n = (A : List Step) → Stands tag core A → map (slot_told core) (range_with_len 0 n) ≡ map (λ t. slot_of core.sizes t A) (range_with_len 0 n)

  slots_to : (n : ℕ) → n ≤ core.sizes.slots → SlotsTo n
  slots_to zero le A st = refl
  slots_to (suc n) le A st =
      ap (λ m. map (slot_told core) (range_with_len 0 m)) (sym (add-one n))
      ∙ map-range_with_len_more (slot_told core) 0 n n (zero-add n)
      ∙ ap₂ (λ xs x. xs ++ x ∷ []) (slots_to n (omega arith) A st) (told_with n _ _ (omega arith) refl refl A st)
      ∙ sym (map-range_with_len_more (λ i. slot_of core.sizes i A) 0 n n (zero-add n))
      ∙ ap (λ m. map (λ i. slot_of core.sizes i A) (range_with_len 0 m)) (add-one n)

  -- all parts are the base
  pub told_is : (A : List Step) → Stands tag core A → told tag core ≡ base_of core.sizes A
  unfolding told base_of
  told_is A st =
      parts_same _ _ _ _ _ _ _ _ _ _ _ _ _ _ refl (ap (λ table. table.current) st.table_is) (slots_to core.sizes.slots (omega arith) A st) st.pending_is st.taken_is (six_is tag core _ _ refl refl A st) (ap (λ (p : Pages). p.frames) st.pages_is)

  -- so they are that of some accepted list
  pub told_base : IsStanding tag core → IsBase (told tag core)
  unfolding told
  told_base (A, st) = record { steps = A; accepted = st.accepted; is = told_is A st }

  -- their sizes
  pub told_sizes : (told tag core).sizes ≡ core.sizes
  unfolding told
  told_sizes = refl

  -- a slot has a view's place, and a frame is there
  pub slot_within : (t : ℕ) → IsStanding tag core → t < (told tag core).sizes.slots → t < length core.views
  unfolding told
  slot_within t (A, st) lt = omega (arith, lt, ap length st.views_is, length-slot_views core.sizes A)

  pub frame_within : (f : ℕ) → IsStanding tag core → f < (told tag core).sizes.frames → f < length core.pages.frames
  unfolding told
  frame_within f (A, st) lt = omega (arith, lt, ap (λ (p : Pages). length p.frames) st.pages_is, length-frames core.sizes A)

  -- each of them
  pub slot_at : (t : ℕ) (o : Option ℕ) (v : Option View) → t < (told tag core).sizes.slots → o ≡ epoch_at t core.table → v ≡ get_or core.views t None → slot_with o v ≡ get_or (told tag core).slots t None
  unfolding told
  slot_at t o v lt e w = ap₂ slot_with e w ∙ sym (get_or-map-range_with_len (slot_told core) 0 core.sizes.slots t t None lt (zero-add t))

  pub waiting_at : (n : ℕ) → option_map (waiting_of tag) (slice_get core.drain.pending n) ≡ slice_get (told tag core).waiting n
  unfolding told
  waiting_at n = sym (slice_get-map (waiting_of tag) core.drain.pending n)

  pub told_epoch : core.table.current ≡ (told tag core).epoch
  unfolding told
  told_epoch = refl

  pub told_count : length core.drain.pending ≡ length (told tag core).waiting
  unfolding told
  told_count = sym (simp length-map)

  pub told_taken : core.drain.taken ≡ (told tag core).taken
  unfolding told
  told_taken = refl

  pub told_six : six_of core.offsets (flushed_offset core.pages) ≡ (told tag core).six
  unfolding told
  told_six = refl

  pub told_frames : core.pages.frames ≡ (told tag core).frames
  unfolding told
  told_frames = refl
