-- What an acquire makes of a keeper and of its stamps.
use Rattle.std.proofs.Common.{◌≡◌, ℕ, ◌+◌, ◌%◌, ◌^◌, ◌≤◌, List, [], ◌∷◌, ◌++◌, set, refl, sym, ap, ap₂, ◌∙◌, arith}
use Rattle.std.proofs.Math.Nat.{mod-eq_of_lt}
use Rattle.hl_model.specs.declared.slot.Slot.{Slot}
use Rattle.hl_model.specs.declared.step.Reply.TheVariants.{Entered}
use Rattle.hl_model.specs.declared.step.Step.{Step}
use Rattle.hl_model.specs.declared.step.Step.TheVariants.{Acquire}
use Rattle.hl_model.specs.declared.view.View.{View}
use Rattle.hl_model.specs.Epochs.{epoch_of}
use Rattle.hl_model.specs.Views.{view_of}
use Rattle.hl_model.specs.Sizes.{Sizes}
use Rattle.hl_action.specs.Jobs.{KeptRecord}
use Rattle.hl_words.specs.States.{MasterState, RiderState}
use Rattle.hl_core.specs.Standing.{State}
use Rattle.hl_core.specs.Steps.{entered_reply}
use Rattle.hl_pass.specs.declared.stamps.Stamps.{Stamps}
use Rattle.hl_pass.specs.Stamps.{next_given, next_stamp, IsGiven}
use Rattle.hl_keeper.specs.Passes.{PassRecord, new_pass, with_share}
use Rattle.hl_keeper.specs.Journals.{JournalState}
use Rattle.hl_keeper.specs.Keepers.{KeeperState, KeeperStands}
use Rattle.hl_keeper.specs.Stamps.{acquires_in, slot_stamps}
use Rattle.hl_keeper.specs.Calls.{slot_after, acquired_pass}
use Rattle.hl_keeper.specs.Parts.{keeper_of}
use Rattle.hl_keeper.proofs.KeeperLaws.{Stamped}
use Rattle.hl_keeper.proofs.StampLaws.{acquires_in-le, acquires_in-acquire, slot_stamps-acquire}
use Rattle.hl_keeper.proofs.SlotLaws.{entered_is}

module _ {F : Type 0} (core : State (KeptRecord F)) (journal : JournalState) (stamps : Stamps) (master : MasterState) (A : List Step) (t : ℕ) (st : KeeperStands (keeper_of core journal stamps master) A) where
  abbrev B : List Step
  B = A ++ Acquire t ∷ []

  -- no stamp is too great, so the stamp that the acquire gives is no less than it is counted
  pub stamp_given : (next_given stamps ≡ stamps.given + 1) × (next_stamp stamps ≡ stamps.own + (stamps.given + 1))
  stamp_given =
      let most : stamps.given ≤ 2 ^ 62 = omega (arith, st.acquired_is, acquires_in-le A, st.total_is, st.total_most) in
      let own : stamps.own ≤ 2 ^ 62 = st.stamp_most in
      let next : next_given stamps ≡ stamps.given + 1 = mod-eq_of_lt (omega (arith, most)) in
      (next, ap (λ n. (stamps.own + n) % 2 ^ 64) next ∙ mod-eq_of_lt (omega (arith, most, own)))

  -- the row then, as contracts see it
  pub row_given : (row : List ℕ) → row ≡ set stamps.row.items t (next_stamp stamps) → row ≡ set stamps.row.items t (stamps.own + stamps.given + 1)
  row_given row is = is ∙ ap (set stamps.row.items t) (stamp_given.1 ∙ omega arith)

  -- the count then
  count_given : stamps.given + 1 ≡ acquires_in B
  count_given = ap (λ n. n + 1) st.acquired_is ∙ sym (acquires_in-acquire A t)

  -- the count and the row are those of the list with the acquire
  pub acquire_stamped : (new : KeeperState F) (stamps' : Stamps) → IsGiven stamps t stamps' → new.stamps ≡ stamps'.row.items → new.stamp ≡ stamps'.own → new.acquired ≡ stamps'.given → new.core.sizes ≡ core.sizes → Stamped new B
  acquire_stamped new stamps' given row own acquired sizes = record {
    count = acquired ∙ given.given ∙ stamp_given.0 ∙ count_given;
    row = row ∙ given.row ∙ ap₂ (λ (r : List ℕ) (n : ℕ). set r t n) st.stamps_are (stamp_given.1 ∙ ap (λ n. stamps.own + n) count_given)
        ∙ sym (slot_stamps-acquire core.sizes.slots stamps.own A t) ∙ ap₂ (λ (z : Sizes) (n : ℕ). slot_stamps z.slots n B) (sym sizes) (sym (own ∙ given.own));
  }

  -- its pass has the slot's stamp and view
  pub acquire_pass : (slot : Slot) (rider after : RiderState) (pass : PassRecord) → entered_reply slot ≡ Entered (epoch_of t B) (view_of core.sizes t B) → after ≡ with_share 1 rider → pass ≡ new_pass t (next_stamp stamps) slot after → pass ≡ acquired_pass (keeper_of core journal stamps master) t rider A
  acquire_pass slot rider after pass told r p =
      p ∙ ap (λ (n : ℕ). new_pass t n slot after) (stamp_given.1 ∙ ap (λ n. stamps.own + n) count_given) ∙ ap₂ (λ (w : Slot) (q : RiderState). new_pass t (stamps.own + acquires_in B) w q) at r
    where
      at : slot ≡ slot_after core.sizes t B
      at =
          let parts = entered_is (entered_reply slot) slot.epoch (epoch_of t B) slot.view (view_of core.sizes t B) told refl in
          ap₂ (λ (e : ℕ) (v : View). let q : Slot = record { epoch = e; view = v } in q) parts.0 parts.1
