-- The worked example, computed.
use Rattle.std.proofs.Common.{◌≡◌, ℕ, ◌≤◌, Bool, true, false, refl, ap, ◌∙◌}
use Rattle.std.specs.Prelude.{◌==◌, ◌&&◌, slice_index_or}
use Rattle.hl_laws.proofs.OnLiterals.{on_literals}
use Rattle.hl_model.specs.Views.{slot_view}
use Rattle.hl_laws.proofs.RowLaws.{row_at}
use Rattle.hl_pass.specs.Views.{has_view}
use Rattle.hl_keeper.specs.Stamps.{acquires_in, acquires_until, slot_stamp, slot_stamps}
use Rattle.hl_keeper.specs.Passes.{PassRecord}
use Rattle.hl_keeper.specs.Keepers.{KeeperState, KeeperStands}
use Rattle.hl_keeper.specs.Calls.{stamp_at, is_known, stranger_fault, ahead_fault, call_fault, refresh_fault}
use Rattle.hl_keeper.specs.Worked.{one_acquire, AnotherStamp}

-- the stamp that the list gives slot 0
given : slot_stamp 1000 0 one_acquire ≡ 1001
unfolding on_literals slot_stamp acquires_until acquires_in
given = refl

row : (n : ℕ) → 1 ≤ n → slice_index_or (slot_stamps n 1000 one_acquire) 0 0 ≡ 1001
unfolding slot_stamps
row n some = row_at (λ t. slot_stamp 1000 t one_acquire) n 0 0 some ∙ given

and_no : (b : Bool) → (b && false) ≡ false
and_no true = refl
and_no false = refl

module _ {F : Type 0} where
  stamp_is : (keeper : KeeperState F) → keeper.stamp ≡ 1000 → KeeperStands keeper one_acquire → stamp_at keeper one_acquire 0 ≡ 1001
  unfolding stamp_at slot_view on_literals
  stamp_is keeper named st =
      ap (λ stamps. slice_index_or stamps 0 0) st.stamps_are
      ∙ ap (λ stamp. slice_index_or (slot_stamps keeper.core.sizes.slots stamp one_acquire) 0 0) named
      ∙ row keeper.core.sizes.slots st.core_stands.in_range.slots_least

  -- the pass isn't known
  unknown : (keeper : KeeperState F) (p : PassRecord) → keeper.stamp ≡ 1000 → KeeperStands keeper one_acquire → p.slot ≡ 0 → p.stamp ≡ 1002 → is_known keeper one_acquire p ≡ false
  unfolding is_known stamp_at
  unknown keeper p named st slot stamp =
      let v = has_view (slot_view keeper.core.sizes p.slot one_acquire) p.held in
      ap (λ t. v && stamp_at keeper one_acquire t == p.stamp) slot
      ∙ ap (λ s. v && s == p.stamp) (stamp_is keeper named st)
      ∙ ap (λ s. v && 1001 == s) stamp
      ∙ and_no v

  told : (keeper : KeeperState F) (p : PassRecord) → keeper.stamp ≡ 1000 → KeeperStands keeper one_acquire → p.slot ≡ 0 → stamp_at keeper one_acquire p.slot ≡ 1001
  told keeper p named st slot = ap (stamp_at keeper one_acquire) slot ∙ stamp_is keeper named st

  pub another_stamp : AnotherStamp F
  unfolding refresh_fault call_fault ahead_fault stranger_fault
  another_stamp = record {
    stamp = stamp_is;
    refresh = λ keeper p named st slot stamp. rw (unknown keeper p named st slot stamp, told keeper p named st slot) refl;
    call = λ keeper p s named st slot stamp. rw (unknown keeper p named st slot stamp, told keeper p named st slot) refl;
  }
