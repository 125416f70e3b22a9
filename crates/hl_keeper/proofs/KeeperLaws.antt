-- Where a keeper stands: when it was opened, and after steps that its core accepted.
use Rattle.std.proofs.Common.{◌≡◌, ℕ, ◌+◌, ◌≤◌, List, [], ◌++◌, length, replicate, sym, ap, ◌∙◌, arith, append_assoc, length-append}
use Rattle.std.specs.Prelude.{None}
use Rattle.std.proofs.lemmas.List.{append-nil}
use Rattle.hl_model.specs.declared.step.Step.{Step}
use Rattle.hl_model.specs.Bases.{Base, base_of}
use Rattle.hl_model.specs.Sizes.{Sizes}
use Rattle.hl_model.specs.Settled.{settles}
use Rattle.hl_laws.proofs.OffsetLaws.{read_only-nil, head-nil}
use Rattle.hl_laws.proofs.SettledLaws.{done_greatest-nil}
use Rattle.hl_action.specs.Jobs.{KeptRecord}
use Rattle.hl_words.specs.declared.view.OffsetWords.{OffsetWords}
use Rattle.hl_words.specs.States.{MasterState, new_master}
use Rattle.hl_words.specs.Views.{newest}
use Rattle.hl_core.specs.Standing.{State, Stands}
use Rattle.hl_pass.specs.declared.stamps.Stamps.{Stamps}
use Rattle.hl_keeper.specs.Parts.{keeper_of}
use Rattle.hl_keeper.specs.Journals.{JournalState, journal_of, with_steps}
use Rattle.hl_keeper.specs.Keepers.{job_tag, KeeperState, KeeperStands, IsKept, steps_most}
use Rattle.hl_keeper.specs.Stamps.{acquires_in, slot_stamps}
use Rattle.hl_keeper.specs.Stores.{stores_of}
use Rattle.hl_keeper.specs.Calls.{room_fault}
use Rattle.hl_keeper.proofs.JournalLaws.{full-none}
use Rattle.hl_pass.proofs.StoreLaws.{stores-nil, newest-read_only, newest-head, newest-settled}
use Rattle.hl_keeper.proofs.StampLaws.{acquires_in-nil, slot_stamps-nil}

module _ {F : Type 0} where
  -- a keeper that was just opened
  pub opened : (core : State (KeptRecord F)) (journal : JournalState) (limit : ℕ) (stamps : Stamps) (stamp : ℕ) (master : MasterState) (sizes : Sizes) → Stands job_tag core [] → core.sizes ≡ sizes → journal ≡ record { base = base_of sizes []; cut = 0; steps = []; limit = limit }
      → stamps.row.items ≡ replicate sizes.slots 0 → stamps.own ≡ stamp → stamps.given ≡ 0 → stamp ≤ steps_most → master ≡ new_master → KeeperStands {F = F} (keeper_of core journal stamps master) []
  opened core journal limit stamps stamp master sizes st same j s own given most m = record {
    core_stands = st;
    steps_cut = [];
    history = sym (ap (λ (z : JournalState). z.steps) j);
    base_is = ap (λ (z : JournalState). z.base) j ∙ ap (λ z. base_of z []) (sym same);
    cut_is = ap (λ (z : JournalState). z.cut) j;
    stores_are = ap (λ (z : MasterState). z.offsets) m ∙ sym stores-nil;
    read_only_is = ap (λ (z : MasterState). newest z.offsets.read_only) m ∙ sym read_only-nil;
    head_is = ap (λ (z : MasterState). newest z.offsets.head) m ∙ sym head-nil;
    safe_read_only_is = ap (λ (z : MasterState). newest z.offsets.safe_read_only) m ∙ sym (done_greatest-nil settles);
    total_is = ap (λ (z : MasterState). z.total) m;
    total_most = omega (arith, ap (λ (z : MasterState). z.total) m);
    journal_most = omega (arith, ap (λ (z : JournalState). length z.steps) j);
    acquired_is = given ∙ sym acquires_in-nil;
    stamps_are = s ∙ sym (slot_stamps-nil sizes.slots stamps.own) ∙ ap (λ (z : Sizes). slot_stamps z.slots stamps.own []) (sym same);
    stamp_most = omega (arith, most, own);
  }

  -- the steps that a keeper counts in all
  pub counted : (keeper : KeeperState F) (A : List Step) → KeeperStands keeper A → keeper.cut + length keeper.journal ≡ keeper.total
  counted keeper A st = omega (arith, st.cut_is, st.total_is, ap length st.history, length-append st.steps_cut keeper.journal)

  -- a keeper that was cut: its base is that of the whole list, and its journal is empty
  pub was_cut : (k : KeeperState F) (A : List Step) (journal : JournalState) → KeeperStands k A → journal.base ≡ base_of k.core.sizes A → journal.cut ≡ k.cut + length k.journal → journal.steps ≡ []
      → KeeperStands {F = F} (record { core = k.core; base = journal.base; cut = journal.cut; journal = journal.steps; limit = journal.limit; stamps = k.stamps; stamp = k.stamp; acquired = k.acquired; offsets = k.offsets; total = k.total; called = k.called }) A
  was_cut k A journal st b m j = record {
    core_stands = st.core_stands;
    steps_cut = A;
    history = sym (append-nil A) ∙ ap (λ z. A ++ z) (sym j);
    base_is = b;
    cut_is = omega (arith, counted k A st, st.total_is, m);
    stores_are = st.stores_are;
    read_only_is = st.read_only_is;
    head_is = st.head_is;
    safe_read_only_is = st.safe_read_only_is;
    total_is = st.total_is;
    total_most = st.total_most;
    journal_most = omega (arith, ap length j);
    acquired_is = st.acquired_is;
    stamps_are = st.stamps_are;
    stamp_most = st.stamp_most;
  }

  -- what it is that n more steps have room
  pub room-none : (keeper : KeeperState F) (n : ℕ) → room_fault keeper n ≡ None → (length keeper.journal + n ≤ keeper.limit) × (keeper.cut + length keeper.journal + n ≤ steps_most)
  room-none keeper n h = full-none (journal_of keeper) n h

  -- the count of acquires and the stamps are those of a list
  pub record Stamped (keeper : KeeperState F) (list : List Step) : Type 0 where
    pub count : keeper.acquired ≡ acquires_in list
    pub row : keeper.stamps ≡ slot_stamps keeper.core.sizes.slots keeper.stamp list

  -- what a keeper kept whose core has gone on by these steps, from the list A
  pub record HasGrown (old new : KeeperState F) (A xs : List Step) : Type 0 where
    pub room : room_fault old (length xs) ≡ None
    pub core : Stands job_tag new.core (A ++ xs)
    pub sizes : new.core.sizes ≡ old.core.sizes
    pub noted : journal_of new ≡ with_steps xs (journal_of old)
    pub own : new.stamp ≡ old.stamp
    pub stamped : Stamped new (A ++ xs)
    pub stores : new.offsets ≡ stores_of (A ++ xs)
    pub total : new.total ≡ old.total + length xs

  -- it stands where its core does
  pub grown : (old new : KeeperState F) (A xs : List Step) → KeeperStands old A → HasGrown old new A xs → KeeperStands new (A ++ xs)
  grown old new A xs st h =
      let most = room-none old (length xs) h.room in
      let len : length (old.journal ++ xs) ≡ length old.journal + length xs = length-append old.journal xs in
      let kept : new.journal ≡ old.journal ++ xs = ap (λ (z : JournalState). z.steps) h.noted in record {
        core_stands = h.core;
        steps_cut = st.steps_cut;
        history = ap (λ z. z ++ xs) st.history ∙ append_assoc st.steps_cut old.journal xs ∙ ap (λ z. st.steps_cut ++ z) (sym kept);
        base_is = ap (λ (z : JournalState). z.base) h.noted ∙ st.base_is ∙ ap (λ z. base_of z st.steps_cut) (sym h.sizes);
        cut_is = ap (λ (z : JournalState). z.cut) h.noted ∙ st.cut_is;
        stores_are = h.stores;
        read_only_is = ap (λ (z : OffsetWords). newest z.read_only) h.stores ∙ newest-read_only new.core.sizes (A ++ xs) h.core.accepted;
        head_is = ap (λ (z : OffsetWords). newest z.head) h.stores ∙ newest-head new.core.sizes (A ++ xs) h.core.accepted;
        safe_read_only_is = ap (λ (z : OffsetWords). newest z.safe_read_only) h.stores ∙ newest-settled new.core.sizes (A ++ xs) h.core.accepted;
        total_is = omega (arith, h.total, st.total_is, length-append A xs);
        total_most = omega (arith, h.total, most.1, counted old A st);
        journal_most = omega (arith, len, most.0, ap length kept, ap (λ (z : JournalState). z.limit) h.noted);
        acquired_is = h.stamped.count;
        stamps_are = h.stamped.row;
        stamp_most = omega (arith, st.stamp_most, h.own);
      }

  -- and is kept, where it is of the same sizes and stamp
  pub kept_on : (sizes : Sizes) (stamp : ℕ) (old new : KeeperState F) (A : List Step) (before after : ℕ) → IsKept sizes stamp old before → KeeperStands new A → new.core.sizes ≡ old.core.sizes → new.stamp ≡ old.stamp → after ≡ before → IsKept sizes stamp new after
  kept_on sizes stamp old new A before after kept st same own room = record {
    of = record { standing = (A, st); sizes_are = same ∙ kept.of.sizes_are; stamp_is = own ∙ kept.of.stamp_is };
    exact = room ∙ kept.exact ∙ sym (ap (λ (z : Sizes). z.slots) same);
  }

  -- the base has the keeper's sizes
  pub base_sizes : (keeper : KeeperState F) (A : List Step) → KeeperStands keeper A → keeper.base.sizes ≡ keeper.core.sizes
  unfolding base_of
  base_sizes keeper A st = ap (λ (b : Base). b.sizes) st.base_is
