-- All quantities of a core at once, wherever it stands.
use Rattle.std.proofs.Common.{◌≡◌, ℕ, ◌+◌, cond, List, [], ◌∷◌, length, map, refl, sym, ap, ap₂, ◌∙◌}
use Rattle.std.specs.Prelude.{Option, count_by, is_some}
use Rattle.std.specs.List.{range_with_len}
use Rattle.std.proofs.lemmas.List.Sums.{sum_by-cons}
use Rattle.hl_model.specs.declared.snapshot.Snapshot.{Snapshot}
use Rattle.hl_model.specs.declared.step.Step.{Step}
use Rattle.hl_model.specs.declared.view.Six.{Six}
use Rattle.hl_model.specs.Sizes.{Sizes}
use Rattle.hl_model.specs.Epochs.{current_epoch, slot_epoch, slot_epochs, safe_among, safe_epoch}
use Rattle.hl_model.specs.Views.{slot_view, slot_views}
use Rattle.hl_model.specs.Snapshots.{six, snapshot_of}
use Rattle.hl_laws.proofs.EpochLaws.{is_protected-slot_epoch}
use Rattle.hl_laws.proofs.ViewLaws.{is_protected-slot_view}
use Rattle.hl_epoch.specs.Table.{safe_of}
use Rattle.hl_drain.specs.Actions.{waiting_of}
use Rattle.hl_core.specs.Standing.{State, Stands}

-- what passes alike in two rows counts alike
counts_alike : {X Y : Type 0} (f : ℕ → Option X) (h : ℕ → Option Y) (xs : List ℕ) → ((t : ℕ) → is_some (f t) ≡ is_some (h t)) → count_by is_some (map f xs) ≡ count_by is_some (map h xs)
counts_alike f h [] same = refl
counts_alike f h (x ∷ xs) same =
    sum_by-cons (λ o. cond (is_some o) 1 0) (f x) (map f xs)
    ∙ ap₂ (λ b k. cond b 1 0 + k) (same x) (counts_alike f h xs same)
    ∙ sym (sum_by-cons (λ o. cond (is_some o) 1 0) (h x) (map h xs))

-- a slot has a view where it has an epoch
pub protected_alike : (sizes : Sizes) (A : List Step) → count_by is_some (slot_views sizes A) ≡ count_by is_some (slot_epochs sizes.slots A)
unfolding slot_views slot_epochs
protected_alike sizes A =
    counts_alike (λ t. slot_view sizes t A) (λ t. slot_epoch t A) (range_with_len 0 sizes.slots) (λ t. sym (is_protected-slot_view sizes t A) ∙ is_protected-slot_epoch t A)

-- the safe epoch of a table's parts
safe_same : (n : ℕ) (A : List Step) → safe_among (current_epoch A) (slot_epochs n A) ≡ safe_epoch n A
unfolding safe_epoch
safe_same n A = refl

-- a snapshot of these
abbrev pub told_of : ℕ → ℕ → ℕ → ℕ → ℕ → Six → List ℕ → Snapshot
told_of a b c d e s f = record { epoch = a; safe = b; protected = c; pending = d; taken = e; six = s; frames = f }

-- equal parts are one snapshot
told_same : (a b c d e : ℕ) (s : Six) (f : List ℕ) (a' b' c' d' e' : ℕ) (s' : Six) (f' : List ℕ) → a ≡ a' → b ≡ b' → c ≡ c' → d ≡ d' → e ≡ e' → s ≡ s' → f ≡ f' → told_of a b c d e s f ≡ told_of a' b' c' d' e' s' f'
told_same a b c d e s f a' b' c' d' e' s' f' ha hb hc hd he hs hf = cc

module _ {J : Type 0} (tag : J → ℕ) (core : State J) (A : List Step) where
  -- all quantities, each told by its part
  pub snapshot_told : (a b c d e : ℕ) (s : Six) (f : List ℕ) → Stands tag core A → a ≡ core.table.current → b ≡ safe_of core.table → c ≡ count_by is_some core.views → d ≡ length (map (waiting_of tag) core.drain.pending) → e ≡ length core.drain.taken → s ≡ six core.sizes A → f ≡ (snapshot_of core.sizes A).frames → told_of a b c d e s f ≡ snapshot_of core.sizes A
  snapshot_told a b c d e s f st ha hb hc hd he hs hf =
      told_same _ _ _ _ _ _ _ _ _ _ _ _ _ _ (ha ∙ ap (λ table. table.current) st.table_is) (hb ∙ ap safe_of st.table_is ∙ safe_same core.sizes.slots A) (hc ∙ ap (count_by is_some) st.views_is ∙ protected_alike core.sizes A)
      (hd ∙ ap length st.pending_is) (he ∙ ap length st.taken_is) hs hf
