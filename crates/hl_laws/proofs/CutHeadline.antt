-- An action is taken after every slot that was protected in a base, at its ticket or before, has moved on since.
use Rattle.std.proofs.Common.{◌≡◌, ℕ, ◌<◌, ◌≤◌, false, List, [], ◌∷◌, ◌++◌, get_or, map, sym, ap, ◌∙◌, arith, inl, inr, ◌⊎◌}
use Rattle.std.specs.Prelude.{Some, None, option_map}
use Rattle.std.specs.List.{list_any, range_with_len}
use Rattle.std.proofs.lemmas.Bool.{cases_lt, true_from_ne_false}
use Rattle.std.proofs.lemmas.List.{get_or_past}
use Rattle.std.proofs.lemmas.List.FromFn.{length-map-range_with_len}
use Rattle.hl_model.specs.declared.slot.Slot.{Slot}
use Rattle.hl_model.specs.declared.step.Step.{Step}
use Rattle.hl_model.specs.declared.step.Step.TheVariants.{Take}
use Rattle.hl_model.specs.Sizes.{Sizes}
use Rattle.hl_model.specs.Epochs.{slot_epoch}
use Rattle.hl_model.specs.Actions.{front, first_ticket}
use Rattle.hl_model.specs.Headline.{moves_on}
use Rattle.hl_model.specs.Replies.{IsAccepted}
use Rattle.hl_model.specs.Bases.{base_of, slot_of, slot_in}
use Rattle.hl_model.specs.AfterActions.{waiting_after}
use Rattle.hl_laws.specs.BaseLaws.{TakenAfterAllMovedSince}
use Rattle.hl_laws.proofs.AcceptedLaws.{IsAccepted-front}
use Rattle.hl_laws.proofs.CutActions.{waiting_after-is}
use Rattle.hl_laws.proofs.CutFaults.{slot_of-epoch}
use Rattle.hl_laws.proofs.CutViews.{slot_in-is}
use Rattle.hl_laws.proofs.LawProofs.{keeps_epoch, taken_below}

-- a slot that there is
slot_in-below : (sizes : Sizes) (A : List Step) (t : ℕ) (slot : Slot) → slot_in (base_of sizes A) t ≡ Some slot → t < sizes.slots
unfolding base_of
slot_in-below sizes A t slot is = by_order (cases_lt t sizes.slots)
  where
    by_order : ((t < sizes.slots) ⊎ (sizes.slots ≤ t)) → t < sizes.slots
    by_order (inl lt) = lt
    by_order (inr le) =
        let out : get_or (map (λ u. slot_of sizes u A) (range_with_len 0 sizes.slots)) t None ≡ None
        = get_or_past (map (λ u. slot_of sizes u A) (range_with_len 0 sizes.slots)) t None (omega (arith, le, length-map-range_with_len (λ u. slot_of sizes u A) 0 sizes.slots)) in
        cc

-- the epoch that it has
slot_in-epoch : (sizes : Sizes) (A : List Step) (t : ℕ) (slot : Slot) → slot_in (base_of sizes A) t ≡ Some slot → slot_epoch t A ≡ Some slot.epoch
slot_in-epoch sizes A t slot is =
    sym (slot_of-epoch sizes t A)
    ∙ ap (option_map (λ s. s.epoch)) (sym (slot_in-is sizes A t (slot_in-below sizes A t slot is)) ∙ is)

pub taken_after_all_moved_since : TakenAfterAllMovedSince
taken_after_all_moved_since sizes A X t slot a is le = true_from_ne_false (list_any (moves_on t) X) early
  where
    whole : IsAccepted sizes (A ++ X)
    whole = IsAccepted-front sizes (A ++ X) (Take ∷ []) a

    ticket : first_ticket (waiting_after (base_of sizes A) X) ≡ front (A ++ X)
    ticket = ap first_ticket (waiting_after-is sizes A X (IsAccepted-front sizes A X whole))

    early : list_any (moves_on t) X ≡ false → ⊥
    early m =
        let held : slot_epoch t (A ++ X) ≡ Some slot.epoch = keeps_epoch sizes A t slot.epoch (slot_in-epoch sizes A t slot is) X whole m in
        omega (arith, taken_below sizes (A ++ X) t slot.epoch a held, ticket, le)
