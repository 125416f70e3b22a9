-- What the table of a list answers, and what it is after a step.
use Rattle.std.proofs.Common.{◌≡◌, ℕ, Bool, true, false, cond, leb, is_some, List, [], ◌∷◌, ◌++◌, get_or, refl, sym, ap, ap₂, ◌∙◌}
use Rattle.std.specs.Prelude.{Option, Some, None}
use Rattle.std.proofs.lemmas.Bool.{leb-false}
use Rattle.hl_model.specs.declared.fault.Fault.TheVariants.{NoSlot, Occupied, NotProtected}
use Rattle.hl_model.specs.declared.step.Step.{Step}
use Rattle.hl_model.specs.Sizes.{Sizes}
use Rattle.hl_model.specs.Epochs.{epoch_window, Table, table_of, is_bump, enters, leaves, current_epoch, slot_epochs, is_protected}
use Rattle.hl_model.specs.Replies.{acquire_fault, protected_fault}
use Rattle.hl_laws.proofs.EpochLaws.{slot_epochs-stay, length-slot_epochs, slot_epochs-at, is_protected-slot_epoch}
use Rattle.hl_epoch.specs.Faults.{acquire_fault as free_row_fault, protected_fault as row_fault}
use Rattle.hl_laws.proofs.LawProofs.{current-stay}

abbrev pub make : ℕ → List (Option ℕ) → Table
make current epochs = record { current = current; epochs = epochs; window = epoch_window }

-- the table after a step that sets one slot
pub table_set : (sizes : Sizes) (A : List Step) (s : Step) (slots : List (Option ℕ)) → is_bump s ≡ false → slot_epochs sizes.slots (A ++ s ∷ []) ≡ slots → make (current_epoch A) slots ≡ table_of sizes (A ++ s ∷ [])
table_set sizes A s slots h e = ap₂ make (sym (current-stay A s h)) (sym e)

-- the table after a step that moves no slot and is no bump
pub table_stays : (sizes : Sizes) (A : List Step) (s : Step) (table : Table) → table ≡ table_of sizes A → is_bump s ≡ false → ((t : ℕ) → enters t s ≡ false) → ((t : ℕ) → leaves t s ≡ false) → table ≡ table_of sizes (A ++ s ∷ [])
table_stays sizes A s table t no_bump e l = t ∙ ap₂ make (sym (current-stay A s no_bump)) (sym (slot_epochs-stay sizes.slots A s e l))

protected_at : (sizes : Sizes) (A : List Step) (t : ℕ) → leb sizes.slots t ≡ false → is_some (get_or (slot_epochs sizes.slots A) t None) ≡ is_protected t A
protected_at sizes A t h = ap is_some (slot_epochs-at sizes.slots A t None (leb-false sizes.slots t h)) ∙ sym (is_protected-slot_epoch t A)

-- a table refuses an acquire as the definitions do
pub acquire_fault-table : (sizes : Sizes) (A : List Step) (t : ℕ) → free_row_fault t (table_of sizes A) ≡ acquire_fault sizes A t
acquire_fault-table sizes A t = ap (λ n. cond (leb n t) (Some NoSlot) (cond (is_some (get_or (slot_epochs sizes.slots A) t None)) (Some Occupied) None)) (length-slot_epochs sizes.slots A) ∙ by_test (leb sizes.slots t) refl
  where
    by_test : (b : Bool) → leb sizes.slots t ≡ b → cond (leb sizes.slots t) (Some NoSlot) (cond (is_some (get_or (slot_epochs sizes.slots A) t None)) (Some Occupied) None) ≡ cond (leb sizes.slots t) (Some NoSlot) (cond (is_protected t A) (Some Occupied) None)
    by_test true h = ap (λ b. cond b (Some NoSlot) (cond (is_some (get_or (slot_epochs sizes.slots A) t None)) (Some Occupied) None)) h ∙ sym (ap (λ b. cond b (Some NoSlot) (cond (is_protected t A) (Some Occupied) None)) h)
    by_test false h = ap (λ p. cond (leb sizes.slots t) (Some NoSlot) (cond p (Some Occupied) None)) (protected_at sizes A t h)

-- and a refresh and a release
pub protected_fault-table : (sizes : Sizes) (A : List Step) (t : ℕ) → row_fault t (table_of sizes A) ≡ protected_fault sizes A t
protected_fault-table sizes A t = ap (λ n. cond (leb n t) (Some NoSlot) (cond (is_some (get_or (slot_epochs sizes.slots A) t None)) None (Some NotProtected))) (length-slot_epochs sizes.slots A) ∙ by_test (leb sizes.slots t) refl
  where
    by_test : (b : Bool) → leb sizes.slots t ≡ b → cond (leb sizes.slots t) (Some NoSlot) (cond (is_some (get_or (slot_epochs sizes.slots A) t None)) None (Some NotProtected)) ≡ cond (leb sizes.slots t) (Some NoSlot) (cond (is_protected t A) None (Some NotProtected))
    by_test true h = ap (λ b. cond b (Some NoSlot) (cond (is_some (get_or (slot_epochs sizes.slots A) t None)) None (Some NotProtected))) h ∙ sym (ap (λ b. cond b (Some NoSlot) (cond (is_protected t A) None (Some NotProtected))) h)
    by_test false h = ap (λ p. cond (leb sizes.slots t) (Some NoSlot) (cond p None (Some NotProtected))) (protected_at sizes A t h)
