-- What holds of every accepted list of steps, and where no acceptance is asked for of every list, in the
-- subject's own words. Each statement is the contract of a function of the module laws.
use Rattle.std.specs.Prelude.{map, All, None, ℕ, ◌≡◌, ◌↔◌, ◌+◌, ◌-◌, ◌<◌, ◌≤◌, ◌==◌, true, if◌then◌else◌, List, [], ◌∷◌, ◌++◌, length}
use Rattle.std.specs.List.{list_any, AllPairs}
use Rattle.hl_model.specs.declared.step.Step.{Step}
use Rattle.hl_model.specs.Lists.{gather}
use Rattle.hl_model.specs.Sizes.{Sizes}
use Rattle.hl_model.specs.Epochs.{epoch_window, is_bump, current_epoch, mark, is_protected, epoch_of, safe_epoch}
use Rattle.hl_model.specs.Actions.{stores, bumps, dones, actions, ever_taken, pending, taken, is_taken}
use Rattle.hl_model.specs.Offsets.{read_only, head, tail}
use Rattle.hl_model.specs.Settled.{safe_read_only, closed}
use Rattle.hl_model.specs.Pages.{flushed}
use Rattle.hl_model.specs.Snapshots.{six, AreInOrder}
use Rattle.hl_model.specs.Headline.{Headline}
use Rattle.hl_model.specs.Replies.{epoch_last, fault_of, extended, good, IsAccepted}

-- the accepted steps of a list are an accepted list
abbrev pub AcceptedStepsAreAccepted : Type 0
AcceptedStepsAreAccepted = (sizes : Sizes) (L : List Step) → IsAccepted sizes (good sizes L)

-- each beginning of an accepted list is accepted
abbrev pub BeginningsAreAccepted : Type 0
BeginningsAreAccepted = (sizes : Sizes) (A B : List Step) → IsAccepted sizes (A ++ B) → IsAccepted sizes A

-- a list's last step is accepted after the accepted steps before it, or not at all
abbrev pub GoodByItsLastStep : Type 0
GoodByItsLastStep = (sizes : Sizes) (L : List Step) (s : Step)
    → good sizes (L ++ s ∷ []) ≡ extended sizes (good sizes L) s

-- a step of an accepted list meets no fault after those before it
abbrev pub AcceptedMeetsNoFault : Type 0
AcceptedMeetsNoFault = (sizes : Sizes) (A : List Step) (s : Step) (B : List Step)
    → IsAccepted sizes (A ++ s ∷ B) → fault_of sizes A s ≡ None

-- the current epoch is at most the last
abbrev pub CurrentIsAtMostLast : Type 0
CurrentIsAtMostLast = (sizes : Sizes) (A : List Step) → IsAccepted sizes A → current_epoch A ≤ epoch_last

-- safe < E_t ≤ E for each protected slot t of an accepted list
abbrev pub EpochsAreInOrder : Type 0
EpochsAreInOrder = (sizes : Sizes) (A : List Step) (t : ℕ) → IsAccepted sizes A → is_protected t A ≡ true
    → (safe_epoch sizes.slots A < epoch_of t A) × (epoch_of t A ≤ current_epoch A)

-- the safe epoch never falls
abbrev pub SafeNeverFalls : Type 0
SafeNeverFalls = (slots : ℕ) (A B : List Step) → safe_epoch slots A ≤ safe_epoch slots (A ++ B)

-- the safe epoch is the greatest number below the current epoch and below the epoch of each protected slot
abbrev pub SafeIsGreatest : Type 0
SafeIsGreatest = (slots : ℕ) (A : List Step) (c : ℕ) → (c ≤ safe_epoch slots A)
    ↔ ((c < current_epoch A) × ((t : ℕ) → t < slots → is_protected t A ≡ true → c < epoch_of t A))

-- the epoch of a protected slot exceeds the ticket of a bump exactly where its mark lies after the bump
abbrev pub MarkAfterBump : Type 0
MarkAfterBump = (X : List Step) (s : Step) (Y : List Step) (t : ℕ) → is_bump s ≡ true
    → is_protected t (X ++ s ∷ Y) ≡ true
    → (bumps X + 1 < epoch_of t (X ++ s ∷ Y)) ↔ (length X + 1 < mark t (X ++ s ∷ Y))

-- the epochs that ended above the safe one are at most those of the window
abbrev pub EpochsFitTheWindow : Type 0
EpochsFitTheWindow = (sizes : Sizes) (A : List Step) → IsAccepted sizes A
    → current_epoch A - 1 - safe_epoch sizes.slots A ≤ epoch_window

-- pending and taken actions are the actions stored less the dones, and at most the places of the drain list
abbrev pub DrainListHoldsThem : Type 0
DrainListHoldsThem = (sizes : Sizes) (A : List Step) → IsAccepted sizes A
    → (length (pending A) + length (taken A) ≡ length (actions A) - dones A)
    × (length (pending A) + length (taken A) ≤ sizes.drain)

-- the number that a step uses for a ticket: a bump that stores an action is the one after the bumps before it
abbrev pub number_stored : List Step → Step → List ℕ
number_stored before s = if stores s then (bumps before + 1) ∷ [] else []

-- the tickets of all actions are the numbers of the bumps that stored them, none left out
abbrev pub TicketsAreNumbers : Type 0
TicketsAreNumbers = (A : List Step) → map (λ w. w.ticket) (actions A) ≡ gather number_stored A

-- and so they rise, and are at most the bumps
abbrev pub TicketsRise : Type 0
TicketsRise = (A : List Step) → AllPairs (λ earlier later. earlier < later) (map (λ w. w.ticket) (actions A))
    × All (λ c. (1 ≤ c) × (c ≤ bumps A)) (map (λ w. w.ticket) (actions A))

-- a ticket is taken and not done exactly where a taken action has it
abbrev pub TakenAreThoseListed : Type 0
TakenAreThoseListed = (sizes : Sizes) (A : List Step) (c : ℕ) → IsAccepted sizes A
    → is_taken c A ≡ list_any (λ w. w.ticket == c) (taken A)

-- each ticket taken is safe, whether it is done or not
abbrev pub TakenAreSafe : Type 0
TakenAreSafe = (sizes : Sizes) (A : List Step) → IsAccepted sizes A
    → All (λ w. w.ticket ≤ safe_epoch sizes.slots A) (ever_taken A)

-- the offsets of each accepted list are in order
abbrev pub OffsetsAreInOrder : Type 0
OffsetsAreInOrder = (sizes : Sizes) (A : List Step) → 0 < sizes.page_size → IsAccepted sizes A
    → AreInOrder sizes.page_size (six sizes A)

-- no offset is lower than it was
pub record NoneFell (sizes : Sizes) (A B : List Step) : Type 0 where
  pub closed_least : closed A ≤ closed B
  pub head_least : head A ≤ head B
  pub flushed_least : flushed sizes A ≤ flushed sizes B
  pub safe_read_only_least : safe_read_only A ≤ safe_read_only B
  pub read_only_least : read_only A ≤ read_only B
  pub tail_least : tail sizes A ≤ tail sizes B

-- the offsets never fall
abbrev pub OffsetsNeverFall : Type 0
OffsetsNeverFall = (sizes : Sizes) (A B : List Step) → 0 < sizes.page_size → IsAccepted sizes (A ++ B)
    → NoneFell sizes A (A ++ B)

-- the headline holds of each accepted list
abbrev pub HeadlineHolds : Type 0
HeadlineHolds = (sizes : Sizes) (A : List Step) → 0 < sizes.page_size → IsAccepted sizes A → Headline sizes A
