-- What the calls of a rider or of a pass met under the lock and left there: as a domain says it, and as its sessions do.
use Rattle.std.specs.Prelude.{◌≡◌, ℕ, ◌+◌, ◌%◌, Bool, Option, Result, IfOk, OnErr, List, [], ◌∷◌, ◌++◌, length, take}
use Rattle.hl_model.specs.declared.fault.Fault.{Fault}
use Rattle.hl_model.specs.declared.frame.FrameState.{FrameState}
use Rattle.hl_model.specs.declared.snapshot.Snapshot.{Snapshot}
use Rattle.hl_model.specs.declared.step.Step.{Step}
use Rattle.hl_model.specs.declared.step.Step.TheVariants.{Allocate, Bare, Take}
use Rattle.hl_model.specs.Actions.{bumps}
use Rattle.hl_model.specs.Frames.{frame_of}
use Rattle.hl_model.specs.Offsets.{place_of, tail}
use Rattle.hl_model.specs.Snapshots.{snapshot_of}
use Rattle.hl_action.specs.Jobs.{KeptRecord, ReadyRecord}
use Rattle.hl_drain.specs.declared.action.Ask.{Ask}
use Rattle.hl_core.specs.declared.holders.Holder.{Holder}
use Rattle.hl_core.specs.Holding.{is_over, oldest, holders}
use Rattle.hl_core.specs.Steps.{asking, stored, CameOut}
use Rattle.hl_words.specs.States.{RiderState}
use Rattle.hl_keeper.specs.Calls.{call_fault, Makes, MakesTouched, Stays}
use Rattle.hl_keeper.specs.Keepers.{job_tag, KeeperStands}
use Rattle.hl_keeper.specs.Passes.{PassRecord}
use Rattle.hl_keeper.specs.Taking.{taken_from, ready_reply}
use Rattle.hl_domain.specs.Domains.{DomainState, answered, call_of, no_step, pass_call, LeavesUnderLock, MakesUnderLock}

module _ (F : Type 0) (domain : DomainState) where
  -- a rider ended the epoch, asked for this to be stored under it, and was answered so, with what a refusal hands back
  abbrev pub Bumps : {E : Type 0} → Ask (KeptRecord F) → (Result ℕ E → Result ℕ Fault) → Result ℕ E
      → RiderState → RiderState → Type 0
  Bumps ask alone result old new =
      let step = asking job_tag ask in
      LeavesUnderLock F domain (answered (alone result) (call_of step old new)) (λ before after.
      Makes before step (λ A. bumps (A ++ step ∷ [])) after (alone result) × Stays before after
      × IfOk result (λ ticket. after.core.drain.pending
      ≡ before.core.drain.pending ++ (ticket, stored before.core.offsets ask) ∷ [])
      × OnErr result (after ≡ before))

  -- it ended the epoch, stored nothing, and was answered so
  abbrev pub Bares : Result ℕ Fault → RiderState → RiderState → Type 0
  Bares result old new = MakesUnderLock F domain (call_of Bare old new) result (λ before.
      Makes before Bare (λ A. bumps (A ++ Bare ∷ [])))

  -- it asked for the oldest action, and was answered so
  abbrev pub Takes : Result (ReadyRecord F) Fault → RiderState → RiderState → Type 0
  Takes result old new =
      LeavesUnderLock F domain (answered result (call_of Take old new)) (λ before after.
      Makes before Take (taken_from before) after (ready_reply result) × Stays before after
      × IfOk result (λ ready. CameOut job_tag before.core after.core ready.firing.ticket ready.kept)
      × OnErr result (after ≡ before))

  -- it cut the journal, which had so many steps
  abbrev pub Cuts : ℕ → RiderState → RiderState → Type 0
  Cuts dropped old new = LeavesUnderLock F domain (no_step old new) (λ before after.
      (dropped ≡ length before.journal)
      × (after.journal ≡ []) × (after.cut ≡ before.cut + length before.journal)
      × (after.core ≡ before.core) × (after.limit ≡ before.limit)
      × ((A : List Step) → KeeperStands before A → KeeperStands after A))

  -- it was told how many steps the list has that its call met
  abbrev pub LooksAtSteps : ℕ → RiderState → RiderState → Type 0
  LooksAtSteps steps old new = LeavesUnderLock F domain (no_step old new) (λ before after.
      (after ≡ before) × ((A : List Step) → KeeperStands before A → steps ≡ length A))

  -- it was told whether the action of this ticket is over in the list that its call met
  abbrev pub LooksAtOver : ℕ → Bool → RiderState → RiderState → Type 0
  LooksAtOver ticket over old new =
      LeavesUnderLock F domain (no_step old new) (λ before after. (after ≡ before)
      × ((A : List Step) → KeeperStands before A → over ≡ is_over ticket A))

  -- it was told all quantities of the list that its call met, how many steps of that are kept, and how many were cut
  abbrev pub LooksAtAll : Snapshot × ℕ × ℕ → RiderState → RiderState → Type 0
  LooksAtAll told old new =
      LeavesUnderLock F domain (no_step old new) (λ before after. (after ≡ before)
      × ((A : List Step) → KeeperStands before A → told.0 ≡ snapshot_of before.core.sizes A)
      × (told.1 ≡ length before.journal) × (told.2 ≡ before.cut))

  -- it was told the oldest ticket that is pending in the list that its call met, and the first n slots that hold it up
  abbrev pub LooksAtHolders : ℕ → Option ℕ → List Holder → RiderState → RiderState → Type 0
  LooksAtHolders n ticket holding old new =
      LeavesUnderLock F domain (no_step old new) (λ before after. (after ≡ before)
      × ((A : List Step) → KeeperStands before A
      → (ticket ≡ oldest A) × (holding ≡ take n (holders before.core.sizes.slots A))))

  -- it was told what a page's frame is at in the list that its call met
  abbrev pub LooksAtFrame : ℕ → FrameState × Option ℕ → RiderState → RiderState → Type 0
  LooksAtFrame page told old new =
      LeavesUnderLock F domain (no_step old new) (λ before after. (after ≡ before)
      × ((A : List Step) → KeeperStands before A
      → let sizes = before.core.sizes in told ≡ frame_of sizes (page % sizes.frames) A))

  -- a pass asked for n words, and was answered so; this is its rider then
  abbrev pub Allocates : ℕ → Result ℕ Fault → PassRecord → RiderState → Type 0
  Allocates n result p new =
      MakesUnderLock F domain (pass_call p (Allocate p.slot n) new) result (λ keeper.
      MakesTouched keeper p (Allocate p.slot n) (λ A. call_fault keeper A p (Allocate p.slot n))
      (λ A. place_of keeper.core.sizes.page_size (tail keeper.core.sizes (A ++ p.touches)) n))
