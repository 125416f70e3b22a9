-- What a keeper's bump and take answer.
use Rattle.std.proofs.Common.{◌≡◌, ℕ, false, List, refl, ap, ◌∙◌}
use Rattle.std.specs.Prelude.{Option}
use Rattle.hl_model.specs.declared.step.Reply.TheVariants.{Ticket, Taken as TakenReply}
use Rattle.hl_model.specs.declared.step.Step.{Step}
use Rattle.hl_model.specs.Actions.{bumps, front}
use Rattle.hl_model.specs.Epochs.{safe_epoch}
use Rattle.hl_model.specs.Sizes.{Sizes}
use Rattle.hl_model.specs.Replies.{answer_of}
use Rattle.hl_epoch.specs.Table.{safe_of}
use Rattle.hl_action.specs.Firings.{FiringRecord}
use Rattle.hl_action.specs.Jobs.{KeptRecord, ReadyRecord}
use Rattle.hl_drain.specs.declared.action.Ask.{Ask}
use Rattle.hl_drain.specs.declared.action.Ask.TheVariants.{User, Settle, Close}
use Rattle.hl_core.specs.Steps.{asking}
use Rattle.hl_core.proofs.TakeStands.{safe_is}
use Rattle.hl_keeper.specs.Keepers.{job_tag, KeeperState, KeeperStands}
use Rattle.hl_keeper.specs.Stamps.{is_acquire}
use Rattle.hl_keeper.specs.Taking.{TakenFrom, taken_from}

-- what is asked for is no acquire
pub asking_acquires : {J : Type 0} (tag : J → ℕ) (ask : Ask J) → is_acquire (asking tag ask) ≡ false
asking_acquires tag Settle = refl
asking_acquires tag Close = refl
asking_acquires tag (User job) = refl

-- and is answered with its ticket
asking_answer : {J : Type 0} (tag : J → ℕ) (ask : Ask J) (sizes : Sizes) (A B : List Step) → answer_of sizes A B (asking tag ask) ≡ Ticket (bumps B)
asking_answer tag Settle sizes A B = refl
asking_answer tag Close sizes A B = refl
asking_answer tag (User job) sizes A B = refl

pub bump_ticket : {J : Type 0} (tag : J → ℕ) (ask : Ask J) (sizes : Sizes) (A B : List Step) (ticket : ℕ) → Ticket ticket ≡ answer_of sizes A B (asking tag ask) → ticket ≡ bumps B
bump_ticket tag ask sizes A B ticket told = value ticket (bumps B) (told ∙ asking_answer tag ask sizes A B)
  where
    value : (a b : ℕ) → Ticket a ≡ Ticket b → a ≡ b
    value a b h = cc

-- a take is answered with the front, at the safe epoch
pub take_firing : {F : Type 0} (keeper : KeeperState F) (A : List Step) (firing : FiringRecord) (ready : ReadyRecord F) (kept : Option (KeptRecord F)) → KeeperStands keeper A → TakenReply firing.ticket ≡ TakenReply (front A) → firing.safe ≡ safe_of keeper.core.table → ready ≡ record { origin = keeper.stamp; firing = firing; kept = kept }
    → ◌≡◌ {A = TakenFrom} (record { origin = ready.origin; firing = ready.firing }) (taken_from keeper A)
take_firing {F} keeper A firing ready kept st told safe e =
    ap (λ (r : ReadyRecord F). let z : TakenFrom = record { origin = r.origin; firing = r.firing } in z) e
    ∙ same firing.ticket firing.safe (value firing.ticket (front A) told) (safe ∙ safe_is job_tag keeper.core A st.core_stands)
  where
    value : (a b : ℕ) → TakenReply a ≡ TakenReply b → a ≡ b
    value a b h = cc

    same : (x y : ℕ) → x ≡ front A → y ≡ safe_epoch keeper.core.sizes.slots A → ◌≡◌ {A = TakenFrom} (record { origin = keeper.stamp; firing = record { ticket = x; safe = y } }) (taken_from keeper A)
    same x y a b = rw (a, b) refl
