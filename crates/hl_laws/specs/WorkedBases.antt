-- Worked examples of bases: a list, its base, the steps that follow, their replies, and the base of both, by
-- hand.
use Rattle.std.specs.Prelude.{ℕ, ◌≡◌, ◌-◌, ◌^◌, true, false, Some, None, Result, Ok, Err, List, [], ◌∷◌}
use Rattle.hl_model.specs.declared.action.Kind.TheVariants.{Settle as Settling}
use Rattle.hl_model.specs.declared.action.Waiting.{Waiting}
use Rattle.hl_model.specs.declared.fault.Fault.{Fault}
use Rattle.hl_model.specs.declared.fault.Fault.TheVariants.{Stale, DrainFull, EpochsSpent, WindowFull, NotReady, NotTaken, Below, Evicted, Busy, NoneSealed, NotInFlight, NoneClosed, NotCleaning}
use Rattle.hl_model.specs.declared.frame.Held.{Held}
use Rattle.hl_model.specs.declared.slot.Slot.{Slot}
use Rattle.hl_model.specs.declared.step.Reply.{Reply}
use Rattle.hl_model.specs.declared.step.Reply.TheVariants.{Entered, Ticket, Bumped, Looked, Taken, Ran, Settled, At, Written, Readable, Page, Flushed, Freed}
use Rattle.hl_model.specs.declared.step.Step.{Step}
use Rattle.hl_model.specs.declared.step.Step.TheVariants.{Acquire, Refresh, Release, Bump, Bare, Look, Settle, Close, Take, Done, Raise, Shift, Allocate, Write, Read, FlushTake, FlushDone, CleanTake, CleanDone}
use Rattle.hl_model.specs.declared.view.Six.{Six}
use Rattle.hl_laws.specs.Worked.{small, job}
use Rattle.hl_model.specs.Bases.{Base, base_of}
use Rattle.hl_model.specs.AfterReplies.{base_after, good_from, replies_from}

-- a page with no mark
abbrev pub bare_page : ℕ → Held
bare_page p = record { page = p; flushed = false; in_flight = false; freed = false; cleaning = false }

-- what a slot has
abbrev pub slot_at : ℕ → ℕ → ℕ → ℕ → Slot
slot_at epoch read_only head tail =
    record { epoch = epoch; view = record { read_only = read_only; head = head; tail = tail } }

-- the six offsets of an empty log
abbrev pub no_offsets : Six
no_offsets = record { closed = 0; head = 0; flushed = 0; safe_read_only = 0; read_only = 0; tail = 0 }

-- a list has this base; from it the steps of another are answered so, and both together have that base
pub record Cuts (A : List Step) (b : Base) (L : List Step) (told : List (Result Reply Fault)) (c : Base)
    : Type 0 where
  pub base_is : base_of small A ≡ b
  pub told_is : replies_from b L ≡ told
  pub both_is : base_after b (good_from b L) ≡ c

-- cut where one action is taken and one is pending: each is done once, and its place is free then
abbrev pub CutDrainList : Type 0
CutDrainList = Cuts
    (Acquire 0 ∷ Allocate 0 4 ∷ Raise 4 ∷ Bump 7 ∷ Settle ∷ Refresh 0 ∷ Take ∷ [])
    (record {
      sizes = small;
      epoch = 3;
      slots = Some (slot_at 3 4 0 4) ∷ None ∷ [];
      waiting = record { ticket = 2; kind = Settling 4 } ∷ [];
      taken = job 1 7 ∷ [];
      six = record { closed = 0; head = 0; flushed = 0; safe_read_only = 0; read_only = 4; tail = 4 };
      frames = Some (bare_page 0) ∷ None ∷ [];
    })
    (Bump 9 ∷ Take ∷ Done 2 ∷ Done 2 ∷ Done 1 ∷ Write 0 3 1 ∷ Read 0 3 ∷ Allocate 0 1 ∷ Write 0 4 6 ∷ Bump 9
    ∷ Acquire 1 ∷ Take ∷ [])
    (Err DrainFull ∷ Ok (Taken 2) ∷ Ok (Settled 4) ∷ Err NotTaken ∷ Ok (Ran 7) ∷ Err (Below 4) ∷ Ok Readable
    ∷ Ok (At 4) ∷ Ok Written ∷ Ok (Ticket 3) ∷ Ok (Entered 4 (record { read_only = 4; head = 0; tail = 5 }))
    ∷ Err (NotReady 3 2) ∷ [])
    (record {
      sizes = small;
      epoch = 4;
      slots = Some (slot_at 3 4 0 5) ∷ Some (slot_at 4 4 0 5) ∷ [];
      waiting = job 3 9 ∷ [];
      taken = [];
      six = record { closed = 0; head = 0; flushed = 0; safe_read_only = 4; read_only = 4; tail = 5 };
      frames = Some (bare_page 0) ∷ Some (bare_page 1) ∷ [];
    })

-- cut where one page is in flight and another is being cleaned: a failed flush is taken again, a frame is
-- entered again once its page is freed
abbrev pub CutPages : Type 0
CutPages = Cuts
    (Acquire 0 ∷ Allocate 0 4 ∷ Allocate 0 4 ∷ Raise 8 ∷ Release 0 ∷ Settle ∷ Take ∷ Done 1 ∷ FlushTake
    ∷ FlushDone 0 true ∷ Shift 4 ∷ Close ∷ Take ∷ Done 2 ∷ CleanTake ∷ FlushTake ∷ [])
    (record {
      sizes = small;
      epoch = 3;
      slots = None ∷ None ∷ [];
      waiting = [];
      taken = [];
      six = record { closed = 4; head = 4; flushed = 4; safe_read_only = 8; read_only = 8; tail = 8 };
      frames =
          Some (record (bare_page 0) { flushed = true; cleaning = true })
          ∷ Some (record (bare_page 1) { in_flight = true }) ∷ [];
    })
    (Acquire 0 ∷ FlushTake ∷ CleanTake ∷ Allocate 0 1 ∷ FlushDone 1 false ∷ FlushTake ∷ FlushDone 1 true
    ∷ FlushDone 1 true ∷ CleanDone 1 ∷ CleanDone 0 ∷ Allocate 0 1 ∷ Read 0 3 ∷ [])
    (Ok (Entered 3 (record { read_only = 8; head = 4; tail = 8 })) ∷ Err NoneSealed ∷ Err NoneClosed
    ∷ Err (Busy 2) ∷ Ok (Flushed 4) ∷ Ok (Page 1) ∷ Ok (Flushed 8) ∷ Err NotInFlight ∷ Err NotCleaning
    ∷ Ok (Freed 0) ∷ Ok (At 8) ∷ Err (Evicted 4) ∷ [])
    (record {
      sizes = small;
      epoch = 3;
      slots = Some (slot_at 3 8 4 9) ∷ None ∷ [];
      waiting = [];
      taken = [];
      six = record { closed = 4; head = 4; flushed = 8; safe_read_only = 8; read_only = 8; tail = 9 };
      frames = Some (bare_page 2) ∷ Some (record (bare_page 1) { flushed = true }) ∷ [];
    })

-- cut after a look: what was seen before the cut is not forgotten, and a look below it is refused
abbrev pub CutLook : Type 0
CutLook = Cuts
    (Acquire 0 ∷ Allocate 0 4 ∷ Raise 4 ∷ Look 0 4 0 ∷ [])
    (record {
      sizes = small;
      epoch = 1;
      slots = Some (slot_at 1 4 0 4) ∷ None ∷ [];
      waiting = [];
      taken = [];
      six = record { closed = 0; head = 0; flushed = 0; safe_read_only = 0; read_only = 4; tail = 4 };
      frames = Some (bare_page 0) ∷ None ∷ [];
    })
    (Look 0 2 0 ∷ Write 0 3 1 ∷ Look 0 4 0 ∷ Bare ∷ [])
    (Err Stale ∷ Err (Below 4) ∷ Ok (Looked (record { read_only = 4; head = 0; tail = 4 }))
    ∷ Ok (Bumped 1) ∷ [])
    (record {
      sizes = small;
      epoch = 2;
      slots = Some (slot_at 1 4 0 4) ∷ None ∷ [];
      waiting = [];
      taken = [];
      six = record { closed = 0; head = 0; flushed = 0; safe_read_only = 0; read_only = 4; tail = 4 };
      frames = Some (bare_page 0) ∷ None ∷ [];
    })

-- cut after a bare bump behind a full drain list: another is accepted, and an action only once one was done
abbrev pub CutBareBump : Type 0
CutBareBump = Cuts
    (Acquire 0 ∷ Bump 5 ∷ Bump 6 ∷ Bare ∷ [])
    (record {
      sizes = small;
      epoch = 4;
      slots = Some (slot_at 1 0 0 0) ∷ None ∷ [];
      waiting = job 1 5 ∷ job 2 6 ∷ [];
      taken = [];
      six = no_offsets;
      frames = None ∷ None ∷ [];
    })
    (Bare ∷ Bump 8 ∷ Refresh 0 ∷ Take ∷ Bump 8 ∷ Done 1 ∷ Bump 8 ∷ [])
    (Ok (Bumped 4) ∷ Err DrainFull ∷ Ok (Entered 5 (record { read_only = 0; head = 0; tail = 0 }))
    ∷ Ok (Taken 1) ∷ Err DrainFull ∷ Ok (Ran 5) ∷ Ok (Ticket 5) ∷ [])
    (record {
      sizes = small;
      epoch = 6;
      slots = Some (slot_at 5 0 0 0) ∷ None ∷ [];
      waiting = job 2 6 ∷ job 5 8 ∷ [];
      taken = [];
      six = no_offsets;
      frames = None ∷ None ∷ [];
    })

-- a base at an epoch, with one slot at another, and these actions waiting
abbrev pub at_epoch : ℕ → ℕ → List Waiting → Base
at_epoch epoch slot waiting = record {
  sizes = small;
  epoch = epoch;
  slots = Some (slot_at slot 0 0 0) ∷ None ∷ [];
  waiting = waiting;
  taken = [];
  six = no_offsets;
  frames = None ∷ None ∷ [];
}

-- 4,096 epochs may have ended and not be safe, and no more; the last epoch and the drain list are tried first
pub record FullWindow : Type 0 where
  pub fills : replies_from (at_epoch 4096 1 []) (Bare ∷ Bare ∷ Bump 7 ∷ Refresh 0 ∷ Bump 7 ∷ [])
      ≡ Ok (Bumped 4096) ∷ Err WindowFull ∷ Err WindowFull
      ∷ Ok (Entered 4097 (record { read_only = 0; head = 0; tail = 0 })) ∷ Ok (Ticket 4097) ∷ []
  pub drain_first : replies_from (at_epoch 4097 1 (job 1 5 ∷ job 2 6 ∷ [])) (Bump 7 ∷ Bare ∷ [])
      ≡ Err DrainFull ∷ Err WindowFull ∷ []
  pub epochs_first : replies_from (at_epoch (2 ^ 62) (2 ^ 62 - 4096) []) (Bump 7 ∷ Bare ∷ [])
      ≡ Err EpochsSpent ∷ Err EpochsSpent ∷ []
