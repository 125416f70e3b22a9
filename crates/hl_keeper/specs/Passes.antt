-- What a pass keeps, what its calls without the lock answer, and what they leave.
use Rattle.std.specs.Prelude.{◌≡◌, ℕ, ◌≤◌, ◌+◌, ◌*◌, ◌/◌, ◌%◌, ◌==◌, nat_lt, Bool, ◌&&◌, if◌then◌else◌, Option, Some, None, Result, MatchResult, List, [], ◌∷◌, ◌++◌, length}
use Rattle.hl_model.specs.declared.fault.Fault.{Fault}
use Rattle.hl_model.specs.declared.fault.Fault.TheVariants.{TouchesFull}
use Rattle.hl_model.specs.declared.slot.Slot.{Slot}
use Rattle.hl_model.specs.declared.step.Step.{Step}
use Rattle.hl_model.specs.declared.step.Step.TheVariants.{Look, Write}
use Rattle.hl_model.specs.declared.view.View.{View}
use Rattle.hl_model.specs.Sizes.{Sizes}
use Rattle.hl_model.specs.Replies.{or_fault}
pub use Rattle.hl_words.specs.Cells.{cell_at}
use Rattle.hl_words.specs.declared.which.Which.TheVariants.{ReadOnly, Head, Ended}
use Rattle.hl_words.specs.States.{RiderState, with_view}
use Rattle.hl_words.specs.Views.{offset_of, looked, greatest_of, stored, changed, loaded, with_loaded}
use Rattle.hl_pass.specs.declared.pass_view.PassView.{PassView}
use Rattle.hl_pass.specs.Views.{rises, raised, store_fault as view_store_fault, load_fault as view_load_fault, is_current as view_is_current}
use Rattle.hl_keeper.specs.Touches.{view_after}

-- a pass: its slot and stamp, the epoch that its slot has, the view at its last locked call, its looks and
-- stores since then, and its rider
pub record PassRecord : Type 0 where
  pub slot : ℕ
  pub stamp : ℕ
  pub epoch : ℕ
  pub held : View
  pub touches : List Step
  pub rider : RiderState

-- its own view
abbrev pub seen : PassRecord → View
seen p = view_after p.held p.touches

-- what it keeps of its slot
abbrev pub own_of : PassRecord → PassView
own_of p =
    record { slot = p.slot; stamp = p.stamp; epoch = p.epoch; held = p.held; view = seen p }

-- how many touches a pass can have
abbrev pub touches_most : ℕ
touches_most = 32

-- the fault of one touch more
unfoldable pub touch_fault : PassRecord → Option Fault
touch_fault p = if length p.touches == touches_most then Some TouchesFull else None

-- the fault of a store at address a
unfoldable pub store_fault : PassRecord → ℕ → Option Fault
store_fault p a = or_fault (view_store_fault (seen p) a) (touch_fault p)

-- the fault of a load at address a
unfoldable pub load_fault : PassRecord → ℕ → Option Fault
load_fault p a = view_load_fault (seen p) a

-- the pass after a store of v at address a: its rider stored it into the address's cell, and it has one touch
-- more
unfoldable pub with_store : Sizes → ℕ → ℕ → PassRecord → PassRecord
with_store sizes a v p = record {
  slot = p.slot;
  stamp = p.stamp;
  epoch = p.epoch;
  held = p.held;
  touches = p.touches ++ Write p.slot a v ∷ [];
  rider = with_view (stored (cell_at sizes a) v p.rider.view) p.rider;
}

-- the pass after it found the one value at address a and stored v there, in one step: its rider changed the
-- address's cell, and it has one touch more
unfoldable pub with_change : Sizes → ℕ → ℕ → ℕ → PassRecord → PassRecord
with_change sizes a found v p = record {
  slot = p.slot;
  stamp = p.stamp;
  epoch = p.epoch;
  held = p.held;
  touches = p.touches ++ Write p.slot a v ∷ [];
  rider = with_view (changed (cell_at sizes a) found v p.rider.view) p.rider;
}

-- the pass after a load at address a that gave v: its rider has loaded it from the address's cell
unfoldable pub with_load : Sizes → ℕ → ℕ → PassRecord → PassRecord
with_load sizes a v p = record {
  slot = p.slot;
  stamp = p.stamp;
  epoch = p.epoch;
  held = p.held;
  touches = p.touches;
  rider = with_view (loaded (cell_at sizes a) v p.rider.view) p.rider;
}

-- the touch of a look that brings these offsets: none where neither rises
abbrev pub look_made : ℕ → View → ℕ → ℕ → List Step
look_made t v read_only head =
    if rises v read_only head
    then Look t (raised v read_only head).read_only (raised v read_only head).head ∷ []
    else []

-- the pass after a look that loaded these offsets: its rider has loaded both, and it sees the greater of each
-- and of its own
unfoldable pub with_look : ℕ → ℕ → PassRecord → PassRecord
with_look read_only head p = record {
  slot = p.slot;
  stamp = p.stamp;
  epoch = p.epoch;
  held = p.held;
  touches = p.touches ++ look_made p.slot (seen p) read_only head;
  rider = with_view (with_loaded Head head (with_loaded ReadOnly read_only p.rider.view)) p.rider;
}

-- the last offsets that its rider loaded
abbrev pub last_read_only : PassRecord → ℕ
last_read_only p = offset_of ReadOnly (looked p.rider.view.touches)

abbrev pub last_head : PassRecord → ℕ
last_head p = offset_of Head (looked p.rider.view.touches)

-- and the last epoch that ended, of those that it loaded
abbrev pub last_ended : PassRecord → ℕ
last_ended p = offset_of Ended (looked p.rider.view.touches)

-- the pass after it loaded the offsets and the last epoch that ended, for its rider alone
unfoldable pub with_news : ℕ → ℕ → ℕ → PassRecord → PassRecord
with_news read_only head ended p = record {
  slot = p.slot;
  stamp = p.stamp;
  epoch = p.epoch;
  held = p.held;
  touches = p.touches;
  rider = with_view
      (with_loaded Ended ended (with_loaded Head head (with_loaded ReadOnly read_only p.rider.view))) p.rider;
}

-- none of these is new to the pass: neither offset is above the one that it saw, and its slot's epoch has not
-- ended; and it has room for a touch
unfoldable pub is_current : ℕ → ℕ → ℕ → PassRecord → Bool
is_current read_only head ended p =
    view_is_current (seen p) p.epoch (record { read_only = read_only; head = head; ended = ended })
    && nat_lt (length p.touches) touches_most

-- the pass loaded both offsets anew, neither below any that its rider had loaded
pub record LooksOn (old new : PassRecord) : Type 0 where
  pub read_only : greatest_of ReadOnly (looked old.rider.view.touches) ≤ last_read_only new
  pub head : greatest_of Head (looked old.rider.view.touches) ≤ last_head new

-- a rider that entered n steps more
abbrev pub with_share : ℕ → RiderState → RiderState
with_share n r = record { view = r.view; share = r.share + n; calls = r.calls }

-- a pass with this rider in the place of its own
abbrev pub with_rider : RiderState → PassRecord → PassRecord
with_rider r p = record {
  slot = p.slot;
  stamp = p.stamp;
  epoch = p.epoch;
  held = p.held;
  touches = p.touches;
  rider = r;
}

-- the rider of an accepted call entered n steps more, and that of a refused one none; what it stored, loaded
-- and met stays
abbrev pub Shares : {X E : Type 0} → ℕ → Result X E → RiderState → RiderState → Type 0
Shares n result old new = MatchResult result (λ _. new ≡ with_share n old) (λ _. new ≡ old)

-- the pass whose rider has entered its touches and one step more
abbrev pub entered_by : PassRecord → PassRecord
entered_by p = record {
  slot = p.slot;
  stamp = p.stamp;
  epoch = p.epoch;
  held = p.held;
  touches = p.touches;
  rider = with_share (length p.touches + 1) p.rider;
}

-- the pass after a locked call that leaves it with this epoch and view: its touches and the call's own step
-- are its rider's
unfoldable pub rested : ℕ → View → PassRecord → PassRecord
rested epoch v p = record {
  slot = p.slot;
  stamp = p.stamp;
  epoch = epoch;
  held = v;
  touches = [];
  rider = with_share (length p.touches + 1) p.rider;
}

-- a view with another tail
abbrev pub with_tail : ℕ → View → View
with_tail tail v = record { read_only = v.read_only; head = v.head; tail = tail }

-- a new pass, of a slot with this epoch and view
abbrev pub new_pass : ℕ → ℕ → Slot → RiderState → PassRecord
new_pass t stamp slot rider = record {
  slot = t;
  stamp = stamp;
  epoch = slot.epoch;
  held = slot.view;
  touches = [];
  rider = rider;
}
