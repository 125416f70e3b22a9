-- What a pass keeps of its slot, and what it becomes.
use Rattle.std.specs.Prelude.{ℕ, ◌≤◌, ◌==◌, Bool, ◌&&◌, Option, unwrap_or}
use Rattle.hl_model.specs.declared.view.View.{View}
use Rattle.hl_pass.specs.declared.pass_view.PassView.{PassView}

-- the pass saw no offset without the lock that its slot didn't
abbrev pub is_up : PassView → Bool
is_up p = p.view.read_only == p.held.read_only && p.view.head == p.held.head

-- the pass saw nothing below what its slot did
abbrev pub IsRisen : PassView → Type 0
IsRisen p = (p.held.read_only ≤ p.view.read_only) × (p.held.head ≤ p.view.head)

-- the pass that sees this view
abbrev pub seeing : View → PassView → PassView
seeing view p = record {
  slot = p.slot;
  stamp = p.stamp;
  epoch = p.epoch;
  held = p.held;
  view = view;
}

-- the pass whose slot has this epoch and this view
abbrev pub rested : ℕ → View → PassView → PassView
rested epoch view p = record {
  slot = p.slot;
  stamp = p.stamp;
  epoch = epoch;
  held = view;
  view = view;
}

-- the same, where the slot has this view if it is protected
abbrev pub rested_in : Option View → ℕ → PassView → PassView
rested_in view epoch p = rested epoch (unwrap_or view p.view) p

-- the pass with a stamp of its own
abbrev pub stamped : ℕ → PassView → PassView
stamped stamp p = record {
  slot = p.slot;
  stamp = stamp;
  epoch = p.epoch;
  held = p.held;
  view = p.view;
}
