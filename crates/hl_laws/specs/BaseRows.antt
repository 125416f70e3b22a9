-- What a base keeps in its rows.
use Rattle.std.specs.Prelude.{◌≡◌, vec_capacity}
use Rattle.hl_laws.specs.declared.base.Base.TheInside.{Inside}
use Rattle.hl_model.specs.Bases.{Base, IsBase}

-- the base in these rows
abbrev pub base_in : Inside → Base
base_in a = record {
  sizes = a.params;
  epoch = a.epoch;
  slots = a.slots.items;
  waiting = a.waiting.items;
  taken = a.taken.items;
  six = a.six;
  frames = a.frames.items;
}

-- it is that of some accepted list, in rows with room for all its slots, actions and frames, and for no more:
-- they never grew
pub record HasRows (a : Inside) : Type 0 where
  pub base : IsBase (base_in a)
  pub slots_room : vec_capacity a.slots ≡ a.params.slots
  pub waiting_room : vec_capacity a.waiting ≡ a.params.drain
  pub taken_room : vec_capacity a.taken ≡ a.params.drain
  pub frames_room : vec_capacity a.frames ≡ a.params.frames
