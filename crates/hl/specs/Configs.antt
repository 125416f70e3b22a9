-- The numbers of a log with threads, a crew and one session more.
use Rattle.std.specs.Prelude.{◌≡◌, ◌+◌, ◌-◌, ◌/◌, ◌^◌, ℕ, max, min, nat_le, nat_lt, Bool, false, ◌&&◌, if◌then◌else◌, Some}
use Rattle.std.specs.Int.{is_power_of_two}
use Rattle.hl_model.specs.Sizes.{Sizes}
use Rattle.hl_crew.specs.declared.duty.Duty.{Duty}
use Rattle.hl_crew.specs.declared.limits.Cuts.{Cuts}
use Rattle.hl_crew.specs.declared.limits.Cuts.TheVariants.{Above}
use Rattle.hl.specs.declared.config.Config.{Config}
use Rattle.hl.specs.declared.config.Number.{Number}
use Rattle.hl.specs.declared.config.Number.TheVariants.{Threads, PageSize, Frames, Actions, Mutable, Resident, Journal, Stamp}
use Rattle.hl.specs.declared.opening.Opening.{Opening}

-- whether this number is in its range
unfoldable pub fits : Config → Number → Bool
fits c Threads = nat_le 1 c.threads && nat_le c.threads 1024
fits c PageSize = nat_le 4 c.page_size && (nat_le c.page_size (2 ^ 20) && is_power_of_two c.page_size)
fits c Frames = nat_le 2 c.frames && nat_le c.frames (2 ^ 16)
fits c Actions = nat_le 1 c.actions && nat_le c.actions 4096
fits c Mutable = nat_le 1 c.mutable && nat_le c.mutable c.resident
fits c Resident = nat_lt c.resident c.frames
fits c Journal = nat_le 33 c.journal && nat_le c.journal (2 ^ 62)
fits c Stamp = nat_le c.stamp (2 ^ 62)

-- whether all are
unfoldable pub all_fit : Config → Bool
all_fit c = fits c Threads && (fits c PageSize && (fits c Frames && (fits c Actions
    && (fits c Mutable && (fits c Resident && (fits c Journal && fits c Stamp))))))

-- pages of 4,096 words, 256 frames, 16 places for actions, a journal of 2^15 steps
abbrev pub for_threads : ℕ → Config
for_threads threads = record {
  threads = threads;
  page_size = 4096;
  frames = 256;
  actions = 16;
  mutable = 144;
  resident = 192;
  journal = 2 ^ 15;
  stamp = 1;
  flush_at_end = false;
}

-- the same with so many frames: a quarter of them, but at least one, is free for what is placed while the crew works; of
-- the pages in the others a quarter is read-only
abbrev pub with_frames : ℕ → Config → Config
with_frames frames c =
    let resident = frames - min (max (frames / 4) 1) frames
    in record c { frames = frames; mutable = resident - resident / 4; resident = resident }

-- the sizes of its log: a slot for each thread
abbrev pub sizes_of_config : Config → Sizes
sizes_of_config c =
    record { page_size = c.page_size; frames = c.frames; slots = c.threads; drain = c.actions }

-- how many riders stand behind those of the threads and the crew: one to finish, and one to flush, if that is wanted
abbrev pub behind : Bool → ℕ
behind flush = if flush then 2 else 1

-- its opening: a rider for each thread, four for the crew, one to finish, and one to flush at the end, if that is wanted
abbrev pub opening_of : Config → Opening Sizes
opening_of c = record {
  params = sizes_of_config c;
  riders = c.threads + 4 + behind c.flush_at_end;
  journal = c.journal;
  stamp = c.stamp;
}

-- how many steps its journal may have at the end of a crew's turn: half of it, and so few that there is room for 33, which
-- a locked call of a session with 32 touches enters
abbrev pub most_steps : Config → ℕ
most_steps c = min (c.journal / 2) (c.journal - 33)

-- how the session of finish cuts it
abbrev pub cuts_of : Config → Cuts
cuts_of c = Above (most_steps c)

-- this is the duty of its crew
abbrev pub IsDutyOf : Config → Duty → Type 0
IsDutyOf c duty = (duty.frames ≡ c.frames) × (duty.mutable ≡ c.mutable) × (duty.resident ≡ c.resident)
    × (duty.cut_above ≡ Some (most_steps c))
