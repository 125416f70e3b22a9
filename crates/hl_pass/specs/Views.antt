-- What a view allows, how it rises, and what is new to it.
use Rattle.std.specs.Prelude.{ℕ, ◌==◌, nat_lt, nat_le, max, Bool, false, ◌&&◌, ◌||◌, if◌then◌else◌, Option, Some, None}
use Rattle.hl_model.specs.declared.fault.Fault.{Fault}
use Rattle.hl_model.specs.declared.fault.Fault.TheVariants.{Below, Beyond, Evicted}
use Rattle.hl_model.specs.declared.view.View.{View}
use Rattle.hl_pass.specs.declared.news.News.{News}

-- the fault of an address at or above the tail that is seen
abbrev pub beyond_fault : View → ℕ → Option Fault
beyond_fault v a = if nat_le v.tail a then Some (Beyond v.tail) else None

-- the fault of a store at an address
abbrev pub store_fault : View → ℕ → Option Fault
store_fault v a = if nat_lt a v.read_only then Some (Below v.read_only) else beyond_fault v a

-- the fault of a load at an address
abbrev pub load_fault : View → ℕ → Option Fault
load_fault v a = if nat_lt a v.head then Some (Evicted v.head) else beyond_fault v a

-- two views are the same
abbrev pub same_view : View → View → Bool
same_view v w = v.read_only == w.read_only && (v.head == w.head && v.tail == w.tail)

-- a slot has this view
abbrev pub has_view : Option View → View → Bool
has_view None w = false
has_view (Some v) w = same_view v w

-- one of these offsets is above that of the view
abbrev pub rises : View → ℕ → ℕ → Bool
rises v read_only head = nat_lt v.read_only read_only || nat_lt v.head head

-- the view with these offsets, where they are above its own
abbrev pub raised : View → ℕ → ℕ → View
raised v read_only head = record {
  read_only = max v.read_only read_only;
  head = max v.head head;
  tail = v.tail;
}

-- nothing that was loaded is new: neither offset is above that of the view, and the epoch has not ended
abbrev pub is_current : View → ℕ → News → Bool
is_current v epoch news = nat_le news.read_only v.read_only
    && (nat_le news.head v.head && nat_lt news.ended epoch)
