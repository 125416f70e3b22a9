-- The offsets of a log: what is true of all of them, and what each call makes of them.
use Rattle.std.specs.Prelude.{◌≡◌, ℕ, ◌+◌, ◌%◌, ◌^◌, ◌≤◌, max, IsTrue}
use Rattle.std.specs.Int.{is_power_of_two}
use Rattle.hl_model.specs.declared.view.Six.{Six}
use Rattle.hl_model.specs.Offsets.{place_of}

-- how many words a page has, and the offsets, each an address
pub record Log : Type 0 where
  pub page_size : ℕ
  pub closed : ℕ
  pub head : ℕ
  pub safe_read_only : ℕ
  pub read_only : ℕ
  pub tail : ℕ

-- what is true of every log
pub record IsLog (log : Log) : Type 0 where
  pub page_size_least : 4 ≤ log.page_size
  pub page_size_most : log.page_size ≤ 2 ^ 20
  pub page_size_power : IsTrue (is_power_of_two log.page_size)
  pub closed_whole : log.closed % log.page_size ≡ 0
  pub head_whole : log.head % log.page_size ≡ 0
  pub closed_most : log.closed ≤ log.head
  pub head_most : log.head ≤ log.safe_read_only
  pub safe_read_only_most : log.safe_read_only ≤ log.read_only
  pub read_only_most : log.read_only ≤ log.tail
  pub tail_most : log.tail ≤ 2 ^ 48

-- no offset is lower than it was
pub record NoneFalls (old new : Log) : Type 0 where
  pub closed_least : old.closed ≤ new.closed
  pub head_least : old.head ≤ new.head
  pub safe_read_only_least : old.safe_read_only ≤ new.safe_read_only
  pub read_only_least : old.read_only ≤ new.read_only
  pub tail_least : old.tail ≤ new.tail

-- nothing is allocated yet
abbrev pub started : ℕ → Log
started page_size =
    record { page_size = page_size; closed = 0; head = 0; safe_read_only = 0; read_only = 0; tail = 0 }

-- the offsets of the six but the flushed one
abbrev pub resumed : ℕ → Six → Log
resumed page_size six =
    record {
      page_size = page_size;
      closed = six.closed;
      head = six.head;
      safe_read_only = six.safe_read_only;
      read_only = six.read_only;
      tail = six.tail;
    }

-- the read-only offset is x
abbrev pub raised : ℕ → Log → Log
raised x log = record log { read_only = x }

-- the head is x
abbrev pub shifted : ℕ → Log → Log
shifted x log = record log { head = x }

-- the safe read-only offset is x, where that is more
abbrev pub settled : ℕ → Log → Log
settled x log = record log { safe_read_only = max log.safe_read_only x }

-- the closed offset is x, where that is more
abbrev pub closed_up_to : ℕ → Log → Log
closed_up_to x log = record log { closed = max log.closed x }

-- a record of n words is the last one
abbrev pub allocated : ℕ → Log → Log
allocated n log = record log { tail = place_of log.page_size log.tail n + n }

-- the offsets with this flushed one among them
abbrev pub six_of : Log → ℕ → Six
six_of log flushed =
    record {
      closed = log.closed;
      head = log.head;
      flushed = flushed;
      safe_read_only = log.safe_read_only;
      read_only = log.read_only;
      tail = log.tail;
    }
