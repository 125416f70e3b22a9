-- Worked examples: quantities, and the lines of their report, written by hand.
use Rattle.std.specs.Prelude.{ℕ, ◌≡◌, List, [], ◌∷◌, ◌++◌, length, codes}
use Rattle.std.specs.List.{flat_map}
use Rattle.hl_model.specs.declared.snapshot.Snapshot.{Snapshot}
use Rattle.hl_monitor.specs.Reports.{report_text}

-- the report of these quantities, steps and cut steps has these lines, each ended by an LF, and 666 bytes
pub record Tells (now : Snapshot) (steps cut : ℕ) (lines : List (List ℕ)) : Type 0 where
  pub lines_are : report_text now steps cut ≡ flat_map (λ line. line ++ 10 ∷ []) lines
  pub bytes : length (report_text now steps cut) ≡ 666

-- one protected slot, one action done, no record
abbrev pub FirstAction : Type 0
FirstAction = Tells
    (record {
      epoch = 2;
      safe = 1;
      protected = 1;
      pending = 0;
      taken = 0;
      six = record { closed = 0; head = 0; flushed = 0; safe_read_only = 0; read_only = 0; tail = 0 };
      frames = 0 ∷ 0 ∷ 0 ∷ 0 ∷ 2 ∷ [];
    })
    5 0
    (codes "epoch                              2"
    ∷ codes "safe                               1"
    ∷ codes "protected                          1"
    ∷ codes "pending                            0"
    ∷ codes "taken                              0"
    ∷ codes "closed_at                          0"
    ∷ codes "head                               0"
    ∷ codes "flushed_to                         0"
    ∷ codes "safe_read_only                     0"
    ∷ codes "read_only                          0"
    ∷ codes "tail                               0"
    ∷ codes "open                               0"
    ∷ codes "sealed                             0"
    ∷ codes "flushed                            0"
    ∷ codes "closed                             0"
    ∷ codes "free                               2"
    ∷ codes "steps                              5"
    ∷ codes "cut                                0" ∷ [])

-- each number is another, the greatest fills its places
abbrev pub GreatestNumbers : Type 0
GreatestNumbers = Tells
    (record {
      epoch = 4611686018427387904;
      safe = 4611686018427383807;
      protected = 64;
      pending = 63;
      taken = 1;
      six = record {
        closed = 4096;
        head = 8192;
        flushed = 12288;
        safe_read_only = 16384;
        read_only = 20480;
        tail = 281474976710656;
      };
      frames = 252 ∷ 20 ∷ 19 ∷ 18 ∷ 17 ∷ [];
    })
    18446744073709551615 18446744073709551614
    (codes "epoch            4611686018427387904"
    ∷ codes "safe             4611686018427383807"
    ∷ codes "protected                         64"
    ∷ codes "pending                           63"
    ∷ codes "taken                              1"
    ∷ codes "closed_at                       4096"
    ∷ codes "head                            8192"
    ∷ codes "flushed_to                     12288"
    ∷ codes "safe_read_only                 16384"
    ∷ codes "read_only                      20480"
    ∷ codes "tail                 281474976710656"
    ∷ codes "open                             252"
    ∷ codes "sealed                            20"
    ∷ codes "flushed                           19"
    ∷ codes "closed                            18"
    ∷ codes "free                              17"
    ∷ codes "steps           18446744073709551615"
    ∷ codes "cut             18446744073709551614" ∷ [])
