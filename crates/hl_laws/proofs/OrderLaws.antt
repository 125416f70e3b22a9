-- The offsets of an accepted list are in order, and none ever falls.
use Rattle.hl_laws.specs.Laws.{OffsetsAreInOrder, OffsetsNeverFall}
use Rattle.hl_laws.proofs.RunLaws.{flushed-append, flushed-whole}
use Rattle.hl_laws.proofs.PageFacts.{head-le-flushed, flushed-le-safe_read_only}
use Rattle.hl_laws.proofs.BoundLaws.{closed-le-head, safe_read_only-le-read_only, read_only-le-tail, tail-le, closed-whole, head-whole, read_only-append, head-append, tail-append, safe_read_only-append, closed-append}

pub offsets_are_in_order : OffsetsAreInOrder
offsets_are_in_order sizes A some a = record {
  closed_whole = closed-whole sizes A a;
  head_whole = head-whole sizes A a;
  flushed_whole = flushed-whole sizes A;
  closed_most = closed-le-head sizes A a;
  head_most = head-le-flushed sizes A a;
  flushed_most = flushed-le-safe_read_only sizes A some a;
  safe_read_only_most = safe_read_only-le-read_only sizes A a;
  read_only_most = read_only-le-tail sizes A some a;
  tail_most = tail-le sizes A a;
}

pub offsets_never_fall : OffsetsNeverFall
offsets_never_fall sizes A B some a = record {
  closed_least = closed-append sizes A B a;
  head_least = head-append sizes A B a;
  flushed_least = flushed-append sizes A B;
  safe_read_only_least = safe_read_only-append sizes A B a;
  read_only_least = read_only-append sizes A B a;
  tail_least = tail-append sizes A B some a;
}
