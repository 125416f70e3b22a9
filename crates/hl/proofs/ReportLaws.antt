-- Texts that are written in two parts, and lines of holders.
use Rattle.std.proofs.Common.{◌≡◌, ℕ, ◌+◌, ◌<◌, Option, List, [], ◌++◌, length, take, drop, get_or, refl, sym, add-one, drop-cons, append-nil, Ok, Err}
use Rattle.std.specs.Prelude.{Result, OnOk, OnErr, IfErr, MatchResult}
use Rattle.std.specs.List.{flat_map}
use Rattle.std.specs.Io.KnownBytes.{Appends}
use Rattle.std.proofs.KnownBytes.{Appends-trans}
use Rattle.hl_model.specs.declared.fault.Fault.{Fault}
use Rattle.hl_model.specs.declared.fault.Fault.TheVariants.{Stream}
use Rattle.hl_model.specs.declared.snapshot.Snapshot.{Snapshot}
use Rattle.hl_model.specs.Snapshots.{snapshot_of}
use Rattle.hl_core.specs.declared.holders.Holder.{Holder}
use Rattle.hl_core.specs.Holding.{oldest, holders}
use Rattle.hl_domain.specs.Domains.{DomainState, UnderLock}
use Rattle.hl_monitor.specs.Reports.{report_text}
use Rattle.hl_line.specs.Streams.{BreaksOff}
use Rattle.hl_line.proofs.Growing.{Grows-start, Grows-part, BreaksOff-part}
use Rattle.hl.specs.Reports.{holder_text, oldest_text, IsReport}

-- the lines from one slot on are its own and the others
pub holders-drop : (holders : List Holder) (i : ℕ) (d : Holder) → i < length holders
    → holder_text (get_or holders i d) ++ flat_map holder_text (drop (i + 1) holders) ≡ flat_map holder_text (drop i holders)
holders-drop holders i d within = sym (rw (add-one, drop-cons holders i d within) refl)

-- a text of two parts breaks off in its first
pub first_breaks : (old new : Option (List ℕ)) (first rest : List ℕ) → BreaksOff old new first → BreaksOff old new (first ++ rest)
first_breaks old new first rest cut = BreaksOff-part old old new (first ++ rest) (first ++ rest) first rest (Grows-start old (first ++ rest)) refl cut

-- or in its second
second_breaks : (old mid new : Option (List ℕ)) (first rest : List ℕ) → Appends old mid first → BreaksOff mid new rest → BreaksOff old new (first ++ rest)
second_breaks old mid new first rest written cut =
    BreaksOff-part old mid new (first ++ rest) rest rest [] (Grows-part old old mid (first ++ rest) (first ++ rest) first rest (Grows-start old (first ++ rest)) written refl) (append-nil rest) cut

pub second_left : (r : Result (Unit {0}) Fault) (old mid new : Option (List ℕ)) (first rest : List ℕ) → Appends old mid first
    → OnErr r (BreaksOff mid new rest) → OnErr r (BreaksOff old new (first ++ rest))
second_left (Ok x) old mid new first rest written left = tt
second_left (Err fault) old mid new first rest written left = second_breaks old mid new first rest written left

-- what is known of both parts
pub both_told : (r : Result (Unit {0}) Fault) (old mid new : Option (List ℕ)) (first rest : List ℕ) → Appends old mid first
    → OnOk r (Appends mid new rest) → IfErr r (λ fault. fault ≡ Stream) → OnErr r (BreaksOff mid new rest)
    → MatchResult r (λ _. Appends old new (first ++ rest)) (λ fault. (fault ≡ Stream) × BreaksOff old new (first ++ rest))
both_told (Ok x) old mid new first rest written ok err left = Appends-trans old mid new first rest written ok
both_told (Err fault) old mid new first rest written ok err left = (err, second_breaks old mid new first rest written left)

-- the text of what was met under the lock
pub told_of : {F : Type 0} {log : DomainState} {now : Snapshot} {steps cut : ℕ} {ticket : Option ℕ} {holding : List Holder} → UnderLock F log (λ k A. (now ≡ snapshot_of k.core.sizes A) × (steps ≡ length k.journal) × (cut ≡ k.cut))
    → UnderLock F log (λ k A. (ticket ≡ oldest A) × (holding ≡ take 64 (holders k.core.sizes.slots A))) → IsReport F log (report_text now steps cut ++ oldest_text ticket holding)
told_of {now} {steps} {cut} {ticket} {holding} met held = record { now = now; steps = steps; cut = cut; met = met; ticket = ticket; holding = holding; held = held; text_is = refl }
