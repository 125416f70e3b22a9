-- What each step makes of the drain list, of the six offsets and of the pages.
use Rattle.std.proofs.Common.{◌≡◌, ℕ, ◌+◌, ◌*◌, ◌≤◌, Bool, true, false, cond, ◌&&◌, ◌||◌, max, List, [], ◌∷◌, ◌++◌, length, refl, ap, ◌∙◌, append-nil}
use Rattle.std.specs.Prelude.{◌==◌, Some, None}
use Rattle.hl_model.specs.declared.fault.Fault.TheVariants.{NotTaken}
use Rattle.hl_model.specs.declared.step.Step.{Step}
use Rattle.hl_model.specs.declared.step.Step.TheVariants.{Take, Done, Raise, Shift, Allocate, FlushDone, CleanDone}
use Rattle.hl_model.specs.Sizes.{Sizes}
use Rattle.hl_model.specs.Actions.{stores, is_take, is_done, finishes, takes, actions, pending, is_taken}
use Rattle.hl_model.specs.Offsets.{raised_to, shifted_to, read_only, head, place_of, tail_past, tail}
use Rattle.hl_model.specs.Settled.{settles, closes, safe_read_only, closed}
use Rattle.hl_model.specs.Pages.{flush_of, flushes, clean_of, frees, is_flushed, is_freed, flushed}
use Rattle.hl_model.specs.Snapshots.{six}
use Rattle.hl_model.specs.Replies.{fault_of, IsAccepted}
use Rattle.hl_laws.specs.Follows.{ActionsFollow, moves_offsets, OffsetsMove, OffsetsFollow, PagesFollow}
use Rattle.hl_laws.proofs.ActionLaws.{pending-stores, taken-stores, pending-take, pending-done, taken-done}
use Rattle.hl_laws.proofs.DrainLaws.{takes-le-actions, taken-next, finishes-none}
use Rattle.hl_laws.proofs.OffsetLaws.{read_only-stay, head-stay, tail-push, read_only-raise, head-shift}
use Rattle.hl_laws.proofs.SettledLaws.{action_of-none, done_greatest-quiet, done_greatest-done}
use Rattle.hl_laws.proofs.WorkLaws.{is_flushed-push, is_freed-push, is_in_flight-take, is_in_flight-done, is_in_flight-stay, is_cleaning-take, is_cleaning-done, is_cleaning-stay, is_flushed-stay, is_freed-stay}
use Rattle.hl_laws.proofs.RunLaws.{flushed_run-stay}

-- a step that stores an action takes nothing and ends nothing
stores-is_take : (s : Step) → stores s ≡ true → is_take s ≡ false
stores-is_take Take h = cc
stores-is_take _ h = refl

stores-finishes : (c : ℕ) (s : Step) → stores s ≡ true → finishes c s ≡ false
stores-finishes c (Done ticket) h = cc
stores-finishes c _ h = refl

pub actions_follow : ActionsFollow
actions_follow sizes A acc = record {
  stored = λ s b. (pending-stores A s fits (stores-is_take s b), taken-stores A s fits (stores-is_take s b) (λ c. stores-finishes c s b));
  took = λ w others h. (pending-take A w others h, taken-next sizes A w others acc h);
  done = λ c. (pending-done A c, taken-done A c);
  others = λ s b t d. (
    pending-stores A s fits t ∙ ap (λ ws. pending A ++ ws) (action_of-none A s b) ∙ append-nil (pending A),
    taken-stores A s fits t (λ c. finishes-none c s d),
  );
}
  where
    fits : takes A ≤ length (actions A)
    fits = takes-le-actions sizes A acc

-- six offsets that are these
six_at : (sizes : Sizes) (B : List Step) (c h f s r t : ℕ) → closed B ≡ c → head B ≡ h → flushed sizes B ≡ f → safe_read_only B ≡ s → read_only B ≡ r → tail sizes B ≡ t → six sizes B ≡ record { closed = c; head = h; flushed = f; safe_read_only = s; read_only = r; tail = t }
six_at sizes B c h f s r t is_closed is_head is_flushed is_safe is_read_only is_tail = cc

-- a step that ends no flush leaves the flushed offset
flushed-stay : (sizes : Sizes) (A : List Step) (s : Step) → ((p : ℕ) → flushes p s ≡ false) → flushed sizes (A ++ s ∷ []) ≡ flushed sizes A
flushed-stay sizes A s quiet = ap (λ n. sizes.page_size * n) (flushed_run-stay sizes A s quiet)

module _ (sizes : Sizes) (A : List Step) (acc : IsAccepted sizes A) where
  closed-same : (s : Step) → is_done s ≡ false → closed (A ++ s ∷ []) ≡ closed A
  closed-same s d = done_greatest-quiet sizes closes A s acc d

  safe-same : (s : Step) → is_done s ≡ false → safe_read_only (A ++ s ∷ []) ≡ safe_read_only A
  safe-same s d = done_greatest-quiet sizes settles A s acc d

  -- a step that moves no offset
  six-stay : (s : Step) → is_done s ≡ false → shifted_to s ≡ 0 → ((p : ℕ) → flushes p s ≡ false) → raised_to s ≡ 0 → tail_past sizes.page_size (tail sizes A) s ≡ tail sizes A → six sizes (A ++ s ∷ []) ≡ six sizes A
  six-stay s d h f r t =
      six_at sizes (A ++ s ∷ []) (closed A) (head A) (flushed sizes A) (safe_read_only A) (read_only A) (tail sizes A)
      (closed-same s d) (head-stay A s h) (flushed-stay sizes A s f) (safe-same s d) (read_only-stay A s r) (tail-push sizes A s ∙ t)

  six-others : (s : Step) → moves_offsets s ≡ false → six sizes (A ++ s ∷ []) ≡ six sizes A
  six-others (Raise x) m = cc
  six-others (Shift x) m = cc
  six-others (Allocate t n) m = cc
  six-others (Done ticket) m = cc
  six-others (FlushDone page ok) m = cc
  six-others s m = six-stay s refl refl (λ p. refl) refl refl

  -- a done of a taken action meets no fault
  done-free : (c : ℕ) → is_taken c A ≡ true → fault_of sizes A (Done c) ≡ None
  done-free c h = ap (λ b. cond b None (Some NotTaken)) h

  offsets_move : OffsetsMove sizes A
  offsets_move = record {
    raise = λ x h. six_at sizes (A ++ Raise x ∷ []) (closed A) (head A) (flushed sizes A) (safe_read_only A) x (tail sizes A)
        (closed-same (Raise x) refl) (head-stay A (Raise x) refl) (flushed-stay sizes A (Raise x) (λ p. refl)) (safe-same (Raise x) refl) (read_only-raise sizes A x h) (tail-push sizes A (Raise x));
    shift = λ x h. six_at sizes (A ++ Shift x ∷ []) (closed A) x (flushed sizes A) (safe_read_only A) (read_only A) (tail sizes A)
        (closed-same (Shift x) refl) (head-shift sizes A x h) (flushed-stay sizes A (Shift x) (λ p. refl)) (safe-same (Shift x) refl) (read_only-stay A (Shift x) refl) (tail-push sizes A (Shift x));
    allocate = λ t n. six_at sizes (A ++ Allocate t n ∷ []) (closed A) (head A) (flushed sizes A) (safe_read_only A) (read_only A) (place_of sizes.page_size (tail sizes A) n + n)
        (closed-same (Allocate t n) refl) (head-stay A (Allocate t n) refl) (flushed-stay sizes A (Allocate t n) (λ p. refl)) (safe-same (Allocate t n) refl) (read_only-stay A (Allocate t n) refl) (tail-push sizes A (Allocate t n));
    done = λ c w h found. six_at sizes (A ++ Done c ∷ []) (max (closed A) (closes w.kind)) (head A) (flushed sizes A) (max (safe_read_only A) (settles w.kind)) (read_only A) (tail sizes A)
        (done_greatest-done sizes closes A c w acc (done-free c h) found) (head-stay A (Done c) refl) (flushed-stay sizes A (Done c) (λ p. refl)) (done_greatest-done sizes settles A c w acc (done-free c h) found) (read_only-stay A (Done c) refl) (tail-push sizes A (Done c));
    flush_done = λ p ok. six_at sizes (A ++ FlushDone p ok ∷ []) (closed A) (head A) (flushed sizes (A ++ FlushDone p ok ∷ [])) (safe_read_only A) (read_only A) (tail sizes A)
        (closed-same (FlushDone p ok) refl) (head-stay A (FlushDone p ok) refl) refl (safe-same (FlushDone p ok) refl) (read_only-stay A (FlushDone p ok) refl) (tail-push sizes A (FlushDone p ok));
    others = six-others;
  }

pub offsets_follow : OffsetsFollow
offsets_follow sizes A acc = offsets_move sizes A acc

or_turned : (a b : Bool) → (a || b) ≡ (b || a)
or_turned true true = refl
or_turned true false = refl
or_turned false true = refl
or_turned false false = refl

-- a step that ends no flush flushes no page, and one that ends no cleaning frees none
flushes-none : (q : ℕ) (s : Step) → flush_of s ≡ None → flushes q s ≡ false
flushes-none q (FlushDone page ok) h = cc
flushes-none q _ h = refl

frees-none : (q : ℕ) (s : Step) → clean_of s ≡ None → frees q s ≡ false
frees-none q (CleanDone page) h = cc
frees-none q _ h = refl

pub pages_follow : PagesFollow
pages_follow sizes A = record {
  flush_take = λ p q h. is_in_flight-take sizes A p q h;
  flush_done = λ p ok q. (is_in_flight-done sizes A p ok q, is_flushed-push sizes q A (FlushDone p ok) ∙ or_turned (is_flushed sizes q A) (p == q && ok));
  clean_take = λ p q h. is_cleaning-take sizes A p q h;
  clean_done = λ p q. (is_cleaning-done sizes A p q, is_freed-push sizes q A (CleanDone p) ∙ or_turned (is_freed sizes q A) (p == q));
  in_flight_stays = λ s q t e. is_in_flight-stay sizes A s q t e;
  flushed_stays = λ s q e. is_flushed-stay sizes A s q (flushes-none q s e);
  cleaning_stays = λ s q t e. is_cleaning-stay sizes A s q t e;
  freed_stays = λ s q e. is_freed-stay sizes A s q (frees-none q s e);
}
