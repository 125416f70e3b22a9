-- What a step leaves that moves neither offsets nor pages.
use Rattle.std.proofs.Common.{◌≡◌, ℕ, false, List, [], ◌∷◌, ◌++◌, refl, ◌∙◌}
use Rattle.std.specs.Prelude.{None}
use Rattle.hl_model.specs.declared.step.Step.{Step}
use Rattle.hl_model.specs.Sizes.{Sizes}
use Rattle.hl_model.specs.Actions.{is_done}
use Rattle.hl_model.specs.Offsets.{raised_to, shifted_to, tail_past, tail}
use Rattle.hl_model.specs.Settled.{safe_read_only, closed, settles, closes}
use Rattle.hl_model.specs.Pages.{takes_to_flush, flush_of, flushes, takes_to_clean, clean_of, frees}
use Rattle.hl_model.specs.Replies.{IsAccepted}
use Rattle.hl_laws.proofs.OffsetLaws.{read_only-stay, head-stay, tail-push}
use Rattle.hl_laws.proofs.SettledLaws.{done_greatest-quiet}
use Rattle.hl_core.specs.Standing.{log_of, pages_of}
use Rattle.hl_core.proofs.PageMoves.{pages_of-quiet}

-- the safe read-only offset and the closed one stay where nothing is done
pub safe_read_only-quiet : (sizes : Sizes) (A : List Step) (s : Step) → IsAccepted sizes A → is_done s ≡ false → safe_read_only (A ++ s ∷ []) ≡ safe_read_only A
safe_read_only-quiet sizes A s acc h = done_greatest-quiet sizes settles A s acc h

pub closed-quiet : (sizes : Sizes) (A : List Step) (s : Step) → IsAccepted sizes A → is_done s ≡ false → closed (A ++ s ∷ []) ≡ closed A
closed-quiet sizes A s acc h = done_greatest-quiet sizes closes A s acc h

-- a step that moves no offset
pub record OffsetsStay (s : Step) : Type 0 where
  pub done : is_done s ≡ false
  pub raised : raised_to s ≡ 0
  pub shifted : shifted_to s ≡ 0
  pub allocated : (page_size tail : ℕ) → tail_past page_size tail s ≡ tail

-- a step that takes no page and ends no page's work
pub record PagesStay (s : Step) : Type 0 where
  pub flush_taken : takes_to_flush s ≡ false
  pub flush_ended : flush_of s ≡ None
  pub flushed : (p : ℕ) → flushes p s ≡ false
  pub clean_taken : takes_to_clean s ≡ false
  pub clean_ended : clean_of s ≡ None
  pub freed : (p : ℕ) → frees p s ≡ false

pub tail-stays : (sizes : Sizes) (A : List Step) (s : Step) → ((page_size tail : ℕ) → tail_past page_size tail s ≡ tail) → tail sizes (A ++ s ∷ []) ≡ tail sizes A
tail-stays sizes A s h = tail-push sizes A s ∙ h sizes.page_size (tail sizes A)

-- the offsets after it
pub log-stays : (sizes : Sizes) (A : List Step) (s : Step) → IsAccepted sizes A → OffsetsStay s → log_of sizes (A ++ s ∷ []) ≡ log_of sizes A
log-stays sizes A s acc h =
    rw (closed-quiet sizes A s acc h.done, head-stay A s h.shifted, safe_read_only-quiet sizes A s acc h.done, read_only-stay A s h.raised, tail-stays sizes A s h.allocated) refl

-- and the pages
pub pages-stay : (sizes : Sizes) (A : List Step) (s : Step) → ((page_size tail : ℕ) → tail_past page_size tail s ≡ tail) → PagesStay s → pages_of sizes (A ++ s ∷ []) ≡ pages_of sizes A
pages-stay sizes A s t h = pages_of-quiet sizes A s (tail-stays sizes A s t) h.flush_taken h.flush_ended h.flushed h.clean_taken h.clean_ended h.freed
