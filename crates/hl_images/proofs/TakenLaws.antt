-- A page that is taken to be flushed is sealed.
use Rattle.std.proofs.Common.{◌≡◌, ℕ, ◌+◌, ◌*◌, ◌<◌, ◌≤◌, true, List, [], ◌∷◌, ◌++◌, length, Some, refl, sym, subst, arith}
use Rattle.hl_model.specs.declared.step.Step.{Step}
use Rattle.hl_model.specs.declared.step.Step.TheVariants.{Write, FlushTake, FlushDone}
use Rattle.hl_model.specs.Pages.{flushing, marks, next_to_flush}
use Rattle.hl_model.specs.Replies.{IsAccepted}
use Rattle.hl_model.specs.Settled.{safe_read_only}
use Rattle.hl_model.specs.Sizes.{Sizes}
use Rattle.hl_history.specs.declared.view.Entry.{Entry}
use Rattle.hl_history.specs.Lists.{Begins, left_by}
use Rattle.hl_laws.proofs.BoundLaws.{safe_read_only-append}
use Rattle.hl_laws.proofs.PageFacts.{ends_below}
use Rattle.hl_laws.proofs.WorkLaws.{next_page-parts}
use Rattle.hl_images.specs.Entered.{IsOneCall}
use Rattle.hl_images.proofs.PlaceLaws.{shorter, low_write}

module _ (sizes : Sizes) (whole : List Step) (page_some : 0 < sizes.page_size) (frames_some : 0 < sizes.frames) (accepted : IsAccepted sizes whole) (p k : ℕ) (inside : k < sizes.page_size) (list later : List Step)
    (taken : next_to_flush sizes list ≡ Some p) (take : Begins (list ++ FlushTake ∷ []) whole) (done : Begins (later ++ FlushDone p true ∷ []) whole) where
  abbrev place : ℕ
  place = p * sizes.page_size + k

  at_list : Begins list whole
  at_list = shorter sizes whole page_some frames_some accepted list (FlushTake ∷ []) take

  -- the page is sealed when it is taken
  pub sealed : (p + 1) * sizes.page_size ≤ safe_read_only list
  sealed = ends_below sizes.page_size (safe_read_only list) p (next_page-parts (flushing sizes) list (marks (flushing sizes) list) p taken).0

  pub sealed_whole : (p + 1) * sizes.page_size ≤ safe_read_only whole
  sealed_whole =
      let more = safe_read_only-append sizes list at_list.0 (subst (IsAccepted sizes) at_list.1 accepted) in
      subst (λ (l : List Step). (p + 1) * sizes.page_size ≤ safe_read_only l) (sym at_list.1) (omega (arith, sealed, more))

  -- a call that wrote in the page left no longer list than the take met
  pub low_call : (e : Entry) (slot v : ℕ) (first rest : List Step) → Begins (left_by e) whole → IsOneCall e.steps → e.steps ≡ first ++ Write slot place v ∷ rest → length (left_by e) ≤ length list
  low_call e slot v first rest b one is =
      let end : (p + 1) * sizes.page_size ≡ p * sizes.page_size + sizes.page_size = omega arith in
      low_write sizes whole page_some frames_some accepted list FlushTake refl refl take e slot place v first rest (omega (arith, sealed, end, inside)) b one is
