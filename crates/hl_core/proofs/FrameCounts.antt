-- How many frames are at each state, wherever a core stands.
use Rattle.std.proofs.Common.{◌≡◌, ℕ, ◌+◌, ◌*◌, ◌/◌, ◌<◌, ◌≤◌, true, List, length, sym, ap, ap₂, ◌∙◌, subst, arith}
use Rattle.std.proofs.Math.Nat.{le-div_iff_mul-le}
use Rattle.hl_model.specs.declared.step.Step.{Step}
use Rattle.hl_model.specs.Settled.{safe_read_only, closed}
use Rattle.hl_model.specs.Pages.{is_flushed, is_freed}
use Rattle.hl_model.specs.Frames.{frame_of}
use Rattle.hl_model.specs.Snapshots.{state_counts, frame_states, snapshot_of}
use Rattle.hl_laws.proofs.RowLaws.{rows_within}
use Rattle.hl_frames.specs.Pages.{Pages, pages_below, is_flushed as FLUSHED, is_freed as FREED}
use Rattle.hl_frames.specs.Answers.{state_of, states, counts_of}
use Rattle.hl_core.specs.Standing.{State, Stands, IsStanding}
use Rattle.hl_core.proofs.PageFound.{state_found}
use Rattle.hl_core.proofs.PageMarks.{page_size_some, kept, is_flushed-is, is_freed-is}
use Rattle.hl_core.proofs.PageRows.{length-frames}

module _ {J : Type 0} (tag : J → ℕ) (core : State J) where
  -- a page that ends at or below an offset is below it
  ends_below : (A : List Step) (q offset : ℕ) → Stands tag core A → (q + 1) * core.sizes.page_size ≤ offset → q < pages_below offset core.pages
  ends_below A q offset st ends =
      let below : q + 1 ≤ offset / core.sizes.page_size = (le-div_iff_mul-le (page_size_some core.sizes st.in_range)).1 ends in
      subst (λ (pages : Pages). q < pages_below offset pages) (sym st.pages_is) (omega arith)

  -- flushed pages are sealed
  pub flushed_fits : IsStanding tag core → (q : ℕ) → FLUSHED q core.pages ≡ true → q < pages_below core.offsets.safe_read_only core.pages
  flushed_fits (A, st) q h =
      let flushed : is_flushed core.sizes q A ≡ true = sym (ap (FLUSHED q) st.pages_is ∙ is_flushed-is core.sizes A q st.accepted) ∙ h in
      let offset = ap (λ log. log.safe_read_only) st.offsets_is in
      rw offset (ends_below A q (safe_read_only A) st ((kept core.sizes A st.in_range st.accepted).flushed_sealed q flushed))

  -- freed pages are closed
  pub freed_fits : IsStanding tag core → (q : ℕ) → FREED q core.pages ≡ true → q < pages_below core.offsets.closed core.pages
  freed_fits (A, st) q h =
      let freed : is_freed core.sizes q A ≡ true = sym (ap (FREED q) st.pages_is ∙ is_freed-is core.sizes A q st.accepted) ∙ h in
      let offset = ap (λ log. log.closed) st.offsets_is in
      rw offset (ends_below A q (closed A) st ((kept core.sizes A st.in_range st.accepted).freed_closed q freed))

  -- what each frame is at
  states_found : (A : List Step) → Stands tag core A → states core.offsets.safe_read_only core.offsets.closed core.pages ≡ frame_states core.sizes A
  unfolding states frame_states
  states_found A st =
      let count : length core.pages.frames ≡ core.sizes.frames = ap (λ (pages : Pages). length pages.frames) st.pages_is ∙ length-frames core.sizes A in
      rw count
      (rows_within (λ f. (state_of f core.offsets.safe_read_only core.offsets.closed core.pages).0) (λ f. (frame_of core.sizes f A).0) core.sizes.frames (λ f below. ap (λ told. told.0) (state_found tag core A f st below)))

  -- how many are said to be at each state
  pub counts_told : (sro end : ℕ) (told : List ℕ) → sro ≡ core.offsets.safe_read_only → end ≡ core.offsets.closed → told ≡ counts_of sro end core.pages → (A : List Step) → Stands tag core A → told ≡ (snapshot_of core.sizes A).frames
  counts_told sro end told at_sro at_end is A st =
      is ∙ ap₂ (λ x y. counts_of x y core.pages) at_sro at_end ∙ ap state_counts (states_found A st)
