-- A core at the empty list.
use Rattle.std.proofs.Common.{◌≡◌, ℕ, ◌+◌, ◌-◌, ◌/◌, ◌<◌, is_some, List, [], map, replicate, refl, sym, ap, ap₂, ◌∙◌, subst, arith}
use Rattle.std.specs.Prelude.{Option, None}
use Rattle.std.proofs.Math.Nat.{div-eq_of_lt}
use Rattle.hl_model.specs.declared.view.View.{View}
use Rattle.hl_model.specs.Sizes.{Sizes, AreInRange}
use Rattle.hl_model.specs.Epochs.{epoch_window, Table, slot_epochs, slot_epoch}
use Rattle.hl_model.specs.Settled.{safe_read_only, closed, settles, closes}
use Rattle.hl_model.specs.Views.{slot_view, slot_views}
use Rattle.hl_laws.proofs.AcceptedLaws.{good-nil}
use Rattle.hl_laws.proofs.BaseStart.{row_same, held_of-nil}
use Rattle.hl_laws.proofs.EpochLaws.{current_epoch-nil, slot_epoch-nil, is_protected-slot_epoch}
use Rattle.hl_laws.proofs.OffsetLaws.{read_only-nil, head-nil, tail-nil}
use Rattle.hl_laws.proofs.SettledLaws.{done_greatest-nil}
use Rattle.hl_laws.proofs.ViewLaws.{slot_view-unprotected}
use Rattle.hl_laws.proofs.ActionLaws.{pending-nil, taken-nil}
use Rattle.hl_epoch.specs.Table.{opened}
use Rattle.hl_drain.specs.Actions.{waiting_of}
use Rattle.hl_drain.specs.Lists.{Lists, IsDrain}
use Rattle.hl_offsets.specs.Log.{Log, started}
use Rattle.hl_model.specs.declared.frame.Held.{Held}
use Rattle.hl_frames.specs.Answers.{opened as opened_pages}
use Rattle.hl_frames.specs.Pages.{Pages}
use Rattle.hl_model.specs.Bases.{held_of}
use Rattle.hl_core.specs.Standing.{Stands, log_of, pages_of, pages_entered}
use Rattle.hl_core.proofs.TableLaws.{make}

slot_view-nil : (sizes : Sizes) (t : ℕ) → slot_view sizes t [] ≡ None
slot_view-nil sizes t = slot_view-unprotected sizes t [] (is_protected-slot_epoch t [] ∙ ap (λ (o : Option ℕ). is_some o) (slot_epoch-nil t))

views-nil : (sizes : Sizes) → replicate sizes.slots None ≡ slot_views sizes []
unfolding slot_views
views-nil sizes = row_same (λ t. slot_view sizes t []) None 0 sizes.slots (λ t l u. slot_view-nil sizes t)

epochs-nil : (sizes : Sizes) → replicate sizes.slots None ≡ slot_epochs sizes.slots []
unfolding slot_epochs
epochs-nil sizes = row_same (λ t. slot_epoch t []) None 0 sizes.slots (λ t l u. slot_epoch-nil t)

log-nil : (sizes : Sizes) → started sizes.page_size ≡ log_of sizes []
log-nil sizes =
    let closed_is : closed [] ≡ 0 = done_greatest-nil closes in
    let safe_is : safe_read_only [] ≡ 0 = done_greatest-nil settles in
    rw (closed_is, head-nil, safe_is, read_only-nil, tail-nil sizes) refl

entered-nil : (sizes : Sizes) → 0 < sizes.page_size → pages_entered sizes [] ≡ 0
entered-nil sizes page_size = ap (λ (n : ℕ). (n + sizes.page_size - 1) / sizes.page_size) (tail-nil sizes) ∙ div-eq_of_lt (omega (arith, page_size))

pages-nil : (sizes : Sizes) → AreInRange sizes → opened_pages sizes.page_size sizes.frames ≡ pages_of sizes []
pages-nil sizes r =
    let page_size : 0 < sizes.page_size = omega (arith, r.page_size_least) in
    ap₂ (λ (xs : List (Option Held)) (n : ℕ). record { page_size = sizes.page_size; frames = xs; entered = n }) (row_same (held_of sizes []) None 0 sizes.frames (λ f l u. held_of-nil sizes f page_size (omega (arith, u)))) (sym (entered-nil sizes page_size))

-- before the first step
pub stands_start : {J : Type 0} (tag : J → ℕ) (sizes : Sizes) (slots limit : ℕ) (table : Table) (views : List (Option View)) (drain : Lists J) (offsets : Log) (pages : Pages) → AreInRange sizes → slots ≡ sizes.slots → limit ≡ sizes.drain → table ≡ opened slots epoch_window 1 → views ≡ replicate slots None → drain ≡ record { limit = limit; pending = []; taken = []; turns = 0 } → offsets ≡ started sizes.page_size → pages ≡ opened_pages sizes.page_size sizes.frames → Stands tag (record { sizes = sizes; table = table; views = views; drain = drain; offsets = offsets; pages = pages }) []
stands_start {J = J} tag sizes slots limit table views drain offsets pages r s l t v d o q = record {
  in_range = r;
  accepted = good-nil sizes;
  table_is = t ∙ ap (λ n. opened n epoch_window 1) s ∙ ap₂ make (sym current_epoch-nil) (epochs-nil sizes);
  views_is = v ∙ ap (λ (n : ℕ). replicate n None) s ∙ views-nil sizes;
  limit_is = ap (λ (z : Lists J). z.limit) d ∙ l;
  pending_is = ap (λ (z : Lists J). map (waiting_of tag) z.pending) d ∙ sym pending-nil;
  taken_is = ap (λ (z : Lists J). z.taken) d ∙ sym taken-nil;
  ordered = subst (λ z. IsDrain z) (sym d) (record { limit_least = omega (arith, l, r.drain_least); limit_most = omega (arith, l, r.drain_most); within_limit = omega arith; rising = λ i j x before within. absurd (omega (arith, within)) });
  offsets_is = o ∙ log-nil sizes;
  pages_is = q ∙ pages-nil sizes r;
}
