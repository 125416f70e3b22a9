-- What a seal by a pass comes to, whether the pass is known or not.
use Rattle.std.proofs.Common.{◌≡◌, ℕ, List, Bool, true, false, cond, leb, refl, sym, ap, ◌∙◌, subst, arith}
use lib.Dec.{T}
use Rattle.std.specs.Prelude.{◌==◌, Option, Some, None, Result, Ok, Err}
use Rattle.hl_model.specs.declared.fault.Fault.{Fault}
use Rattle.hl_model.specs.declared.fault.Fault.TheVariants.{Stranger, NoSlot, NotProtected}
use Rattle.hl_model.specs.declared.step.Step.{Step}
use Rattle.hl_model.specs.declared.step.Step.TheVariants.{Look}
use Rattle.hl_model.specs.declared.view.View.{View}
use Rattle.hl_model.specs.Sizes.{Sizes, AreInRange}
use Rattle.hl_model.specs.Snapshots.{six}
use Rattle.hl_model.specs.Views.{slot_view}
use Rattle.hl_model.specs.Replies.{fault_of, unless_fault, extended, protected_fault, IsAccepted}
use Rattle.hl_laws.proofs.AcceptedLaws.{extended-none, extended-some}
use Rattle.hl_laws.proofs.ViewLaws.{is_protected-push}
use Rattle.hl_pass.specs.declared.pass_view.PassView.{PassView}
use Rattle.hl_pass.specs.declared.stamps.Stamps.{Stamps}
use Rattle.hl_pass.specs.Calls.{looked, stranger_fault, KnownAt as KnownBy}
use Rattle.hl_pass.specs.Passes.{rested_in, is_up}
use Rattle.hl_pass.specs.Views.{has_view}
use Rattle.hl_pass.proofs.KnownLaws.{and_parts, view_is, test_passed, test_refused, stays_known}
use Rattle.hl_pass.proofs.LookLaws.{viewed_fault, catches_up}
use Rattle.hl_words.specs.Rows.{RowMasterState}
use Rattle.hl_log.specs.declared.sealed.Sealed.{Sealed}
use Rattle.hl_log.specs.Calls.{stamp_at, is_known, KnownAt}
use Rattle.hl_log.specs.Logs.{StandsAt, IsBeside}
use Rattle.hl_log.specs.Passes.{with_own, IsRisen}
use Rattle.hl_log.specs.Seals.{made_in, first_fault, due_at, sealed_at, sealed_for, seal_reply, seal_list, seal_pass, IsAlike, Leads, SealsFor, Sealing, Seals}
use Rattle.hl_log.specs.States.{LogState, PassState}
use Rattle.hl_log.proofs.ReachLaws.{Reached, reached}

-- a slot that is protected is so still behind what its pass saw
still_protected : (sizes : Sizes) (A : List Step) (p : PassView) → protected_fault sizes A p.slot ≡ None → protected_fault sizes (looked sizes A p) p.slot ≡ None
still_protected sizes A p free = by_up (is_up p)
  where
    s : Step
    s = Look p.slot p.view.read_only p.view.head

    by_fault : (o : Option Fault) → fault_of sizes A s ≡ o → protected_fault sizes (extended sizes A s) p.slot ≡ None
    by_fault None h =
        ap (λ (B : List Step). protected_fault sizes B p.slot) (extended-none sizes A s h)
        ∙ ap (λ (b : Bool). cond (leb sizes.slots p.slot) (Some NoSlot) (cond b None (Some NotProtected))) (is_protected-push p.slot A s)
        ∙ free
    by_fault (Some f) h = ap (λ (B : List Step). protected_fault sizes B p.slot) (extended-some sizes A s f h) ∙ free

    by_up : (b : Bool) → protected_fault sizes (cond b A (extended sizes A s)) p.slot ≡ None
    by_up true = free
    by_up false = by_fault (fault_of sizes A s) refl

-- where a seal leads, told of its answer
leads_for : (z : Sizes) (t : ℕ) (B : List Step) → Reached z t B → Leads z (sealed_for z t B) (made_in z B (due_at z t B))
leads_for z t B r = by_fault (first_fault z B (due_at z t B)) refl
  where
    C : List Step
    C = made_in z B (due_at z t B)

    by_fault : (o : Option Fault) → first_fault z B (due_at z t B) ≡ o → Leads z (unless_fault o (sealed_at z.page_size (six z B) C)) C
    by_fault None h = r.accepted h
    by_fault (Some f) h = r.refused f h

-- what is told of a seal by a pass, and who the pass is then
seals_of : (old new : LogState) (p q : PassState) (result : Result Sealed Fault)
    → ((A : List Step) → StandsAt old A → Sealing old A p new q result) → ((A : List Step) → StandsAt old A → is_known old A p ≡ true → Leads old.core.sizes result (seal_list old A p))
    → IsAlike old new → (IsRisen p → IsRisen q) → Seals old p new q result
seals_of old new p q result sealing leads beside risen = record {
  sealing = sealing;
  leads = leads;
  beside = beside;
  known = λ A at known. known_then A (sealing A at) known;
  entered = λ A at known risen. catches_up old.core.sizes old.stamps.row.items A p.own at.standing.accepted known risen;
  risen = risen;
}
  where
    known_then : (A : List Step) → Sealing old A p new q result → is_known old A p ≡ true → KnownAt new (seal_list old A p) q
    known_then A s known =
        let B : List Step = seal_list old A p in
        let own : PassView = rested_in (slot_view old.core.sizes p.own.slot B) p.own.epoch p.own in
        let is : q ≡ with_own own p = s.pass ∙ ap (λ (b : Bool). cond b (with_own own p) p) known in
        subst (λ (o : PassState). KnownAt new B o) (sym is)
        (subst (λ (z : Sizes). KnownBy z new.stamps.row.items B own) (sym s.sizes)
        (subst (λ (w : Stamps). KnownBy old.core.sizes w.row.items B own) (sym beside.stamps)
        (stays_known old.core.sizes old.stamps.row.items A B p.own.epoch p.own known)))

-- a log refused a stranger
pub stranger_seals : (old new : LogState) (p : PassState) (f : Fault) (result : Result Sealed Fault)
    → ((A : List Step) → StandsAt old A → Err f ≡ unless_fault (stranger_fault old.core.sizes old.stamps.row.items A p.own) (tt {0}))
    → new ≡ old → result ≡ Err f → Seals old p new p result
stranger_seals old new p f result told same is = seals_of old new p p result sealing (λ A at known. absurd (subst T (sym known ∙ (test_refused (is_known old A p) (stamp_at old A p.own.slot) f (told A at)).0) tt)) (record {
  shared = ap (λ (l : LogState). l.shared) same;
  stamps = ap (λ (l : LogState). l.stamps) same;
  left = ap (λ (l : LogState). l.master.left) same;
}) (λ risen. risen)
  where
    sealing : (A : List Step) → StandsAt old A → Sealing old A p new p result
    sealing A at =
        let test = test_refused (is_known old A p) (stamp_at old A p.own.slot) f (told A at) in
        let B : List Step = looked old.core.sizes A p.own in record {
          reply = is ∙ ap (λ (g : Fault). Err g) test.1 ∙ sym (ap (λ (b : Bool). cond b (sealed_for old.core.sizes p.own.slot B) (Err (Stranger (stamp_at old A p.own.slot)))) test.0);
          sizes = ap (λ (l : LogState). l.core.sizes) same;
          standing = subst (λ (b : Bool). StandsAt new (cond b (made_in old.core.sizes B (due_at old.core.sizes p.own.slot B)) A)) (sym test.0) (subst (λ (l : LogState). StandsAt l A) (sym same) at);
          pass = sym (ap (λ (b : Bool). cond b (with_own (rested_in (slot_view old.core.sizes p.own.slot (seal_list old A p)) p.own.epoch p.own) p) p) test.0);
        }

-- what a log made of a pass that is known: it caught up, sealed, and the pass rested in its slot's view
pub record IsSealed (old mid : LogState) (p : PassState) (new : LogState) (q : PassState) (view : Option View) (result : Result Sealed Fault) : Type 0 where
  pub caught_up : (A : List Step) → StandsAt old A → StandsAt mid (looked old.core.sizes A p.own)
  pub sizes : mid.core.sizes ≡ old.core.sizes
  pub brought : IsBeside old mid
  pub sealed : (B : List Step) → StandsAt mid B → SealsFor p.own.slot mid B new result
  pub beside : IsAlike mid new
  pub seen : (B : List Step) → StandsAt new B → view ≡ slot_view new.core.sizes p.own.slot B
  pub pass : q ≡ with_own (rested_in view p.own.epoch p.own) p

pub known_seals : (old mid new : LogState) (p q : PassState) (u : Unit {0}) (view : Option View) (result : Result Sealed Fault)
    → ((A : List Step) → StandsAt old A → Ok u ≡ unless_fault (stranger_fault old.core.sizes old.stamps.row.items A p.own) (tt {0}))
    → IsSealed old mid p new q view result → Seals old p new q result
known_seals old mid new p q u view result told is = seals_of old new p q result sealing leads (record {
  shared = is.beside.shared ∙ is.brought.shared;
  stamps = is.beside.stamps ∙ is.brought.stamps;
  left = is.beside.left ∙ ap (λ (m : RowMasterState). m.left) is.brought.master;
}) (λ _. subst (λ (o : PassState). IsRisen o) (sym is.pass) (omega arith, omega arith))
  where
    sealing : (A : List Step) → StandsAt old A → Sealing old A p new q result
    sealing A at = record { reply = reply; sizes = made.sizes ∙ is.sizes; standing = standing; pass = pass }
      where
        B : List Step
        B = looked old.core.sizes A p.own

        C : List Step
        C = made_in old.core.sizes B (due_at old.core.sizes p.own.slot B)

        known : is_known old A p ≡ true
        known = test_passed (is_known old A p) (stamp_at old A p.own.slot) u (told A at)

        made : SealsFor p.own.slot mid B new result
        made = is.sealed B (is.caught_up A at)

        reply : result ≡ seal_reply old A p
        reply = made.reply ∙ ap (λ (z : Sizes). sealed_for z p.own.slot B) is.sizes ∙ sym (ap (λ (b : Bool). cond b (sealed_for old.core.sizes p.own.slot B) (Err (Stranger (stamp_at old A p.own.slot)))) known)

        list : C ≡ seal_list old A p
        list = sym (ap (λ (b : Bool). cond b C A) known)

        standing : StandsAt new (seal_list old A p)
        standing = subst (λ (L : List Step). StandsAt new L) (ap (λ (z : Sizes). made_in z B (due_at z p.own.slot B)) is.sizes ∙ list) made.standing

        pass : q ≡ seal_pass old A p
        pass = is.pass
            ∙ ap (λ (v : Option View). with_own (rested_in v p.own.epoch p.own) p) (is.seen (seal_list old A p) standing ∙ ap (λ (z : Sizes). slot_view z p.own.slot (seal_list old A p)) (made.sizes ∙ is.sizes))
            ∙ sym (ap (λ (b : Bool). cond b (with_own (rested_in (slot_view old.core.sizes p.own.slot (seal_list old A p)) p.own.epoch p.own) p) p) known)

    leads : (A : List Step) → StandsAt old A → is_known old A p ≡ true → Leads old.core.sizes result (seal_list old A p)
    leads A at known =
        let z : Sizes = old.core.sizes in
        let t : ℕ = p.own.slot in
        let B : List Step = looked z A p.own in
        let held : slot_view z t A ≡ Some p.own.held = view_is (slot_view z t A) p.own.held (and_parts (has_view (slot_view z t A) p.own.held) (stamp_at old A t == p.own.stamp) known).0 in
        let free : protected_fault z B t ≡ None = still_protected z A p.own (viewed_fault z t A p.own.held at.standing.accepted held) in
        let here = (is.caught_up A at).standing in
        let end : Leads z (sealed_for z t B) (made_in z B (due_at z t B)) = leads_for z t B (reached z t B (subst (λ (y : Sizes). AreInRange y) is.sizes here.in_range) (subst (λ (y : Sizes). IsAccepted y B) is.sizes here.accepted) free) in
        let list : made_in z B (due_at z t B) ≡ seal_list old A p = sym (ap (λ (b : Bool). cond b (made_in z B (due_at z t B)) A) known) in
        let reply : sealed_for z t B ≡ result = sym ((sealing A at).reply ∙ ap (λ (b : Bool). cond b (sealed_for z t B) (Err (Stranger (stamp_at old A t)))) known) in
        subst (λ (r : Result Sealed Fault). Leads z r (seal_list old A p)) reply (subst (λ (X : List Step). Leads z (sealed_for z t B) X) list end)
