-- What follows once the number of a bump is safe.
use Rattle.std.proofs.Common.{◌≡◌, ℕ, ◌+◌, ◌<◌, ◌≤◌, Bool, true, false, [], ◌∷◌, ◌++◌, refl, sym, ap, ◌∙◌, subst, subst₂, arith, append_assoc}
use Rattle.std.specs.Prelude.{Some, Result, Ok, Err, IfOk}
use Rattle.std.specs.List.{list_any, AllByRecursion as Every}
use Rattle.std.proofs.lemmas.Bool.{true_from_ne_false}
use Rattle.hl_model.specs.declared.fault.Fault.{Fault}
use Rattle.hl_model.specs.declared.step.Step.{Step}
use Rattle.hl_model.specs.declared.step.Step.TheVariants.{Acquire, Refresh, Release, Bare}
use Rattle.hl_model.specs.Actions.{bumps}
use Rattle.hl_model.specs.Epochs.{is_bump, enters, leaves, epoch_of, slot_epoch, safe_epoch}
use Rattle.hl_model.specs.Headline.{moves_on}
use Rattle.hl_model.specs.Replies.{IsAccepted}
use Rattle.hl_action.specs.Firings.{FiringRecord}
use Rattle.hl_history.specs.declared.view.Entry.{Entry}
use Rattle.hl_history.specs.Lists.{entry, left_by, Begins}
use Rattle.hl_words.specs.States.{RiderState}
use Rattle.hl_keeper.specs.Passes.{PassRecord, with_rider}
use Rattle.hl_domain.specs.Domains.{DomainState}
use Rattle.hl_domain.specs.Riders.{Bares}
use Rattle.hl_laws.proofs.ActionLaws.{bumps-push, current_epoch-bumps}
use Rattle.hl_laws.proofs.DrainLaws.{protected-slot}
use Rattle.hl_laws.proofs.EpochLaws.{slot_epoch-stays, slot_epoch-range, safe_epoch-below}
use Rattle.hl_laws.proofs.LawProofs.{slot_epoch-protected, keeps_epoch}
use Rattle.hl_laws.proofs.NoFaultLaws.{unless_ok}
use Rattle.hl_images.proofs.PlaceLaws.{every_in}
use Rattle.hl_crew.specs.declared.limits.Cuts.{Cuts}
use Rattle.hl_crew.specs.Goes.{Followed}
use Rattle.hl_crew.proofs.RepeatLaws.{followed_holds}
use Rattle.hl.specs.Helps.{Helps}
use Rattle.hl.specs.Overs.{HelpsOn, LooksAtOver}
use Rattle.hl.specs.Sessions.{Beside, SessionState, KeepsAllButRider}
use Rattle.hl.specs.Waits.{SafeAfterAllMovedOn, LooksAtSafe, RoundOf, RoundsNext, ForAll, Waits}
use Rattle.hl.proofs.HelpLaws.{Grew, grew_same, grew_then, grew_call, grew_helps}

-- a bump is no step of a slot
bump_is_quiet : (t : ℕ) (s : Step) → is_bump s ≡ true → (enters t s ≡ false) × (leaves t s ≡ false)
bump_is_quiet t (Acquire u) is = cc
bump_is_quiet t (Refresh u) is = cc
bump_is_quiet t (Release u) is = cc
bump_is_quiet t _ is = (refl, refl)

pub safe_after_all_moved_on : SafeAfterAllMovedOn
safe_after_all_moved_on sizes A s steps accepted bump safe t protected = true_from_ne_false (list_any (moves_on t) steps) early
  where
    bumped : (A ++ s ∷ []) ++ steps ≡ A ++ s ∷ steps
    bumped = append_assoc A (s ∷ []) steps

    before : slot_epoch t A ≡ Some (epoch_of t A)
    before = slot_epoch-protected t A protected

    quiet : (enters t s ≡ false) × (leaves t s ≡ false)
    quiet = bump_is_quiet t s bump

    seated : slot_epoch t (A ++ s ∷ []) ≡ Some (epoch_of t A)
    seated = slot_epoch-stays t A s quiet.0 quiet.1 ∙ before

    early : list_any (moves_on t) steps ≡ false → ⊥
    early still =
        let whole : IsAccepted sizes ((A ++ s ∷ []) ++ steps) = subst (IsAccepted sizes) (sym bumped) accepted in
        let held : slot_epoch t (A ++ s ∷ steps) ≡ Some (epoch_of t A) = ap (slot_epoch t) (sym bumped) ∙ keeps_epoch sizes (A ++ s ∷ []) t (epoch_of t A) seated steps whole still in
        let below : safe_epoch sizes.slots (A ++ s ∷ steps) < epoch_of t A =
        safe_epoch-below sizes.slots (A ++ s ∷ steps) t (epoch_of t A) (protected-slot sizes t (A ++ s ∷ steps) accepted (epoch_of t A) held) held in
        omega (arith, below, safe, (slot_epoch-range t A (epoch_of t A) before).1, current_epoch-bumps A)

-- rounds
grew_rounds : (F : Type 0) (log : DomainState) (cuts : Cuts) (gives : F → FiringRecord → ℕ → Type 0) (keeps : ℕ → FiringRecord → ℕ → Type 0) (ticket n : ℕ) (old new : PassRecord) → Followed (RoundsNext F log cuts gives keeps ticket) n old new → Grew old.rider new.rider
grew_rounds F log cuts gives keeps ticket =
    followed_holds (λ (a b : PassRecord). Grew a.rider b.rider) (λ (a b : PassRecord) same. grew_same a.rider b.rider (ap (λ (p : PassRecord). p.rider) same)) (λ (a b c : PassRecord). grew_then a.rider b.rider c.rider) (RoundsNext F log cuts gives keeps ticket)
    (λ i next (a b : PassRecord) round. grew_then a.rider round.1.looked b.rider (grew_call _ _ round.1.looks) (grew_helps F log gives keeps cuts (Ok round.0) (with_rider round.1.looked a) b round.1.helps))

-- a bump that stored nothing, and then a wait for its number
pub for_all : (F : Type 0) (log : DomainState) (cuts : Cuts) (gives : F → FiringRecord → ℕ → Type 0) (keeps : ℕ → FiringRecord → ℕ → Type 0) (ticket safe : ℕ) (bumped : RiderState) (old new : PassRecord)
    → Bares F log (Ok ticket) old.rider bumped
    → Waits F log cuts gives keeps ticket (Ok safe) (with_rider bumped old) new → ForAll old.rider new.rider
for_all F log cuts gives keeps ticket safe bumped old new bump waits =
    let A = bump.list in
    let looks = waits.ended.1 in
    let B = looks.list in
    let grew = grew_rounds F log cuts gives keeps ticket waits.rounds (with_rider bumped old) waits.last waits.before in
    let earlier : waits.last.rider.calls ≡ grew.0 ++ entry A (Bare ∷ []) ∷ old.rider.calls =
    grew.1 ∙ ap (λ (r : RiderState). grew.0 ++ r.calls) bump.entered in
    let all : Every (λ (e : Entry). Begins (left_by e) B) (grew.0 ++ entry A (Bare ∷ []) ∷ old.rider.calls) =
    subst (Every (λ (e : Entry). Begins (left_by e) B)) earlier looks.rises.begins in
    let begins : Begins (A ++ Bare ∷ []) B = every_in (λ (e : Entry). Begins (left_by e) B) grew.0 (entry A (Bare ∷ [])) old.rider.calls all in
    let whole : B ≡ A ++ Bare ∷ begins.0 = begins.1 ∙ append_assoc A (Bare ∷ []) begins.0 in
    let sizes = looks.before.core.sizes in
    let accepted : IsAccepted sizes (A ++ Bare ∷ begins.0) = subst (IsAccepted sizes) whole looks.met.stands.core_stands.accepted in
    let told : safe ≡ safe_epoch sizes.slots B = looks.holds.1 B looks.met.stands in
    let number : ticket ≡ bumps (A ++ Bare ∷ []) = (unless_ok _ ticket _ (bump.holds.0 A bump.met.stands).reply).1 in
    let most : bumps A + 1 ≤ safe_epoch sizes.slots (A ++ Bare ∷ begins.0) =
    subst (λ l. bumps A + 1 ≤ safe_epoch sizes.slots l) whole (omega (arith, told, number, bumps-push A Bare, waits.ended.0)) in
    record {
      list = A;
      since = begins.0;
      between = grew.0;
      calls = ap (λ (r : RiderState). r.calls) looks.entered ∙ ap (λ l. entry l [] ∷ waits.last.rider.calls) whole ∙ ap (λ l. entry (A ++ Bare ∷ begins.0) [] ∷ l) earlier;
      moved = safe_after_all_moved_on sizes A Bare begins.0 accepted refl most;
    }

pub for_all_if : (F : Type 0) (log : DomainState) (cuts : Cuts) (gives : F → FiringRecord → ℕ → Type 0) (keeps : ℕ → FiringRecord → ℕ → Type 0) (ticket : ℕ) (bumped : RiderState) (old new : PassRecord) (r : Result ℕ Fault)
    → Bares F log (Ok ticket) old.rider bumped
    → Waits F log cuts gives keeps ticket r (with_rider bumped old) new → IfOk r (λ _. ForAll old.rider new.rider)
for_all_if F log cuts gives keeps ticket bumped old new (Ok safe) bump waits = for_all F log cuts gives keeps ticket safe bumped old new bump waits
for_all_if F log cuts gives keeps ticket bumped old new (Err fault) bump waits = tt

module _ (F : Type 0) (first : SessionState) (gives : F → FiringRecord → ℕ → Type 0) (keeps : ℕ → FiringRecord → ℕ → Type 0) (ticket : ℕ) (s looked new : SessionState) (help : Result Bool Fault) (same : s.log ≡ first.log) (alike : s.beside ≡ first.beside)
    (kept : KeepsAllButRider s looked) (helps : Helps F looked.log looked.beside.cuts gives keeps help looked.pass new.pass) where
  -- a round of help of a session that was told something before, by its rider
  then_helps : Helps F first.log first.beside.cuts gives keeps help (with_rider looked.pass.rider s.pass) new.pass
  then_helps =
      let cuts : looked.beside.cuts ≡ first.beside.cuts = ap (λ (z : SessionState). z.beside.cuts) kept ∙ ap (λ (b : Beside). b.cuts) alike in
      subst₂ (λ (l : DomainState) (p : PassRecord). Helps F l first.beside.cuts gives keeps help p new.pass) (ap (λ (z : SessionState). z.log) kept ∙ same) (ap (λ (z : SessionState). z.pass) kept)
      (subst (λ c. Helps F looked.log c gives keeps help looked.pass new.pass) cuts helps)

  -- one that waits for a ticket
  pub round_made : (safe : ℕ) → safe < ticket → LooksAtSafe F s.log safe s.pass.rider looked.pass.rider → RoundOf F first.log first.beside.cuts gives keeps ticket help s.pass new.pass
  round_made safe above looks =
      record { safe = safe; above = above; looked = looked.pass.rider; looks = subst (λ l. LooksAtSafe F l safe s.pass.rider looked.pass.rider) same looks; helps = then_helps }

  -- one that waits for an action
  pub helped_on : (over : Bool) → over ≡ false → LooksAtOver F s.log ticket over s.pass.rider looked.pass.rider → HelpsOn F first.log first.beside.cuts gives keeps ticket help s.pass new.pass
  helped_on over not_yet looks = record { looked = looked.pass.rider; looks = subst₂ (λ l b. LooksAtOver F l ticket b s.pass.rider looked.pass.rider) same not_yet looks; helps = then_helps }
