-- What each call of a session puts into its trace.
use Rattle.std.proofs.Common.{◌≡◌, ℕ, zero, suc, ◌+◌, ◌<◌, ◌≤◌, ◌⊎◌, Bool, true, false, List, [], ◌∷◌, ◌++◌, length, inl, inr, refl, sym, ap, ◌∙◌, subst, arith, append_assoc}
use Rattle.std.specs.Prelude.{Option, Some, None, Result, Ok, Err, IfOk, IfErr, MatchResult}
use Rattle.hl_model.specs.declared.fault.Fault.{Fault}
use Rattle.hl_model.specs.declared.fault.Fault.TheVariants.{Beyond, JournalFull}
use Rattle.hl_model.specs.declared.step.Reply.{Reply}
use Rattle.hl_model.specs.declared.step.Step.{Step}
use Rattle.hl_model.specs.declared.step.Step.TheVariants.{Acquire, Refresh, Release, Allocate, Bare, Raise, Take, Done}
use Rattle.hl_model.specs.declared.view.View.{View}
use Rattle.hl_model.specs.Offsets.{place_of, tail}
use Rattle.hl_model.specs.Pages.{clean_of}
use Rattle.hl_model.specs.Replies.{IsAccepted, unless_fault, unless_refused}
use Rattle.hl_model.specs.Sizes.{Sizes, AreInRange}
use Rattle.hl_model.specs.Views.{slot_view, view_of}
use Rattle.hl_laws.proofs.NoFaultLaws.{unless_ok}
use Rattle.hl_laws.proofs.OffsetLaws.{tail-push}
use Rattle.hl_laws.proofs.WordLaws.{seen_tail-le}
use Rattle.hl_drain.specs.declared.action.Ask.{Ask}
use Rattle.hl_drain.specs.declared.action.Ask.TheVariants.{User as AskUser, Settle as AskSettle, Close as AskClose}
use Rattle.hl_core.specs.Holding.{least_free}
use Rattle.hl_core.specs.Steps.{asking}
use Rattle.hl_words.specs.States.{RiderState}
use Rattle.hl_words.specs.Views.{told}
use Rattle.hl_words.proofs.Cut.{every_append}
use Rattle.hl_pass.specs.declared.region.Region.{Region}
use Rattle.hl_pass.specs.declared.region.Region.TheVariants.{Mutable, Fuzzy, ReadOnly, Evicted}
use Rattle.hl_keeper.specs.Calls.{Makes, MakesAt, MakesTouched, call_fault, refresh_fault, touched_list, step_fault, slot_after, pass_after, IsUpTo}
use Rattle.hl_keeper.specs.Keepers.{KeeperState}
use Rattle.hl_keeper.specs.Leases.{LeaseRecord, placed as placed_at}
use Rattle.hl_keeper.specs.Passes.{PassRecord, seen, load_fault, store_fault, touch_fault, with_store, with_change, with_load, with_look, with_rider, with_tail, new_pass}
use Rattle.hl_keeper.specs.Regions.{IsRegion, LoadsSafe}
use Rattle.hl_keeper.specs.Stamps.{acquires_in}
use Rattle.hl_keeper.specs.Touches.{is_call}
use Rattle.hl_domain.specs.Domains.{DomainState, IsAt, setup_of, answered, call_of, enter_call, no_step, pass_call, with_entry, with_held, after_news, stays_current, LeavesUnderLock, MakesUnderLock, Refreshed}
use Rattle.hl_domain.specs.Riders.{LooksAtSteps}
use Rattle.hl_images.specs.Entered.{is_touch}
use Rattle.hl_traces.specs.declared.act.Act.{Act}
use Rattle.hl_traces.specs.declared.act.Act.TheVariants.{Placed, Stored, Loaded, Changed, Met}
use Rattle.hl_memory.specs.Acts.{is_of_pages}
use Rattle.hl_traces.specs.Traces.{moves_slot, placed_by, trace, RiderTraces, PassTraces, RiderDoes, PassDoes}
use Rattle.hl_memory.proofs.KeepLaws.{calls_meet_view}
use Rattle.hl_traces.proofs.TraceLaws.{rests, acquires, stores, changes, loads, compares, looks, news, safe_looks, goes_on, call, refused, releases}
use Rattle.hl_crew.specs.declared.limits.Cuts.{Cuts}
use Rattle.hl_crew.specs.declared.limits.Cuts.TheVariants.{Never, EachTurn, Above}
use Rattle.hl_crew.specs.Cutting.{MakesRoom, EndsTurn}
use Rattle.hl_crew.specs.Goes.{Followed}
use Rattle.hl_crew.specs.Tries.{EndsAction, TriesAgain, Tries}
use Rattle.hl.specs.Rests.{EntersNext, Reenters}
use Rattle.hl.specs.declared.refused.Refused.{Refused}
use Rattle.hl.specs.Sessions.{SessionState, KeepsAllButRider}
use Rattle.hl.specs.Traces.{acts, KeepsUpBy, LeavesBy, LeavesByCalls, AreMet, Meets, OnlyMeets, RiderMeets, PassMeets, PassMet, exchanged, if_ok}

-- what is asked for is no touch, frees and takes no page, and moves no slot
pub record IsPlain (s : Step) : Type 0 where
  pub touch : is_touch s ≡ false
  pub frees : clean_of s ≡ None
  pub stays : moves_slot s ≡ false
  pub takes : is_of_pages s ≡ false

pub asked_is : {J : Type 0} (tag : J → ℕ) (ask : Ask J) → IsPlain (asking tag ask)
asked_is tag AskSettle = record { touch = refl; frees = refl; stays = refl; takes = refl }
asked_is tag AskClose = record { touch = refl; frees = refl; stays = refl; takes = refl }
asked_is tag (AskUser job) = record { touch = refl; frees = refl; stays = refl; takes = refl }

pub plain_done : (ticket : ℕ) → IsPlain (Done ticket)
plain_done ticket = record { touch = refl; frees = refl; stays = refl; takes = refl }

pub plain_bare : IsPlain Bare
plain_bare = record { touch = refl; frees = refl; stays = refl; takes = refl }

pub plain_raise : (x : ℕ) → IsPlain (Raise x)
plain_raise x = record { touch = refl; frees = refl; stays = refl; takes = refl }

pub plain_take : IsPlain Take
plain_take = record { touch = refl; frees = refl; stays = refl; takes = refl }

-- locked calls, one after others
met_both : (xs ys : List Act) → AreMet xs → AreMet ys → AreMet (xs ++ ys)
met_both xs ys one two = every_append (λ (act : Act). (n : ℕ) × (act ≡ Met n)) xs ys one two

module _ (F : Type 0) (log : DomainState) where
  -- a keeper that met a call has the log's sizes
  accepted_at : (list : List Step) (keeper : KeeperState F) → IsAt (setup_of log) list keeper → IsAccepted log.sizes list
  accepted_at list keeper at = subst (λ (z : Sizes). IsAccepted z list) at.sizes_are at.stands.core_stands.accepted

  range_at : (list : List Step) (keeper : KeeperState F) → IsAt (setup_of log) list keeper → (0 < log.sizes.page_size) × (0 < log.sizes.frames)
  range_at list keeper at =
      let range = subst AreInRange at.sizes_are at.stands.core_stands.in_range in
      (omega (arith, range.page_size_least), omega (arith, range.frames_least))

  -- nothing is done by nothing
  pub none_met : (old : RiderState) (p : PassRecord) → p.rider ≡ old → PassTraces log.sizes p → PassMeets log old p
  none_met old p same h = ([], tt, (h, ap (trace log.sizes) same))

  pub one_met : (old : RiderState) (p : PassRecord) → PassMet log [] old p → PassMeets log old p
  one_met old p m = (Met m.0 ∷ [], ((m.0, refl), tt), m.1)

  pub then_met : (old : RiderState) (mid new : PassRecord) → PassMeets log old mid → (PassTraces log.sizes mid → PassMeets log mid.rider new) → PassMeets log old new
  then_met old mid new one more =
      let two = more one.2.0 in
      (two.0 ++ one.0, met_both two.0 one.0 two.1 one.1, (two.2.0, two.2.1 ∙ ap (λ (l : List Act). two.0 ++ l) one.2.1 ∙ sym (append_assoc two.0 one.0 (trace log.sizes old))))

  -- a call of a rider that made no step
  pub rider_stays : {Holds : KeeperState F → KeeperState F → Type 0} (old new : RiderState) → LeavesUnderLock F log (no_step old new) Holds → RiderTraces log.sizes old → (n : ℕ) × RiderDoes log.sizes (Met n ∷ []) old new
  rider_stays old new met h =
      let n = length met.list + 0 in
      (n, subst (RiderDoes log.sizes (Met n ∷ []) old) (sym met.entered) (rests log.sizes met.before.cut met.after.cut met.list old h))

  none_done : (old new : RiderState) → new ≡ old → RiderTraces log.sizes old → RiderMeets log old new
  none_done old new same h = ([], tt, (subst (RiderTraces log.sizes) (sym same) h, ap (trace log.sizes) same))

  one_done : (old new : RiderState) → (n : ℕ) × RiderDoes log.sizes (Met n ∷ []) old new → RiderMeets log old new
  one_done old new m = (Met m.0 ∷ [], ((m.0, refl), tt), m.1)

  then_done : (old mid new : RiderState) → RiderMeets log old mid → (RiderTraces log.sizes mid → RiderMeets log mid new) → RiderMeets log old new
  then_done old mid new one more =
      let two = more one.2.0 in
      (two.0 ++ one.0, met_both two.0 one.0 two.1 one.1, (two.2.0, two.2.1 ∙ ap (λ (l : List Act). two.0 ++ l) one.2.1 ∙ sym (append_assoc two.0 one.0 (trace log.sizes old))))

  -- the same while a pass has touches that wait
  pub quiet : {Holds : KeeperState F → KeeperState F → Type 0} (p : PassRecord) (new : RiderState) → LeavesUnderLock F log (no_step p.rider new) Holds → PassTraces log.sizes p → PassMet log [] p.rider (with_rider new p)
  quiet p new met h =
      let n = length met.list + 0 in
      (n, subst (λ (r : RiderState). PassDoes log.sizes (Met n ∷ []) p.rider (with_rider r p)) (sym met.entered) (refused log.sizes met.before.cut met.after.cut met.list p (accepted_at met.list met.before met.met) met.rises h))

  -- a call that is told how many steps there are
  pub counted : (steps : ℕ) (p : PassRecord) (new : RiderState) → LooksAtSteps F log steps p.rider new → PassTraces log.sizes p → PassDoes log.sizes (Met steps ∷ []) p.rider (with_rider new p)
  counted steps p new met h =
      let is : length met.list + 0 ≡ steps = omega (arith, met.holds.1 met.list met.met.stands) in
      subst (λ (n : ℕ). PassDoes log.sizes (Met n ∷ []) p.rider (with_rider new p)) is (subst (λ (r : RiderState). PassDoes log.sizes (Met (length met.list + 0) ∷ []) p.rider (with_rider r p)) (sym met.entered) (refused log.sizes met.before.cut met.after.cut met.list p (accepted_at met.list met.before met.met) met.rises h))

  -- a call of a pass's rider that made this step
  pub made : {Holds : KeeperState F → KeeperState F → Type 0} (s : Step) (p : PassRecord) (new : RiderState) → IsPlain s → LeavesUnderLock F log (call_of s p.rider new) Holds → PassTraces log.sizes p → PassMet log [] p.rider (with_rider new p)
  made s p new plain met h =
      let n = length met.list + 1 in (
        n,
        subst (λ (r : RiderState). PassDoes log.sizes (Met n ∷ []) p.rider (with_rider r p)) (sym met.entered)
            (call log.sizes met.before.cut met.after.cut met.list s p plain.touch plain.frees plain.stays plain.takes (accepted_at (met.list ++ s ∷ []) met.after met.left) met.rises h),
      )

  -- or was refused
  pub stepped : {X : Type 0} {Holds : KeeperState F → KeeperState F → Type 0} (s : Step) (p : PassRecord) (new : RiderState) (result : Result X Fault) → IsPlain s → LeavesUnderLock F log (answered result (call_of s p.rider new)) Holds → PassTraces log.sizes p → PassMet log [] p.rider (with_rider new p)
  stepped s p new (Ok x) plain met h = made s p new plain met h
  stepped s p new (Err fault) plain met h = quiet p new met h

  -- room that was made in the journal, or not
  pub made_room : (is_cut : Bool) (p : PassRecord) (new : RiderState) → MakesRoom F log is_cut p.rider new → PassTraces log.sizes p → PassMeets log p.rider (with_rider new p)
  made_room true p new cut h = one_met p.rider (with_rider new p) (quiet p new cut h)
  made_room false p new same h = none_met p.rider (with_rider new p) same (subst (λ (r : RiderState). PassTraces log.sizes (with_rider r p)) (sym same) h)

  -- a cut, if one was due
  pub due : (cuts : Cuts) (p : PassRecord) (new : RiderState) → EndsTurn F log cuts p.rider new → PassTraces log.sizes p → PassMeets log p.rider (with_rider new p)
  due Never p new same h = none_met p.rider (with_rider new p) same (subst (λ (r : RiderState). PassTraces log.sizes (with_rider r p)) (sym same) h)
  due EachTurn p new cut h = one_met p.rider (with_rider new p) (quiet p new cut h)
  due (Above steps) p new (is_cut, mid, looked, cut) h =
      then_met p.rider (with_rider mid p) (with_rider new p) (one_met p.rider (with_rider mid p) (quiet p mid looked h)) (λ m. made_room is_cut (with_rider mid p) new cut m)

  -- the same of a rider without a pass
  rider_due : (cuts : Cuts) (old new : RiderState) → EndsTurn F log cuts old new → RiderTraces log.sizes old → RiderMeets log old new
  rider_due Never old new same h = none_done old new same h
  rider_due EachTurn old new cut h = one_done old new (rider_stays old new cut h)
  rider_due (Above steps) old new (true, mid, looked, cut) h = then_done old mid new (one_done old mid (rider_stays old mid looked h)) (λ m. one_done mid new (rider_stays mid new cut m))
  rider_due (Above steps) old new (false, mid, looked, same) h = then_done old mid new (one_done old mid (rider_stays old mid looked h)) (λ m. none_done mid new same m)

  -- tries that others follow, and their cuts
  again : (origin ticket : ℕ) (p : PassRecord) (n : ℕ) (old new : RiderState) → Followed (TriesAgain F log true (EndsAction F log origin ticket)) n old new → PassTraces log.sizes (with_rider old p) → PassMeets log old (with_rider new p)
  again origin ticket p zero old new same h = none_met old (with_rider new p) same (subst (λ (r : RiderState). PassTraces log.sizes (with_rider r p)) (sym same) h)
  again origin ticket p (suc n) old new (mid, before, (refused_one, told, may, cut)) h =
      then_met old (with_rider mid p) (with_rider new p) (again origin ticket p n old mid before h)
      (λ m. then_met mid (with_rider refused_one p) (with_rider new p) (one_met mid (with_rider refused_one p) (stepped {X = Reply} (Done ticket) (with_rider mid p) refused_one (Err JournalFull) (plain_done ticket) told m))
      (λ l. one_met refused_one (with_rider new p) (quiet (with_rider refused_one p) new cut l)))

  -- a done, by as many tries as that takes
  pub ended : (origin ticket : ℕ) (p : PassRecord) (result : Result Reply Fault) (new : RiderState) → Tries F log true (EndsAction F log origin ticket) result p.rider new → PassTraces log.sizes p → PassMeets log p.rider (with_rider new p)
  ended origin ticket p result new t h =
      then_met p.rider (with_rider t.last p) (with_rider new p) (again origin ticket p t.before p.rider t.last t.again h)
      (λ m. one_met t.last (with_rider new p) (stepped (Done ticket) (with_rider t.last p) new result (plain_done ticket) t.answered m))

  -- a pass that a rider acquired
  begins : (t stamp was now : ℕ) (list : List Step) (rider : RiderState) (pass : PassRecord) → (0 < log.sizes.page_size) × (0 < log.sizes.frames) → IsAccepted log.sizes (list ++ Acquire t ∷ []) → pass ≡ new_pass t stamp (slot_after log.sizes t (list ++ Acquire t ∷ [])) pass.rider → pass.rider ≡ with_entry was now list (Acquire t ∷ []) rider
      → RiderTraces log.sizes rider → PassMet log [] rider pass
  begins t stamp was now list rider pass some ok is entered h =
      let slot = slot_after log.sizes t (list ++ Acquire t ∷ []) in
      (length list + 1, subst (PassDoes log.sizes (Met (length list + 1) ∷ []) rider) (sym (is ∙ ap (new_pass t stamp slot) entered)) (acquires log.sizes was now list t stamp rider some.0 some.1 ok h))

  pub acquired : (t : ℕ) (rider : RiderState) (pass : PassRecord) → MakesUnderLock F log (call_of (Acquire t) rider pass.rider) (Ok pass) (λ old. Makes old (Acquire t) (pass_after old t pass.rider)) → RiderTraces log.sizes rider → PassMet log [] rider pass
  acquired t rider pass met h =
      let keeper = met.before in
      let told = (unless_ok (step_fault keeper met.list (Acquire t)) pass (pass_after keeper t pass.rider met.list) (met.holds.0 met.list met.met.stands).reply).1 in
      let stamp = keeper.stamp + acquires_in (met.list ++ Acquire t ∷ []) in
      let is : pass ≡ new_pass t stamp (slot_after log.sizes t (met.list ++ Acquire t ∷ [])) pass.rider = subst (λ (z : Sizes). pass ≡ new_pass t stamp (slot_after z t (met.list ++ Acquire t ∷ [])) pass.rider) met.met.sizes_are told in
      begins t stamp met.before.cut met.after.cut met.list rider pass (range_at met.list met.before met.met) (accepted_at (met.list ++ Acquire t ∷ []) met.after met.left) is met.entered h

  pub entered : (rider : RiderState) (pass : PassRecord) → MakesUnderLock F log (enter_call log.sizes rider pass.rider) (Ok pass) (λ old. MakesAt old (λ A. Acquire (least_free old.core.sizes A)) (λ A. pass_after old (least_free old.core.sizes A) pass.rider A)) → RiderTraces log.sizes rider → PassMet log [] rider pass
  entered rider pass met h =
      let keeper = met.before in
      let at = λ (z : Sizes). least_free z met.list in
      let reached = λ (z : Sizes). met.list ++ Acquire (at z) ∷ [] in
      let told = (unless_ok (step_fault keeper met.list (Acquire (at keeper.core.sizes))) pass (pass_after keeper (at keeper.core.sizes) pass.rider met.list) (met.holds.0 met.list met.met.stands).reply).1 in
      let is : pass ≡ new_pass (at log.sizes) (keeper.stamp + acquires_in (reached log.sizes)) (slot_after log.sizes (at log.sizes) (reached log.sizes)) pass.rider =
      subst (λ (z : Sizes). pass ≡ new_pass (at z) (keeper.stamp + acquires_in (reached z)) (slot_after z (at z) (reached z)) pass.rider) met.met.sizes_are told in
      begins (at log.sizes) (keeper.stamp + acquires_in (reached log.sizes)) met.before.cut met.after.cut met.list rider pass (range_at met.list met.before met.met) (accepted_at (reached log.sizes) met.after met.left) is met.entered h

  -- a refresh or an allocation that was accepted
  went_on : (was now : ℕ) (list : List Step) (s : Step) (epoch : ℕ) (view : View) (old new : PassRecord) → is_call s ≡ true → moves_slot s ≡ true → view.tail ≤ tail log.sizes (list ++ (old.touches ++ s ∷ [])) → IsAccepted log.sizes list → IsAccepted log.sizes (list ++ (old.touches ++ s ∷ [])) → slot_view log.sizes old.slot list ≡ Some old.held
      → (seen old).head ≤ view.head → (seen old).read_only ≤ view.read_only → new.rider ≡ with_entry was now list (old.touches ++ s ∷ []) old.rider
      → new ≡ with_held epoch view (with_rider new.rider old) → PassTraces log.sizes old → PassMet log (placed_by log.sizes (list ++ old.touches) s) old.rider new
  went_on was now list s epoch view old new own moves below ok after at up_head up_read_only entered is h =
      let n = length list + length (old.touches ++ s ∷ []) in
      (n, subst (PassDoes log.sizes (placed_by log.sizes (list ++ old.touches) s ++ Met n ∷ []) old.rider) (sym (is ∙ ap (λ (r : RiderState). with_held epoch view (with_rider r old)) entered)) (goes_on log.sizes was now list s epoch view old own moves below ok after at up_head up_read_only h))

  -- the slot's view where a call of a pass was accepted
  met_view : (list : List Step) (keeper : KeeperState F) (p : PassRecord) (s : Step) → IsAt (setup_of log) list keeper → (call_fault keeper list p s ≡ None) ⊎ (refresh_fault keeper list p ≡ None) → slot_view log.sizes p.slot list ≡ Some p.held
  met_view list keeper p s at free = subst (λ (z : Sizes). slot_view z p.slot list ≡ Some p.held) at.sizes_are (calls_meet_view F keeper list p s free)

  -- a refresh
  pub refreshed : (old new : PassRecord) (result : Result View Fault) → Refreshed F log old new result → PassTraces log.sizes old → PassMet log [] old.rider new
  refreshed old new (Ok view) r h =
      let met = r.met in
      let keeper = met.before in
      let step = Refresh old.slot in
      let answer = unless_ok (refresh_fault keeper met.list old) view (view_of keeper.core.sizes old.slot (touched_list met.list old (Refresh old.slot))) (met.holds.0.0 met.list met.met.stands).reply in
      let told = answer.1 in
      let is : view ≡ view_of log.sizes old.slot (touched_list met.list old (Refresh old.slot)) = subst (λ (z : Sizes). view ≡ view_of z old.slot (touched_list met.list old (Refresh old.slot))) met.met.sizes_are told in
      let least = seen_tail-le log.sizes old.slot (touched_list met.list old (Refresh old.slot)) (range_at met.list met.before met.met).0 in
      let below : view.tail ≤ tail log.sizes (met.list ++ (old.touches ++ Refresh old.slot ∷ [])) =
      subst (λ (l : List Step). view.tail ≤ tail log.sizes l) (append_assoc met.list old.touches (Refresh old.slot ∷ [])) (subst (λ (v : View). v.tail ≤ tail log.sizes (touched_list met.list old (Refresh old.slot))) (sym is) least) in
      let fresh : IsUpTo (seen old) view = r.fresh in
      went_on met.before.cut met.after.cut met.list step new.epoch view old new refl refl below (accepted_at met.list met.before met.met) (accepted_at (met.list ++ (old.touches ++ step ∷ [])) met.after met.left) (met_view met.list met.before old step met.met (inr answer.0)) fresh.1 fresh.0 met.entered r.pass h
  refreshed old new (Err fault) r h = subst (PassMet log [] old.rider) (sym r.pass) (quiet old new.rider r.met h)

  -- a call by which a session comes up to date
  news_of : (old new : PassRecord) → PassTraces log.sizes old → PassDoes log.sizes [] old.rider (after_news old new)
  news_of old new h = news log.sizes _ _ _ old h

  pub kept_current : (old new : PassRecord) → new ≡ after_news old new → PassTraces log.sizes old → PassDoes log.sizes [] old.rider new
  kept_current old new is h = subst (PassDoes log.sizes [] old.rider) (sym is) (news_of old new h)

  pub kept_fresh : (old new : PassRecord) (result : Result View Fault) → Refreshed F log (after_news old new) new result → PassTraces log.sizes old → PassMet log [] old.rider new
  kept_fresh old new result goes h =
      let n = news_of old new h in
      let m = refreshed (after_news old new) new result goes n.0 in
      (m.0, (m.1.0, m.1.1 ∙ ap (λ (l : List Act). Met m.0 ∷ l) n.1))

  pub kept : (old new : PassRecord) (result : Result View Fault) → (stays_current old new ≡ true → (result ≡ Ok (seen old)) × (new ≡ after_news old new)) → (stays_current old new ≡ false → Refreshed F log (after_news old new) new result)
      → PassTraces log.sizes old → PassTraces log.sizes new
  kept old new result stays goes h = by (stays_current old new) refl
    where
      by : (t : Bool) → stays_current old new ≡ t → PassTraces log.sizes new
      by true e = (kept_current old new (stays e).1 h).0
      by false e = (kept_fresh old new result (goes e) h).1.0

  -- an allocation
  pub placed : (n : ℕ) (old new : PassRecord) (result : Result ℕ Fault) → MakesUnderLock F log (pass_call old (Allocate old.slot n) new.rider) result (λ keeper. MakesTouched keeper old (Allocate old.slot n) (λ A. call_fault keeper A old (Allocate old.slot n)) (λ A. place_of keeper.core.sizes.page_size (tail keeper.core.sizes (A ++ old.touches)) n))
      → (let pass = with_rider new.rider old in MatchResult result (λ a. new ≡ with_held pass.epoch (with_tail (a + n) (seen pass)) pass) (λ _. new ≡ pass)) → PassTraces log.sizes old → PassMet log (if_ok (λ a. Placed a n ∷ []) result) old.rider new
  placed n old new (Ok a) met is h =
      let keeper = met.before in
      let step = Allocate old.slot n in
      let answer = unless_ok (call_fault keeper met.list old step) a (place_of keeper.core.sizes.page_size (tail keeper.core.sizes (met.list ++ old.touches)) n) (met.holds.0 met.list met.met.stands).reply in
      let place : a ≡ place_of log.sizes.page_size (tail log.sizes (met.list ++ old.touches)) n = subst (λ (z : Sizes). a ≡ place_of z.page_size (tail z (met.list ++ old.touches)) n) met.met.sizes_are answer.1 in
      let after : tail log.sizes ((met.list ++ old.touches) ++ step ∷ []) ≡ a + n = tail-push log.sizes (met.list ++ old.touches) step ∙ ap (λ (x : ℕ). x + n) (sym place) in
      let here : tail log.sizes (met.list ++ (old.touches ++ step ∷ [])) ≡ a + n = ap (tail log.sizes) (sym (append_assoc met.list old.touches (step ∷ []))) ∙ after in
      let m = went_on met.before.cut met.after.cut met.list step old.epoch (with_tail (a + n) (seen (with_rider new.rider old))) old new refl refl (omega (arith, here)) (accepted_at met.list met.before met.met) (accepted_at (met.list ++ (old.touches ++ step ∷ [])) met.after met.left) (met_view met.list met.before old step met.met (inl answer.0)) (omega arith) (omega arith) met.entered is h in
      subst (λ (x : ℕ). PassMet log (Placed x n ∷ []) old.rider new) (sym place) m
  placed n old new (Err fault) met is h = subst (PassMet log [] old.rider) (sym is) (quiet old new.rider met h)

  -- a lease
  pub leased : (n : ℕ) (old new : PassRecord) (result : Result LeaseRecord Fault) → MakesUnderLock F log (pass_call old (Allocate old.slot n) new.rider) (placed_at result) (λ keeper. MakesTouched keeper old (Allocate old.slot n) (λ A. call_fault keeper A old (Allocate old.slot n)) (λ A. place_of keeper.core.sizes.page_size (tail keeper.core.sizes (A ++ old.touches)) n))
      → (let pass = with_rider new.rider old in MatchResult result (λ lease. new ≡ with_held pass.epoch (with_tail lease.end (seen pass)) pass) (λ _. new ≡ pass)) → IfOk result (λ lease. lease.end ≡ lease.next + n) → PassTraces log.sizes old → PassMet log (if_ok (λ lease. Placed lease.next n ∷ []) result) old.rider new
  leased n old new (Ok lease) met is piece h =
      placed n old new (Ok lease.next) met (subst (λ (e : ℕ). new ≡ with_held old.epoch (with_tail e (seen (with_rider new.rider old))) (with_rider new.rider old)) piece is) h
  leased n old new (Err fault) met is piece h = placed n old new (Err fault) met is h

  -- a release that was accepted
  pub released : (p : PassRecord) (new : RiderState) → MakesUnderLock F log (pass_call p (Release p.slot) new) (Ok new) (λ keeper. MakesTouched keeper p (Release p.slot) (λ A. call_fault keeper A p (Release p.slot)) (λ A. new)) → PassTraces log.sizes p → (n : ℕ) × RiderDoes log.sizes (Met n ∷ []) p.rider new
  released p new met h =
      let n = length met.list + length (p.touches ++ Release p.slot ∷ []) in
      let answer = unless_ok (call_fault met.before met.list p (Release p.slot)) new new (met.holds.0 met.list met.met.stands).reply in
      (n, subst (RiderDoes log.sizes (Met n ∷ []) p.rider) (sym met.entered) (releases log.sizes met.before.cut met.after.cut met.list p (accepted_at met.list met.before met.met) (met_view met.list met.before p (Release p.slot) met.met (inl answer.0)) h))

  -- a pass that left its slot, and a pass that its rider entered then
  pub rested : (old : RiderState) (mid : PassRecord) (rider : RiderState) (new : PassRecord) → PassMeets log old mid → MakesUnderLock F log (pass_call mid (Release mid.slot) rider) (Ok rider) (λ keeper. MakesTouched keeper mid (Release mid.slot) (λ A. call_fault keeper A mid (Release mid.slot)) (λ A. rider))
      → (RiderTraces log.sizes rider → PassMeets log rider new) → PassMeets log old new
  rested old mid rider new one met back =
      let left = released mid rider met one.2.0 in
      let two = back left.1.0 in (
        two.0 ++ (Met left.0 ∷ one.0),
        met_both two.0 (Met left.0 ∷ one.0) two.1 ((left.0, refl), one.1),
        (two.2.0, two.2.1 ∙ ap (λ (l : List Act). two.0 ++ l) (left.1.1 ∙ ap (λ (l : List Act). Met left.0 ∷ l) one.2.1) ∙ sym (append_assoc two.0 (Met left.0 ∷ one.0) (trace log.sizes old))),
      )

  -- tries to enter that were refused, each followed by a cut if one was due, and then one that wasn't
  module _ (cuts : Cuts) where
    tried : (n : ℕ) (old new : RiderState) → Followed (EntersNext F log cuts) n old new → RiderTraces log.sizes old → RiderMeets log old new
    tried zero old new same h = none_done old new same h
    tried (suc n) old new (mid, before, (fault, refused_one, met, cut)) h =
        then_done old mid new (tried n old mid before h)
        (λ m. then_done mid refused_one new (one_done mid refused_one (rider_stays mid refused_one met m)) (λ l. rider_due cuts refused_one new cut l))

    pub reentered : (rider : RiderState) (pass : PassRecord) → Reenters F log cuts rider pass → RiderTraces log.sizes rider → PassMeets log rider pass
    reentered rider pass r h =
        let one = tried r.refused rider r.last r.before h in
        let two = entered r.last pass r.entered one.2.0 in
        (Met two.0 ∷ one.0, ((two.0, refl), one.1), (two.1.0, two.1.1 ∙ ap (λ (l : List Act). Met two.0 ∷ l) one.2.1))

-- what a pass does without the lock
module _ (sizes : Sizes) (old new : PassRecord) where
  loads_safe : LoadsSafe old new → PassTraces sizes old → PassDoes sizes [] old.rider new
  loads_safe l h = subst (PassDoes sizes [] old.rider) (sym l.pass) (safe_looks sizes _ old h)

  same_pass : new ≡ old → PassTraces sizes old → PassDoes sizes [] old.rider new
  same_pass same h = subst (PassDoes sizes [] old.rider) (sym same) (h, refl)

  pub in_region : (a : ℕ) (region : Region) → IsRegion old new a region → PassTraces sizes old → PassDoes sizes [] old.rider new
  in_region a Evicted (below, same) h = same_pass same h
  in_region a Mutable (head, read_only, below, same) h = same_pass same h
  in_region a Fuzzy (head, read_only, below, safe, loads) h = loads_safe loads h
  in_region a ReadOnly (head, read_only, below, safe, loads) h = loads_safe loads h

  -- whatever a region's answer is
  pub regioned : (a : ℕ) (result : Result Region Fault) → IfOk result (λ region. IsRegion old new a region) → IfErr result (λ fault. (fault ≡ Beyond (seen old).tail) × ((seen old).head ≤ a) × ((seen old).tail ≤ a) × (new ≡ old)) → PassTraces sizes old → PassDoes sizes [] old.rider new
  regioned a (Ok region) is none h = in_region a region is h
  regioned a (Err fault) none is h = same_pass is.3 h

  pub looked_at : (read_only head : ℕ) → new ≡ unless_refused (touch_fault old) old (with_look read_only head old) → PassTraces sizes old → PassDoes sizes [] old.rider new
  looked_at read_only head is h = subst (PassDoes sizes [] old.rider) (sym is) (by (touch_fault old))
    where
      by : (o : Option Fault) → PassDoes sizes [] old.rider (unless_refused o old (with_look read_only head old))
      by None = looks sizes read_only head old h
      by (Some fault) = (h, refl)

  pub stored_at : (a v : ℕ) (result : Result (Unit {0}) Fault) → result ≡ unless_fault (store_fault old a) tt → new ≡ unless_refused (store_fault old a) old (with_store sizes a v old) → PassTraces sizes old → PassDoes sizes (if_ok (λ _. Stored a v ∷ []) result) old.rider new
  stored_at a v result answer is h = subst (PassDoes sizes (if_ok (λ _. Stored a v ∷ []) result) old.rider) (sym is) (by (store_fault old a) refl result answer)
    where
      by : (o : Option Fault) → store_fault old a ≡ o → (r : Result (Unit {0}) Fault) → r ≡ unless_fault o tt → PassDoes sizes (if_ok (λ _. Stored a v ∷ []) r) old.rider (unless_refused o old (with_store sizes a v old))
      by None e r is = subst (λ (q : Result (Unit {0}) Fault). PassDoes sizes (if_ok (λ _. Stored a v ∷ []) q) old.rider (with_store sizes a v old)) (sym is) (stores sizes a v old e h)
      by (Some fault) e r is = subst (λ (q : Result (Unit {0}) Fault). PassDoes sizes (if_ok (λ _. Stored a v ∷ []) q) old.rider old) (sym is) (h, refl)

  pub loaded_at : (a : ℕ) (result : Result ℕ Fault) → MatchResult result (λ _. load_fault old a ≡ None) (λ fault. load_fault old a ≡ Some fault) → MatchResult result (λ v. new ≡ with_load sizes a v old) (λ _. new ≡ old) → PassTraces sizes old → PassDoes sizes (if_ok (λ v. Loaded a v ∷ []) result) old.rider new
  loaded_at a (Ok v) free is h = subst (PassDoes sizes (Loaded a v ∷ []) old.rider) (sym is) (loads sizes a v old free h)
  loaded_at a (Err fault) free is h = same_pass is h

  pub changed_at : (a : ℕ) (value : ℕ → ℕ) (result : Result ℕ Fault) → MatchResult result (λ _. store_fault old a ≡ None) (λ fault. store_fault old a ≡ Some fault) → MatchResult result (λ found. new ≡ with_change sizes a found (value found) old) (λ _. new ≡ old) → PassTraces sizes old
      → PassDoes sizes (if_ok (λ found. Changed a found (value found) ∷ []) result) old.rider new
  changed_at a value (Ok found) free is h = subst (PassDoes sizes (Changed a found (value found) ∷ []) old.rider) (sym is) (changes sizes a found (value found) old free h)
  changed_at a value (Err fault) free is h = same_pass is h

  pub exchanged_at : (a other : ℕ) (result : Result (Result ℕ ℕ) Fault) → MatchResult result (λ _. store_fault old a ≡ None) (λ fault. store_fault old a ≡ Some fault)
      → MatchResult result (λ swap. MatchResult swap (λ found. new ≡ with_change sizes a found other old) (λ found. new ≡ with_load sizes a found old)) (λ _. new ≡ old) → PassTraces sizes old → PassDoes sizes (if_ok (exchanged a other) result) old.rider new
  exchanged_at a other (Ok (Ok found)) free is h = subst (PassDoes sizes (Changed a found other ∷ []) old.rider) (sym is) (changes sizes a found other old free h)
  exchanged_at a other (Ok (Err found)) free is h = subst (PassDoes sizes (Loaded a found ∷ []) old.rider) (sym is) (compares sizes a found old free h)
  exchanged_at a other (Err fault) free is h = same_pass is h

-- some calls of a session, and then others
pub meets_then : (a b c : SessionState) → OnlyMeets a b → OnlyMeets b c → OnlyMeets a c
meets_then a b c one two = (two.0 ++ one.0, met_both two.0 one.0 two.1 one.1, two.2 ∙ ap (λ (l : List Act). two.0 ++ l) one.2 ∙ sym (append_assoc two.0 one.0 (acts a)))

-- one call
pub meets_one : (a b : SessionState) → Meets [] a b → OnlyMeets a b
meets_one a b m = (Met m.0 ∷ [], ((m.0, refl), tt), m.1)

-- none
pub meets_none : (a b : SessionState) → acts b ≡ acts a → OnlyMeets a b
meets_none a b same = ([], tt, same)

-- a session that was current, or made one call
pub meets_up : (old new : SessionState) → KeepsUpBy old new → OnlyMeets old new
meets_up old new h = by (stays_current old.pass new.pass) refl
  where
    by : (b : Bool) → stays_current old.pass new.pass ≡ b → OnlyMeets old new
    by true e = meets_none old new (h.0 e)
    by false e = meets_one old new (h.1 e)

-- a session that is another but for its rider, and some calls later, was left so
pub leaves_calls : (a b : SessionState) (result : Result RiderState (Refused SessionState)) → KeepsAllButRider a b → OnlyMeets a b → LeavesBy b result → LeavesByCalls a result
leaves_calls a b (Ok rider) kept one left =
    let log = ap (λ (s : SessionState). s.log) kept in
    let d = subst (λ (l : DomainState). RiderTraces l.sizes rider × (trace l.sizes rider ≡ Met left.0 ∷ acts b)) log left.1 in
    (Met left.0 ∷ one.0, ((left.0, refl), one.1), (d.0, d.1 ∙ ap (λ (l : List Act). Met left.0 ∷ l) one.2))
leaves_calls a b (Err refused_one) kept one left = meets_then a b refused_one.back one (meets_one b refused_one.back left)
