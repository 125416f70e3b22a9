-- What the calls of a page's flush make of their rider.
use Rattle.std.proofs.Common.{◌≡◌, ℕ, Bool, true, false, IsTrue, List, [], ◌∷◌, length, Some, None, ap, sym, subst}
use Rattle.std.specs.Prelude.{Result, Ok, Err, Option, unwrap_or, OnOk}
use Rattle.hl_model.specs.declared.fault.Fault.{Fault}
use Rattle.hl_model.specs.declared.fault.Fault.TheVariants.{NoneSealed}
use Rattle.hl_model.specs.declared.step.Step.{Step}
use Rattle.hl_model.specs.declared.step.Step.TheVariants.{FlushTake, FlushDone}
use Rattle.hl_model.specs.Pages.{next_to_flush}
use Rattle.hl_model.specs.Replies.{or_fault, unless_fault, unless_page}
use Rattle.hl_model.specs.Sizes.{Sizes}
use Rattle.hl_words.specs.declared.view.Known.{Known}
use Rattle.hl_words.specs.States.{RiderState, with_view}
use Rattle.hl_words.specs.Views.{past_of, told}
use Rattle.hl_keeper.specs.declared.load.PageJob.{PageJob}
use Rattle.hl_keeper.specs.Keepers.{KeeperState}
use Rattle.hl_keeper.specs.Calls.{Makes, step_fault, room_fault, without_back}
use Rattle.hl_keeper.specs.Pages.{first_cell, loaded_all, to_flush}
use Rattle.hl_domain.specs.Domains.{DomainState, LeavesUnderLock, MakesUnderLock, answered, call_of, with_entry}
use Rattle.hl_images.specs.Flushes.{HasCopied, HasFlushed, TakenIsCopied, AnsweredIsFlushed}
use Rattle.hl_images.specs.Later.{IsLater}
use Rattle.hl_images.specs.Pairs.{HasTaken, HasCopiedTold, HaveFlushed}
use Rattle.hl_images.proofs.LaterLaws.{same}

-- the page that an accepted take names
named : (room : Option Fault) (next : Option ℕ) (stamp : ℕ) (load : PageJob) → Ok load ≡ unless_fault (or_fault room (unless_page NoneSealed next)) (record { stamp = stamp; page = unwrap_or next 0 }) → next ≡ Some load.page
named None (Some p) stamp load e = let is : load ≡ record { stamp = stamp; page = p } = cc e in ap (λ (j : PageJob). Some j.page) (sym is)
named None None stamp load e = absurd cc
named (Some f) next stamp load e = absurd cc

-- what a take tells
abbrev Takes : (F : Type 0) → DomainState → RiderState → RiderState → Result PageJob Fault → Type 0
Takes F domain old mid taken = MakesUnderLock F domain (call_of FlushTake old mid) taken (λ keeper. Makes keeper FlushTake (λ A. to_flush keeper.core.sizes keeper.stamp A))

-- the rider of an accepted take has taken the page
pub taken : {F : Type 0} {domain : DomainState} (old mid : RiderState) (load : PageJob) → Takes F domain old mid (Ok load) → (list : List Step) × HasTaken domain.sizes load.page list mid
unfolding step_fault
taken {domain} old mid load t =
    let r = (t.holds.0 t.list t.met.stands).reply in
    let next = named (room_fault t.before 1) (next_to_flush t.before.core.sizes t.list) t.before.stamp load r in
    let entered : mid ≡ with_entry t.before.cut t.after.cut t.list (FlushTake ∷ []) old = t.entered in (
      t.list,
      record {
        taken = subst (λ (z : Sizes). next_to_flush z t.list ≡ Some load.page) t.met.sizes_are next;
        before = old;
        was = t.before.cut;
        now = t.after.cut;
        take = subst (λ (q : RiderState). IsLater q mid) entered (same mid);
      },
    )

-- and it has copied it once it loaded its words
pub copied : {F : Type 0} {domain : DomainState} (old mid : RiderState) (load : PageJob) (image : List ℕ) (new : RiderState) → Takes F domain old mid (Ok load) → length image ≡ domain.sizes.page_size
    → new ≡ with_view (loaded_all (first_cell domain.sizes load.page) image mid.view) mid → (list : List Step) × HasCopied domain.sizes load.page image list new
copied old mid load image new t places e =
    let h = taken old mid load t in (
      h.0,
      record {
        taken = h.1.taken;
        places = places;
        before = h.1.before;
        was = h.1.was;
        now = h.1.now;
        copying = mid;
        take = h.1.take;
        copy = subst (λ (q : RiderState). IsLater q new) e (same new);
      },
    )

-- a copier that was told a past
pub copied_told : (sizes : Sizes) (page : ℕ) (image : List ℕ) (past : Known) (old new : RiderState) → length image ≡ sizes.page_size → new ≡ with_view (loaded_all (first_cell sizes page) image (told past old.view)) old
    → HasCopiedTold sizes page image past new
copied_told sizes page image past old new places e = record {
  places = places;
  asked = old;
  copying = with_view (told past old.view) old;
  tell = same (with_view (told past old.view) old);
  copy = subst (λ (q : RiderState). IsLater q new) e (same new);
}

pub taken_is_copied : (F : Type 0) → TakenIsCopied F
taken_is_copied F domain old mid new load image t places e = copied old mid load image new t places e

pub answered_is_flushed : AnsweredIsFlushed
answered_is_flushed sizes page had has image list later old new h entered =
    record {
      list = list;
      later = later;
      answering = old;
      had = had;
      has = has;
      copied = h;
      done = subst (λ (q : RiderState). IsLater q new) entered (same new);
    }

-- an accepted answer of a page that was copied
pub flushed : {F X Y : Type 0} {domain : DomainState} {Holds : KeeperState F → KeeperState F → Type 0} (sizes : Sizes) (page : ℕ) (written : Bool) (old new : RiderState) (result : Result X (Fault × Y))
    → LeavesUnderLock F domain (answered (without_back result) (call_of (FlushDone page written) old new)) Holds → (image : List ℕ) (list : List Step) → HasCopied sizes page image list old → IsTrue written → OnOk result (HasFlushed sizes page image new)
flushed sizes page true old new (Ok x) m image list h t = answered_is_flushed sizes page m.before.cut m.after.cut image list m.list old new h m.entered
flushed sizes page false old new (Ok x) m image list h t = absurd (cc t)
flushed sizes page written old new (Err e) m image list h t = tt

-- an accepted answer of a page that another copied
pub flushed_by_two : {F X Y : Type 0} {domain : DomainState} {Holds : KeeperState F → KeeperState F → Type 0} (sizes : Sizes) (page : ℕ) (written : Bool) (past : Known) (old answering new : RiderState) (result : Result X (Fault × Y)) → answering ≡ with_view (told past old.view) old
    → LeavesUnderLock F domain (answered (without_back result) (call_of (FlushDone page written) answering new)) Holds → (image : List ℕ) (list : List Step) (taking telling copier : RiderState)
    → HasTaken sizes page list taking → IsLater taking old → HasCopiedTold sizes page image (past_of taking.view) telling → past ≡ past_of telling.view → IsLater telling copier → IsTrue written → OnOk result (HaveFlushed sizes page image new copier)
flushed_by_two sizes page true past old answering new (Ok x) e m image list taking telling copier t w c p s i =
    let entered : new ≡ with_entry m.before.cut m.after.cut m.list (FlushDone page true ∷ []) answering = m.entered in
    record {
      list = list;
      later = m.list;
      taking = taking;
      take = t;
      telling = telling;
      copy = c;
      since = s;
      waiting = old;
      wait = w;
      answering = answering;
      tell = subst (λ (k : Known). IsLater (with_view (told k old.view) old) answering) p (subst (λ (q : RiderState). IsLater q answering) e (same answering));
      had = m.before.cut;
      has = m.after.cut;
      done = subst (λ (q : RiderState). IsLater q new) entered (same new);
    }
flushed_by_two sizes page false past old answering new (Ok x) e m image list taking telling copier t w c p s i = absurd (cc i)
flushed_by_two sizes page written past old answering new (Err f) e m image list taking telling copier t w c p s i = tt
