-- The answer to each accepted step, at the base of the list before it and that of the list with it.
use Rattle.std.proofs.Common.{◌≡◌, ℕ, ◌<◌, true, false, cond, List, [], ◌∷◌, ◌++◌, refl, sym, ap, ◌∙◌, arith}
use Rattle.std.specs.Prelude.{Some, None, unwrap_or}
use Rattle.std.proofs.lemmas.Bool.{eq-eqb}
use Rattle.hl_model.specs.declared.action.Kind.{Kind}
use Rattle.hl_model.specs.declared.action.Kind.TheVariants.{User, Settle as Settling, Close as Closing}
use Rattle.hl_model.specs.declared.action.Waiting.{Waiting}
use Rattle.hl_model.specs.declared.step.Reply.TheVariants.{Entered, Ticket, Bumped, Looked, Page}
use Rattle.hl_model.specs.declared.step.Step.{Step}
use Rattle.hl_model.specs.declared.step.Step.TheVariants.{Acquire, Refresh, Release, Bump, Settle, Close, Bare, Take, Done, Raise, Shift, Allocate, Look, Write, Read, FlushTake, FlushDone, CleanTake, CleanDone}
use Rattle.hl_model.specs.Sizes.{Sizes}
use Rattle.hl_model.specs.Epochs.{is_bump, enters, leaves, current_epoch, is_protected, epoch_of}
use Rattle.hl_model.specs.Actions.{bumps, taken, action_at}
use Rattle.hl_model.specs.Views.{view_of}
use Rattle.hl_model.specs.Replies.{fault_of, done_answer, kind_or_job_0, answer_of, IsAccepted}
use Rattle.hl_model.specs.Bases.{base_of, slot_of, slot_in}
use Rattle.hl_model.specs.AfterReplies.{entered_at, looked_at, done_answer_at, answer_at}
use Rattle.hl_laws.proofs.ActionLaws.{bumps-push, current_epoch-bumps}
use Rattle.hl_laws.proofs.CutFaults.{to_flush_in-is, to_clean_in-is}
use Rattle.hl_laws.proofs.CutViews.{slot_in-is}
use Rattle.hl_laws.proofs.DrainLaws.{enters-slot, done_fault-none}
use Rattle.hl_model.proofs.ListLaws.{one_where}
use Rattle.hl_laws.proofs.NoFaultLaws.{protected-none, look-none}
use Rattle.hl_laws.proofs.SettledLaws.{action_at-taken, action_at-done}
use Rattle.hl_laws.proofs.TicketLaws.{of_ticket}
use Rattle.hl_laws.proofs.ViewLaws.{is_protected-push}

-- what a protected slot has
pub slot_of-protected : (sizes : Sizes) (t : ℕ) (A : List Step) → is_protected t A ≡ true → slot_of sizes t A ≡ Some (record { epoch = epoch_of t A; view = view_of sizes t A })
unfolding slot_of
slot_of-protected sizes t A h = ap (λ b. cond b (Some (record { epoch = epoch_of t A; view = view_of sizes t A })) None) h

-- a step by which slot t enters
entered-is : (sizes : Sizes) (A : List Step) (s : Step) (t : ℕ) → enters t s ≡ true → fault_of sizes A s ≡ None → entered_at (slot_in (base_of sizes (A ++ s ∷ [])) t) ≡ Entered (epoch_of t (A ++ s ∷ [])) (view_of sizes t (A ++ s ∷ []))
entered-is sizes A s t e f =
    ap entered_at
    (slot_in-is sizes (A ++ s ∷ []) t (enters-slot sizes A t s e f)
    ∙ slot_of-protected sizes t (A ++ s ∷ []) (is_protected-push t A s ∙ ap (λ b. cond b true (cond (leaves t s) false (is_protected t A))) e))

-- a look
looked-is : (sizes : Sizes) (A : List Step) (t r h : ℕ) → fault_of sizes A (Look t r h) ≡ None → looked_at (slot_in (base_of sizes (A ++ Look t r h ∷ [])) t) ≡ Looked (view_of sizes t (A ++ Look t r h ∷ []))
looked-is sizes A t r h f =
    let seated : (t < sizes.slots) × (is_protected t A ≡ true) = protected-none sizes A t (look-none sizes A t r h f).0 in
    ap looked_at
    (slot_in-is sizes (A ++ Look t r h ∷ []) t seated.0
    ∙ slot_of-protected sizes t (A ++ Look t r h ∷ []) (is_protected-push t A (Look t r h) ∙ seated.1))

-- the number of a bump is the epoch before it
bump_number : (A : List Step) (s : Step) → is_bump s ≡ true → current_epoch A ≡ bumps (A ++ s ∷ [])
bump_number A s h = omega (arith, current_epoch-bumps A, bumps-push A s, one_where (is_bump s) h)

done_kind : (sizes : Sizes) (A : List Step) (k : Kind) → done_answer_at (base_of sizes A) k ≡ done_answer A k
unfolding base_of
done_kind sizes A (User tag) = refl
done_kind sizes A (Settling x) = refl
done_kind sizes A (Closing x) = refl

-- a done
done-is : (sizes : Sizes) (A : List Step) (c : ℕ) → fault_of sizes A (Done c) ≡ None → done_answer_at (base_of sizes (A ++ Done c ∷ [])) (kind_or_job_0 (of_ticket c (taken A))) ≡ done_answer (A ++ Done c ∷ []) (kind_or_job_0 (action_at c (A ++ Done c ∷ [])))
done-is sizes A c f =
    let held : (w : Waiting) × (action_at c A ≡ Some w) × (w.ticket ≡ c) × (of_ticket c (taken A) ≡ Some w) = action_at-taken A c (done_fault-none sizes A c f) in
    done_kind sizes (A ++ Done c ∷ []) (kind_or_job_0 (of_ticket c (taken A)))
    ∙ ap (λ o. done_answer (A ++ Done c ∷ []) (kind_or_job_0 o)) (held.3 ∙ sym (action_at-done c A ∙ held.1))

-- the answer to each accepted step
pub answer_at-is : (sizes : Sizes) (A : List Step) (s : Step) → IsAccepted sizes A → fault_of sizes A s ≡ None → answer_at (base_of sizes A) (base_of sizes (A ++ s ∷ [])) s ≡ answer_of sizes A (A ++ s ∷ []) s
unfolding base_of
answer_at-is sizes A (Acquire t) a f = entered-is sizes A (Acquire t) t (eq-eqb t t refl) f
answer_at-is sizes A (Refresh t) a f = entered-is sizes A (Refresh t) t (eq-eqb t t refl) f
answer_at-is sizes A (Release t) a f = refl
answer_at-is sizes A (Bump tag) a f = ap Ticket (bump_number A (Bump tag) refl)
answer_at-is sizes A Settle a f = ap Ticket (bump_number A Settle refl)
answer_at-is sizes A Close a f = ap Ticket (bump_number A Close refl)
answer_at-is sizes A Bare a f = ap Bumped (bump_number A Bare refl)
answer_at-is sizes A Take a f = refl
answer_at-is sizes A (Done c) a f = done-is sizes A c f
answer_at-is sizes A (Raise x) a f = refl
answer_at-is sizes A (Shift x) a f = refl
answer_at-is sizes A (Allocate t n) a f = refl
answer_at-is sizes A (Look t r h) a f = looked-is sizes A t r h f
answer_at-is sizes A (Write t x v) a f = refl
answer_at-is sizes A (Read t x) a f = refl
answer_at-is sizes A FlushTake a f = ap (λ o. Page (unwrap_or o 0)) (to_flush_in-is sizes A a)
answer_at-is sizes A (FlushDone page ok) a f = refl
answer_at-is sizes A CleanTake a f = ap (λ o. Page (unwrap_or o 0)) (to_clean_in-is sizes A a)
answer_at-is sizes A (CleanDone page) a f = refl
